use Rattle.std.proofs.Common.{◌≡◌, List, ap, subst, ◌∙◌, arith}
use Rattle.std.specs.Prelude.{IfOk}
use Rattle.wasm_syntax.specs.declared.module.ModuleParts.{ModuleParts}
use Rattle.wasm_syntax.specs.declared.parts.Custom.{Custom}
use Rattle.wasm_bytes.specs.Laws.{IsBytes}
use Rattle.wasm_decode.specs.Names.{names_from}
use Rattle.wasm_decode.proofs.NameSpelled.{are_names, no_others}
use Rattle.wasm_decode.proofs.name_section.function_names.Goals as goal

pub returns : goal.returns
returns c =
    let bytes = c.args.bytes.now in
    let customs = c.args.«module».now.customs in
    let names = c.first_names.result in
    let fits : IsBytes bytes = λ i. omega (arith, c.type_inv.bytes i) in
    let given = subst (λ (l : List Custom). IfOk names (λ x. x ≡ names_from bytes l)) (c.as_slice.ensures ∙ ap (λ (m : ModuleParts). m.customs) c.parts.ensures.value) c.first_names.ensures in
    record {
      exact = given;
      spelled = are_names bytes customs names fits given;
      only = no_others bytes customs names fits given;
    }
