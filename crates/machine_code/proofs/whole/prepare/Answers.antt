use Rattle.std.proofs.Common.{◌≡◌, List, map, length, get_or, sym, ap, subst, ◌∙◌}
use Rattle.wasm_syntax.specs.declared.module.ModuleParts.{ModuleParts as Module}
use Rattle.wasm_syntax.specs.declared.parts.FuncType.{FuncType}
use Rattle.wasm_syntax.specs.Module.{function_types}
use Rattle.machine_code.specs.inner.Numbers.{AllNumbered}
use Rattle.machine_code.specs.inner.Codes.{PreparesUpTo}
use Rattle.machine_code.proofs.ModuleLaws.{numbered, all_codes}
use Rattle.machine_code.proofs.whole.prepare.Goals as goal

pub returns : goal.returns
returns c = λ p e w.
    let q : c.parts-lists.result.now ≡ p.module_ = c.parts-lists.ensures.value ∙ sym e in
    let numbers = c.in_ok-of_types.of_types in
    record {
      codes = all_codes p c.in_ok-codes.codes.items (subst (λ n. PreparesUpTo p n c.in_ok-codes.codes.items) (ap (λ (m : Module). length m.bodies) q) (c.in_ok-codes.ensures p (sym q) w));
      imports = c.len.ensures ∙ ap (λ (m : Module). length m.imports) q;
      numbers = numbered p.module_ numbers c.in_ok-of_functions.of_functions
          (subst (λ (ts : List FuncType). AllNumbered ts numbers) (c.as_slice.ensures ∙ ap (λ (m : Module). m.types) q) c.in_ok-of_types.ensures)
          (c.in_ok-of_functions.ensures ∙ ap (λ (m : Module). map (λ t. get_or numbers t 0) (function_types m)) q);
    }
