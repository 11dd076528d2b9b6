use Rattle.std.proofs.Common.{◌≡◌, ◌+◌, ◌<◌, List, length, refl, sym, ap, subst, ◌∙◌, arith}
use Rattle.std.proofs.lemmas.Option.{slice_get-get_or}
use Rattle.std.specs.Prelude.{Some, slice_get}
use Rattle.wasm_syntax.specs.declared.module.ModuleParts.{ModuleParts as Module}
use Rattle.wasm_syntax.specs.Module.{option_then}
use Rattle.machine_code.specs.declared.code.Code.{Code}
use Rattle.machine_code.specs.inner.Codes.{PreparesUpTo}
use Rattle.machine_code.proofs.ModuleLaws.{none_yet}
use Rattle.machine_code.proofs.whole.prepare_codes.Goals as goal

pub loop-body-init : goal.loop-body-init
loop-body-init c = record { place = refl; so_far = λ p e w. subst (λ (l : List Code). PreparesUpTo p 0 l) (sym c.new-codes.ensures.items) (none_yet p) }

pub loop-body-preserved : goal.loop-body-preserved
loop-body-preserved c =
    let i = c.loop-body.i in
    let xs = c.as_slice-body-items.result.now in
    let lt : c.loop-body.body-index < length c.as_slice-body-items.result.now = c.loop-body-test.true in
    record {
      place = ap (λ n. n + 1) c.loop-body.invariant.place;
      so_far = λ p e w. c.in_ok-push_code.ensures p i w (c.loop-body.invariant.so_far p e w)
          (ap (λ (m : Module). slice_get m.bodies i) e ∙ ap (λ l. slice_get l i) (sym c.as_slice-body-items.ensures) ∙ ap (slice_get xs) c.loop-body.invariant.place ∙ slice_get-get_or xs c.loop-body.body-index c.body-item.result lt ∙ ap Some (sym c.body-item.is))
          (c.type_of.ensures ∙ ap (λ (m : Module). option_then (slice_get m.functions i) (slice_get m.types)) (sym e));
    }

pub returns : goal.returns
returns c = λ p e w.
    let at_end : c.loop-body.body-index ≡ length c.as_slice-body-items.result.now = omega arith in
    subst (λ n. PreparesUpTo p n c.loop-body.codes.items) (c.loop-body.invariant.place ∙ at_end ∙ ap length c.as_slice-body-items.ensures) (c.loop-body.invariant.so_far p e w)
