use Rattle.std.proofs.Common.{rules, ◌≡◌, List, sym, ap, subst, ◌∙◌}
use Rattle.wasm_syntax.specs.declared.instruction.Op.{Op}
use Rattle.wasm_syntax.specs.Tree.{Writes}
use Rattle.operand_spill.specs.calls.Before.{known_among}
use Rattle.operand_spill.proofs.Least.{places_from}
use Rattle.operand_spill.proofs.slots.SlotPlan.known.Goals as goal

pub returns-in-Some : goal.returns-in-Some
returns-in-Some c = λ p body tree ftype w same at is.
    let found = places_from c.args.source.now c.parts-parts.result.now p c.args.func c.args.op body c.body_at-body.result.now tree ftype c.args.self.now c.in_ok-found.found same (c.parts-parts.ensures.value ∙ c.module.ensures.value) w at c.body_at-body.ensures is
    (λ C targets t l s writes.
    let locals : C.locals ≡ c.as_slice-locals.result.now = search rules in
    let ops : c.as_slice-ops.result.now ≡ c.body_at-body.result.now.ops = search rules in
    c.in_ok-found.ensures C targets t locals s (subst (λ (z : List Op). Writes targets z t) (sym ops) writes)) in
    c.constant_at.ensures ∙ ap (λ o. known_among o c.args.from_bottom) (sym c.in-Some.is ∙ found)

pub returns-in-None : goal.returns-in-None
returns-in-None c = λ p body tree ftype w same at is.
    let found = places_from c.args.source.now c.parts-parts.result.now p c.args.func c.args.op body c.body_at-body.result.now tree ftype c.args.self.now c.in_ok-found.found same (c.parts-parts.ensures.value ∙ c.module.ensures.value) w at c.body_at-body.ensures is
    (λ C targets t l s writes.
    let locals : C.locals ≡ c.as_slice-locals.result.now = search rules in
    let ops : c.as_slice-ops.result.now ≡ c.body_at-body.result.now.ops = search rules in
    c.in_ok-found.ensures C targets t locals s (subst (λ (z : List Op). Writes targets z t) (sym ops) writes)) in
    ap (λ o. known_among o c.args.from_bottom) (sym c.in-None.is ∙ found)
