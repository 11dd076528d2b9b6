use Rattle.std.proofs.Common.{◌≡◌, ◌∙◌, sym, subst}
use Rattle.std.proofs.lemmas.Option.{slice_get_within}
use Rattle.std.specs.Prelude.{Some, None}
use Rattle.wasm_syntax.specs.Module.{IsModule}
use Rattle.dump_match.specs.inner.Stands.{StandIs, CodeIs}
use Rattle.dump_match.proofs.Spots.{no_op, no_height, stands}
use Rattle.dump_match.proofs.stand.stand_of.Goals as goal

pub returns-in_err-op : goal.returns-in_err-op
returns-in_err-op c =
    let whole = subst IsModule (c.parts-parts.ensures.value ∙ c.module.ensures.value) c.parts-parts.ensures.whole in
    subst (λ r. StandIs r c.args.m.now c.args.frame.now) (sym c.from_residual.ensures) (no_op c.args.m.now whole c.module.ensures.valid c.args.frame.now c.in_err-op.ensures)

pub height-requires : goal.height-requires
height-requires c = let h = c.in_ok-op.ensures in (h.0, h.2, slice_get_within h.0.ops c.in_ok-op.op h.1 h.3)

pub returns-in_err-height : goal.returns-in_err-height
returns-in_err-height c =
    let whole = subst IsModule (c.parts-parts.ensures.value ∙ c.module.ensures.value) c.parts-parts.ensures.whole in
    subst (λ r. StandIs r c.args.m.now c.args.frame.now) (sym c.from_residual-in_err-height.ensures) (no_height c.args.m.now whole c.module.ensures.valid c.args.frame.now c.in_ok-op.op c.in_ok-op.ensures c.in_err-height.ensures)

pub returns-in_err-code : goal.returns-in_err-code
returns-in_err-code c =
    let h = c.in_ok-op.ensures in
    let m = c.parts-parts.ensures.value ∙ c.module.ensures.value in
    let k = subst (λ x. CodeIs None x c.args.frame.now.function c.in_ok-op.op) m c.in_err-code.ensures in
    absurd (let z : None ≡ Some h.1.code = k h.0 h.1 h.2 h.3 in cc)

pub returns : goal.returns
returns c =
    let m = c.parts-parts.ensures.value ∙ c.module.ensures.value in
    let whole = subst IsModule m c.parts-parts.ensures.whole in
    stands c.args.m.now whole c.module.ensures.valid c.args.frame.now c.in_ok-op.op c.in_ok-height.height c.in_ok-code.code c.in_ok-op.ensures c.in_ok-height.ensures
    (subst (λ x. CodeIs (Some c.in_ok-code.code) x c.args.frame.now.function c.in_ok-op.op) m c.in_ok-code.ensures)
