use Rattle.std.proofs.Common.{ap, sym, ◌∙◌, ◌≡◌, ◌≤◌, suc, ◌+◌, length, slice_get, arith}
use Rattle.wasm_syntax.specs.declared.module.ModuleParts.{ModuleParts}
use Rattle.unwind_rewrite.proofs.JumpLaws.{no_type, no_index, empty, called_through, helper_is}
use Rattle.unwind_rewrite.proofs.jumps.write_call_indirect.Goals as goal

pub returns-in_default : goal.returns-in_default
returns-in_default c = λ p.
    no_type c.args.context.now p c.args.offset c.args.index c.args.walk.now (ap (λ (m : ModuleParts). slice_get m.types c.args.index) (sym c.requires.source) ∙ sym c.in_default.ensures.value)

pub returns-then-len-eq0 : goal.returns-then-len-eq0
returns-then-len-eq0 c = λ p. no_index c.args.context.now p c.args.offset c.args.index c.args.walk.now (empty c.args.walk.now.places (ap length (sym c.places.ensures) ∙ sym c.len.ensures ∙ c.if-len-eq0.true))

pub returns : goal.returns
returns c = λ p.
    let count : length c.as_slice.result.now + 1 ≡ suc (length c.in-Some.ftype.now.params) = omega (arith, ap length c.as_slice.ensures) in
    let some : 1 ≤ length c.args.walk.now.places = omega (arith, c.if-len-eq0.false, c.len.ensures, ap length c.places.ensures) in
    called_through c.args.context.now p c.args.offset c.args.index c.in-Some.ftype.now c.args.walk.now c.perform.new.self c.places-2.result.now c.depth-labels.result (length c.as_slice.result.now + 1) c.result_type.result c.places-2.ensures some
    c.depth-labels.ensures (ap (λ (m : ModuleParts). slice_get m.types c.args.index) (sym c.requires.source) ∙ sym c.in-Some.ensures.value) count c.result_type.ensures c.in_ok-perform.ensures
    (λ e below is. c.in_ok-call_through_table.ensures e below (helper_is c.args.context.now c.map.result.now c.args.index c.helper-helper.result c.requires.helpers c.map.ensures c.helper-helper.ensures.flat) is)
