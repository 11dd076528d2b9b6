use Rattle.std.proofs.Common.{◌++◌, ap, sym, ◌∙◌, arith, append-nil, take_all}
use Rattle.wasm_syntax.specs.Module.{declared_locals}
use Rattle.operand_spill.proofs.Groups.{group_step}
use Rattle.operand_spill.proofs.locals.local_types.Goals as goal

pub loop-group-init : goal.loop-group-init
loop-group-init c = c.in_ok-types.ensures ∙ sym (append-nil c.args.params.now)

pub loop-group-preserved : goal.loop-group-preserved
loop-group-preserved c =
    group_step c.args.params.now c.loop-group.types _ c.args.groups.now c.loop-group.group-index _ (omega (arith, c.loop-group-test.true)) c.loop-group.invariant c.in_ok-push_group.ensures

pub returns : goal.returns
returns c = c.loop-group.invariant ∙ ap (λ g. c.args.params.now ++ declared_locals g) (take_all c.loop-group.group-index c.args.groups.now (omega (arith, c.loop-group-test.false)))
