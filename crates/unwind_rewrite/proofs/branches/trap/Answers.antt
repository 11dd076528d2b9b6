use Rattle.rewrite_code.proofs.Loads.{when_ok}
use Rattle.unwind_rewrite.proofs.Branching.{trapped}
use Rattle.unwind_rewrite.proofs.branches.trap.Goals as goal

pub returns : goal.returns
returns c = λ p go.
    when_ok (trapped c.args.context.now c.args.site.now.labels c.args.site.now.places.now c.args.site.now.offset p go c.in_ok-guard_unreachable.ensures.emits c.in_ok-open_if.ensures.one_arm c.in_ok-const_value.ensures c.in_ok-unwind_kind.ensures c.in_ok-close.ensures) c.unreachable.result c.unreachable.ensures
