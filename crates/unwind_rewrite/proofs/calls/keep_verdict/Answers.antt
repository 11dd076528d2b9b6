use Rattle.rewrite_code.specs.calls.Places.{place}
use Rattle.rewrite_code.proofs.Loads.{when_ok}
use Rattle.unwind_rewrite.proofs.Calling.{entry_guarded}
use Rattle.unwind_rewrite.proofs.calls.keep_verdict.Goals as goal

pub returns : goal.returns
returns c = when_ok (entry_guarded c.args.context.now (place c.args.entry) c.args.height c.args.helper c.kind_at.result c.kind_at-2.result c.kind_at.ensures c.kind_at-2.ensures c.in_ok-guard_entry.ensures.emits c.in_ok-set.ensures c.in_ok-get.ensures) c.basic.result c.basic.ensures
