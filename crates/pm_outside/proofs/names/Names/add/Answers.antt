use Rattle.std.proofs.Common.{rules}
use Rattle.pm_outside.proofs.Naming.{pushed, stays, is_in_with_name}
use Rattle.pm_outside.proofs.names.Names.add.Goals as goal

added : goal.returns-in_ok-push-clause-added
added c =
    rw (c.in_ok-push.ensures.items, ← c.self.view_is) (pushed _ _ _ c.in_ok-name.ensures.ok (rw (← c.deref.ensures.value, ← c.is_among.ensures) (search rules)))

kept : goal.returns-else-not-is_among-clause-added
kept c =
    rw (← c.self.view_is) (stays _ _ (rw (← c.deref.ensures.value, ← c.is_among.ensures) (search rules)))

pub returns-in_ok-push-clause-added : goal.returns-in_ok-push-clause-added
returns-in_ok-push-clause-added = added

pub returns-in_ok-push-clause-there : goal.returns-in_ok-push-clause-there
returns-in_ok-push-clause-there c = rw (added c) (is_in_with_name _ _)

pub returns-else-not-is_among-clause-added : goal.returns-else-not-is_among-clause-added
returns-else-not-is_among-clause-added = kept

pub returns-else-not-is_among-clause-there : goal.returns-else-not-is_among-clause-there
returns-else-not-is_among-clause-there c = rw (kept c) (is_in_with_name _ _)
