use Rattle.std.proofs.Common.{sym, ◌∙◌}
use Rattle.std.specs.Prelude.{filter, reverse}
use Rattle.dwarf_scopes.specs.inner.Picks.{is_inlined}
use Rattle.dwarf_scopes.proofs.Filters.{last_passes, last_fails}
use Rattle.dwarf_scopes.proofs.scopes.inlined_of.Goals as goal

pub scopes-preserved-in-Continue-1 : goal.scopes-preserved-in-Continue-1
scopes-preserved-in-Continue-1 c =
    last_passes is_inlined c.pop.new.self c.scopes.outer c.scopes.inlined c.push.new.self (reverse (filter is_inlined c.args.scopes)) c.in-Some.scope c.in-Some.ensures.value (sym c.is_inlined.ensures ∙ c.if-is_inlined.true)
    c.in_ok-push.ensures.ok c.scopes.invariant

pub scopes-preserved : goal.scopes-preserved
scopes-preserved c =
    last_fails is_inlined c.pop.new.self c.scopes.outer c.scopes.inlined (reverse (filter is_inlined c.args.scopes)) c.in-Some.scope c.in-Some.ensures.value (sym c.is_inlined.ensures ∙ c.if-is_inlined.false)
    c.scopes.invariant
