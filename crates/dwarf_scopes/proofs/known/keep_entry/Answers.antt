use Rattle.std.proofs.Common.{Option, sym, subst}
use Rattle.dwarf_loc.specs.declared.said.Said.{Said as SaidOf}
use Rattle.dwarf_scopes.specs.calls.Knowing.{IsSaid}
use Rattle.dwarf_scopes.proofs.known.keep_entry.Goals as goal

pub returns-clause-right : goal.returns-clause-right
returns-clause-right g c = λ section item said is.
    c.keep.ensures section item c.args.address said (subst (λ (o : Option (SaidOf _)). IsSaid section item c.args.address c.args.passed.place o) (sym c.said_from-said.ensures) is)
