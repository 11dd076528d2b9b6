use Rattle.std.proofs.Common.{ap, ◌∙◌}
use Rattle.std.specs.Prelude.{is_some}
use Rattle.dwarf_loc.specs.calls.Said.{said_before, chosen_of}
use Rattle.dwarf_scopes.proofs.bases.counts.Goals as goal

pub returns : goal.returns
returns g c =
    c.is_some.ensures ∙ ap is_some (c.chosen.ensures ∙ ap chosen_of (c.behind-said.ensures ∙ ap (said_before c.args.address c.args.base c.args.entry) (c.nothing.ensures 0 0)))
