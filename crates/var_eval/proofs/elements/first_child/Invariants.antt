use Rattle.std.proofs.Common.{◌≡◌, drop}
use Rattle.std.specs.Prelude.{find}
use Rattle.dwarf_entries.specs.Standing.{is_child}
use Rattle.var_eval.proofs.elements.first_child.Given as goal

abbrev pub invariant-loop-entry : goal.invariant-loop-entry
invariant-loop-entry l = find (is_child l.depth l.tag) l.entries ≡ find (is_child l.depth l.tag) (drop l.entry-index l.entries)
