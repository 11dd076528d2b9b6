use Rattle.std.proofs.Common.{◌≡◌, drop}
use Rattle.std.specs.Prelude.{find, filter}
use Rattle.dwarf_entries.specs.Standing.{is_child}
use Rattle.dwarf_entries.specs.Tags.{tag_enumerator}
use Rattle.var_values.specs.Texts.{has_value}
use Rattle.var_values.proofs.texts.enumerator.Given as goal

abbrev pub invariant-loop-entry : goal.invariant-loop-entry
invariant-loop-entry l =
    find (has_value l.size l.value) (filter (is_child l.depth tag_enumerator) l.entries)
    ≡ find (has_value l.size l.value) (filter (is_child l.depth tag_enumerator) (drop l.entry-index l.entries))
