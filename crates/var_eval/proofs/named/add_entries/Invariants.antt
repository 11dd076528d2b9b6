use Rattle.std.proofs.Common.{◌≡◌, ℕ, ◌≤◌, List, length}
use Rattle.std.specs.Prelude.{filter, find}
use Rattle.std.specs.Option.{option_or}
use Rattle.dwarf_entries.specs.Standing.{is_child}
use Rattle.dwarf_entries.specs.Tags.{tag_member}
use Rattle.var_eval.specs.inner.Named.{longest_name, first_by, is_called}
use Rattle.var_eval.proofs.named.add_entries.Given as goal

abbrev pub invariant-entries : goal.invariant-entries
invariant-entries l = (q : List ℕ) → length q ≤ longest_name →
    option_or (first_by l.names q) (find (is_called l.units q) (filter (is_child l.depth tag_member) l.left))
    ≡ option_or (first_by l.fn.names q) (find (is_called l.units q) (filter (is_child l.depth tag_member) l.entries))

abbrev pub decreases-entries : goal.decreases-entries
decreases-entries l = length l.left
