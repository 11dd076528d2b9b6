use Rattle.std.proofs.Common.{◌≡◌, length}
use Rattle.std.specs.Prelude.{◌&&◌, find}
use Rattle.dwarf_entries.specs.Standing.{standing_in, is_child}
use Rattle.var_values.specs.Variants.{tag_variant, first_variant}
use Rattle.var_values.specs.inner.Passing.{passes}
use Rattle.var_values.proofs.variants.first_variant.Given as goal

abbrev pub invariant-entries : goal.invariant-entries
invariant-entries l = first_variant (passes l.wanted) l.part ≡ find (λ v. is_child l.part.entry.depth tag_variant v.entry && passes l.wanted v.entry) (standing_in l.part.unit l.left)

abbrev pub decreases-entries : goal.decreases-entries
decreases-entries l = length l.left
