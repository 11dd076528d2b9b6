-- Types whose values are scalars of a size.
use Rattle.std.specs.Prelude.{◌≡◌, ℕ, ◌≤◌, true}
use Rattle.dwarf_entries.specs.Standing.{Standing}
use Rattle.dwarf_types.specs.declared.class.Class.{Class}
use Rattle.dwarf_types.specs.declared.class.Class.TheVariants as classes
use Rattle.dwarf_types.specs.Types.{class_at}
use Rattle.dwarf_types.specs.Kinds.{encoding}
use Rattle.var_values.specs.Scalars.{size_suits}

abbrev pub ScalarAs : Class → Standing → ℕ → Type 0
ScalarAs classes.Passed s size = ⊥
ScalarAs classes.Pointing s size = size ≤ 8
ScalarAs classes.Members s size = ⊥
ScalarAs classes.Array s size = ⊥
ScalarAs classes.Enumeration s size = size ≤ 8
ScalarAs classes.Base s size = size_suits (encoding s) size ≡ true
ScalarAs classes.Another s size = ⊥

abbrev pub IsScalar : Standing → ℕ → Type 0
IsScalar s size = ScalarAs (class_at s) s size
