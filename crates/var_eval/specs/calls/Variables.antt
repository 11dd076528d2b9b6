-- The variables that are visible at an address (DWARF 4, 3.3, 3.4 and 4.1).
use Rattle.std.specs.Prelude.{ℕ, List, map}
use Rattle.dwarf_info.specs.declared.entry.UnitAnswer.{UnitAnswer}
use Rattle.dwarf_info.specs.Sections.{SectionBytes5}
use Rattle.dwarf_entries.specs.Standing.{Standing}
use Rattle.dwarf_entries.specs.Origins.{name_or_empty}
use Rattle.dwarf_scopes.specs.Scopes.{variables_at}
use Rattle.var_eval.specs.declared.visibility.Variable.{Variable}

-- one without a name has the empty name
abbrev pub variable_of : List UnitAnswer → Standing → Variable
variable_of units s = record { name = name_or_empty units s.entry.attributes; entry = s.entry.at }

unfoldable pub visible : SectionBytes5 → List UnitAnswer → ℕ → List Variable
visible s units address = map (variable_of units) (variables_at s units address)
