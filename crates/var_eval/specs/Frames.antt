-- A frame as its variables see it.
use Rattle.std.specs.Prelude.{ℕ, List, Option}
use Rattle.dwarf_info.specs.declared.entry.UnitAnswer.{UnitAnswer}
use Rattle.dwarf_info.specs.Sections.{SectionBytes5}
use Rattle.dwarf_expr.specs.View.{View}

pub record Frame : Type 0 where
  pub sections : SectionBytes5
  pub units : List UnitAnswer
  -- of the code where it stands
  pub address : ℕ
  pub view : View
  -- how many operands a call under way has left, where one is
  pub left : Option ℕ

abbrev pub frame_of : SectionBytes5 → List UnitAnswer → ℕ → View → Option ℕ → Frame
frame_of s units address view left = record { sections = s; units = units; address = address; view = view; left = left }
