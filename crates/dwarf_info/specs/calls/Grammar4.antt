-- The bytes that spell units of version 4 (DWARF 4, 7.5.1.1).
use Rattle.std.specs.Prelude.{ℕ, List, map}
use Rattle.wasm_bytes.specs.calls.Spelling.{Spellings, ◌&◌, image}
use Rattle.dwarf_bytes.specs.calls.Spelled.{number}
use Rattle.dwarf_abbrev.specs.calls.Grammar.{abbrevs}
use Rattle.dwarf_info.specs.declared.form.Shape.{Shape}
use Rattle.dwarf_info.specs.declared.entry.UnitAnswer.{UnitAnswer}
use Rattle.dwarf_info.specs.Sections.{SectionBytes, without5}
use Rattle.dwarf_info.specs.Forms.{forms4}
use Rattle.dwarf_info.specs.Version4.{only4, shape_in}
use Rattle.dwarf_info.specs.calls.Grammar.{Grammars, IsUnits}

-- the offset of the abbreviations, and the size of an address, which is 4
abbrev pub header4 : ℕ → Spellings
header4 offset = number 4 offset & number 1 4

abbrev pub shapes4 : List Shape → Spellings
shapes4 = image (map (shape_in forms4)) abbrevs

abbrev pub grammars4 : Grammars
grammars4 = record { versions = only4; header = λ version. header4; shapes = λ version. shapes4 }

abbrev pub IsUnits4 : SectionBytes → List UnitAnswer → Type 0
IsUnits4 s = IsUnits (without5 s) grammars4
