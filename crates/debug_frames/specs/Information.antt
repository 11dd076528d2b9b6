-- What the bytes of a module say of its source.
use Rattle.std.specs.Prelude.{ℕ, List}
use Rattle.wasm_syntax.specs.declared.parts.Custom.{Custom}
use Rattle.wasm_decode.specs.Names.{Named, names_from}
use Rattle.dwarf_info.specs.declared.entry.UnitAnswer.{UnitAnswer}
use Rattle.dwarf_info.specs.Sections.{SectionBytes5}
use Rattle.dwarf5_info.specs.Version5.{units5}
use Rattle.debug_frames.specs.Sections.{sections_of}

-- sections of debugging information, the units of versions 4 and 5 in them, and names of functions
pub record SourceInformation : Type 0 where
  pub sections : SectionBytes5
  pub units : List UnitAnswer
  pub names : List Named

-- what sections of debugging information say, beside names of functions
abbrev pub said : SectionBytes5 → List Named → SourceInformation
said s names = record { sections = s; units = units5 s; names = names }

-- by its custom sections
unfoldable pub information : List ℕ → List Custom → SourceInformation
information bytes customs = said (sections_of bytes customs) (names_from bytes customs)
