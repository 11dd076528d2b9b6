-- What is known of the types of a module, and of names in it.
use Rattle.std.specs.Prelude.{List}
use Rattle.dwarf_info.specs.Sections.{SectionBytes5}
use Rattle.dwarf_info.specs.declared.entry.UnitAnswer.{UnitAnswer}
use Rattle.dwarf_types.specs.calls.Known.{AreKnown}
use Rattle.dwarf_types.specs.calls.Contents.{AreContents}
use Rattle.var_eval.specs.calls.Names.{AreNames}
use Rattle.debugger.specs.declared.known_types.KnownTypes.{KnownTypes}
use Rattle.debugger.specs.declared.known_types.Kept.{Kept}

-- it is of these units
pub record AreTypes (units : List UnitAnswer) (types : KnownTypes) : Type 0 where
  pub arrays : AreKnown units types.arrays
  pub structures : AreContents units types.structures

-- both are of these units
pub record AreKept (s : SectionBytes5) (units : List UnitAnswer) (kept : Kept) : Type 0 where
  pub types : AreTypes units kept.types
  pub names : AreNames s units kept.names
