-- The sections spell one list of units.
use Rattle.std.proofs.Common.{◌≡◌, List, sym, ◌∙◌}
use Rattle.wasm_bytes.specs.Laws.{IsBytes}
use Rattle.dwarf_info.specs.declared.entry.UnitAnswer.{UnitAnswer}
use Rattle.dwarf_info.specs.Sections.{SectionBytes, SectionBytes5}
use Rattle.dwarf_info.specs.Version4.{units4}
use Rattle.dwarf_info.specs.calls.Grammar4.{IsUnits4}
use Rattle.dwarf_info.proofs.UnitLaws4.{units4_spelled, units4_once}
use Rattle.dwarf5_info.specs.Version5.{units5}
use Rattle.dwarf5_info.specs.calls.Grammar5.{IsUnits5}
use Rattle.dwarf5_info.proofs.UnitLaws5.{units5_spelled, units5_once}

pub some_units : (s : SectionBytes) → IsBytes s.abbreviations → IsBytes s.info → (units : List UnitAnswer) × IsUnits4 s units
some_units s fits bytes = (units4 s, units4_spelled s fits bytes)

pub one_list : (s : SectionBytes) (us vs : List UnitAnswer) → IsBytes s.abbreviations → IsBytes s.info → IsUnits4 s us → IsUnits4 s vs → us ≡ vs
one_list s us vs fits bytes i j = units4_once s fits bytes us i ∙ sym (units4_once s fits bytes vs j)

pub some_units5 : (s : SectionBytes5) → IsBytes s.base.abbreviations → IsBytes s.base.info → (units : List UnitAnswer) × IsUnits5 s units
some_units5 s fits bytes = (units5 s, units5_spelled s fits bytes)

pub one_list5 : (s : SectionBytes5) (us vs : List UnitAnswer) → IsBytes s.base.abbreviations → IsBytes s.base.info → IsUnits5 s us → IsUnits5 s vs → us ≡ vs
one_list5 s us vs fits bytes i j = units5_once s fits bytes us i ∙ sym (units5_once s fits bytes vs j)
