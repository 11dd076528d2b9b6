-- What is read of the sections is what they spell.
use Rattle.std.proofs.Common.{◌≡◌, List, Result, Ok, Err, sym, subst}
use Rattle.std.specs.Prelude.{IfOk}
use Rattle.causes.specs.declared.NoMemory.{NoMemory}
use Rattle.wasm_bytes.specs.Laws.{IsBytes}
use Rattle.dwarf_info.specs.declared.entry.UnitAnswer.{UnitAnswer}
use Rattle.dwarf_info.specs.Sections.{SectionBytes5}
use Rattle.dwarf_info.specs.Units.{units_of}
use Rattle.dwarf5_info.specs.Version5.{up_to5, units5}
use Rattle.dwarf5_info.specs.calls.Grammar5.{IsUnits5}
use Rattle.dwarf5_info.proofs.UnitLaws5.{units5_spelled}

pub spelled5 : (r : Result (List UnitAnswer) NoMemory) (s : SectionBytes5) → IsBytes s.base.abbreviations → IsBytes s.base.info → IfOk r (λ units. units ≡ units_of s up_to5) → IfOk r (IsUnits5 s)
unfolding units5
spelled5 (Ok units) s abbreviations info e = subst (IsUnits5 s) (sym e) (units5_spelled s abbreviations info)
spelled5 (Err e) s abbreviations info h = tt
