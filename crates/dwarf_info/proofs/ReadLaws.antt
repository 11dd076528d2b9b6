-- What is read of a section is what it spells.
use Rattle.std.proofs.Common.{◌≡◌, ℕ, List, Option, Result, Ok, Err, sym, ap, subst, ◌∙◌}
use Rattle.std.specs.Prelude.{IfOk, map, flat_map}
use Rattle.causes.specs.declared.NoMemory.{NoMemory}
use Rattle.wasm_bytes.specs.Laws.{IsBytes}
use Rattle.dwarf_info.specs.declared.entry.UnitAnswer.{UnitAnswer}
use Rattle.dwarf_info.specs.declared.places.EntryPlace.{EntryPlace}
use Rattle.dwarf_info.specs.Sections.{SectionBytes, SectionBytes5, without5}
use Rattle.dwarf_info.specs.Units.{entries_in, settled, units_of}
use Rattle.dwarf_info.specs.Version4.{only4, units4}
use Rattle.dwarf_info.specs.calls.Grammar4.{IsUnits4}
use Rattle.dwarf_info.specs.inner.Settling.{meets, answer_by, any_at}
use Rattle.dwarf_info.proofs.SettleLaws.{all_settled}
use Rattle.dwarf_info.proofs.UnitLaws4.{units4_spelled}

-- Units whose references are settled by the places of all entries.
pub settled_units : (places : ℕ → Option EntryPlace) (answers units : List UnitAnswer)
    → ((q : ℕ) → meets places q ≡ any_at q (flat_map entries_in answers)) → units ≡ map (answer_by (meets places)) answers → units ≡ settled answers
settled_units places answers units there settled_by = settled_by ∙ all_settled places answers there

pub exact4 : (r : Result (List UnitAnswer) NoMemory) (s : SectionBytes) (t : SectionBytes5) → t ≡ without5 s → IfOk r (λ units. units ≡ units_of t only4) → IfOk r (λ units. units ≡ units4 s)
unfolding units4
exact4 (Ok units) s t same e = e ∙ ap (λ (x : SectionBytes5). units_of x only4) same
exact4 (Err e) s t same h = tt

pub spelled4 : (r : Result (List UnitAnswer) NoMemory) (s : SectionBytes) → IsBytes s.info → IsBytes s.abbreviations → IfOk r (λ units. units ≡ units4 s) → IfOk r (IsUnits4 s)
spelled4 (Ok units) s info abbreviations e = subst (IsUnits4 s) (sym e) (units4_spelled s abbreviations info)
spelled4 (Err e) s info abbreviations h = tt
