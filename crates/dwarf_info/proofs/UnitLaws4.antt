-- The units of version 4 are exactly those that the bytes of a section spell.
use Rattle.std.proofs.Common.{◌≡◌, ℕ, ◌+◌, ◌-◌, ◌<◌, Bool, true, false, List, length, Some, None, refl, subst, arith}
use Rattle.std.specs.Prelude.{map, ◌==◌, if◌then◌else◌}
use Rattle.std.proofs.lemmas.Bool.{eqb-true}
use Rattle.wasm_bytes.specs.Reading.{◌⊗◌, checked}
use Rattle.wasm_bytes.specs.calls.Spelling.{pair, passing}
use Rattle.wasm_bytes.specs.Laws.{IsBytes, IsExact}
use Rattle.wasm_bytes.proofs.Exact.{image_exact, mapped_exact, then_exact, checked_exact}
use Rattle.dwarf_bytes.specs.Items.{number_item, ended_from, ended_item, read_at}
use Rattle.dwarf_bytes.specs.calls.Spelled.{number}
use Rattle.dwarf_bytes.proofs.Exact.{number_exact}
use Rattle.dwarf_abbrev.specs.Reading.{table_item, abbrevs_item}
use Rattle.dwarf_abbrev.specs.calls.Grammar.{abbrevs}
use Rattle.dwarf_abbrev.proofs.Exact.{abbrevs_exact}
use Rattle.dwarf_info.specs.declared.entry.UnitAnswer.{UnitAnswer}
use Rattle.dwarf_info.specs.Sections.{SectionBytes, without5}
use Rattle.dwarf_info.specs.Forms.{forms4}
use Rattle.dwarf_info.specs.Units.{Version}
use Rattle.dwarf_info.specs.Version4.{shape_in, is_address_size, header4_item, shapes4_item, version4, units4}
use Rattle.dwarf_info.specs.calls.Grammar4.{header4, shapes4, grammars4, IsUnits4}
use Rattle.dwarf_info.proofs.UnitLaws.{IsVersionExact, AreExact}
use Rattle.dwarf_info.proofs.AnswerLaws.{units_spelled, units_once}

header4_exact : IsExact header4 header4_item
unfolding header4_item
header4_exact =
    let sizes = checked_exact is_address_size (number 1) (number_item 1) (number_exact 1) in
    mapped_exact (pair (number 4) (passing is_address_size (number 1))) header4 (λ x. x.0) (λ n. (n, 4)) (number_item 4 ⊗ checked is_address_size (number_item 1))
    (λ n. refl)
    (λ x at bytes i. (i.0, i.1, i.2, subst (λ (n : ℕ). number 1 n (at + length i.0) i.1) (eqb-true x.1 4 i.3.0) i.3.1, i.4))
    (λ n at bytes i. (i.0, i.1, i.2, (refl, i.3), i.4))
    (then_exact (number 4) (passing is_address_size (number 1)) (number_item 4) (checked is_address_size (number_item 1)) (number_exact 4) sizes)

shapes4_exact : IsExact shapes4 shapes4_item
unfolding shapes4_item
shapes4_exact = image_exact abbrevs (map (shape_in forms4)) abbrevs_item abbrevs_exact

-- Past the end of a section no table stands.
pub shapes4_inside : (section : List ℕ) (at : ℕ) → length section < at → read_at shapes4_item section at ≡ None
unfolding shapes4_item abbrevs_item table_item ended_item ended_from
shapes4_inside section at past = let room : length section + 1 - at ≡ 0 = omega (arith, past) in rw room refl

version4_exact : IsVersionExact header4 shapes4 version4
version4_exact = record { header_exact = header4_exact; shapes_exact = shapes4_exact; shapes_inside = shapes4_inside }

only4_is : (b : Bool) (v : Version) → (if b then Some version4 else None) ≡ Some v → version4 ≡ v
only4_is true v e = let some : Some version4 ≡ Some v = e in cc
only4_is false v e = absurd cc

pub grammars4_exact : AreExact grammars4
grammars4_exact version v e = subst (λ (w : Version). IsVersionExact header4 shapes4 w) (only4_is (version == 4) v e) version4_exact

-- The section spells the units that are read, and no others.
pub units4_spelled : (s : SectionBytes) → IsBytes s.abbreviations → IsBytes s.info → IsUnits4 s (units4 s)
unfolding units4
units4_spelled s fits bytes = units_spelled (without5 s) grammars4 grammars4_exact fits bytes

pub units4_once : (s : SectionBytes) → IsBytes s.abbreviations → IsBytes s.info → (us : List UnitAnswer) → IsUnits4 s us → us ≡ units4 s
unfolding units4
units4_once s fits bytes us i = units_once (without5 s) grammars4 grammars4_exact fits bytes us i
