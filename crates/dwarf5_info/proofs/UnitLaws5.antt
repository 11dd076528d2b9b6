-- The units of versions 4 and 5 are exactly those that the bytes of a section spell.
use Rattle.std.proofs.Common.{◌≡◌, ℕ, ◌+◌, ◌-◌, ◌<◌, Bool, true, false, List, length, Some, None, refl, sym, subst, arith}
use Rattle.std.specs.Prelude.{◌==◌, if◌then◌else◌}
use Rattle.std.proofs.lemmas.Bool.{eqb-true}
use Rattle.wasm_bytes.specs.Reading.{◌⊗◌, mapped, checked, done_item, s64_item}
use Rattle.wasm_bytes.specs.calls.Spelling.{image, passing, s64}
use Rattle.wasm_bytes.specs.calls.Spelling.{pair as both}
use Rattle.wasm_bytes.specs.Laws.{IsBytes, IsExact}
use Rattle.wasm_bytes.proofs.Exact.{same_exact, image_exact, then_exact, checked_exact, done_exact}
use Rattle.wasm_bytes.proofs.ExactItems.{s64_exact}
use Rattle.dwarf_bytes.specs.Items.{number_item, ended_from, ended_item, read_at}
use Rattle.dwarf_bytes.specs.calls.Spelled.{number}
use Rattle.dwarf_bytes.proofs.Exact.{number_exact}
use Rattle.dwarf_abbrev.specs.declared.abbrev.Pair.{Pair}
use Rattle.dwarf_abbrev.specs.Reading.{pair_item, table_item}
use Rattle.dwarf_abbrev.specs.calls.Grammar.{pair}
use Rattle.dwarf_abbrev.proofs.Exact.{pair_takes, pair_exact, table_exact}
use Rattle.dwarf_info.specs.declared.entry.UnitAnswer.{UnitAnswer}
use Rattle.dwarf_info.specs.Sections.{SectionBytes5}
use Rattle.dwarf_info.specs.Units.{Version}
use Rattle.dwarf_info.specs.Version4.{is_address_size, slot_of, only4}
use Rattle.dwarf_info.proofs.UnitLaws.{IsVersionExact, AreExact}
use Rattle.dwarf_info.proofs.AnswerLaws.{units_spelled, units_once}
use Rattle.dwarf_info.proofs.UnitLaws4.{grammars4_exact}
use Rattle.dwarf5_info.specs.Forms5.{forms5}
use Rattle.dwarf5_info.specs.Version5.{is_unit_type, header5_item, is_implicit, implicit_slot, slot5_item, shape5, shapes5_item, version5, units5}
use Rattle.dwarf5_info.specs.calls.Grammar5.{header5, slot_if, slot5, shapes5, header_if, shapes_if, grammars5, IsUnits5}

-- ---- headers

-- the type of the unit, the size of an address and the offset of the abbreviations
abbrev fields : ℕ × (ℕ × ℕ) → ℕ → List ℕ → Type 0
fields = both (passing is_unit_type (number 1)) (both (passing is_address_size (number 1)) (number 4))

header5_made : (offset at : ℕ) (bytes : List ℕ) → image (λ x. x.1.1) fields offset at bytes → header5 offset at bytes
header5_made offset at bytes i =
    let j = i.2 in
    let k = j.3 in
    let size : number 1 4 (at + length j.0) k.0 = subst (λ (n : ℕ). number 1 n (at + length j.0) k.0) (eqb-true i.0.1.0 4 k.2.0) k.2.1 in
    let last = subst (λ (n : ℕ). number 4 n ((at + length j.0) + length k.0) k.1) i.1 k.3 in
    (i.0.0, (j.0, j.1, j.2, (k.0, k.1, size, last, k.4), j.4))

header5_parts : (offset at : ℕ) (bytes : List ℕ) → header5 offset at bytes → image (λ x. x.1.1) fields offset at bytes
header5_parts offset at bytes i =
    let j = i.1 in
    let k = j.3 in
    ((i.0, (4, offset)), refl, (j.0, j.1, j.2, (k.0, k.1, (refl, k.2), k.3, k.4), j.4))

header5_exact : IsExact header5 header5_item
unfolding header5_item
header5_exact =
    let types = checked_exact is_unit_type (number 1) (number_item 1) (number_exact 1) in
    let sizes = checked_exact is_address_size (number 1) (number_item 1) (number_exact 1) in
    let second = then_exact (passing is_address_size (number 1)) (number 4) (checked is_address_size (number_item 1)) (number_item 4) sizes (number_exact 4) in
    let all = then_exact (passing is_unit_type (number 1)) (both (passing is_address_size (number 1)) (number 4)) (checked is_unit_type (number_item 1)) (checked is_address_size (number_item 1) ⊗ number_item 4) types second in
    same_exact (image (λ x. x.1.1) fields) header5 _ header5_made header5_parts
    (image_exact fields (λ x. x.1.1) (checked is_unit_type (number_item 1) ⊗ checked is_address_size (number_item 1) ⊗ number_item 4) all)

-- ---- abbreviations

slot_if_exact : (b : Bool) (x : Pair) → IsExact (slot_if b x) (if b then mapped (implicit_slot x) s64_item else done_item (slot_of forms5 x))
slot_if_exact true x = same_exact (image (implicit_slot x) s64) (slot_if true x) (mapped (implicit_slot x) s64_item)
    (λ s at bytes i. (i.0, sym i.1, i.2))
    (λ s at bytes i. (i.0, sym i.1, i.2))
    (image_exact s64 (implicit_slot x) s64_item s64_exact)
slot_if_exact false x = done_exact (slot_of forms5 x)

slot5_exact : (x : Pair) → IsExact (slot5 x) (slot5_item x)
slot5_exact x = slot_if_exact (is_implicit x) x

shapes5_exact : IsExact shapes5 shapes5_item
unfolding shapes5_item
shapes5_exact = table_exact shape5 (pair slot5) (pair_item slot5_item) (pair_takes slot5) (pair_exact slot5 slot5_item slot5_exact)

-- Past the end of a section no table stands.
pub shapes5_inside : (section : List ℕ) (at : ℕ) → length section < at → read_at shapes5_item section at ≡ None
unfolding shapes5_item table_item ended_item ended_from
shapes5_inside section at past = let room : length section + 1 - at ≡ 0 = omega (arith, past) in rw room refl

-- ---- both versions

version5_exact : IsVersionExact header5 shapes5 version5
version5_exact = record { header_exact = header5_exact; shapes_exact = shapes5_exact; shapes_inside = shapes5_inside }

version_exact : (b : Bool) (version : ℕ) (v : Version) → (if b then Some version5 else only4 version) ≡ Some v → IsVersionExact (header_if b) (shapes_if b) v
version_exact true version v e =
    let same : version5 ≡ v = (let some : Some version5 ≡ Some v = e in cc) in
    subst (λ (w : Version). IsVersionExact header5 shapes5 w) same version5_exact
version_exact false version v e = grammars4_exact version v e

pub grammars5_exact : AreExact grammars5
grammars5_exact version v e = version_exact (version == 5) version v e

-- The section spells the units that are read, and no others.
pub units5_spelled : (s : SectionBytes5) → IsBytes s.base.abbreviations → IsBytes s.base.info → IsUnits5 s (units5 s)
unfolding units5
units5_spelled s fits bytes = units_spelled s grammars5 grammars5_exact fits bytes

pub units5_once : (s : SectionBytes5) → IsBytes s.base.abbreviations → IsBytes s.base.info → (us : List UnitAnswer) → IsUnits5 s us → us ≡ units5 s
unfolding units5
units5_once s fits bytes us i = units_once s grammars5 grammars5_exact fits bytes us i
