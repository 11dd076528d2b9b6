-- Reading tables of abbreviations (DWARF 4, 7.5.3).
use Rattle.std.specs.Prelude.{ℕ, List, Option, Some, None, Bool, ◌==◌, ◌&&◌, nat_le, if◌then◌else◌}
use Rattle.wasm_bytes.specs.Place.{Place, Read}
use Rattle.wasm_bytes.specs.Reading.{◌⊗◌, ◌▷◌, mapped, done_item, one_of_item, u64_item}
use Rattle.dwarf_bytes.specs.Items.{ended_item, read_at}
use Rattle.dwarf_abbrev.specs.declared.abbrev.Pair.{Pair}
use Rattle.dwarf_abbrev.specs.declared.abbrev.Abbrev.{Abbrev}

-- ---- pairs

abbrev pub pair_of : ℕ × ℕ → Pair
pair_of x = record { attribute = x.0; form = x.1 }

abbrev pub is_end : Pair → Bool
is_end x = x.attribute == 0 && x.form == 0

-- a pair and what stands behind it in the table, or the end mark, which is 0 0
abbrev pub behind_pair : {A : Type 0} → (Pair → Place → Read A) → Pair → Place → Read (Option A)
behind_pair more x = if is_end x then done_item None else mapped Some (more x)

unfoldable pub pair_item : {A : Type 0} → (Pair → Place → Read A) → Place → Read (Option A)
pair_item more = mapped pair_of (u64_item ⊗ u64_item) ▷ behind_pair more

-- ---- abbreviations

-- whether there are children: 0 or 1
abbrev pub is_flag : ℕ → Bool
is_flag b = nat_le b 1

abbrev pub is_one : ℕ → Bool
is_one b = b == 1

-- what stands behind the code: the tag, whether there are children, and the pairs
abbrev pub behind_code : {A B : Type 0} → (ℕ → ℕ → Bool → List A → B) → (Place → Read (Option A)) → ℕ → Place → Read (Option B)
behind_code make pair code =
    if code == 0 then done_item None
    else mapped (λ x. Some (make code x.0 x.1.0 x.1.1)) (u64_item ⊗ mapped is_one (one_of_item is_flag) ⊗ ended_item pair)

-- A table of what is made of code, tag, children and pairs. The code 0 ends it.
unfoldable pub table_item : {A B : Type 0} → (ℕ → ℕ → Bool → List A → B) → (Place → Read (Option A)) → Place → Read (List B)
table_item make pair = ended_item (u64_item ▷ behind_code make pair)

abbrev pub abbrev_of : ℕ → ℕ → Bool → List Pair → Abbrev
abbrev_of code tag children pairs = record { code = code; tag = tag; children = children; pairs = pairs }

unfoldable pub abbrevs_item : Place → Read (List Abbrev)
abbrevs_item = table_item abbrev_of (pair_item done_item)

-- the table at an offset of a section, where one stands there
abbrev pub abbrevs_at : List ℕ → ℕ → Option (List Abbrev)
abbrevs_at = read_at abbrevs_item
