-- The bytes that spell tables of abbreviations (DWARF 4, 7.5.3).
use Rattle.std.specs.Prelude.{◌≡◌, ◌≢◌, ℕ, false, List, Option, Some, None, Bool}
use Rattle.wasm_bytes.specs.calls.Spelling.{Spellings, ◌&◌, image, only, one_of, u64}
use Rattle.dwarf_bytes.specs.calls.Spelled.{ended}
use Rattle.dwarf_abbrev.specs.declared.abbrev.Pair.{Pair}
use Rattle.dwarf_abbrev.specs.declared.abbrev.Abbrev.{Abbrev}
use Rattle.dwarf_abbrev.specs.Reading.{is_end, is_flag, is_one, abbrev_of}

-- an attribute and a form
abbrev pub codes : Pair → Spellings
codes x = u64 x.attribute & u64 x.form

-- an attribute, a form and what they lead to, or the end mark
abbrev pub pair : {A : Type 0} → (Pair → A → Spellings) → Option A → Spellings
pair S None = u64 0 & u64 0
pair S (Some y) = λ at bytes. (x : Pair) × (is_end x ≡ false) × (codes x & S x y) at bytes

-- whether there are children: the byte 0 or 1
abbrev pub flag : Bool → Spellings
flag = image is_one (one_of is_flag)

-- a code other than 0, a tag, whether there are children, and pairs; or the end mark
abbrev pub entry : {A B : Type 0} → (ℕ → ℕ → Bool → List A → B) → (Option A → Spellings) → Option B → Spellings
entry make S None = u64 0
entry {A} make S (Some y) = λ at bytes.
    (code tag : ℕ) × (children : Bool) × (pairs : List A) × (make code tag children pairs ≡ y) × (code ≢ 0)
    × (u64 code & u64 tag & flag children & ended S pairs) at bytes

abbrev pub table : {A B : Type 0} → (ℕ → ℕ → Bool → List A → B) → (Option A → Spellings) → List B → Spellings
table make S = ended (entry make S)

abbrev pub abbrevs : List Abbrev → Spellings
abbrevs = table abbrev_of (pair only)
