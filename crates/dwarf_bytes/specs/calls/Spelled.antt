-- The bytes that spell the items of DWARF sections (DWARF 4 sections 7.4 to 7.6).
use Rattle.std.specs.Prelude.{◌≡◌, ◌≢◌, ◌≤◌, ℕ, ◌+◌, List, [], ◌∷◌, ◌++◌, length, drop, Option, Some, None}
use Rattle.std.specs.List.{AllByRecursion}
use Rattle.wasm_bytes.specs.calls.Spelling.{Spellings, ◌&◌, nothing, passing, u64}
use Rattle.dwarf_bytes.specs.Items.{little_endian, is_unit_length}

-- ---- putting together

abbrev pub never : {A : Type 0} → A → Spellings
never x = λ at bytes. ⊥

-- the values for which those that are spelled stand
abbrev pub meaning : {A B : Type 0} → (A → Option B) → (A → Spellings) → B → Spellings
meaning {A} means S y at bytes = (x : A) × (means x ≡ Some y) × S x at bytes

-- one for each of a list, in order
abbrev pub each : {A B : Type 0} → (A → B → Spellings) → List A → List B → Spellings
each S [] [] = nothing
each S (x ∷ xs) (y ∷ ys) = S x y & each S xs ys
each S [] (y ∷ ys) = λ at bytes. ⊥
each S (x ∷ xs) [] = λ at bytes. ⊥

-- a list that an end mark ends
abbrev pub ended : {A : Type 0} → (Option A → Spellings) → List A → Spellings
ended S [] = S None
ended S (x ∷ xs) = S (Some x) & ended S xs

-- Bytes at an offset of a section spell it, whatever comes after them.
abbrev pub StandsAt : {A : Type 0} → (A → Spellings) → A → List ℕ → ℕ → Type 0
StandsAt S x section at = (front : List ℕ) × (rest : List ℕ) × (at ≤ length section) × (drop at section ≡ front ++ rest) × S x at front

-- ---- numbers and texts

-- a number of so many bytes, the lowest first
abbrev pub number : ℕ → ℕ → Spellings
number width n at bytes = (length bytes ≡ width) × (n ≡ little_endian bytes)

-- a text, which has no zero byte, and the zero byte behind it
abbrev pub ended_text : List ℕ → Spellings
ended_text text at bytes = (bytes ≡ text ++ 0 ∷ []) × AllByRecursion (λ b. b ≢ 0) text

-- ---- blocks

-- a length, and what it says in as many bytes
abbrev pub sized_by : (ℕ → Spellings) → (ℕ → Spellings) → Spellings
sized_by S contents at bytes = (size : List ℕ) × (inner : List ℕ) × S (length inner) at size × contents (length inner) (at + length size) inner × (bytes ≡ size ++ inner)

-- a length in LEB128, one of four bytes, and that of a unit
abbrev pub long_sized : (ℕ → Spellings) → Spellings
long_sized = sized_by u64

abbrev pub counted : Spellings → Spellings
counted contents = sized_by (number 4) (λ n. contents)

abbrev pub unit_sized : Spellings → Spellings
unit_sized contents = sized_by (passing is_unit_length (number 4)) (λ n. contents)
