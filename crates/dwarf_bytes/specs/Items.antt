-- Reading the items of DWARF sections from left to right (DWARF 4 sections 7.4 to 7.6), with the parts of `wasm_bytes`. Where something
-- has no reading is not told above this crate.
use Rattle.std.specs.Prelude.{ℕ, zero, suc, ◌+◌, ◌-◌, ◌*◌, List, [], ◌∷◌, length, drop, Option, Some, None, Ok, Err, Bool, nat_lt, ◌==◌, if◌then◌else◌}
use Rattle.std.specs.List.{before_first}
use Rattle.wasm_bytes.specs.Place.{Place, Read}
use Rattle.wasm_bytes.specs.Reading.{◌>>=◌, mapped, u64_item, run_item, checked, if_inside}

-- ---- putting together

-- no reading
abbrev pub no_item : {A : Type 0} → Place → Read A
no_item p = Err p.at

-- one that may have no reading
abbrev pub item_or_none : {A : Type 0} → Option (Place → Read A) → Place → Read A
item_or_none (Some f) p = f p
item_or_none None p = Err p.at

-- what a value stands for, where it stands for something
abbrev pub meant_at : {A : Type 0} → ℕ → Place → Option A → Read A
meant_at at p (Some x) = Ok (x, p)
meant_at at p None = Err at

abbrev pub meaning_item : {A B : Type 0} → (A → Option B) → (Place → Read A) → Place → Read B
meaning_item means f p = f p >>= λ x. meant_at p.at x.1 (means x.0)

-- one for each of a list, in order
unfoldable pub each_item : {A B : Type 0} → (A → Place → Read B) → List A → Place → Read (List B)
each_item f [] p = Ok ([], p)
each_item f (x ∷ xs) p = f x p >>= λ y. each_item f xs y.1 >>= λ ys. Ok (y.0 ∷ ys.0, ys.1)

-- no more behind the end mark
abbrev pub and_more : {A : Type 0} → (Place → Read (List A)) → Option A → Place → Read (List A)
and_more more None p = Ok ([], p)
and_more more (Some x) p = more p >>= λ xs. Ok (x ∷ xs.0, xs.1)

-- items up to an end mark, which is read too and is None; at most so many
unfoldable pub ended_from : {A : Type 0} → (Place → Read (Option A)) → ℕ → Place → Read (List A)
ended_from f zero p = Err p.at
ended_from f (suc n) p = f p >>= λ x. and_more (ended_from f n) x.0 x.1

-- a list that an end mark ends, each item of at least one byte
unfoldable pub ended_item : {A : Type 0} → (Place → Read (Option A)) → Place → Read (List A)
ended_item f p = ended_from f (length p.block + 1 - p.at) p

-- ---- numbers and texts

-- the number that bytes spell, the lowest first
abbrev pub little_endian : List ℕ → ℕ
little_endian [] = 0
little_endian (b ∷ bs) = b + 256 * little_endian bs

-- a number of so many bytes
unfoldable pub number_item : ℕ → Place → Read ℕ
number_item width = mapped little_endian (run_item width)

abbrev pub is_zero : ℕ → Bool
is_zero b = b == 0

-- a text: bytes up to a zero byte, which is read too (7.5.4, `DW_FORM_string`)
abbrev pub if_ended : List ℕ → Place → Read (List ℕ)
if_ended text p = if nat_lt (p.at + length text) (length p.block) then Ok (text, record p { at = p.at + length text + 1 }) else Err p.at

unfoldable pub text_item : Place → Read (List ℕ)
text_item p = if_ended (before_first is_zero (drop p.at p.block)) p

-- ---- blocks

-- the block that a length opens, which ends inside the block around it: the place at its front, and the place behind it
abbrev pub block_by : (Place → Read ℕ) → Place → Read Place
block_by length p = length p >>= if_inside p.at

-- a length in LEB128
unfoldable pub long_block_item : Place → Read Place
long_block_item = block_by u64_item

-- a length of four bytes (7.4, the 32-bit format)
unfoldable pub counted_block_item : Place → Read Place
counted_block_item = block_by (number_item 4)

-- Lengths from FFFFFFF0 on do not belong to the 32-bit format (7.4).
abbrev pub is_unit_length : ℕ → Bool
is_unit_length n = nat_lt n 0xfffffff0

-- `unit_length`
unfoldable pub unit_block_item : Place → Read Place
unit_block_item = block_by (checked is_unit_length (number_item 4))

-- ---- what has a reading

abbrev pub reading_of : {A : Type 0} → Read A → Option A
reading_of (Ok x) = Some x.0
reading_of (Err at) = None

-- what is read at an offset of a section, if it has a reading
abbrev pub read_at : {A : Type 0} → (Place → Read A) → List ℕ → ℕ → Option A
read_at f section at = reading_of (f (record { block = section; at = at }))
