-- Reading items from left to right (WebAssembly Core 1.0, 5.1 to 5.5): each function gives what stands at a place, and the
-- place behind it, or the offset of the first item without a reading. The functions here are the parts; what a format
-- holds is put together of them.
use Rattle.std.specs.Prelude.{ℕ, zero, suc, ◌+◌, ◌-◌, List, [], ◌∷◌, length, take, drop, slice_get, Option, Some, None, Result, Ok, Err, ℤ, Bool, nat_le, nat_lt, ◌==◌, if◌then◌else◌}
use Rattle.std.specs.Str.{is_utf8, bytes_eq}
use Rattle.wasm_leb.specs.declared.LebFault.{LebFault}
use Rattle.wasm_leb.specs.Reading.{u32_at, u64_at, s32_at, s64_at}
use Rattle.wasm_bytes.specs.Place.{Place, Read}

infixl 10 ◌>>=◌
abbrev pub ◌>>=◌ : {A B : Type 0} → Read A → (A × Place → Read B) → Read B
(Ok x) >>= f = f x
(Err at) >>= f = Err at

-- ---- putting together

-- one after the other
infixr 6 ◌⊗◌
abbrev pub ◌⊗◌ : {A B : Type 0} → (Place → Read A) → (Place → Read B) → Place → Read (A × B)
(f ⊗ g) p = f p >>= λ x. g x.1 >>= λ y. Ok ((x.0, y.0), y.1)

-- one that says what comes after it
infixr 6 ◌▷◌
abbrev pub ◌▷◌ : {A B : Type 0} → (Place → Read A) → (A → Place → Read B) → Place → Read B
(f ▷ g) p = f p >>= λ x. g x.0 x.1

-- the value made of what was read
abbrev pub mapped : {A B : Type 0} → (A → B) → (Place → Read A) → Place → Read B
mapped to f p = f p >>= λ x. Ok (to x.0, x.1)

-- what was read is not kept
abbrev pub forgotten : {A : Type 0} → (Place → Read A) → Place → Read (Unit {0})
forgotten f = mapped (λ x. tt) f

-- one that has a reading only where its value passes a test
abbrev pub if_passes : {A : Type 0} → (A → Bool) → ℕ → A × Place → Read A
if_passes test at x = if test x.0 then Ok x else Err at

abbrev pub checked : {A : Type 0} → (A → Bool) → (Place → Read A) → Place → Read A
checked test f p = f p >>= if_passes test p.at

-- one that has a reading only where its value passes a test, and lacks something behind it where not
abbrev pub if_complete : {A : Type 0} → (A → Bool) → A × Place → Read A
if_complete test x = if test x.0 then Ok x else Err x.1.at

abbrev pub complete : {A : Type 0} → (A → Bool) → (Place → Read A) → Place → Read A
complete test f p = f p >>= if_complete test

-- The parts of one item fail where it begins.
abbrev pub at_front : {A : Type 0} → ℕ → Read A → Read A
at_front at (Ok x) = Ok x
at_front at (Err e) = Err at

abbrev pub as_one : {A : Type 0} → (Place → Read A) → Place → Read A
as_one f p = at_front p.at (f p)

-- ---- single items

-- no byte
abbrev pub done_item : {A : Type 0} → A → Place → Read A
done_item x p = Ok (x, p)

-- no byte, and the offset where it stands
abbrev pub here_item : Place → Read ℕ
here_item p = Ok (p.at, p)

abbrev pub byte_of : Place → Option ℕ → Read ℕ
byte_of p (Some b) = Ok (b, record p { at = p.at + 1 })
byte_of p None = Err p.at

unfoldable pub byte_item : Place → Read ℕ
byte_item p = byte_of p (slice_get p.block p.at)

-- a byte out of a stated set
unfoldable pub one_of_item : (ℕ → Bool) → Place → Read ℕ
one_of_item set = checked set byte_item

-- a byte that has to be this one
unfoldable pub fixed_item : ℕ → Place → Read (Unit {0})
fixed_item b = forgotten (one_of_item (λ c. c == b))

-- bytes that have to be these, each an item
unfoldable pub bytes_item : List ℕ → Place → Read (Unit {0})
bytes_item [] p = Ok (tt, p)
bytes_item (b ∷ bs) p = fixed_item b p >>= λ x. bytes_item bs x.1

abbrev pub number_of : {A : Type 0} → Place → Result (A × ℕ) LebFault → Read A
number_of p (Ok x) = Ok (x.0, record p { at = x.1 })
number_of p (Err e) = Err p.at

unfoldable pub u32_item : Place → Read ℕ
u32_item p = number_of p (u32_at p.block p.at)

unfoldable pub u64_item : Place → Read ℕ
u64_item p = number_of p (u64_at p.block p.at)

unfoldable pub s32_item : Place → Read ℤ
s32_item p = number_of p (s32_at p.block p.at)

unfoldable pub s64_item : Place → Read ℤ
s64_item p = number_of p (s64_at p.block p.at)

-- a run of bytes of known length
unfoldable pub run_item : ℕ → Place → Read (List ℕ)
run_item n p = if nat_le n (length p.block - p.at) then Ok (take n (drop p.at p.block), record p { at = p.at + n }) else Err p.at

-- a length, and a run of as many bytes
unfoldable pub sized_run_item : Place → Read (List ℕ)
sized_run_item = u32_item ▷ run_item

-- a name is one item, which begins at its length
unfoldable pub name_item : Place → Read (List ℕ)
name_item = as_one (checked is_utf8 sized_run_item)

-- a name that has to be this one
unfoldable pub named_item : List ℕ → Place → Read (Unit {0})
named_item title = forgotten (checked (λ name. bytes_eq name title) name_item)

-- ---- blocks

-- the place at the front of a block of that size, and the place behind it
abbrev pub block_of : ℕ → Place → Place × Place
block_of size p = (record { block = take (p.at + size) p.block; at = p.at }, record p { at = p.at + size })

abbrev pub if_inside : ℕ → ℕ × Place → Read Place
if_inside at x = if nat_le x.0 (length x.1.block - x.1.at) then Ok (block_of x.0 x.1) else Err at

-- A size opens a block, which ends at or before the end of the block around it.
unfoldable pub block_item : Place → Read Place
block_item p = u32_item p >>= if_inside p.at

-- the block is complete
unfoldable pub end_item : Place → Read (Unit {0})
end_item p = if p.at == length p.block then Ok (tt, p) else Err p.at

-- all bytes up to the end of the block
unfoldable pub rest_item : Place → Read (List ℕ)
rest_item p = Ok (drop p.at p.block, record p { at = length p.block })

-- all that stands up to the end of the block
abbrev pub closed : {A : Type 0} → (Place → Read A) → Place → Read A
closed f p = f p >>= λ x. end_item x.1 >>= λ e. Ok (x.0, e.1)

-- a block, and all that stands in it
abbrev pub within : {A : Type 0} → (Place → Read A) → Place → Read A
within f p = block_item p >>= λ b. closed f b.0 >>= λ x. Ok (x.0, b.1)

-- all of an input
abbrev pub value_of : {A : Type 0} → Read A → Result A ℕ
value_of (Ok x) = Ok x.0
value_of (Err at) = Err at

abbrev pub whole : {A : Type 0} → (Place → Read A) → List ℕ → Result A ℕ
whole f bytes = value_of (closed f (record { block = bytes; at = 0 }))

-- a custom section of that name: what stands behind its name, up to its end
unfoldable pub section_item : {A : Type 0} → List ℕ → (Place → Read A) → Place → Read A
section_item title f = mapped (λ x. x.1) (fixed_item 0 ⊗ within (mapped (λ x. x.1) (named_item title ⊗ f)))

-- ---- choices

abbrev pub picked : {A : Type 0} → ℕ → Option (Place → Read A) → Place → Read A
picked at (Some f) p = f p
picked at None p = Err at

-- A first byte says what comes after it, or has no reading.
unfoldable pub choose : {A : Type 0} → (ℕ → Option (Place → Read A)) → Place → Read A
choose pick p = byte_item p >>= λ tag. picked p.at (pick tag.0) tag.1

-- ---- many items

-- so many items, one after another
unfoldable pub items_from : {A : Type 0} → (Place → Read A) → ℕ → Place → Read (List A)
items_from f zero p = Ok ([], p)
items_from f (suc n) p = f p >>= λ x. items_from f n x.1 >>= λ others. Ok (x.0 ∷ others.0, others.1)

-- a vector is a count and its elements
unfoldable pub vector_item : {A : Type 0} → (Place → Read A) → Place → Read (List A)
vector_item f = u32_item ▷ items_from f

-- items up to the end of the block, at most so many
unfoldable pub until_end : {A : Type 0} → (Place → Read A) → ℕ → Place → Read (List A)
until_end f zero p = if nat_lt p.at (length p.block) then Err p.at else Ok ([], p)
until_end f (suc n) p = if nat_lt p.at (length p.block) then (f p >>= λ x. until_end f n x.1 >>= λ others. Ok (x.0 ∷ others.0, others.1)) else Ok ([], p)

-- items up to the end of the block, each of at least one byte
unfoldable pub to_end_item : {A : Type 0} → (Place → Read A) → Place → Read (List A)
to_end_item f p = until_end f (length p.block - p.at) p

-- so many steps, each of which reads on and makes the next state
unfoldable pub steps_from : {S : Type 0} → (S → Place → Read S) → ℕ → S → Place → Read S
steps_from f zero s p = Ok (s, p)
steps_from f (suc n) s p = f s p >>= λ x. steps_from f n x.0 x.1

unfoldable pub steps_until_end : {S : Type 0} → (S → Place → Read S) → ℕ → S → Place → Read S
steps_until_end f zero s p = if nat_lt p.at (length p.block) then Err p.at else Ok (s, p)
steps_until_end f (suc n) s p = if nat_lt p.at (length p.block) then (f s p >>= λ x. steps_until_end f n x.0 x.1) else Ok (s, p)

-- steps up to the end of the block, each of at least one byte
unfoldable pub steps_to_end : {S : Type 0} → (S → Place → Read S) → S → Place → Read S
steps_to_end f s p = steps_until_end f (length p.block - p.at) s p

-- steps up to a state in which nothing more is due, at most so many
unfoldable pub steps_while_due : {S : Type 0} → (S → Bool) → (S → Place → Read S) → ℕ → S → Place → Read S
steps_while_due done f zero s p = if done s then Ok (s, p) else Err p.at
steps_while_due done f (suc n) s p = if done s then Ok (s, p) else (f s p >>= λ x. steps_while_due done f n x.0 x.1)

-- steps up to a state in which nothing more is due, each of at least one byte
unfoldable pub steps_until_done : {S : Type 0} → (S → Bool) → (S → Place → Read S) → S → Place → Read S
steps_until_done done f s p = steps_while_due done f (length p.block + 1 - p.at) s p
