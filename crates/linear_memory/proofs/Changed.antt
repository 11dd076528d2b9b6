-- What a change of a memory's table says of the memory.
use Rattle.std.proofs.Common.{◌≡◌, ℕ, ◌+◌, ◌<◌, ◌≤◌, ◌⊎◌, ◌↔◌, Bool, true, false, List, ◌++◌, length, take, drop, Option, Some, Result, Ok, Err, OnOk, OnErr, inl, inr, refl, sym, ◌∙◌, ap, subst, arith}
use Rattle.linear_memory.specs.Memory.{Memory, put, copy}
use Rattle.linear_memory.specs.calls.Paged.{Paged, AllMade, Makes}
use Rattle.linear_memory.specs.inner.Changes.{Changes, Prepares, Puts, Copies}
use Rattle.linear_memory.specs.inner.Table.{contents, AllWhole}
use Rattle.linear_memory.specs.declared.StoreFault.{StoreFault}
use Rattle.linear_memory.specs.declared.StoreFault.TheVariants.{Out, NoMemory}
use Rattle.linear_memory.proofs.Contents.{Table}
use Rattle.linear_memory.proofs.Instructions.{kept, put_is, copy_is, seen}

abbrev Answer : Type 0
Answer = Result (Unit {0}) StoreFault

abbrev number_of : Answer → ℕ
number_of (Ok done) = 0
number_of (Err Out) = 1
number_of (Err NoMemory) = 2

pub both : (b : Bool) → b ≡ true → b ≡ false → ⊥
both true t f = cc
both false t f = cc

-- ---- of a table

pub put_refused : (f : StoreFault) (old new : Table) (at n : ℕ) (ys : List ℕ) → Prepares (Err f) old new at n → Puts (Err f) old new at n ys
put_refused Out old new at n ys h = h
put_refused NoMemory old new at n ys h = h

pub copy_refused : (f : StoreFault) (old new : Table) (to from n : ℕ) → from + n ≤ length (contents old) → Prepares (Err f) old new to n → Copies (Err f) old new to from n
copy_refused Out old new to from n inside h = (inl h.0, h.1)
copy_refused NoMemory old new to from n inside h = ((h.0, inside), h.1, h.2)

whole_after : (r : Answer) (old new : Table) (fits out : Type 0) (at n : ℕ) (bytes : List ℕ) → Changes r old new fits out at n bytes → AllWhole old → AllWhole new
whole_after (Ok done) old new fits out at n bytes h all = h.3
whole_after (Err Out) old new fits out at n bytes h all = subst AllWhole (sym h.1) all
whole_after (Err NoMemory) old new fits out at n bytes h all = subst AllWhole (sym h.1) all

-- ---- of a memory

abbrev pub Told : Answer → Paged → Paged → Type 0 → Option Memory → ℕ → ℕ → Type 0
Told r old new out want at n = ((r ≡ Err Out) ↔ out) × OnOk r (want ≡ Some new.memory) × OnOk r (Makes old.made new.made at n) × OnErr r (new ≡ old) × (AllMade old.made at n → r ≡ Err NoMemory → ⊥)

put_core : (items p : Table) (max : ℕ) (r : Answer) (at n : ℕ) (ys : List ℕ) → length ys ≡ n → Puts r items p at n ys
    → Told r (seen items max) (seen p max) (length (contents items) < at + n) (put (record { bytes = contents items; max = max }) at ys) at n
put_core items p max (Ok done) at n ys l h =
    let inside : at + length ys ≤ length (contents items) = omega (arith, l, h.0) in (
      (λ q. absurd (omega (arith, ap number_of q)), λ low. absurd (omega (arith, low, h.0))),
      put_is (record { bytes = contents items; max = max }) at ys (contents p) inside h.1,
      h.2,
      tt,
      λ all q. omega (arith, ap number_of q),
    )
put_core items p max (Err Out) at n ys l h =
    ((λ q. h.0, λ low. refl), tt, tt, ap (λ (t : Table). seen t max) h.1, λ all q. omega (arith, ap number_of q))
put_core items p max (Err NoMemory) at n ys l h =
    ((λ q. absurd (omega (arith, ap number_of q)), λ low. absurd (omega (arith, low, h.0))), tt, tt, ap (λ (t : Table). seen t max) h.1, λ all q. h.2 all)

not_either : (l a b : ℕ) → a ≤ l → b ≤ l → (l < a) ⊎ (l < b) → ⊥
not_either l a b p q (inl low) = omega (arith, p, low)
not_either l a b p q (inr low) = omega (arith, q, low)

copy_core : (items p : Table) (max : ℕ) (r : Answer) (to from n : ℕ) → Copies r items p to from n
    → Told r (seen items max) (seen p max) ((length (contents items) < to + n) ⊎ (length (contents items) < from + n)) (copy (record { bytes = contents items; max = max }) to from n) to n
copy_core items p max (Ok done) to from n h = (
  (λ q. absurd (omega (arith, ap number_of q)), λ low. absurd (not_either (length (contents items)) (to + n) (from + n) h.0.0 h.0.1 low)),
  copy_is (record { bytes = contents items; max = max }) to from n (contents p) h.0.1 h.0.0 h.1,
  h.2,
  tt,
  λ all q. omega (arith, ap number_of q),
)
copy_core items p max (Err Out) to from n h =
    ((λ q. h.0, λ low. refl), tt, tt, ap (λ (t : Table). seen t max) h.1, λ all q. omega (arith, ap number_of q))
copy_core items p max (Err NoMemory) to from n h =
    ((λ q. absurd (omega (arith, ap number_of q)), λ low. absurd (not_either (length (contents items)) (to + n) (from + n) h.0.0 h.0.1 low)), tt, tt, ap (λ (t : Table). seen t max) h.1, λ all q. h.2 all)

-- the same of a memory and of bytes that are equal
pub told_of : (r : Answer) (a m new : Paged) (at n : ℕ) (bs ys : List ℕ) → a ≡ m → bs ≡ ys → length ys ≡ n → Told r a new (length a.memory.bytes < at + length bs) (put a.memory at bs) at (length bs)
    → Told r m new (length m.memory.bytes < at + n) (put m.memory at ys) at n
told_of r a m new at n bs ys e f l h =
    subst (λ (k : ℕ). Told r m new (length m.memory.bytes < at + k) (put m.memory at ys) at k) l
    (subst (λ (xs : List ℕ). Told r m new (length m.memory.bytes < at + length xs) (put m.memory at xs) at (length xs)) f
    (subst (λ (x : Paged). Told r x new (length x.memory.bytes < at + length bs) (put x.memory at bs) at (length bs)) e h))

-- The table is the slice of a Vec of k pages: `items`, as `now` when it is lent, and p afterwards.
module _ (k : ℕ) (items now p : Table) (max : ℕ) (m : Paged) (len : k ≡ length items) (e : now ≡ items) (n : length p ≡ length now) where
  abbrev pub after : Table
  after = take k (p ++ drop (length p) items)

  is_after : after ≡ p
  is_after = kept k p items (n ∙ ap length e ∙ sym len)

  pub invariant_after : (r : Answer) (fits out : Type 0) (at count : ℕ) (bytes : List ℕ) → Changes r now p fits out at count bytes → AllWhole items → length items ≤ max → max ≤ 4096
      → AllWhole after × (length after ≤ max) × (max ≤ 4096)
  invariant_after r fits out at count bytes h all few most =
      let whole : AllWhole now = subst AllWhole (sym e) all in (
        subst AllWhole (sym is_after) (whole_after r now p fits out at count bytes h whole),
        omega (arith, ap length is_after, n, ap length e, few),
        most,
      )

  pub put_told : (r : Answer) (at count : ℕ) (ys : List ℕ) → length ys ≡ count → seen items max ≡ m → Puts r now p at count ys
      → Told r m (seen after max) (length m.memory.bytes < at + count) (put m.memory at ys) at count
  put_told r at count ys l view h =
      subst (λ (x : Paged). Told r x (seen after max) (length x.memory.bytes < at + count) (put x.memory at ys) at count) view
      (subst (λ (t : Table). Told r (seen items max) (seen t max) (length (contents items) < at + count) (put (record { bytes = contents items; max = max }) at ys) at count) (sym is_after)
      (put_core items p max r at count ys l (subst (λ (t : Table). Puts r t p at count ys) e h)))

  pub copy_told : (r : Answer) (to from count : ℕ) → seen items max ≡ m → Copies r now p to from count
      → Told r m (seen after max) ((length m.memory.bytes < to + count) ⊎ (length m.memory.bytes < from + count)) (copy m.memory to from count) to count
  copy_told r to from count view h =
      subst (λ (x : Paged). Told r x (seen after max) ((length x.memory.bytes < to + count) ⊎ (length x.memory.bytes < from + count)) (copy x.memory to from count) to count) view
      (subst (λ (t : Table). Told r (seen items max) (seen t max) ((length (contents items) < to + count) ⊎ (length (contents items) < from + count)) (copy (record { bytes = contents items; max = max }) to from count) to count) (sym is_after)
      (copy_core items p max r to from count (subst (λ (t : Table). Copies r t p to from count) e h)))

  -- the slice was left as it was
  pub unchanged : p ≡ now → seen items max ≡ m → seen after max ≡ m
  unchanged same view = ap (λ (t : Table). seen t max) (is_after ∙ same ∙ e) ∙ view
