-- The shortest spelling of a signed number.
use Rattle.std.proofs.Common.{◌≡◌, ℕ, zero, suc, ◌+◌, ◌-◌, ◌*◌, ◌/◌, ◌%◌, ◌^◌, ◌<◌, ◌≤◌, true, false, List, [], ◌∷◌, ◌++◌, length, refl, sym, ap, subst, ◌∙◌, inl, inr, arith, ℤ, pos, negsuc, ◌+ℤ◌, ◌*ℤ◌}
use Rattle.std.proofs.Math.Nat.{pow-suc, pow-zero}
use Rattle.std.proofs.lemmas.Bool.{ltb-true, ltb-false, lt-ltb, le-ltb, cases_lt}
use Rattle.std.proofs.lemmas.Int.{ints}
use Rattle.wasm_leb.specs.calls.Numbers.{IsSigned, IsLastSigned, IsShortest}
use Rattle.wasm_leb.specs.Reading.{signed_at, IsWithin}
use Rattle.wasm_leb.specs.Writing.{low_seven, above_seven, fits_seven, signed_groups, signed_bytes}
use Rattle.wasm_leb.proofs.Powers.{half_seven_more, half_power_at_most}
use Rattle.wasm_leb.proofs.Readings.{got}
use Rattle.wasm_leb.proofs.SignedLaws.{more, signed_complete}

-- what two's complement counts: n for n and for -1 - n
abbrev pub size : ℤ → ℕ
size (pos n) = n
size (negsuc n) = n

within_size : (bits : ℕ) (z : ℤ) → IsWithin bits z → size z < 2 ^ (bits - 1)
within_size bits (pos n) h = omega (arith, ints, h.1)
within_size bits (negsuc n) h = omega (arith, ints, h.0)

fits_small : (z : ℤ) → fits_seven z ≡ true → size z < 64
fits_small (pos n) h = ltb-true n 64 h
fits_small (negsuc n) h = ltb-true n 64 h

fits_not_large : (z : ℤ) → fits_seven z ≡ false → 64 ≤ size z
fits_not_large (pos n) h = ltb-false n 64 h
fits_not_large (negsuc n) h = ltb-false n 64 h

small_fits : (z : ℤ) → size z < 64 → fits_seven z ≡ true
small_fits (pos n) h = lt-ltb n 64 h
small_fits (negsuc n) h = lt-ltb n 64 h

large_fits_not : (z : ℤ) → 64 ≤ size z → fits_seven z ≡ false
large_fits_not (pos n) h = le-ltb n 64 h
large_fits_not (negsuc n) h = le-ltb n 64 h

size-above : (z : ℤ) → size (above_seven z) ≡ size z / 128
size-above (pos n) = refl
size-above (negsuc n) = refl

one_group : (k : ℕ) (z : ℤ) → size z < 64 → signed_groups k z ≡ low_seven z ∷ []
unfolding signed_groups
one_group zero z h = refl
one_group (suc k) z h = rw (small_fits z h) refl

more_groups : (k : ℕ) (z : ℤ) → 64 ≤ size z → signed_groups (suc k) z ≡ (low_seven z + 128) ∷ signed_groups k (above_seven z)
unfolding signed_groups
more_groups k z h = rw (large_fits_not z h) refl

-- room for more bytes changes nothing
more_room : (k : ℕ) (z : ℤ) → size z < 64 * 128 ^ k → signed_groups (suc k) z ≡ signed_groups k z
more_room zero z h = let small : size z < 64 = omega (arith, pow-zero 128) in one_group 1 z small ∙ sym (one_group zero z small)
more_room (suc j) z h =
    elim (cases_lt (size z) 64) [
      | inl small ↦ one_group (suc (suc j)) z small ∙ sym (one_group (suc j) z small)
      | inr large ↦
          let above : size (above_seven z) < 64 * 128 ^ j = omega (arith, size-above z, pow-suc 128 j) in
          more_groups (suc j) z large ∙ ap (λ (bs : List ℕ). (low_seven z + 128) ∷ bs) (more_room j (above_seven z) above) ∙ sym (more_groups j z large)
    ]

pub one_byte : (z : ℤ) → fits_seven z ≡ true → signed_bytes z ≡ low_seven z ∷ []
unfolding signed_bytes
one_byte z h = one_group 9 z (fits_small z h)

pub more_bytes : (z : ℤ) → fits_seven z ≡ false → IsWithin 64 z → signed_bytes z ≡ (low_seven z + 128) ∷ signed_bytes (above_seven z)
unfolding signed_bytes
more_bytes z h within =
    more_groups 8 z (fits_not_large z h) ∙ ap (λ (bs : List ℕ). (low_seven z + 128) ∷ bs) (sym (more_room 8 (above_seven z) (omega (arith, size-above z, within_size 64 z within))))

-- ---- it is a spelling, and none is shorter

last_group : (bits : ℕ) (z : ℤ) → size z < 64 → size z < 2 ^ (bits - 1) → IsLastSigned bits (low_seven z) z
last_group bits (pos n) small fits =
    let same : n % 128 ≡ n = omega arith in
    inl (omega arith, omega arith, omega (arith, ints, same))
last_group bits (negsuc n) small fits =
    let same : n % 128 ≡ n = omega arith in
    inr (omega arith, omega arith, omega arith, omega (arith, ints, same))

split : (z : ℤ) → pos (low_seven z + 128 - 128) +ℤ (pos 128 *ℤ above_seven z) ≡ z
split (pos n) = omega (arith, ints)
split (negsuc n) = omega (arith, ints)

low_seven-lt : (z : ℤ) → low_seven z < 128
low_seven-lt (pos n) = omega arith
low_seven-lt (negsuc n) = omega arith

-- a number that seven bits don't hold has more
long_enough : (bits n : ℕ) → 64 ≤ n → n < 2 ^ (bits - 1) → 7 < bits
long_enough bits n large small = elim (cases_lt 7 bits) [ inl more ↦ more | inr few ↦ absurd (omega (arith, half_power_at_most bits 7 few)) ]

groups_spell : (k bits : ℕ) (z : ℤ) → bits ≤ 7 * suc k → size z < 2 ^ (bits - 1) → IsSigned bits (signed_groups k z) z
groups_spell zero bits z room small =
    let below : size z < 64 = omega (arith, half_power_at_most bits 7 (omega arith)) in
    subst (λ (bs : List ℕ). IsSigned bits bs z) (sym (one_group zero z below)) (last_group bits z below small)
groups_spell (suc j) bits z room small =
    elim (cases_lt (size z) 64) [
      | inl below ↦ subst (λ (bs : List ℕ). IsSigned bits bs z) (sym (one_group (suc j) z below)) (last_group bits z below small)
      | inr large ↦
          let long = long_enough bits (size z) large small in
          let high : size (above_seven z) < 2 ^ (bits - 7 - 1) = omega (arith, size-above z, half_seven_more bits long) in
          let below = groups_spell j (bits - 7) (above_seven z) (omega arith) high in
          let low = low_seven-lt z in
          subst (λ (bs : List ℕ). IsSigned bits bs z) (sym (more_groups j z large)) (subst (λ (y : ℤ). IsSigned bits ((low_seven z + 128) ∷ signed_groups j (above_seven z)) y) (split z) (more bits (low_seven z + 128) (signed_groups j (above_seven z)) (above_seven z) (omega arith) (omega arith) long below))
    ]

one_long : (z : ℤ) → length (signed_groups zero z) ≡ 1
unfolding signed_groups
one_long z = refl

last_size : (bits b : ℕ) (z : ℤ) → IsLastSigned bits b z → size z < 64
last_size bits b (pos n) (inl l) = omega (arith, ints, l.0, l.2)
last_size bits b (negsuc n) (inl l) = absurd (omega (arith, ints, l.2))
last_size bits b (pos n) (inr h) = absurd (omega (arith, ints, h.1, h.3))
last_size bits b (negsuc n) (inr h) = omega (arith, ints, h.0, h.3)

above_is : (b : ℕ) (z high : ℤ) → 128 ≤ b → b < 256 → z +ℤ pos 128 ≡ pos b +ℤ (pos 128 *ℤ high) → above_seven z ≡ high
above_is b (pos n) high big small e = omega (arith, ints, e)
above_is b (negsuc n) high big small e = omega (arith, ints, e)

groups_least : (k bits : ℕ) (other : List ℕ) (z : ℤ) → IsSigned bits other z → length (signed_groups k z) ≤ length other
groups_least k bits [] z s = absurd s
groups_least k bits (b ∷ []) z s = rw (one_group k z (last_size bits b z s)) (omega arith)
groups_least zero bits (b ∷ c ∷ bs) z s = omega (arith, one_long z)
groups_least (suc j) bits (b ∷ c ∷ bs) z s =
    elim (cases_lt (size z) 64) [
      | inl below ↦ rw (one_group (suc j) z below) (omega arith)
      | inr large ↦
          let high = above_is b z s.3 s.0 s.1 s.4 in
          let below : length (signed_groups j (above_seven z)) ≤ length (c ∷ bs) = rw high (groups_least j (bits - 7) (c ∷ bs) s.3 s.5) in
          rw (more_groups j z large) (omega (arith, below))
    ]

-- the shortest spelling is a spelling
pub signed_spells : (bits : ℕ) (z : ℤ) → bits ≤ 64 → IsWithin bits z → IsSigned bits (signed_bytes z) z
unfolding signed_bytes
signed_spells bits z h fits = groups_spell 9 bits z (omega arith) (within_size bits z fits)

pub signed_shortest : (bits : ℕ) (z : ℤ) → bits ≤ 64 → IsWithin bits z → IsShortest (IsSigned bits) (signed_bytes z) z
unfolding signed_bytes
signed_shortest bits z h fits = record { spelled = signed_spells bits z h fits; least = λ other s. groups_least 9 bits other z s }

-- and reads back, whatever follows
pub signed_reads_back : (bits : ℕ) (z : ℤ) (rest : List ℕ) → bits ≤ 64 → IsWithin bits z → signed_at bits (signed_bytes z ++ rest) ≡ got (z, rest)
signed_reads_back bits z rest h fits = signed_complete bits (signed_bytes z) rest z (signed_spells bits z h fits)
