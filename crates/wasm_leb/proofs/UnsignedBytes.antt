-- The shortest spelling of an unsigned number.
use Rattle.std.proofs.Common.{◌≡◌, ℕ, zero, suc, ◌+◌, ◌-◌, ◌*◌, ◌/◌, ◌%◌, ◌^◌, ◌<◌, ◌≤◌, List, [], ◌∷◌, ◌++◌, length, refl, sym, ap, subst, ◌∙◌, inl, inr, arith}
use Rattle.std.proofs.Math.Nat.{pow-suc, pow-zero}
use Rattle.std.proofs.lemmas.Bool.{lt-ltb, le-ltb, cases_lt}
use Rattle.wasm_leb.specs.calls.Numbers.{IsUnsigned, IsShortest}
use Rattle.wasm_leb.specs.Reading.{unsigned_at}
use Rattle.wasm_leb.specs.Writing.{unsigned_groups, unsigned_bytes}
use Rattle.wasm_leb.proofs.Powers.{seven_more, power_at_most, above_seven_bits}
use Rattle.wasm_leb.proofs.Readings.{got}
use Rattle.wasm_leb.proofs.UnsignedLaws.{more, unsigned_complete}

one_group : (k n : ℕ) → n < 128 → unsigned_groups k n ≡ n ∷ []
unfolding unsigned_groups
one_group zero n h = refl
one_group (suc k) n h = rw (lt-ltb n 128 h) refl

more_groups : (k n : ℕ) → 128 ≤ n → unsigned_groups (suc k) n ≡ (n % 128 + 128) ∷ unsigned_groups k (n / 128)
unfolding unsigned_groups
more_groups k n h = rw (le-ltb n 128 h) refl

-- room for more bytes changes nothing
more_room : (k n : ℕ) → n < 128 ^ suc k → unsigned_groups (suc k) n ≡ unsigned_groups k n
more_room zero n h = let small : n < 128 = omega (arith, pow-suc 128 zero, pow-zero 128) in one_group 1 n small ∙ sym (one_group zero n small)
more_room (suc j) n h =
    elim (cases_lt n 128) [
      | inl small ↦ one_group (suc (suc j)) n small ∙ sym (one_group (suc j) n small)
      | inr large ↦
          let above : n / 128 < 128 ^ suc j = omega (arith, pow-suc 128 (suc j)) in
          more_groups (suc j) n large ∙ ap (λ (bs : List ℕ). (n % 128 + 128) ∷ bs) (more_room j (n / 128) above) ∙ sym (more_groups j n large)
    ]

pub one_byte : (n : ℕ) → n < 128 → unsigned_bytes n ≡ n ∷ []
unfolding unsigned_bytes
one_byte n h = one_group 9 n h

pub more_bytes : (n : ℕ) → 128 ≤ n → n < 2 ^ 64 → unsigned_bytes n ≡ (n % 128 + 128) ∷ unsigned_bytes (n / 128)
unfolding unsigned_bytes
more_bytes n h small =
    more_groups 8 n h ∙ ap (λ (bs : List ℕ). (n % 128 + 128) ∷ bs) (sym (more_room 8 (n / 128) (omega arith)))

-- ---- it is a spelling, and none is shorter

groups_spell : (k bits n : ℕ) → bits ≤ 7 * suc k → n < 2 ^ bits → IsUnsigned bits (unsigned_groups k n) n
groups_spell zero bits n room small =
    let below : n < 128 = omega (arith, power_at_most bits 7 (omega arith)) in
    subst (λ (bs : List ℕ). IsUnsigned bits bs n) (sym (one_group zero n below)) (below, small, refl)
groups_spell (suc j) bits n room small =
    elim (cases_lt n 128) [
      | inl below ↦ subst (λ (bs : List ℕ). IsUnsigned bits bs n) (sym (one_group (suc j) n below)) (below, small, refl)
      | inr large ↦
          let long : 7 < bits = above_seven_bits bits n large small in
          let high : n / 128 < 2 ^ (bits - 7) = omega (arith, seven_more bits (omega arith)) in
          let below = groups_spell j (bits - 7) (n / 128) (omega arith) high in
          let value : n % 128 + 128 - 128 + 128 * (n / 128) ≡ n = omega arith in
          subst (λ (bs : List ℕ). IsUnsigned bits bs n) (sym (more_groups j n large)) (subst (λ (m : ℕ). IsUnsigned bits ((n % 128 + 128) ∷ unsigned_groups j (n / 128)) m) value (more bits (n % 128 + 128) (unsigned_groups j (n / 128)) (n / 128) (omega arith) (omega arith) long below))
    ]

one_long : (n : ℕ) → length (unsigned_groups zero n) ≡ 1
unfolding unsigned_groups
one_long n = refl

groups_least : (k bits : ℕ) (other : List ℕ) (n : ℕ) → IsUnsigned bits other n → length (unsigned_groups k n) ≤ length other
groups_least k bits [] n s = absurd s
groups_least k bits (b ∷ []) n s = rw (one_group k n (omega (arith, s.0, s.2))) (omega arith)
groups_least zero bits (b ∷ c ∷ bs) n s = omega (arith, one_long n)
groups_least (suc j) bits (b ∷ c ∷ bs) n s =
    elim (cases_lt n 128) [
      | inl below ↦ rw (one_group (suc j) n below) (omega arith)
      | inr large ↦
          let high : n / 128 ≡ s.3 = omega (arith, s.0, s.1, s.4) in
          let below : length (unsigned_groups j (n / 128)) ≤ length (c ∷ bs) = rw high (groups_least j (bits - 7) (c ∷ bs) s.3 s.5) in
          rw (more_groups j n large) (omega (arith, below))
    ]

-- the shortest spelling is a spelling
pub unsigned_spells : (bits n : ℕ) → bits ≤ 64 → n < 2 ^ bits → IsUnsigned bits (unsigned_bytes n) n
unfolding unsigned_bytes
unsigned_spells bits n h small = groups_spell 9 bits n (omega arith) small

pub unsigned_shortest : (bits n : ℕ) → bits ≤ 64 → n < 2 ^ bits → IsShortest (IsUnsigned bits) (unsigned_bytes n) n
unfolding unsigned_bytes
unsigned_shortest bits n h small = record { spelled = unsigned_spells bits n h small; least = λ other s. groups_least 9 bits other n s }

-- and reads back, whatever follows
pub unsigned_reads_back : (bits n : ℕ) (rest : List ℕ) → bits ≤ 64 → n < 2 ^ bits → unsigned_at bits (unsigned_bytes n ++ rest) ≡ got (n, rest)
unsigned_reads_back bits n rest h small = unsigned_complete bits (unsigned_bytes n) rest n (unsigned_spells bits n h small)
