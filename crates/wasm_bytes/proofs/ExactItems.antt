-- The single items read exactly their spellings.
use Rattle.std.proofs.Common.{◌≡◌, ℕ, ◌+◌, ◌-◌, ◌≤◌, Bool, true, eqb, leb, List, [], ◌∷◌, ◌++◌, length, take, drop, Result, Ok, Err, refl, sym, ap, subst, ◌∙◌, inl, inr, append_assoc, arith, length-append}
use Rattle.std.specs.Str.{is_utf8, bytes_eq}
use Rattle.std.specs.List.{slice_get}
use Rattle.std.proofs.lemmas.Bool.{eqb-true}
use Rattle.std.proofs.lemmas.Str.{IsUtf8-from_is_utf8, is_utf8-from_IsUtf8}
use Rattle.std.proofs.lemmas.List.{take-append-drop, take_at, length-take, append-nil}
use Rattle.std.proofs.lemmas.Slice.Eq.{bytes_eq-Decides}
use Rattle.std.proofs.Math.Seq.{drop-append_seam}
use Rattle.wasm_leb.specs.declared.LebFault.{LebFault}
use Rattle.wasm_leb.specs.Reading.{unsigned_at, u32_at, u64_at, signed_at, s32_at, s64_at, placed}
use Rattle.wasm_leb.proofs.UnsignedLaws.{unsigned_sound, unsigned_complete}
use Rattle.wasm_leb.proofs.SignedLaws.{signed_sound, signed_complete}
use Rattle.wasm_bytes.specs.Place.{Place}
use Rattle.wasm_bytes.specs.Reading.{number_of, u32_item, u64_item, s32_item, s64_item, byte_of, byte_item, one_of_item, fixed_item, bytes_item, run_item, sized_run_item, name_item, named_item}
use Rattle.wasm_bytes.specs.calls.Spelling.{always, leads, image, passing, u32, u64, s32, s64, byte, one_of, text, run, sized_run, name}
use Rattle.wasm_bytes.specs.Laws.{IsBytes, place, got, Took, IsExact}
use Rattle.wasm_bytes.proofs.Places.{IsBytes-rest, place_behind, rest_length, byte_here, got_is, took_is, took_nothing}
use Rattle.wasm_bytes.proofs.Exact.{first_took, then_took, same_exact, leads_exact, image_exact, checked_exact, as_one_exact}
use Rattle.wasm_leb.proofs.Tools.{chosen}

-- ---- numbers

-- the number that a reader of numbers gave
number_ok : {A : Type 0} (p : Place) (len : ℕ) (r : Result (A × List ℕ) LebFault) (x : A) (q : Place) → number_of p (placed len r) ≡ got x q
    → (rest : List ℕ) × (r ≡ Ok (x, rest)) × (let s : Place = record p { at = len - length rest } in s ≡ q)
number_ok {A} p len (Ok y) x q e =
    let same = got_is y.0 x (record p { at = len - length y.1 }) q e in
    (y.1, ap (λ (z : A). Ok (z, y.1)) same.0, same.1)
number_ok p len (Err f) x q e = absurd cc

-- where the bytes behind a place begin with a number, the place behind the number
behind_number : (before front rest : List ℕ) → length (before ++ (front ++ rest)) - length rest ≡ length before + length front
behind_number before front rest = omega (arith, length-append before (front ++ rest), length-append front rest)

took_number : {A : Type 0} (S : A → ℕ → List ℕ → Type 0) (before after front rest : List ℕ) (x : A) (q : Place) → IsBytes after → S x (length before) front → after ≡ front ++ rest
    → (let s : Place = record { block = before ++ after; at = length (before ++ after) - length rest } in s ≡ q) → Took S before after x q
took_number S before after front rest x q fits is parts e = record {
  front = front;
  rest = rest;
  is = is;
  parts = parts;
  behind =
      let moved : (let s : Place = record { block = before ++ (front ++ rest); at = length (before ++ (front ++ rest)) - length rest } in s ≡ q) = subst (λ (t : List ℕ). let s : Place = record { block = before ++ t; at = length (before ++ t) - length rest } in s ≡ q) parts e in
      sym moved ∙ place_behind before front rest (length (before ++ (front ++ rest)) - length rest) (behind_number before front rest);
  bytes = IsBytes-rest front rest (subst IsBytes parts fits);
}

pub u32_exact : IsExact u32 u32_item
unfolding u32_item u32_at
u32_exact = record {
  sound = λ before after x q fits read.
      let n = number_ok (place before after) (length (before ++ after)) (unsigned_at 32 (drop (length before) (before ++ after))) x q read in
      let here : unsigned_at 32 after ≡ Ok (x, n.0) = ap (unsigned_at 32) (sym (drop-append_seam before after)) ∙ n.1 in
      let s = unsigned_sound 32 after (x, n.0) fits here in
      took_number u32 before after s.front n.0 x q fits s.spells s.parts n.2;
  again = λ before front rest x s.
      let reads = unsigned_complete 32 front rest x s in
      rw (drop-append_seam before (front ++ rest), reads) (ap (got x) (place_behind before front rest _ (behind_number before front rest)));
}

pub u64_exact : IsExact u64 u64_item
unfolding u64_item u64_at
u64_exact = record {
  sound = λ before after x q fits read.
      let n = number_ok (place before after) (length (before ++ after)) (unsigned_at 64 (drop (length before) (before ++ after))) x q read in
      let here : unsigned_at 64 after ≡ Ok (x, n.0) = ap (unsigned_at 64) (sym (drop-append_seam before after)) ∙ n.1 in
      let s = unsigned_sound 64 after (x, n.0) fits here in
      took_number u64 before after s.front n.0 x q fits s.spells s.parts n.2;
  again = λ before front rest x s.
      let reads = unsigned_complete 64 front rest x s in
      rw (drop-append_seam before (front ++ rest), reads) (ap (got x) (place_behind before front rest _ (behind_number before front rest)));
}

pub s32_exact : IsExact s32 s32_item
unfolding s32_item s32_at
s32_exact = record {
  sound = λ before after x q fits read.
      let n = number_ok (place before after) (length (before ++ after)) (signed_at 32 (drop (length before) (before ++ after))) x q read in
      let here : signed_at 32 after ≡ Ok (x, n.0) = ap (signed_at 32) (sym (drop-append_seam before after)) ∙ n.1 in
      let s = signed_sound 32 after (x, n.0) fits here in
      took_number s32 before after s.front n.0 x q fits s.spells s.parts n.2;
  again = λ before front rest x s.
      let reads = signed_complete 32 front rest x s in
      rw (drop-append_seam before (front ++ rest), reads) (ap (got x) (place_behind before front rest _ (behind_number before front rest)));
}

pub s64_exact : IsExact s64 s64_item
unfolding s64_item s64_at
s64_exact = record {
  sound = λ before after x q fits read.
      let n = number_ok (place before after) (length (before ++ after)) (signed_at 64 (drop (length before) (before ++ after))) x q read in
      let here : signed_at 64 after ≡ Ok (x, n.0) = ap (signed_at 64) (sym (drop-append_seam before after)) ∙ n.1 in
      let s = signed_sound 64 after (x, n.0) fits here in
      took_number s64 before after s.front n.0 x q fits s.spells s.parts n.2;
  again = λ before front rest x s.
      let reads = signed_complete 64 front rest x s in
      rw (drop-append_seam before (front ++ rest), reads) (ap (got x) (place_behind before front rest _ (behind_number before front rest)));
}

-- ---- bytes

took_byte : (before bs : List ℕ) (b : ℕ) → IsBytes (b ∷ bs) → Took byte before (b ∷ bs) b (record { block = before ++ b ∷ bs; at = length before + 1 })
took_byte before bs b fits = record { front = b ∷ []; rest = bs; is = refl; parts = refl; behind = place_behind before (b ∷ []) bs (length before + 1) (omega arith); bytes = IsBytes-rest (b ∷ []) bs fits }

byte_sound : (before after : List ℕ) (x : ℕ) (q : Place) → IsBytes after → byte_of (place before after) (slice_get after 0) ≡ got x q → Took byte before after x q
byte_sound before [] x q fits read = absurd cc
byte_sound before (b ∷ bs) x q fits read = took_is byte before (b ∷ bs) b x _ q read (took_byte before bs b fits)

pub byte_exact : IsExact byte byte_item
unfolding byte_item
byte_exact = record {
  sound = λ before after x q fits read. byte_sound before after x q fits (ap (byte_of (place before after)) (sym (byte_here before after)) ∙ read);
  again = λ before front rest x s. rw (s, byte_here before (x ∷ rest)) (ap (got x) (place_behind before (x ∷ []) rest (length before + 1) (omega arith)));
}

pub one_of_exact : (set : ℕ → Bool) → IsExact (one_of set) (one_of_item set)
unfolding one_of_item
one_of_exact set = checked_exact set byte byte_item byte_exact

pub fixed_exact : (b : ℕ) → IsExact (always (byte b)) (fixed_item b)
unfolding fixed_item
fixed_exact b = same_exact (image (λ c. tt) (one_of (λ c. eqb c b))) (always (byte b)) _
    (λ u at front s. subst (λ (c : ℕ). byte c at front) (eqb-true s.0 b s.2.0) s.2.1)
    (λ u at front s. (b, refl, ((let same : eqb b b ≡ true = grind arith in same), s)))
    (image_exact (one_of (λ c. eqb c b)) (λ c. tt) (one_of_item (λ c. eqb c b)) (one_of_exact (λ c. eqb c b)))

text_sound : (expected before after : List ℕ) (u : Unit {0}) (q : Place) → IsBytes after → bytes_item expected (place before after) ≡ got u q → Took (always (text expected)) before after u q
unfolding bytes_item
text_sound [] before after u q fits read = took_is (always (text [])) before after tt u (place before after) q read (took_nothing (always (text [])) before after tt fits refl)
text_sound (b ∷ bs) before after u q fits read =
    let a = first_took (always (byte b)) (fixed_item b) (fixed_exact b) before after (λ x. bytes_item bs x.1) u q fits read in
    let t = text_sound bs (before ++ a.1) a.2 u q a.5 a.6 in
    then_took (always (byte b)) (always (text bs)) (always (text (b ∷ bs))) before after a.1 a.2 tt u u q (λ bytes s. rw (s.4, s.2, s.3) refl) a.3 a.4 t

text_again : (expected before rest : List ℕ) → bytes_item expected (place before (expected ++ rest)) ≡ got tt (place (before ++ expected) rest)
unfolding bytes_item
text_again [] before rest = rw (append-nil before) refl
text_again (b ∷ bs) before rest =
    let one = (fixed_exact b).again before (b ∷ []) (bs ++ rest) tt refl in
    let two = text_again bs (before ++ b ∷ []) rest in
    rw (one, two, append_assoc before (b ∷ []) bs) refl

-- bytes that have to be these
pub text_exact : (expected : List ℕ) → IsExact (always (text expected)) (bytes_item expected)
text_exact expected = record {
  sound = text_sound expected;
  again = λ before front rest u s. rw s (text_again expected before rest);
}

-- ---- runs of bytes

took_run : (n : ℕ) (before after : List ℕ) → IsBytes after → n ≤ length after → Took (run n) before after (take n after) (record { block = before ++ after; at = length before + n })
took_run n before after fits room =
    let len : length (take n after) ≡ n = omega (arith, length-take n after) in
    let parts : after ≡ take n after ++ drop n after = sym (take-append-drop n after) in
    let behind = place_behind before (take n after) (drop n after) (length before + n) (omega (arith, len)) in
    record {
      front = take n after;
      rest = drop n after;
      is = (refl, len);
      parts = parts;
      behind = ap (λ (t : List ℕ). let p : Place = record { block = before ++ t; at = length before + n } in p) parts ∙ behind;
      bytes = IsBytes-rest (take n after) (drop n after) (subst IsBytes parts fits);
    }

pub run_exact : (n : ℕ) → IsExact (run n) (run_item n)
unfolding run_item
run_exact n = record {
  sound = λ before after x q fits read.
      elim (chosen (leb n (length (before ++ after) - length before)) _ _ (got x q) read) [
        | inl p ↦
            let room : n ≤ length after = grind (arith, p.0, rest_length) in
            let here : take n (drop (length before) (before ++ after)) ≡ take n after = ap (take n) (drop-append_seam before after) in
            let is : got (take n after) (record { block = before ++ after; at = length before + n }) ≡ got x q = rw (← here) p.1 in
            took_is (run n) before after (take n after) x _ q is (took_run n before after fits room)
        | inr p ↦ absurd cc
      ];
  again = λ before front rest x s.
      let room : leb n (length (before ++ (front ++ rest)) - length before) ≡ true = grind (arith, rest_length, length-append) in
      let len : length front ≡ n = rw s.0 s.1 in
      rw (room, drop-append_seam before (front ++ rest), take_at front rest n len, s.0) (ap (got x) (place_behind before x rest (length before + n) (omega (arith, s.1))));
}

-- a length, and as many bytes
pub sized_run_exact : IsExact sized_run sized_run_item
unfolding sized_run_item
sized_run_exact = same_exact (leads u32 run) sized_run sized_run_item
    (λ x at front s. (s.1.0, s.1.1, subst (λ (n : ℕ). u32 n at s.1.0) (sym s.1.3.1) s.1.2, s.1.3.0, s.1.4))
    (λ x at front s. (length x, (s.0, s.1, s.2, (s.3, refl), s.4)))
    (leads_exact u32 run u32_item run_item u32_exact run_exact)

pub name_exact : IsExact name name_item
unfolding name_item
name_exact = same_exact (passing is_utf8 sized_run) name _
    (λ x at front s. (s.1.0, s.1.1, s.1.2, (s.1.3, IsUtf8-from_is_utf8 x s.0), s.1.4))
    (λ x at front s. (is_utf8-from_IsUtf8 x s.3.1, (s.0, s.1, s.2, s.3.0, s.4)))
    (as_one_exact _ _ (checked_exact is_utf8 sized_run sized_run_item sized_run_exact))

pub named_exact : (title : List ℕ) → IsExact (always (name title)) (named_item title)
unfolding named_item
named_exact title = same_exact (image (λ n. tt) (passing (λ n. bytes_eq n title) name)) (always (name title)) _
    (λ u at front s. subst (λ (n : List ℕ). name n at front) ((bytes_eq-Decides s.0 title).0 s.2.0) s.2.1)
    (λ u at front s. (title, refl, ((bytes_eq-Decides title title).1 refl, s)))
    (image_exact (passing (λ n. bytes_eq n title) name) (λ n. tt) _ (checked_exact (λ n. bytes_eq n title) name name_item name_exact))
