-- Reading stops at the first item without a reading: single items, and items put together.
use Rattle.std.proofs.Common.{◌≡◌, ℕ, ◌+◌, ◌-◌, ◌⊎◌, Bool, eqb, leb, List, [], ◌∷◌, ◌++◌, length, Option, Some, None, Result, Ok, Err, refl, sym, ap, subst, ◌∙◌, inl, inr, arith, length-append}
use Rattle.std.specs.List.{slice_get}
use Rattle.std.specs.Str.{is_utf8, bytes_eq}
use Rattle.wasm_leb.specs.declared.LebFault.{LebFault}
use Rattle.wasm_leb.specs.Reading.{u32_at, s32_at, s64_at}
use Rattle.wasm_bytes.specs.Place.{Place, Read}
use Rattle.wasm_bytes.specs.Reading.{◌>>=◌, ◌⊗◌, ◌▷◌, mapped, checked, if_passes, at_front, as_one, done_item, here_item, byte_of, byte_item, one_of_item, fixed_item, bytes_item, number_of, u32_item, s32_item, s64_item, run_item, sized_run_item, name_item, named_item}
use Rattle.wasm_bytes.specs.calls.Spelling.{always, byte, one_of, u32, s32, s64, run, name}
use Rattle.wasm_bytes.specs.calls.Stopping.{never, unread, either, behind, then_stops, refused, sized_run_stops, text_stops}
use Rattle.wasm_bytes.specs.Laws.{IsBytes, place, got, failed, IsExact, StopsAt, FailsAtFront}
use Rattle.wasm_bytes.proofs.Places.{IsBytes-rest, bind_err, reading}
use Rattle.wasm_bytes.proofs.Exact.{as_one_exact}
use Rattle.wasm_bytes.proofs.ExactItems.{u32_exact, s32_exact, s64_exact, byte_exact, one_of_exact, fixed_exact, run_exact, name_exact, named_exact}
use Rattle.wasm_leb.proofs.Tools.{chosen}

-- ---- an item that fails where it begins

pub unread_stops_at : {A : Type 0} (S : A → ℕ → List ℕ → Type 0) (f : Place → Read A) → IsExact S f → FailsAtFront f → StopsAt (unread S) f
unread_stops_at {A} S f e front = record {
  only = λ before after o fits read. (
    front (place before after) o read,
    λ x text rest s parts.
        let ok : f (place before after) ≡ got x (place (before ++ text) rest) = ap (λ (t : List ℕ). f (place before t)) parts ∙ e.again before text rest x s in
        let both : failed o ≡ got x (place (before ++ text) rest) = sym read ∙ ok in
        cc,
  );
  again = λ before after o fits stops. elim (reading (f (place before after))) [
    | inl r ↦ let t = e.sound before after r.0 r.1 fits r.2 in absurd (stops.1 r.0 t.front t.rest t.is t.parts)
    | inr r ↦ r.1 ∙ ap failed (front (place before after) r.0 r.1 ∙ sym stops.0)
  ];
}

pub byte_front : FailsAtFront byte_item
unfolding byte_item
byte_front p o e = fails (slice_get p.block p.at) e where
  fails : (b : Option ℕ) → byte_of p b ≡ failed o → o ≡ p.at
  fails (Some b) e = absurd cc
  fails None e = cc

number_front : {A : Type 0} (p : Place) (o : ℕ) (r : Result (A × ℕ) LebFault) → number_of p r ≡ failed o → o ≡ p.at
number_front p o (Ok x) e = absurd cc
number_front p o (Err f) e = cc

pub u32_front : FailsAtFront u32_item
unfolding u32_item
u32_front p o e = number_front p o (u32_at p.block p.at) e

pub s32_front : FailsAtFront s32_item
unfolding s32_item
s32_front p o e = number_front p o (s32_at p.block p.at) e

pub s64_front : FailsAtFront s64_item
unfolding s64_item
s64_front p o e = number_front p o (s64_at p.block p.at) e

pub run_front : (n : ℕ) → FailsAtFront (run_item n)
unfolding run_item
run_front n p o e = elim (chosen (leb n (length p.block - p.at)) _ _ (failed o) e) [
  | inl c ↦ absurd cc
  | inr c ↦ cc
]

pub made_err : {A B : Type 0} (to : A → B) (r : Read A) (o : ℕ) → (r >>= λ y. Ok (to y.0, y.1)) ≡ failed o → r ≡ failed o
made_err to (Ok y) o e = absurd cc
made_err to (Err u) o e = let same : u ≡ o = cc in ap failed same

pub mapped_front : {A B : Type 0} (to : A → B) (f : Place → Read A) → FailsAtFront f → FailsAtFront (mapped to f)
mapped_front to f front p o e = front p o (made_err to (f p) o e)

pub checked_front : {A : Type 0} (test : A → Bool) (f : Place → Read A) → FailsAtFront f → FailsAtFront (checked test f)
checked_front test f front p o e = elim (bind_err (f p) (if_passes test p.at) o e) [
  | inl r ↦ front p o r
  | inr r ↦ elim (chosen (test r.0) _ _ (failed o) r.3) [
    | inl c ↦ absurd cc
    | inr c ↦ cc
  ]
]

front_err : {A : Type 0} (at o : ℕ) (r : Read A) → at_front at r ≡ failed o → o ≡ at
front_err at o (Ok x) e = absurd cc
front_err at o (Err u) e = cc

pub as_one_front : {A : Type 0} (f : Place → Read A) → FailsAtFront (as_one f)
as_one_front f p o e = front_err p.at o (f p) e

-- ---- single items

pub byte_stops_at : StopsAt (unread byte) byte_item
byte_stops_at = unread_stops_at byte byte_item byte_exact byte_front

pub one_of_stops_at : (set : ℕ → Bool) → StopsAt (unread (one_of set)) (one_of_item set)
unfolding one_of_item
one_of_stops_at set = unread_stops_at (one_of set) (one_of_item set) (one_of_exact set) (checked_front set byte_item byte_front)

pub fixed_front : (b : ℕ) → FailsAtFront (fixed_item b)
unfolding fixed_item one_of_item
fixed_front b = mapped_front (λ c. tt) (one_of_item (λ c. eqb c b)) (checked_front (λ c. eqb c b) byte_item byte_front)

pub fixed_stops_at : (b : ℕ) → StopsAt (unread (always (byte b))) (fixed_item b)
fixed_stops_at b = unread_stops_at (always (byte b)) (fixed_item b) (fixed_exact b) (fixed_front b)

pub u32_stops_at : StopsAt (unread u32) u32_item
u32_stops_at = unread_stops_at u32 u32_item u32_exact u32_front

pub s32_stops_at : StopsAt (unread s32) s32_item
s32_stops_at = unread_stops_at s32 s32_item s32_exact s32_front

pub s64_stops_at : StopsAt (unread s64) s64_item
s64_stops_at = unread_stops_at s64 s64_item s64_exact s64_front

pub run_stops_at : (n : ℕ) → StopsAt (unread (run n)) (run_item n)
run_stops_at n = unread_stops_at (run n) (run_item n) (run_exact n) (run_front n)

pub name_front : FailsAtFront name_item
unfolding name_item
name_front = as_one_front (checked is_utf8 sized_run_item)

pub name_stops_at : StopsAt (unread name) name_item
name_stops_at = unread_stops_at name name_item name_exact name_front

pub named_front : (title : List ℕ) → FailsAtFront (named_item title)
unfolding named_item
named_front title = mapped_front (λ n. tt) (checked (λ n. bytes_eq n title) name_item) (checked_front (λ n. bytes_eq n title) name_item name_front)

pub named_stops_at : (title : List ℕ) → StopsAt (unread (always (name title))) (named_item title)
named_stops_at title = unread_stops_at (always (name title)) (named_item title) (named_exact title) (named_front title)

pub done_stops_at : {A : Type 0} (x : A) → StopsAt never (done_item x)
done_stops_at x = record { only = λ before after o fits read. absurd cc; again = λ before after o fits stops. absurd stops }

pub here_stops_at : StopsAt never here_item
here_stops_at = record { only = λ before after o fits read. absurd cc; again = λ before after o fits stops. absurd stops }

-- ---- items put together

pub same_stops_at : {A : Type 0} (s t : ℕ → List ℕ → ℕ → Type 0) (f : Place → Read A) → ((at : ℕ) (bytes : List ℕ) (o : ℕ) → s at bytes o → t at bytes o) → ((at : ℕ) (bytes : List ℕ) (o : ℕ) → t at bytes o → s at bytes o) → StopsAt s f → StopsAt t f
same_stops_at s t f made parts h = record {
  only = λ before after o fits read. made (length before) after o (h.only before after o fits read);
  again = λ before after o fits stops. h.again before after o fits (parts (length before) after o stops);
}

pub mapped_stops_at : {A B : Type 0} (to : A → B) (s : ℕ → List ℕ → ℕ → Type 0) (f : Place → Read A) → StopsAt s f → StopsAt s (mapped to f)
mapped_stops_at to s f h = record {
  only = λ before after o fits read. h.only before after o fits (made_err to (f (place before after)) o read);
  again = λ before after o fits stops. rw (h.again before after o fits stops) refl;
}

-- what the first of two does, where the second fails
pub first_fails : {A B : Type 0} (S : A → ℕ → List ℕ → Type 0) (f : Place → Read A) → IsExact S f → (before after : List ℕ) (g : A × Place → Read B) (o : ℕ) → IsBytes after → (f (place before after) >>= g) ≡ failed o
    → (f (place before after) ≡ failed o) ⊎ ((x : A) × (front : List ℕ) × (rest : List ℕ) × S x (length before) front × (after ≡ front ++ rest) × IsBytes rest × (g (x, place (before ++ front) rest) ≡ failed o))
first_fails S f e before after g o fits read = elim (bind_err (f (place before after)) g o read) [
  | inl r ↦ inl r
  | inr r ↦ let t = e.sound before after r.0 r.1 fits r.2 in inr (r.0, t.front, t.rest, t.is, t.parts, t.bytes, ap (λ (p : Place). g (r.0, p)) (sym t.behind) ∙ r.3)
]

pub leads_stops_at : {A B : Type 0} (S : A → ℕ → List ℕ → Type 0) (one : ℕ → List ℕ → ℕ → Type 0) (other : A → ℕ → List ℕ → ℕ → Type 0) (f : Place → Read A) (g : A → Place → Read B)
    → IsExact S f → StopsAt one f → ((x : A) → StopsAt (other x) (g x)) → StopsAt (either one (behind S other)) (f ▷ g)
leads_stops_at S one other f g e h k = record {
  only = λ before after o fits read. elim (first_fails S f e before after (λ x. g x.0 x.1) o fits read) [
    | inl r ↦ inl (h.only before after o fits r)
    | inr r ↦
        let stops = (k r.0).only (before ++ r.1) r.2 o r.5 r.6 in
        inr (r.0, r.1, r.2, r.3, r.4, subst (λ (n : ℕ). other r.0 n r.2 o) (length-append before r.1) stops)
  ];
  again = λ before after o fits stops. elim stops [
    | inl s ↦ rw (h.again before after o fits s) refl
    | inr s ↦
        let first = e.again before s.1 s.2 s.0 s.3 in
        let bytes : IsBytes s.2 = IsBytes-rest s.1 s.2 (subst IsBytes s.4 fits) in
        let here = subst (λ (n : ℕ). other s.0 n s.2 o) (sym (length-append before s.1)) s.5 in
        let second = (k s.0).again (before ++ s.1) s.2 o bytes here in
        rw (s.4, first, second) refl
  ];
}

pub then_stops_at : {A B : Type 0} (S : A → ℕ → List ℕ → Type 0) (one other : ℕ → List ℕ → ℕ → Type 0) (f : Place → Read A) (g : Place → Read B) → IsExact S f → StopsAt one f → StopsAt other g → StopsAt (then_stops S one other) (f ⊗ g)
then_stops_at {A} {B} S one other f g e h k = leads_stops_at S one (λ x. other) f (λ x. mapped (λ (y : B). (x, y)) g) e h (λ x. mapped_stops_at (λ (y : B). (x, y)) other g k)

pub as_one_stops_at : {A : Type 0} (S : A → ℕ → List ℕ → Type 0) (f : Place → Read A) → IsExact S f → StopsAt (unread S) (as_one f)
as_one_stops_at S f e = unread_stops_at S (as_one f) (as_one_exact S f e) (as_one_front f)

pub checked_stops_at : {A : Type 0} (test : A → Bool) (S : A → ℕ → List ℕ → Type 0) (s : ℕ → List ℕ → ℕ → Type 0) (f : Place → Read A) → IsExact S f → StopsAt s f → StopsAt (either s (refused test S)) (checked test f)
checked_stops_at test S s f e h = record {
  only = λ before after o fits read. elim (first_fails S f e before after (if_passes test (length before)) o fits read) [
    | inl r ↦ inl (h.only before after o fits r)
    | inr r ↦ elim (chosen (test r.0) _ _ (failed o) r.6) [
      | inl c ↦ absurd cc
      | inr c ↦ let at : o ≡ length before = cc in inr (at, r.0, r.1, r.2, r.3, r.4, c.0)
    ]
  ];
  again = λ before after o fits stops. elim stops [
    | inl s ↦ rw (h.again before after o fits s) refl
    | inr s ↦
        let first = e.again before s.2 s.3 s.1 s.4 in
        rw (s.5, first, s.6, s.0) refl
  ];
}

-- a length, and as many bytes
pub sized_run_stops_at : StopsAt sized_run_stops sized_run_item
unfolding sized_run_item
sized_run_stops_at = leads_stops_at u32 (unread u32) (λ n. unread (run n)) u32_item run_item u32_exact u32_stops_at run_stops_at

-- ---- bytes that have to be these

no_byte : (b : ℕ) (before after : List ℕ) → IsBytes after → ((more : List ℕ) → after ≡ b ∷ more → ⊥) → fixed_item b (place before after) ≡ failed (length before)
no_byte b before after fits none = (fixed_stops_at b).again before after (length before) fits (refl, λ u front rest s parts. none rest (parts ∙ ap (λ (t : List ℕ). t ++ rest) s))

text_only : (expected before after : List ℕ) (o : ℕ) → IsBytes after → bytes_item expected (place before after) ≡ failed o → text_stops expected (length before) after o
unfolding bytes_item
text_only [] before after o fits read = absurd cc
text_only (b ∷ bs) before after o fits read = elim (first_fails (always (byte b)) (fixed_item b) (fixed_exact b) before after (λ x. bytes_item bs x.1) o fits read) [
  | inl r ↦
      let s = (fixed_stops_at b).only before after o fits r in
      ([], b, bs, after, refl, refl, (let at : o ≡ length before + 0 = omega (arith, s.0) in at), λ more e. s.1 tt (b ∷ []) more refl e)
  | inr r ↦
      let s = text_only bs (before ++ r.1) r.2 o r.5 r.6 in
      let at : o ≡ length before + length (b ∷ s.0) = omega (arith, s.6, length-append before r.1, ap length r.3) in
      (b ∷ s.0, s.1, s.2, s.3, ap (λ (t : List ℕ). b ∷ t) s.4, r.4 ∙ ap (λ (t : List ℕ). t ++ r.2) r.3 ∙ ap (λ (t : List ℕ). b ∷ t) s.5, at, s.7)
]

text_again : (same expected before rest : List ℕ) (b : ℕ) (more : List ℕ) → IsBytes rest → expected ≡ same ++ b ∷ more → ((after : List ℕ) → rest ≡ b ∷ after → ⊥) → bytes_item expected (place before (same ++ rest)) ≡ failed (length before + length same)
unfolding bytes_item
text_again [] expected before rest b more fits is none =
    let at : length before ≡ length before + 0 = omega arith in
    rw (is, no_byte b before rest fits none) (ap failed at)
text_again (c ∷ same) expected before rest b more fits is none =
    let one = (fixed_exact c).again before (c ∷ []) (same ++ rest) tt refl in
    let two = text_again same (same ++ b ∷ more) (before ++ c ∷ []) rest b more fits refl none in
    let at : length (before ++ c ∷ []) + length same ≡ length before + length (c ∷ same) = omega (arith, length-append before (c ∷ [])) in
    rw (is, one, two) (ap failed at)

pub text_stops_at : (expected : List ℕ) → StopsAt (text_stops expected) (bytes_item expected)
text_stops_at expected = record {
  only = text_only expected;
  again = λ before after o fits s.
      let bytes : IsBytes s.3 = IsBytes-rest s.0 s.3 (subst IsBytes s.5 fits) in
      rw (s.5, s.6) (text_again s.0 expected before s.3 s.1 s.2 bytes s.4 s.7);
}
