-- A test that chooses between two ways to read.
use Rattle.std.proofs.Common.{◌≡◌, ℕ, Bool, true, false, List, Option, Some, None, Ok, Err, refl, sym, inl, inr, ◌∙◌}
use Rattle.std.specs.Prelude.{if◌then◌else◌}
use Rattle.wasm_bytes.specs.Place.{Place, Read}
use Rattle.wasm_bytes.specs.Reading.{◌>>=◌, ◌▷◌, closed, end_item}
use Rattle.wasm_bytes.specs.Laws.{place, IsExact, IsTail, StopsAt, PicksExact, PicksStops}
use Rattle.wasm_bytes.proofs.Exact.{same_exact}
use Rattle.wasm_bytes.proofs.ExactBlocks.{same_tail}
use Rattle.wasm_bytes.proofs.Stops.{same_stops_at}
use Rattle.dump_format.specs.calls.Grammar.{on_test, no_spelling}
use Rattle.dump_format.specs.calls.Breaking.{stops_on_test, or_else}

-- ---- a language by a test

true_again : {A : Type 0} (S T : A → ℕ → List ℕ → Type 0) (x : A) (at : ℕ) (front : List ℕ) → on_test true S T x at front → S x at front
true_again S T x at front s = elim s [ inl p ↦ p.1 | inr p ↦ absurd cc ]

false_again : {A : Type 0} (S T : A → ℕ → List ℕ → Type 0) (x : A) (at : ℕ) (front : List ℕ) → on_test false S T x at front → T x at front
false_again S T x at front s = elim s [ inl p ↦ absurd cc | inr p ↦ p.1 ]

pub on_test_exact : {A : Type 0} (b : Bool) (S T : A → ℕ → List ℕ → Type 0) (f g : Place → Read A) → IsExact S f → IsExact T g → IsExact (on_test b S T) (if b then f else g)
on_test_exact true S T f g e h = same_exact S (on_test true S T) f (λ x at front s. inl (refl, s)) (true_again S T) e
on_test_exact false S T f g e h = same_exact T (on_test false S T) g (λ x at front s. inr (refl, s)) (false_again S T) h

pub on_test_closed : {A : Type 0} (b : Bool) (S T : A → ℕ → List ℕ → Type 0) (f g : Place → Read A) → IsTail S (closed f) → IsTail T (closed g) → IsTail (on_test b S T) (closed (if b then f else g))
on_test_closed true S T f g e h = same_tail S (on_test true S T) (closed f) (λ x at front s. inl (refl, s)) (true_again S T) e
on_test_closed false S T f g e h = same_tail T (on_test false S T) (closed g) (λ x at front s. inr (refl, s)) (false_again S T) h

none_picks : {A : Type 0} (S T : A → ℕ → List ℕ → Type 0) (pick : Option (Place → Read A)) → PicksExact T pick → PicksExact (on_test false S T) pick
none_picks S T (Some g) h = same_exact T (on_test false S T) g (λ x at front s. inr (refl, s)) (false_again S T) h
none_picks S T None h = λ x at front s. h x at front (false_again S T x at front s)

pub on_test_picks : {A : Type 0} (b : Bool) (S T : A → ℕ → List ℕ → Type 0) (f : Place → Read A) (pick : Option (Place → Read A)) → IsExact S f → PicksExact T pick → PicksExact (on_test b S T) (if b then Some f else pick)
on_test_picks true S T f pick e h = same_exact S (on_test true S T) f (λ x at front s. inl (refl, s)) (true_again S T) e
on_test_picks false S T f pick e h = none_picks S T pick h

pub no_spelling_picks : {A : Type 0} (x : A) (at : ℕ) (front : List ℕ) → no_spelling x at front → ⊥
no_spelling_picks x at front s = s

-- ---- an item that knows its offset

-- ---- two functions that read the same

pub same_closed : {A : Type 0} (S : A → ℕ → List ℕ → Type 0) (f g : Place → Read A) → ((p : Place) → f p ≡ g p) → IsTail S g → IsTail S f
same_closed S f g same e = record {
  sound = λ before after x q fits read. e.sound before after x q fits (sym (same (place before after)) ∙ read);
  again = λ before after x s. same (place before after) ∙ e.again before after x s;
}

pub closed-leads : {A B : Type 0} (f : Place → Read A) (g : A → Place → Read B) (p : Place) → closed (f ▷ g) p ≡ (f ▷ (λ x. closed (g x))) p
closed-leads {A} {B} f g p = cases (f p) where
  cases : (read : Read A) → ((read >>= λ x. g x.0 x.1) >>= λ y. end_item y.1 >>= λ e. Ok (y.0, e.1)) ≡ (read >>= λ x. g x.0 x.1 >>= λ y. end_item y.1 >>= λ e. Ok (y.0, e.1))
  cases (Ok x) = refl
  cases (Err at) = refl

-- ---- where reading stops

true_stops : (s t : ℕ → List ℕ → ℕ → Type 0) (at : ℕ) (bytes : List ℕ) (o : ℕ) → stops_on_test true s t at bytes o → s at bytes o
true_stops s t at bytes o x = elim x [ inl p ↦ p.1 | inr p ↦ absurd cc ]

false_stops : (s t : ℕ → List ℕ → ℕ → Type 0) (at : ℕ) (bytes : List ℕ) (o : ℕ) → stops_on_test false s t at bytes o → t at bytes o
false_stops s t at bytes o x = elim x [ inl p ↦ absurd cc | inr p ↦ p.1 ]

pub on_test_stops : {A : Type 0} (b : Bool) (s t : ℕ → List ℕ → ℕ → Type 0) (f g : Place → Read A) → StopsAt s (closed f) → StopsAt t (closed g) → StopsAt (stops_on_test b s t) (closed (if b then f else g))
on_test_stops true s t f g e h = same_stops_at s (stops_on_test true s t) (closed f) (λ at bytes o x. inl (refl, x)) (true_stops s t) e
on_test_stops false s t f g e h = same_stops_at t (stops_on_test false s t) (closed g) (λ at bytes o x. inr (refl, x)) (false_stops s t) h

none_stops : {A : Type 0} (P : Type 0) (s t : ℕ → List ℕ → ℕ → Type 0) (pick : Option (Place → Read A)) → PicksStops P t pick → PicksStops (or_else false P) (stops_on_test false s t) pick
none_stops P s t (Some g) h = (inr (refl, h.0), same_stops_at t (stops_on_test false s t) g (λ at bytes o x. inr (refl, x)) (false_stops s t) h.1)
none_stops P s t None h = λ x. elim x [ inl e ↦ absurd cc | inr p ↦ h p.1 ]

pub picks_stops : {A : Type 0} (b : Bool) (P : Type 0) (s t : ℕ → List ℕ → ℕ → Type 0) (f : Place → Read A) (pick : Option (Place → Read A)) → StopsAt s f → PicksStops P t pick → PicksStops (or_else b P) (stops_on_test b s t) (if b then Some f else pick)
picks_stops true P s t f pick e h = (inl refl, same_stops_at s (stops_on_test true s t) f (λ at bytes o x. inl (refl, x)) (true_stops s t) e)
picks_stops false P s t f pick e h = none_stops P s t pick h

pub same_item_stops : {A : Type 0} (s : ℕ → List ℕ → ℕ → Type 0) (f g : Place → Read A) → ((p : Place) → f p ≡ g p) → StopsAt s g → StopsAt s f
same_item_stops s f g same e = record {
  only = λ before after o fits read. e.only before after o fits (sym (same (place before after)) ∙ read);
  again = λ before after o fits stops. same (place before after) ∙ e.again before after o fits stops;
}
