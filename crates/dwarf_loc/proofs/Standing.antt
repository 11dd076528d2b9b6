-- What stands at an offset of a section is what is read there.
use Rattle.std.proofs.Common.{◌≡◌, ℕ, ◌+◌, ◌-◌, ◌<◌, ◌≤◌, ◌↔◌, List, ◌++◌, length, take, drop, Option, Some, None, Ok, Err, refl, sym, ◌∙◌, inl, inr, arith}
use Rattle.std.specs.Prelude.{option_map}
use Rattle.std.proofs.lemmas.Bool.{cases_lt}
use Rattle.std.proofs.lemmas.List.{take-append-drop, length-take-le}
use Rattle.wasm_bytes.specs.Place.{Place, Read}
use Rattle.wasm_bytes.specs.Laws.{IsBytes, place, IsExact}
use Rattle.wasm_bytes.proofs.Places.{place_is}
use Rattle.dwarf_bytes.specs.Items.{ended_from, ended_item, read_at}
use Rattle.dwarf_bytes.specs.calls.Spelled.{StandsAt}
use Rattle.dwarf_bytes.specs.calls.Answers.{found_at}
use Rattle.dwarf_bytes.specs.declared.faults.ReadFault.TheVariants.{Unreadable}
use Rattle.dwarf_bytes.proofs.Standing.{stands_read, read_stands}

-- a section is what stands before an offset and behind it
before_at : (section : List ℕ) (at : ℕ) → at ≤ length section → place (take at section) (drop at section) ≡ (let p : Place = record { block = section; at = at } in p)
before_at section at inside = place_is (take at section ++ drop at section) section (length (take at section)) at (take-append-drop at section) (length-take-le at section inside)

-- no list stands past the end
pub past_end : {A : Type 0} (f : Place → Read (Option A)) (section : List ℕ) (at : ℕ) → length section < at → read_at (ended_item f) section at ≡ None
unfolding ended_item ended_from
past_end f section at past = let none : length section + 1 - at ≡ 0 = omega arith in rw none refl

-- ---- what a call answers that reads a list

pub answer_spelled : {A B : Type 0} (S : A → ℕ → List ℕ → Type 0) (f : Place → Read A) → IsExact S f → (answer : A → B)
    → (section : List ℕ) (at : ℕ) (x : A) → StandsAt S x section at → found_at at (option_map answer (read_at f section at)) ≡ Ok (answer x)
answer_spelled S f e answer section at x s = let read = stands_read S f e section at x s in rw read refl

unread : {A B : Type 0} (at : ℕ) (answer : A → B) (o : Option A) → found_at at (option_map answer o) ≡ Err (Unreadable at) → o ≡ None
unread at answer None e = refl
unread at answer (Some x) e = absurd cc

pub none_read : {A : Type 0} (o : Option A) → ((x : A) → o ≡ Some x → ⊥) → o ≡ None
none_read None h = refl
none_read (Some x) h = absurd (h x refl)

none_stands : {A : Type 0} (S : List A → ℕ → List ℕ → Type 0) (f : Place → Read (Option A)) → IsExact S (ended_item f)
    → (section : List ℕ) (at : ℕ) → IsBytes section → ((xs : List A) → StandsAt S xs section at → ⊥) → read_at (ended_item f) section at ≡ None
none_stands S f e section at fits h = elim (cases_lt (length section) at) [
  | inl past ↦ past_end f section at past
  | inr inside ↦ none_read (read_at (ended_item f) section at) (λ xs read. h xs (read_stands S (ended_item f) e section at xs fits inside read))
]

pub answer_unreadable : {A B : Type 0} (S : List A → ℕ → List ℕ → Type 0) (f : Place → Read (Option A)) → IsExact S (ended_item f) → (answer : List A → B)
    → (section : List ℕ) (at : ℕ) → IsBytes section
    → (found_at at (option_map answer (read_at (ended_item f) section at)) ≡ Err (Unreadable at)) ↔ ((xs : List A) → StandsAt S xs section at → ⊥)
answer_unreadable {A} S f e answer section at fits = (
  λ failed xs s.
      let none : None ≡ Some xs = sym (unread at answer (read_at (ended_item f) section at) failed) ∙ stands_read S (ended_item f) e section at xs s in
      absurd cc,
  λ h. let none = none_stands S f e section at fits h in rw none refl,
)
