-- A program that is kept beside its offset: one more.
use Rattle.std.proofs.Common.{◌≡◌, ℕ, ◌<◌, Bool, true, false, cond, eqb, List, [], ◌∷◌, ◌++◌, length, Option, Some, None, refl, sym, ap, ◌∙◌, inl, inr, arith}
use Rattle.std.specs.Prelude.{slice_get, option_map, option_and_then, IfSome}
use Rattle.std.specs.Option.{is_some}
use Rattle.std.specs.Ordering.{nat_cmp, is_eq}
use Rattle.std.proofs.lemmas.Option.{slice_get_cases}
use Rattle.std.proofs.lemmas.List.{map-append}
use Rattle.pm_text.proofs.Lists.{is_eq_at}
use Rattle.dwarf_abbrev.specs.calls.Places.{IsPlaced}
use Rattle.dwarf_abbrev.proofs.Places.{new_placed}
use Rattle.dwarf_info.specs.Sections.{SectionBytes5}
use Rattle.debug_frames.specs.declared.stored.Stored.{Stored}
use Rattle.debug_frames.specs.Programs.{program_there}
use Rattle.debug_frames.specs.calls.Kept.{program_at, with_program}
use Rattle.debug_frames.specs.inner.Stores.{AreStored, seen, seen_one}
use Rattle.debug_frames.proofs.Kept.{none_there}
use Rattle.debug_frames.proofs.StoreLaws.{shown_at, some_shown}

abbrev pub Placed : List (ℕ × Stored) → (ℕ → Option ℕ) → Type 0
Placed xs place = IsPlaced (λ (x : ℕ × Stored). x.0) xs place

abbrev kept_by : List (ℕ × Stored) → Option ℕ → Option Stored
kept_by xs o = option_map (λ (x : ℕ × Stored). x.1) (option_and_then (slice_get xs) o)

-- A program is seen at an offset where a place is known that is in the list.
some_at : (s : SectionBytes5) (xs : List (ℕ × Stored)) (place : ℕ → Option ℕ) (at : ℕ) → Placed xs place → AreStored s xs → is_some (program_at (seen s xs) at) ≡ is_some (kept_by xs (place at))
some_at s xs place at placed all =
    sym (some_shown (program_there s at) (program_at (seen s xs) at) _ (shown_at s at xs all)) ∙ ap (λ (o : Option (ℕ × Stored)). is_some (option_map (λ (x : ℕ × Stored). x.1) o)) (sym (placed at).0)

there_by : (xs : List (ℕ × Stored)) (o : Option ℕ) → is_some o ≡ true → IfSome o (λ i. i < length xs) → is_some (kept_by xs o) ≡ true
there_by xs None some inside = absurd cc
there_by xs (Some i) some inside = elim (slice_get_cases xs i).1 [
  | inl s ↦ rw s.2 refl
  | inr s ↦ absurd (omega (arith, inside, s.0))
]

-- Its place is known: nothing is added.
pub kept_known : (s : SectionBytes5) (xs : List (ℕ × Stored)) (place : ℕ → Option ℕ) (at : ℕ) → Placed xs place → AreStored s xs → is_some (place at) ≡ true → seen s xs ≡ with_program s (seen s xs) (Some at)
kept_known s xs place at placed all some =
    let there : is_some (program_at (seen s xs) at) ≡ true = some_at s xs place at placed all ∙ there_by xs (place at) some (placed at).1 in
    sym (rw there refl)

-- No place is known: it is added behind the others.
pub kept_new : (s : SectionBytes5) (xs after : List (ℕ × Stored)) (place : ℕ → Option ℕ) (at : ℕ) (x : Stored) → Placed xs place → AreStored s xs → is_some (place at) ≡ false → after ≡ xs ++ (at, x) ∷ []
    → seen s after ≡ with_program s (seen s xs) (Some at)
kept_new s xs after place at x placed all none e =
    let absent : is_some (program_at (seen s xs) at) ≡ false = some_at s xs place at placed all ∙ ap (λ (o : Option ℕ). is_some (kept_by xs o)) (none_there (place at) none) in
    ap (seen s) e ∙ map-append (seen_one s) xs ((at, x) ∷ []) ∙ sym (rw absent refl)

pub placed_new : (xs after : List (ℕ × Stored)) (place placed_after : ℕ → Option ℕ) (at n : ℕ) (x : Stored) → Placed xs place → is_some (place at) ≡ false → n ≡ length xs
    → ((q : ℕ) → placed_after q ≡ cond (is_eq (nat_cmp at q)) (Some n) (place q)) → after ≡ xs ++ (at, x) ∷ [] → Placed after placed_after
placed_new xs after place placed_after at n x placed none size update e =
    let updated : (q : ℕ) → placed_after q ≡ cond (eqb at q) (Some (length xs)) (place q) = λ q.
    update q ∙ ap (λ (b : Bool). cond b (Some n) (place q)) (is_eq_at at q) ∙ ap (λ (k : ℕ). cond (eqb at q) (Some k) (place q)) size in
    rw e (new_placed (λ (x : ℕ × Stored). x.0) xs (at, x) place placed_after placed (none_there (place at) none) updated)
