-- The names that a list of invocations creates.
use Rattle.std.proofs.Common.{◌≡◌, ◌+◌, ◌<◌, ◌≤◌, ◌⊎◌, ℕ, List, [], ◌∷◌, ◌++◌, zero, suc, length, true, false, refl, sym, subst, arith, inl, inr, Contains, Some}
use Rattle.std.specs.Prelude.{if◌then◌else◌}
use Rattle.std.proofs.lemmas.List.Elements.{Contains-append_cases}
use Rattle.pm_outside.specs.Created.{is_named, with_name}
use Rattle.run_words.specs.declared.words.RunWords.{RunWords}
use Rattle.run_session.specs.RunText.{dump_name}
use Rattle.run_session.specs.Created.{CreatesOnly, IsRunName}
use Rattle.run_session.specs.calls.Creating.{MayCreate, IsDumpName}

-- the one name of a list
the_only : (file name : List ℕ) → Contains (file ∷ []) name → name ≡ file
the_only file name (zero, within, is) = sym is
the_only file name (suc k, within, is) = absurd (omega (arith, within))

of_with_name : (names : List (List ℕ)) (file name : List ℕ) → Contains (with_name names file) name → Contains names name ⊎ (name ≡ file)
of_with_name names file name =
    elim (is_named names file) as (λ b. Contains (if b then names else names ++ file ∷ []) name → Contains names name ⊎ (name ≡ file)) [
      | true ↦ λ has. inl has
      | false ↦ λ has. elim (Contains-append_cases names (file ∷ []) name has) [ inl old ↦ inl old | inr new ↦ inr (the_only file name new) ]
    ]

-- as many names are admitted, and one that may be created now
pub creates_one : (IsOne : List ℕ → Type 0) (file : List ℕ) (before now : List (List ℕ)) → IsOne file → MayCreate file before now → CreatesOnly IsOne before now
creates_one IsOne file before now is (inl same) name has = inl (subst (λ (names : List (List ℕ)). Contains names name) same has)
creates_one IsOne file before now is (inr more) name has =
    elim (of_with_name before file name (subst (λ (names : List (List ℕ)). Contains names name) more has)) [ inl old ↦ inl old | inr new ↦ inr (subst IsOne (sym new) is) ]

pub creates_none : (IsOne : List ℕ → Type 0) (before now : List (List ℕ)) → now ≡ before → CreatesOnly IsOne before now
creates_none IsOne before now same name has = inl (subst (λ (names : List (List ℕ)). Contains names name) same has)

-- one after the other
pub creates_then : (IsOne : List ℕ → Type 0) (first second third : List (List ℕ)) → CreatesOnly IsOne first second → CreatesOnly IsOne second third → CreatesOnly IsOne first third
creates_then IsOne first second third x y name has = elim (y name has) [ inl old ↦ x name old | inr new ↦ inr new ]

-- behind fewer invocations than there are
pub creates_dump : (base : List ℕ) (traps index all : ℕ) (first second third : List (List ℕ)) → traps ≤ index → index < all → CreatesOnly (IsDumpName base all) first second → MayCreate (dump_name base traps) second third → CreatesOnly (IsDumpName base all) first third
creates_dump base traps index all first second third low below x y =
    creates_then (IsDumpName base all) first second third x (creates_one (IsDumpName base all) (dump_name base traps) second third (traps, omega (arith, low, below), refl) y)

-- the dumps of a run, and then its record
pub creates_run : (w : RunWords) (first second third : List (List ℕ)) → CreatesOnly (IsDumpName w.dump (length w.invocations)) first second → CreatesOnly (λ name. w.log_to ≡ Some name) second third → CreatesOnly (IsRunName w) first third
creates_run w first second third x y name has = elim (y name has) [ inl there ↦ elim (x name there) [ inl old ↦ inl old | inr dump ↦ inr (inl dump) ] | inr asked ↦ inr (inr asked) ]
