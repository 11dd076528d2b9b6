-- The levels of an array behind its first subranges.
use Rattle.std.proofs.Common.{◌≡◌, ℕ, zero, suc, ◌+◌, ◌-◌, ◌<◌, ◌≤◌, List, [], ◌∷◌, Option, Some, None, length, drop, refl, sym, ap, subst, ◌∙◌, arith}
use Rattle.std.specs.Prelude.{◌^◌, IsSome, slice_get, option_and_then, unwrap_or}
use Rattle.std.proofs.Math.ListN.{drop_of_length-le}
use Rattle.dwarf_types.specs.Products.{times, array_size}
use Rattle.dwarf_types.specs.calls.Subranges.{Subranges, size_behind}
use Rattle.dwarf_types.proofs.SizeLaws.{times_none}
use Rattle.var_values.specs.Values.{row_size}
use Rattle.var_values.specs.declared.levels.Level.{Level}
use Rattle.var_values.specs.inner.Odometer.{level_of, level_at, levels, sized_levels, levels_behind, whole, AreNested}
use Rattle.var_values.proofs.LevelLaws.{no_some, sizes_fit, fit_of}

-- ---- one by one

there_by : (cs : List (Option ℕ)) (size : Option ℕ) (k : ℕ) → k < length cs
    → sized_levels (drop k cs) size ≡ level_of (option_and_then (λ c. c) (slice_get cs k)) (unwrap_or (array_size (drop (k + 1) cs) size) 0) ∷ sized_levels (drop (k + 1) cs) size
there_by [] size k lt = absurd (omega arith)
there_by (c ∷ cs) size zero lt = refl
there_by (c ∷ cs) size (suc k) lt =
    let less : k < length cs = omega arith in
    let more : suc k + 1 ≡ suc (k + 1) = omega arith in
    rw more (there_by cs size k less)

pub levels_there : (a : Subranges) (k : ℕ) → k < length a.counts → levels_behind a k ≡ level_at a k ∷ levels_behind a (k + 1)
levels_there a k lt = there_by a.counts (Some a.element) k lt

pub none_behind : (a : Subranges) (k : ℕ) → length a.counts ≤ k → levels_behind a k ≡ []
none_behind a k past = ap (λ (cs : List (Option ℕ)). sized_levels cs (Some a.element)) (drop_of_length-le a.counts past)

-- ---- the levels of an array with a size

by_inner : (c : Option ℕ) (cs : List (Option ℕ)) (size : ℕ) (o : Option ℕ) → array_size cs (Some size) ≡ o → IsSome (times c o) → (IsSome (array_size cs (Some size)) → sized_levels cs (Some size) ≡ levels cs size)
    → level_of c (unwrap_or (array_size cs (Some size)) 0) ∷ sized_levels cs (Some size) ≡ level_of c (row_size cs size) ∷ levels cs size
by_inner c cs size None e h rest = no_some (times c None) (times_none c) h
by_inner c cs size (Some t) e h rest =
    let step : unwrap_or (array_size cs (Some size)) 0 ≡ row_size cs size = ap (λ (o : Option ℕ). unwrap_or o 0) e ∙ sym ((sizes_fit cs size t e).row) in
    ap (λ (n : ℕ). level_of c n ∷ sized_levels cs (Some size)) step
    ∙ ap (λ (ls : List Level). level_of c (row_size cs size) ∷ ls) (rest (subst (λ (o : Option ℕ). IsSome o) (sym e) refl))

pub sized_are : (cs : List (Option ℕ)) (size : ℕ) → IsSome (array_size cs (Some size)) → sized_levels cs (Some size) ≡ levels cs size
unfolding array_size
sized_are [] size h = refl
sized_are (c ∷ cs) size h = by_inner c cs size (array_size cs (Some size)) refl h (λ some. sized_are cs size some)

pub behind_nested : (a : Subranges) (k : ℕ) → IsSome (size_behind a k) → AreNested (levels_behind a k)
behind_nested a k h =
    subst (λ (ls : List Level). AreNested ls) (sym (sized_are (drop k a.counts) a.element h)) ((fit_of (drop k a.counts) a.element (size_behind a k) refl h).1.nested)

pub behind_fits : (a : Subranges) (k : ℕ) → IsSome (size_behind a k) → whole (levels_behind a k) < 2 ^ 64
behind_fits a k h =
    subst (λ (ls : List Level). whole ls < 2 ^ 64) (sym (sized_are (drop k a.counts) a.element h)) ((fit_of (drop k a.counts) a.element (size_behind a k) refl h).1.fits)
