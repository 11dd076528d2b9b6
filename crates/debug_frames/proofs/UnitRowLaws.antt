-- What is kept of line programs gives the rows that the units give.
use Rattle.std.proofs.Common.{◌≡◌, ℕ, Bool, true, false, List, [], ◌∷◌, ◌++◌, Option, Some, None, refl, sym, ap, ◌∙◌, arith}
use Rattle.std.specs.Prelude.{fold, is_some, nat_eq, if◌then◌else◌}
use Rattle.std.specs.Option.{option_or}
use Rattle.std.specs.List.{AllByRecursion}
use Rattle.dwarf_info.specs.declared.entry.UnitAnswer.{UnitAnswer}
use Rattle.dwarf_info.specs.Sections.{SectionBytes5}
use Rattle.dwarf_info.proofs.FindLaws.{or_none, or_or}
use Rattle.dwarf_line.specs.Place.{Located}
use Rattle.debug_frames.specs.declared.programs.Program.{Program}
use Rattle.debug_frames.specs.Programs.{named, program_there, located_in, located_there, located_at}
use Rattle.debug_frames.specs.calls.Kept.{program_at, with_program, programs_of, located_among}

-- what is kept at an offset is what stands there
abbrev pub Right : SectionBytes5 → List (ℕ × Program) → Type 0
Right s programs = AllByRecursion (λ (p : ℕ × Program). p.1 ≡ program_there s p.0) programs

right_more : (s : SectionBytes5) (programs : List (ℕ × Program)) (at : ℕ) → Right s programs → Right s (programs ++ (at, program_there s at) ∷ [])
right_more s [] at h = (refl, tt)
right_more s (p ∷ programs) at h = (h.0, right_more s programs at h.1)

located_more : (programs : List (ℕ × Program)) (p : ℕ × Program) (a : ℕ) → located_among (programs ++ p ∷ []) a ≡ option_or (located_among programs a) (located_in p.1 a)
located_more [] p a = or_none (located_in p.1 a)
located_more (q ∷ programs) p a =
    ap (option_or (located_in q.1 a)) (located_more programs p a) ∙ sym (or_or (located_in q.1 a) (located_among programs a) (located_in p.1 a))

-- one that was there counts once
again : (x rest : Option Located) → option_or (option_or x rest) x ≡ option_or x rest
again None rest = or_none rest
again (Some x) rest = refl

there_before : (s : SectionBytes5) (programs : List (ℕ × Program)) (at a : ℕ) → Right s programs → is_some (program_at programs at) ≡ true → option_or (located_among programs a) (located_in (program_there s at) a) ≡ located_among programs a
there_before s [] at a right there = absurd cc
there_before s (p ∷ programs) at a right there = by (nat_eq at p.0) refl there (there_before s programs at a right.1)
  where
    by : (b : Bool) → nat_eq at p.0 ≡ b → is_some (if b then Some p.1 else program_at programs at) ≡ true
        → (is_some (program_at programs at) ≡ true → option_or (located_among programs a) (located_in (program_there s at) a) ≡ located_among programs a)
        → option_or (option_or (located_in p.1 a) (located_among programs a)) (located_in (program_there s at) a) ≡ option_or (located_in p.1 a) (located_among programs a)
    by true e h more =
        let same : at ≡ p.0 = grind (arith, e) in
        let here : located_in (program_there s at) a ≡ located_in p.1 a = ap (λ k. located_in (program_there s k) a) same ∙ ap (λ q. located_in q a) (sym right.0) in
        ap (option_or (option_or (located_in p.1 a) (located_among programs a))) here ∙ again (located_in p.1 a) (located_among programs a)
    by false e h more =
        or_or (located_in p.1 a) (located_among programs a) (located_in (program_there s at) a)
        ∙ ap (option_or (located_in p.1 a)) (more h)

-- one more unit
pub with_right : (s : SectionBytes5) (programs : List (ℕ × Program)) (o : Option ℕ) → Right s programs → Right s (with_program s programs o)
with_right s programs None right = right
with_right s programs (Some at) right = by (is_some (program_at programs at))
  where
    by : (b : Bool) → Right s (if b then programs else programs ++ (at, program_there s at) ∷ [])
    by true = right
    by false = right_more s programs at right

with_located : (s : SectionBytes5) (programs : List (ℕ × Program)) (o : Option ℕ) (a : ℕ) → Right s programs → located_among (with_program s programs o) a ≡ option_or (located_among programs a) (located_there s o a)
with_located s programs None a right = sym (or_none (located_among programs a))
with_located s programs (Some at) a right = by (is_some (program_at programs at)) refl
  where
    by : (b : Bool) → is_some (program_at programs at) ≡ b → located_among (if b then programs else programs ++ (at, program_there s at) ∷ []) a ≡ option_or (located_among programs a) (located_in (program_there s at) a)
    by true e = sym (there_before s programs at a right e)
    by false e = located_more programs (at, program_there s at) a

folded : (s : SectionBytes5) (units : List UnitAnswer) (programs : List (ℕ × Program)) (a : ℕ) → Right s programs
    → located_among (fold (λ programs u. with_program s programs (named u)) programs units) a ≡ option_or (located_among programs a) (located_at s units a)
folded s [] programs a right = sym (or_none (located_among programs a))
folded s (u ∷ units) programs a right =
    folded s units (with_program s programs (named u)) a (with_right s programs (named u) right)
    ∙ ap (λ o. option_or o (located_at s units a)) (with_located s programs (named u) a right)
    ∙ or_or (located_among programs a) (located_there s (named u) a) (located_at s units a)

pub by_units : (s : SectionBytes5) (units : List UnitAnswer) (a : ℕ) → located_among (programs_of s units) a ≡ located_at s units a
unfolding programs_of
by_units s units a = folded s units [] a tt
