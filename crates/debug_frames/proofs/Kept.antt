-- Numbers and options in what is kept of programs.
use Rattle.std.proofs.Common.{◌≡◌, ℕ, Bool, true, false, eqb, Option, Some, None, refl, sym, ◌∙◌}
use Rattle.std.specs.Option.{is_some}
use Rattle.std.proofs.lemmas.Bool.{eqb-true, eq-eqb}

pub flipped : (a b : ℕ) → eqb a b ≡ eqb b a
flipped a b = by (eqb a b) (eqb b a) refl refl
  where
    by : (t u : Bool) → eqb a b ≡ t → eqb b a ≡ u → t ≡ u
    by true true e f = refl
    by false false e f = refl
    by true false e f = absurd (let no : false ≡ true = sym f ∙ eq-eqb b a (sym (eqb-true a b e)) in cc)
    by false true e f = absurd (let no : false ≡ true = sym e ∙ eq-eqb a b (sym (eqb-true b a f)) in cc)

pub none_there : {A : Type 0} (o : Option A) → is_some o ≡ false → o ≡ None
none_there (Some i) e = absurd cc
none_there None e = refl
