-- The first of several.
use Rattle.std.proofs.Common.{◌≡◌, List, [], ◌∷◌, ◌++◌, Option, Some, None, refl}
use Rattle.std.specs.Option.{option_or}
use Rattle.dump_format.specs.Judged.{first_of}

-- the one that is there, or else the first of a list
abbrev pub or_first : {A : Type 0} → Option A → List A → Option A
or_first o xs = option_or o (first_of xs)

pub first_of-append : {A : Type 0} (xs ys : List A) → first_of (xs ++ ys) ≡ or_first (first_of xs) ys
first_of-append [] ys = refl
first_of-append (x ∷ xs) ys = refl

pub or_nothing : {A : Type 0} (o : Option A) → or_first o [] ≡ o
or_nothing (Some x) = refl
or_nothing None = refl
