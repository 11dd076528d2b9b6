-- The entries of the stack, which the code keeps from the bottom.
use Rattle.std.proofs.Common.{◌≡◌, ℕ, ◌<◌, ◌≤◌, List, [], ◌∷◌, ◌++◌, length, reverse, Ok, Err, refl, ap, ◌∙◌, arith}
use Rattle.std.proofs.lemmas.Bool.{lt-ltb, le-ltb}
use Rattle.std.proofs.lemmas.List.{reverse-append, length-reverse, nil_from_length}
use Rattle.dwarf_expr.specs.declared.effects.Event.TheVariants.{TooDeep}
use Rattle.dwarf_expr.specs.Meaning.{Effect, pushed}

pub reverse_last : (xs : List ℕ) (x : ℕ) → reverse (xs ++ x ∷ []) ≡ x ∷ reverse xs
reverse_last xs x = reverse-append xs (x ∷ [])

abbrev left : List ℕ → Effect
left s = Ok s

abbrev too_deep : Effect
too_deep = Err TooDeep

-- one on top
pub has_room : (xs ys : List ℕ) (x : ℕ) → length xs < 64 → ys ≡ xs ++ x ∷ [] → pushed (reverse xs) x ≡ left (reverse ys)
has_room xs ys x room e =
    let n : length (reverse xs) < 64 = omega (arith, room, length-reverse xs) in
    rw (lt-ltb (length (reverse xs)) 64 n, e, reverse_last xs x) refl

pub has_none : (xs : List ℕ) (x : ℕ) → 64 ≤ length xs → pushed (reverse xs) x ≡ too_deep
has_none xs x full =
    let n : 64 ≤ length (reverse xs) = omega (arith, full, length-reverse xs) in
    rw (le-ltb (length (reverse xs)) 64 n) refl

-- the topmost
pub popped : (old new : List ℕ) (x : ℕ) → old ≡ new ++ x ∷ [] → reverse old ≡ x ∷ reverse new
popped old new x e = ap reverse e ∙ reverse_last new x

pub none_left : (xs : List ℕ) → length xs ≤ 0 → reverse xs ≡ []
none_left xs le = ap reverse (nil_from_length xs (omega (arith, le)))
