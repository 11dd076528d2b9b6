-- The bounds of a program hold every address that one of its sequences holds.
use Rattle.std.proofs.Common.{◌≡◌, ℕ, ◌<◌, ◌≤◌, Bool, true, false, leb, ltb, cond, List, [], ◌∷◌, Option, Some, None, refl, sym, ◌∙◌, arith}
use Rattle.std.specs.Prelude.{◌&&◌, ◌||◌}
use Rattle.std.specs.List.{list_any}
use Rattle.std.proofs.lemmas.Bool.{leb-true, ltb-true, leb-false, le-leb, lt-ltb, and_parts, and_from}
use Rattle.dwarf_line.specs.declared.lines.Sequence.{Sequence}
use Rattle.dwarf_line.specs.Place.{holds}
use Rattle.dwarf_line.specs.calls.Held.{held, is_held}
use Rattle.dwarf_line.proofs.HeldLaws.{holds_held}
use Rattle.dwarf_line.specs.declared.hull.Hull.{Hull}
use Rattle.dwarf_line.specs.calls.Hulls.{widened, hull_from, is_inside}

-- ---- the lesser and the greater of two numbers

lesser_by : (f b : ℕ) (t : Bool) → leb f b ≡ t → (cond t f b ≤ f) × (cond t f b ≤ b)
lesser_by f b true e = (omega arith, leb-true f b e)
lesser_by f b false e = let past : b < f = leb-false f b e in (omega (arith, past), omega arith)

greater_by : (f b : ℕ) (t : Bool) → leb f b ≡ t → (f ≤ cond t b f) × (b ≤ cond t b f)
greater_by f b true e = (leb-true f b e, omega arith)
greater_by f b false e = let past : b < f = leb-false f b e in (omega arith, omega (arith, past))

-- Bounds that begin no later and end no earlier hold as much.
between : (f e f' e' a : ℕ) → f' ≤ f → e ≤ e' → leb f a && ltb a e ≡ true → leb f' a && ltb a e' ≡ true
between f e f' e' a low high h =
    let two = and_parts (leb f a) (ltb a e) h in
    let above : f ≤ a = leb-true f a two.0 in
    let below : a < e = ltb-true a e two.1 in
    and_from (leb f' a) (ltb a e') (le-leb f' a (omega (arith, low, above))) (lt-ltb a e' (omega (arith, high, below)))

-- ---- one more sequence

inside_more : (h : Hull) (o : Option (ℕ × ℕ)) (a : ℕ) → is_inside h a ≡ true → is_inside (widened h o) a ≡ true
inside_more h None a inside = inside
inside_more h (Some b) a inside =
    between h.first h.«end» _ _ a (lesser_by h.first b.0 (leb h.first b.0) refl).0 (greater_by h.«end» b.1 (leb h.«end» b.1) refl).0 inside

inside_held : (h : Hull) (o : Option (ℕ × ℕ)) (a : ℕ) → is_held a o ≡ true → is_inside (widened h o) a ≡ true
inside_held h None a inside = absurd cc
inside_held h (Some b) a inside =
    between b.0 b.1 _ _ a (lesser_by h.first b.0 (leb h.first b.0) refl).1 (greater_by h.«end» b.1 (leb h.«end» b.1) refl).1 inside

-- ---- all

stays_inside : (ss : List Sequence) (h : Hull) (a : ℕ) → is_inside h a ≡ true → is_inside (hull_from h ss) a ≡ true
stays_inside [] h a inside = inside
stays_inside (s ∷ ss) h a inside = stays_inside ss (widened h (held s)) a (inside_more h (held s) a inside)

held_inside : (ss : List Sequence) (h : Hull) (a : ℕ) → list_any (holds a) ss ≡ true → is_inside (hull_from h ss) a ≡ true
held_inside [] h a any = absurd cc
held_inside (s ∷ ss) h a any = by (holds a s) refl (held_inside ss (widened h (held s)) a) any
  where
    by : (t : Bool) → holds a s ≡ t → (list_any (holds a) ss ≡ true → is_inside (hull_from (widened h (held s)) ss) a ≡ true) → t || list_any (holds a) ss ≡ true
        → is_inside (hull_from (widened h (held s)) ss) a ≡ true
    by true e later any = stays_inside ss (widened h (held s)) a (inside_held h (held s) a (sym (holds_held a s) ∙ e))
    by false e later any = later any

pub none_outside : (ss : List Sequence) (h : Hull) (a : ℕ) → is_inside (hull_from h ss) a ≡ false → list_any (holds a) ss ≡ false
none_outside ss h a outside = by (list_any (holds a) ss) refl
  where
    by : (t : Bool) → list_any (holds a) ss ≡ t → t ≡ false
    by true e = absurd (let no : false ≡ true = sym outside ∙ held_inside ss h a e in cc)
    by false e = refl
