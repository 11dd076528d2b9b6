-- The levels of an array: its counts, and its size.
use Rattle.std.proofs.Common.{◌≡◌, ℕ, zero, suc, ◌-◌, ◌*◌, ◌<◌, ◌≤◌, Bool, true, false, List, [], ◌∷◌, Option, Some, None, drop, refl, sym, ap, subst, ◌∙◌, arith}
use Rattle.std.specs.Prelude.{◌^◌, IsSome, nat_lt, if◌then◌else◌, unwrap_or, ℤ}
use Rattle.std.proofs.lemmas.Bool.Decides.{nat_tests}
use Rattle.dwarf_info.specs.declared.entry.UnitAnswer.{UnitAnswer}
use Rattle.dwarf_info.specs.Attributes.{valued, as_number}
use Rattle.dwarf_entries.specs.Names.{at_byte_size}
use Rattle.dwarf_entries.specs.Standing.{Standing}
use Rattle.dwarf_types.specs.declared.class.Class.{Class}
use Rattle.dwarf_types.specs.declared.class.Class.TheVariants as classes
use Rattle.dwarf_types.specs.declared.behind.Typed.{Typed}
use Rattle.dwarf_types.specs.declared.behind.Typed.TheVariants as typeds
use Rattle.dwarf_types.specs.Types.{class_at, type_of}
use Rattle.dwarf_types.specs.Counts.{counts}
use Rattle.dwarf_types.proofs.SizeLaws.{times_none, none_size}
use Rattle.dwarf_types.specs.Products.{times, array_size}
use Rattle.dwarf_types.specs.Sizes.{own_size, rows_size, size_as, size_within, type_size}
use Rattle.var_values.specs.Values.{row_size}
use Rattle.var_values.specs.inner.Odometer.{levels, whole, AreNested}

pub no_some : {P : Type 0} (o : Option ℕ) → o ≡ None → IsSome o → P
no_some None e h = absurd (let no : false ≡ true = h in cc)
no_some (Some x) e h = absurd (let no : Some x ≡ None = e in cc)

times_by : (n size t : ℕ) (b : Bool) → b ≡ nat_lt (n * size) (2 ^ 64) → (if b then Some (n * size) else None) ≡ Some t → (n * size ≡ t) × (t < 2 ^ 64)
times_by n size t true is e =
    let same : n * size ≡ t = cc in
    let lt : n * size < 2 ^ 64 = grind (arith, nat_tests) in
    (same, omega (arith, same, lt))
times_by n size t false is e = absurd (let no : None ≡ Some t = e in cc)

pub times_some : (c : Option ℕ) (size t : ℕ) → times c (Some size) ≡ Some t → (unwrap_or c 0 * size ≡ t) × (t < 2 ^ 64)
times_some None size t e = absurd (let no : None ≡ Some t = e in cc)
times_some (Some n) size t e = times_by n size t (nat_lt (n * size) (2 ^ 64)) refl e

-- what a size says of the levels
pub record Fit (cs : List (Option ℕ)) (size total : ℕ) : Type 0 where
  pub row : row_size cs size ≡ total
  pub nested : AreNested (levels cs size)
  pub below : whole (levels cs size) ≤ total
  pub fits : whole (levels cs size) < 2 ^ 64

more_fit : (c : Option ℕ) (cs : List (Option ℕ)) (size t total : ℕ) → Fit cs size t → times c (Some t) ≡ Some total → Fit (c ∷ cs) size total
more_fit c cs size t total h e =
    let product : unwrap_or c 0 * t ≡ total = (times_some c t total e).0 in
    let short : total < 2 ^ 64 = (times_some c t total e).1 in
    let row : row_size (c ∷ cs) size ≡ total = ap (λ (x : ℕ). unwrap_or c 0 * x) h.row ∙ product in
    let below : whole (levels cs size) ≤ row_size cs size = omega (arith, h.below, h.row) in
    record { row = row; nested = (below, h.nested); below = omega (arith, row); fits = omega (arith, row, short) }

size_fits : (cs : List (Option ℕ)) (size : ℕ) (inner : Option ℕ) (c : Option ℕ) (total : ℕ) → ((t : ℕ) → inner ≡ Some t → Fit cs size t) → times c inner ≡ Some total → Fit (c ∷ cs) size total
size_fits cs size None c total h e = absurd (let no : None ≡ Some total = sym (times_none c) ∙ e in cc)
size_fits cs size (Some t) c total h e = more_fit c cs size t total (h t refl) e

pub sizes_fit : (cs : List (Option ℕ)) (size total : ℕ) → array_size cs (Some size) ≡ Some total → Fit cs size total
unfolding array_size
sizes_fit [] size total e =
    let same : size ≡ total = cc in
    record { row = same; nested = tt; below = omega arith; fits = omega arith }
sizes_fit (c ∷ cs) size total e = size_fits cs size (array_size cs (Some size)) c total (λ t is. sizes_fit cs size t is) e

-- ---- the size of an array says its elements'

grown_rows : (cs : List (Option ℕ)) (a b : Option ℕ) (x : ℕ) → ((y : ℕ) → a ≡ Some y → b ≡ Some y) → array_size cs a ≡ Some x → array_size cs b ≡ Some x
grown_rows cs None b x h e = absurd (let no : None ≡ Some x = sym (none_size cs) ∙ e in cc)
grown_rows cs (Some y) b x h e = ap (array_size cs) (h y refl) ∙ e

grown_own : (z : Option ℤ) (a b : Option ℕ) (x : ℕ) → ((y : ℕ) → a ≡ Some y → b ≡ Some y) → own_size z a ≡ Some x → own_size z b ≡ Some x
grown_own None a b x h e = h x e
grown_own (Some z) a b x h e = e

grown_as : (c : Class) (a b : Option ℕ) (s : Standing) (k x : ℕ) → ((y : ℕ) → a ≡ Some y → b ≡ Some y) → size_as c a s k ≡ Some x → size_as c b s k ≡ Some x
grown_as classes.Passed a b s k x h e = h x e
grown_as classes.Pointing a b s k x h e = e
grown_as classes.Members a b s k x h e = e
grown_as classes.Array a b s k x h e = grown_rows (drop k (counts s)) a b x h e
grown_as classes.Enumeration a b s k x h e = grown_own (valued as_number at_byte_size s.entry.attributes) a b x h e
grown_as classes.Base a b s k x h e = e
grown_as classes.Another a b s k x h e = e

-- with more entries in a chain there is no other size
grown : (units : List UnitAnswer) (n : ℕ) (t : Typed) (x : ℕ) → size_within units n t ≡ Some x → size_within units (suc n) t ≡ Some x
unfolding size_within
grown units zero t x e = absurd (let no : None ≡ Some x = e in cc)
grown units (suc n) typeds.Nothing x e = absurd (let no : None ≡ Some x = e in cc)
grown units (suc n) (typeds.At s k) x e =
    grown_as (class_at s) (size_within units n (type_of units s.entry.attributes)) (size_within units (suc n) (type_of units s.entry.attributes)) s k x (λ y is. grown units n (type_of units s.entry.attributes) y is) e

rows_of : (units : List UnitAnswer) (s : Standing) (k : ℕ) → class_at s ≡ classes.Array → type_size units (typeds.At s k) ≡ rows_size s k (size_within units 15 (type_of units s.entry.attributes))
unfolding size_within
rows_of units s k class = ap (λ (c : Class). size_as c (size_within units 15 (type_of units s.entry.attributes)) s k) class

counted_by : (units : List UnitAnswer) (s : Standing) (k : ℕ) (a : Option ℕ) → size_within units 15 (type_of units s.entry.attributes) ≡ a → IsSome (rows_size s k a)
    → IsSome (rows_size s k (Some (unwrap_or (type_size units (type_of units s.entry.attributes)) 0)))
counted_by units s k None is h = no_some (rows_size s k None) (none_size (drop k (counts s))) h
counted_by units s k (Some x) is h =
    let same : unwrap_or (type_size units (type_of units s.entry.attributes)) 0 ≡ x = ap (λ (o : Option ℕ). unwrap_or o 0) (grown units 15 (type_of units s.entry.attributes) x is) in
    subst (λ (y : ℕ). IsSome (rows_size s k (Some y))) (sym same) h

pub counted : (units : List UnitAnswer) (s : Standing) (k : ℕ) → class_at s ≡ classes.Array → IsSome (type_size units (typeds.At s k))
    → IsSome (rows_size s k (Some (unwrap_or (type_size units (type_of units s.entry.attributes)) 0)))
counted units s k class h =
    counted_by units s k (size_within units 15 (type_of units s.entry.attributes)) refl (subst (λ (o : Option ℕ). IsSome o) (rows_of units s k class) h)

-- ---- of an array with a size

pub fit_of : (cs : List (Option ℕ)) (size : ℕ) (o : Option ℕ) → array_size cs (Some size) ≡ o → IsSome o → (total : ℕ) × Fit cs size total
fit_of cs size None e h = absurd (let no : false ≡ true = h in cc)
fit_of cs size (Some total) e h = (total, sizes_fit cs size total e)
