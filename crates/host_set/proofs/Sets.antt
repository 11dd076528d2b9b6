-- A set of devices acts as a map from names to devices.
use Rattle.std.proofs.Common.{◌≡◌, ℕ, zero, suc, ◌+◌, ◌<◌, List, [], ◌∷◌, ◌++◌, Bool, true, false, cond, Option, Some, None, MatchOption, refl, sym, ap, ◌∙◌, arith, length, map, get_or, set, subst}
use Rattle.std.specs.List.{position_from, remove}
use Rattle.std.specs.Str.{bytes_eq}
use Rattle.host_set.specs.Sets.{DeviceState, no_device, names, is_named, AreDistinct, IsPlace, IsUnnamed, device_named, attached, released}
use Rattle.host_set.proofs.Names.{same, itself, swapped, neither}

-- a place in a list that begins at a number
pub record Found (ds : List DeviceState) (n : List ℕ) (start i : ℕ) : Type 0 where
  pub place : ℕ
  pub sum : i ≡ start + place
  pub there : IsPlace ds n place

abbrev FoundFrom : List DeviceState → List ℕ → ℕ → Option ℕ → Bool → Type 0
FoundFrom ds n start o b = MatchOption o (b ≡ false) (λ i. Found ds n start i)

further : (d : DeviceState) (ds : List DeviceState) (n : List ℕ) (start : ℕ) (o : Option ℕ) (b : Bool) → bytes_eq d.name n ≡ false → FoundFrom ds n (start + 1) o b → FoundFrom (d ∷ ds) n start o b
further d ds n start None b is h = h
further d ds n start (Some i) b is h = record { place = suc h.place; sum = (let e : i ≡ (start + 1) + h.place = h.sum in omega arith); there = (is, h.there) }

by_test : (d : DeviceState) (ds : List DeviceState) (n : List ℕ) (start : ℕ) (t : Bool) (o : Option ℕ) (b : Bool) → bytes_eq d.name n ≡ t → FoundFrom ds n (start + 1) o b → FoundFrom (d ∷ ds) n start (cond t (Some start) o) (cond t true b)
by_test d ds n start true o b is h = record { place = 0; sum = omega arith; there = is }
by_test d ds n start false o b is h = further d ds n start o b is h

found_from : (ds : List DeviceState) (n : List ℕ) (start : ℕ) → FoundFrom ds n start (position_from (λ d. bytes_eq d.name n) start ds) (is_named (names ds) n)
found_from [] n start = refl
found_from (d ∷ ds) n start = by_test d ds n start (bytes_eq d.name n) _ _ refl (found_from ds n (start + 1))

at_start : (ds : List DeviceState) (n : List ℕ) (o : Option ℕ) (b : Bool) → FoundFrom ds n 0 o b → MatchOption o (b ≡ false) (λ i. IsPlace ds n i)
at_start ds n None b h = h
at_start ds n (Some i) b h = let e : h.place ≡ i = (let s : i ≡ 0 + h.place = h.sum in omega arith) in rw e at h.there

-- the search by index finds the place
pub found : (ds : List DeviceState) (n : List ℕ) → MatchOption (position_from (λ d. bytes_eq d.name n) 0 ds) (is_named (names ds) n ≡ false) (λ i. IsPlace ds n i)
found ds n = at_start ds n _ _ (found_from ds n 0)

over : {A : Type 0} (f : A → DeviceState) (xs : List A) (n : List ℕ) (start : ℕ) → position_from (λ a. bytes_eq (f a).name n) start xs ≡ position_from (λ d. bytes_eq d.name n) start (map f xs)
over f [] n start = refl
over f (x ∷ xs) n start = ap (λ o. cond (bytes_eq (f x).name n) (Some start) o) (over f xs n (start + 1))

as_unnamed : (ds : List DeviceState) (n : List ℕ) (o : Option ℕ) → MatchOption o (is_named (names ds) n ≡ false) (λ i. IsPlace ds n i) → MatchOption o (IsUnnamed ds n) (λ i. IsPlace ds n i)
as_unnamed ds n None h = record { unnamed = h }
as_unnamed ds n (Some i) h = h

-- the same, over what shows itself as a device
pub found_over : {A : Type 0} (f : A → DeviceState) (xs : List A) (n : List ℕ) → MatchOption (position_from (λ a. bytes_eq (f a).name n) 0 xs) (IsUnnamed (map f xs) n) (λ i. IsPlace (map f xs) n i)
found_over f xs n = rw (over f xs n 0) (as_unnamed (map f xs) n _ (found (map f xs) n))

pub same_device : (a b : DeviceState) → a.name ≡ b.name → a.log ≡ b.log → a.count ≡ b.count → Some a ≡ Some b
same_device a b n l c =
    ap (λ x. Some (record { name = x; log = a.log; count = a.count })) n ∙ (ap (λ x. Some (record { name = b.name; log = x; count = a.count })) l ∙ ap (λ x. Some (record { name = b.name; log = b.log; count = x })) c)

pub at_place : (ds : List DeviceState) (n : List ℕ) (i : ℕ) (x : DeviceState) → IsPlace ds n i → (get_or ds i x).name ≡ n
at_place [] n i x h = absurd h
at_place (d ∷ ds) n zero x h = same d.name n h
at_place (d ∷ ds) n (suc i) x h = at_place ds n i x h.1

pub place_below : (ds : List DeviceState) (n : List ℕ) (i : ℕ) → IsPlace ds n i → i < length ds
place_below [] n i h = absurd h
place_below (d ∷ ds) n zero h = omega arith
place_below (d ∷ ds) n (suc i) h = let r : i < length ds = place_below ds n i h.1 in omega arith

pub named_at : (ds : List DeviceState) (n : List ℕ) (i : ℕ) → IsPlace ds n i → is_named (names ds) n ≡ true
named_at [] n i h = absurd h
named_at (d ∷ ds) n zero h = rw h refl
named_at (d ∷ ds) n (suc i) h = rw h.0 (named_at ds n i h.1)

pub names_set : (ds : List DeviceState) (n : List ℕ) (i : ℕ) (new : DeviceState) → IsPlace ds n i → new.name ≡ n → names (set ds i new) ≡ names ds
names_set [] n i new h is = absurd h
names_set (d ∷ ds) n zero new h is = ap (λ m. m ∷ names ds) (is ∙ sym (same d.name n h))
names_set (d ∷ ds) n (suc i) new h is = ap (λ ms. d.name ∷ ms) (names_set ds n i new h.1 is)

pub place_set : (ds : List DeviceState) (n : List ℕ) (i : ℕ) (new : DeviceState) → IsPlace ds n i → new.name ≡ n → IsPlace (set ds i new) n i
place_set [] n i new h is = absurd h
place_set (d ∷ ds) n zero new h is = rw is (itself n)
place_set (d ∷ ds) n (suc i) new h is = (h.0, place_set ds n i new h.1 is)

-- ---- attaching and releasing

pub attached_at : (ds : List DeviceState) (new : DeviceState) (i : ℕ) → IsPlace ds new.name i → attached ds new ≡ set ds i new
attached_at [] new i h = absurd h
attached_at (d ∷ ds) new zero h = rw h refl
attached_at (d ∷ ds) new (suc i) h = rw h.0 (ap (λ es. d ∷ es) (attached_at ds new i h.1))

pub attached_new : (ds : List DeviceState) (new : DeviceState) → is_named (names ds) new.name ≡ false → attached ds new ≡ ds ++ new ∷ []
attached_new [] new h = refl
attached_new (d ∷ ds) new h = let k = neither (bytes_eq d.name new.name) (is_named (names ds) new.name) h in rw k.0 (ap (λ es. d ∷ es) (attached_new ds new k.1))

pub released_at : (ds : List DeviceState) (n : List ℕ) (i : ℕ) → IsPlace ds n i → released ds n ≡ remove ds i
released_at [] n i h = absurd h
released_at (d ∷ ds) n zero h = rw h refl
released_at (d ∷ ds) n (suc i) h = rw h.0 (ap (λ es. d ∷ es) (released_at ds n i h.1))

pub released_none : (ds : List DeviceState) (n : List ℕ) → is_named (names ds) n ≡ false → released ds n ≡ ds
released_none [] n h = refl
released_none (d ∷ ds) n h = let k = neither (bytes_eq d.name n) (is_named (names ds) n) h in rw k.0 (ap (λ es. d ∷ es) (released_none ds n k.1))

pub device_at : (ds : List DeviceState) (n : List ℕ) (i : ℕ) (x : DeviceState) → IsPlace ds n i → device_named ds n ≡ Some (get_or ds i x)
device_at [] n i x h = absurd h
device_at (d ∷ ds) n zero x h = rw h refl
device_at (d ∷ ds) n (suc i) x h = rw h.0 (device_at ds n i x h.1)

pub device_none : (ds : List DeviceState) (n : List ℕ) → is_named (names ds) n ≡ false → device_named ds n ≡ None
device_none [] n h = refl
device_none (d ∷ ds) n h = let k = neither (bytes_eq d.name n) (is_named (names ds) n) h in rw k.0 (device_none ds n k.1)

-- ---- distinct names

still_unnamed : (d : DeviceState) (ds rest : List DeviceState) (x : List ℕ) (t : Bool) → bytes_eq d.name x ≡ false → is_named (names ds) x ≡ false → is_named (names rest) x ≡ false → is_named (names (cond t ds (d ∷ rest))) x ≡ false
still_unnamed d ds rest x true e h r = h
still_unnamed d ds rest x false e h r = rw e r

unnamed_released : (ds : List DeviceState) (n x : List ℕ) → is_named (names ds) x ≡ false → is_named (names (released ds n)) x ≡ false
unnamed_released [] n x h = refl
unnamed_released (d ∷ ds) n x h =
    let k = neither (bytes_eq d.name x) (is_named (names ds) x) h in
    still_unnamed d ds (released ds n) x (bytes_eq d.name n) k.0 k.1 (unnamed_released ds n x k.1)

distinct_rest : (d : DeviceState) (ds rest : List DeviceState) (t : Bool) → AreDistinct (names ds) → is_named (names rest) d.name ≡ false → AreDistinct (names rest) → AreDistinct (names (cond t ds (d ∷ rest)))
distinct_rest d ds rest true h e r = h
distinct_rest d ds rest false h e r = (e, r)

pub distinct_released : (ds : List DeviceState) (n : List ℕ) → AreDistinct (names ds) → AreDistinct (names (released ds n))
distinct_released [] n h = tt
distinct_released (d ∷ ds) n h =
    distinct_rest d ds (released ds n) (bytes_eq d.name n) h.1 (unnamed_released ds n d.name h.0) (distinct_released ds n h.1)

unnamed_rest : (d new : DeviceState) (ds rest : List DeviceState) (x : List ℕ) (t : Bool) → bytes_eq d.name x ≡ false → bytes_eq new.name x ≡ false → is_named (names ds) x ≡ false → is_named (names rest) x ≡ false → is_named (names (cond t (new ∷ ds) (d ∷ rest))) x ≡ false
unnamed_rest d new ds rest x true e f h r = rw f h
unnamed_rest d new ds rest x false e f h r = rw e r

unnamed_attached : (ds : List DeviceState) (new : DeviceState) (x : List ℕ) → bytes_eq new.name x ≡ false → is_named (names ds) x ≡ false → is_named (names (attached ds new)) x ≡ false
unnamed_attached [] new x e h = rw e refl
unnamed_attached (d ∷ ds) new x e h =
    let k = neither (bytes_eq d.name x) (is_named (names ds) x) h in
    unnamed_rest d new ds (attached ds new) x (bytes_eq d.name new.name) k.0 e k.1 (unnamed_attached ds new x e k.1)

distinct_step : (d new : DeviceState) (ds rest : List DeviceState) (t : Bool) → bytes_eq d.name new.name ≡ t → is_named (names ds) d.name ≡ false → AreDistinct (names ds) → (bytes_eq new.name d.name ≡ false → is_named (names rest) d.name ≡ false) → AreDistinct (names rest) → AreDistinct (names (cond t (new ∷ ds) (d ∷ rest)))
distinct_step d new ds rest true is once h e r = (let f : d.name ≡ new.name = same d.name new.name is in rw f at once, h)
distinct_step d new ds rest false is once h e r = (e (rw (swapped new.name d.name) is), r)

pub distinct_attached : (ds : List DeviceState) (new : DeviceState) → AreDistinct (names ds) → AreDistinct (names (attached ds new))
distinct_attached [] new h = (refl, tt)
distinct_attached (d ∷ ds) new h =
    distinct_step d new ds (attached ds new) (bytes_eq d.name new.name) refl h.0 h.1 (λ e. unnamed_attached ds new d.name e h.0) (distinct_attached ds new h.1)

-- ---- as a map

covered : {A : Type 0} (q r : Bool) (x y z : A) → q ≡ r → cond r x y ≡ cond r x (cond q z y)
covered q true x y z e = refl
covered q false x y z e = rw e refl

turned : {A : Type 0} (q r : Bool) (x y z : A) → (q ≡ true → r ≡ true → ⊥) → cond q x (cond r y z) ≡ cond r y (cond q x z)
turned true true x y z apart = absurd (apart refl refl)
turned true false x y z apart = refl
turned false true x y z apart = refl
turned false false x y z apart = refl

-- two names that differ are not both one name
never_both : (a b n : List ℕ) → bytes_eq a b ≡ false → bytes_eq a n ≡ true → bytes_eq b n ≡ true → ⊥
never_both a b n apart p q =
    let e : a ≡ b = same a n p ∙ sym (same b n q) in
    let t : bytes_eq a b ≡ true = rw e (itself b) in
    let f : true ≡ false = sym t ∙ apart in
    cc

attached_step : (d new : DeviceState) (ds rest : List DeviceState) (name : List ℕ) (t : Bool) → bytes_eq d.name new.name ≡ t → device_named rest name ≡ cond (bytes_eq new.name name) (Some new) (device_named ds name) → device_named (cond t (new ∷ ds) (d ∷ rest)) name ≡ cond (bytes_eq new.name name) (Some new) (cond (bytes_eq d.name name) (Some d) (device_named ds name))
attached_step d new ds rest name true is ih =
    covered (bytes_eq d.name name) (bytes_eq new.name name) (Some new) (device_named ds name) (Some d) (ap (λ m. bytes_eq m name) (same d.name new.name is))
attached_step d new ds rest name false is ih =
    rw ih (turned (bytes_eq d.name name) (bytes_eq new.name name) (Some d) (Some new) (device_named ds name) (never_both d.name new.name name is))

pub attached_named : (ds : List DeviceState) (new : DeviceState) (name : List ℕ) → device_named (attached ds new) name ≡ cond (bytes_eq new.name name) (Some new) (device_named ds name)
attached_named [] new name = refl
attached_named (d ∷ ds) new name =
    attached_step d new ds (attached ds new) name (bytes_eq d.name new.name) refl (attached_named ds new name)

nothing : {A : Type 0} (b : Bool) (o : Option A) → o ≡ None → o ≡ cond b None o
nothing true o h = h
nothing false o h = refl

gone : {A : Type 0} (q r : Bool) (x y : Option A) → q ≡ r → (r ≡ true → y ≡ None) → y ≡ cond r None (cond q x y)
gone q true x y e h = h refl
gone q false x y e h = rw e refl

released_step : (d : DeviceState) (ds rest : List DeviceState) (n name : List ℕ) (t : Bool) → bytes_eq d.name n ≡ t → is_named (names ds) d.name ≡ false → device_named rest name ≡ cond (bytes_eq n name) None (device_named ds name) → device_named (cond t ds (d ∷ rest)) name ≡ cond (bytes_eq n name) None (cond (bytes_eq d.name name) (Some d) (device_named ds name))
released_step d ds rest n name true is once ih =
    let e : d.name ≡ n = same d.name n is in
    gone (bytes_eq d.name name) (bytes_eq n name) (Some d) (device_named ds name) (ap (λ m. bytes_eq m name) e) (λ p. device_none ds name (let f : d.name ≡ name = e ∙ same n name p in rw f at once))
released_step d ds rest n name false is once ih =
    rw ih (turned (bytes_eq d.name name) (bytes_eq n name) (Some d) None (device_named ds name) (never_both d.name n name is))

pub released_named : (ds : List DeviceState) (n name : List ℕ) → AreDistinct (names ds) → device_named (released ds n) name ≡ cond (bytes_eq n name) None (device_named ds name)
released_named [] n name h = nothing (bytes_eq n name) None refl
released_named (d ∷ ds) n name h =
    released_step d ds (released ds n) n name (bytes_eq d.name n) refl h.0 (released_named ds n name h.1)

-- ---- over what shows itself as a device

pub shown_at : {A : Type 0} (f : A → DeviceState) (xs : List A) (i : ℕ) (b : A) → b ≡ get_or xs i b → i < length xs → f b ≡ get_or (map f xs) i no_device
shown_at f [] i b is lt = absurd (let e : i < 0 = lt in omega arith)
shown_at f (x ∷ xs) zero b is lt = ap f is
shown_at f (x ∷ xs) (suc i) b is lt = shown_at f xs i b is (omega arith)

pub others_stay : {A : Type 0} (f : A → DeviceState) (xs : List A) (i : ℕ) (b : A) → map f (set xs i b) ≡ set (map f xs) i (get_or (map f (set xs i b)) i no_device)
others_stay f [] i b = refl
others_stay f (x ∷ xs) zero b = refl
others_stay f (x ∷ xs) (suc i) b = ap (λ es. f x ∷ es) (others_stay f xs i b)

pub called_at : {A : Type 0} (R : DeviceState → DeviceState → Type 0) (f : A → DeviceState) (xs : List A) (i : ℕ) (b new : A) → b ≡ get_or xs i b → i < length xs → R (f b) (f new) → R (get_or (map f xs) i no_device) (get_or (map f (set xs i new)) i no_device)
called_at R f [] i b new is lt r = absurd (let e : i < 0 = lt in omega arith)
called_at R f (x ∷ xs) zero b new is lt r = let P : DeviceState → Type 0 = λ d. R d (f new) in subst P (ap f is) r
called_at R f (x ∷ xs) (suc i) b new is lt r = called_at R f xs i b new is (omega arith) r

pub attached_over : {A : Type 0} (f : A → DeviceState) (xs : List A) (new : A) (i : ℕ) → IsPlace (map f xs) (f new).name i → map f (set xs i new) ≡ attached (map f xs) (f new)
attached_over f [] new i h = absurd h
attached_over f (x ∷ xs) new zero h = rw h refl
attached_over f (x ∷ xs) new (suc i) h = rw h.0 (ap (λ es. f x ∷ es) (attached_over f xs new i h.1))

pub added_over : {A : Type 0} (f : A → DeviceState) (xs : List A) (new : A) → is_named (names (map f xs)) (f new).name ≡ false → map f (xs ++ new ∷ []) ≡ attached (map f xs) (f new)
added_over f [] new h = refl
added_over f (x ∷ xs) new h =
    let k = neither (bytes_eq (f x).name (f new).name) (is_named (names (map f xs)) (f new).name) h in
    rw k.0 (ap (λ es. f x ∷ es) (added_over f xs new k.1))

pub released_over : {A : Type 0} (f : A → DeviceState) (xs : List A) (n : List ℕ) (i : ℕ) → IsPlace (map f xs) n i → map f (remove xs i) ≡ released (map f xs) n
released_over f [] n i h = absurd h
released_over f (x ∷ xs) n zero h = rw h refl
released_over f (x ∷ xs) n (suc i) h = rw h.0 (ap (λ es. f x ∷ es) (released_over f xs n i h.1))

pub device_over : {A : Type 0} (f : A → DeviceState) (xs : List A) (n : List ℕ) (i : ℕ) (b : A) → IsPlace (map f xs) n i → b ≡ get_or xs i b → Some (f b) ≡ device_named (map f xs) n
device_over f [] n i b h is = absurd h
device_over f (x ∷ xs) n zero b h is = rw h (ap (λ y. Some (f y)) is)
device_over f (x ∷ xs) n (suc i) b h is = rw h.0 (device_over f xs n i b h.1 is)

pub below_over : {A : Type 0} (f : A → DeviceState) (xs : List A) (n : List ℕ) (i : ℕ) → IsPlace (map f xs) n i → i < length xs
below_over f [] n i h = absurd h
below_over f (x ∷ xs) n zero h = omega arith
below_over f (x ∷ xs) n (suc i) h = let r : i < length xs = below_over f xs n i h.1 in omega arith

-- one equation behind another
pub onto : {A : Type 0} {x y z : A} → y ≡ z → x ≡ y → x ≡ z
onto p q = q ∙ p

pub none_released : (ds : List DeviceState) (n : List ℕ) → IsUnnamed ds n → ds ≡ released ds n
none_released ds n h = sym (released_none ds n h.unnamed)

pub none_device : (ds : List DeviceState) (n : List ℕ) → IsUnnamed ds n → None ≡ device_named ds n
none_device ds n h = sym (device_none ds n h.unnamed)

pub unnamed_since : (ds : List DeviceState) (n : List ℕ) (o : Option ℕ) → MatchOption o (IsUnnamed ds n) (λ i. IsPlace ds n i) → ((i : ℕ) → o ≡ Some i → ⊥) → IsUnnamed ds n
unnamed_since ds n None h apart = h
unnamed_since ds n (Some i) h apart = absurd (apart i refl)
