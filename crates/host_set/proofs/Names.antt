-- Names, and lists of them.
use Rattle.std.proofs.Common.{◌≡◌, ℕ, List, [], ◌∷◌, ◌++◌, Bool, true, false, cond, refl, sym}
use Rattle.std.specs.Str.{bytes_eq}
use Rattle.std.proofs.lemmas.Slice.Eq.{bytes_eq-Decides}
use Rattle.std.proofs.lemmas.Bool.Decides.{same_from_decides}
use Rattle.host_set.specs.Sets.{is_named, AreDistinct}

pub same : (a b : List ℕ) → bytes_eq a b ≡ true → a ≡ b
same a b h = (bytes_eq-Decides a b).0 h

pub itself : (a : List ℕ) → bytes_eq a a ≡ true
itself a = (bytes_eq-Decides a a).1 refl

pub swapped : (a b : List ℕ) → bytes_eq a b ≡ bytes_eq b a
swapped a b =
    same_from_decides (bytes_eq a b) (bytes_eq b a) (bytes_eq-Decides a b) ((λ h. sym ((bytes_eq-Decides b a).0 h)), (λ e. (bytes_eq-Decides b a).1 (sym e)))

pub neither : (b r : Bool) → cond b true r ≡ false → (b ≡ false) × (r ≡ false)
neither true r h = (h, cc)
neither false r h = (refl, h)

pub named_push : (ns : List (List ℕ)) (n x : List ℕ) → is_named ns x ≡ false → bytes_eq n x ≡ false → is_named (ns ++ n ∷ []) x ≡ false
named_push [] n x h e = rw e refl
named_push (m ∷ ns) n x h e = let k = neither (bytes_eq m x) (is_named ns x) h in rw k.0 (named_push ns n x k.1 e)

pub distinct_push : (ns : List (List ℕ)) (n : List ℕ) → AreDistinct ns → is_named ns n ≡ false → AreDistinct (ns ++ n ∷ [])
distinct_push [] n h f = (refl, tt)
distinct_push (m ∷ ns) n h f =
    let k = neither (bytes_eq m n) (is_named ns n) f in
    (named_push ns n m h.0 (rw (swapped n m) k.0), distinct_push ns n h.1 k.1)
