-- What is read at an offset of a section is what stands there, and nothing else does.
use Rattle.std.proofs.Common.{◌≡◌, ℕ, ◌≤◌, List, ◌++◌, length, take, drop, Some, Ok, Err, refl, sym, ap, subst, ◌∙◌}
use Rattle.std.proofs.lemmas.List.{take-append-drop, length-take-le}
use Rattle.wasm_bytes.specs.Place.{Place, Read}
use Rattle.wasm_bytes.specs.Laws.{IsBytes, place, got, IsExact}
use Rattle.wasm_bytes.proofs.Places.{place_is, IsBytes-rest}
use Rattle.dwarf_bytes.specs.Items.{reading_of, read_at}
use Rattle.dwarf_bytes.specs.calls.Spelled.{StandsAt}

pub read_ok : {A : Type 0} (r : Read A) (x : A) → reading_of r ≡ Some x → (q : Place) × (r ≡ got x q)
read_ok {A} (Ok y) x e = let same : y.0 ≡ x = cc in (y.1, ap (λ (z : A). got z y.1) same)
read_ok (Err o) x e = absurd cc

-- the place at an offset, between the bytes before and behind it
cut_at : (section tail : List ℕ) (at : ℕ) → at ≤ length section → drop at section ≡ tail → place (take at section) tail ≡ (let p : Place = record { block = section; at = at } in p)
cut_at section tail at inside e = place_is (take at section ++ tail) section (length (take at section)) at (ap (λ (t : List ℕ). take at section ++ t) (sym e) ∙ take-append-drop at section) (length-take-le at section inside)

pub read_stands : {A : Type 0} (S : A → ℕ → List ℕ → Type 0) (f : Place → Read A) → IsExact S f → (section : List ℕ) (at : ℕ) (x : A) → IsBytes section → at ≤ length section → read_at f section at ≡ Some x → StandsAt S x section at
read_stands S f e section at x fits inside read =
    let here = cut_at section (drop at section) at inside refl in
    let r = read_ok (f (place (take at section) (drop at section))) x (ap (λ (p : Place). reading_of (f p)) here ∙ read) in
    let bytes = IsBytes-rest (take at section) (drop at section) (subst IsBytes (sym (take-append-drop at section)) fits) in
    let t = e.sound (take at section) (drop at section) x r.0 bytes r.1 in
    (t.front, t.rest, inside, t.parts, subst (λ (n : ℕ). S x n t.front) (length-take-le at section inside) t.is)

pub stands_read : {A : Type 0} (S : A → ℕ → List ℕ → Type 0) (f : Place → Read A) → IsExact S f → (section : List ℕ) (at : ℕ) (x : A) → StandsAt S x section at → read_at f section at ≡ Some x
stands_read S f e section at x s =
    let here = cut_at section (s.0 ++ s.1) at s.2 s.3 in
    let is = subst (λ (n : ℕ). S x n s.0) (sym (length-take-le at section s.2)) s.4 in
    ap (λ (p : Place). reading_of (f p)) (sym here) ∙ ap reading_of (e.again (take at section) s.0 s.1 x is)
