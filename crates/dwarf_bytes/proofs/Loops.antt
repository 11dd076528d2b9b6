-- What is left to read, at each turn of the loops over lists that an end mark ends, and over one item for each of a list.
use Rattle.std.proofs.Common.{◌≡◌, ℕ, suc, ◌+◌, ◌≤◌, ◌<◌, List, [], ◌∷◌, length, drop, get_or, Option, Some, None, refl, sym, ap, ◌∙◌, add-one, drop-cons}
use Rattle.std.proofs.lemmas.List.{drop_all}
use Rattle.wasm_bytes.specs.declared.faults.ItemFault.{ItemFault}
use Rattle.wasm_bytes.specs.declared.faults.ItemFault.TheVariants as faults
use Rattle.wasm_bytes.specs.Place.{Place, Read}
use Rattle.wasm_bytes.specs.Reading.{◌>>=◌}
use Rattle.wasm_bytes.specs.calls.Answers.{Fails}
use Rattle.wasm_bytes.proofs.Loops.{failed, got, first}
use Rattle.dwarf_bytes.specs.Items.{each_item, ended_from}

pub ended_on : {A : Type 0} (f : Place → Read (Option A)) (n : ℕ) (p q : Place) (x : A) → f p ≡ got (Some x) q → ended_from f (suc n) p ≡ (ended_from f n q >>= first x)
unfolding ended_from
ended_on f n p q x h = rw h refl

pub ended_fails : {A : Type 0} (f : Place → Read (Option A)) (n : ℕ) (p : Place) (e : ItemFault) → Fails e (f p) → Fails e (ended_from f (suc n) p)
unfolding ended_from
ended_fails f n p faults.NoMemory h = tt
ended_fails f n p (faults.At at) h = rw h refl

pub ended_done : {A : Type 0} (f : Place → Read (Option A)) (n : ℕ) (p q : Place) → f p ≡ got None q → ended_from f (suc n) p ≡ got [] q
unfolding ended_from
ended_done f n p q h = rw h refl

-- ---- one for each of a list

pub next : {A : Type 0} (xs : List A) (i : ℕ) (x : A) → i < length xs → x ≡ get_or xs i x → drop i xs ≡ x ∷ drop (i + 1) xs
next xs i x lt is = drop-cons xs i x lt ∙ ap (λ y. y ∷ drop (suc i) xs) (sym is) ∙ ap (λ (n : ℕ). x ∷ drop n xs) (sym (add-one i))

pub each_on : {A B : Type 0} (f : A → Place → Read B) (xs : List A) (i : ℕ) (x : A) (p q : Place) (y : B) → i < length xs → x ≡ get_or xs i x → f x p ≡ got y q → each_item f (drop i xs) p ≡ (each_item f (drop (i + 1) xs) q >>= first y)
unfolding each_item
each_on f xs i x p q y lt is h = rw (next xs i x lt is, h) refl

pub each_fails : {A B : Type 0} (f : A → Place → Read B) (xs : List A) (i : ℕ) (x : A) (p : Place) (o : ℕ) → i < length xs → x ≡ get_or xs i x → f x p ≡ failed o → each_item f (drop i xs) p ≡ failed o
unfolding each_item
each_fails f xs i x p o lt is h = rw (next xs i x lt is, h) refl

pub each_done : {A B : Type 0} (f : A → Place → Read B) (xs : List A) (i : ℕ) (p : Place) → length xs ≤ i → each_item f (drop i xs) p ≡ got [] p
unfolding each_item
each_done f xs i p le = rw (drop_all i xs le) refl
