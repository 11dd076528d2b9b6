-- What is left of an expression, at each turn of the loop over its operators.
use Rattle.std.proofs.Common.{◌≡◌, ℕ, zero, suc, ◌-◌, ◌≤◌, List, [], ◌++◌, length, take, drop, Option, Ok, Err, refl, sym, ap, subst, ◌∙◌, arith, length-drop}
use Rattle.std.proofs.Math.Seq.{take-length}
use Rattle.std.specs.Prelude.{slice_range}
use Rattle.std.proofs.lemmas.List.{append_assoc}
use Rattle.wasm_bytes.specs.Place.{Place}
use Rattle.dwarf_loc.specs.Addresses.{Addresses}
use Rattle.dwarf5_info.specs.Plain.{address_item, replaced, plain, plain_from}

pub goes_on : (addresses : Addresses) (n : ℕ) (p q : Place) (x : Option ℕ) → address_item addresses p ≡ Ok (x, q)
    → plain_from addresses (suc n) p ≡ replaced x (slice_range p.block p.at q.at) ++ plain_from addresses n q
unfolding plain_from
goes_on addresses n p q x h = rw h refl

pub ends : (addresses : Addresses) (n : ℕ) (p : Place) (at : ℕ) → address_item addresses p ≡ Err at → plain_from addresses n p ≡ drop p.at p.block
unfolding plain_from
ends addresses zero p at h = refl
ends addresses (suc n) p at h = rw h refl

-- in front of the first operator
pub start : (addresses : Addresses) (expr front : List ℕ) (p : Place) → front ≡ [] → (let q : Place = record { block = expr; at = 0 } in p ≡ q)
    → (n : ℕ) × (length p.block - p.at ≤ n) × (plain addresses expr ≡ front ++ plain_from addresses n p)
unfolding plain
start addresses expr front p none begins =
    let q : Place = record { block = expr; at = 0 } in
    subst (λ (x : Place). (n : ℕ) × (length x.block - x.at ≤ n) × (plain addresses expr ≡ front ++ plain_from addresses n x)) (sym begins)
    (subst (λ (xs : List ℕ). (n : ℕ) × (length q.block - q.at ≤ n) × (plain addresses expr ≡ xs ++ plain_from addresses n q)) (sym none) (length expr, omega arith, refl))

-- behind an operator
pub turn : (addresses : Addresses) (whole old new operator : List ℕ) (n : ℕ) (p q : Place) (x : Option ℕ) → whole ≡ old ++ plain_from addresses (suc n) p
    → address_item addresses p ≡ Ok (x, q) → operator ≡ slice_range p.block p.at q.at → new ≡ old ++ replaced x operator → whole ≡ new ++ plain_from addresses n q
turn addresses whole old new operator n p q x so_far read is made =
    so_far ∙ ap (λ rest. old ++ rest) (goes_on addresses n p q x read)
    ∙ sym (append_assoc old (replaced x (slice_range p.block p.at q.at)) (plain_from addresses n q))
    ∙ ap (λ front. front ++ plain_from addresses n q) (sym (made ∙ ap (λ o. old ++ replaced x o) is))

-- where none is read
pub stop : (addresses : Addresses) (whole old new left : List ℕ) (n at : ℕ) (p : Place) → whole ≡ old ++ plain_from addresses n p → address_item addresses p ≡ Err at
    → left ≡ drop p.at p.block → new ≡ old ++ left → new ≡ whole
stop addresses whole old new left n at p so_far read is made =
    made ∙ ap (λ rest. old ++ rest) (is ∙ sym (ends addresses n p at read)) ∙ sym so_far

pub sliced : (expr : List ℕ) (from to : ℕ) (p q : Place) → from ≡ p.at → to ≡ q.at → p.block ≡ expr → slice_range expr from to ≡ slice_range p.block p.at q.at
sliced expr from to p q begins ends same = rw (begins, ends, same) refl

pub rest : (expr : List ℕ) (from : ℕ) (p : Place) → from ≡ p.at → p.block ≡ expr → take (length expr - from) (drop from expr) ≡ drop p.at p.block
rest expr from p begins same =
    let all : length expr - from ≡ length (drop from expr) = sym (length-drop from expr) in
    ap (λ n. take n (drop from expr)) all ∙ take-length (drop from expr) ∙ ap (λ n. drop n expr) begins ∙ ap (drop p.at) (sym same)
