-- The targets of a `br_table` among those of its body.
use Rattle.std.proofs.Common.{◌≡◌, ℕ, zero, suc, ◌+◌, ◌<◌, ◌≤◌, List, [], ◌∷◌, length, take, drop, get_or, refl, sym, ap, ◌∙◌, arith, length-take}
use Rattle.std.proofs.lemmas.List.{get_or-take, get_or-drop}
use Rattle.std.proofs.lemmas.Option.{get_or_from_slice_get, unwrap_or-slice_get}
use Rattle.std.specs.Prelude.{Some, None, slice_get, unwrap_or}
use Rattle.wasm_syntax.specs.Machine.{pick}

pick_is : (xs : List ℕ) (d n : ℕ) → pick xs d n ≡ get_or xs n d
pick_is [] d zero = refl
pick_is [] d (suc n) = refl
pick_is (x ∷ xs) d zero = refl
pick_is (x ∷ xs) d (suc n) = pick_is xs d n

pick_past : (xs : List ℕ) (d n : ℕ) → length xs ≤ n → pick xs d n ≡ d
pick_past [] d n le = refl
pick_past (x ∷ xs) d zero le = absurd (omega arith)
pick_past (x ∷ xs) d (suc n) le = pick_past xs d n (omega arith)

within : (xs : List ℕ) (start count d n : ℕ) → n < count → pick (take count (drop start xs)) d n ≡ get_or xs (start + n) d
within xs start count d n lt = pick_is (take count (drop start xs)) d n ∙ get_or-take count (drop start xs) n d lt ∙ get_or-drop start xs n d

pub past : (xs : List ℕ) (start count d n : ℕ) → count ≤ n → pick (take count (drop start xs)) d n ≡ d
past xs start count d n le = pick_past (take count (drop start xs)) d n (omega (arith, length-take count (drop start xs)))

pub found : (xs : List ℕ) (start count d n label : ℕ) → n < count → slice_get xs (start + n) ≡ Some label → label ≡ pick (take count (drop start xs)) d n
found xs start count d n label lt e = sym (get_or_from_slice_get xs (start + n) label d e) ∙ sym (within xs start count d n lt)

get_or_none : (xs : List ℕ) (n d : ℕ) → slice_get xs n ≡ None → get_or xs n d ≡ d
get_or_none xs n d e = sym (unwrap_or-slice_get xs n d) ∙ ap (λ o. unwrap_or o d) e

pub absent : (xs : List ℕ) (start count d n : ℕ) → n < count → slice_get xs (start + n) ≡ None → d ≡ pick (take count (drop start xs)) d n
absent xs start count d n lt e = sym (within xs start count d n lt ∙ get_or_none xs (start + n) d e)
