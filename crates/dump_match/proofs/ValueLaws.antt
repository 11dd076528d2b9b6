-- Values against types, part by part.
use Rattle.std.proofs.Common.{◌≡◌, ◌≢◌, ℕ, zero, suc, ◌+◌, ◌<◌, ◌≤◌, ◌-◌, ◌==◌, Bool, true, false, ◌&&◌, List, [], ◌∷◌, ◌++◌, length, take, drop, get_or, slice_get, Some, replicate, reverse, refl, sym, ap, ap₂, ◌∙◌, arith, add-one, drop-cons}
use Rattle.std.proofs.lemmas.List.{length-reverse, reverse-append, length-replicate, length-drop, take-append-drop}
use Rattle.std.proofs.Math.Seq.{take-append_seam}
use Rattle.wasm_syntax.specs.declared.value.ValType.{ValType}
use Rattle.wasm_syntax.specs.declared.value.Seen.{Seen}
use Rattle.wasm_syntax.specs.declared.parts.LocalGroup.{LocalGroup}
use Rattle.wasm_syntax.specs.Module.{declared_locals}
use Rattle.dump_match.specs.Values.{has_type, have_types, can_be}
use Rattle.std.proofs.Math.Bool.{and-false}
use Rattle.pm_text.proofs.Lists.{some_is}

pub other_length : (ts : List ValType) (vs : List Seen) → length ts ≢ length vs → have_types ts vs ≡ false
other_length [] [] h = absurd (h refl)
other_length [] (v ∷ vs) h = refl
other_length (t ∷ ts) [] h = refl
other_length (t ∷ ts) (v ∷ vs) h = ap (λ z. has_type t v && z) (other_length ts vs (λ e. h (ap suc e))) ∙ and-false (has_type t v)

and_assoc : (a b c : Bool) → ((a && b) && c) ≡ (a && (b && c))
and_assoc true b c = refl
and_assoc false b c = refl

-- the first types are those of the first values
pub in_parts : (ts us : List ValType) (vs : List Seen) → length ts ≤ length vs → have_types (ts ++ us) vs ≡ (have_types ts (take (length ts) vs) && have_types us (drop (length ts) vs))
in_parts [] us vs h = refl
in_parts (t ∷ ts) us [] h = absurd (omega (arith, h))
in_parts (t ∷ ts) us (v ∷ vs) h =
    let le : length ts ≤ length vs = omega (arith, h) in
    ap (λ z. has_type t v && z) (in_parts ts us vs le) ∙ sym (and_assoc (has_type t v) (have_types ts (take (length ts) vs)) (have_types us (drop (length ts) vs)))

-- too few values for the first types
pub too_few : (ts us : List ValType) (vs : List Seen) → length vs < length ts → have_types (ts ++ us) vs ≡ false
too_few [] us vs h = absurd (omega (arith, h))
too_few (t ∷ ts) us [] h = refl
too_few (t ∷ ts) us (v ∷ vs) h =
    let lt : length vs < length ts = omega (arith, h) in
    ap (λ z. has_type t v && z) (too_few ts us vs lt) ∙ and-false (has_type t v)

pub filled : (vs : List Seen) (ts : List ValType) → (length vs == 0) ≡ false → can_be ts vs ≡ have_types ts vs
filled [] ts h = absurd (cc)
filled (v ∷ vs) ts h = refl

-- ---- value by value

pub fails_at : (ts : List ValType) (vs : List Seen) (i : ℕ) (d : ValType) (e : Seen) → i < length ts → i < length vs → has_type (get_or ts i d) (get_or vs i e) ≡ false → have_types (drop i ts) (drop i vs) ≡ false
fails_at ts vs i d e h k q = rw (drop-cons ts i d h, drop-cons vs i e k, q) refl

pub all_one : (t : ValType) (vs : List Seen) (i : ℕ) (e : Seen) → i < length vs → have_types (replicate (length vs - i) t) (drop i vs) ≡ (has_type t (get_or vs i e) && have_types (replicate (length vs - (i + 1)) t) (drop (i + 1) vs))
all_one t vs i e h =
    let n : length vs - i ≡ suc (length vs - (i + 1)) = omega (arith, h) in
    rw (n, drop-cons vs i e h, add-one i) refl

pub drop_take : (ts : List ValType) (count i : ℕ) (t : ValType) → slice_get ts i ≡ Some t → i < count → drop i (take count ts) ≡ t ∷ drop (suc i) (take count ts)
drop_take [] count i t e h = absurd (cc)
drop_take (u ∷ ts) zero i t e h = absurd (omega (arith, h))
drop_take (u ∷ ts) (suc n) zero t e h = ap (λ z. z ∷ take n ts) (some_is e)
drop_take (u ∷ ts) (suc n) (suc i) t e h = let lt : i < n = omega (arith, h) in drop_take ts n i t e lt

pub take_step : (ts : List ValType) (count i : ℕ) (t : ValType) (vs : List Seen) (e : Seen) → slice_get ts i ≡ Some t → i < count → i < length vs → have_types (drop i (take count ts)) (drop i vs) ≡ (has_type t (get_or vs i e) && have_types (drop (i + 1) (take count ts)) (drop (i + 1) vs))
take_step ts count i t vs e at h k = rw (drop_take ts count i t at h, drop-cons vs i e k, add-one i) refl

-- ---- group by group

pub group_few : (g : LocalGroup) (gs : List LocalGroup) (vs : List Seen) → length vs < g.count → have_types (declared_locals (g ∷ gs)) vs ≡ false
group_few g gs vs h =
    let n : length (replicate g.count g.vtype) ≡ g.count = length-replicate g.count g.vtype in
    too_few (replicate g.count g.vtype) (declared_locals gs) vs (omega (arith, h, n))

pub group_step : (g : LocalGroup) (gs : List LocalGroup) (vs front back : List Seen) → g.count ≤ length vs → front ≡ take g.count vs → back ≡ drop g.count vs → length front ≡ g.count → have_types (declared_locals (g ∷ gs)) vs ≡ (have_types (replicate (length front) g.vtype) front && have_types (declared_locals gs) back)
group_step g gs vs front back h f b l =
    let n : length (replicate g.count g.vtype) ≡ g.count = length-replicate g.count g.vtype in
    let le : length (replicate g.count g.vtype) ≤ length vs = omega (arith, h, n) in
    in_parts (replicate g.count g.vtype) (declared_locals gs) vs le
    ∙ ap₂ (λ x y. have_types (replicate g.count g.vtype) x && have_types (declared_locals gs) y) (ap (λ k. take k vs) n ∙ sym f) (ap (λ k. drop k vs) n ∙ sym b)
    ∙ ap (λ k. have_types (replicate k g.vtype) front && have_types (declared_locals gs) back) (sym l)

pub next_group : (gs : List LocalGroup) (i : ℕ) (d : LocalGroup) → i < length gs → declared_locals (drop i gs) ≡ declared_locals (get_or gs i d ∷ drop (i + 1) gs)
next_group gs i d h = let e : drop i gs ≡ get_or gs i d ∷ drop (i + 1) gs = rw (add-one i) (drop-cons gs i d h) in ap declared_locals e

pub locals_split : (ps us : List ValType) (vs front back : List Seen) → (length vs == 0) ≡ false → length ps ≤ length vs → front ≡ take (length ps) vs → back ≡ drop (length ps) vs → (have_types ps front && have_types us back) ≡ can_be (ps ++ us) vs
locals_split ps us vs front back ne h f b =
    ap₂ (λ x y. have_types ps x && have_types us y) f b ∙ sym (filled vs (ps ++ us) ne ∙ in_parts ps us vs h)

-- ---- the bottom ones

pub take_reverse : (xs : List ValType) (n : ℕ) → take (length xs - n) (reverse xs) ≡ reverse (drop n xs)
take_reverse xs n =
    let back = reverse (drop n xs) in
    let front = reverse (take n xs) in
    let e : reverse xs ≡ back ++ front = ap reverse (sym (take-append-drop n xs)) ∙ reverse-append (take n xs) (drop n xs) in
    let l : length xs - n ≡ length back = sym (length-reverse (drop n xs) ∙ length-drop n xs) in
    ap₂ take l e ∙ take-append_seam back front

pub take_all : (xs : List ValType) → take (length xs) (reverse xs) ≡ reverse xs
take_all xs = let z : length xs ≡ length xs - 0 = omega arith in ap (λ k. take k (reverse xs)) z ∙ take_reverse xs 0
