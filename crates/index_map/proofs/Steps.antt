-- Sums over the front of a list, in the words of what is left.
use Rattle.std.proofs.Common.{◌≡◌, ℕ, suc, ◌+◌, ◌*◌, ◌<◌, ◌≤◌, List, [], ◌∷◌, length, get_or, drop, map, flat_map, length-append, ap, ap₂, ◌∙◌, arith, slice_get, unwrap_or, if◌then◌else◌, Bool, Option, Some}
use Rattle.std.specs.Prelude.{max, sum}
use Rattle.std.proofs.Math.Seq.{drop-cons}
use Rattle.std.proofs.lemmas.Bool.{le-ltb}
use Rattle.wasm_syntax.specs.declared.instruction.Op.{Op}
use Rattle.wasm_syntax.specs.declared.parts.Body.{Body}
use Rattle.wasm_syntax.specs.declared.parts.Export.{Export}
use Rattle.wasm_syntax.specs.declared.parts.FuncType.{FuncType}
use Rattle.wasm_syntax.specs.declared.module.ModuleParts.{ModuleParts as Module}
use Rattle.wasm_syntax.specs.Module.{type_at, is_function}
use Rattle.wasm_syntax.specs.Sizes.{local_count}
use Rattle.wasm_syntax.specs.declared.quantity.Quantity.{Quantity}
use Rattle.wasm_syntax.specs.declared.quantity.Quantity.TheVariants.{InstrumentLocals, InstrumentHeight}
use Rattle.wasm_syntax.specs.Quantity.{greatest}
use Rattle.index_map.specs.Limits.{function_locals, function_heights, first_over}
use Rattle.rewrite_modules.specs.Multiple.{highest}
use Rattle.rewrite_modules.specs.Weight.{height_at, op_weight, ops_weight, bodies_weight, exports_weight}
use Rattle.rewrite_bodies.specs.Numbering.{entry_weight}
use Rattle.rewrite_bodies.proofs.Doubled.{weights_more}
use Rattle.wasm_syntax.specs.declared.parts.ElementSeg.{ElementSeg}

-- a function of a number and of what is left of a list
at_front : {A B : Type 0} (go : ℕ → List A → B) (xs : List A) (i : ℕ) (d : A) → i < length xs → go i (drop i xs) ≡ go i (get_or xs i d ∷ drop (suc i) xs)
at_front go xs i d lt = ap (go i) (drop-cons xs i d lt)

pub ops_more : (h : ℕ → ℕ) (ops : List Op) (j : ℕ) (d : Op) → j < length ops → ops_weight h j (drop j ops) ≡ op_weight (get_or ops j d) (h j) + ops_weight h (j + 1) (drop (j + 1) ops)
ops_more h ops j d lt =
    let next : suc j ≡ j + 1 = omega arith in
    at_front (ops_weight h) ops j d lt ∙ ap (λ (k : ℕ). op_weight (get_or ops j d) (h j) + ops_weight h k (drop k ops)) next

pub highest_more : (h : ℕ → ℕ) (ops : List Op) (j : ℕ) (d : Op) → j < length ops → highest h j (drop j ops) ≡ max (h j) (highest h (j + 1) (drop (j + 1) ops))
highest_more h ops j d lt =
    let next : suc j ≡ j + 1 = omega arith in
    at_front (highest h) ops j d lt ∙ ap (λ (k : ℕ). max (h j) (highest h k (drop k ops))) next

abbrev pub body_weight : Module → List (List ℕ) → ℕ → Body → ℕ
body_weight m heights i b = 192 + 16 * local_count (type_at m (length m.imports + i)) b + ops_weight (height_at heights i) 0 b.ops

-- what code finds for a function is its weight
pub same_weight : (m : Module) (heights : List (List ℕ)) (i r : ℕ) (b : Body) (o : Option FuncType) (ns : List ℕ) → o ≡ type_at m (length m.imports + i) → ns ≡ unwrap_or (slice_get heights i) []
    → r ≡ 192 + 16 * local_count o b + ops_weight (λ (j : ℕ). unwrap_or (slice_get ns j) 0) 0 b.ops → r ≡ body_weight m heights i b
same_weight m heights i r b o ns e d is =
    is ∙ ap₂ (λ (q : Option FuncType) (hs : List ℕ). 192 + 16 * local_count q b + ops_weight (λ (j : ℕ). unwrap_or (slice_get hs j) 0) 0 b.ops) e d

-- and so is its greatest height
pub same_highest : (heights : List (List ℕ)) (i n : ℕ) (ns : List ℕ) (ops here : List Op) → ns ≡ unwrap_or (slice_get heights i) [] → ops ≡ here → n ≡ highest (λ (j : ℕ). unwrap_or (slice_get ns j) 0) 0 ops → n ≡ highest (height_at heights i) 0 here
same_highest heights i n ns ops here e d is = is ∙ ap₂ (λ (hs : List ℕ) (os : List Op). highest (λ (j : ℕ). unwrap_or (slice_get hs j) 0) 0 os) e d

pub bodies_more : (m : Module) (heights : List (List ℕ)) (bs : List Body) (i : ℕ) (d : Body) → i < length bs → bodies_weight m heights i (drop i bs) ≡ body_weight m heights i (get_or bs i d) + bodies_weight m heights (i + 1) (drop (i + 1) bs)
bodies_more m heights bs i d lt =
    let next : suc i ≡ i + 1 = omega arith in
    at_front (bodies_weight m heights) bs i d lt ∙ ap (λ (k : ℕ). body_weight m heights i (get_or bs i d) + bodies_weight m heights k (drop k bs)) next

abbrev pub export_weight : Module → Export → ℕ
export_weight m e = if is_function e.kind then entry_weight m e.index else 0

pub exports_more : (m : Module) (es : List Export) (i : ℕ) (d : Export) → i < length es → exports_weight m (drop i es) ≡ export_weight m (get_or es i d) + exports_weight m (drop (i + 1) es)
exports_more m es i d lt =
    let next : suc i ≡ i + 1 = omega arith in
    at_front (λ (n : ℕ) (xs : List Export). exports_weight m xs) es i d lt ∙ ap (λ (k : ℕ). export_weight m (get_or es i d) + exports_weight m (drop k es)) next

-- what wrappers weigh, and how many places segments have
pub wrappers_more : (m : Module) (fs : List ℕ) (i d : ℕ) → i < length fs → sum (map (entry_weight m) (drop i fs)) ≡ entry_weight m (get_or fs i d) + sum (map (entry_weight m) (drop (i + 1) fs))
wrappers_more m fs i d lt =
    let next : suc i ≡ i + 1 = omega arith in
    at_front (λ (n : ℕ) (xs : List ℕ). sum (map (entry_weight m) xs)) fs i d lt ∙ weights_more m (get_or fs i d) (drop (suc i) fs)
    ∙ ap (λ (k : ℕ). entry_weight m (get_or fs i d) + sum (map (entry_weight m) (drop k fs))) next

pub places_more : (es : List ElementSeg) (i : ℕ) (d : ElementSeg) → i < length es → length (flat_map (λ e. e.functions) (drop i es)) ≡ length (get_or es i d).functions + length (flat_map (λ e. e.functions) (drop (i + 1) es))
places_more es i d lt =
    let next : suc i ≡ i + 1 = omega arith in
    at_front (λ (n : ℕ) (xs : List ElementSeg). length (flat_map (λ e. e.functions) xs)) es i d lt ∙ length-append (get_or es i d).functions (flat_map (λ e. e.functions) (drop (suc i) es))
    ∙ ap (λ (k : ℕ). length (get_or es i d).functions + length (flat_map (λ e. e.functions) (drop k es))) next

-- ---- the first number that passes

-- one that does not pass is passed over
passed : (what : Quantity) (n : ℕ) (ns : List ℕ) → n ≤ greatest what → first_over what (n ∷ ns) ≡ first_over what ns
passed what n ns le = ap (λ (b : Bool). if b then Some (record { what = what; count = n }) else first_over what ns) (le-ltb (greatest what) n le)

pub locals_more : (m : Module) (bs : List Body) (i : ℕ) (d : Body) → i < length bs → local_count (type_at m (length m.imports + i)) (get_or bs i d) ≤ 10000 → first_over InstrumentLocals (function_locals m i (drop i bs)) ≡ first_over InstrumentLocals (function_locals m (i + 1) (drop (i + 1) bs))
locals_more m bs i d lt le =
    let next : suc i ≡ i + 1 = omega arith in
    at_front (λ (n : ℕ) (xs : List Body). first_over InstrumentLocals (function_locals m n xs)) bs i d lt
    ∙ passed InstrumentLocals (local_count (type_at m (length m.imports + i)) (get_or bs i d)) (function_locals m (i + 1) (drop (suc i) bs)) le
    ∙ ap (λ (k : ℕ). first_over InstrumentLocals (function_locals m (i + 1) (drop k bs))) next

pub heights_more : (heights : List (List ℕ)) (bs : List Body) (i : ℕ) (d : Body) → i < length bs → highest (height_at heights i) 0 (get_or bs i d).ops ≤ 1000 → first_over InstrumentHeight (function_heights heights i (drop i bs)) ≡ first_over InstrumentHeight (function_heights heights (i + 1) (drop (i + 1) bs))
heights_more heights bs i d lt le =
    let next : suc i ≡ i + 1 = omega arith in
    at_front (λ (n : ℕ) (xs : List Body). first_over InstrumentHeight (function_heights heights n xs)) bs i d lt
    ∙ passed InstrumentHeight (highest (height_at heights i) 0 (get_or bs i d).ops) (function_heights heights (i + 1) (drop (suc i) bs)) le
    ∙ ap (λ (k : ℕ). first_over InstrumentHeight (function_heights heights (i + 1) (drop k bs))) next
