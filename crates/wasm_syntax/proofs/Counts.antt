-- Counting over the front of a list, in the words of what is left.
use Rattle.std.proofs.Common.{◌≡◌, ℕ, suc, ◌+◌, ◌<◌, ◌≤◌, List, [], ◌∷◌, length, get_or, drop, sym, ap, ◌∙◌, arith}
use Rattle.std.specs.Prelude.{map, max, sum, fold}
use Rattle.std.proofs.Math.Seq.{drop-cons}
use Rattle.wasm_syntax.specs.declared.instruction.Instr.{Instr}
use Rattle.wasm_syntax.specs.declared.instruction.Instr.TheVariants as instr
use Rattle.wasm_syntax.specs.declared.instruction.Op.{Op}
use Rattle.wasm_syntax.specs.declared.parts.LocalGroup.{LocalGroup}
use Rattle.wasm_syntax.specs.Sizes.{depth_behind, deepest}

at_front : {A : Type 0} (xs : List A) (i : ℕ) (d : A) → i < length xs → drop i xs ≡ get_or xs i d ∷ drop (i + 1) xs
at_front xs i d inside =
    let next : suc i ≡ i + 1 = omega arith in
    drop-cons xs i d inside ∙ ap (λ (k : ℕ). get_or xs i d ∷ drop k xs) next

-- ---- nesting

abbrev codes : List Op → List Instr
codes ops = map (λ o. o.code) ops

deepest_least : (depth : ℕ) (is : List Instr) → depth ≤ deepest depth is
deepest_least depth [] = omega arith
deepest_least depth (i ∷ is) = omega arith

pub behind_few : (depth : ℕ) (i : Instr) → depth_behind depth i ≤ depth + 1
behind_few depth (instr.Basic i) = omega arith
behind_few depth (instr.Jump j) = omega arith
behind_few depth (instr.Block t) = omega arith
behind_few depth (instr.Loop t) = omega arith
behind_few depth (instr.If t) = omega arith
behind_few depth instr.Else = omega arith
behind_few depth instr.End = omega arith

one_deeper : (depth most behind : ℕ) (o : Op) (rest : List Op) → depth ≤ most → behind ≡ depth_behind depth o.code → max most (deepest depth (codes (o ∷ rest))) ≡ max (max most behind) (deepest behind (codes rest))
one_deeper depth most behind o rest below is =
    let least = deepest_least behind (codes rest) in
    let same : deepest (depth_behind depth o.code) (codes rest) ≡ deepest behind (codes rest) = ap (λ (d : ℕ). deepest d (codes rest)) (sym is) in
    omega (arith, below, least, same)

pub deeper : (ops : List Op) (i depth most behind : ℕ) (d : Op) → i < length ops → depth ≤ most → behind ≡ depth_behind depth (get_or ops i d).code
    → max most (deepest depth (codes (drop i ops))) ≡ max (max most behind) (deepest behind (codes (drop (i + 1) ops)))
deeper ops i depth most behind d inside below is =
    ap (λ (xs : List Op). max most (deepest depth (codes xs))) (at_front ops i d inside) ∙ one_deeper depth most behind (get_or ops i d) (drop (i + 1) ops) below is

-- ---- locals

abbrev counts : List LocalGroup → List ℕ
counts groups = map (λ g. g.count) groups

abbrev add : ℕ → ℕ → ℕ
add a x = a + x

fold_least : (total : ℕ) (xs : List ℕ) → total ≤ fold add total xs
fold_least total [] = omega arith
fold_least total (x ∷ xs) = omega (arith, fold_least (total + x) xs)

pub sum_fits : (groups : List LocalGroup) (i total : ℕ) (d : LocalGroup) → i < length groups → sum (counts groups) ≡ fold add total (counts (drop i groups)) → total + (get_or groups i d).count ≤ sum (counts groups)
sum_fits groups i total d inside so_far =
    let g = get_or groups i d in
    let cut : fold add total (counts (drop i groups)) ≡ fold add (total + g.count) (counts (drop (i + 1) groups)) = ap (λ (xs : List LocalGroup). fold add total (counts xs)) (at_front groups i d inside) in
    omega (arith, fold_least (total + g.count) (counts (drop (i + 1) groups)), so_far, cut)
