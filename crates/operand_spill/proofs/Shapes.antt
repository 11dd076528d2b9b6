-- Which node stands at an instruction, and what is left behind it.
use Rattle.std.proofs.Common.{◌≡◌, ℕ, suc, ◌<◌, List, [], ◌∷◌, length, map, drop, get_or, slice_get, Option, Some, refl, sym, ap, subst, ◌∙◌}
use Rattle.std.proofs.lemmas.List.{drop-map}
use Rattle.std.proofs.lemmas.Option.{get_or_from_slice_get, slice_get_within}
use Rattle.std.proofs.Math.Seq.{drop-cons}
use Rattle.wasm_syntax.specs.declared.instruction.Op.{Op}
use Rattle.wasm_syntax.specs.Tree.{Nodes, stop, basic, jump, block, loop, choose, Item, Plain, Goes, Opens, OpensLoop, OpensIf, Else, End, Placed, placed, else_out, write, code_of, item_of}
use Rattle.operand_spill.specs.calls.Standing.{Due, before_end, before_else, flat}

-- the code at an index begins with this instruction
abbrev pub Begins : List Placed → ℕ → ℕ → Item → Type 0
Begins code pc at i = drop pc code ≡ placed at i ∷ drop (suc pc) code

pub begins : (targets : List ℕ) (ops : List Op) (pc : ℕ) (o : Op) → pc < length ops → o ≡ get_or ops pc o → Begins (code_of targets ops) pc o.at (item_of targets o.code)
begins targets ops pc o lt e =
    drop-map f pc ops ∙ ap (map f) (drop-cons ops pc o lt ∙ ap (λ x. x ∷ drop (suc pc) ops) (sym e)) ∙ ap (λ xs. f o ∷ xs) (sym (drop-map f (suc pc) ops))
  where
    f : Op → Placed
    f x = placed x.at (item_of targets x.code)

pub begins_read : (targets : List ℕ) (ops : List Op) (pc : ℕ) (d : Op) → pc < length ops → Begins (code_of targets ops) pc (get_or ops pc d).at (item_of targets (get_or ops pc d).code)
begins_read targets ops pc d lt =
    drop-map f pc ops ∙ ap (map f) (drop-cons ops pc d lt) ∙ ap (λ xs. f (get_or ops pc d) ∷ xs) (sym (drop-map f (suc pc) ops))
  where
    f : Op → Placed
    f x = placed x.at (item_of targets x.code)

pub begins_there : (code : List Placed) (pc at : ℕ) (i : Item) → slice_get code pc ≡ Some (placed at i) → Begins code pc at i
begins_there code pc at i e =
    drop-cons code pc (placed at i) (slice_get_within code pc (placed at i) e) ∙ ap (λ x. x ∷ drop (suc pc) code) (get_or_from_slice_get code pc (placed at i) (placed at i) e)

-- the node at an instruction, and what is left behind it
abbrev pub Shape : ℕ → Item → List Placed → Nodes → List Due → Type 0
Shape at (Plain i) xs nodes ds = (rest : Nodes) × (nodes ≡ basic at i rest) × (xs ≡ write rest (flat ds))
Shape at (Goes j) xs nodes ds = (rest : Nodes) × (nodes ≡ jump at j rest) × (xs ≡ write rest (flat ds))
Shape at (Opens t) xs nodes ds = (inner : Nodes) × (end : ℕ) × (rest : Nodes) × (nodes ≡ block at t inner end rest) × (xs ≡ write inner (flat (before_end end rest ∷ ds)))
Shape at (OpensLoop t) xs nodes ds = (inner : Nodes) × (end : ℕ) × (rest : Nodes) × (nodes ≡ loop at t inner end rest) × (xs ≡ write inner (flat (before_end end rest ∷ ds)))
Shape at (OpensIf t) xs nodes ds =
    (a : Nodes) × (else_at : Option ℕ) × (b : Nodes) × (end : ℕ) × (rest : Nodes) × (nodes ≡ choose at t a else_at b end rest)
    × (xs ≡ write a (else_out else_at (write b (flat (before_end end rest ∷ ds)))))
Shape at Else xs nodes ds =
    (nodes ≡ stop) × (other : Nodes) × (end : ℕ) × (rest : Nodes) × (below : List Due) × (ds ≡ before_else at other end rest ∷ below)
    × (xs ≡ write other (flat (before_end end rest ∷ below)))
Shape at End xs nodes ds = (nodes ≡ stop) × (rest : Nodes) × (below : List Due) × (ds ≡ before_end at rest ∷ below) × (xs ≡ write rest (flat below))

moved : (P : ℕ → Item → List Placed → Type 0) (at at' : ℕ) (i i' : Item) (xs xs' : List Placed) → placed at i ∷ xs ≡ placed at' i' ∷ xs' → P at' i' xs' → P at i xs
moved P at at' i i' xs xs' e p =
    let head : placed at i ≡ placed at' i' = cc in
    let tail : xs ≡ xs' = cc in
    let a : at ≡ at' = ap (λ (x : Placed). x.at) head in
    let k : i ≡ i' = ap (λ (x : Placed). x.code) head in
    subst (λ z. P z i xs) (sym a) (subst (λ z. P at' z xs) (sym k) (subst (λ z. P at' i' z) (sym tail) p))

pub shape : (nodes : Nodes) (ds : List Due) (at : ℕ) (i : Item) (xs : List Placed) → placed at i ∷ xs ≡ write nodes (flat ds) → Shape at i xs nodes ds
shape stop [] at i xs e = absurd (cc)
shape stop (before_end end rest ∷ ds) at i xs e = moved (λ a k z. Shape a k z stop (before_end end rest ∷ ds)) _ _ _ _ _ _ e (refl, rest, ds, refl, refl)
shape stop (before_else else_at other end rest ∷ ds) at i xs e =
    moved (λ a k z. Shape a k z stop (before_else else_at other end rest ∷ ds)) _ _ _ _ _ _ e (refl, other, end, rest, ds, refl, refl)
shape (basic o b rest) ds at i xs e = moved (λ a k z. Shape a k z (basic o b rest) ds) _ _ _ _ _ _ e (rest, refl, refl)
shape (jump o j rest) ds at i xs e = moved (λ a k z. Shape a k z (jump o j rest) ds) _ _ _ _ _ _ e (rest, refl, refl)
shape (block o t inner end rest) ds at i xs e = moved (λ a k z. Shape a k z (block o t inner end rest) ds) _ _ _ _ _ _ e (inner, end, rest, refl, refl)
shape (loop o t inner end rest) ds at i xs e = moved (λ a k z. Shape a k z (loop o t inner end rest) ds) _ _ _ _ _ _ e (inner, end, rest, refl, refl)
shape (choose o t a else_at b end rest) ds at i xs e =
    moved (λ p k z. Shape p k z (choose o t a else_at b end rest) ds) _ _ _ _ _ _ e (a, else_at, b, end, rest, refl, refl)
