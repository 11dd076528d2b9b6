-- Dead code is passed over up to the end of its list.
use Rattle.std.proofs.Common.{◌≡◌, ℕ, zero, suc, ◌+◌, ◌<◌, ◌≤◌, List, [], ◌∷◌, length, drop, get_or, Some, None, refl, sym, ap, ◌∙◌, arith}
use Rattle.std.proofs.lemmas.List.{length-map, drop_all}
use Rattle.wasm_syntax.specs.declared.instruction.Op.{Op}
use Rattle.wasm_syntax.specs.Tree.{Nodes, stop, basic, jump, block, loop, choose, Else, End, Placed, placed, write, code_of, item_of}
use Rattle.operand_spill.specs.calls.Standing.{Due, before_end, before_else, flat, passed, skip_by, skip}
use Rattle.operand_spill.proofs.Shapes.{begins_read}

-- nodes are passed over whole
pub passes : (nodes : Nodes) (depth : ℕ) (after : List Placed) → skip depth (write nodes after) ≡ skip depth after
passes stop depth after = refl
passes (basic at i rest) depth after = passes rest depth after
passes (jump at j rest) depth after = passes rest depth after
passes (block at t inner end rest) depth after = passes inner (suc depth) (placed end End ∷ write rest after) ∙ passes rest depth after
passes (loop at t inner end rest) depth after = passes inner (suc depth) (placed end End ∷ write rest after) ∙ passes rest depth after
passes (choose at t a None b end rest) depth after =
    passes a (suc depth) (write b (placed end End ∷ write rest after)) ∙ passes b (suc depth) (placed end End ∷ write rest after) ∙ passes rest depth after
passes (choose at t a (Some else_at) b end rest) depth after =
    passes a (suc depth) (placed else_at Else ∷ write b (placed end End ∷ write rest after)) ∙ passes b (suc depth) (placed end End ∷ write rest after) ∙ passes rest depth after

-- and what is due behind their list is not
stays : (dues : List Due) → skip zero (flat dues) ≡ flat dues
stays [] = refl
stays (before_end end rest ∷ ds) = refl
stays (before_else at other end rest ∷ ds) = refl

pub skips : (nodes : Nodes) (dues : List Due) (code : List Placed) → code ≡ write nodes (flat dues) → skip zero code ≡ flat dues
skips nodes dues code e = ap (skip zero) e ∙ passes nodes zero (flat dues) ∙ stays dues

-- an instruction is passed over
pub skip_more : (targets : List ℕ) (ops : List Op) (i : ℕ) (x : Op) (depth d : ℕ) → i < length ops → Some d ≡ passed depth (item_of targets (get_or ops i x).code) →
    skip depth (drop i (code_of targets ops)) ≡ skip d (drop (i + 1) (code_of targets ops))
skip_more targets ops i x depth d lt p =
    let code : List Placed = code_of targets ops in
    let o : Op = get_or ops i x in
    let one : suc i ≡ i + 1 = omega arith in
    ap (skip depth) (begins_read targets ops i x lt)
    ∙ ap (λ q. skip_by q (placed o.at (item_of targets o.code) ∷ drop (suc i) code) (λ k. skip k (drop (suc i) code))) (sym p)
    ∙ ap (λ n. skip d (drop n code)) one

-- or is not
skip_stops : (targets : List ℕ) (ops : List Op) (i : ℕ) (x : Op) (depth : ℕ) → i < length ops → None ≡ passed depth (item_of targets (get_or ops i x).code) →
    skip depth (drop i (code_of targets ops)) ≡ drop i (code_of targets ops)
skip_stops targets ops i x depth lt p =
    let code : List Placed = code_of targets ops in
    let o : Op = get_or ops i x in
    ap (skip depth) (begins_read targets ops i x lt)
    ∙ ap (λ q. skip_by q (placed o.at (item_of targets o.code) ∷ drop (suc i) code) (λ k. skip k (drop (suc i) code))) (sym p)
    ∙ sym (begins_read targets ops i x lt)

-- the end of the list is there, or the end of the code
pub list_ends : (targets : List ℕ) (ops : List Op) (nodes : Nodes) (dues : List Due) (from i : ℕ) (x : Op) (depth : ℕ) → drop from (code_of targets ops) ≡ write nodes (flat dues) →
    skip zero (drop from (code_of targets ops)) ≡ skip depth (drop i (code_of targets ops)) → i < length ops → None ≡ passed depth (item_of targets (get_or ops i x).code) →
    drop i (code_of targets ops) ≡ flat dues
list_ends targets ops nodes dues from i x depth e so_far lt p =
    sym (skip_stops targets ops i x depth lt p) ∙ sym so_far ∙ skips nodes dues (drop from (code_of targets ops)) e

pub code_ends : (targets : List ℕ) (ops : List Op) (nodes : Nodes) (dues : List Due) (from i depth : ℕ) → drop from (code_of targets ops) ≡ write nodes (flat dues) →
    skip zero (drop from (code_of targets ops)) ≡ skip depth (drop i (code_of targets ops)) → length ops ≤ i → drop i (code_of targets ops) ≡ flat dues
code_ends targets ops nodes dues from i depth e so_far ge =
    let none : drop i (code_of targets ops) ≡ [] = drop_all i (code_of targets ops) (omega (arith, ge, length-map ops (λ (o : Op). placed o.at (item_of targets o.code)))) in
    none ∙ sym (ap (skip depth) none) ∙ sym so_far ∙ skips nodes dues (drop from (code_of targets ops)) e
