-- How long the encodings of code are, and which types code uses.
use Rattle.std.proofs.Common.{◌≡◌, ℕ, zero, suc, ◌+◌, ◌≤◌, List, [], ◌∷◌, ◌++◌, length, flat_map, take, drop, Option, Some, None, refl, sym, ap, ap₂, ◌∙◌, arith, length-append, append_assoc, append-nil}
use Rattle.wasm_leb.specs.Writing.{unsigned_bytes}
use Rattle.wasm_syntax.specs.declared.instruction.Basic.{Basic}
use Rattle.wasm_syntax.specs.declared.instruction.Jump.{Jump as FlatJump}
use Rattle.wasm_syntax.specs.declared.instruction.Instr.{Instr}
use Rattle.wasm_syntax.specs.declared.instruction.Op.{Op}
use Rattle.wasm_syntax.specs.declared.parts.Body.{Body}
use Rattle.wasm_syntax.specs.Tree.{Jump, Unreachable, Br, BrIf, BrTable, Return, Call, CallIndirect, Nodes, stop, basic, jump, block, loop, choose, Tree, Item, Plain, Goes, Opens, OpensLoop, OpensIf, Else, End, Placed, placed, else_out, write, item_of, jump_of, code_of, Writes}
use Rattle.wasm_syntax.specs.Module.{AllWrite}
use Rattle.wasm_format.specs.Encoding.{jump_bytes, encoding}
use Rattle.wasm_encode.specs.Encoding.{expression_bytes}
use Rattle.wasm_format_laws.proofs.Measures.{number_rises}
use Rattle.rewrite_bodies.specs.Numbering.{uses}
use Rattle.rewrite_bodies.specs.calls.Length.{basic_length, jump_length}
use Rattle.rewrite_modules.specs.Weight.{type_used}
use Rattle.wasm_format_laws.proofs.Totals.{total, flat_total}
use Rattle.wasm_format.proofs.Shortest.{labels_length}
use Rattle.wasm_syntax.specs.declared.instruction.Jump.TheVariants as flat
use Rattle.wasm_syntax.specs.declared.instruction.Instr.TheVariants as instrs
use Rattle.wasm_format.proofs.Shortest.{some_bytes}

-- ---- lengths of items

abbrev pub item_length : Item → ℕ
item_length (Plain i) = basic_length i
item_length (Goes j) = jump_length j
item_length (Opens t) = 2
item_length (OpensLoop t) = 2
item_length (OpensIf t) = 2
item_length Else = 1
item_length End = 1

pub taken_most : {A : Type 0} (n : ℕ) (xs : List A) → length (take n xs) ≤ n
taken_most zero xs = omega arith
taken_most (suc n) [] = omega arith
taken_most (suc n) (x ∷ xs) = omega (arith, taken_most n xs)

pub jump_short : (T : List ℕ) (j : FlatJump) → jump_length (jump_of T j) ≤ length (jump_bytes T j)
jump_short T flat.Unreachable = omega arith
jump_short T (flat.Br l) = omega arith
jump_short T (flat.BrIf l) = omega arith
jump_short T (flat.BrTable start count d) =
    let ts = take count (drop start T) in
    let a = labels_length (length ts) d ts in
    let b = labels_length count d ts in
    let c = number_rises (length ts) count (taken_most count (drop start T)) in
    omega (arith, a, b, c)
jump_short T flat.Return = omega arith
jump_short T (flat.Call f) = omega arith
jump_short T (flat.CallIndirect t) = omega (arith, length-append (unsigned_bytes t) (0x00 ∷ []))

-- no instruction is shorter than its item
pub item_short : (T : List ℕ) (i : Instr) → item_length (item_of T i) ≤ length (encoding T i)
unfolding encoding
item_short T (instrs.Basic i) = omega arith
item_short T (instrs.Jump j) = jump_short T j
item_short T (instrs.Block t) = omega arith
item_short T (instrs.Loop t) = omega arith
item_short T (instrs.If t) = omega arith
item_short T instrs.Else = omega arith
item_short T instrs.End = omega arith

abbrev pub ops_bytes : List ℕ → List Op → ℕ
ops_bytes T ops = total (λ o. length (encoding T o.code)) ops

pub expression_total : (body : Body) → length (expression_bytes body) ≡ ops_bytes body.targets body.ops
unfolding expression_bytes
expression_total body = flat_total (λ o. encoding body.targets o.code) body.ops

-- ---- the types that are used

abbrev pub item_used : Item → List ℕ
item_used (Goes (CallIndirect t)) = t ∷ []
item_used x = []

abbrev pub items_used : List Placed → List ℕ
items_used xs = flat_map (λ x. item_used x.code) xs

pub instr_used : (T : List ℕ) (i : Instr) → type_used i ≡ item_used (item_of T i)
instr_used T (instrs.Basic i) = refl
instr_used T (instrs.Jump flat.Unreachable) = refl
instr_used T (instrs.Jump (flat.Br l)) = refl
instr_used T (instrs.Jump (flat.BrIf l)) = refl
instr_used T (instrs.Jump (flat.BrTable s c d)) = refl
instr_used T (instrs.Jump flat.Return) = refl
instr_used T (instrs.Jump (flat.Call f)) = refl
instr_used T (instrs.Jump (flat.CallIndirect t)) = refl
instr_used T (instrs.Block t) = refl
instr_used T (instrs.Loop t) = refl
instr_used T (instrs.If t) = refl
instr_used T instrs.Else = refl
instr_used T instrs.End = refl

pub code_used : (T : List ℕ) (ops : List Op) → flat_map (λ o. type_used o.code) ops ≡ items_used (code_of T ops)
code_used T [] = refl
code_used T (o ∷ os) = ap₂ (λ a b. a ++ b) (instr_used T o.code) (code_used T os)

pub else_used : (ea : Option ℕ) (arm : List Placed) → items_used (else_out ea arm) ≡ items_used arm
else_used None arm = refl
else_used (Some at) arm = refl

pub write_used : (nodes : Nodes) (after : List Placed) → items_used (write nodes after) ≡ uses nodes ++ items_used after
write_used stop after = refl
write_used (basic at i rest) after = write_used rest after
write_used (jump at Unreachable rest) after = write_used rest after
write_used (jump at (Br l) rest) after = write_used rest after
write_used (jump at (BrIf l) rest) after = write_used rest after
write_used (jump at (BrTable ts d) rest) after = write_used rest after
write_used (jump at Return rest) after = write_used rest after
write_used (jump at (Call f) rest) after = write_used rest after
write_used (jump at (CallIndirect t) rest) after = ap (λ z. t ∷ z) (write_used rest after)
write_used (block at t inner end rest) after =
    write_used inner (placed end End ∷ write rest after) ∙ ap (λ z. uses inner ++ z) (write_used rest after) ∙ sym (append_assoc (uses inner) (uses rest) (items_used after))
write_used (loop at t inner end rest) after =
    write_used inner (placed end End ∷ write rest after) ∙ ap (λ z. uses inner ++ z) (write_used rest after) ∙ sym (append_assoc (uses inner) (uses rest) (items_used after))
write_used (choose at t a ea b end rest) after =
    let tail = placed end End ∷ write rest after in
    write_used a (else_out ea (write b tail))
    ∙ ap (λ z. uses a ++ z) (else_used ea (write b tail) ∙ write_used b tail ∙ ap (λ z. uses b ++ z) (write_used rest after) ∙ sym (append_assoc (uses b) (uses rest) (items_used after)))
    ∙ sym (append_assoc (uses a) (uses b ++ uses rest) (items_used after))

pub body_used : (body : Body) (tree : Tree) → Writes body.targets body.ops tree → flat_map (λ o. type_used o.code) body.ops ≡ uses tree.nodes
body_used body tree w = code_used body.targets body.ops ∙ ap items_used w.out ∙ write_used tree.nodes (placed tree.end End ∷ []) ∙ append-nil (uses tree.nodes)

-- the types that have a helper are those that weigh
pub all_used : (bodies : List Body) (trees : List Tree) → AllWrite bodies trees → flat_map (λ tree. uses tree.nodes) trees ≡ flat_map (λ b. flat_map (λ o. type_used o.code) b.ops) bodies
all_used [] [] w = refl
all_used [] (t ∷ ts) w = absurd w
all_used (b ∷ bs) [] w = absurd w
all_used (b ∷ bs) (t ∷ ts) w = ap₂ (λ x y. x ++ y) (sym (body_used b t w.0)) (all_used bs ts w.1)

-- ---- no more operands than bytes

pub basic_some : (i : Basic) → 1 ≤ basic_length i
basic_some i = some_bytes i
