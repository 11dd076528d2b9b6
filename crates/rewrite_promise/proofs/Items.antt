-- The bytes of flat code are those of its tree.
use Rattle.std.proofs.Common.{◌≡◌, ℕ, ◌+◌, ◌≤◌, List, [], ◌∷◌, ◌++◌, length, Option, Some, None, refl, sym, ap, ◌∙◌, arith, length-append, append_assoc, append-nil, slice_get, map, option_to_list, true}
use Rattle.std.proofs.lemmas.List.{length-map}
use Rattle.std.proofs.Math.Nat.{max-le}
use Rattle.wasm_leb.specs.Writing.{unsigned_bytes}
use Rattle.wasm_syntax.specs.declared.value.ValType.{ValType}
use Rattle.wasm_syntax.specs.declared.instruction.Basic.{Basic}
use Rattle.wasm_syntax.specs.declared.instruction.Instr.TheVariants as instrs
use Rattle.wasm_syntax.specs.declared.instruction.Op.{Op}
use Rattle.wasm_syntax.specs.declared.parts.LocalGroup.{LocalGroup}
use Rattle.wasm_syntax.specs.declared.parts.Body.{Body}
use Rattle.wasm_syntax.specs.declared.parts.FuncType.{FuncType}
use Rattle.wasm_syntax.specs.Tree.{Jump, Unreachable, Br, BrIf, BrTable, Return, Call, CallIndirect, Nodes, stop, basic, jump, block, loop, choose, Tree, End, Placed, placed, else_out, write, code_of, Writes}
use Rattle.wasm_syntax.specs.Module.{type_at}
use Rattle.wasm_syntax.specs.Machine.{result_of}
use Rattle.wasm_format.specs.Encoding.{labels_bytes, encoding}
use Rattle.wasm_encode.specs.Encoding.{expression_bytes}
use Rattle.rewrite_bodies.specs.calls.Slots.{Place, place_type, Ctx, less, grown, uncopied, under, after_plain, result_type, behind_call, behind_jump, peak}
use Rattle.rewrite_bodies.proofs.TypedNodes.{after_types}
use Rattle.wasm_syntax.specs.Effect.{takes}
use Rattle.rewrite_bodies.specs.calls.Length.{jump_length, else_length, code_length}
use Rattle.rewrite_modules.specs.calls.FlatCode.{targets_in, op, else_op, ops_in, body_of}
use Rattle.wasm_format_laws.proofs.Totals.{total, total-append}
use Rattle.rewrite_bodies.proofs.Unwind.{less_shorter}
use Rattle.rewrite_modules.proofs.FlatOut.{taken}
use Rattle.rewrite_modules.proofs.CodeLengths.{item_length, item_short, ops_bytes, expression_total, basic_some}

-- ---- an expression holds its tree

abbrev pub items_length : List Placed → ℕ
items_length xs = total (λ x. item_length x.code) xs

code_items : (T : List ℕ) (ops : List Op) → items_length (code_of T ops) ≤ ops_bytes T ops
code_items T [] = omega arith
code_items T (o ∷ os) = omega (arith, item_short T o.code, code_items T os)

else_items : (ea : Option ℕ) (arm : List Placed) → items_length (else_out ea arm) ≡ else_length ea + items_length arm
else_items None arm = omega arith
else_items (Some at) arm = omega arith

write_items : (nodes : Nodes) (after : List Placed) → items_length (write nodes after) ≡ code_length nodes + items_length after
write_items stop after = omega arith
write_items (basic at i rest) after = omega (arith, write_items rest after)
write_items (jump at j rest) after = omega (arith, write_items rest after)
write_items (block at t inner end rest) after = omega (arith, write_items inner (placed end End ∷ write rest after), write_items rest after)
write_items (loop at t inner end rest) after = omega (arith, write_items inner (placed end End ∷ write rest after), write_items rest after)
write_items (choose at t a ea b end rest) after =
    let tail = placed end End ∷ write rest after in
    omega (arith, write_items a (else_out ea (write b tail)), else_items ea (write b tail), write_items b tail, write_items rest after)

-- the code of a body is no longer than its expression
pub old_expression : (body : Body) (tree : Tree) → Writes body.targets body.ops tree → code_length tree.nodes + 1 ≤ length (expression_bytes body)
old_expression body tree w =
    let a = ap items_length w.out in
    let b = write_items tree.nodes (placed tree.end End ∷ []) in
    let c = code_items body.targets body.ops in
    let d = expression_total body in
    omega (arith, a, b, c, d)

-- ---- a body written out from nodes takes the bytes of its nodes

module _ (T : List ℕ) where
  abbrev bytes_of : List Op → ℕ
  bytes_of ops = ops_bytes T ops

  else_bytes : (ea : Option ℕ) (arm : List Op) → bytes_of (else_op ea arm) ≡ else_length ea + bytes_of arm
  unfolding encoding
  else_bytes None arm = omega arith
  else_bytes (Some at) arm = omega arith

  nodes_bytes : (nodes : Nodes) (pre post : List ℕ) (n : ℕ) → T ≡ pre ++ (targets_in nodes ++ post) → n ≡ length pre → bytes_of (ops_in n nodes) ≡ code_length nodes
  unfolding encoding
  nodes_bytes stop pre post n e d = refl
  nodes_bytes (basic o i rest) pre post n e d = omega (arith, nodes_bytes rest pre post n e d)
  nodes_bytes (jump o Unreachable rest) pre post n e d = omega (arith, nodes_bytes rest pre post (n + 0) e (omega (arith, d)))
  nodes_bytes (jump o (Br l) rest) pre post n e d = omega (arith, nodes_bytes rest pre post (n + 0) e (omega (arith, d)))
  nodes_bytes (jump o (BrIf l) rest) pre post n e d = omega (arith, nodes_bytes rest pre post (n + 0) e (omega (arith, d)))
  nodes_bytes (jump o (BrTable ts d') rest) pre post n e d =
      let e1 = e ∙ ap (λ z. pre ++ z) (append_assoc ts (targets_in rest) post) in
      let own = ap (λ us. length (labels_bytes (length ts) us d')) (taken T pre ts (targets_in rest ++ post) n e1 d) in
      let more = nodes_bytes rest (pre ++ ts) post (n + length ts) (e1 ∙ sym (append_assoc pre ts (targets_in rest ++ post))) (omega (arith, d, length-append pre ts)) in
      omega (arith, own, more)
  nodes_bytes (jump o Return rest) pre post n e d = omega (arith, nodes_bytes rest pre post (n + 0) e (omega (arith, d)))
  nodes_bytes (jump o (Call f) rest) pre post n e d = omega (arith, nodes_bytes rest pre post (n + 0) e (omega (arith, d)))
  nodes_bytes (jump o (CallIndirect t) rest) pre post n e d = omega (arith, length-append (unsigned_bytes t) (0x00 ∷ []), nodes_bytes rest pre post (n + 0) e (omega (arith, d)))
  nodes_bytes (block o t inner en rest) pre post n e d =
      let ti = targets_in inner in
      let tr = targets_in rest in
      let n2 = n + length ti in
      let e1 = e ∙ ap (λ z. pre ++ z) (append_assoc ti tr post) in
      let e2 = e1 ∙ sym (append_assoc pre ti (tr ++ post)) in
      let a = nodes_bytes inner pre (tr ++ post) n e1 d in
      let b = nodes_bytes rest (pre ++ ti) post n2 e2 (omega (arith, d, length-append pre ti)) in
      let c = total-append (λ o. length (encoding T o.code)) (ops_in n inner) (op instrs.End ∷ ops_in n2 rest) in
      omega (arith, a, b, c)
  nodes_bytes (loop o t inner en rest) pre post n e d =
      let ti = targets_in inner in
      let tr = targets_in rest in
      let n2 = n + length ti in
      let e1 = e ∙ ap (λ z. pre ++ z) (append_assoc ti tr post) in
      let e2 = e1 ∙ sym (append_assoc pre ti (tr ++ post)) in
      let a = nodes_bytes inner pre (tr ++ post) n e1 d in
      let b = nodes_bytes rest (pre ++ ti) post n2 e2 (omega (arith, d, length-append pre ti)) in
      let c = total-append (λ o. length (encoding T o.code)) (ops_in n inner) (op instrs.End ∷ ops_in n2 rest) in
      omega (arith, a, b, c)
  nodes_bytes (choose o t a ea b en rest) pre post n e d =
      let ta = targets_in a in
      let tb = targets_in b in
      let tr = targets_in rest in
      let na = n + length ta in
      let nb = na + length tb in
      let arm = ops_in na b ++ (op instrs.End ∷ ops_in nb rest) in
      let ea1 = e ∙ ap (λ z. pre ++ z) (append_assoc ta (tb ++ tr) post) in
      let eb1 = ea1 ∙ sym (append_assoc pre ta ((tb ++ tr) ++ post)) ∙ ap (λ z. (pre ++ ta) ++ z) (append_assoc tb tr post) in
      let er1 = eb1 ∙ sym (append_assoc (pre ++ ta) tb (tr ++ post)) in
      let da : na ≡ length (pre ++ ta) = omega (arith, d, length-append pre ta) in
      let db : nb ≡ length ((pre ++ ta) ++ tb) = omega (arith, da, length-append (pre ++ ta) tb) in
      let x = nodes_bytes a pre ((tb ++ tr) ++ post) n ea1 d in
      let y = nodes_bytes b (pre ++ ta) (tr ++ post) na eb1 da in
      let z = nodes_bytes rest ((pre ++ ta) ++ tb) post nb er1 db in
      let f = total-append (λ o. length (encoding T o.code)) (ops_in n a) (else_op ea arm) in
      let g = else_bytes ea arm in
      let h = total-append (λ o. length (encoding T o.code)) (ops_in na b) (op instrs.End ∷ ops_in nb rest) in
      omega (arith, x, y, z, f, g, h)

pub new_expression : (groups : List LocalGroup) (nodes : Nodes) → length (expression_bytes (body_of groups nodes)) ≡ code_length nodes + 1
unfolding encoding
new_expression groups nodes =
    let T = targets_in nodes in
    let a = expression_total (body_of groups nodes) in
    let b = nodes_bytes T nodes [] [] 0 (sym (append-nil T)) refl in
    let c = total-append (λ o. length (encoding T o.code)) (ops_in 0 nodes) (op instrs.End ∷ []) in
    omega (arith, a, b, c)

grown_longer : (t : Option ValType) (es : List Place) → length (grown t es) ≤ 1 + length es
grown_longer None es = omega arith
grown_longer (Some t) es = omega arith

module _ (C : Ctx) (r : ℕ) (go : List Place → ℕ) (h : (es : List Place) → go es ≤ length es + r) where
  instr_peak : (i : Basic) (es : List Place) → go (after_plain C es i) ≤ length es + 1 + r
  instr_peak i es =
      let left = less (takes i) es in
      let n : length (after_plain C es i) ≡ length (option_to_list (result_type C es i)) + length left = sym (length-map (after_plain C es i) place_type) ∙ ap length (after_types C es i) ∙ length-append (option_to_list (result_type C es i)) (map place_type left) ∙ ap (λ z. length (option_to_list (result_type C es i)) + z) (length-map left place_type) in
      omega (arith, h (after_plain C es i), n, one_at_most (result_type C es i), less_shorter (takes i) es)
    where
      one_at_most : (t : Option ValType) → length (option_to_list t) ≤ 1
      one_at_most None = omega arith
      one_at_most (Some t) = omega arith

  call_peak : (q : Option FuncType) (es : List Place) → behind_call q es go ≤ length es + 1 + r
  call_peak None es = omega arith
  call_peak (Some type) es =
      let left = less (length type.params) es in
      omega (arith, h (grown (result_of type) left), grown_longer (result_of type) left, less_shorter (length type.params) es)

  jump_peak : (j : Jump) (es : List Place) → behind_jump C j es go ≤ length es + jump_length j + r
  jump_peak Unreachable es = omega arith
  jump_peak (Br l) es = omega arith
  jump_peak (BrIf l) es = omega (arith, h (less 1 es), less_shorter 1 es)
  jump_peak (BrTable ts d) es = omega arith
  jump_peak Return es = omega arith
  jump_peak (Call f) es = omega (arith, call_peak (type_at C.source f) es)
  jump_peak (CallIndirect t) es = omega (arith, call_peak (slice_get C.source.types t) (less 1 es), less_shorter 1 es)

pub peak_few : (C : Ctx) (nodes : Nodes) (es : List Place) → peak C es nodes ≤ length es + code_length nodes
peak_few C stop es = omega arith
peak_few C (basic at i rest) es =
    max-le (omega arith) (let a = instr_peak C (code_length rest) (λ es'. peak C es' rest) (λ es'. peak_few C rest es') i es in omega (arith, a, basic_some i))
peak_few C (jump at j rest) es =
    max-le (omega arith) (let a = jump_peak C (code_length rest) (λ es'. peak C es' rest) (λ es'. peak_few C rest es') j es in omega (arith, a))
peak_few C (block at t inner end rest) es =
    let left = under es in
    let len = length-map es (uncopied (λ x. true)) in
    let a = peak_few C inner left in
    let b = peak_few C rest (grown t left) in
    let c = grown_longer t left in
    max-le (omega arith) (max-le (omega (arith, a, len)) (omega (arith, b, c, len)))
peak_few C (loop at t inner end rest) es =
    let left = under es in
    let len = length-map es (uncopied (λ x. true)) in
    let a = peak_few C inner left in
    let b = peak_few C rest (grown t left) in
    let c = grown_longer t left in
    max-le (omega arith) (max-le (omega (arith, a, len)) (omega (arith, b, c, len)))
peak_few C (choose at t x ea y end rest) es =
    let left = under (less 1 es) in
    let len = length-map (less 1 es) (uncopied (λ x. true)) in
    let low : length left ≤ length es = omega (arith, len, less_shorter 1 es) in
    let a = peak_few C x left in
    let b = peak_few C y left in
    let c = peak_few C rest (grown t left) in
    let d = grown_longer t left in
    max-le (omega arith) (max-le (omega (arith, a, low)) (max-le (omega (arith, b, low)) (omega (arith, c, d, low))))
