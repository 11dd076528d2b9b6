-- A flat body writes out its tree.
use Rattle.std.proofs.Common.{◌≡◌, ℕ, ◌+◌, List, [], ◌∷◌, ◌++◌, length, Option, Some, None, refl, sym, ap, ap₂, ◌∙◌, option_map, arith, append_assoc, append-nil, length-append}
use Rattle.std.specs.Prelude.{take, drop}
use Rattle.wasm_syntax.specs.declared.instruction.Op.{Op}
use Rattle.wasm_syntax.specs.declared.instruction.Instr.TheVariants as instrs
use Rattle.wasm_syntax.specs.Tree.{Unreachable, Br, BrIf, BrTable, Return, Call, CallIndirect, Nodes, stop, basic, jump, block, loop, choose, Plain, Goes, Opens, OpensLoop, OpensIf, End, placed, else_out, write, written, code_of}
use Rattle.rewrite_modules.specs.calls.Bare.{bare_nodes, bare_tree}
use Rattle.std.proofs.Math.Seq.{take-append_seam, drop-append_seam}
use Rattle.wasm_syntax.specs.declared.parts.LocalGroup.{LocalGroup}
use Rattle.rewrite_bodies.specs.calls.Slots.{groups}
use Rattle.rewrite_bodies.specs.calls.Pieces.{tree_of}
use Rattle.rewrite_modules.specs.calls.FlatCode.{targets_in, else_op, ops_in, body_of, op}

pub taken : (T pre ts more : List ℕ) (n : ℕ) → T ≡ pre ++ (ts ++ more) → n ≡ length pre → take (length ts) (drop n T) ≡ ts
taken T pre ts more n e d = ap₂ (λ m xs. take (length ts) (drop m xs)) d e ∙ ap (take (length ts)) (drop-append_seam pre (ts ++ more)) ∙ take-append_seam ts more

module _ (T : List ℕ) where
  else_after : (ea : Option ℕ) (arm after : List Op) → code_of T (else_op ea arm ++ after) ≡ else_out (option_map (λ at. 0) ea) (code_of T (arm ++ after))
  else_after None arm after = refl
  else_after (Some at) arm after = refl

  -- the nodes, without their offsets, in front of what follows
  out : (nodes : Nodes) (pre post : List ℕ) (n : ℕ) (after : List Op) → T ≡ pre ++ (targets_in nodes ++ post) → n ≡ length pre → code_of T (ops_in n nodes ++ after) ≡ write (bare_nodes nodes) (code_of T after)
  out stop pre post n after e d = refl
  out (basic o i rest) pre post n after e d = ap (λ z. placed 0 (Plain i) ∷ z) (out rest pre post n after e d)
  out (jump o Unreachable rest) pre post n after e d = ap (λ z. placed 0 (Goes Unreachable) ∷ z) (out rest pre post (n + 0) after e (omega (arith, d)))
  out (jump o (Br l) rest) pre post n after e d = ap (λ z. placed 0 (Goes (Br l)) ∷ z) (out rest pre post (n + 0) after e (omega (arith, d)))
  out (jump o (BrIf l) rest) pre post n after e d = ap (λ z. placed 0 (Goes (BrIf l)) ∷ z) (out rest pre post (n + 0) after e (omega (arith, d)))
  out (jump o (BrTable ts d') rest) pre post n after e d =
      let e1 = e ∙ ap (λ z. pre ++ z) (append_assoc ts (targets_in rest) post) in
      ap₂ (λ us z. placed 0 (Goes (BrTable us d')) ∷ z) (taken T pre ts (targets_in rest ++ post) n e1 d)
      (out rest (pre ++ ts) post (n + length ts) after (e1 ∙ sym (append_assoc pre ts (targets_in rest ++ post))) (omega (arith, d, length-append pre ts)))
  out (jump o Return rest) pre post n after e d = ap (λ z. placed 0 (Goes Return) ∷ z) (out rest pre post (n + 0) after e (omega (arith, d)))
  out (jump o (Call f) rest) pre post n after e d = ap (λ z. placed 0 (Goes (Call f)) ∷ z) (out rest pre post (n + 0) after e (omega (arith, d)))
  out (jump o (CallIndirect t) rest) pre post n after e d = ap (λ z. placed 0 (Goes (CallIndirect t)) ∷ z) (out rest pre post (n + 0) after e (omega (arith, d)))
  out (block o t inner en rest) pre post n after e d =
      let ti = targets_in inner in
      let tr = targets_in rest in
      let n2 = n + length ti in
      let e1 = e ∙ ap (λ z. pre ++ z) (append_assoc ti tr post) in
      let e2 = e1 ∙ sym (append_assoc pre ti (tr ++ post)) in
      ap (λ z. placed 0 (Opens t) ∷ z)
      (ap (code_of T) (append_assoc (ops_in n inner) (op instrs.End ∷ ops_in n2 rest) after)
      ∙ out inner pre (tr ++ post) n (op instrs.End ∷ (ops_in n2 rest ++ after)) e1 d
      ∙ ap (λ z. write (bare_nodes inner) (placed 0 End ∷ z)) (out rest (pre ++ ti) post n2 after e2 (omega (arith, d, length-append pre ti))))
  out (loop o t inner en rest) pre post n after e d =
      let ti = targets_in inner in
      let tr = targets_in rest in
      let n2 = n + length ti in
      let e1 = e ∙ ap (λ z. pre ++ z) (append_assoc ti tr post) in
      let e2 = e1 ∙ sym (append_assoc pre ti (tr ++ post)) in
      ap (λ z. placed 0 (OpensLoop t) ∷ z)
      (ap (code_of T) (append_assoc (ops_in n inner) (op instrs.End ∷ ops_in n2 rest) after)
      ∙ out inner pre (tr ++ post) n (op instrs.End ∷ (ops_in n2 rest ++ after)) e1 d
      ∙ ap (λ z. write (bare_nodes inner) (placed 0 End ∷ z)) (out rest (pre ++ ti) post n2 after e2 (omega (arith, d, length-append pre ti))))
  out (choose o t a ea b en rest) pre post n after e d =
      let ta = targets_in a in
      let tb = targets_in b in
      let tr = targets_in rest in
      let na = n + length ta in
      let nb = na + length tb in
      let arm = ops_in na b ++ (op instrs.End ∷ ops_in nb rest) in
      let ea1 = e ∙ ap (λ z. pre ++ z) (append_assoc ta (tb ++ tr) post) in
      let eb1 = ea1 ∙ sym (append_assoc pre ta ((tb ++ tr) ++ post)) ∙ ap (λ z. (pre ++ ta) ++ z) (append_assoc tb tr post) in
      let er1 = eb1 ∙ sym (append_assoc (pre ++ ta) tb (tr ++ post)) in
      let da : na ≡ length (pre ++ ta) = omega (arith, d, length-append pre ta) in
      let db : nb ≡ length ((pre ++ ta) ++ tb) = omega (arith, da, length-append (pre ++ ta) tb) in
      ap (λ z. placed 0 (OpensIf t) ∷ z)
      (ap (code_of T) (append_assoc (ops_in n a) (else_op ea arm) after)
      ∙ out a pre ((tb ++ tr) ++ post) n (else_op ea arm ++ after) ea1 d
      ∙ ap (write (bare_nodes a)) (else_after ea arm after
      ∙ ap (else_out (option_map (λ at. 0) ea)) (ap (code_of T) (append_assoc (ops_in na b) (op instrs.End ∷ ops_in nb rest) after)
      ∙ out b (pre ++ ta) (tr ++ post) na (op instrs.End ∷ (ops_in nb rest ++ after)) eb1 da
      ∙ ap (λ z. write (bare_nodes b) (placed 0 End ∷ z)) (out rest ((pre ++ ta) ++ tb) post nb after er1 db))))

-- the flat body writes out its tree, without offsets
pub body_out : (groups : List LocalGroup) (nodes : Nodes) → code_of (body_of groups nodes).targets (body_of groups nodes).ops ≡ written (bare_tree (tree_of nodes))
body_out groups nodes = out (targets_in nodes) nodes [] [] 0 (op instrs.End ∷ []) (sym (append-nil (targets_in nodes))) refl
