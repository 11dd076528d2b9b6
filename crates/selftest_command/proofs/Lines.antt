-- Straight code: its tree, its order and its types.
use Rattle.std.proofs.Common.{◌≡◌, ℕ, suc, ◌+◌, List, [], ◌∷◌, ◌++◌, length, map, refl, sym, ap, subst, ◌∙◌, arith}
use Rattle.wasm_syntax.specs.declared.value.ValType.{ValType}
use Rattle.wasm_syntax.specs.declared.instruction.Jump.TheVariants as jumps
use Rattle.wasm_syntax.specs.declared.instruction.Instr.{Instr}
use Rattle.wasm_syntax.specs.declared.instruction.Instr.TheVariants as instr
use Rattle.wasm_syntax.specs.Tree.{Plain, Goes, Call, End, Nodes, stop, basic, jump, placed, write, IsTree, code_of}
use Rattle.wasm_syntax.specs.Typing.{Context, BasicTypes, JumpTypes, Types}
use Rattle.wasm_syntax.specs.Module.{Ascend, TakeUp}
use Rattle.selftest_command.specs.Selftest.{ops_from}

-- the nodes of straight code, from this offset on
abbrev pub line : ℕ → List Instr → Nodes
line at [] = stop
line at (instr.Basic i ∷ is) = basic at i (line (suc at) is)
line at (instr.Jump (jumps.Call f) ∷ is) = jump at (Call f) (line (suc at) is)
line at (i ∷ is) = stop

-- ---- types

-- a basic instruction or a call takes types to others
abbrev pub Moves : Context → Instr → List ValType → List ValType → Type 0
Moves c (instr.Basic i) before after = BasicTypes c i before after
Moves c (instr.Jump (jumps.Call f)) before after = JumpTypes c (Call f) before after
Moves c i before after = ⊥

abbrev pub AllMove : Context → List Instr → List ValType → List ValType → Type 0
AllMove c [] before after = before ≡ after
AllMove c (i ∷ is) before after = (between : List ValType) × Moves c i before between × AllMove c is between after

pub move_append : (c : Context) (xs ys : List Instr) (a b d : List ValType) → AllMove c xs a b → AllMove c ys b d → AllMove c (xs ++ ys) a d
move_append c [] ys a b d h k = subst (λ z. AllMove c ys z d) (sym h) k
move_append c (x ∷ xs) ys a b d h k = (h.0, h.1, move_append c xs ys h.0 b d h.2 k)

pub line_types : (c : Context) (at : ℕ) (is : List Instr) (a b : List ValType) → AllMove c is a b → Types c (line at is) a b
line_types c at [] a b h = h
line_types c at (instr.Basic i ∷ is) a b h = (h.0, h.1, line_types c (suc at) is h.0 b h.2)
line_types c at (instr.Jump (jumps.Call f) ∷ is) a b h = (h.0, h.1, line_types c (suc at) is h.0 b h.2)
line_types c at (i ∷ is) a b h = absurd h.1

-- ---- the tree

pub line_is_tree : (at : ℕ) (is : List Instr) → IsTree (line at is)
line_is_tree at [] = tt
line_is_tree at (instr.Basic i ∷ is) = line_is_tree (suc at) is
line_is_tree at (instr.Jump (jumps.Call f) ∷ is) = line_is_tree (suc at) is
line_is_tree at (i ∷ is) = tt

-- the flat code with its `end`
pub line_out : (c : Context) (at : ℕ) (is : List Instr) (a b : List ValType) → AllMove c is a b → code_of [] (ops_from at (is ++ instr.End ∷ [])) ≡ write (line at is) (placed (at + length is) End ∷ [])
line_out c at [] a b h = let e : at ≡ at + 0 = omega arith in ap (λ n. placed n End ∷ []) e
line_out c at (instr.Basic i ∷ is) a b h =
    let e : suc at + length is ≡ at + suc (length is) = omega arith in
    ap (λ code. placed at (Plain i) ∷ code) (line_out c (suc at) is h.0 b h.2 ∙ ap (λ n. write (line (suc at) is) (placed n End ∷ [])) e)
line_out c at (instr.Jump (jumps.Call f) ∷ is) a b h =
    let e : suc at + length is ≡ at + suc (length is) = omega arith in
    ap (λ code. placed at (Goes (Call f)) ∷ code) (line_out c (suc at) is h.0 b h.2 ∙ ap (λ n. write (line (suc at) is) (placed n End ∷ [])) e)
line_out c at (i ∷ is) a b h = absurd h.1

-- ---- the order

pub ascends : (at : ℕ) (is : List Instr) → Ascend at (ops_from at is)
ascends at [] = tt
ascends at (i ∷ is) = (omega arith, ascends (suc at) is)

pub no_targets : (c : Context) (at : ℕ) (is : List Instr) (a b : List ValType) → AllMove c is a b → TakeUp 0 (map (λ o. o.code) (ops_from at (is ++ instr.End ∷ []))) 0
no_targets c at [] a b h = refl
no_targets c at (instr.Basic i ∷ is) a b h = no_targets c (suc at) is h.0 b h.2
no_targets c at (instr.Jump (jumps.Call f) ∷ is) a b h = no_targets c (suc at) is h.0 b h.2
no_targets c at (i ∷ is) a b h = absurd h.1
