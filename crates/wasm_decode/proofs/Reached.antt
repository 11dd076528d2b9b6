-- What the instructions up to the end of an expression make of it.
use Rattle.std.proofs.Common.{◌≡◌, ℕ, zero, suc, ◌+◌, ◌-◌, ◌<◌, ◌≤◌, Bool, true, false, List, [], ◌∷◌, ◌++◌, length, refl, sym, ap, subst, ◌∙◌, append_assoc, arith, length-append}
use Rattle.std.specs.Prelude.{◌==◌, map, None, if◌then◌else◌}
use Rattle.std.proofs.lemmas.Bool.{eqb-true}
use Rattle.std.proofs.lemmas.List.{append-nil}
use Rattle.wasm_syntax.specs.declared.blocks.BlockKind.{BlockKind}
use Rattle.wasm_syntax.specs.declared.blocks.BlockKind.TheVariants.{Plain}
use Rattle.wasm_syntax.specs.declared.instruction.Basic.TheVariants.{Nop}
use Rattle.wasm_syntax.specs.declared.instruction.Jump.TheVariants as jumps
use Rattle.wasm_syntax.specs.declared.instruction.Instr.{Instr}
use Rattle.wasm_syntax.specs.declared.instruction.Instr.TheVariants as instr
use Rattle.wasm_syntax.specs.declared.instruction.Op.{Op}
use Rattle.wasm_syntax.specs.Tree.{Placed, placed, item_of, Tree, WritesOut}
use Rattle.wasm_syntax.specs.Tree.{code_of as placed_code}
use Rattle.wasm_syntax.specs.Module.{Ascend, TakeUp}
use Rattle.wasm_bytes.specs.calls.Spelling.{pair, passing, here, steps, due}
use Rattle.wasm_format.specs.declared.code.Code.{Code}
use Rattle.wasm_format.specs.declared.code.Code.TheVariants.{Known, Float}
use Rattle.wasm_format.specs.Spelled.{Spelled}
use Rattle.wasm_format.specs.calls.InstructionGrammar.{instruction}
use Rattle.wasm_format.proofs.Exact.{instruction_takes}
use Rattle.wasm_format.specs.declared.expression.Expression.{Expression}
use Rattle.wasm_format.specs.calls.Choices.{first_and}
use Rattle.wasm_format.specs.Expressions.{stand_in, code_of, instr_of, may_stand, open_behind, no_code, with_instr, is_closed}
use Rattle.wasm_format.specs.calls.Grammar.{instr_entry, expression_entries}
use Rattle.wasm_decode.proofs.Targets.{TakesUp, Brings, instruction_brings}
use Rattle.wasm_decode.proofs.Trees.{Closes, one_closes, closed_tree}

-- from one state of an expression up to another, in these bytes
record Reached (e t : Expression) (at : ℕ) (bytes : List ℕ) : Type 0 where
  pub more : List Op
  pub ops : t.ops ≡ e.ops ++ more
  pub closes : Closes e.blocks (placed_code t.targets more)
  pub ascends : Ascend (at - e.origin) more
  pub takes_up : TakeUp (length e.targets) (map (λ o. o.code) more) (length t.targets)
  pub few_ops : length more ≤ length bytes
  pub few_targets : length t.targets ≤ length e.targets + length bytes

-- ---- one instruction

one_behind : (targets : List ℕ) (blocks : List BlockKind) (at : ℕ) (i : Instr) (code : List Placed) → (length blocks == 0) ≡ false → may_stand blocks i ≡ true → Closes (open_behind blocks i) code → Closes blocks (placed at (item_of targets i) ∷ code)
one_behind targets [] at i code some stands c = absurd cc
one_behind targets (b ∷ blocks) at i code some stands c = one_closes targets b blocks at i code stands c

ascend_from : (m n : ℕ) (ops : List Op) → m ≤ n → Ascend n ops → Ascend m ops
ascend_from m n [] le h = tt
ascend_from m n (o ∷ ops) le h = (omega (arith, le, h.0), h.1)

none_more : (base n : ℕ) (own : List ℕ) (is : List Instr) → own ≡ [] → TakeUp (base + length own) is n → TakeUp base is n
none_more base n own is none h =
    let same : base + length own ≡ base = omega (arith, ap length none) in
    subst (λ (k : ℕ). TakeUp k is n) same h

stands_in : (base n : ℕ) (opcode : ℕ) (is : List Instr) → TakeUp base is n → TakeUp base (stand_in opcode ∷ is) n
stands_in base n opcode is h = cases (opcode == 0x02) (opcode == 0x03) (opcode == 0x04) where
  cases : (x y z : Bool) → TakeUp base ((if x then instr.Block None else (if y then instr.Loop None else (if z then instr.If None else instr.Basic Nop))) ∷ is) n
  cases true y z = h
  cases false true z = h
  cases false false true = h
  cases false false false = h

one_taken : (base n opcode : ℕ) (code : Code) (own : List ℕ) (is : List Instr) → TakesUp base code own → TakeUp (base + length own) is n → TakeUp base (code_of opcode code ∷ is) n
one_taken base n opcode (Known (instr.Jump (jumps.BrTable start count default))) own is t h =
    let same : base + length own ≡ base + count = omega (arith, t.1) in
    (t.0, subst (λ (k : ℕ). TakeUp k is n) same h)
one_taken base n opcode (Known (instr.Jump jumps.Unreachable)) own is t h = none_more base n own is t h
one_taken base n opcode (Known (instr.Jump (jumps.Br l))) own is t h = none_more base n own is t h
one_taken base n opcode (Known (instr.Jump (jumps.BrIf l))) own is t h = none_more base n own is t h
one_taken base n opcode (Known (instr.Jump jumps.Return)) own is t h = none_more base n own is t h
one_taken base n opcode (Known (instr.Jump (jumps.Call f))) own is t h = none_more base n own is t h
one_taken base n opcode (Known (instr.Jump (jumps.CallIndirect f))) own is t h = none_more base n own is t h
one_taken base n opcode (Known (instr.Basic i)) own is t h = none_more base n own is t h
one_taken base n opcode (Known (instr.Block b)) own is t h = none_more base n own is t h
one_taken base n opcode (Known (instr.Loop b)) own is t h = none_more base n own is t h
one_taken base n opcode (Known (instr.If b)) own is t h = none_more base n own is t h
one_taken base n opcode (Known instr.Else) own is t h = none_more base n own is t h
one_taken base n opcode (Known instr.End) own is t h = none_more base n own is t h
one_taken base n opcode (Float at) own is t h = stands_in base n opcode is (none_more base n own is t h)

-- what an instruction is, with its opcode and the offset behind it
abbrev Read : Type 0
Read = ℕ × ((ℕ × Spelled) × ℕ)

record Stands (e : Expression) (x : Read) (at : ℕ) (front : List ℕ) : Type 0 where
  pub here : x.0 ≡ at
  pub stands : may_stand e.blocks (instr_of x.1.0) ≡ true
  pub brings : Brings (length e.targets) x.1.0.1 front
  pub some : 0 < length front

entry_stands : (e : Expression) (x : Read) (at : ℕ) (front : List ℕ) → pair here (pair (passing (λ y. may_stand e.blocks (instr_of y)) (first_and (instruction (length e.targets)))) here) x at front → Stands e x at front
entry_stands e x at front s =
    let r = s.3 in
    let i = r.2.1.1 in
    let b = instruction_brings (length e.targets) x.1.0.1 _ r.0 i in
    let takes = instruction_takes (length e.targets) x.1.0.1 _ r.0 i in
    record {
      here = s.2.0;
      stands = r.2.0;
      brings = record { takes_up = b.takes_up; few = omega (arith, b.few, ap length s.4, length-append s.0 s.1, ap length r.4, length-append r.0 r.1) };
      some = omega (arith, takes, ap length s.4, length-append s.0 s.1, ap length r.4, length-append r.0 r.1);
    }

one_more : (e t : Expression) (x : Read) (at : ℕ) (front rest bytes : List ℕ) → is_closed e ≡ false → e.origin ≤ at → Stands e x at front → bytes ≡ front ++ rest → Reached (with_instr e x) t (at + length front) rest → Reached e t at bytes
one_more e t x at front rest bytes open_ from s parts r =
    let i : Instr = instr_of x.1.0 in
    let op : Op = record { at = x.0 - e.origin; len = x.1.1 - x.0; code = i } in
    let own = x.1.0.1.targets in
    record {
      more = op ∷ r.more;
      ops = r.ops ∙ append_assoc e.ops (op ∷ []) r.more;
      closes = one_behind t.targets e.blocks (x.0 - e.origin) i (placed_code t.targets r.more) open_ s.stands r.closes;
      ascends = (omega (arith, s.here), ascend_from (suc (x.0 - e.origin)) ((at + length front) - e.origin) r.more (omega (arith, s.here, s.some, from)) r.ascends);
      takes_up = one_taken (length e.targets) (length t.targets) x.1.0.0 x.1.0.1.code own (map (λ o. o.code) r.more) s.brings.takes_up (subst (λ (k : ℕ). TakeUp k (map (λ o. o.code) r.more) (length t.targets)) (length-append e.targets own) r.takes_up);
      few_ops = omega (arith, r.few_ops, s.some, ap length parts, length-append front rest);
      few_targets = omega (arith, r.few_targets, length-append e.targets own, s.brings.few, ap length parts, length-append front rest);
    }

-- ---- all of them

none_open : (e : Expression) → is_closed e ≡ true → e.blocks ≡ []
none_open e all = by e.blocks (eqb-true (length e.blocks) 0 all) where
  by : (blocks : List BlockKind) → length blocks ≡ 0 → blocks ≡ []
  by [] h = refl
  by (b ∷ blocks) h = absurd (omega (arith, h))

here_reached : (e : Expression) (at : ℕ) (bytes : List ℕ) → is_closed e ≡ true → Reached e e at bytes
here_reached e at bytes all = record {
  more = [];
  ops = sym (append-nil e.ops);
  closes = subst (λ (blocks : List BlockKind). Closes blocks []) (sym (none_open e all)) refl;
  ascends = tt;
  takes_up = refl;
  few_ops = omega arith;
  few_targets = omega arith;
}

reached : (n : ℕ) (e t : Expression) (at : ℕ) (bytes : List ℕ) → is_closed t ≡ true → e.origin ≤ at → steps (due is_closed instr_entry) n e t at bytes → Reached e t at bytes
reached zero e t at bytes all from s = subst (λ (x : Expression). Reached e x at bytes) (sym s.0) (here_reached e at bytes (subst (λ (x : Expression). is_closed x ≡ true) s.0 all))
reached (suc n) e t at bytes all from s =
    let one = s.1.2 in
    let entry = one.1 in
    let same : s.0 ≡ with_instr e entry.0 = sym entry.1 in
    let stands = entry_stands e entry.0 at s.1.0 entry.2 in
    let rest = subst (λ (x : Expression). steps (due is_closed instr_entry) n x t (at + length s.1.0) s.1.1) same s.1.3 in
    one_more e t entry.0 at s.1.0 s.1.1 bytes one.0 from stands s.1.4 (reached n (with_instr e entry.0) t (at + length s.1.0) s.1.1 all (omega (arith, from)) rest)

-- The instructions of an expression write out a tree, in order.
pub record GoodCode (e : Expression) (size : ℕ) : Type 0 where
  pub tree : Tree
  pub writes : WritesOut (placed_code e.targets e.ops) tree
  pub offsets : Ascend 0 e.ops
  pub targets : TakeUp 0 (map (λ o. o.code) e.ops) (length e.targets)
  pub few_ops : length e.ops ≤ size
  pub few_targets : length e.targets ≤ size

pub entries_good : (origin at : ℕ) (e : Expression) (bytes : List ℕ) → origin ≤ at → expression_entries origin e at bytes → GoodCode e (length bytes)
entries_good origin at e bytes from s =
    let r = reached s.1.0 (no_code origin) e at bytes s.0 from s.1.1 in
    let same : r.more ≡ e.ops = sym r.ops in
    let code = subst (λ (ops : List Op). Closes (Plain ∷ []) (placed_code e.targets ops)) same r.closes in
    let tree = closed_tree (placed_code e.targets e.ops) code in
    record {
      tree = tree.0;
      writes = tree.1;
      offsets = subst (λ (ops : List Op). Ascend 0 ops) same (ascend_from 0 (at - origin) r.more (omega arith) r.ascends);
      targets = subst (λ (ops : List Op). TakeUp 0 (map (λ o. o.code) ops) (length e.targets)) same r.takes_up;
      few_ops = omega (arith, r.few_ops, ap length same);
      few_targets = omega (arith, r.few_targets);
    }
