-- The instructions of an expression are as long as the bytes that spell them.
use Rattle.std.proofs.Common.{◌≡◌, ℕ, zero, suc, ◌+◌, ◌-◌, ◌≤◌, Bool, true, false, List, [], ◌∷◌, ◌++◌, length, get_or, sum_by, refl, sym, ap, subst, ◌∙◌, append_assoc, arith, length-append, Option, Some, None, take_at}
use Rattle.std.specs.Prelude.{◌==◌, if◌then◌else◌}
use Rattle.std.specs.List.{AllByRecursion}
use Rattle.std.proofs.lemmas.Bool.{eqb-true}
use Rattle.std.proofs.lemmas.List.{append-nil}
use Rattle.std.proofs.lemmas.List.Concat.{length-flat_map}
use Rattle.std.proofs.lemmas.List.Sums.{sum_by-cons}
use Rattle.std.proofs.Math.Seq.{drop-append_seam}
use Rattle.wasm_syntax.specs.declared.value.ValType.{ValType}
use Rattle.wasm_syntax.specs.declared.instruction.Basic.TheVariants.{Nop}
use Rattle.wasm_syntax.specs.declared.instruction.Jump.TheVariants as jumps
use Rattle.wasm_syntax.specs.declared.instruction.Instr.{Instr}
use Rattle.wasm_syntax.specs.declared.instruction.Instr.TheVariants as instr
use Rattle.wasm_syntax.specs.declared.instruction.Op.{Op}
use Rattle.wasm_syntax.specs.declared.parts.Body.{Body}
use Rattle.wasm_bytes.specs.calls.Spelling.{pair, passing, here, steps, due}
use Rattle.wasm_format.specs.declared.code.Code.{Code}
use Rattle.wasm_format.specs.declared.code.Code.TheVariants.{Known, Float}
use Rattle.wasm_format.specs.Spelled.{Spelled}
use Rattle.wasm_format.specs.InstructionForm.{Form, typed}
use Rattle.wasm_format.specs.Table.{form_of}
use Rattle.wasm_format.specs.calls.InstructionGrammar.{behind_opcode, instruction}
use Rattle.wasm_format.specs.Encoding.{targets_of}
use Rattle.wasm_format.specs.Encoding.{encoding as instruction_bytes}
use Rattle.wasm_format.proofs.Shortest.{encoding_least}
use Rattle.wasm_format.specs.declared.expression.Expression.{Expression}
use Rattle.wasm_format.specs.calls.Choices.{first_and}
use Rattle.wasm_format.specs.Expressions.{stand_in, code_of, instr_of, may_stand, no_code, with_instr, is_closed}
use Rattle.wasm_format.specs.calls.Grammar.{instr_entry, expression_entries}
use Rattle.wasm_decode.proofs.Targets.{TakesUp, instruction_brings}
use Rattle.wasm_encode.specs.Encoding.{expression_bytes}
use Rattle.wasm_format_laws.proofs.Measures.{sum_rises}

-- ---- one instruction

-- the targets of an instruction are those that it brings
own_targets : (front own later : List ℕ) (i : Instr) → TakesUp (length front) (Known i) own → targets_of (front ++ (own ++ later)) i ≡ own
own_targets front own later (instr.Basic i) h = sym h
own_targets front own later (instr.Jump (jumps.BrTable start count default)) h = rw (h.0, h.1, drop-append_seam front (own ++ later)) (take_at own later (length own) refl)
own_targets front own later (instr.Jump jumps.Unreachable) h = sym h
own_targets front own later (instr.Jump (jumps.Br l)) h = sym h
own_targets front own later (instr.Jump (jumps.BrIf l)) h = sym h
own_targets front own later (instr.Jump jumps.Return) h = sym h
own_targets front own later (instr.Jump (jumps.Call f)) h = sym h
own_targets front own later (instr.Jump (jumps.CallIndirect f)) h = sym h
own_targets front own later (instr.Block b) h = sym h
own_targets front own later (instr.Loop b) h = sym h
own_targets front own later (instr.If b) h = sym h
own_targets front own later instr.Else h = sym h
own_targets front own later instr.End h = sym h

abbrev spelled : Code → List ℕ → Spelled
spelled code targets = record { code = code; targets = targets }

known_least : (front own later : List ℕ) (i : Instr) (at : ℕ) (bytes : List ℕ) → TakesUp (length front) (Known i) own → instruction (length front) (spelled (Known i) own) at bytes → length (instruction_bytes (front ++ (own ++ later)) i) ≤ length bytes
known_least front own later i at bytes h s =
    let targets = front ++ (own ++ later) in
    encoding_least targets (length front) at i bytes (subst (λ (ts : List ℕ). instruction (length front) (spelled (Known i) ts) at bytes) (sym (own_targets front own later i h)) s)

-- what opens a block has a block type behind it
opens : (base at opcode tag : ℕ) (to : Option ValType → Instr) (x : Spelled) (here : ℕ) (bytes : List ℕ) → behind_opcode base at (form_of opcode) x here bytes → form_of tag ≡ Some (typed to) → opcode ≡ tag → 1 ≤ length bytes
opens base at opcode tag to x here bytes s row is =
    let t = subst (λ (form : Option Form). behind_opcode base at form x here bytes) (ap form_of is ∙ row) s in
    omega (arith, ap length t.2.1)

-- what stands in the place of an instruction that has a float type is no longer than it
stand_in_least : (targets : List ℕ) (opcode : ℕ) (rest : List ℕ) → (opcode ≡ 0x02 → 1 ≤ length rest) → (opcode ≡ 0x03 → 1 ≤ length rest) → (opcode ≡ 0x04 → 1 ≤ length rest) → length (instruction_bytes targets (stand_in opcode)) ≤ 1 + length rest
unfolding instruction_bytes
stand_in_least targets opcode rest block loop choose = by (opcode == 0x02) (opcode == 0x03) (opcode == 0x04) refl refl refl
  where
    by : (p q r : Bool) → (opcode == 0x02) ≡ p → (opcode == 0x03) ≡ q → (opcode == 0x04) ≡ r → length (instruction_bytes targets (if p then instr.Block None else (if q then instr.Loop None else (if r then instr.If None else instr.Basic Nop)))) ≤ 1 + length rest
    by true q r a b c = omega (arith, block (eqb-true opcode 0x02 a))
    by false true r a b c = omega (arith, loop (eqb-true opcode 0x03 b))
    by false false true a b c = omega (arith, choose (eqb-true opcode 0x04 c))
    by false false false a b c = omega arith

float_least : (targets : List ℕ) (base at opcode : ℕ) (x : Spelled) (bytes : List ℕ) → get_or bytes 0 0 ≡ opcode → instruction base x at bytes → length (instruction_bytes targets (stand_in opcode)) ≤ length bytes
unfolding form_of
float_least targets base at opcode x bytes first s =
    let b = s.1 in
    let same : s.0 ≡ opcode = let whole : bytes ≡ s.0 ∷ b.1 = b.4 ∙ ap (λ (front : List ℕ). front ++ b.1) b.2 in sym (ap (λ (t : List ℕ). get_or t 0 0) whole) ∙ first in
    let block = opens base at s.0 0x02 instr.Block x (at + length b.0) b.1 b.3 refl in
    let loop = opens base at s.0 0x03 instr.Loop x (at + length b.0) b.1 b.3 refl in
    let choose = opens base at s.0 0x04 instr.If x (at + length b.0) b.1 b.3 refl in
    let least = stand_in_least targets s.0 b.1 block loop choose in
    omega (arith, subst (λ (n : ℕ). length (instruction_bytes targets (stand_in n)) ≤ 1 + length b.1) same least, ap length b.2, ap length b.4, length-append b.0 b.1)

code_least : (front own later : List ℕ) (code : Code) (opcode at : ℕ) (bytes : List ℕ) → get_or bytes 0 0 ≡ opcode → TakesUp (length front) code own → instruction (length front) (spelled code own) at bytes → length (instruction_bytes (front ++ (own ++ later)) (code_of opcode code)) ≤ length bytes
code_least front own later (Known i) opcode at bytes first h s = known_least front own later i at bytes h s
code_least front own later (Float o) opcode at bytes first h s = float_least (front ++ (own ++ later)) (length front) at opcode (spelled (Float o) own) bytes first s

-- ---- the instructions of an expression

abbrev LongOps : List ℕ → List Op → Type 0
LongOps targets ops = AllByRecursion (λ o. length (instruction_bytes targets o.code) ≤ o.len) ops

-- from one place in an expression to another, over so many bytes
record Reached (e t : Expression) (n : ℕ) : Type 0 where
  pub more : List Op
  pub ops : t.ops ≡ e.ops ++ more
  pub later : List ℕ
  pub targets : t.targets ≡ e.targets ++ later
  pub each : LongOps t.targets more
  pub total : sum_by (λ o. o.len) more ≡ n

-- what an instruction is, with its opcode and the offset behind it
abbrev Read : Type 0
Read = ℕ × ((ℕ × Spelled) × ℕ)

record Long (e : Expression) (x : Read) (n : ℕ) : Type 0 where
  pub len : x.1.1 - x.0 ≡ n
  pub least : (later : List ℕ) → length (instruction_bytes (e.targets ++ (x.1.0.1.targets ++ later)) (instr_of x.1.0)) ≤ n

entry_long : (e : Expression) (x : Read) (at : ℕ) (front : List ℕ) → pair here (pair (passing (λ y. may_stand e.blocks (instr_of y)) (first_and (instruction (length e.targets)))) here) x at front → Long e x (length front)
entry_long e x at front s =
    let r = s.3 in
    let i = r.2.1 in
    let whole : length front ≡ length r.0 = omega (arith, ap length s.2.1, ap length s.4, length-append s.0 s.1, ap length r.3.1, ap length r.4, length-append r.0 r.1) in
    let brings = instruction_brings (length e.targets) x.1.0.1 (at + length s.0) r.0 i.1 in
    record {
      len = omega (arith, whole, s.2.0, ap length s.2.1, r.3.0);
      least = λ later. let le = code_least e.targets x.1.0.1.targets later x.1.0.1.code x.1.0.0 (at + length s.0) r.0 i.0 brings.takes_up i.1 in omega (arith, le, whole);
    }

one_more : (e t : Expression) (x : Read) (front rest bytes : List ℕ) → Long e x (length front) → bytes ≡ front ++ rest → Reached (with_instr e x) t (length rest) → Reached e t (length bytes)
one_more e t x front rest bytes long parts r =
    let i : Instr = instr_of x.1.0 in
    let op : Op = record { at = x.0 - e.origin; len = x.1.1 - x.0; code = i } in
    let own = x.1.0.1.targets in
    let targets : t.targets ≡ e.targets ++ (own ++ r.later) = r.targets ∙ append_assoc e.targets own r.later in
    let least : length (instruction_bytes t.targets i) ≤ x.1.1 - x.0 = subst (λ (ts : List ℕ). length (instruction_bytes ts i) ≤ x.1.1 - x.0) (sym targets) (omega (arith, long.len, long.least r.later)) in
    record {
      more = op ∷ r.more;
      ops = r.ops ∙ append_assoc e.ops (op ∷ []) r.more;
      later = own ++ r.later;
      targets = targets;
      each = (least, r.each);
      total = omega (arith, sum_by-cons (λ (o : Op). o.len) op r.more, r.total, long.len, ap length parts, length-append front rest);
    }

nothing_more : (e : Expression) (bytes : List ℕ) → bytes ≡ [] → Reached e e (length bytes)
nothing_more e bytes none = record { more = []; ops = sym (append-nil e.ops); later = []; targets = sym (append-nil e.targets); each = tt; total = sym (ap length none) }

reached : (n : ℕ) (e t : Expression) (at : ℕ) (bytes : List ℕ) → steps (due is_closed instr_entry) n e t at bytes → Reached e t (length bytes)
reached zero e t at bytes s = subst (λ (x : Expression). Reached e x (length bytes)) (sym s.0) (nothing_more e bytes s.1)
reached (suc n) e t at bytes s =
    let one = s.1.2 in
    let entry = one.1 in
    let same : s.0 ≡ with_instr e entry.0 = sym entry.1 in
    let rest = subst (λ (x : Expression). steps (due is_closed instr_entry) n x t (at + length s.1.0) s.1.1) same s.1.3 in
    one_more e t entry.0 s.1.0 s.1.1 bytes (entry_long e entry.0 at s.1.0 entry.2) s.1.4 (reached n (with_instr e entry.0) t (at + length s.1.0) s.1.1 rest)

-- No instruction is shorter than its shortest spelling, and all of them take up at most so many bytes.
pub record LongCode (targets : List ℕ) (ops : List Op) (n : ℕ) : Type 0 where
  pub each : LongOps targets ops
  pub total : sum_by (λ o. o.len) ops ≤ n

pub entries_long : (origin : ℕ) (e : Expression) (at : ℕ) (bytes : List ℕ) → expression_entries origin e at bytes → LongCode e.targets e.ops (length bytes)
entries_long origin e at bytes s =
    let r = reached s.1.0 (no_code origin) e at bytes s.1.1 in
    let long : LongCode e.targets r.more (length bytes) = record { each = r.each; total = omega (arith, r.total) } in
    subst (λ (ops : List Op). LongCode e.targets ops (length bytes)) (sym r.ops) long

-- ---- what is written of it

pub encoded_least : (body : Body) (n : ℕ) → LongCode body.targets body.ops n → length (expression_bytes body) ≤ n
unfolding expression_bytes
encoded_least body n long =
    omega (arith, length-flat_map (λ (o : Op). instruction_bytes body.targets o.code) body.ops, sum_rises (λ (o : Op). length (instruction_bytes body.targets o.code)) (λ (o : Op). o.len) body.ops long.each, long.total)
