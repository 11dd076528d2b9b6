-- What the code reads of one instruction, in the words of the expression grammar.
use Rattle.std.proofs.Common.{◌≡◌, ℕ, ◌-◌, List, [], ◌∷◌, ◌++◌, length, get_or, true, false, Option, refl, ap, subst, ◌∙◌}
use Rattle.wasm_syntax.specs.declared.instruction.Instr.{Instr}
use Rattle.wasm_syntax.specs.declared.instruction.Op.{Op}
use Rattle.wasm_syntax.specs.declared.blocks.BlockKind.{BlockKind}
use Rattle.wasm_bytes.specs.declared.faults.ItemFault.{ItemFault}
use Rattle.wasm_bytes.specs.declared.faults.ItemFault.TheVariants.{At, NoMemory}
use Rattle.wasm_bytes.specs.Place.{Place}
use Rattle.wasm_bytes.specs.calls.Answers.{Fails}
use Rattle.wasm_bytes.specs.Laws.{got, failed}
use Rattle.wasm_bytes.proofs.Places.{got_is, bind_ok}
use Rattle.wasm_bytes.proofs.Stops.{made_err}
use Rattle.wasm_format.specs.declared.code.Code.{Code}
use Rattle.wasm_format.specs.Spelled.{Spelled}
use Rattle.wasm_format.specs.Reading.{instruction_item, with_targets, code_item}
use Rattle.wasm_format.specs.declared.expression.Expression.{Expression}
use Rattle.wasm_format.specs.Expressions.{code_of, float_of, may_stand, open_behind, instr_step}
use Rattle.std.specs.Option.{option_or}

abbrev opcode_at : Place → ℕ
opcode_at p = get_or p.block p.at 0

-- an instruction and its targets
abbrev spelled : Code → List ℕ → Spelled
spelled code targets = record { code = code; targets = targets }

code_ok : (before : List ℕ) (p q : Place) (code : Code) (targets : List ℕ) → code_item before p ≡ got (code, targets) q
    → (own : List ℕ) × (instruction_item (length before) p ≡ got (spelled code own) q) × (before ++ own ≡ targets)
unfolding code_item
code_ok before p q code targets read =
    let a = bind_ok (instruction_item (length before) p) (λ x. got (with_targets before x.0) x.1) (code, targets) q read in
    let same = got_is (with_targets before a.0) (code, targets) a.1 q a.3 in
    let code_same : a.0.code ≡ code = ap (λ (x : Code × List ℕ). x.0) same.0 in
    (a.0.targets, a.2 ∙ ap (λ (c : Code). got (spelled c a.0.targets) a.1) code_same ∙ ap (λ (r : Place). got (spelled code a.0.targets) r) same.1, ap (λ (x : Code × List ℕ). x.1) same.0)

-- an expression with one more instruction
abbrev more : Expression → Place → Place → Code → List ℕ → Expression
more e p q code targets = record {
  origin = e.origin;
  ops = e.ops ++ record { at = p.at - e.origin; len = q.at - p.at; code = code_of (opcode_at p) code } ∷ [];
  targets = targets;
  blocks = open_behind e.blocks (code_of (opcode_at p) code);
  float = option_or e.float (float_of code);
}

own_ok : (e : Expression) (p q : Place) (code : Code) (own : List ℕ) → instruction_item (length e.targets) p ≡ got (spelled code own) q → may_stand e.blocks (code_of (opcode_at p) code) ≡ true
    → instr_step e p ≡ got (more e p q code (e.targets ++ own)) q
unfolding instr_step
own_ok e p q code own read stands = rw (read, stands) refl

instr_ok : (e : Expression) (p q : Place) (code : Code) (targets : List ℕ) → code_item e.targets p ≡ got (code, targets) q → may_stand e.blocks (code_of (opcode_at p) code) ≡ true
    → instr_step e p ≡ got (more e p q code targets) q
instr_ok e p q code targets read stands =
    let a = code_ok e.targets p q code targets read in
    subst (λ (ts : List ℕ). instr_step e p ≡ got (more e p q code ts) q) a.2 (own_ok e p q code a.0 a.1 stands)

-- what the code found out about an instruction that may stand there
pub record Found (e : Expression) (p q : Place) (code : Code) (at opcode next offset : ℕ) (instr : Instr) (ops : List Op) (blocks : List BlockKind) (own float : Option ℕ) : Type 0 where
  pub here : at ≡ p.at
  pub first : opcode ≡ opcode_at p
  pub is : instr ≡ code_of opcode code
  pub stands : may_stand e.blocks instr ≡ true
  pub behind : next ≡ q.at
  pub placed : offset ≡ at - e.origin
  pub pushed : ops ≡ e.ops ++ record { at = offset; len = next - at; code = instr } ∷ []
  pub opened : blocks ≡ open_behind e.blocks instr
  pub its : own ≡ float_of code
  pub noted : float ≡ option_or e.float own

pub instr_found : (e : Expression) (p q : Place) (code : Code) (at opcode next offset : ℕ) (instr : Instr) (ops : List Op) (targets : List ℕ) (blocks : List BlockKind) (own float : Option ℕ)
    → code_item e.targets p ≡ got (code, targets) q → Found e p q code at opcode next offset instr ops blocks own float
    → instr_step e p ≡ got (record { origin = e.origin; ops = ops; targets = targets; blocks = blocks; float = float }) q
instr_found e p q code at opcode next offset instr ops targets blocks own float read f =
    let is : instr ≡ code_of (opcode_at p) code = f.is ∙ ap (λ (n : ℕ). code_of n code) f.first in
    let one = instr_ok e p q code targets read (subst (λ (i : Instr). may_stand e.blocks i ≡ true) is f.stands) in
    rw (f.pushed, f.opened, f.noted, f.its, f.placed, f.behind, f.here, is) one

-- an instruction that may not stand there
pub instr_refused : (e : Expression) (p q : Place) (code : Code) (at opcode : ℕ) (instr : Instr) (targets : List ℕ) → code_item e.targets p ≡ got (code, targets) q → at ≡ p.at → opcode ≡ opcode_at p → instr ≡ code_of opcode code → may_stand e.blocks instr ≡ false
    → instr_step e p ≡ failed at
unfolding instr_step
instr_refused e p q code at opcode instr targets read here first is stands =
    let a = code_ok e.targets p q code targets read in
    let stays : may_stand e.blocks (code_of (opcode_at p) code) ≡ false = subst (λ (i : Instr). may_stand e.blocks i ≡ false) (is ∙ ap (λ (n : ℕ). code_of n code) first) stands in
    rw (a.1, stays, here) refl

-- no instruction
pub instr_fails : (fault : ItemFault) (e : Expression) (p : Place) → Fails fault (code_item e.targets p) → Fails fault (instr_step e p)
unfolding code_item instr_step
instr_fails NoMemory e p h = tt
instr_fails (At at) e p h =
    let one = made_err (with_targets e.targets) (instruction_item (length e.targets) p) at h in
    rw one refl
