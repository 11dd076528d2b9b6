-- What is written of an expression spells it.
use Rattle.std.proofs.Common.{◌≡◌, ℕ, ◌+◌, ◌-◌, ◌≤◌, true, eqb, List, [], ◌∷◌, ◌++◌, length, take, drop, get_or, map, Option, None, refl, sym, ap, subst, ◌∙◌, append_assoc, arith, length-append}
use Rattle.std.specs.List.{flat_map, AllByRecursion}
use Rattle.std.proofs.lemmas.List.{append-nil, take-append-drop, length-take}
use Rattle.std.proofs.Math.Seq.{drop-append_seam}
use Rattle.wasm_syntax.specs.declared.blocks.BlockKind.{BlockKind}
use Rattle.wasm_syntax.specs.declared.instruction.Instr.{Instr}
use Rattle.wasm_syntax.specs.declared.instruction.Instr.TheVariants as instr
use Rattle.wasm_syntax.specs.declared.instruction.Jump.TheVariants as jumps
use Rattle.wasm_syntax.specs.declared.instruction.Op.{Op}
use Rattle.wasm_syntax.specs.declared.parts.Body.{Body}
use Rattle.wasm_syntax.specs.declared.parts.LocalGroup.{LocalGroup}
use Rattle.wasm_syntax.specs.Module.{TakeUp, InOrder, IsExpression}
use Rattle.wasm_syntax.specs.SameCode.{op_code, body_code}
use Rattle.wasm_syntax.specs.Tree.{Tree, Writes}
use Rattle.wasm_bytes.specs.calls.Spelling.{Spellings, pair, passing, here, steps, due}
use Rattle.wasm_format.specs.Spelled.{Spelled}
use Rattle.wasm_format.specs.calls.InstructionGrammar.{instruction}
use Rattle.wasm_format.specs.Encoding.{encoding, IsInside, IsCode, targets_of, BeginsAt, spelled_of}
use Rattle.wasm_format.proofs.Encoded.{encoding_spells}
use Rattle.wasm_bytes.specs.declared.noted.Noted.{Noted}
use Rattle.wasm_format.specs.declared.expression.Expression.{Expression}
use Rattle.wasm_format.specs.calls.Choices.{first_and}
use Rattle.wasm_bytes.specs.Notes.{plain}
use Rattle.wasm_format.specs.Expressions.{may_stand, instr_of, no_code, with_instr, is_closed, code_body}
use Rattle.wasm_format.specs.calls.Grammar.{instr_entry, expression_entries, expression}
use Rattle.wasm_encode.specs.Encoding.{expression_bytes}
use Rattle.wasm_encode.specs.calls.Fits.{FitsExpression}
use Rattle.wasm_encode.proofs.Targets.{behind, taken}
use Rattle.wasm_encode.proofs.Closing.{Ends, expression_ends}

-- ---- targets

start_at : (base n : ℕ) (i : Instr) (is : List Instr) → TakeUp base (i ∷ is) n → BeginsAt base i
start_at base n (instr.Basic i) is t = tt
start_at base n (instr.Jump jumps.Unreachable) is t = tt
start_at base n (instr.Jump (jumps.Br l)) is t = tt
start_at base n (instr.Jump (jumps.BrIf l)) is t = tt
start_at base n (instr.Jump (jumps.BrTable start count default)) is t = t.0
start_at base n (instr.Jump jumps.Return) is t = tt
start_at base n (instr.Jump (jumps.Call f)) is t = tt
start_at base n (instr.Jump (jumps.CallIndirect f)) is t = tt
start_at base n (instr.Block b) is t = tt
start_at base n (instr.Loop b) is t = tt
start_at base n (instr.If b) is t = tt
start_at base n instr.Else is t = tt
start_at base n instr.End is t = tt

-- the targets that are left behind an instruction, and how many it takes
record Left (front rest ts : List ℕ) (i : Instr) : Type 0 where
  behind_it : List ℕ
  parts : (front ++ targets_of ts i) ++ behind_it ≡ ts
  count : behind (length front) i ≡ length (front ++ targets_of ts i)

none_taken : (front rest ts : List ℕ) → front ++ rest ≡ ts → (front ++ []) ++ rest ≡ ts
none_taken front rest ts e = ap (λ (f : List ℕ). f ++ rest) (append-nil front) ∙ e

nothing_more : (front : List ℕ) → length front ≡ length (front ++ [])
nothing_more front = ap length (sym (append-nil front))

some_taken : (front rest ts : List ℕ) (count : ℕ) → front ++ rest ≡ ts → (front ++ take count (drop (length front) ts)) ++ drop count rest ≡ ts
some_taken front rest ts count e =
    let at : drop (length front) ts ≡ rest = ap (drop (length front)) (sym e) ∙ drop-append_seam front rest in
    rw (at, append_assoc, take-append-drop count rest) e

some_more : (front rest ts : List ℕ) (count : ℕ) → front ++ rest ≡ ts → length front + count ≤ length ts → length front + count ≡ length (front ++ take count (drop (length front) ts))
some_more front rest ts count e le =
    let at : drop (length front) ts ≡ rest = ap (drop (length front)) (sym e) ∙ drop-append_seam front rest in
    let n : length ts ≡ length front + length rest = ap length (sym e) ∙ length-append front rest in
    rw at (omega (arith, length-append front (take count rest), length-take count rest))

left : (front rest ts : List ℕ) (i : Instr) → front ++ rest ≡ ts → BeginsAt (length front) i → IsInside ts i → Left front rest ts i
left front rest ts (instr.Jump (jumps.BrTable start count default)) e s inside = record {
  behind_it = drop count rest;
  parts = rw s (some_taken front rest ts count e);
  count = rw s (some_more front rest ts count e (omega (arith, s, inside)));
}
left front rest ts (instr.Basic i) e s inside = record { behind_it = rest; parts = none_taken front rest ts e; count = nothing_more front }
left front rest ts (instr.Jump jumps.Unreachable) e s inside = record { behind_it = rest; parts = none_taken front rest ts e; count = nothing_more front }
left front rest ts (instr.Jump (jumps.Br l)) e s inside = record { behind_it = rest; parts = none_taken front rest ts e; count = nothing_more front }
left front rest ts (instr.Jump (jumps.BrIf l)) e s inside = record { behind_it = rest; parts = none_taken front rest ts e; count = nothing_more front }
left front rest ts (instr.Jump jumps.Return) e s inside = record { behind_it = rest; parts = none_taken front rest ts e; count = nothing_more front }
left front rest ts (instr.Jump (jumps.Call f)) e s inside = record { behind_it = rest; parts = none_taken front rest ts e; count = nothing_more front }
left front rest ts (instr.Jump (jumps.CallIndirect f)) e s inside = record { behind_it = rest; parts = none_taken front rest ts e; count = nothing_more front }
left front rest ts (instr.Block b) e s inside = record { behind_it = rest; parts = none_taken front rest ts e; count = nothing_more front }
left front rest ts (instr.Loop b) e s inside = record { behind_it = rest; parts = none_taken front rest ts e; count = nothing_more front }
left front rest ts (instr.If b) e s inside = record { behind_it = rest; parts = none_taken front rest ts e; count = nothing_more front }
left front rest ts instr.Else e s inside = record { behind_it = rest; parts = none_taken front rest ts e; count = nothing_more front }
left front rest ts instr.End e s inside = record { behind_it = rest; parts = none_taken front rest ts e; count = nothing_more front }

all_taken : (front rest ts : List ℕ) → front ++ rest ≡ ts → length front ≡ length ts → front ≡ ts
all_taken front [] ts e n = sym (append-nil front) ∙ e
all_taken front (x ∷ xs) ts e n = absurd (omega (arith, n, ap length e, length-append front (x ∷ xs)))

-- ---- one instruction

-- an item between its offset and the one behind it
between : {A : Type 0} (S : A → Spellings) (x : A) (at : ℕ) (bytes : List ℕ) → S x (at + length {A = ℕ} []) bytes → pair here (pair S here) (at, (x, at + length {A = ℕ} [] + length bytes)) at bytes
between S x at bytes s = ([], bytes, (refl, refl), (bytes, [], s, (refl, refl), sym (append-nil bytes)), refl)

-- the expression with one more instruction, which is written at that offset
abbrev with_op : List ℕ → Expression → ℕ → Instr → Expression
with_op ts e at i =
    let bytes = encoding ts i in
    with_instr e (at, ((get_or bytes 0 0, spelled_of ts i), at + length {A = ℕ} [] + length bytes))

op_spelled : (ts : List ℕ) (e : Expression) (at : ℕ) (i : Instr) → IsCode ts i → BeginsAt (length e.targets) i → may_stand e.blocks i ≡ true → instr_entry e (with_op ts e at i) at (encoding ts i)
op_spelled ts e at i is starts stands =
    let bytes = encoding ts i in
    let here_on = at + length {A = ℕ} [] in
    let first = get_or bytes 0 0 in (
      (at, ((first, spelled_of ts i), here_on + length bytes)),
      refl,
      between {A = ℕ × Spelled} (passing (λ x. may_stand e.blocks (instr_of x)) (first_and (instruction (length e.targets)))) (first, spelled_of ts i) at bytes (stands, (refl, encoding_spells ts (length e.targets) here_on i is starts)),
    )

-- ---- the instructions one after the other

pub record Ended (ts : List ℕ) (e : Expression) (ops : List Op) (at : ℕ) : Type 0 where
  pub after : Expression
  pub closed : after.blocks ≡ []
  pub targets : after.targets ≡ ts
  pub same : map op_code after.ops ≡ map op_code (e.ops ++ ops)
  pub no_float : after.float ≡ None
  pub spelled : steps (due is_closed instr_entry) (length ops) e after at (flat_map (λ o. encoding ts o.code) ops)

one_more : (front : List Op) (p o : Op) (os : List Op) → op_code p ≡ op_code o → map op_code ((front ++ p ∷ []) ++ os) ≡ map op_code (front ++ o ∷ os)
one_more [] p o os e = ap (λ (c : Op). c ∷ map op_code os) e
one_more (f ∷ fs) p o os e = ap (λ (cs : List Op). op_code f ∷ cs) (one_more fs p o os e)

ended : (ts : List ℕ) (ops : List Op) (e : Expression) (rest : List ℕ) (at : ℕ) → e.targets ++ rest ≡ ts → e.float ≡ None → Ends e.blocks (map (λ o. o.code) ops) → TakeUp (length e.targets) (map (λ o. o.code) ops) (length ts)
    → AllByRecursion (λ o. IsCode ts o.code) ops → Ended ts e ops at
ended ts [] e rest at parts float closed taken_up fits = record {
  after = e;
  closed = closed;
  targets = all_taken e.targets rest ts parts taken_up;
  same = ap (map op_code) (sym (append-nil e.ops));
  no_float = float;
  spelled = (refl, refl);
}
ended ts (o ∷ os) e rest at parts float closed taken_up fits =
    let is = map (λ p. p.code) os in
    let start = start_at (length e.targets) (length ts) o.code is taken_up in
    let l = left e.targets rest ts o.code parts start fits.0.inside in
    let next = with_op ts e at o.code in
    let bytes = encoding ts o.code in
    let one = op_spelled ts e at o.code fits.0 start closed.1 in
    let taken_on : TakeUp (length next.targets) is (length ts) = subst (λ (k : ℕ). TakeUp k is (length ts)) l.count (taken (length e.targets) (length ts) o.code is taken_up) in
    let others = ended ts os next l.behind_it (at + length bytes) l.parts (rw float refl) closed.2 taken_on fits.1 in
    record {
      after = others.after;
      closed = others.closed;
      targets = others.targets;
      same = others.same ∙ one_more e.ops (record { at = at - e.origin; len = at + length {A = ℕ} [] + length bytes - at; code = o.code }) o os refl;
      no_float = others.no_float;
      spelled = (next, (bytes, flat_map (λ p. encoding ts p.code) os, (closed.0, one), others.spelled, refl));
    }

-- ---- expressions

-- The body of an expression is read, but for its places.
pub record IsRead (body : Body) (origin at : ℕ) : Type 0 where
  pub read : Expression
  pub same : map op_code read.ops ≡ map op_code body.ops
  pub targets : read.targets ≡ body.targets
  pub no_float : read.float ≡ None
  pub spelled : expression_entries origin read at (expression_bytes body)

none_open : (blocks : List BlockKind) → blocks ≡ [] → eqb (length blocks) 0 ≡ true
none_open blocks e = rw e refl

pub entries_spelled : (body : Body) (tree : Tree) (origin at : ℕ) → Writes body.targets body.ops tree → InOrder body → FitsExpression body → IsRead body origin at
unfolding expression_bytes
entries_spelled body tree origin at writes order fits =
    let e = ended body.targets body.ops (no_code origin) body.targets at refl refl (expression_ends body.targets body.ops tree writes) order.targets fits in
    record {
      read = e.after;
      same = e.same;
      targets = e.targets;
      no_float = e.no_float;
      spelled = (none_open e.after.blocks e.closed, (length body.ops, e.spelled));
    }

pub no_note : {A : Type 0} (x : A) (float : Option ℕ) → float ≡ None → (let n : Noted A = record { value = x; float = float } in n ≡ plain x)
no_note x float e = rw e refl

pub same_body : (groups groups_read : List LocalGroup) (ops ops_read : List Op) (ts ts_read : List ℕ) (start start_read : ℕ) → groups_read ≡ groups → map op_code ops_read ≡ map op_code ops → ts_read ≡ ts
    → body_code (record { groups = groups_read; ops = ops_read; targets = ts_read; start = start_read }) ≡ body_code (record { groups = groups; ops = ops; targets = ts; start = start })
same_body groups groups_read ops ops_read ts ts_read start start_read g o t = rw (g, o, t) refl

-- a value that is spelled, and alike
abbrev pub SpelledAlike : {A : Type 0} → (Noted A → Spellings) → (A → A) → A → ℕ → List ℕ → Type 0
SpelledAlike {A} S code x at bytes = (y : A) × (code y ≡ code x) × S (plain y) at bytes

pub expression_spelled : (body : Body) (at : ℕ) → IsExpression body → FitsExpression body → SpelledAlike expression body_code body at (expression_bytes body)
expression_spelled body at is fits =
    let e = entries_spelled body is.tree at at is.writes is.in_order fits in (
      code_body [] 0 e.read,
      same_body body.groups [] body.ops e.read.ops body.targets e.read.targets body.start 0 (sym is.no_locals) e.same e.targets,
      (e.read, no_note (code_body [] 0 e.read) e.read.float e.no_float, e.spelled),
    )
