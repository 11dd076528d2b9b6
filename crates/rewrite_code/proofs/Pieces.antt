-- How pieces of code are put together.
use Rattle.std.proofs.Common.{◌≡◌, ℕ, List, [], ◌∷◌, map, Option, Some, refl, sym, ap, ap₂, ◌∙◌, append-nil}
use Rattle.wasm_syntax.specs.declared.value.ValType.{ValType}
use Rattle.wasm_syntax.specs.declared.instruction.Instr.TheVariants as instrs
use Rattle.wasm_syntax.specs.declared.instruction.Op.{Op}
use Rattle.wasm_syntax.specs.declared.parts.LocalGroup.{LocalGroup}
use Rattle.wasm_syntax.specs.declared.parts.Body.{Body}
use Rattle.wasm_syntax.specs.Tree.{Nodes, stop, choose}
use Rattle.wasm_syntax.specs.SameCode.{op_code, body_code}
use Rattle.rewrite_modules.specs.calls.FlatCode.{body_of}
use Rattle.rewrite_code.specs.inner.Numbered.{numbered}
use Rattle.rewrite_code.proofs.Numbers.{bare_numbered}
use Rattle.rewrite_code.specs.calls.Writing.{Written, written, nothing, with_op, with_nodes, ends, alternates, Emits, EmitsLast, Opens, OpensArms, Alternates, Closes}

pub emits_nothing : {a : Written} → Emits (λ k. k) a a
emits_nothing = record { emitted = λ k behind. refl }

pub emits_then : {P Q : Nodes → Nodes} {a b c : Written} → Emits P a b → Emits Q b c → Emits (λ k. P (Q k)) a c
emits_then {P} {Q} p q = record { emitted = λ k behind. p.emitted (Q k) behind ∙ q.emitted k behind }

pub emits_last : {P : Nodes → Nodes} {nodes : Nodes} {a b c : Written} → Emits P a b → EmitsLast nodes b c → EmitsLast (P nodes) a c
emits_last {P} {nodes} p q = record { emitted = λ behind. p.emitted nodes behind ∙ q.emitted behind }

-- a piece behind which nothing goes on
pub emits_stop : {P : Nodes → Nodes} {a b : Written} → Emits P a b → EmitsLast (P stop) a b
emits_stop p = record { emitted = λ behind. p.emitted stop behind }

-- a block with its nodes and its end
pub emits_within : {P : Nodes → Nodes → Nodes} {inner : Nodes} {a b c d : Written} → Opens P a b → EmitsLast inner b c → Closes c d → Emits (λ k. P inner k) a d
emits_within {P} {inner} o i c = record { emitted = λ k behind. o.opened inner k behind ∙ i.emitted (ends k ∷ behind) ∙ c.closed k behind }

pub emits_arms : {t : Option ValType} {arm other : Nodes} {a b c d e f : Written} → OpensArms t a b → EmitsLast arm b c → Alternates c d → EmitsLast other d e → Closes e f → Emits (λ k. choose 0 t arm (Some 0) other 0 k) a f
emits_arms {t} {arm} {other} o i x j c =
    record { emitted = λ k behind. o.opened arm other k behind ∙ i.emitted (alternates other k ∷ behind) ∙ x.alternated other k behind ∙ j.emitted (ends k ∷ behind) ∙ c.closed k behind }

-- ---- what was written

pub stop_behind : (w : Written) → with_nodes w stop ≡ w
stop_behind w = ap₂ written (append-nil w.ops) (append-nil w.targets)

-- the nodes of a piece stand behind the code
pub emitted_nodes : {P : Nodes → Nodes} {a b : Written} → Emits P a b → b ≡ with_nodes a (P stop)
emitted_nodes {b = b} p = sym (stop_behind b) ∙ sym (p.emitted stop [])

pub last_nodes : {nodes : Nodes} {a b : Written} → EmitsLast nodes a b → b ≡ with_nodes a nodes
last_nodes {b = b} p = sym (stop_behind b) ∙ sym (p.emitted [])

-- with the last `end`, all nodes of a body are the body's code
pub finished_body : {w : Written} (groups : List LocalGroup) (nodes : Nodes) (ops : List Op) (targets : List ℕ) → EmitsLast nodes nothing w → written ops targets ≡ with_op w instrs.End → ◌≡◌ {A = Body} (record { groups = groups; ops = ops; targets = targets; start = 0 }) (body_of groups nodes)
finished_body groups nodes ops targets e d =
    let both : written ops targets ≡ with_op (with_nodes nothing nodes) instrs.End = d ∙ ap (λ w. with_op w instrs.End) (last_nodes e) in
    same (ap (λ w. w.ops) both) (ap (λ w. w.targets) both)
  where
    same : {os os' : List Op} {ts ts' : List ℕ} → os ≡ os' → ts ≡ ts' → ◌≡◌ {A = Body} (record { groups = groups; ops = os; targets = ts; start = 0 }) (record { groups = groups; ops = os'; targets = ts'; start = 0 })
    same e d = cc

-- but for the offsets of instructions that were numbered
pub numbered_body : {w : Written} (groups : List LocalGroup) (nodes : Nodes) (ops placed : List Op) (targets : List ℕ) → EmitsLast nodes nothing w → written ops targets ≡ with_op w instrs.End → placed ≡ numbered 0 ops → body_code (record { groups = groups; ops = placed; targets = targets; start = 0 }) ≡ body_code (body_of groups nodes)
numbered_body groups nodes ops placed targets e d n =
    same (ap (λ (os : List Op). map op_code os) n ∙ bare_numbered 0 ops) ∙ ap body_code (finished_body groups nodes ops targets e d)
  where
    same : {os os' : List Op} → os ≡ os' → ◌≡◌ {A = Body} (record { groups = groups; ops = os; targets = targets; start = 0 }) (record { groups = groups; ops = os'; targets = targets; start = 0 })
    same e = cc
