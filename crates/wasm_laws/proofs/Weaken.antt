-- Equal types may be added below.
use Rattle.std.proofs.Common.{ℕ, List, ◌++◌, refl, ap, subst, ◌∙◌, append_assoc}
use Rattle.std.specs.Prelude.{option_to_list}
use Rattle.wasm_syntax.specs.declared.value.ValType.{ValType}
use Rattle.wasm_syntax.specs.declared.instruction.Basic.{Basic}
use Rattle.wasm_syntax.specs.Tree.{Jump, Unreachable, Br, BrIf, BrTable, Return, Call, CallIndirect, Nodes, stop, basic, jump, block, loop, choose}
use Rattle.wasm_laws.specs.calls.Literal.{join}
use Rattle.wasm_syntax.specs.Typing.{Context, Arrow, Above, OnTop, BasicTypes, JumpTypes, Types}

weaken_above : (a : Arrow) (before after ts : List ValType) → Above a before after → Above a (before ++ ts) (after ++ ts)
weaken_above a before after ts h = record {
  below = h.below ++ ts;
  takes = ap (λ x. x ++ ts) h.takes ∙ append_assoc a.takes h.below ts;
  gives = ap (λ x. x ++ ts) h.gives ∙ append_assoc a.gives h.below ts;
}

weaken_top : (types before ts : List ValType) → OnTop types before → OnTop types (before ++ ts)
weaken_top types before ts h = record { below = h.below ++ ts; takes = ap (λ x. x ++ ts) h.takes ∙ append_assoc types h.below ts }

weaken_basic : (c : Context) (i : Basic) (before after ts : List ValType) → BasicTypes c i before after → BasicTypes c i (before ++ ts) (after ++ ts)
weaken_basic c i before after ts h = record { any = h.any; arrow_is = h.arrow_is; has = h.has; above = weaken_above h.arrow_is before after ts h.above }

weaken_jump : (c : Context) (j : Jump) (before after ts : List ValType) → JumpTypes c j before after → JumpTypes c j (before ++ ts) (after ++ ts)
weaken_jump c Unreachable before after ts h = tt
weaken_jump c (Br n) before after ts h = (h.0, h.1, weaken_top _ before ts h.2)
weaken_jump c (BrIf n) before after ts h = (h.0, h.1, weaken_above _ before after ts h.2)
weaken_jump c (BrTable targets default) before after ts h = (h.0, h.1, h.2, weaken_top _ before ts h.3)
weaken_jump c Return before after ts h = weaken_top _ before ts h
weaken_jump c (Call g) before after ts h = (h.0, h.1, weaken_above _ before after ts h.2)
weaken_jump c (CallIndirect t) before after ts h = (h.0, h.1, h.2, weaken_above _ before after ts h.3)

pub weaken : (c : Context) (ns : Nodes) (before after ts : List ValType) → Types c ns before after → Types c ns (before ++ ts) (after ++ ts)
weaken c stop before after ts h = ap (λ x. x ++ ts) h
weaken c (basic at i rest) before after ts h = (h.0 ++ ts, weaken_basic c i before h.0 ts h.1, weaken c rest h.0 after ts h.2)
weaken c (jump at j rest) before after ts h = (h.0 ++ ts, weaken_jump c j before h.0 ts h.1, weaken c rest h.0 after ts h.2)
weaken c (block at t body end rest) before after ts h =
    (h.0, rw⁻¹ (append_assoc (option_to_list t) before ts) (weaken c rest (option_to_list t ++ before) after ts h.1))
weaken c (loop at t body end rest) before after ts h =
    (h.0, rw⁻¹ (append_assoc (option_to_list t) before ts) (weaken c rest (option_to_list t ++ before) after ts h.1))
weaken c (choose at t a else_at b end rest) before after ts h =
    (h.0, h.1, h.2 ++ ts, ap (λ x. x ++ ts) h.3, rw⁻¹ (append_assoc (option_to_list t) h.2 ts) (weaken c rest (option_to_list t ++ h.2) after ts h.4))

-- ---- one sequence behind another

-- a sequence has a type exactly where its first part leads to what its last part takes
pub split : (c : Context) (ns ms : Nodes) (before after : List ValType) → Types c (join ns ms) before after → (between : List ValType) × Types c ns before between × Types c ms between after
split c stop ms before after h = (before, refl, h)
split c (basic at i rest) ms before after h = let s = split c rest ms h.0 after h.2 in (s.0, (h.0, h.1, s.1), s.2)
split c (jump at j rest) ms before after h = let s = split c rest ms h.0 after h.2 in (s.0, (h.0, h.1, s.1), s.2)
split c (block at t body end rest) ms before after h = let s = split c rest ms _ after h.1 in (s.0, (h.0, s.1), s.2)
split c (loop at t body end rest) ms before after h = let s = split c rest ms _ after h.1 in (s.0, (h.0, s.1), s.2)
split c (choose at t a else_at b end rest) ms before after h = let s = split c rest ms _ after h.4 in (s.0, (h.0, h.1, h.2, h.3, s.1), s.2)

pub joined : (c : Context) (ns ms : Nodes) (before between after : List ValType) → Types c ns before between → Types c ms between after → Types c (join ns ms) before after
joined c stop ms before between after h k = rw h k
joined c (basic at i rest) ms before between after h k = (h.0, h.1, joined c rest ms h.0 between after h.2 k)
joined c (jump at j rest) ms before between after h k = (h.0, h.1, joined c rest ms h.0 between after h.2 k)
joined c (block at t body end rest) ms before between after h k = (h.0, joined c rest ms _ between after h.1 k)
joined c (loop at t body end rest) ms before between after h k = (h.0, joined c rest ms _ between after h.1 k)
joined c (choose at t a else_at b end rest) ms before between after h k = (h.0, h.1, h.2, h.3, joined c rest ms _ between after h.4 k)

-- at its last instruction
last_basic : (c : Context) (ns : Nodes) (at : ℕ) (i : Basic) (before after : List ValType) → Types c (join ns (basic at i stop)) before after → (between : List ValType) × Types c ns before between × BasicTypes c i between after
last_basic c ns at i before after h =
    let s = split c ns (basic at i stop) before after h in (s.0, s.1, subst (λ x. BasicTypes c i s.0 x) s.2.2 s.2.1)
