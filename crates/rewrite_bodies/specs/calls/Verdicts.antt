-- What guards mean. A guard is a piece of code that leaves one i32, its verdict: 1 where an instruction would trap there, and 0 where it would
-- not. A second piece leaves the kind of the trap; the guard of `call_indirect` leaves the kind, or 0, by itself. They change nothing else.
use Rattle.std.specs.Prelude.{◌≡◌, ◌≢◌, ℕ, zero, suc, ◌+◌, ◌<◌, ◌≤◌, ◌⊎◌, ◌==◌, List, [], ◌∷◌, ◌++◌, length, map, Option, Some, if◌then◌else◌}
use Rattle.wasm_syntax.specs.declared.value.ValType.{ValType}
use Rattle.wasm_syntax.specs.declared.value.ValType.TheVariants.{I32}
use Rattle.wasm_syntax.specs.declared.value.Value.{Value}
use Rattle.wasm_syntax.specs.declared.value.Value.TheVariants as values
use Rattle.wasm_syntax.specs.declared.instruction.Basic.{Basic}
use Rattle.wasm_syntax.specs.declared.parts.Body.{Body}
use Rattle.wasm_syntax.specs.declared.module.ModuleParts.{ModuleParts as Module}
use Rattle.wasm_syntax.specs.declared.host.CollectorCall.{CollectorCall}
use Rattle.wasm_syntax.specs.Tree.{CallIndirect, Nodes, jump}
use Rattle.wasm_syntax.specs.Module.{defined, function_at, declared_locals}
use Rattle.wasm_syntax.specs.Host.{World}
use Rattle.wasm_syntax.specs.Typing.{Context, BasicTypes, Types}
use Rattle.wasm_syntax.specs.Effect.{Effect, gives, fails, unfit, effect, takes}
use Rattle.wasm_syntax.specs.Machine.{Kind, Label, Frame, Config, label, frame, config, Engine, Stepped, next, ends, traps, no_reply, bad_reply, stuck, parts, cut, step}
use Rattle.rewrite_bodies.specs.calls.Offsets.{SmallOffset}
use Rattle.rewrite_bodies.specs.calls.Slots.{Place, place_type, Ctx}
use Rattle.rewrite_bodies.specs.calls.Pieces.{tree_of}
use Rattle.rewrite_bodies.specs.calls.Guards.{helper, helper_type, first_table}
use Rattle.rewrite_bodies.specs.calls.Agreement.{One, Holds, Has, MemoryFits, TellsLength}
use Rattle.rewrite_bodies.specs.calls.Typed.{Own, AllOwn, Offers, original}
use Rattle.rewrite_bodies.specs.calls.Length.{code_length, FewNumbers}
use Rattle.rewrite_bodies.specs.calls.Rewrite.{helper_of}

-- ---- runs of a piece of code

-- At most so many steps (Core 4.4) lead from one configuration to another, and each of them goes on.
abbrev pub Leads : Engine → ℕ → Config → Config → Type 0
Leads M zero c d = c ≡ d
Leads M (suc n) c d = (c ≡ d) ⊎ ((e : Config) × (step M c ≡ next e) × Leads M n e d)

-- what stands around a piece of code: its function and what that gives, the kind of the innermost label, the labels outside of it, and the
-- frames of the callers
pub record Around : Type 0 where
  pub function : ℕ
  pub result : Option ValType
  pub kind : Kind
  pub outer : List Label
  pub callers : List Frame

-- the configuration there, with these locals and operands, and these nodes still to be run
abbrev pub at_nodes : Around → List Value → List Value → Nodes → World → List CollectorCall → Config
at_nodes A locals operands nodes w calls = config (frame A.function A.result 0 locals (label operands nodes 0 A.kind ∷ A.outer) ∷ A.callers) w calls

-- Whatever operands lie under it and whatever goes on behind it, the piece takes at most 60 steps, and leaves this number. The locals, the globals, the memory, the table, the
-- replies and the collector's calls are as they were.
abbrev pub Leaves : Engine → Around → List Value → World → List CollectorCall → ℕ → (Nodes → Nodes) → Type 0
Leaves M A locals w calls number piece = (under : List Value) (k : Nodes) → Leads M 60 (at_nodes A locals under (piece k) w calls) (at_nodes A locals (values.I32 number ∷ under) k w calls)

-- It is well typed (Core 3.3) in front of code that has an i32 more, inside any labels.
abbrev pub LeavesI32 : Ctx → (Nodes → Nodes) → Type 0
LeavesI32 C piece =
    (m : Module) (locals returns : List ValType) (labels : List (List ValType)) (before after : List ValType) (k : Nodes) → Offers C m locals
    → (let c : Context = record { module_ = m; locals = locals; labels = labels; returns = returns } in Types c k (I32 ∷ before) after → Types c (piece k) before after)

-- It takes at most 120 bytes (Core 5.4).
abbrev pub IsShort : Ctx → (Nodes → Nodes) → Type 0
IsShort C piece = FewNumbers C → (k : Nodes) → code_length (piece k) ≤ 120 + code_length k

-- ---- the guard of an instruction

-- the kind with which it traps, or 0
abbrev pub kind_of : Effect → ℕ
kind_of (gives w l vs) = 0
kind_of (fails k) = k
kind_of unfit = 0

-- 1 where there is a kind, and 0 where there is none
abbrev pub verdict : ℕ → ℕ
verdict zero = 0
verdict (suc k) = 1

-- On the operands that these places stand for, it leaves 1 where the instruction traps on them, and 0 where it does not.
pub record IsGuard (C : Ctx) (i : Basic) (places : List Place) (piece : Nodes → Nodes) : Type 0 where
  pub tells : (M : Engine) (A : Around) (locals added_ : List Value) (w : World) (calls : List CollectorCall) (operands taken below : List Value)
      → length C.locals ≡ length locals → MemoryFits w.memory → TellsLength C added_ w.memory → SmallOffset i → Holds C locals added_ [] operands places → cut (takes i) operands ≡ parts taken below → effect i w locals taken ≢ unfit
      → Leaves M A (locals ++ added_) w calls (verdict (kind_of (effect i w locals taken))) piece
  pub typed : (after : List ValType) → AllOwn C places → BasicTypes (original C []) i (map place_type places) after → LeavesI32 C piece
  pub short : IsShort C piece

-- Where the instruction traps on them, it leaves the kind.
pub record IsKind (C : Ctx) (i : Basic) (places : List Place) (piece : Nodes → Nodes) : Type 0 where
  pub tells : (M : Engine) (A : Around) (locals added_ : List Value) (w : World) (calls : List CollectorCall) (operands taken below : List Value)
      → length C.locals ≡ length locals → MemoryFits w.memory → TellsLength C added_ w.memory → SmallOffset i → Holds C locals added_ [] operands places → cut (takes i) operands ≡ parts taken below → effect i w locals taken ≢ unfit
      → (j : ℕ) → kind_of (effect i w locals taken) ≡ suc j → Leaves M A (locals ++ added_) w calls (suc j) piece
  pub typed : (after : List ValType) → AllOwn C places → BasicTypes (original C []) i (map place_type places) after → LeavesI32 C piece
  pub short : IsShort C piece

-- ---- the guard of `unreachable`

-- It leaves 1, which is the kind too.
pub record IsGuardOfUnreachable (C : Ctx) (piece : Nodes → Nodes) : Type 0 where
  pub tells : (M : Engine) (A : Around) (locals : List Value) (w : World) (calls : List CollectorCall) → Leaves M A locals w calls 1 piece
  pub typed : LeavesI32 C piece
  pub short : IsShort C piece

-- ---- the guard of `call_indirect`

-- the kind with which a step traps, or 0; that of too many frames aside
abbrev pub kind_of_step : Stepped → ℕ
kind_of_step (next c) = 0
kind_of_step (ends w vs co) = 0
kind_of_step (traps k c) = if k == 8 then 0 else k
kind_of_step (no_reply call c) = 0
kind_of_step (bad_reply call reply c) = 0
kind_of_step stuck = 0

-- The next node is a `call_indirect` of this type, on the entry of this number.
pub record CallsEntry (t n : ℕ) (c : Config) : Type 0 where
  pub innermost : Frame
  pub callers : List Frame
  pub here : Label
  pub outer : List Label
  pub operands : List Value
  pub at : ℕ
  pub rest : Nodes
  pub frames_are : c.frames ≡ innermost ∷ callers
  pub labels_are : innermost.labels ≡ here ∷ outer
  pub on_top : here.operands ≡ values.I32 n ∷ operands
  pub nodes_are : here.nodes ≡ jump at (CallIndirect t) rest

-- The function of this index is the helper of a type.
abbrev pub IsHelper : Engine → Module → ℕ → ℕ → Type 0
IsHelper M source t f = (b : Body) × (function_at M.program f ≡ Some (defined b (tree_of (helper source t)) helper_type)) × (declared_locals b.groups ≡ [])

-- Where the operand at a height is the number of an entry, it leaves the kind with which the call traps in the original, whose table is as it
-- was at the start, or 0. The call of the helper has room among the frames, and its steps count.
pub record IsGuardOfEntry (C : Ctx) (t f : ℕ) (entry : Place) (height : ℕ) (piece : Nodes → Nodes) : Type 0 where
  pub tells : (M N : Engine) (c : Config) (n : ℕ) → N.program.module_ ≡ C.source → c.world.table ≡ first_table C.source → CallsEntry t n c → step N c ≢ stuck
      → (A : Around) (locals added_ : List Value) (w : World) (calls : List CollectorCall) → length C.locals ≡ length locals → One C locals added_ height entry (values.I32 n)
      → IsHelper M C.source t f → suc (length A.callers) < M.depth → Leaves M A (locals ++ added_) w calls (kind_of_step (step N c)) piece
  pub typed : Own C entry → place_type entry ≡ I32 → Has t C.helpers → f ≡ helper_of C t → LeavesI32 C piece
  pub short : IsShort C piece
