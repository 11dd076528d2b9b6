-- Where labels end: at an `else` or `end` of the body of their function.
use Rattle.std.proofs.Common.{◌≡◌, ℕ, zero, suc, Bool, true, false, nat_lt, List, [], ◌∷◌, reverse, length, slice_get, Option, Some, None, refl, ap, subst}
use Rattle.std.specs.List.{AllByRecursion}
use Rattle.wasm_syntax.specs.declared.value.ValType.{ValType}
use Rattle.wasm_syntax.specs.declared.value.Value.{Value}
use Rattle.wasm_syntax.specs.declared.value.Value.TheVariants as values
use Rattle.wasm_syntax.specs.declared.instruction.Basic.{Basic}
use Rattle.wasm_syntax.specs.declared.instruction.Instr.{Instr}
use Rattle.wasm_syntax.specs.declared.instruction.Instr.TheVariants as instr
use Rattle.wasm_syntax.specs.declared.instruction.Op.{Op}
use Rattle.wasm_syntax.specs.declared.parts.FuncType.{FuncType}
use Rattle.wasm_syntax.specs.declared.parts.Body.{Body}
use Rattle.wasm_syntax.specs.declared.host.HostCall.{HostCall}
use Rattle.wasm_syntax.specs.declared.host.CollectorCall.{CollectorCall}
use Rattle.wasm_syntax.specs.Numbers.{types}
use Rattle.wasm_syntax.specs.Tree.{Jump, Unreachable, Br, BrIf, BrTable, Return, Call, CallIndirect, Nodes, stop, basic, jump, block, loop, choose, Tree, Item, Else, End, Placed, placed, write, item_of, code_of, Writes}
use Rattle.wasm_syntax.specs.Module.{Function, imported, defined, function_at, same_types}
use Rattle.wasm_syntax.specs.Host.{World, Answer, replied, told, silent, misfit, answer}
use Rattle.wasm_syntax.specs.Effect.{Effect, gives, fails, unfit, effect, takes}
use Rattle.wasm_syntax.specs.Machine.{Kind, leaves, again, returns, Label, Frame, Config, frame, Engine, Stepped, Cut, short, parts, cut, exactly, top, Went, inside, outside, nowhere, arrive, arrive_some, out_some, leave, loops, land, branch, carry, same_carry, pick, function_type, entered, host_call, goes_to, deliver, moved, host, enters, applied, applied_if, calls_on, calls, calls_if, fits_entry, calls_entry, calls_typed, calls_indirect, branch_if, moved_if, branch_table, jumps, affects, does, opens_arm, chooses, runs, in_frame, steps, step}
use Rattle.wasm_validate.specs.calls.Instructions.{is_node}
use Rattle.match_laws.proofs.RunStates.{OnFrames}
use Rattle.std.specs.Prelude.{unwrap_or}

-- ---- the nodes of a body

-- each block in the nodes ends at such an offset, and so does each first arm
abbrev pub Closed : (ℕ → Type 0) → Nodes → Type 0
Closed C stop = Unit {0}
Closed C (basic at i rest) = Closed C rest
Closed C (jump at j rest) = Closed C rest
Closed C (block at t body end rest) = C end × Closed C body × Closed C rest
Closed C (loop at t body end rest) = C end × Closed C body × Closed C rest
Closed C (choose at t a else_at b end rest) = C (unwrap_or else_at end) × C end × Closed C a × Closed C b × Closed C rest

-- an `else` or `end` stands at such an offset
abbrev pub ClosesIf : (ℕ → Type 0) → ℕ → Item → Type 0
ClosesIf C at Else = C at
ClosesIf C at End = C at
ClosesIf C at i = Unit {0}

abbrev pub AllClose : (ℕ → Type 0) → List Placed → Type 0
AllClose C code = AllByRecursion (λ x. ClosesIf C x.at x.code) code

-- so the nodes that code writes out are closed
pub closed_of : (C : ℕ → Type 0) (ns : Nodes) (after : List Placed) → AllClose C (write ns after) → Closed C ns × AllClose C after
closed_of C stop after h = (tt, h)
closed_of C (basic at i rest) after h = closed_of C rest after h.1
closed_of C (jump at j rest) after h = closed_of C rest after h.1
closed_of C (block at t body end rest) after h =
    let x = closed_of C body (placed end End ∷ write rest after) h.1 in
    let y = closed_of C rest after x.1.1 in
    ((x.1.0, x.0, y.0), y.1)
closed_of C (loop at t body end rest) after h =
    let x = closed_of C body (placed end End ∷ write rest after) h.1 in
    let y = closed_of C rest after x.1.1 in
    ((x.1.0, x.0, y.0), y.1)
closed_of C (choose at t a None b end rest) after h =
    let x = closed_of C a (write b (placed end End ∷ write rest after)) h.1 in
    let y = closed_of C b (placed end End ∷ write rest after) x.1 in
    let z = closed_of C rest after y.1.1 in
    ((y.1.0, y.1.0, x.0, y.0, z.0), z.1)
closed_of C (choose at t a (Some e) b end rest) after h =
    let x = closed_of C a (placed e Else ∷ write b (placed end End ∷ write rest after)) h.1 in
    let y = closed_of C b (placed end End ∷ write rest after) x.1.1 in
    let z = closed_of C rest after y.1.1 in
    ((x.1.0, y.1.0, x.0, y.0, z.0), z.1)

-- ---- labels and frames

abbrev pub KindCloses : (ℕ → Type 0) → Kind → Type 0
KindCloses C (leaves t) = Unit {0}
KindCloses C (again at t body end) = C end × Closed C body
KindCloses C (returns t) = Unit {0}

abbrev pub LabelCloses : (ℕ → Type 0) → Label → Type 0
LabelCloses C l = C l.end × Closed C l.nodes × KindCloses C l.kind

-- the labels of each frame end where its function closes
abbrev pub FrameCloses : (ℕ → ℕ → Type 0) → Frame → Type 0
FrameCloses K f = AllByRecursion (LabelCloses (K f.function)) f.labels

abbrev pub FramesClose : (ℕ → ℕ → Type 0) → List Frame → Type 0
FramesClose K fs = AllByRecursion (FrameCloses K) fs

-- ---- moves inside a frame

abbrev WentCloses : (ℕ → Type 0) → Went → Type 0
WentCloses C (inside ls) = AllByRecursion (LabelCloses C) ls
WentCloses C (outside vs) = Unit {0}
WentCloses C nowhere = Unit {0}

module _ (C : ℕ → Type 0) where
  arrive_closes : (vs : List Value) (ls : List Label) → AllByRecursion (LabelCloses C) ls → WentCloses C (arrive vs ls)
  arrive_closes vs [] h = tt
  arrive_closes vs (l ∷ ls) h = ((h.0.0, h.0.1, h.0.2), h.1)

  some_closes : (o : Option (List Value)) (ls : List Label) → AllByRecursion (LabelCloses C) ls → WentCloses C (arrive_some o ls)
  some_closes None ls h = tt
  some_closes (Some vs) ls h = arrive_closes vs ls h

  out_closes : (o : Option (List Value)) → WentCloses C (out_some o)
  out_closes None = tt
  out_closes (Some vs) = tt

  leave_closes : (k : Kind) (vs : List Value) (ls : List Label) → AllByRecursion (LabelCloses C) ls → WentCloses C (leave k vs ls)
  leave_closes (leaves t) vs ls h = some_closes (exactly t vs) ls h
  leave_closes (again at t body end) vs ls h = some_closes (exactly t vs) ls h
  leave_closes (returns t) vs ls h = out_closes (exactly t vs)

  loops_closes : (at : ℕ) (t : Option ValType) (body : Nodes) (end : ℕ) (ls : List Label) → C end × Closed C body → AllByRecursion (LabelCloses C) ls → WentCloses C (loops at t body end ls)
  loops_closes at t body end [] b h = tt
  loops_closes at t body end (l ∷ ls) b h = ((h.0.0, (b.0, b.1, h.0.1), h.0.2), h.1)

  land_closes : (k : Kind) (vs : List Value) (ls : List Label) → KindCloses C k → AllByRecursion (LabelCloses C) ls → WentCloses C (land k vs ls)
  land_closes (leaves t) vs ls k h = some_closes (top t vs) ls h
  land_closes (again at t body end) vs ls k h = loops_closes at t body end ls k h
  land_closes (returns t) vs ls k h = out_closes (top t vs)

  branch_closes : (n : ℕ) (vs : List Value) (ls : List Label) → AllByRecursion (LabelCloses C) ls → WentCloses C (branch n vs ls)
  branch_closes n vs [] h = tt
  branch_closes zero vs (l ∷ ls) h = land_closes l.kind vs ls h.0.2 h.1
  branch_closes (suc n) vs (l ∷ ls) h = branch_closes n vs ls h.1

-- ---- steps

module _ (M : Engine) (K : ℕ → ℕ → Type 0) (begins : (g : ℕ) (b : Body) (tree : Tree) (type : FuncType) → function_at M.program g ≡ Some (defined b tree type) → K g tree.end × Closed (K g) tree.nodes) where
  abbrev F : Stepped → Type 0
  F s = OnFrames (FramesClose K) s

  abbrev All : List Frame → Type 0
  All fs = FramesClose K fs

  goes_closes : (x : Went) (f : Frame) (fs : List Frame) (w : World) (co : List CollectorCall) → WentCloses (K f.function) x → All fs → F (goes_to M x f fs w co)
  goes_closes (inside ls) f fs w co x h = (x, h)
  goes_closes (outside vs) f fs w co x h = tt
  goes_closes nowhere f fs w co x h = tt

  deliver_closes : (vs : List Value) (fs : List Frame) (w : World) (co : List CollectorCall) → All fs → F (deliver M vs fs w co)
  deliver_closes vs [] w co h = tt
  deliver_closes vs (f ∷ fs) w co h = goes_closes (arrive vs f.labels) f fs w co (arrive_closes (K f.function) vs f.labels h.0) h.1

  pub entered_closes : (g : ℕ) (b : Body) (tree : Tree) (type : FuncType) (args : List Value) → function_at M.program g ≡ Some (defined b tree type) → FrameCloses K (entered g b tree type args)
  entered_closes g b tree type args e = let x = begins g b tree type e in ((x.0, x.1, tt), tt)

  module _ (f : Frame) (fs : List Frame) (w : World) (co : List CollectorCall) (h : All fs) where
    abbrev C : ℕ → Type 0
    C = K f.function

    moved_closes : (x : Went) → WentCloses C x → F (moved M x f fs w co)
    moved_closes (inside ls) x = (x, h)
    moved_closes (outside vs) x = deliver_closes vs fs w co h
    moved_closes nowhere x = tt

    moved_if_closes : (q : Bool) (x : Went) → WentCloses C x → F (moved_if M q x f fs w co)
    moved_if_closes false x y = tt
    moved_if_closes true x y = moved_closes x y

    module _ (l : Label) (ls : List Label) (here : LabelCloses C l) (out : AllByRecursion (LabelCloses C) ls) where
      -- as before
      stays : All (frame f.function f.result f.call f.locals (l ∷ ls) ∷ fs)
      stays = ((here, out), h)

      host_closes : (A : Answer) (call : HostCall) (below : List Value) (rest : Nodes) → Closed C rest → F (host M A call below rest f l ls fs w co)
      host_closes (replied w' v) call below rest r = (((here.0, r, here.2), out), h)
      host_closes (told k) call below rest r = (((here.0, r, here.2), out), h)
      host_closes silent call below rest r = stays
      host_closes (misfit reply) call below rest r = stays

      enters_closes : (q : Bool) (new : Frame) (below : List Value) (at : ℕ) (rest : Nodes) → FrameCloses K new → Closed C rest → F (enters M q new below at rest f l ls fs w co)
      enters_closes false new below at rest n r = stays
      enters_closes true new below at rest n r = (n, (((here.0, r, here.2), out), h))

      applied_closes : (fn : Function) (g : ℕ) (args below : List Value) (at : ℕ) (rest : Nodes) → function_at M.program g ≡ Some fn → Closed C rest → F (applied M fn g args below at rest f l ls fs w co)
      applied_closes (imported import type) g args below at rest e r = host_closes (answer M.collects M.program.module_ (host_call g import type args) w) (host_call g import type args) below rest r
      applied_closes (defined body tree type) g args below at rest e r = enters_closes (nat_lt (suc (length fs)) M.depth) (entered g body tree type args) below at rest (entered_closes g body tree type args e) r

      applied_if_closes : (q : Bool) (fn : Function) (g : ℕ) (args below : List Value) (at : ℕ) (rest : Nodes) → function_at M.program g ≡ Some fn → Closed C rest → F (applied_if M q fn g args below at rest f l ls fs w co)
      applied_if_closes false fn g args below at rest e r = tt
      applied_if_closes true fn g args below at rest e r = applied_closes fn g args below at rest e r

      calls_on_closes : (fn : Function) (g : ℕ) (x : Cut) (at : ℕ) (rest : Nodes) → function_at M.program g ≡ Some fn → Closed C rest → F (calls_on M fn g x at rest f l ls fs w co)
      calls_on_closes fn g short at rest e r = tt
      calls_on_closes fn g (parts vs below) at rest e r = applied_if_closes (same_types (types (reverse vs)) (function_type fn).params) fn g (reverse vs) below at rest e r

      calls_closes : (o : Option Function) (g : ℕ) (vs : List Value) (at : ℕ) (rest : Nodes) → function_at M.program g ≡ o → Closed C rest → F (calls M o g vs at rest f l ls fs w co)
      calls_closes None g vs at rest e r = tt
      calls_closes (Some fn) g vs at rest e r = calls_on_closes fn g (cut (length (function_type fn).params) vs) at rest e r

      calls_if_closes : (q : Option Bool) (g : ℕ) (vs : List Value) (at : ℕ) (rest : Nodes) → Closed C rest → F (calls_if M q g vs at rest f l ls fs w co)
      calls_if_closes None g vs at rest r = tt
      calls_if_closes (Some false) g vs at rest r = stays
      calls_if_closes (Some true) g vs at rest r = calls_closes (function_at M.program g) g vs at rest refl r

      calls_entry_closes : (q : Option (Option ℕ)) (type : FuncType) (vs : List Value) (at : ℕ) (rest : Nodes) → Closed C rest → F (calls_entry M q type vs at rest f l ls fs w co)
      calls_entry_closes None type vs at rest r = stays
      calls_entry_closes (Some None) type vs at rest r = stays
      calls_entry_closes (Some (Some g)) type vs at rest r = calls_if_closes (fits_entry M type g) g vs at rest r

      calls_typed_closes : (o : Option FuncType) (q : Option (Option ℕ)) (vs : List Value) (at : ℕ) (rest : Nodes) → Closed C rest → F (calls_typed M o q vs at rest f l ls fs w co)
      calls_typed_closes None q vs at rest r = tt
      calls_typed_closes (Some type) q vs at rest r = calls_entry_closes q type vs at rest r

      calls_indirect_closes : (t : ℕ) (vs : List Value) (at : ℕ) (rest : Nodes) → Closed C rest → F (calls_indirect M t vs at rest f l ls fs w co)
      calls_indirect_closes t [] at rest r = tt
      calls_indirect_closes t (values.I64 n ∷ vs) at rest r = tt
      calls_indirect_closes t (values.I32 n ∷ vs) at rest r = calls_typed_closes (slice_get M.program.module_.types t) (slice_get w.table n) vs at rest r

      branch_if_closes : (n : ℕ) (vs : List Value) (rest : Nodes) → Closed C rest → F (branch_if M n vs rest f l ls fs w co)
      branch_if_closes n [] rest r = tt
      branch_if_closes n (values.I64 c ∷ vs) rest r = tt
      branch_if_closes n (values.I32 zero ∷ vs) rest r = (((here.0, r, here.2), out), h)
      branch_if_closes n (values.I32 (suc c) ∷ vs) rest r = moved_closes (branch n vs (l ∷ ls)) (branch_closes C n vs (l ∷ ls) (here, out))

      branch_table_closes : (ts : List ℕ) (d : ℕ) (vs : List Value) → F (branch_table M ts d vs f l ls fs w co)
      branch_table_closes ts d [] = tt
      branch_table_closes ts d (values.I64 n ∷ vs) = tt
      branch_table_closes ts d (values.I32 n ∷ vs) = moved_if_closes (same_carry (carry (pick ts d n) (l ∷ ls)) (carry d (l ∷ ls))) (branch (pick ts d n) vs (l ∷ ls)) (branch_closes C (pick ts d n) vs (l ∷ ls) (here, out))

      jumps_closes : (j : Jump) (at : ℕ) (rest : Nodes) → Closed C rest → F (jumps M j at rest f l ls fs w co)
      jumps_closes Unreachable at rest r = stays
      jumps_closes (Br n) at rest r = moved_closes (branch n l.operands (l ∷ ls)) (branch_closes C n l.operands (l ∷ ls) (here, out))
      jumps_closes (BrIf n) at rest r = branch_if_closes n l.operands rest r
      jumps_closes (BrTable ts d) at rest r = branch_table_closes ts d l.operands
      jumps_closes Return at rest r = moved_closes (out_some (top f.result l.operands)) (out_closes C (top f.result l.operands))
      jumps_closes (Call g) at rest r = calls_closes (function_at M.program g) g l.operands at rest refl r
      jumps_closes (CallIndirect t) at rest r = calls_indirect_closes t l.operands at rest r

      affects_closes : (e : Effect) (below : List Value) (rest : Nodes) → Closed C rest → F (affects M e below rest f l ls fs w co)
      affects_closes (gives w' locals vs) below rest r = (((here.0, r, here.2), out), h)
      affects_closes (fails kind) below rest r = stays
      affects_closes unfit below rest r = tt

      does_closes : (i : Basic) (x : Cut) (rest : Nodes) → Closed C rest → F (does M i x rest f l ls fs w co)
      does_closes i short rest r = tt
      does_closes i (parts vs below) rest r = affects_closes (effect i w f.locals vs) below rest r

      arm_closes : (t : Option ValType) (arm : Nodes) (end : ℕ) (vs : List Value) (rest : Nodes) → C end → Closed C arm → Closed C rest → F (opens_arm M t arm end vs rest f l ls fs w co)
      arm_closes t arm end vs rest e a r = (((e, a, tt), ((here.0, r, here.2), out)), h)

      chooses_closes : (vs : List Value) (t : Option ValType) (a : Nodes) (else_at : Option ℕ) (b : Nodes) (end : ℕ) (rest : Nodes) → C (unwrap_or else_at end) → C end → Closed C a → Closed C b → Closed C rest → F (chooses M vs t a else_at b end rest f l ls fs w co)
      chooses_closes [] t a else_at b end rest x y p q r = tt
      chooses_closes (values.I64 c ∷ vs) t a else_at b end rest x y p q r = tt
      chooses_closes (values.I32 zero ∷ vs) t a else_at b end rest x y p q r = arm_closes t b end vs rest y q r
      chooses_closes (values.I32 (suc c) ∷ vs) t a else_at b end rest x y p q r = arm_closes t a (unwrap_or else_at end) vs rest x p r

      runs_closes : (nodes : Nodes) → Closed C nodes → F (runs M nodes f l ls fs w co)
      runs_closes stop r = moved_closes (leave l.kind l.operands ls) (leave_closes C l.kind l.operands ls out)
      runs_closes (basic at i rest) r = does_closes i (cut (takes i) l.operands) rest r
      runs_closes (jump at j rest) r = jumps_closes j at rest r
      runs_closes (block at t body end rest) r = (((r.0, r.1, tt), ((here.0, r.2, here.2), out)), h)
      runs_closes (loop at t body end rest) r = (((r.0, r.1, (r.0, r.1)), ((here.0, r.2, here.2), out)), h)
      runs_closes (choose at t a else_at b end rest) r = chooses_closes l.operands t a else_at b end rest r.0 r.1 r.2 r.3 r.4

    in_frame_closes : (ls : List Label) → AllByRecursion (LabelCloses C) ls → F (in_frame M ls f fs w co)
    in_frame_closes [] x = tt
    in_frame_closes (l ∷ ls) x = runs_closes l ls x.0 x.1 l.nodes x.0.1

  steps_closes : (fs : List Frame) (w : World) (co : List CollectorCall) → All fs → F (steps M fs w co)
  steps_closes [] w co h = tt
  steps_closes (f ∷ fs) w co h = in_frame_closes f fs w co h.1 f.labels h.0

  -- a step keeps it
  pub step_closes : (c : Config) → All c.frames → F (step M c)
  step_closes c h = steps_closes c.frames c.world c.collected h

-- ---- where a body closes

all_close : (C : ℕ → Type 0) (ts : List ℕ) (ops : List Op) → ((n : ℕ) (o : Op) → slice_get ops n ≡ Some o → is_node o.code ≡ false → C o.at) → AllClose C (code_of ts ops)
all_close C ts [] h = tt
all_close C ts (o ∷ ops) h = (by_code o.code refl, all_close C ts ops (λ n p e q. h (suc n) p e q))
  where
    by_code : (i : Instr) → o.code ≡ i → ClosesIf C o.at (item_of ts i)
    by_code (instr.Basic b) e = tt
    by_code (instr.Jump j) e = tt
    by_code (instr.Block t) e = tt
    by_code (instr.Loop t) e = tt
    by_code (instr.If t) e = tt
    by_code instr.Else e = h zero o refl (ap is_node e)
    by_code instr.End e = h zero o refl (ap is_node e)

-- a body closes at the ends of its tree
pub body_closes : (C : ℕ → Type 0) (b : Body) (tree : Tree) → Writes b.targets b.ops tree → ((n : ℕ) (o : Op) → slice_get b.ops n ≡ Some o → is_node o.code ≡ false → C o.at) → C tree.end × Closed C tree.nodes
body_closes C b tree w h =
    let all : AllClose C (write tree.nodes (placed tree.end End ∷ [])) = subst (AllClose C) w.out (all_close C b.targets b.ops h) in
    let x = closed_of C tree.nodes (placed tree.end End ∷ []) all in
    (x.1.0, x.0)
