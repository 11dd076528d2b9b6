-- No more frames stand than the depth admits.
use Rattle.std.proofs.Common.{◌≡◌, ℕ, zero, suc, ◌<◌, ◌≤◌, Bool, true, false, nat_lt, List, [], ◌∷◌, reverse, length, slice_get, Option, Some, None, refl, ltb-true, arith}
use Rattle.std.specs.List.{AllByRecursion}
use Rattle.wasm_syntax.specs.declared.value.ValType.{ValType}
use Rattle.wasm_syntax.specs.declared.value.Value.{Value}
use Rattle.wasm_syntax.specs.declared.value.Value.TheVariants as values
use Rattle.wasm_syntax.specs.declared.instruction.Basic.{Basic}
use Rattle.wasm_syntax.specs.declared.parts.FuncType.{FuncType}
use Rattle.wasm_syntax.specs.declared.host.HostCall.{HostCall}
use Rattle.wasm_syntax.specs.declared.host.Reply.{Reply}
use Rattle.wasm_syntax.specs.declared.host.CollectorCall.{CollectorCall}
use Rattle.wasm_syntax.specs.Numbers.{types}
use Rattle.wasm_syntax.specs.Tree.{Jump, Unreachable, Br, BrIf, BrTable, Return, Call, CallIndirect, Nodes, stop, basic, jump, block, loop, choose}
use Rattle.wasm_syntax.specs.Module.{Program, Function, imported, defined, function_at, same_types}
use Rattle.wasm_syntax.specs.Host.{World, Answer, replied, told, silent, misfit, answer}
use Rattle.wasm_syntax.specs.Effect.{Effect, gives, fails, unfit, effect, takes}
use Rattle.wasm_syntax.specs.Machine.{Label, Frame, Config, Engine, Stepped, Cut, short, parts, cut, top, Went, inside, outside, nowhere, arrive, out_some, leave, branch, carry, same_carry, pick, function_type, entered, host_call, goes_to, deliver, moved, host, enters, applied, applied_if, calls_on, calls, calls_if, fits_entry, calls_entry, calls_typed, calls_indirect, branch_if, moved_if, branch_table, jumps, affects, does, chooses, runs, in_frame, steps, step}
use Rattle.wasm_syntax.specs.Run.{engine, run, cause_of, Invocation}
use Rattle.match_laws.proofs.RunStates.{OnFrames, LastHas, unless_has}

abbrev pub Few : ℕ → List Frame → Type 0
Few most fs = length fs ≤ most

module _ (M : Engine) (most : ℕ) (deep : M.depth ≤ most) where
  abbrev F : Stepped → Type 0
  F s = OnFrames (Few most) s

  -- ---- moves and calls

  goes_few : (x : Went) (f : Frame) (fs : List Frame) (w : World) (co : List CollectorCall) → suc (length fs) ≤ most → F (goes_to M x f fs w co)
  goes_few (inside ls) f fs w co h = h
  goes_few (outside vs) f fs w co h = tt
  goes_few nowhere f fs w co h = tt

  deliver_few : (vs : List Value) (fs : List Frame) (w : World) (co : List CollectorCall) → length fs ≤ most → F (deliver M vs fs w co)
  deliver_few vs [] w co h = tt
  deliver_few vs (f ∷ fs) w co h = goes_few (arrive vs f.labels) f fs w co h

  module _ (f : Frame) (fs : List Frame) (w : World) (co : List CollectorCall) (h : suc (length fs) ≤ most) where
    moved_few : (x : Went) → F (moved M x f fs w co)
    moved_few (inside ls) = h
    moved_few (outside vs) = deliver_few vs fs w co (omega (arith, h))
    moved_few nowhere = tt

    moved_if_few : (q : Bool) (x : Went) → F (moved_if M q x f fs w co)
    moved_if_few false x = tt
    moved_if_few true x = moved_few x

    module _ (l : Label) (ls : List Label) where
      host_few : (A : Answer) (call : HostCall) (below : List Value) (rest : Nodes) → F (host M A call below rest f l ls fs w co)
      host_few (replied w' v) call below rest = h
      host_few (told k) call below rest = h
      host_few silent call below rest = h
      host_few (misfit reply) call below rest = h

      enters_few : (q : Bool) → nat_lt (suc (length fs)) M.depth ≡ q → (new : Frame) (below : List Value) (at : ℕ) (rest : Nodes) → F (enters M q new below at rest f l ls fs w co)
      enters_few false e new below at rest = h
      enters_few true e new below at rest = let lt : suc (length fs) < M.depth = ltb-true (suc (length fs)) M.depth e in omega (arith, lt, deep)

      applied_few : (fn : Function) (g : ℕ) (args below : List Value) (at : ℕ) (rest : Nodes) → F (applied M fn g args below at rest f l ls fs w co)
      applied_few (imported import type) g args below at rest = host_few (answer M.collects M.program.module_ (host_call g import type args) w) (host_call g import type args) below rest
      applied_few (defined body tree type) g args below at rest = enters_few (nat_lt (suc (length fs)) M.depth) refl (entered g body tree type args) below at rest

      applied_if_few : (q : Bool) (fn : Function) (g : ℕ) (args below : List Value) (at : ℕ) (rest : Nodes) → F (applied_if M q fn g args below at rest f l ls fs w co)
      applied_if_few false fn g args below at rest = tt
      applied_if_few true fn g args below at rest = applied_few fn g args below at rest

      calls_on_few : (fn : Function) (g : ℕ) (x : Cut) (at : ℕ) (rest : Nodes) → F (calls_on M fn g x at rest f l ls fs w co)
      calls_on_few fn g short at rest = tt
      calls_on_few fn g (parts vs below) at rest = applied_if_few (same_types (types (reverse vs)) (function_type fn).params) fn g (reverse vs) below at rest

      calls_few : (o : Option Function) (g : ℕ) (vs : List Value) (at : ℕ) (rest : Nodes) → F (calls M o g vs at rest f l ls fs w co)
      calls_few None g vs at rest = tt
      calls_few (Some fn) g vs at rest = calls_on_few fn g (cut (length (function_type fn).params) vs) at rest

      calls_if_few : (q : Option Bool) (g : ℕ) (vs : List Value) (at : ℕ) (rest : Nodes) → F (calls_if M q g vs at rest f l ls fs w co)
      calls_if_few None g vs at rest = tt
      calls_if_few (Some false) g vs at rest = h
      calls_if_few (Some true) g vs at rest = calls_few (function_at M.program g) g vs at rest

      calls_entry_few : (q : Option (Option ℕ)) (type : FuncType) (vs : List Value) (at : ℕ) (rest : Nodes) → F (calls_entry M q type vs at rest f l ls fs w co)
      calls_entry_few None type vs at rest = h
      calls_entry_few (Some None) type vs at rest = h
      calls_entry_few (Some (Some g)) type vs at rest = calls_if_few (fits_entry M type g) g vs at rest

      calls_typed_few : (o : Option FuncType) (q : Option (Option ℕ)) (vs : List Value) (at : ℕ) (rest : Nodes) → F (calls_typed M o q vs at rest f l ls fs w co)
      calls_typed_few None q vs at rest = tt
      calls_typed_few (Some type) q vs at rest = calls_entry_few q type vs at rest

      calls_indirect_few : (t : ℕ) (vs : List Value) (at : ℕ) (rest : Nodes) → F (calls_indirect M t vs at rest f l ls fs w co)
      calls_indirect_few t [] at rest = tt
      calls_indirect_few t (values.I64 n ∷ vs) at rest = tt
      calls_indirect_few t (values.I32 n ∷ vs) at rest = calls_typed_few (slice_get M.program.module_.types t) (slice_get w.table n) vs at rest

      -- ---- the other instructions

      branch_if_few : (n : ℕ) (vs : List Value) (rest : Nodes) → F (branch_if M n vs rest f l ls fs w co)
      branch_if_few n [] rest = tt
      branch_if_few n (values.I64 c ∷ vs) rest = tt
      branch_if_few n (values.I32 zero ∷ vs) rest = h
      branch_if_few n (values.I32 (suc c) ∷ vs) rest = moved_few (branch n vs (l ∷ ls))

      branch_table_few : (ts : List ℕ) (d : ℕ) (vs : List Value) → F (branch_table M ts d vs f l ls fs w co)
      branch_table_few ts d [] = tt
      branch_table_few ts d (values.I64 n ∷ vs) = tt
      branch_table_few ts d (values.I32 n ∷ vs) = moved_if_few (same_carry (carry (pick ts d n) (l ∷ ls)) (carry d (l ∷ ls))) (branch (pick ts d n) vs (l ∷ ls))

      jumps_few : (j : Jump) (at : ℕ) (rest : Nodes) → F (jumps M j at rest f l ls fs w co)
      jumps_few Unreachable at rest = h
      jumps_few (Br n) at rest = moved_few (branch n l.operands (l ∷ ls))
      jumps_few (BrIf n) at rest = branch_if_few n l.operands rest
      jumps_few (BrTable ts d) at rest = branch_table_few ts d l.operands
      jumps_few Return at rest = moved_few (out_some (top f.result l.operands))
      jumps_few (Call g) at rest = calls_few (function_at M.program g) g l.operands at rest
      jumps_few (CallIndirect t) at rest = calls_indirect_few t l.operands at rest

      affects_few : (e : Effect) (below : List Value) (rest : Nodes) → F (affects M e below rest f l ls fs w co)
      affects_few (gives w' locals vs) below rest = h
      affects_few (fails kind) below rest = h
      affects_few unfit below rest = tt

      does_few : (i : Basic) (x : Cut) (rest : Nodes) → F (does M i x rest f l ls fs w co)
      does_few i short rest = tt
      does_few i (parts vs below) rest = affects_few (effect i w f.locals vs) below rest

      chooses_few : (vs : List Value) (t : Option ValType) (a : Nodes) (else_at : Option ℕ) (b : Nodes) (end : ℕ) (rest : Nodes) → F (chooses M vs t a else_at b end rest f l ls fs w co)
      chooses_few [] t a else_at b end rest = tt
      chooses_few (values.I64 c ∷ vs) t a else_at b end rest = tt
      chooses_few (values.I32 zero ∷ vs) t a else_at b end rest = h
      chooses_few (values.I32 (suc c) ∷ vs) t a else_at b end rest = h

      runs_few : (nodes : Nodes) → F (runs M nodes f l ls fs w co)
      runs_few stop = moved_few (leave l.kind l.operands ls)
      runs_few (basic at i rest) = does_few i (cut (takes i) l.operands) rest
      runs_few (jump at j rest) = jumps_few j at rest
      runs_few (block at t body end rest) = h
      runs_few (loop at t body end rest) = h
      runs_few (choose at t a else_at b end rest) = chooses_few l.operands t a else_at b end rest

    in_frame_few : (ls : List Label) → F (in_frame M ls f fs w co)
    in_frame_few [] = tt
    in_frame_few (l ∷ ls) = runs_few l ls l.nodes

  steps_few : (fs : List Frame) (w : World) (co : List CollectorCall) → length fs ≤ most → F (steps M fs w co)
  steps_few [] w co h = tt
  steps_few (f ∷ fs) w co h = in_frame_few f fs w co h f.labels

  step_few : (c : Config) → Few most c.frames → F (step M c)
  step_few c h = steps_few c.frames c.world c.collected h

-- the last configuration of each invocation has no more frames
pub run_few : (p : Program) (collecting : Bool) (is : List Invocation) (replies : List Reply) (depth n most : ℕ) → depth ≤ most → 1 ≤ most → AllByRecursion (LastHas (Few most)) (run p collecting is replies depth n)
run_few p collecting is replies depth n most deep one =
    let M : Engine = engine p collecting depth in
    unless_has M (Few most) (omega arith) (λ f b tree type args e. one) (step_few M most deep) (cause_of p.module_ is) is replies n
