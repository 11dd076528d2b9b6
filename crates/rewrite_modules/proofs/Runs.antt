-- Runs of one function.
use Rattle.std.proofs.Common.{◌≡◌, ℕ, zero, suc, ◌+◌, ◌*◌, ◌≤◌, List, [], ◌∷◌, ◌++◌, length, reverse, Option, Some, None, Bool, true, false, nat_lt, refl, sym, ap, subst, arith, ◌⊎◌, inl, inr, slice_get, ltb-true}
use Rattle.wasm_syntax.specs.declared.value.ValType.{ValType}
use Rattle.wasm_syntax.specs.declared.value.ValType.TheVariants.{I32, I64}
use Rattle.wasm_syntax.specs.declared.value.Value.{Value}
use Rattle.wasm_syntax.specs.declared.value.Value.TheVariants as values
use Rattle.wasm_syntax.specs.declared.instruction.Basic.{Basic}
use Rattle.wasm_syntax.specs.declared.parts.FuncType.{FuncType}
use Rattle.wasm_syntax.specs.Numbers.{types, value}
use Rattle.wasm_syntax.specs.Tree.{Jump, Unreachable, Br, BrIf, BrTable, Return, Call, CallIndirect, Nodes, stop, basic, jump, block, loop, choose}
use Rattle.wasm_syntax.specs.Module.{Function, imported, defined, function_at, same_types}
use Rattle.wasm_syntax.specs.Host.{World, Answer, replied, told, silent, misfit, answer, served_by, after_writes, if_fits, if_written, fits_type}
use Rattle.wasm_syntax.specs.declared.host.HostCall.{HostCall}
use Rattle.wasm_syntax.specs.declared.host.Reply.{Reply}
use Rattle.wasm_syntax.specs.declared.host.CollectorCall.{CollectorCall}
use Rattle.wasm_syntax.specs.Effect.{Effect, gives, fails, unfit, effect, takes}
use Rattle.wasm_syntax.specs.Machine.{Label, Frame, Config, frame, config, Engine, Stepped, next, ends, traps, no_reply, bad_reply, stuck, Cut, short, parts, cut, top, exactly, Went, inside, outside, nowhere, arrive, out_some, leave, branch, carry, same_carry, pick, function_type, entered, host_call, goes_to, deliver, moved, host, enters, applied, applied_if, calls_on, calls, calls_if, fits_entry, calls_entry, calls_typed, calls_indirect, branch_if, moved_if, branch_table, jumps, affects, does, chooses, runs, in_frame, steps, step}
use Rattle.rewrite_bodies.specs.calls.Pieces.{call}
use Rattle.linear_memory.specs.Memory.{Memory}
use Rattle.wasm_syntax.specs.calls.Classes.{EffectClass, Pure, Dividing, Accessing, SetsLocal, SetsGlobal, effect_class, Does}
use Rattle.wasm_syntax.proofs.Classes.{acts_as_class}
use Rattle.rewrite_bodies.specs.calls.Steps.{Gets, To}
use Rattle.rewrite_bodies.proofs.Run.{still, seq, weaken}
use Rattle.rewrite_bodies.specs.calls.Agreement.{Wit, WorldFits, FitsConfig, Wrap, w_frame, zero_vs, last_of, flagged, image}
use Rattle.rewrite_bodies.specs.calls.Telling.{tell_frames}
use Rattle.rewrite_bodies.specs.calls.Standing.{After, Stands}
use Rattle.wasm_syntax.specs.Run.{Ended, run_on, run_steps}
use Rattle.rewrite_bodies.proofs.Step.{step_sim}

-- ---- what a step of the source keeps

module _ (M : Engine) where
  abbrev pub Keeps : ℕ → List CollectorCall → Stepped → Type 0
  Keeps n co (next c) = (length c.frames ≤ suc n) × (n ≤ M.depth → length c.frames ≤ M.depth) × (c.collected ≡ co)
  Keeps n co (ends w vs co') = co' ≡ co
  Keeps n co (traps k c) = (length c.frames ≤ n) × (c.collected ≡ co)
  Keeps n co (no_reply call c) = c.collected ≡ co
  Keeps n co (bad_reply call r c) = c.collected ≡ co
  Keeps n co stuck = Unit {0}

  keeps_goes : (x : Went) (F : Frame) (Fs : List Frame) (g : World) (co : List CollectorCall) → Keeps (suc (length Fs)) co (goes_to M x F Fs g co)
  keeps_goes (inside Ls) F Fs g co = (omega arith, λ h. h, refl)
  keeps_goes (outside vs) F Fs g co = tt
  keeps_goes nowhere F Fs g co = tt

  more : (d e : ℕ) (co : List CollectorCall) (r : Stepped) → d ≤ e → Keeps d co r → Keeps e co r
  more d e co (next c) le h = (omega (arith, h.0), λ k. h.1 (omega (arith, k)), h.2)
  more d e co (ends g vs co') le h = h
  more d e co (traps k c) le h = (omega (arith, h.0), h.1)
  more d e co (no_reply call c) le h = h
  more d e co (bad_reply call rp c) le h = h
  more d e co stuck le h = tt

  keeps_back : (vs : List Value) (Fs : List Frame) (g : World) (co : List CollectorCall) → Keeps (suc (length Fs)) co (deliver M vs Fs g co)
  keeps_back vs [] g co = refl
  keeps_back vs (F ∷ Fs) g co = more (suc (length Fs)) (suc (suc (length Fs))) co (goes_to M (arrive vs F.labels) F Fs g co) (omega arith) (keeps_goes (arrive vs F.labels) F Fs g co)

  keeps_moved : (x : Went) (F : Frame) (Fs : List Frame) (g : World) (co : List CollectorCall) → Keeps (suc (length Fs)) co (moved M x F Fs g co)
  keeps_moved (inside Ls) F Fs g co = (omega arith, λ h. h, refl)
  keeps_moved (outside vs) F Fs g co = keeps_back vs Fs g co
  keeps_moved nowhere F Fs g co = tt

  keeps_moved_if : (b : Bool) (x : Went) (F : Frame) (Fs : List Frame) (g : World) (co : List CollectorCall) → Keeps (suc (length Fs)) co (moved_if M b x F Fs g co)
  keeps_moved_if false x F Fs g co = tt
  keeps_moved_if true x F Fs g co = keeps_moved x F Fs g co

  abbrev NotTold : Answer → Type 0
  NotTold (told k) = ⊥
  NotTold A = Unit {0}

  not_told : (call : HostCall) (w : World) (rs : List Reply) → NotTold (served_by call w rs)
  not_told call w [] = tt
  not_told call w (reply ∷ left) = by_fit (fits_type call.result reply.value)
    where
      by_write : (o : Option (Option Memory)) → NotTold (if_written call reply left w o)
      by_write None = tt
      by_write (Some k) = tt

      by_fit : (q : Bool) → NotTold (if_fits call reply left w q)
      by_fit false = tt
      by_fit true = by_write (after_writes w.memory reply.writes)

  keeps_host : (A : Answer) → NotTold A → (call : HostCall) (below : List Value) (rest : Nodes) (F : Frame) (L : Label) (Ls : List Label) (Fs : List Frame) (g : World) (co : List CollectorCall) → Keeps (suc (length Fs)) co (host M A call below rest F L Ls Fs g co)
  keeps_host (replied w v) nt call below rest F L Ls Fs g co = (omega arith, λ h. h, refl)
  keeps_host (told k) nt call below rest F L Ls Fs g co = absurd nt
  keeps_host silent nt call below rest F L Ls Fs g co = refl
  keeps_host (misfit rp) nt call below rest F L Ls Fs g co = refl

  keeps_enters : (b : Bool) (new : Frame) (below : List Value) (o : ℕ) (rest : Nodes) (F : Frame) (L : Label) (Ls : List Label) (Fs : List Frame) (g : World) (co : List CollectorCall) → nat_lt (suc (length Fs)) M.depth ≡ b → Keeps (suc (length Fs)) co (enters M b new below o rest F L Ls Fs g co)
  keeps_enters false new below o rest F L Ls Fs g co e = (omega arith, refl)
  keeps_enters true new below o rest F L Ls Fs g co e = (omega arith, λ h. omega (arith, ltb-true (suc (length Fs)) M.depth e), refl)

  keeps_choose : (ops : List Value) (t : Option ValType) (a : Nodes) (ea : Option ℕ) (b : Nodes) (en : ℕ) (rest : Nodes) (F : Frame) (L : Label) (Ls : List Label) (Fs : List Frame) (g : World) (co : List CollectorCall) → Keeps (suc (length Fs)) co (chooses M ops t a ea b en rest F L Ls Fs g co)
  keeps_choose [] t a ea b en rest F L Ls Fs g co = tt
  keeps_choose (values.I64 v ∷ ops) t a ea b en rest F L Ls Fs g co = tt
  keeps_choose (values.I32 zero ∷ ops) t a ea b en rest F L Ls Fs g co = (omega arith, λ h. h, refl)
  keeps_choose (values.I32 (suc v) ∷ ops) t a ea b en rest F L Ls Fs g co = (omega arith, λ h. h, refl)

  keeps_affects : (x : Effect) (below : List Value) (rest : Nodes) (F : Frame) (L : Label) (Ls : List Label) (Fs : List Frame) (g : World) (co : List CollectorCall) → Keeps (suc (length Fs)) co (affects M x below rest F L Ls Fs g co)
  keeps_affects (gives g' l vs) below rest F L Ls Fs g co = (omega arith, λ h. h, refl)
  keeps_affects (fails k) below rest F L Ls Fs g co = (omega arith, refl)
  keeps_affects unfit below rest F L Ls Fs g co = tt

  keeps_does : (i : Basic) (u : Cut) (rest : Nodes) (F : Frame) (L : Label) (Ls : List Label) (Fs : List Frame) (g : World) (co : List CollectorCall) → Keeps (suc (length Fs)) co (does M i u rest F L Ls Fs g co)
  keeps_does i short rest F L Ls Fs g co = tt
  keeps_does i (parts vs below) rest F L Ls Fs g co = keeps_affects (effect i g F.locals vs) below rest F L Ls Fs g co

  keeps_br_if : (n : ℕ) (ops : List Value) (rest : Nodes) (F : Frame) (L : Label) (Ls : List Label) (Fs : List Frame) (g : World) (co : List CollectorCall) → Keeps (suc (length Fs)) co (branch_if M n ops rest F L Ls Fs g co)
  keeps_br_if n [] rest F L Ls Fs g co = tt
  keeps_br_if n (values.I64 v ∷ ops) rest F L Ls Fs g co = tt
  keeps_br_if n (values.I32 zero ∷ ops) rest F L Ls Fs g co = (omega arith, λ h. h, refl)
  keeps_br_if n (values.I32 (suc v) ∷ ops) rest F L Ls Fs g co = keeps_moved (branch n ops (L ∷ Ls)) F Fs g co

  keeps_table : (ts : List ℕ) (d : ℕ) (ops : List Value) (F : Frame) (L : Label) (Ls : List Label) (Fs : List Frame) (g : World) (co : List CollectorCall) → Keeps (suc (length Fs)) co (branch_table M ts d ops F L Ls Fs g co)
  keeps_table ts d [] F L Ls Fs g co = tt
  keeps_table ts d (values.I64 v ∷ ops) F L Ls Fs g co = tt
  keeps_table ts d (values.I32 v ∷ ops) F L Ls Fs g co = keeps_moved_if (same_carry (carry (pick ts d v) (L ∷ Ls)) (carry d (L ∷ Ls))) (branch (pick ts d v) ops (L ∷ Ls)) F Fs g co

  module _ (quiet : M.collects ≡ false) where
    keeps_applied : (fn : Function) (h : ℕ) (args below : List Value) (o : ℕ) (rest : Nodes) (F : Frame) (L : Label) (Ls : List Label) (Fs : List Frame) (g : World) (co : List CollectorCall) → Keeps (suc (length Fs)) co (applied M fn h args below o rest F L Ls Fs g co)
    keeps_applied (imported i type) h args below o rest F L Ls Fs g co =
        let hc = host_call h i type args in
        let quietly : answer M.collects M.program.module_ hc g ≡ served_by hc g g.replies = ap (λ c. answer c M.program.module_ hc g) quiet in
        subst (λ A. Keeps (suc (length Fs)) co (host M A hc below rest F L Ls Fs g co)) (sym quietly) (keeps_host (served_by hc g g.replies) (not_told hc g g.replies) hc below rest F L Ls Fs g co)
    keeps_applied (defined b tree type) h args below o rest F L Ls Fs g co = keeps_enters (nat_lt (suc (length Fs)) M.depth) (entered h b tree type args) below o rest F L Ls Fs g co refl

    keeps_applied_if : (q : Bool) (fn : Function) (h : ℕ) (args below : List Value) (o : ℕ) (rest : Nodes) (F : Frame) (L : Label) (Ls : List Label) (Fs : List Frame) (g : World) (co : List CollectorCall) → Keeps (suc (length Fs)) co (applied_if M q fn h args below o rest F L Ls Fs g co)
    keeps_applied_if false fn h args below o rest F L Ls Fs g co = tt
    keeps_applied_if true fn h args below o rest F L Ls Fs g co = keeps_applied fn h args below o rest F L Ls Fs g co

    keeps_calls_on : (fn : Function) (h : ℕ) (u : Cut) (o : ℕ) (rest : Nodes) (F : Frame) (L : Label) (Ls : List Label) (Fs : List Frame) (g : World) (co : List CollectorCall) → Keeps (suc (length Fs)) co (calls_on M fn h u o rest F L Ls Fs g co)
    keeps_calls_on fn h short o rest F L Ls Fs g co = tt
    keeps_calls_on fn h (parts vs below) o rest F L Ls Fs g co = keeps_applied_if (same_types (types (reverse vs)) (function_type fn).params) fn h (reverse vs) below o rest F L Ls Fs g co

    keeps_calls : (q : Option Function) (h : ℕ) (ops : List Value) (o : ℕ) (rest : Nodes) (F : Frame) (L : Label) (Ls : List Label) (Fs : List Frame) (g : World) (co : List CollectorCall) → Keeps (suc (length Fs)) co (calls M q h ops o rest F L Ls Fs g co)
    keeps_calls None h ops o rest F L Ls Fs g co = tt
    keeps_calls (Some fn) h ops o rest F L Ls Fs g co = keeps_calls_on fn h (cut (length (function_type fn).params) ops) o rest F L Ls Fs g co

    keeps_calls_if : (q : Option Bool) (h : ℕ) (ops : List Value) (o : ℕ) (rest : Nodes) (F : Frame) (L : Label) (Ls : List Label) (Fs : List Frame) (g : World) (co : List CollectorCall) → Keeps (suc (length Fs)) co (calls_if M q h ops o rest F L Ls Fs g co)
    keeps_calls_if None h ops o rest F L Ls Fs g co = tt
    keeps_calls_if (Some false) h ops o rest F L Ls Fs g co = (omega arith, refl)
    keeps_calls_if (Some true) h ops o rest F L Ls Fs g co = keeps_calls (function_at M.program h) h ops o rest F L Ls Fs g co

    keeps_entry : (q : Option (Option ℕ)) (type : FuncType) (ops : List Value) (o : ℕ) (rest : Nodes) (F : Frame) (L : Label) (Ls : List Label) (Fs : List Frame) (g : World) (co : List CollectorCall) → Keeps (suc (length Fs)) co (calls_entry M q type ops o rest F L Ls Fs g co)
    keeps_entry None type ops o rest F L Ls Fs g co = (omega arith, refl)
    keeps_entry (Some None) type ops o rest F L Ls Fs g co = (omega arith, refl)
    keeps_entry (Some (Some h)) type ops o rest F L Ls Fs g co = keeps_calls_if (fits_entry M type h) h ops o rest F L Ls Fs g co

    keeps_typed : (ty : Option FuncType) (q : Option (Option ℕ)) (ops : List Value) (o : ℕ) (rest : Nodes) (F : Frame) (L : Label) (Ls : List Label) (Fs : List Frame) (g : World) (co : List CollectorCall) → Keeps (suc (length Fs)) co (calls_typed M ty q ops o rest F L Ls Fs g co)
    keeps_typed None q ops o rest F L Ls Fs g co = tt
    keeps_typed (Some type) q ops o rest F L Ls Fs g co = keeps_entry q type ops o rest F L Ls Fs g co

    keeps_indirect : (t : ℕ) (ops : List Value) (o : ℕ) (rest : Nodes) (F : Frame) (L : Label) (Ls : List Label) (Fs : List Frame) (g : World) (co : List CollectorCall) → Keeps (suc (length Fs)) co (calls_indirect M t ops o rest F L Ls Fs g co)
    keeps_indirect t [] o rest F L Ls Fs g co = tt
    keeps_indirect t (values.I64 n ∷ ops) o rest F L Ls Fs g co = tt
    keeps_indirect t (values.I32 n ∷ ops) o rest F L Ls Fs g co = keeps_typed (slice_get M.program.module_.types t) (slice_get g.table n) ops o rest F L Ls Fs g co

    keeps_jump : (j : Jump) (o : ℕ) (rest : Nodes) (F : Frame) (L : Label) (Ls : List Label) (Fs : List Frame) (g : World) (co : List CollectorCall) → Keeps (suc (length Fs)) co (jumps M j o rest F L Ls Fs g co)
    keeps_jump Unreachable o rest F L Ls Fs g co = (omega arith, refl)
    keeps_jump (Br n) o rest F L Ls Fs g co = keeps_moved (branch n L.operands (L ∷ Ls)) F Fs g co
    keeps_jump (BrIf n) o rest F L Ls Fs g co = keeps_br_if n L.operands rest F L Ls Fs g co
    keeps_jump (BrTable ts d) o rest F L Ls Fs g co = keeps_table ts d L.operands F L Ls Fs g co
    keeps_jump Return o rest F L Ls Fs g co = keeps_moved (out_some (top F.result L.operands)) F Fs g co
    keeps_jump (Call h) o rest F L Ls Fs g co = keeps_calls (function_at M.program h) h L.operands o rest F L Ls Fs g co
    keeps_jump (CallIndirect t) o rest F L Ls Fs g co = keeps_indirect t L.operands o rest F L Ls Fs g co

    keeps_node : (N : Nodes) (F : Frame) (L : Label) (Ls : List Label) (Fs : List Frame) (g : World) (co : List CollectorCall) → Keeps (suc (length Fs)) co (runs M N F L Ls Fs g co)
    keeps_node stop F L Ls Fs g co = keeps_moved (leave L.kind L.operands Ls) F Fs g co
    keeps_node (basic o i rest) F L Ls Fs g co = keeps_does i (cut (takes i) L.operands) rest F L Ls Fs g co
    keeps_node (jump o j rest) F L Ls Fs g co = keeps_jump j o rest F L Ls Fs g co
    keeps_node (block o a inner en rest) F L Ls Fs g co = (omega arith, λ h. h, refl)
    keeps_node (loop o a inner en rest) F L Ls Fs g co = (omega arith, λ h. h, refl)
    keeps_node (choose o a x ea y en rest) F L Ls Fs g co = keeps_choose L.operands a x ea y en rest F L Ls Fs g co

    keeps_labels : (Ls : List Label) (F : Frame) (Fs : List Frame) (g : World) (co : List CollectorCall) → Keeps (suc (length Fs)) co (in_frame M Ls F Fs g co)
    keeps_labels [] F Fs g co = tt
    keeps_labels (L ∷ Ls) F Fs g co = keeps_node L.nodes F L Ls Fs g co

    keeps_frames : (Fs : List Frame) (g : World) (co : List CollectorCall) → Keeps (length Fs) co (steps M Fs g co)
    keeps_frames [] g co = tt
    keeps_frames (F ∷ Fs) g co = keeps_labels F.labels F Fs g co

    pub keeps : (c : Config) → Keeps (length c.frames) c.collected (step M c)
    keeps c = keeps_frames c.frames c.world c.collected

-- ---- a trap changes nothing, and has a kind from 1 to 8

abbrev Kinds : Effect → Type 0
Kinds (gives g l vs) = Unit {0}
Kinds (fails k) = (1 ≤ k) × (k ≤ 8)
Kinds unfit = Unit {0}

by_class : (k : EffectClass) (w : World) (ls : List Value) (e : Effect) → Does k w ls e → Kinds e
by_class k w ls (gives w' ls' vs) d = tt
by_class k w ls unfit d = tt
by_class Pure w ls (fails kind) d = absurd d
by_class Dividing w ls (fails kind) (inl e) = (omega (arith, e), omega (arith, e))
by_class Dividing w ls (fails kind) (inr e) = (omega (arith, e), omega (arith, e))
by_class Accessing w ls (fails kind) e = (omega (arith, e), omega (arith, e))
by_class (SetsLocal x) w ls (fails kind) d = absurd d
by_class (SetsGlobal x) w ls (fails kind) d = absurd d

kinds : (i : Basic) (w : World) (ls vs : List Value) → Kinds (effect i w ls vs)
kinds i w ls vs = by_class (effect_class i) w ls (effect i w ls vs) (acts_as_class w ls i vs)

module _ (M : Engine) where
  abbrev pub Same : Config → Stepped → Type 0
  Same c (traps k c') = (c' ≡ c) × (1 ≤ k) × (k ≤ 8)
  Same c r = Unit {0}

  same_next : (c : Config) (x : Went) (F : Frame) (Fs : List Frame) (g : World) (co : List CollectorCall) → Same c (goes_to M x F Fs g co)
  same_next c (inside Ls) F Fs g co = tt
  same_next c (outside vs) F Fs g co = tt
  same_next c nowhere F Fs g co = tt

  same_back : (c : Config) (vs : List Value) (Fs : List Frame) (g : World) (co : List CollectorCall) → Same c (deliver M vs Fs g co)
  same_back c vs [] g co = tt
  same_back c vs (F ∷ Fs) g co = same_next c (arrive vs F.labels) F Fs g co

  same_moved : (c : Config) (x : Went) (F : Frame) (Fs : List Frame) (g : World) (co : List CollectorCall) → Same c (moved M x F Fs g co)
  same_moved c (inside Ls) F Fs g co = tt
  same_moved c (outside vs) F Fs g co = same_back c vs Fs g co
  same_moved c nowhere F Fs g co = tt

  same_moved_if : (c : Config) (b : Bool) (x : Went) (F : Frame) (Fs : List Frame) (g : World) (co : List CollectorCall) → Same c (moved_if M b x F Fs g co)
  same_moved_if c false x F Fs g co = tt
  same_moved_if c true x F Fs g co = same_moved c x F Fs g co

  module _ (F : Frame) (L : Label) (Ls : List Label) (Fs : List Frame) (g : World) (co : List CollectorCall) where
    abbrev here : Config
    here = config (frame F.function F.result F.call F.locals (L ∷ Ls) ∷ Fs) g co

    same_host : (A : Answer) (call : HostCall) (below : List Value) (rest : Nodes) → Same here (host M A call below rest F L Ls Fs g co)
    same_host (replied w v) call below rest = tt
    same_host (told k) call below rest = tt
    same_host silent call below rest = tt
    same_host (misfit rp) call below rest = tt

    same_enters : (b : Bool) (new : Frame) (below : List Value) (o : ℕ) (rest : Nodes) → Same here (enters M b new below o rest F L Ls Fs g co)
    same_enters false new below o rest = (refl, omega arith, omega arith)
    same_enters true new below o rest = tt

    same_applied : (fn : Function) (h : ℕ) (args below : List Value) (o : ℕ) (rest : Nodes) → Same here (applied M fn h args below o rest F L Ls Fs g co)
    same_applied (imported i type) h args below o rest = same_host (answer M.collects M.program.module_ (host_call h i type args) g) (host_call h i type args) below rest
    same_applied (defined b tree type) h args below o rest = same_enters (nat_lt (suc (length Fs)) M.depth) (entered h b tree type args) below o rest

    same_applied_if : (q : Bool) (fn : Function) (h : ℕ) (args below : List Value) (o : ℕ) (rest : Nodes) → Same here (applied_if M q fn h args below o rest F L Ls Fs g co)
    same_applied_if false fn h args below o rest = tt
    same_applied_if true fn h args below o rest = same_applied fn h args below o rest

    same_calls_on : (fn : Function) (h : ℕ) (u : Cut) (o : ℕ) (rest : Nodes) → Same here (calls_on M fn h u o rest F L Ls Fs g co)
    same_calls_on fn h short o rest = tt
    same_calls_on fn h (parts vs below) o rest = same_applied_if (same_types (types (reverse vs)) (function_type fn).params) fn h (reverse vs) below o rest

    same_calls : (q : Option Function) (h : ℕ) (ops : List Value) (o : ℕ) (rest : Nodes) → Same here (calls M q h ops o rest F L Ls Fs g co)
    same_calls None h ops o rest = tt
    same_calls (Some fn) h ops o rest = same_calls_on fn h (cut (length (function_type fn).params) ops) o rest

    same_calls_if : (q : Option Bool) (h : ℕ) (ops : List Value) (o : ℕ) (rest : Nodes) → Same here (calls_if M q h ops o rest F L Ls Fs g co)
    same_calls_if None h ops o rest = tt
    same_calls_if (Some false) h ops o rest = (refl, omega arith, omega arith)
    same_calls_if (Some true) h ops o rest = same_calls (function_at M.program h) h ops o rest

    same_entry : (q : Option (Option ℕ)) (type : FuncType) (ops : List Value) (o : ℕ) (rest : Nodes) → Same here (calls_entry M q type ops o rest F L Ls Fs g co)
    same_entry None type ops o rest = (refl, omega arith, omega arith)
    same_entry (Some None) type ops o rest = (refl, omega arith, omega arith)
    same_entry (Some (Some h)) type ops o rest = same_calls_if (fits_entry M type h) h ops o rest

    same_typed : (ty : Option FuncType) (q : Option (Option ℕ)) (ops : List Value) (o : ℕ) (rest : Nodes) → Same here (calls_typed M ty q ops o rest F L Ls Fs g co)
    same_typed None q ops o rest = tt
    same_typed (Some type) q ops o rest = same_entry q type ops o rest

    same_indirect : (t : ℕ) (ops : List Value) (o : ℕ) (rest : Nodes) → Same here (calls_indirect M t ops o rest F L Ls Fs g co)
    same_indirect t [] o rest = tt
    same_indirect t (values.I64 n ∷ ops) o rest = tt
    same_indirect t (values.I32 n ∷ ops) o rest = same_typed (slice_get M.program.module_.types t) (slice_get g.table n) ops o rest

    same_br_if : (n : ℕ) (ops : List Value) (rest : Nodes) → Same here (branch_if M n ops rest F L Ls Fs g co)
    same_br_if n [] rest = tt
    same_br_if n (values.I64 v ∷ ops) rest = tt
    same_br_if n (values.I32 zero ∷ ops) rest = tt
    same_br_if n (values.I32 (suc v) ∷ ops) rest = same_moved here (branch n ops (L ∷ Ls)) F Fs g co

    same_table : (ts : List ℕ) (d : ℕ) (ops : List Value) → Same here (branch_table M ts d ops F L Ls Fs g co)
    same_table ts d [] = tt
    same_table ts d (values.I64 v ∷ ops) = tt
    same_table ts d (values.I32 v ∷ ops) = same_moved_if here (same_carry (carry (pick ts d v) (L ∷ Ls)) (carry d (L ∷ Ls))) (branch (pick ts d v) ops (L ∷ Ls)) F Fs g co

    same_jump : (j : Jump) (o : ℕ) (rest : Nodes) → Same here (jumps M j o rest F L Ls Fs g co)
    same_jump Unreachable o rest = (refl, omega arith, omega arith)
    same_jump (Br n) o rest = same_moved here (branch n L.operands (L ∷ Ls)) F Fs g co
    same_jump (BrIf n) o rest = same_br_if n L.operands rest
    same_jump (BrTable ts d) o rest = same_table ts d L.operands
    same_jump Return o rest = same_moved here (out_some (top F.result L.operands)) F Fs g co
    same_jump (Call h) o rest = same_calls (function_at M.program h) h L.operands o rest
    same_jump (CallIndirect t) o rest = same_indirect t L.operands o rest

    same_affects : (x : Effect) (below : List Value) (rest : Nodes) → Kinds x → Same here (affects M x below rest F L Ls Fs g co)
    same_affects (gives g' l vs) below rest k = tt
    same_affects (fails j) below rest k = (refl, k.0, k.1)
    same_affects unfit below rest k = tt

    same_does : (i : Basic) (u : Cut) (rest : Nodes) → Same here (does M i u rest F L Ls Fs g co)
    same_does i short rest = tt
    same_does i (parts vs below) rest = same_affects (effect i g F.locals vs) below rest (kinds i g F.locals vs)

    same_choose : (ops : List Value) (t : Option ValType) (a : Nodes) (ea : Option ℕ) (b : Nodes) (en : ℕ) (rest : Nodes) → Same here (chooses M ops t a ea b en rest F L Ls Fs g co)
    same_choose [] t a ea b en rest = tt
    same_choose (values.I64 v ∷ ops) t a ea b en rest = tt
    same_choose (values.I32 zero ∷ ops) t a ea b en rest = tt
    same_choose (values.I32 (suc v) ∷ ops) t a ea b en rest = tt

    same_node : (N : Nodes) → Same here (runs M N F L Ls Fs g co)
    same_node stop = same_moved here (leave L.kind L.operands Ls) F Fs g co
    same_node (basic o i rest) = same_does i (cut (takes i) L.operands) rest
    same_node (jump o j rest) = same_jump j o rest
    same_node (block o a inner en rest) = tt
    same_node (loop o a inner en rest) = tt
    same_node (choose o a x ea y en rest) = same_choose L.operands a x ea y en rest

  same_labels : (ix : ℕ) (r : Option ValType) (cl : ℕ) (l : List Value) (Ls : List Label) (Fs : List Frame) (g : World) (co : List CollectorCall) → Same (config (frame ix r cl l Ls ∷ Fs) g co) (in_frame M Ls (frame ix r cl l Ls) Fs g co)
  same_labels ix r cl l [] Fs g co = tt
  same_labels ix r cl l (L ∷ Ls) Fs g co = same_node (frame ix r cl l (L ∷ Ls)) L Ls Fs g co L.nodes

  same_frames : (Fs : List Frame) (g : World) (co : List CollectorCall) → Same (config Fs g co) (steps M Fs g co)
  same_frames [] g co = tt
  same_frames (F ∷ Fs) g co = same_labels F.function F.result F.call F.locals F.labels Fs g co

  pub same : (c : Config) → Same c (step M c)
  same c = same_frames c.frames c.world c.collected

-- ---- runs

module _ (M M' : Engine) (E : ℕ) (gl : List ValType) (W : Wrap) where
  -- what so many steps of the source come to, where it began with d frames and what is collected is co
  abbrev pub ReachS : Config → ℕ → ℕ → List CollectorCall → Stepped → Type 0
  ReachS t d m co (next c) = (ws : List Wit) × FitsConfig M E gl W.result c ws × (length c.frames ≤ M.depth) × (c.collected ≡ co) × To M' m (m * E) t (image M W c ws)
  ReachS t d m co (ends g vs co') = (exactly W.result vs ≡ Some vs) × WorldFits M gl g × (co' ≡ co) × To M' m (m * E) t (config (w_frame W (vs ++ []) ∷ []) (flagged M g (values.I32 0)) co')
  ReachS t d m co (traps k c) = (k ≡ 8) ⊎ ((ws : List Wit) × FitsConfig M E gl W.result c ws × (length c.frames ≤ M.depth) × (1 ≤ k) × (k ≤ 8)) × WorldFits M gl c.world × (c.collected ≡ co) × (length c.frames ≤ d + m) × To M' m ((m + length c.frames) * E) t (config (w_frame W (zero_vs (last_of c.frames) ++ []) ∷ []) (flagged M c.world (values.I32 1)) (tell_frames k c.frames c.collected))
  ReachS t d m co (no_reply call c) = WorldFits M gl c.world × (c.collected ≡ co) × (c' : Config) × (c'.world ≡ flagged M c.world (values.I32 0)) × (c'.collected ≡ c.collected) × Gets M' m (m * E) t (no_reply call c')
  ReachS t d m co (bad_reply call r c) = WorldFits M gl c.world × (c.collected ≡ co) × (c' : Config) × (c'.world ≡ flagged M c.world (values.I32 0)) × (c'.collected ≡ c.collected) × Gets M' m (m * E) t (bad_reply call r c')
  ReachS t d m co stuck = Unit {0}

  -- nothing is left where it goes on
  abbrev pub AllMade : Ended → Type 0
  AllMade e = elim e.what [ next c ↦ e.left ≡ 0 | ends g vs co ↦ Unit {0} | traps k c ↦ Unit {0} | no_reply call c ↦ Unit {0} | bad_reply call r c ↦ Unit {0} | stuck ↦ Unit {0} ]

  pub record Reach (t : Config) (d n : ℕ) (co : List CollectorCall) (e : Ended) : Type 0 where
    pub made : ℕ
    pub in_all : n ≡ made + e.left
    pub reach : ReachS t d made co e.what
    pub all_made : AllMade e

  further : (t t1 : Config) (p d d' lo : ℕ) (co : List CollectorCall) (r : Stepped) → p ≤ E → d' ≤ suc d → To M' 1 p t t1 → ReachS t1 d' lo co r → ReachS t d (suc lo) co r
  further t t1 p d d' lo co (next c) le dd a h = (h.0, h.1, h.2, h.3, weaken M' (seq M' a h.4) (omega arith) (omega (arith, le)))
  further t t1 p d d' lo co (ends g vs co') le dd a h = (h.0, h.1, h.2, weaken M' (seq M' a h.3) (omega arith) (omega (arith, le)))
  further t t1 p d d' lo co (traps k c) le dd a (inl e) = inl e
  further t t1 p d d' lo co (traps k c) le dd a (inr h) = inr (h.0, h.1, h.2, omega (arith, h.3, dd), weaken M' (seq M' a h.4) (omega arith) (omega (arith, le)))
  further t t1 p d d' lo co (no_reply call c) le dd a h = (h.0, h.1, h.2, h.3, h.4, weaken M' (seq M' a h.5) (omega arith) (omega (arith, le)))
  further t t1 p d d' lo co (bad_reply call rp c) le dd a h = (h.0, h.1, h.2, h.3, h.4, weaken M' (seq M' a h.5) (omega arith) (omega (arith, le)))
  further t t1 p d d' lo co stuck le dd a h = tt

  module _ (S : Stands M M' E gl) where
    after_reach : (n d : ℕ) (t : Config) (co : List CollectorCall) (c0 : Config) (ws0 : List Wit) (r : Stepped) → FitsConfig M E gl W.result c0 ws0 → (length c0.frames ≤ M.depth) → Same M c0 r → After M M' E gl W t r → Keeps M d co r → d ≤ M.depth → ((c : Config) (ws : List Wit) → FitsConfig M E gl W.result c ws → length c.frames ≤ M.depth → Reach (image M W c ws) (length c.frames) n c.collected (run_steps M n c)) → Reach t d (suc n) co (run_on M (run_steps M n) n r)
    after_reach n d t co c0 ws0 (next c) h0 sh0 sm a k sh ih =
        let x = ih c a.0 a.1 (k.1 sh) in
        let y = subst (λ z. ReachS (image M W c a.0) (length c.frames) x.made z (run_steps M n c).what) k.2 x.reach in
        record { made = suc x.made; in_all = omega (arith, x.in_all); reach = further t (image M W c a.0) E d (length c.frames) x.made co (run_steps M n c).what (omega arith) k.0 a.2 y; all_made = x.all_made }
    after_reach n d t co c0 ws0 (ends g vs co') h0 sh0 sm a k sh ih = record { made = 1; in_all = omega arith; reach = (a.0, a.1, k, weaken M' a.2 (omega arith) (omega arith)); all_made = tt }
    after_reach n d t co c0 ws0 (traps j c) h0 sh0 sm (inl e) k sh ih = record { made = 1; in_all = omega arith; reach = inl e; all_made = tt }
    after_reach n d t co c0 ws0 (traps j c) h0 sh0 sm (inr a) k sh ih = record { made = 1; in_all = omega arith; reach = inr ((ws0, subst (λ z. FitsConfig M E gl W.result z ws0) (sym sm.0) h0, subst (λ z. length z.frames ≤ M.depth) (sym sm.0) sh0, sm.1, sm.2), a.0, k.1, omega (arith, k.0), weaken M' a.1 (omega arith) (omega arith)); all_made = tt }
    after_reach n d t co c0 ws0 (no_reply call c) h0 sh0 sm a k sh ih = record { made = 1; in_all = omega arith; reach = (a.0, k, a.1, a.2, a.3, weaken M' a.4 (omega arith) (omega arith)); all_made = tt }
    after_reach n d t co c0 ws0 (bad_reply call rp c) h0 sh0 sm a k sh ih = record { made = 1; in_all = omega arith; reach = (a.0, k, a.1, a.2, a.3, weaken M' a.4 (omega arith) (omega arith)); all_made = tt }
    after_reach n d t co c0 ws0 stuck h0 sh0 sm a k sh ih = record { made = 1; in_all = omega arith; reach = tt; all_made = tt }

    pub run_sim : (n : ℕ) (c : Config) (ws : List Wit) → FitsConfig M E gl W.result c ws → length c.frames ≤ M.depth → Reach (image M W c ws) (length c.frames) n c.collected (run_steps M n c)
    run_sim zero c ws h sh = record { made = 0; in_all = omega arith; reach = (ws, h, sh, refl, weaken M' (still M' _) (omega arith) (omega arith)); all_made = refl }
    run_sim (suc n) c ws h sh = after_reach n (length c.frames) (image M W c ws) c.collected c ws (step M c) h sh (same M c) (step_sim M M' E gl W S c ws h sh) (keeps M S.quiet c) sh (run_sim n)
