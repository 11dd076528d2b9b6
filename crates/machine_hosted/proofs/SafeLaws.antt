-- Runs of a valid program fit.
use Rattle.std.proofs.Common.{◌≡◌, ◌≢◌, ℕ, zero, suc, ◌+◌, List, [], ◌∷◌, ◌++◌, length, refl, sym, ap, ap₂, subst, ◌∙◌}
use Rattle.std.specs.Prelude.{Option, Some, None, option_to_list}
use Rattle.wasm_syntax.specs.declared.value.Value.{Value}
use Rattle.wasm_syntax.specs.declared.parts.FuncType.{FuncType}
use Rattle.wasm_syntax.specs.declared.parts.Limits.{Limits}
use Rattle.wasm_syntax.specs.declared.parts.Body.{Body}
use Rattle.wasm_syntax.specs.declared.module.ModuleParts.{ModuleParts as Module}
use Rattle.wasm_syntax.specs.declared.host.CollectorCall.{CollectorCall}
use Rattle.wasm_syntax.specs.declared.host.Reply.{Reply}
use Rattle.wasm_syntax.specs.Numbers.{types}
use Rattle.wasm_syntax.specs.Tree.{Tree}
use Rattle.wasm_syntax.specs.Module.{Program, defined, defined_at, function_at, declared_locals}
use Rattle.wasm_syntax.specs.Typing.{Types, body_context}
use Rattle.wasm_syntax.specs.Host.{World}
use Rattle.wasm_syntax.specs.Machine.{Engine, Config, config, Stepped, next, ends, traps, no_reply, bad_reply, stuck, step, entered, zeros, result_of}
use Rattle.wasm_syntax.specs.Run.{Ended, run_steps, run_on, start_world}
use Rattle.linear_memory.specs.Memory.{Memory}
use Rattle.wasm_laws.proofs.Progress.{types_append, zero_types, HasMemory, WorldFine}
use Rattle.wasm_laws.proofs.Safe.{FramesFine, SteppedFine, Typed, step_fine, one_result}
use Rattle.wasm_laws.proofs.Validity.{startable}
use Rattle.machine_steps.specs.declared.machine.Machine.{Machine}
use Rattle.machine_code.specs.declared.prepared.Prepared.{Prepared}
use Rattle.machine_code.specs.calls.Prepares.{IsPrepared}
use Rattle.machine_steps.specs.calls.Meets.{Shares, StandsFor}
use Rattle.machine_steps.specs.calls.Layout as layout
use Rattle.machine_steps.specs.calls.Runs.{Begins, Leads}
use Rattle.machine_hosted.specs.calls.Safe.{ValidProgram, MemoryFits, WorldFits, RunFits}
use Rattle.machine_steps.proofs.CallLaws.{function_is as at_index}

-- ---- worlds

memory_fine : (ls : List Limits) (o : Option Memory) → MemoryFits ls o → HasMemory ls o
memory_fine [] o h = h
memory_fine (l ∷ ls) None h = absurd h
memory_fine (l ∷ ls) (Some m) h = tt

memory_fits : (ls : List Limits) (o : Option Memory) → HasMemory ls o → MemoryFits ls o
memory_fits [] o h = h
memory_fits (l ∷ ls) None h = absurd h
memory_fits (l ∷ ls) (Some m) h = tt

pub world_fine : (m : Module) (w : World) → WorldFits m w → WorldFine m w
world_fine m w h = record { globals = h.globals; memory = memory_fine m.memories w.memory h.memory; table = h.table }

pub world_fits : (m : Module) (w : World) → WorldFine m w → WorldFits m w
world_fits m w h = record { globals = h.globals; memory = memory_fits m.memories w.memory h.memory; table = h.table }

pub start_fits : (p : Program) (replies : List Reply) → ValidProgram p → WorldFits p.module_ (start_world p.module_ replies)
start_fits p replies v = let s = startable p v.writes v.paired v.valid in world_fits p.module_ (start_world p.module_ replies) (s.world replies)

-- ---- runs

module _ (M : Engine) (typed : Typed M.program) where
  by_step : (n : ℕ) (r : Stepped) → SteppedFine M.program r → ((c : Config) → WorldFine M.program.module_ c.world → FramesFine M.program c.frames → RunFits M.program.module_ (run_steps M n c).what) → RunFits M.program.module_ (run_on M (run_steps M n) n r).what
  by_step n (next c) h ih = ih c h.0 h.1
  by_step n (ends w vs co) h ih = world_fits M.program.module_ w h
  by_step n (traps k c) h ih = world_fits M.program.module_ c.world h
  by_step n (no_reply call c) h ih = tt
  by_step n (bad_reply call r c) h ih = tt
  by_step n stuck h ih = h

  pub run_fits : (n : ℕ) (c : Config) → WorldFine M.program.module_ c.world → FramesFine M.program c.frames → RunFits M.program.module_ (run_steps M n c).what
  run_fits zero c wf ff = tt
  run_fits (suc n) c wf ff = by_step n (step M c) (step_fine M typed c wf ff) (run_fits n)

  pub entered_fine : (f : ℕ) (b : Body) (tree : Tree) (type : FuncType) (args : List Value) → function_at M.program f ≡ Some (defined b tree type) → types args ≡ type.params → FramesFine M.program (entered f b tree type args ∷ [])
  entered_fine f b tree type args at ty =
      let one = one_result type.results (typed.few f (defined b tree type) at) in
      let ls : types (args ++ zeros (declared_locals b.groups)) ≡ type.params ++ declared_locals b.groups = types_append args (zeros (declared_locals b.groups)) ∙ ap₂ (λ a c. a ++ c) ty (zero_types (declared_locals b.groups)) in
      let body_ : Types (record (body_context M.program.module_ type b) { labels = option_to_list (result_of type) ∷ [] }) tree.nodes [] (option_to_list (result_of type)) = subst (λ z. Types (record (body_context M.program.module_ type b) { labels = z ∷ [] }) tree.nodes [] z) one (typed.bodies f b tree type at) in
      (record { type = type; body = b; tree = tree; function_is = at; result = refl; locals_are = ls }, (body_, sym one, tt), tt)

pub entered_fits : (M : Engine) (f : ℕ) (body : Body) (tree : Tree) (type : FuncType) (args : List Value) (w : World) (co : List CollectorCall) (n : ℕ) → ValidProgram M.program → function_at M.program f ≡ Some (defined body tree type) → types args ≡ type.params → WorldFits M.program.module_ w →
    RunFits M.program.module_ (run_steps M n (config (entered f body tree type args ∷ []) w co)).what
entered_fits M f body tree type args w co n v at ty wf =
    let s = startable M.program v.writes v.paired v.valid in
    run_fits M s.typed n (config (entered f body tree type args ∷ []) w co) (world_fine M.program.module_ w wf) (entered_fine M s.typed f body tree type args at ty)

pub not_stuck : (m : Module) (s : Stepped) → RunFits m s → s ≢ stuck
not_stuck m s h e = subst (RunFits m) e h

-- ---- machines

pub begins : (M : Engine) (prepared : Prepared) (i : ℕ) (body : Body) (tree : Tree) (type : FuncType) (args : List Value) (w : World) (co : List CollectorCall) (m : Machine) → ValidProgram M.program → IsPrepared M.program prepared → Shares m w → WorldFits M.program.module_ w →
    defined_at M.program i ≡ Some (defined body tree type) → types args ≡ type.params → layout.StandsFor M.program prepared.codes.items m.stack (entered (length M.program.module_.imports + i) body tree type args ∷ []) →
    Begins M prepared M.depth (config (entered (length M.program.module_.imports + i) body tree type args ∷ []) w co) m
begins M prepared i body tree type args w co m v p shares wf at ty frames = record {
  is_prepared = p;
  depth_is = refl;
  stands = record { frames = frames; shares = shares };
  safe = λ n. not_stuck M.program.module_ (run_steps M n (config (entered (length M.program.module_.imports + i) body tree type args ∷ []) w co)).what
      (entered_fits M (length M.program.module_.imports + i) body tree type args w co n v (at_index M.program i ∙ at) ty wf);
}

pub later : (M : Engine) (prepared : Prepared) (depth : ℕ) (c c' : Config) (m m' : Machine) → Begins M prepared depth c m → step M c ≡ next c' → StandsFor M.program prepared.codes.items m' c' → Begins M prepared depth c' m'
later M prepared depth c c' m m' b e stands = record {
  is_prepared = b.is_prepared;
  depth_is = b.depth_is;
  stands = stands;
  safe = λ n s. b.safe (suc n) (ap (λ r. (run_on M (run_steps M n) n r).what) e ∙ s);
}

pub reached : (M : Engine) (prepared : Prepared) (depth n : ℕ) (c c' : Config) (m m' : Machine) → Begins M prepared depth c m → Leads M prepared.codes.items c n c' → StandsFor M.program prepared.codes.items m' c' → Begins M prepared depth c' m'
reached M prepared depth n c c' m m' b leads stands = record {
  is_prepared = b.is_prepared;
  depth_is = b.depth_is;
  stands = stands;
  safe = λ k s. b.safe (n + k) (ap (λ (e : Ended). e.what) (leads k) ∙ s);
}

pub count_of : (args : List Value) (type : FuncType) → types args ≡ type.params → length args ≡ length type.params
count_of args type e = sym (by_list args) ∙ ap length e
  where
    by_list : (args : List Value) → length (types args) ≡ length args
    by_list [] = refl
    by_list (v ∷ vs) = ap suc (by_list vs)
