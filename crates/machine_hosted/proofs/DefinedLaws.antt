-- A defined function is run from its begin.
use Rattle.std.proofs.Common.{◌≡◌, ℕ, ◌+◌, List, [], ◌∷◌, length, refl, sym, ap, subst, ◌∙◌, arith}
use Rattle.std.proofs.lemmas.List.{append-nil}
use Rattle.std.specs.Prelude.{Bool, Option, Some, slice_get}
use Rattle.wasm_syntax.specs.declared.value.Value.{Value}
use Rattle.wasm_syntax.specs.declared.parts.Import.{Import}
use Rattle.wasm_syntax.specs.declared.parts.FuncType.{FuncType}
use Rattle.wasm_syntax.specs.declared.parts.Body.{Body}
use Rattle.wasm_syntax.specs.declared.module.ModuleParts.{ModuleParts as Module}
use Rattle.wasm_syntax.specs.declared.host.Reply.{Reply}
use Rattle.wasm_syntax.specs.declared.host.CollectorCall.{CollectorCall}
use Rattle.wasm_syntax.specs.Numbers.{types}
use Rattle.wasm_syntax.specs.Tree.{Tree}
use Rattle.wasm_syntax.specs.Module.{Program, IsProgram, defined, defined_at, function_at, type_at}
use Rattle.wasm_syntax.specs.Host.{World}
use Rattle.wasm_syntax.specs.Machine.{Engine, Frame, config, next, entered, host_call}
use Rattle.wasm_syntax.specs.Run.{engine, run_function}
use Rattle.machine_code.specs.declared.code.Code.{Code}
use Rattle.machine_steps.specs.declared.machine.Machine.{Machine}
use Rattle.machine_code.specs.declared.prepared.Prepared.{Prepared}
use Rattle.machine_steps.specs.Places.{Place, alone_places, function_places}
use Rattle.machine_code.specs.calls.Prepares.{IsPrepared}
use Rattle.machine_steps.specs.calls.Meets.{Shares}
use Rattle.machine_steps.specs.calls.Runs.{Begins}
use Rattle.machine_hosted.specs.calls.Safe.{ValidProgram, WorldFits}
use Rattle.machine_hosted.proofs.SafeLaws.{entered_fits}
use Rattle.host_devices.specs.calls.HostSides.{Calls}
use Rattle.machine_hosted.specs.calls.Hosted.{Going, replying}
use Rattle.machine_hosted.specs.inner.FrameRuns.{CameWith}
use Rattle.machine_hosted.specs.inner.Turns.{Ready, going}
use Rattle.machine_hosted.specs.declared.answer.RunEnd.{RunEnd}
use Rattle.machine_hosted.specs.declared.answer.RunEnd.TheVariants.{NoMemory}
use Rattle.machine_hosted.specs.calls.Settings.{Sound, MachineFits, Takes, ServesAll}
use Rattle.machine_hosted.specs.inner.Alone.{alone}
use Rattle.machine_hosted.specs.calls.Answers.{FunctionCameWith, function_going}
use Rattle.machine_hosted.specs.calls.Watching.{Watched, function_placing}
use Rattle.machine_hosted.specs.inner.Watches.{frames_placing}
use Rattle.machine_hosted.proofs.WatchLaws.{by_same_places, unseen}
use Rattle.machine_hosted.proofs.WorldLaws.{shares_replying, fits_replying, each_fits}
use Rattle.machine_hosted.proofs.ModuleLaws.{valid_program, IsDefined, is_defined, function_imported}
use Rattle.machine_hosted.proofs.FrameLaws.{by_frames}

-- the same run, written otherwise
pub by_same : (p : Program) (codes : List Code) (used_up : Import → Bool) (go other : Going) (w : World) (co : List CollectorCall) (fuel : ℕ) (answer : RunEnd) (steps : ℕ) (m : Machine) (old new : Calls) → ((replies : List Reply) (n : ℕ) → other replies n ≡ go replies n) →
    FunctionCameWith p codes used_up go w co fuel answer steps m old new → FunctionCameWith p codes used_up other w co fuel answer steps m old new
by_same p codes used_up go other w co fuel answer steps m old new same h = record {
  asked = h.asked;
  grew = h.grew;
  came = λ more ad.
      let c = h.came more ad in
      record { what = c.what; within = c.within; gives = same _ _ ∙ c.gives; answers = c.answers; keeps = c.keeps; served = c.served; fits = c.fits };
}

-- an imported function
pub same_alone_places : (p : Program) (collecting : Bool) (depth f : ℕ) (i : Import) (type : FuncType) (args : List Value) (w : World) (co : List CollectorCall) → slice_get p.module_.imports f ≡ Some i → type_at p.module_ f ≡ Some type →
    (replies : List Reply) (n : ℕ) → alone_places n ≡ function_placing (engine p collecting depth) f args w co replies n
same_alone_places p collecting depth f i type args w co at t replies n = sym (ap (λ o. function_places (engine p collecting depth) f o n args (replying w replies) co) (function_imported p f i type at t))

pub same_alone : (p : Program) (collecting : Bool) (depth f : ℕ) (i : Import) (type : FuncType) (args : List Value) (w : World) (co : List CollectorCall) → slice_get p.module_.imports f ≡ Some i → type_at p.module_ f ≡ Some type →
    (replies : List Reply) (n : ℕ) → function_going (engine p collecting depth) f args w co replies n ≡ alone (engine p collecting depth) (host_call f i type args) w co replies n
same_alone p collecting depth f i type args w co at t replies n = ap (λ o. run_function (engine p collecting depth) n f o args (replying w replies) co) (function_imported p f i type at t)

module _ (m : Module) (prepared : Prepared) (function : ℕ) (args : List Value) (before after : Machine) (depth : ℕ) (collecting : Bool) (serving : Import → FuncType → Bool)
    (sound : Sound m prepared) (fits : MachineFits m before) (takes : Takes m (length m.imports + function) args) (serves : ServesAll serving m) (p : Program) (e : p.module_ ≡ m) (is : IsProgram p) (w : World) (co : List CollectorCall) (s : Shares before w) where
  pub v : ValidProgram p
  v = valid_program p m prepared sound e is

  pub d : IsDefined p function takes.0
  d = is_defined p function takes.0 v (subst (λ (x : Module). type_at x (length x.imports + function) ≡ Some takes.0) (sym e) takes.1)

  abbrev M : Engine
  M = engine p collecting depth

  abbrev frames : List Frame
  frames = entered (length p.module_.imports + function) d.body d.tree takes.0 args ∷ []

  pub world_fits : WorldFits p.module_ w
  world_fits = subst (λ (x : Module). WorldFits x w) (sym e) (each_fits m before w s fits)

  index_is : length m.imports + function ≡ length p.module_.imports + function
  index_is = ap (λ (x : Module). length x.imports + function) (sym e)

  abbrev go : Going
  go = function_going M (length m.imports + function) args w co

  same : (replies : List Reply) (n : ℕ) → go replies n ≡ going M frames w co replies n
  same replies n =
      ap (λ k. run_function M n k (function_at p k) args (replying w replies) co) index_is
      ∙ ap (λ o. run_function M n (length p.module_.imports + function) o args (replying w replies) co) d.function

  abbrev pub ready : ((M : Engine) (body : Body) (tree : Tree) (type : FuncType) (w : World) (co : List CollectorCall) → ValidProgram M.program → IsPrepared M.program prepared → Shares before w → WorldFits M.program.module_ w →
      defined_at M.program function ≡ Some (defined body tree type) → types args ≡ type.params → Begins M prepared M.depth (config (entered (length M.program.module_.imports + function) body tree type args ∷ []) w co) after) → Ready prepared m depth after collecting serving
  ready begun = record {
    engine = M;
    setting = record { valid = v; source_is = sym e; collects = refl; serves = serves; few = omega (arith, sound.few) };
    frames = frames;
    world = w;
    collected = co;
    begins = λ replies. begun M d.body d.tree takes.0 (replying w replies) co v (sound.is_prepared p e is) (shares_replying before w replies s) (fits_replying p.module_ w replies world_fits) d.at takes.2;
  }

  pub came : (used_up : Import → Bool) (fuel : ℕ) (answer : RunEnd) (steps : ℕ) (later : Machine) (old new : Calls) → CameWith p prepared.codes.items used_up (going M frames w co) w co fuel answer steps later old new →
      FunctionCameWith p prepared.codes.items used_up go w co fuel answer steps later old new
  came used_up fuel answer steps later old new h =
      by_frames p prepared.codes.items used_up M frames w co go same
      (λ replies n. entered_fits M (length p.module_.imports + function) d.body d.tree takes.0 args (replying w replies) co n v d.function takes.2 (fits_replying p.module_ w replies world_fits))
      fuel answer steps later old new h

  -- ---- what is seen of it

  same_places : (replies : List Reply) (n : ℕ) → frames_placing M frames w co replies n ≡ function_placing M (length m.imports + function) args w co replies n
  same_places replies n = sym (
      ap (λ k. function_places M k (function_at p k) n args (replying w replies) co) index_is
      ∙ ap (λ o. function_places M (length p.module_.imports + function) o n args (replying w replies) co) d.function)

  pub watched : {W : Type 0} (saw : Module → W → List (Option Place) → Type 0) (fuel : ℕ) (answer : RunEnd) (steps : ℕ) (unseen seen : W) (old new : Calls) → Watched saw p.module_ (frames_placing M frames w co) fuel answer steps unseen seen old new
      → Watched saw p.module_ (function_placing M (length m.imports + function) args w co) fuel answer steps unseen seen old new
  watched saw fuel answer steps unseen seen old new h =
      by_same_places saw p.module_ (frames_placing M frames w co) (function_placing M (length m.imports + function) args w co) fuel answer steps unseen seen old new same_places h

  pub unwatched : {W : Type 0} (saw : Module → W → List (Option Place) → Type 0) (fuel : ℕ) (unseen : W) (calls : Calls) → Watched saw p.module_ (function_placing M (length m.imports + function) args w co) fuel NoMemory 0 unseen unseen calls calls
  unwatched saw fuel none calls = unseen saw p.module_ (function_placing M (length m.imports + function) args w co) fuel none calls (λ replies. sym (same_places replies 0))

  pub no_memory : (used_up : Import → Bool) (fuel : ℕ) (later : Machine) (calls : Calls) → FunctionCameWith p prepared.codes.items used_up go w co fuel NoMemory 0 later calls calls
  no_memory used_up fuel later calls = record {
    asked = record { given = []; told = [] };
    grew = record { served = sym (append-nil calls.served); collected = sym (append-nil calls.collected) };
    came = λ more ad. record {
      what = next (config frames (replying w more) co);
      within = omega arith;
      gives = same more 0;
      answers = tt;
      keeps = λ c q. tt;
      served = record { served = refl; collected = refl; left = refl };
      fits = tt;
    };
  }
