-- An invocation of which no step was made, for want of memory.
use Rattle.std.proofs.Common.{◌≡◌, ℕ, List, [], ◌∷◌, ◌++◌, reverse, refl, sym, ap, arith}
use Rattle.std.proofs.lemmas.List.{append-nil}
use Rattle.std.specs.Prelude.{Bool, true, false, Option, Some, None, IfSome}
use Rattle.wasm_syntax.specs.declared.value.Value.{Value}
use Rattle.wasm_syntax.specs.declared.parts.Import.{Import}
use Rattle.wasm_syntax.specs.declared.host.Reply.{Reply}
use Rattle.wasm_syntax.specs.declared.module.ModuleParts.{ModuleParts as Module}
use Rattle.wasm_syntax.specs.Module.{Program, IsProgram, Function, imported, defined, function_at}
use Rattle.wasm_syntax.specs.Host.{World}
use Rattle.wasm_syntax.specs.Machine.{Engine, Config, config, next, entered}
use Rattle.wasm_syntax.specs.Run.{ran, ran_to, running, run_function, go_on}
use Rattle.machine_code.specs.declared.code.Code.{Code}
use Rattle.machine_steps.specs.declared.machine.Machine.{Machine}
use Rattle.machine_code.specs.declared.prepared.Prepared.{Prepared}
use Rattle.host_devices.specs.calls.HostSides.{Calls}
use Rattle.machine_hosted.specs.calls.Hosted.{Asked}
use Rattle.machine_hosted.specs.declared.answer.RunEnd.TheVariants.{NoMemory}
use Rattle.machine_hosted.specs.calls.Settings.{Sound, Takes, world_of}
use Rattle.machine_hosted.specs.calls.Invocations.{Invoking, invoking, InvocationCame, InvocationCameWith}
use Rattle.machine_hosted.proofs.ModuleLaws.{function_there}

abbrev nothing : Asked
nothing = record { given = []; told = [] }

-- a function of the program
abbrev pub IsThere : Program → ℕ → Type 0
IsThere p f = (fn : Function) × (function_at p f ≡ Some fn)

module _ (p : Program) (codes : List Code) (used_up : Import → Bool) (m : Machine) (fuel : ℕ) (begun : Bool) where
  rests : (go : Invoking) (entered : Bool) (more : List Reply) (c : Config) → c.world ≡ world_of m more → c.collected ≡ [] → go more 0 ≡ ran_to entered (next c) 0 → InvocationCame p codes used_up go fuel nothing NoMemory 0 false begun m more
  rests go entered more c world collected e = record {
    ran = ran running entered c 0;
    within = omega arith;
    gives = e;
    outcome = tt;
    left = refl;
    served = ap (λ (w : World). reverse w.served ++ []) (sym world);
    collected = ap reverse (sym collected);
    follows = refl;
    entered_is = tt;
    last = c;
    last_is = refl;
    keeps = tt;
    replies = ap (λ (w : World). w.replies) world;
  }

  module _ (M : Engine) (f : ℕ) (args : List Value) where
    abbrev go : Option ℕ → Invoking
    go due = invoking M due f args (world_of m [])

    entry_rests : (fn : Function) → function_at M.program f ≡ Some fn → (more : List Reply) → InvocationCame p codes used_up (go None) fuel nothing NoMemory 0 false begun m more
    entry_rests (imported i type) at more =
        rests (go None) true more (config [] (world_of m more) []) refl refl
        (ap (λ o. let e = run_function M 0 f o args (world_of m more) [] in ran_to true e.what e.left) at)
    entry_rests (defined body tree type) at more =
        rests (go None) true more (config (entered f body tree type args ∷ []) (world_of m more) []) refl refl
        (ap (λ o. let e = run_function M 0 f o args (world_of m more) [] in ran_to true e.what e.left) at)

    start_rests : (s : ℕ) (fn : Function) → function_at M.program s ≡ Some fn → (more : List Reply) → InvocationCame p codes used_up (go (Some s)) fuel nothing NoMemory 0 false begun m more
    start_rests s (imported i type) at more =
        rests (go (Some s)) false more (config [] (world_of m more) []) refl refl
        (ap (λ o. let e = run_function M 0 s o [] (world_of m more) [] in go_on M e.what e.left f args) at)
    start_rests s (defined body tree type) at more =
        rests (go (Some s)) false more (config (entered s body tree type [] ∷ []) (world_of m more) []) refl refl
        (ap (λ o. let e = run_function M 0 s o [] (world_of m more) [] in go_on M e.what e.left f args) at)

    pub not_begun : (due : Option ℕ) → IfSome due (IsThere M.program) → IsThere M.program f → (calls : Calls) → InvocationCameWith p codes used_up (go due) fuel NoMemory 0 false begun m calls calls
    not_begun None s fn calls = record {
      asked = nothing;
      grew = record { served = sym (append-nil calls.served); collected = sym (append-nil calls.collected) };
      came = λ more ad. entry_rests fn.0 fn.1 more;
    }
    not_begun (Some s) there fn calls = record {
      asked = nothing;
      grew = record { served = sym (append-nil calls.served); collected = sym (append-nil calls.collected) };
      came = λ more ad. start_rests s there.0 there.1 more;
    }

-- the start function of a sound module is there
pub start_there : (p : Program) (m : Module) (prepared : Prepared) (due : Option ℕ) → Sound m prepared → p.module_ ≡ m → IsProgram p → IfSome due (λ f. Takes m f []) → IfSome due (IsThere p)
start_there p m prepared None s e is t = tt
start_there p m prepared (Some f) s e is t = function_there p m prepared f [] s e is t
