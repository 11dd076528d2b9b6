-- A function goes on from where it waits.
use Rattle.std.proofs.Common.{◌≡◌, ℕ, ◌-◌, ◌≤◌, ◌<◌, List, length, refl, sym, ap, subst, ◌∙◌, arith}
use Rattle.std.proofs.lemmas.Bool.Decides.{nat_tests}
use Rattle.std.specs.Prelude.{Bool, true, false, nat_lt, if◌then◌else◌, Option, Some, None, option_map, slice_get}
use Rattle.wasm_syntax.specs.declared.value.Value.{Value}
use Rattle.wasm_syntax.specs.declared.parts.Import.{Import}
use Rattle.wasm_syntax.specs.declared.parts.FuncType.{FuncType}
use Rattle.wasm_syntax.specs.declared.parts.Body.{Body}
use Rattle.wasm_syntax.specs.declared.module.ModuleParts.{ModuleParts as Module}
use Rattle.wasm_syntax.specs.declared.host.Reply.{Reply}
use Rattle.wasm_syntax.specs.Tree.{Tree}
use Rattle.wasm_syntax.specs.Module.{Program, IsProgram, Function, imported, defined, imported_at, defined_at, function_at, option_then}
use Rattle.wasm_syntax.specs.Machine.{Config}
use Rattle.wasm_syntax.specs.Run.{engine, run_function, run_steps}
use Rattle.machine_steps.specs.declared.machine.Machine.{Machine}
use Rattle.machine_code.specs.declared.prepared.Prepared.{Prepared}
use Rattle.machine_steps.specs.calls.Meets.{StandsFor}
use Rattle.host_devices.specs.calls.HostSides.{Calls}
use Rattle.machine_hosted.specs.declared.answer.RunEnd.{RunEnd}
use Rattle.machine_hosted.specs.calls.Safe.{RunFits}
use Rattle.machine_hosted.specs.calls.Settings.{Sound, ServesAll}
use Rattle.machine_hosted.specs.calls.Hosted.{replying}
use Rattle.machine_hosted.specs.calls.Answers.{FunctionCameWith, function_going}
use Rattle.machine_hosted.specs.inner.FrameRuns.{CameWith}
use Rattle.machine_hosted.specs.inner.Turns.{Ready, going}
use Rattle.machine_hosted.specs.inner.Resumes.{with_replies, resuming, WaitsIn, Waits}
use Rattle.machine_hosted.proofs.WorldLaws.{shares_replying}
use Rattle.machine_hosted.proofs.ModuleLaws.{valid_program}
use Rattle.machine_hosted.proofs.FrameLaws.{by_frames}
use Rattle.machine_hosted.proofs.DefinedLaws.{by_same}
use Rattle.machine_steps.proofs.CallLaws.{no_import as not_imported}
use Rattle.machine_hosted.proofs.SafeLaws.{not_stuck}

-- ---- imported and defined functions by their indices

no_import : (p : Program) (f : ℕ) (i : Import) (type : FuncType) → length p.module_.imports ≤ f → function_at p f ≡ Some (imported i type) → ⊥
no_import p f i type le at =
    let test : nat_lt f (length p.module_.imports) ≡ false = grind (arith, nat_tests, le) in
    not_imported p (f - length p.module_.imports) i type (sym (ap (λ b. if b then imported_at p.module_ f else defined_at p (f - length p.module_.imports)) test) ∙ at)

no_defined : (p : Program) (f : ℕ) (body : Body) (tree : Tree) (type : FuncType) → f < length p.module_.imports → function_at p f ≡ Some (defined body tree type) → ⊥
no_defined p f body tree type lt at =
    let test : nat_lt f (length p.module_.imports) ≡ true = grind (arith, nat_tests, lt) in
    by_import (slice_get p.module_.imports f) (sym (ap (λ b. if b then imported_at p.module_ f else defined_at p (f - length p.module_.imports)) test) ∙ at)
  where
    by_type : (i : Import) (o : Option FuncType) → option_map (imported i) o ≡ Some (defined body tree type) → ⊥
    by_type i None e = cc
    by_type i (Some u) e = cc

    by_import : (o : Option Import) → option_then o (λ i. option_map (imported i) (slice_get p.module_.types i.ftype)) ≡ Some (defined body tree type) → ⊥
    by_import None e = cc
    by_import (Some i) e = by_type i (slice_get p.module_.types i.ftype) e

-- ---- the run from there

module _ (source : Module) (prepared : Prepared) (collecting : Bool) (depth f : ℕ) (args : List Value) (p : Program) (e : p.module_ ≡ source) (m : Machine) (c : Config) (w : Waits (engine p collecting depth) f prepared.codes.items m c) where
  -- an import is called now
  pub came_alone : f < length source.imports → (used_up : Import → Bool) (fuel : ℕ) (answer : RunEnd) (steps : ℕ) (later : Machine) (old new : Calls) →
      FunctionCameWith p prepared.codes.items used_up (function_going (engine p collecting depth) f args c.world c.collected) c.world c.collected fuel answer steps later old new →
      FunctionCameWith p prepared.codes.items used_up (resuming (engine p collecting depth) f w.fn args c) c.world c.collected fuel answer steps later old new
  came_alone lt used_up fuel answer steps later old new h = by_function w.fn w.is
    where
      few : f < length p.module_.imports
      few = subst (λ (x : Module). f < length x.imports) (sym e) lt

      by_function : (fn : Function) → function_at p f ≡ Some fn → FunctionCameWith p prepared.codes.items used_up (resuming (engine p collecting depth) f fn args c) c.world c.collected fuel answer steps later old new
      by_function (defined body tree type) at = absurd (no_defined p f body tree type few at)
      by_function (imported i type) at =
          by_same p prepared.codes.items used_up (function_going (engine p collecting depth) f args c.world c.collected) (resuming (engine p collecting depth) f (imported i type) args c) c.world c.collected fuel answer steps later old new
          (λ replies n. ap (λ o. run_function (engine p collecting depth) n f o args (replying c.world replies) c.collected) (sym at)) h

  module _ (serving : Import → FuncType → Bool) (sound : Sound source prepared) (serves : ServesAll serving source) (is : IsProgram p) (le : length source.imports ≤ f) where
    abbrev ready_of : StandsFor p prepared.codes.items m c → ((replies : List Reply) (n : ℕ) → RunFits p.module_ (run_steps (engine p collecting depth) n (with_replies c replies)).what) → Ready prepared source depth m collecting serving
    ready_of stands fits = record {
      engine = engine p collecting depth;
      setting = record { valid = valid_program p source prepared sound e is; source_is = sym e; collects = refl; serves = serves; few = omega (arith, sound.few) };
      frames = c.frames;
      world = c.world;
      collected = c.collected;
      begins = λ replies. record {
        is_prepared = sound.is_prepared p e is;
        depth_is = refl;
        stands = record { frames = stands.frames; shares = shares_replying m c.world replies stands.shares };
        safe = λ n. not_stuck p.module_ (run_steps (engine p collecting depth) n (with_replies c replies)).what (fits replies n);
      };
    }

    many : length p.module_.imports ≤ f
    many = subst (λ (x : Module). length x.imports ≤ f) (sym e) le

    pub ready_there : Ready prepared source depth m collecting serving
    ready_there = by_function w.fn w.is w.place
      where
        by_function : (fn : Function) → function_at p f ≡ Some fn → WaitsIn (engine p collecting depth) f prepared.codes.items m c fn → Ready prepared source depth m collecting serving
        by_function (imported i type) at place = absurd (no_import p f i type many at)
        by_function (defined body tree type) at place = ready_of place.0 place.1

    -- the frames of a defined function go on
    pub came_there : (used_up : Import → Bool) (fuel : ℕ) (answer : RunEnd) (steps : ℕ) (later : Machine) (old new : Calls) →
        ((r : Ready prepared source depth m collecting serving) → CameWith r.engine.program prepared.codes.items used_up (going r.engine r.frames r.world r.collected) r.world r.collected fuel answer steps later old new) →
        FunctionCameWith p prepared.codes.items used_up (resuming (engine p collecting depth) f w.fn args c) c.world c.collected fuel answer steps later old new
    came_there used_up fuel answer steps later old new t = by_function w.fn w.is w.place
      where
        by_function : (fn : Function) → function_at p f ≡ Some fn → WaitsIn (engine p collecting depth) f prepared.codes.items m c fn →
            FunctionCameWith p prepared.codes.items used_up (resuming (engine p collecting depth) f fn args c) c.world c.collected fuel answer steps later old new
        by_function (imported i type) at place = absurd (no_import p f i type many at)
        by_function (defined body tree type) at place =
            by_frames p prepared.codes.items used_up (engine p collecting depth) c.frames c.world c.collected (resuming (engine p collecting depth) f (defined body tree type) args c) (λ replies n. refl) place.1
            fuel answer steps later old new (t (ready_of place.0 place.1))
