-- Each state of a run is shown by the dump that is made of it, and that dump can show a state of the module.
use Rattle.std.proofs.Common.{◌≡◌, ℕ, ◌<◌, ◌≤◌, ◌^◌, ◌-◌, false, List, [], ◌∷◌, map, length, Option, Some, None, Result, Ok, Err, refl, sym, ap, ap₂, ◌∙◌, arith}
use Rattle.std.specs.Prelude.{slice_get, codes, IfOk}
use Rattle.std.specs.List.{range_with_len}
use Rattle.std.proofs.lemmas.List.{length-map}
use Rattle.wasm_syntax.specs.declared.module.ModuleParts.{ModuleParts as Module}
use Rattle.wasm_syntax.specs.Numbers.{type_of}
use Rattle.wasm_syntax.specs.Module.{Program, IsModule, option_then}
use Rattle.wasm_syntax.specs.Sizes.{WithinLimits}
use Rattle.wasm_syntax.specs.Valid.{Valid}
use Rattle.wasm_syntax.specs.Machine.{Config}
use Rattle.wasm_syntax.specs.Run.{Ran, run}
use Rattle.wasm_laws.proofs.Lists.{at_of}
use Rattle.dump_format.specs.declared.dump.Dump.{Dump}
use Rattle.dump_format.specs.declared.dump.Frame.{Frame as ShownFrame}
use Rattle.dump_format.specs.calls.Contained.{IsContained}
use Rattle.dump_write.specs.Image.{DumpFrame, frame_images, image}
use Rattle.dump_write.specs.ImageBytes.{frame_of}
use Rattle.dump_write.specs.Canonical.{memory_indices, instance_of, in_instance}
use Rattle.dump_write.specs.Pictured.{Pictures}
use Rattle.dump_match.specs.States.{MatchesState, KeptState}
use Rattle.match_laws.proofs.Images.{IsImage}
use Rattle.match_laws.proofs.TrapRuns.{StateAt, states_stand}
use Rattle.match_laws.proofs.StateImages.{images_match}
use Rattle.match_laws.proofs.RunStates.{LastHas}
use Rattle.match_laws.proofs.Few.{Few, run_few}
use Rattle.wasm_machine.specs.calls.Instances.{State, StandsAt}
use Rattle.replay.specs.Replays.{Recording, IsOf, invocation_of, ran_within}
use Rattle.replay.specs.Moves.{OfEach, Shows}
use Rattle.replay_command.specs.ReplayText.{ShowsStep}
use Rattle.dump_write.proofs.Images.{images_count}

abbrev name : List ℕ
name = codes "module"

-- ---- the dump

same_frames : (xs : List DumpFrame) → map frame_of xs ≡ map in_instance (map frame_of xs)
same_frames [] = refl
same_frames (x ∷ xs) = ap (λ (ys : List ShownFrame). frame_of x ∷ ys) (same_frames xs)

is_image : (c : Config) (d : Dump) → Pictures (image c name) d → d.instances ≡ instance_of d ∷ [] → IsImage d c
unfolding instance_of
is_image c d shows whole = record {
  instances = whole ∙ ap₂ (λ memory globals. record { «module» = 0; memories = memory_indices memory; globals = range_with_len 0 (length globals) } ∷ []) shows.memory shows.globals;
  modules = rw shows.modules (omega arith);
  memory = shows.memory;
  globals = shows.globals;
  frames = shows.frames ∙ same_frames (frame_images c.frames);
}

-- ---- the state

-- the invocation was run, and this is where it stands
ran_to : (o : Option Ran) (c : Config) → option_then o (λ r. r.last) ≡ Some c → (r : Ran) × (o ≡ Some r) × (r.last ≡ Some c)
ran_to None c e = absurd (cc)
ran_to (Some r) c e = (r, refl, e)

module _ (m : Module) (whole : IsModule m) (valid : Valid m) (limits : WithinLimits m) (x : Recording) (of : m ≡ x.module_) (deep : x.depth < 2 ^ 32) (n : ℕ) (s : State) (shows : OfEach x (λ p. Shows p x n s))
    (d : Dump) (pictured : (p : Program) (c : Config) → StandsAt s p c → Pictures (image c name) d) (contained : IsContained d) where
  abbrev p : Program
  p = record { module_ = m; trees = whole.trees }

  is_of : IsOf x p
  is_of = record { of_module = of; writes_out = whole.write }

  record Here : Type 0 where
    here : Config
    stands : StandsAt s p here
    ran : Ran
    there : slice_get (run p false (invocation_of x ∷ []) x.replies x.depth n) 0 ≡ Some ran
    last : ran.last ≡ Some here

  it : Here
  it =
      let k = shows p is_of in
      let r = ran_to (ran_within p x n) k.0 k.1 in
      record { here = k.0; stands = k.2; ran = r.0; there = r.1; last = r.2 }

  pictures : Pictures (image it.here name) d
  pictures = pictured p it.here it.stands

  few_globals : length d.globals < 2 ^ 32
  few_globals =
      let stand : StateAt p it.here = at_of (λ r. (c : Config) → r.last ≡ Some c → StateAt p c) _ 0 it.ran (states_stand p whole.write whole.as_many valid limits false (invocation_of x ∷ []) x.replies x.depth n) it.there it.here it.last in
      let types = ap (λ ts. length ts) stand.0.0.globals in
      let count : length it.here.world.globals ≡ length m.globals = sym (length-map it.here.world.globals type_of) ∙ types ∙ length-map m.globals (λ g. g.vtype) in
      rw (pictures.globals, count) limits.short.globals

  alone : d.instances ≡ instance_of d ∷ []
  alone = pictures.instances few_globals

  few_frames : length d.frames < 2 ^ 32
  few_frames =
      let few : length it.here.frames ≤ 2 ^ 32 - 1 = at_of (LastHas (Few (2 ^ 32 - 1))) _ 0 it.ran (run_few p false (invocation_of x ∷ []) x.replies x.depth n (2 ^ 32 - 1) (omega (arith, deep)) (omega arith)) it.there it.here it.last in
      let count : length d.frames ≡ length it.here.frames = ap (λ (fs : List ShownFrame). length fs) pictures.frames ∙ length-map (frame_images it.here.frames) frame_of ∙ images_count it.here.frames in
      omega (arith, few, count)

  pub state_kept : KeptState m d
  state_kept = record {
    matches = at_of (λ r. (c : Config) → r.last ≡ Some c → (dump : Dump) → IsImage dump c → MatchesState m dump) _ 0 it.ran (images_match p whole.write whole.as_many valid limits false (invocation_of x ∷ []) x.replies x.depth n) it.there it.here it.last d (is_image it.here d pictures alone);
    frames = few_frames;
    globals = few_globals;
    contained = contained;
  }

  pub step_shown : OfEach x (λ q. ShowsStep q x n d)
  step_shown q is = let k = shows q is in record { state = k.0; is_state = k.1; pictures = pictured q k.0 k.2; whole = alone }

-- ---- an answer with the dump

module _ {E : Type 0} (m : Module) (whole : IsModule m) (valid : Valid m) (limits : WithinLimits m) (x : Recording) (of : m ≡ x.module_) (deep : x.depth < 2 ^ 32) (n : ℕ) (s : State) (shows : OfEach x (λ p. Shows p x n s)) where
  pub answer_kept : (r : Result Dump E) → ((p : Program) (c : Config) → StandsAt s p c → IfOk r (λ d. Pictures (image c name) d)) → IfOk r (λ d. IsContained d) → IfOk r (λ d. KeptState m d)
  answer_kept (Ok d) pictured contained = state_kept m whole valid limits x of deep n s shows d pictured contained
  answer_kept (Err e) pictured contained = tt

  pub answer_shown : (r : Result Dump E) → ((p : Program) (c : Config) → StandsAt s p c → IfOk r (λ d. Pictures (image c name) d)) → IfOk r (λ d. IsContained d) → IfOk r (λ d. OfEach x (λ p. ShowsStep p x n d))
  answer_shown (Ok d) pictured contained = step_shown m whole valid limits x of deep n s shows d pictured contained
  answer_shown (Err e) pictured contained = tt
