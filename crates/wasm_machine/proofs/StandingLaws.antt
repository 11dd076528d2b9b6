-- Instances and the configurations at which they stand.
use Rattle.std.proofs.Common.{◌≡◌, ℕ, ◌+◌, ◌<◌, ◌^◌, List, [], ◌∷◌, length, sym, subst, ◌∙◌, arith}
use Rattle.std.specs.Prelude.{Bool, Option, option_map}
use Rattle.wasm_syntax.specs.declared.module.ModuleParts.{ModuleParts as Module}
use Rattle.wasm_syntax.specs.Module.{Program}
use Rattle.wasm_syntax.specs.declared.host.Reply.{Reply}
use Rattle.wasm_syntax.specs.Machine.{Frame, Config, config}
use Rattle.wasm_syntax.specs.Run.{start_world}
use Rattle.machine_code.specs.declared.code.Code.{Code}
use Rattle.machine_steps.specs.calls.Layout as layout
use Rattle.machine_steps.specs.declared.machine.Machine.{Machine}
use Rattle.machine_code.specs.declared.prepared.Prepared.{Prepared}
use Rattle.machine_steps.specs.calls.Meets.{StandsFor, Shares}
use Rattle.machine_hosted.proofs.WorldLaws.{shares_own}
use Rattle.machine_hosted.specs.calls.Answers.{KeepsFrames}
use Rattle.dump_write.specs.Image.{frame_images}
use Rattle.wasm_machine.specs.declared.invocation.LastInvocation.{LastInvocation}
use Rattle.wasm_machine.specs.calls.Instances.{State, state, copied, SoundState, IsOf, IsNew, StandsAt}
use Rattle.wasm_machine.specs.inner.Shown.{all_shown}
use Rattle.wasm_machine.proofs.Layouts.{frames_kept, count_kept}

-- instances of one module have the same programs
pub of_same : (s t : State) (p : Program) → t.module_ ≡ s.module_ → IsOf s p → IsOf t p
of_same s t p same is = record { of_module = is.of_module ∙ sym same; writes_out = is.writes_out }

kept_frames : (p : Program) (codes : List Code) (m : Machine) (fs : List Frame) → layout.StandsFor p codes m.stack fs → KeepsFrames p codes m fs
kept_frames p codes m [] h = absurd h
kept_frames p codes m (f ∷ fs) h = h

-- a new instance has no frames
pub new_stands : (m : Module) (s : State) (p : Program) (replies : List Reply) → IsNew m s → IsOf s p → StandsAt s p (config [] (start_world m replies) [])
new_stands m s p replies new is = record { is_of = is; keeps = record { frames = new.frames; shares = subst (λ w. Shares s.machine w) (new.world replies) (shares_own s.machine replies) } }

-- behind a trap
pub trap_stands : (s : State) (p : Program) (c : Config) → IsOf s p → StandsFor p s.prepared.codes.items s.machine c → StandsAt s p c
trap_stands s p c is h = record { is_of = is; keeps = record { frames = kept_frames p s.prepared.codes.items s.machine c.frames h.frames; shares = h.shares } }

few_in : (s : State) (p : Program) → SoundState s → IsOf s p → length p.module_.imports + length p.module_.functions < 2 ^ 32
few_in s p sound is = subst (λ (m : Module). length m.imports + length m.functions < 2 ^ 32) (sym is.of_module) sound.sound.few

-- what it shows of its frames
pub frames_at : (s : State) (p : Program) (c : Config) → SoundState s → StandsAt s p c → all_shown s.prepared s.machine ≡ frame_images c.frames
frames_at s p c sound at = frames_kept p s.prepared s.machine c.frames (sound.sound.is_prepared p at.is_of.of_module at.is_of.writes_out) (few_in s p sound at.is_of) at.keeps.frames

pub count_at : (s : State) (p : Program) (c : Config) → StandsAt s p c → length s.machine.stack.frames ≡ length c.frames
count_at s p c at = count_kept p s.prepared.codes.items s.machine c.frames at.keeps.frames

-- and of what the frames share
pub globals_at : (s : State) (p : Program) (c : Config) → StandsAt s p c → s.machine.shared.globals ≡ c.world.globals
globals_at s p c at = sym at.keeps.shares.holds.globals

pub memory_at : (s : State) (p : Program) (c : Config) → StandsAt s p c → option_map (λ m. m.memory) s.machine.shared.memory ≡ c.world.memory
memory_at s p c at = sym at.keeps.shares.holds.memory

-- ---- copies

pub copied_sound : (s : State) → SoundState s → SoundState (copied s)
copied_sound s h = record {
  sound = h.sound;
  start = h.start;
  fits = h.fits;
  since_copy = omega arith;
  stopped = λ l there p is. h.stopped l there p (record { of_module = is.of_module; writes_out = is.writes_out });
}

pub copy_is : (m : Module) (prepared prepared' : Prepared) (machine machine' : Machine) (due : Option ℕ) (ready entered : Bool) (steps since_copy : ℕ) (last last' : Option LastInvocation) → prepared' ≡ prepared → machine' ≡ machine → last' ≡ last
    → state m prepared' machine' due ready entered steps 0 last' ≡ copied (state m prepared machine due ready entered steps since_copy last)
copy_is m prepared prepared' machine machine' due ready entered steps since_copy last last' p q l = λ i. state m (p i) (q i) due ready entered steps 0 (l i)
