-- A function that waits for steps, and how it goes on (Core 4.5.5).
use Rattle.std.specs.Prelude.{◌≡◌, ℕ, List, [], Some}
use Rattle.wasm_syntax.specs.declared.value.Value.{Value}
use Rattle.wasm_syntax.specs.declared.host.Reply.{Reply}
use Rattle.wasm_syntax.specs.Module.{Function, imported, defined, function_at}
use Rattle.wasm_syntax.specs.Machine.{Engine, Config, config, host_call}
use Rattle.wasm_syntax.specs.Run.{Ended, run_alone, run_steps}
use Rattle.machine_code.specs.declared.code.Code.{Code}
use Rattle.machine_steps.specs.declared.machine.Machine.{Machine}
use Rattle.machine_steps.specs.calls.Meets.{StandsFor, Shares}
use Rattle.machine_hosted.specs.calls.Safe.{WorldFits, RunFits}
use Rattle.machine_hosted.specs.calls.Hosted.{Going, replying}

-- a configuration with these replies left
abbrev pub with_replies : Config → List Reply → Config
with_replies c replies = config c.frames (replying c.world replies) c.collected

module _ (M : Engine) (f : ℕ) where
  -- so many steps more of a function from where it waits; an import was not called yet
  abbrev pub going_on : Function → List Value → Config → ℕ → Ended
  going_on (imported import type) args c n = run_alone M n (host_call f import type args) c.world c.collected
  going_on (defined body tree type) args c n = run_steps M n c

  -- the same as a function of all replies and the number of steps
  abbrev pub resuming : Function → List Value → Config → Going
  resuming fn args c replies n = going_on fn args (with_replies c replies) n

  module _ (codes : List Code) (m : Machine) (c : Config) where
    -- a defined function has frames there, and whatever replies are left, no run from there gets stuck
    abbrev pub WaitsIn : Function → Type 0
    WaitsIn (imported import type) = c.frames ≡ []
    WaitsIn (defined body tree type) = StandsFor M.program codes m c × ((replies : List Reply) (n : ℕ) → RunFits M.program.module_ (run_steps M n (with_replies c replies)).what)

    -- the machine stands where a function waits
    pub record Waits : Type 0 where
      pub fn : Function
      pub is : function_at M.program f ≡ Some fn
      pub shares : Shares m c.world
      pub fits : WorldFits M.program.module_ c.world
      pub place : WaitsIn fn
