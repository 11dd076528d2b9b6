-- What a watch sees of an invocation (Core 4.5.5): where each of its steps is made.
use Rattle.std.specs.Prelude.{ℕ, ◌-◌, Bool, List, [], Option}
use Rattle.wasm_syntax.specs.declared.value.Value.{Value}
use Rattle.wasm_syntax.specs.declared.module.ModuleParts.{ModuleParts as Module}
use Rattle.wasm_syntax.specs.Module.{Program}
use Rattle.wasm_syntax.specs.Run.{engine}
use Rattle.machine_steps.specs.Places.{Place}
use Rattle.host_devices.specs.calls.HostSides.{Calls}
use Rattle.machine_hosted.specs.calls.Settings.{world_of}
use Rattle.machine_hosted.specs.calls.Watching.{Watched, invocation_placing}
use Rattle.machine_hosted.specs.declared.answer.RunEnd.{RunEnd}
use Rattle.wasm_machine.specs.calls.Instances.{State}

-- It sees the steps of the start function, where it was due, and those of the entry.
abbrev pub Seen : {W : Type 0} (saw : Module → W → List (Option Place) → Type 0) (p : Program) (collecting : Bool) (depth entry : ℕ) (args : List Value) (fuel : ℕ) (before now : State) (answer : RunEnd) (unseen seen : W) (old new : Calls) → Type 0
Seen saw p collecting depth entry args fuel before now answer unseen seen old new =
    Watched saw p.module_ (invocation_placing (engine p collecting depth) before.due entry args (world_of before.machine [])) fuel answer (now.steps - before.steps) unseen seen old new
