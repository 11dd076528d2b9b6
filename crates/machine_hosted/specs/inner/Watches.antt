-- Where the steps of a run of frames are made.
use Rattle.std.specs.Prelude.{List}
use Rattle.wasm_syntax.specs.declared.host.CollectorCall.{CollectorCall}
use Rattle.wasm_syntax.specs.Host.{World}
use Rattle.wasm_syntax.specs.Machine.{Engine, Frame, config}
use Rattle.machine_steps.specs.Places.{step_places}
use Rattle.machine_hosted.specs.calls.Hosted.{replying}
use Rattle.machine_hosted.specs.calls.Watching.{Placing}

abbrev pub frames_placing : Engine → List Frame → World → List CollectorCall → Placing
frames_placing M fs w co replies n = step_places M n (config fs (replying w replies) co)
