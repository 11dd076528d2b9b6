use Rattle.std.proofs.Common.{◌≡◌, map, take}
use Rattle.wasm_syntax.specs.Module.{Program}
use Rattle.wasm_syntax.specs.Machine.{Config}
use Rattle.wasm_machine.specs.calls.Instances.{StandsAt}
use Rattle.dump_write.specs.Image.{frame_images}
use Rattle.dump_write.specs.ImageBytes.{frame_of}
use Rattle.trap_image.proofs.dump.all_frames.Given as goal

abbrev pub invariant-loop-index : goal.invariant-loop-index
invariant-loop-index l = (p : Program) (c : Config) → StandsAt l.instance p c → l.frames ≡ map frame_of (take l.index (frame_images c.frames))
