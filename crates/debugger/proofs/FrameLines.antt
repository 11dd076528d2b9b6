-- The lines of frames, one after the other.
use Rattle.std.proofs.Common.{◌≡◌, ℕ, ◌+◌, ◌<◌, ◌≤◌, List, ◌++◌, length, get_or, drop, ap, ◌∙◌}
use Rattle.wasm_syntax.specs.declared.module.ModuleParts.{ModuleParts as Module}
use Rattle.dump_format.specs.declared.dump.Frame.{Frame}
use Rattle.debug_frames.specs.Information.{SourceInformation}
use Rattle.debug_frames.specs.Frames.{frame_text}
use Rattle.commands.specs.Values.{numbered}
use Rattle.debugger.proofs.ListingLines.{goes_on, is_done}

pub frames_go_on : (x now : SourceInformation) (m : Module) (frames : List Frame) (i : ℕ) (f other : Frame) (out more total : List ℕ) → now ≡ x → i < length frames → f ≡ get_or frames i other
    → more ≡ out ++ frame_text now m i f → out ++ numbered (frame_text x m) i (drop i frames) ≡ total → more ++ numbered (frame_text x m) (i + 1) (drop (i + 1) frames) ≡ total
frames_go_on x now m frames i f other out more total same lt is wrote so_far =
    goes_on (frame_text x m) frames i f other out more total lt is (wrote ∙ ap (λ (s : SourceInformation). out ++ frame_text s m i f) same) so_far

pub frames_are_done : (x : SourceInformation) (m : Module) (frames : List Frame) (i : ℕ) (out total : List ℕ) → length frames ≤ i → out ++ numbered (frame_text x m) i (drop i frames) ≡ total → out ≡ total
frames_are_done x m frames i out total le so_far = is_done (frame_text x m) frames i out total le so_far
