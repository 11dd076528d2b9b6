use Rattle.std.proofs.Common.{◌≡◌, ◌++◌, drop}
use Rattle.debug_frames.specs.Frames.{frame_text}
use Rattle.debugger.proofs.texts.push_each.Given as goal
use Rattle.commands.specs.Values.{numbered}

abbrev pub invariant-loop-i : goal.invariant-loop-i
invariant-loop-i l = record {
  same : l.symbolizer ≡ l.fn.symbolizer;
  text : l.out ++ numbered (frame_text l.fn.symbolizer l.parts) l.i (drop l.i l.frames) ≡ l.fn.out ++ numbered (frame_text l.fn.symbolizer l.parts) 0 l.frames;
}
