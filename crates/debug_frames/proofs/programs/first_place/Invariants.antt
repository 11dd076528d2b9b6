use Rattle.std.proofs.Common.{◌≡◌, drop}
use Rattle.debug_frames.specs.inner.Stores.{places_among}
use Rattle.debug_frames.proofs.programs.first_place.Given as goal

abbrev pub invariant-loop-program : goal.invariant-loop-program
invariant-loop-program l = places_among l.sections (drop l.program-index l.programs) l.address ≡ places_among l.sections l.programs l.address
