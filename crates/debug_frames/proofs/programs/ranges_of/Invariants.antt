use Rattle.std.proofs.Common.{◌≡◌, ◌++◌, drop}
use Rattle.dwarf_scopes.specs.calls.Numbered.{ranges_from}
use Rattle.debug_frames.specs.inner.Stores.{claims_in}
use Rattle.debug_frames.proofs.programs.ranges_of.Given as goal

abbrev pub invariant-programs : goal.invariant-programs
invariant-programs l = l.ranges.items ++ ranges_from claims_in l.number (drop l.number l.programs) ≡ ranges_from claims_in 0 l.programs
