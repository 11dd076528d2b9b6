use Rattle.std.proofs.Common.{◌≡◌, flat_map, take}
use Rattle.rewrite_bodies.specs.Numbering.{wraps}
use Rattle.index_map.proofs.wrapped.of_exports.Given as goal

abbrev pub invariant-loop-export : goal.invariant-loop-export
invariant-loop-export l = l.out.items ≡ flat_map (wraps l.fn.parts) (take l.export-index l.fn.parts.exports)
