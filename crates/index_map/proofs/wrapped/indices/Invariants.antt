use Rattle.std.proofs.Common.{◌≡◌, ◌+◌, ◌++◌, length, flat_map, map, take, drop}
use Rattle.rewrite_bodies.specs.Numbering.{wraps, wrapper_base}
use Rattle.rewrite_modules.specs.calls.Instrument.{new_exports}
use Rattle.index_map.proofs.wrapped.indices.Given as goal

abbrev pub invariant-loop-export : goal.invariant-loop-export
invariant-loop-export l = record {
  place : l.next ≡ wrapper_base l.fn.parts + length (flat_map (wraps l.fn.parts) (take l.export-index l.fn.parts.exports));
  so_far : l.out.items ++ map (λ e. e.index) (new_exports l.fn.parts (length (flat_map (wraps l.fn.parts) (take l.export-index l.fn.parts.exports))) (drop l.export-index l.fn.parts.exports)) ≡ map (λ e. e.index) (new_exports l.fn.parts 0 l.fn.parts.exports);
}
