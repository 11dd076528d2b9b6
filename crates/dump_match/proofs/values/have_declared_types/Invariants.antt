use Rattle.std.proofs.Common.{◌≡◌, drop}
use Rattle.wasm_syntax.specs.Module.{declared_locals}
use Rattle.dump_match.specs.Values.{have_types}
use Rattle.dump_match.proofs.values.have_declared_types.Given as goal

abbrev pub invariant-loop-group : goal.invariant-loop-group
invariant-loop-group l = have_types (declared_locals (drop l.group-index l.groups)) l.rest ≡ have_types (declared_locals l.groups) l.fn.values
