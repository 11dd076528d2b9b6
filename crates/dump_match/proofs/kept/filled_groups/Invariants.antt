use Rattle.std.proofs.Common.{◌≡◌, ◌++◌, drop}
use Rattle.wasm_syntax.specs.Module.{declared_locals}
use Rattle.dump_match.proofs.kept.filled_groups.Given as goal

abbrev pub invariant-loop-group : goal.invariant-loop-group
invariant-loop-group l = declared_locals l.filled ++ declared_locals (drop l.group-index l.groups) ≡ declared_locals l.groups
