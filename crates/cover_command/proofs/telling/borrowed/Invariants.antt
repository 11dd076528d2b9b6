use Rattle.std.proofs.Common.{◌≡◌, ◌++◌, map, drop}
use Rattle.cover_command.proofs.telling.borrowed.Given as goal

abbrev pub invariant-loop-program : goal.invariant-loop-program
invariant-loop-program l = map (λ x. x.now) l.tables.items ++ drop l.program-index l.lines ≡ l.lines
