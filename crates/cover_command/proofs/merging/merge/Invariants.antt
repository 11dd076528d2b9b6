use Rattle.std.proofs.Common.{map}
use Rattle.cover_command.proofs.Merges.{AddsUp}
use Rattle.cover_command.proofs.merging.merge.Given as goal

abbrev pub invariant-loop-line : goal.invariant-loop-line
invariant-loop-line l = AddsUp (map (λ x. x.now) l.tables.items) l.lines l.line-index l.counts
