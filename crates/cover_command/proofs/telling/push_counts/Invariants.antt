use Rattle.std.proofs.Common.{◌≡◌, ◌++◌}
use Rattle.std.specs.List.{flat_map}
use Rattle.cover_command.specs.CoverText.{count_text}
use Rattle.cover_command.specs.inner.Merging.{seen_counts}
use Rattle.cover_command.proofs.telling.push_counts.Given as goal

abbrev pub invariant-loop-line : goal.invariant-loop-line
invariant-loop-line l = l.out ++ flat_map count_text (seen_counts l.line-iterator) ≡ l.fn.out ++ flat_map count_text (seen_counts l.counts.entries)
