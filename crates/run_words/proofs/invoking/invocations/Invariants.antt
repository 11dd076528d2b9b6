use Rattle.std.proofs.Common.{◌≡◌, map, drop}
use Rattle.std.specs.List.{slice_split}
use Rattle.run_words.specs.Invocations.{invocation, each, is_plus}
use Rattle.run_words.proofs.EachLaws.{in_front}
use Rattle.run_words.proofs.invoking.invocations.Given as goal

abbrev pub invariant-loop-part : goal.invariant-loop-part
invariant-loop-part l = each invocation (slice_split is_plus (map (λ w. w.now) l.words)) ≡ in_front l.invocations (each invocation (map (λ p. map (λ w. w.now) p.now) (drop l.part-index l.part-items)))
