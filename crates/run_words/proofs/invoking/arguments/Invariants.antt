use Rattle.std.proofs.Common.{◌≡◌, map, drop}
use Rattle.run_words.specs.Invocations.{argument, each}
use Rattle.run_words.proofs.EachLaws.{in_front}
use Rattle.run_words.proofs.invoking.arguments.Given as goal

abbrev pub invariant-loop-word : goal.invariant-loop-word
invariant-loop-word l = each argument (map (λ w. w.now) l.words) ≡ in_front l.values (each argument (map (λ w. w.now) (drop l.word-index l.words)))
