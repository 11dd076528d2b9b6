use Rattle.std.proofs.Common.{◌≡◌, ◌++◌, map, drop}
use Rattle.debug_command.proofs.words.texts_of.Given as goal

abbrev pub invariant-loop-word : goal.invariant-loop-word
invariant-loop-word l = map (λ w. w.now) l.words ≡ l.texts ++ map (λ w. w.now) (drop l.word-index l.words)
