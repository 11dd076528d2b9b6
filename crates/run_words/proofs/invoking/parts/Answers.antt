use Rattle.std.proofs.Common.{Ok, rules, tests}
use Rattle.std.proofs.lemmas.Iterator.Consumers.{map_from_collect}
use Rattle.std.proofs.lemmas.Iterator.Splits.{YieldsList-from_slice_split}
use Rattle.run_words.specs.Invocations.{is_plus}
use Rattle.run_words.proofs.PartsLaws.{parts_seen}
use Rattle.run_words.proofs.invoking.parts.Goals as goal

pub returns : goal.returns
returns c =
    parts_seen (λ p. p.now) (λ w. w.now) is_plus c.in_ok-parts.parts.items c.args.words.now
    (map_from_collect {E = Unit {0}} (Ok c.in_ok-parts.parts) c.in_ok-parts.ensures.ran (YieldsList-from_slice_split _ (λ w. is_plus w.now) c.args.words.now c.split.ensures.rest c.split.ensures.done c.split.ensures.closure (λ x r q k. search (rules, tests))))
