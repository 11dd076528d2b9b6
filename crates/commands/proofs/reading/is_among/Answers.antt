use Rattle.std.proofs.Common.{◌∙◌, rules, tests}
use Rattle.std.proofs.lemmas.Iterator.{YieldsList-from_slice}
use Rattle.std.proofs.lemmas.Iterator.Search.{any_from_yields_List}
use Rattle.std.specs.Str.{bytes_eq}
use Rattle.commands.proofs.DistinctLaws.{among_map}
use Rattle.commands.proofs.reading.is_among.Goals as goal

pub returns : goal.returns
returns c =
    any_from_yields_List (λ v. bytes_eq v.now c.args.word.now) _ _ _ c.any.ensures.ran (YieldsList-from_slice c.args.words.now cc) (λ x b q k. search (rules, tests))
    ∙ among_map (λ v. v.now) c.args.words.now c.args.word.now
