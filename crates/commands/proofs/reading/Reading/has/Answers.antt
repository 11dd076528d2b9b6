use Rattle.std.proofs.Common.{◌∙◌, ap, rules, tests}
use Rattle.std.proofs.lemmas.Iterator.{YieldsList-from_slice}
use Rattle.std.proofs.lemmas.Iterator.Search.{any_from_yields_List}
use Rattle.std.specs.Str.{bytes_eq}
use Rattle.commands.specs.Reading.{Read, is_among, names}
use Rattle.commands.proofs.DistinctLaws.{among_pairs}
use Rattle.commands.proofs.reading.Reading.has.Goals as goal

pub returns : goal.returns
returns c =
    any_from_yields_List (λ g. bytes_eq g.0.now c.args.name.now) _ _ _ c.any.ensures.ran (YieldsList-from_slice c.self.inside.given.items cc) (λ x b q k. search (rules, tests))
    ∙ among_pairs (λ g. g.0.now) (λ g. g.1.now) c.self.inside.given.items c.args.name.now ∙ ap (λ (r : Read). is_among (names r) c.args.name.now) c.self.view_is
