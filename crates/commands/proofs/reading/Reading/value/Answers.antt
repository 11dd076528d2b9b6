use Rattle.std.proofs.Common.{◌∙◌, ap, Some, None, rules, tests}
use Rattle.std.proofs.lemmas.Iterator.{YieldsList-from_slice}
use Rattle.std.proofs.lemmas.Iterator.Search.{find_from_yields_List}
use Rattle.std.specs.Option.{option_map}
use Rattle.std.specs.Str.{bytes_eq}
use Rattle.commands.specs.Reading.{Read, given_value}
use Rattle.commands.proofs.DistinctLaws.{found_pairs}
use Rattle.commands.proofs.reading.Reading.value.Goals as goal

pub returns-in-Some : goal.returns-in-Some
returns-in-Some c =
    ap (option_map (λ g. g.1.now)) (find_from_yields_List (λ g. bytes_eq g.0.now c.args.name.now) c.find.new.self _ (Some c.in-Some.g) c.in-Some.ensures.ran (YieldsList-from_slice c.self.inside.given.items cc) (λ x b q k. search (rules, tests)))
    ∙ found_pairs (λ g. g.0.now) (λ g. g.1.now) c.self.inside.given.items c.args.name.now ∙ ap (λ (r : Read). given_value c.args.name.now r) c.self.view_is

pub returns-in-None : goal.returns-in-None
returns-in-None c =
    ap (option_map (λ g. g.1.now)) (find_from_yields_List (λ g. bytes_eq g.0.now c.args.name.now) c.find.new.self _ None c.in-None.ensures.ran (YieldsList-from_slice c.self.inside.given.items cc) (λ x b q k. search (rules, tests)))
    ∙ found_pairs (λ g. g.0.now) (λ g. g.1.now) c.self.inside.given.items c.args.name.now ∙ ap (λ (r : Read). given_value c.args.name.now r) c.self.view_is
