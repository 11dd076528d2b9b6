use Rattle.std.proofs.Common.{◌+◌, ◌^◌, ◌∙◌, ap}
use Rattle.std.specs.Prelude.{unwrap_or, min, ◌-◌}
use Rattle.cover_command.proofs.Merges.{added, still_some}
use Rattle.cover_command.proofs.merging.add.Goals as goal

pub returns-clause-on : goal.returns-clause-on
returns-clause-on c =
    added c.args.counts.now c.insert.new.self c.args.line c.args.steps c.saturating_add.result c.in_ok-insert.ensures.updates
    (c.saturating_add.ensures ∙ ap (λ n. min (n + c.args.steps) (2 ^ 64 - 1)) (c.unwrap_or-before.ensures ∙ ap (λ o. unwrap_or o 0) (c.copied.ensures ∙ c.get.ensures.value)))

pub returns-clause-some : goal.returns-clause-some
returns-clause-some c =
    still_some c.args.counts.now c.insert.new.self c.args.line c.args.steps c.saturating_add.result c.in_ok-insert.ensures.updates
    (c.saturating_add.ensures ∙ ap (λ n. min (n + c.args.steps) (2 ^ 64 - 1)) (c.unwrap_or-before.ensures ∙ ap (λ o. unwrap_or o 0) (c.copied.ensures ∙ c.get.ensures.value)))
