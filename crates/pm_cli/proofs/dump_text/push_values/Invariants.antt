use Rattle.std.proofs.Common.{◌≡◌, ◌++◌, take}
use Rattle.std.specs.Prelude.{codes}
use Rattle.std.specs.List.{flat_map}
use Rattle.pm_cli.specs.Show.{seen_text}
use Rattle.pm_cli.proofs.dump_text.push_values.Given as goal

abbrev pub invariant-loop-value : goal.invariant-loop-value
invariant-loop-value l = l.out ≡ l.initial.out ++ flat_map (λ w. codes " " ++ seen_text w) (take l.value-index l.others)
