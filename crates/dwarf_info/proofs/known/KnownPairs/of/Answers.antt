use Rattle.std.proofs.Common.{ℕ, List, subst}
use Rattle.std.specs.Prelude.{IfOk}
use Rattle.std.specs.Ordering.{nat_cmp}
use Rattle.std.specs.BTreeMap.{get}
use Rattle.dwarf_info.specs.calls.Pairs.{Knows}
use Rattle.dwarf_info.proofs.known.KnownPairs.of.Goals as goal

pub returns-in-Ok : goal.returns-in-Ok
returns-in-Ok g c =
    subst (λ (section : List ℕ). IfOk c.pairs_at.result (λ all. Knows g.V.UnitVersion.pair section all.lists.value (get nat_cmp all.known))) c.abbreviations-section.ensures c.pairs_at.ensures
