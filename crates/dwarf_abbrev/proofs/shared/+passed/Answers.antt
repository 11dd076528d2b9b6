use Rattle.std.proofs.Common.{◌-◌, drop, sym, ap, ◌∙◌}
use Rattle.dwarf_abbrev.specs.calls.Shared.{list_of}
use Rattle.dwarf_abbrev.specs.inner.Linked.{lists}
use Rattle.dwarf_abbrev.proofs.LinkLaws.{drop_next}
use Rattle.dwarf_abbrev.proofs.shared.+passed.Goals as goal

pub returns-then-count-eq0-clause-list : goal.returns-then-count-eq0-clause-list
returns-then-count-eq0-clause-list g t c = ap (λ k. drop k (list_of (lists c.args.links.now) c.args.list)) (sym c.if-count-eq0.true)

pub returns-clause-list : goal.returns-clause-list
returns-clause-list g t c =
    let k = c.args.count in
    c.passed.ensures.list ∙ ap (drop (k - 1)) c.behind_first.ensures.list ∙ drop_next k (list_of (lists c.args.links.now) c.args.list) c.if-count-eq0.false
