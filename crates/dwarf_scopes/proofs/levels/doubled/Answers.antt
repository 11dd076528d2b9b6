use Rattle.dwarf_scopes.proofs.LevelLaws.{two_first, double_more, double_all}
use Rattle.dwarf_scopes.proofs.levels.doubled.Goals as goal

pub parts-preserved : goal.parts-preserved
parts-preserved c = λ size es are.
    double_more size es c.one-item.result c.two-item.result c.in_ok-both.both c.parts.left.now _ c.parts.double c.push.new.self
    (two_first c.parts.left.now c.one-item.result c.two-item.result _ _ c.in-len2-up.len_at_least c.one-item.is c.two-item.is) c.in_ok-both.ensures c.in_ok-push.ensures.ok (c.parts.invariant size es are)

pub returns : goal.returns
returns c = λ size es are. double_all size es c.parts.left.now c.parts.double (c.parts.invariant size es are)
