use Rattle.std.proofs.Common.{◌≡◌, ◌<◌, ◌∙◌, sym, arith}
use Rattle.var_values.proofs.VariantLaws.{listed_ends, listed_stops, listed_in, listed_on}
use Rattle.var_values.proofs.lists.is_listed.Goals as goal

pub returns-in_default : goal.returns-in_default
returns-in_default c =
    let some : 0 < c.items.left = omega arith in
    listed_stops _ c.items.left c.args.wanted.signed c.args.wanted.number c.items.reader _ c.items.invariant some c.in_default.ensures

pub returns-then-is_in : goal.returns-then-is_in
returns-then-is_in c =
    let some : 0 < c.items.left = omega arith in
    listed_in _ c.items.left c.args.wanted.signed c.args.wanted.number c.in-Ok.found c.items.reader _ c.items.invariant some c.in-Ok.ensures (sym c.is_in.ensures ∙ c.if-is_in.true)

pub items-preserved : goal.items-preserved
items-preserved c =
    let some : 0 < c.items.left = omega arith in
    listed_on _ c.items.left c.args.wanted.signed c.args.wanted.number c.in-Ok.found c.items.reader _ c.items.invariant some c.in-Ok.ensures (sym c.is_in.ensures ∙ c.if-is_in.false)

pub returns : goal.returns
returns c =
    let none : c.items.left ≡ 0 = omega arith in
    listed_ends _ c.items.left c.args.wanted.signed c.args.wanted.number c.items.reader c.items.invariant none
