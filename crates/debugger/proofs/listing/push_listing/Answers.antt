use Rattle.std.proofs.Common.{◌≡◌, ◌++◌, length, arith, sym, subst, ◌∙◌, eqb-true}
use Rattle.std.specs.Prelude.{OnOk}
use Rattle.debugger.proofs.ListingLines.{recorded, nothing, unrecorded}
use Rattle.debugger.proofs.listing.push_listing.Goals as goal

pub returns-then-not-is_empty : goal.returns-then-not-is_empty
returns-then-not-is_empty c =
    subst (λ z. OnOk c.push_lines.result (c.push_lines.new.out ≡ c.args.out.now ++ z)) (recorded c.args.label.now c.args.count c.args.values.now (sym c.is_empty.ensures ∙ c.if-not-is_empty.true)) c.push_lines.ensures

pub returns-then-count-eq0 : goal.returns-then-count-eq0
returns-then-count-eq0 c =
    let none : length c.args.values.now ≡ 0 = eqb-true _ _ (sym c.is_empty.ensures ∙ c.if-not-is_empty.false) in
    subst (λ z. OnOk c.push_none.result (c.push_none.new.out ≡ c.args.out.now ++ z)) (nothing c.args.label.now c.args.count c.args.values.now none c.if-count-eq0.true) c.push_none.ensures

pub returns : goal.returns
returns c =
    let none : length c.args.values.now ≡ 0 = eqb-true _ _ (sym c.is_empty.ensures ∙ c.if-not-is_empty.false) in
    subst (λ z. OnOk c.push_missing.result (c.push_missing.new.out ≡ c.args.out.now ++ z)) (unrecorded c.args.label.now c.args.count c.args.values.now none (omega (arith, c.if-count-eq0.false))) c.push_missing.ensures
