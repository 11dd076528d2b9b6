use Rattle.std.proofs.Common.{◌≡◌, false, ◌&&◌, sym, ap, ◌∙◌}
use Rattle.wasm_syntax.specs.Module.{declared_locals}
use Rattle.dump_match.specs.Values.{have_types}
use Rattle.dump_match.proofs.ValueLaws.{too_few, filled, locals_split}
use Rattle.dump_match.proofs.values.can_be_locals.Goals as goal

pub returns-then-values-params : goal.returns-then-values-params
returns-then-values-params c =
    let us = declared_locals c.args.groups.now in
    sym (filled c.args.values.now _ (sym c.is_empty.ensures ∙ c.if-is_empty.false) ∙ too_few c.args.params.now us c.args.values.now c.if-values-params.true)

pub returns-then-have_types : goal.returns-then-have_types
returns-then-have_types c =
    let us = declared_locals c.args.groups.now in
    let back = c.split_at.result.1.now in
    c.have_declared_types.ensures
    ∙ ap (λ b. b && have_types us back) (sym (sym c.have_types.ensures ∙ c.if-have_types.true))
    ∙ locals_split c.args.params.now us c.args.values.now c.split_at.result.0.now back (sym c.is_empty.ensures ∙ c.if-is_empty.false) c.if-values-params.false c.split_at.ensures.front c.split_at.ensures.back

pub returns-else-have_types : goal.returns-else-have_types
returns-else-have_types c =
    let us = declared_locals c.args.groups.now in
    let back = c.split_at.result.1.now in
    let none : have_types c.args.params.now c.split_at.result.0.now ≡ false = sym c.have_types.ensures ∙ c.if-have_types.false in
    c.if-have_types.false
    ∙ ap (λ b. b && have_types us back) (sym none)
    ∙ locals_split c.args.params.now us c.args.values.now c.split_at.result.0.now back (sym c.is_empty.ensures ∙ c.if-is_empty.false) c.if-values-params.false c.split_at.ensures.front c.split_at.ensures.back
