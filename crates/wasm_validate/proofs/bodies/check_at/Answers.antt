use Rattle.std.proofs.Common.{◌≡◌, ◌+◌, ◌<◌, length, sym, ap, subst, ◌∙◌}
use Rattle.std.specs.Prelude.{Some, None}
use Rattle.std.specs.Option.{option_copied}
use Rattle.wasm_syntax.specs.Module.{type_at}
use Rattle.validate_body.proofs.Options.{none_is}
use Rattle.wasm_validate.proofs.WholeLaws.{one_result, has_type, judged_at, few_locals}
use Rattle.wasm_validate.proofs.bodies.check_at.Goals as goal
use Rattle.wasm_syntax.proofs.Bodies.{tree_of}

pub check_body-requires-clause-one_result : goal.check_body-requires-clause-one_result
check_body-requires-clause-one_result c =
    one_result c.args.m.now (length c.args.m.now.imports + c.args.i) c.in-Some.t.now c.requires.others
    (ap (λ n. type_at c.args.m.now (n + c.args.i)) (sym c.len.ensures) ∙ sym c.type_of.ensures ∙ ap (λ o. option_copied o) c.in-Some.is)

pub check_body-requires-clause-has_tree : goal.check_body-requires-clause-has_tree
check_body-requires-clause-has_tree c = tree_of c.args.m.now.bodies c.requires.whole.trees c.args.i c.body_at-body.result.now c.requires.whole.write c.body_at-body.ensures

pub check_body-requires-clause-few_locals : goal.check_body-requires-clause-few_locals
check_body-requires-clause-few_locals c = few_locals c.args.m.now c.args.i c.body_at-body.result.now c.requires.limits c.body_at-body.ensures

pub unreachable-requires : goal.unreachable-requires
unreachable-requires c =
    let le : c.args.i < length c.args.m.now.functions = subst (λ n. c.args.i < n) c.requires.whole.as_many c.requires.here in
    let t = has_type c.args.m.now c.args.i c.requires.others le in
    let e : None ≡ Some t.0 = ap (λ o. option_copied o) (sym c.in-None.is) ∙ c.type_of.ensures ∙ ap (λ n. type_at c.args.m.now (n + c.args.i)) c.len.ensures ∙ t.1 in
    none_is e

pub returns : goal.returns
returns c =
    let e : type_at c.args.m.now (length c.args.m.now.imports + c.args.i) ≡ Some c.in-Some.t.now =
    ap (λ n. type_at c.args.m.now (n + c.args.i)) (sym c.len.ensures) ∙ sym c.type_of.ensures ∙ ap (λ o. option_copied o) c.in-Some.is in
    judged_at c.check_body.result c.args.m.now c.args.i c.in-Some.t.now c.body_at-body.result.now e c.body_at-body.ensures
    (one_result c.args.m.now (length c.args.m.now.imports + c.args.i) c.in-Some.t.now c.requires.others e) c.check_body.ensures.judged c.check_body.ensures.marked
