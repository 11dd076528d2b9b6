use Rattle.std.proofs.Common.{◌≡◌, ◌<◌, ◌^◌, sym, ap, subst, ◌∙◌, arith}
use Rattle.std.specs.Prelude.{Some}
use Rattle.std.specs.Option.{option_copied}
use Rattle.wasm_syntax.specs.Valid.{body_of}
use Rattle.wasm_validate.specs.inner.Offsets.{SplitsAt, IsNodeAt}
use Rattle.wasm_validate.proofs.OffsetLaws.{not_there, few_ops}
use Rattle.wasm_validate.proofs.offsets.op_at.Goals as goal

pub overflow_cast-result : goal.overflow_cast-result
overflow_cast-result c =
    let e : body_of c.args.m.now c.args.func ≡ Some c.in-Some.body.now = sym c.body_of.ensures ∙ ap (λ o. option_copied o) c.in-Some.is in
    let h = subst (λ b. IsNodeAt b c.in-Some.body.now.ops c.first_from-n.result c.args.at) c.if-is_node_at.true (subst (λ l. IsNodeAt c.is_node_at.result l c.first_from-n.result c.args.at) c.as_slice-ops.ensures c.is_node_at.ensures) in
    let k : c.first_from-n.result < 2 ^ 32 = few_ops c.args.m.now c.args.func c.first_from-n.result c.args.at c.in-Some.body.now c.requires.limits e h in
    omega (arith, k)

pub returns-then-is_node_at : goal.returns-then-is_node_at
returns-then-is_node_at c =
    let e : body_of c.args.m.now c.args.func ≡ Some c.in-Some.body.now = sym c.body_of.ensures ∙ ap (λ o. option_copied o) c.in-Some.is in
    let h = subst (λ b. IsNodeAt b c.in-Some.body.now.ops c.first_from-n.result c.args.at) c.if-is_node_at.true (subst (λ l. IsNodeAt c.is_node_at.result l c.first_from-n.result c.args.at) c.as_slice-ops.ensures c.is_node_at.ensures) in
    (c.in-Some.body.now, h.0, e, h.1, h.2, h.3)

pub returns-else-is_node_at : goal.returns-else-is_node_at
returns-else-is_node_at c =
    let e : body_of c.args.m.now c.args.func ≡ Some c.in-Some.body.now = sym c.body_of.ensures ∙ ap (λ o. option_copied o) c.in-Some.is in
    let h = subst (λ b. IsNodeAt b c.in-Some.body.now.ops c.first_from-n.result c.args.at) c.if-is_node_at.false (subst (λ l. IsNodeAt c.is_node_at.result l c.first_from-n.result c.args.at) c.as_slice-ops.ensures c.is_node_at.ensures) in
    not_there c.args.m.now c.args.func c.args.at c.first_from-n.result c.in-Some.body.now c.requires.whole e (subst (λ l. SplitsAt l c.args.at c.first_from-n.result) c.as_slice-ops.ensures c.first_from-n.ensures) h
