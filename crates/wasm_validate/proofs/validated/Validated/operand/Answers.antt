use Rattle.std.proofs.Common.{◌≡◌, ◌-◌, length, sym, ap, subst, ◌∙◌}
use Rattle.std.specs.Prelude.{Some, None}
use Rattle.wasm_syntax.specs.Module.{IsModule}
use Rattle.wasm_validate.specs.Heights.{HasOp}
use Rattle.wasm_validate.specs.calls.Operands.{HasOperand}
use Rattle.wasm_validate.proofs.OperandLaws.{operand_read, static_there}
use Rattle.wasm_validate.proofs.validated.Validated.operand.Goals as goal

pub unreachable-requires : goal.unreachable-requires
unreachable-requires c =
    let m = c.self.inside.«module» in
    let b = subst (λ x. HasOperand x c.args.func c.args.op c.args.from_bottom) (sym c.self.view_is) c.requires.below in
    let r = operand_read c.self.inside.marks m c.args.func c.args.op c.args.from_bottom (c.args.func - c.len.result) b.0 c.top_at.result c.self.invariant.valid c.self.invariant.marked
    (subst (λ x. HasOp x c.args.func c.args.op) (sym c.self.view_is) c.requires.there) b (ap (λ n. c.args.func - n) (c.len.ensures ∙ ap (λ x. length x.imports) c.parts.ensures.value)) c.top_at.ensures b.1 in
    let z : None ≡ Some r.0 = sym c.in-None.is ∙ r.2 in
    cc

pub returns-clause-typed : goal.returns-clause-typed
returns-clause-typed c =
    let m = c.self.inside.«module» in
    let b = subst (λ x. HasOperand x c.args.func c.args.op c.args.from_bottom) (sym c.self.view_is) c.requires.below in
    rw (← c.self.view_is) (λ types h.
    let r = operand_read c.self.inside.marks m c.args.func c.args.op c.args.from_bottom (c.args.func - c.len.result) types c.top_at.result c.self.invariant.valid c.self.invariant.marked
    (subst (λ x. HasOp x c.args.func c.args.op) (sym c.self.view_is) c.requires.there) b (ap (λ n. c.args.func - n) (c.len.ensures ∙ ap (λ x. length x.imports) c.parts.ensures.value)) c.top_at.ensures h in
    r.1 ∙ sym r.2 ∙ c.in-Some.is)

pub returns-clause-fixed : goal.returns-clause-fixed
returns-clause-fixed c =
    let m = c.self.inside.«module» in
    let b = subst (λ x. HasOperand x c.args.func c.args.op c.args.from_bottom) (sym c.self.view_is) c.requires.below in
    rw (← c.self.view_is) (λ types s.
    let h = static_there m c.args.func c.args.op types (subst IsModule c.parts.ensures.value c.parts.ensures.whole) c.self.invariant.valid s in
    let r = operand_read c.self.inside.marks m c.args.func c.args.op c.args.from_bottom (c.args.func - c.len.result) types c.top_at.result c.self.invariant.valid c.self.invariant.marked
    (subst (λ x. HasOp x c.args.func c.args.op) (sym c.self.view_is) c.requires.there) b (ap (λ n. c.args.func - n) (c.len.ensures ∙ ap (λ x. length x.imports) c.parts.ensures.value)) c.top_at.ensures h in
    r.1 ∙ sym r.2 ∙ c.in-Some.is)
