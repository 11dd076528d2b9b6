use Rattle.std.proofs.Common.{◌≤◌, refl, sym, ap, subst, ◌∙◌, arith, length}
use Rattle.wasm_validate.specs.Heights.{HasOp, HeightIs}
use Rattle.wasm_validate.proofs.HeightLaws.{mark_at, mark_found, low_mark, height_of_mark, height_option}
use Rattle.wasm_validate.proofs.validated.Validated.height.Goals as goal

pub overflow_cast-result : goal.overflow_cast-result
overflow_cast-result c =
    let m = c.self.inside.«module» in
    let a = mark_at c.self.inside.marks m c.args.func c.args.op c.self.invariant.marked (subst (λ x. HasOp x c.args.func c.args.op) (sym c.self.view_is) c.requires) in
    let r = mark_found c.self.inside.marks m c.args.func c.args.op _ c.len.result a c.mark_at.result (c.len.ensures ∙ ap (λ x. length x.imports) c.parts.ensures.value) refl c.mark_at.ensures in
    let k : c.in-Some.mark.height ≤ 4096 = low_mark c.self.inside.marks m c.args.func c.args.op a c.in-Some.mark c.self.invariant.low (sym r ∙ c.in-Some.is) in
    omega (arith, k)

pub returns-in-Some : goal.returns-in-Some
returns-in-Some c =
    let m = c.self.inside.«module» in
    let a = mark_at c.self.inside.marks m c.args.func c.args.op c.self.invariant.marked (subst (λ x. HasOp x c.args.func c.args.op) (sym c.self.view_is) c.requires) in
    let r = mark_found c.self.inside.marks m c.args.func c.args.op _ c.len.result a c.mark_at.result (c.len.ensures ∙ ap (λ x. length x.imports) c.parts.ensures.value) refl c.mark_at.ensures in
    rw (← c.self.view_is) (subst (λ k. HeightIs (height_option k) m c.args.func c.args.op) (sym r ∙ c.in-Some.is) (height_of_mark c.self.inside.marks m c.args.func c.args.op a))

pub returns-in-None : goal.returns-in-None
returns-in-None c =
    let m = c.self.inside.«module» in
    let a = mark_at c.self.inside.marks m c.args.func c.args.op c.self.invariant.marked (subst (λ x. HasOp x c.args.func c.args.op) (sym c.self.view_is) c.requires) in
    let r = mark_found c.self.inside.marks m c.args.func c.args.op _ c.len.result a c.mark_at.result (c.len.ensures ∙ ap (λ x. length x.imports) c.parts.ensures.value) refl c.mark_at.ensures in
    rw (← c.self.view_is) (subst (λ k. HeightIs (height_option k) m c.args.func c.args.op) (sym r ∙ c.in-None.is) (height_of_mark c.self.inside.marks m c.args.func c.args.op a))
