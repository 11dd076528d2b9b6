use Rattle.std.proofs.Common.{sym, ap, ◌∙◌}
use Rattle.wasm_validate.specs.inner.Places.{one_instr}
use Rattle.wasm_validate.proofs.ConstantLaws.{const_decides, const_none}
use Rattle.wasm_validate.proofs.expressions.is_const_body.Goals as goal

pub returns-in-Some : goal.returns-in-Some
returns-in-Some c =
    const_decides c.is_const_instr.result c.args.globals.now c.args.body.now c.args.t c.in-Some.code (ap one_instr (sym c.as_slice.ensures) ∙ sym c.only_instr.ensures ∙ c.in-Some.is) c.is_const_instr.ensures

pub returns-in-None : goal.returns-in-None
returns-in-None c = const_none c.args.globals.now c.args.body.now c.args.t (ap one_instr (sym c.as_slice.ensures) ∙ sym c.only_instr.ensures ∙ c.in-None.is)
