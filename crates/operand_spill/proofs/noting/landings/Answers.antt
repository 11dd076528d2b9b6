use Rattle.std.proofs.Common.{sym, subst, [], arith}
use Rattle.wasm_syntax.specs.Tree.{code_of}
use Rattle.rewrite_bodies.specs.calls.Landings.{landings_from}
use Rattle.operand_spill.specs.calls.Before.{before}
use Rattle.operand_spill.specs.inner.Knowing.{Proceeds}
use Rattle.operand_spill.proofs.Knowing.{know_start}
use Rattle.rewrite_modules.proofs.Multiple.{code_length}
use Rattle.operand_spill.proofs.Gathered.{Gathers, gathers_begin, gathers_end, walked}
use Rattle.operand_spill.proofs.noting.landings.Goals as goal

pub loop-pc-init : goal.loop-pc-init
loop-pc-init c = λ C targets tree l s x w. (
  subst (λ xs. Gathers C (code_of targets c.args.ops.now) (before C tree.nodes) 0 xs (landings_from C [] tree.nodes [])) (sym c.new-found.ensures) (gathers_begin C targets c.args.ops.now tree w),
  subst (λ x. Proceeds C (code_of targets c.args.ops.now) (before C tree.nodes) 0 x) (sym c.new-walk.ensures) (know_start C targets c.args.ops.now tree w),
)

pub loop-pc-preserved : goal.loop-pc-preserved
loop-pc-preserved c = λ C targets tree l s x w.
    let i = c.loop-pc.invariant C targets tree l s x w in
    let whole = before C tree.nodes in
    let on = c.in_ok-pc.ensures.stays C targets whole l s i.1 in
    (walked C targets c.args.ops.now whole c.loop-pc.pc c.in_ok-pc.pc c.read_op-op.result c.loop-pc.walk c.loop-pc.found c.note.new.found (landings_from C [] tree.nodes []) c.read_op-op.ensures c.loop-pc-test.true i.1 i.0 (c.in_ok-note.ensures C targets l s x) c.in_ok-pc.ensures.forward on.0, on.1)

pub returns : goal.returns
returns c = λ C targets tree l s x w.
    let i = c.loop-pc.invariant C targets tree l s x w in
    let code = code_of targets c.args.ops.now in
    gathers_end C code (before C tree.nodes) c.loop-pc.pc c.loop-pc.found (landings_from C [] tree.nodes []) (omega (arith, c.loop-pc-test.false, code_length targets c.args.ops.now)) i.0
