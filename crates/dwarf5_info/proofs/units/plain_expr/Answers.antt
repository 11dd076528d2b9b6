use Rattle.std.proofs.Common.{rules, ◌≡◌, arith}
use Rattle.std.specs.Prelude.{IfOk}
use Rattle.dwarf5_info.specs.Units.{plain_of}
use Rattle.dwarf5_info.proofs.PlainLaws.{answered_is, answered_only}
use Rattle.dwarf5_info.proofs.units.plain_expr.Goals as goal

pub returns-then-unit-eq5-clause-spelled : goal.returns-then-unit-eq5-clause-spelled
returns-then-unit-eq5-clause-spelled c =
    let exact : IfOk c.with_addresses.result (λ bytes. bytes ≡ plain_of c.args.sections.now c.args.unit.now c.args.expr.now) = search rules in
    answered_is c.args.sections.now c.args.unit.now c.args.expr.now c.with_addresses.result (λ i. omega (arith, c.type_inv.expr i)) exact

pub returns-then-unit-eq5-clause-only : goal.returns-then-unit-eq5-clause-only
returns-then-unit-eq5-clause-only c =
    let exact : IfOk c.with_addresses.result (λ bytes. bytes ≡ plain_of c.args.sections.now c.args.unit.now c.args.expr.now) = search rules in
    answered_only c.args.sections.now c.args.unit.now c.args.expr.now c.with_addresses.result (λ i. omega (arith, c.type_inv.expr i)) exact
