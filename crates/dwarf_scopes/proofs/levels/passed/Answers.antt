use Rattle.std.proofs.Common.{◌-◌, ◌<◌, length, List, sym, subst, arith}
use Rattle.dwarf_scopes.specs.declared.levels.Level.{Level}
use Rattle.dwarf_scopes.specs.calls.Levels.{AreParts, AreSized}
use Rattle.dwarf_scopes.proofs.LevelLaws.{sized_at, quiet_part}
use Rattle.dwarf_scopes.proofs.levels.passed.Goals as goal

pub returns-then-levels : goal.returns-then-levels
returns-then-levels c = λ entries are. quiet_part c.args.address 18446744073709551615 c.args.at entries (omega arith) (are.quiet c.if-levels.true)

pub returns-then-quiet-gt0 : goal.returns-then-quiet-gt0
returns-then-quiet-gt0 c = λ entries levels.
    let all = c.as_slice-levels.result.now in
    let i = c.levels.left - 1 in
    let lt : i < length all = omega (arith, c.levels.invariant, c.levels-test.true) in
    let are = sized_at entries all i _ (subst (λ (ls : List Level). AreSized ls entries) (sym c.as_slice-levels.ensures) levels.levels) lt in
    c.passed_by-quiet.ensures entries (subst (λ (l : Level). AreParts l.size l.parts entries) (sym c.index-levels-left.is) are)
