use Rattle.wasm_syntax.specs.Tree.{BrTable}
use Rattle.unwind_rewrite.proofs.JumpLaws.{transfers}
use Rattle.unwind_rewrite.proofs.jumps.write_branch_table.Goals as goal

pub returns : goal.returns
returns c = λ C p o w. transfers C p o (BrTable c.args.targets.now c.args.default_label) w (λ q go. c.in_ok-branch_table.ensures)
