use Rattle.wasm_syntax.specs.Tree.{Br}
use Rattle.rewrite_code.proofs.Pieces.{emits_stop}
use Rattle.unwind_rewrite.proofs.JumpLaws.{transfers}
use Rattle.unwind_rewrite.proofs.jumps.write_branch.Goals as goal

pub returns : goal.returns
returns c = λ C p o w. transfers C p o (Br c.args.label) w (λ q go. emits_stop c.in_ok-branch.ensures)
