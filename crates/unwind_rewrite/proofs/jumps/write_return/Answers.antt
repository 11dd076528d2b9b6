use Rattle.wasm_syntax.specs.Tree.{Return}
use Rattle.rewrite_code.proofs.Pieces.{emits_stop}
use Rattle.unwind_rewrite.proofs.JumpLaws.{transfers}
use Rattle.unwind_rewrite.proofs.jumps.write_return.Goals as goal

pub returns : goal.returns
returns c = λ C p o w. transfers C p o Return w (λ q go. emits_stop c.in_ok-return_values.ensures)
