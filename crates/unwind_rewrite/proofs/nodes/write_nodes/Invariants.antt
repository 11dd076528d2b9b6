use Rattle.std.proofs.Common.{[], length}
use Rattle.wasm_syntax.specs.Tree.{Tree, Writes}
use Rattle.rewrite_bodies.specs.calls.Rewrite.{rewrite}
use Rattle.operand_spill.specs.calls.Standing.{Fine}
use Rattle.unwind_rewrite.specs.calls.Points.{Holds, code_in, left_of}
use Rattle.unwind_rewrite.proofs.nodes.write_nodes.Given as goal

abbrev pub invariant-points : goal.invariant-points
invariant-points l =
    (tree : Tree) → Writes l.fn.body.targets l.fn.body.ops tree → Fine l.fn.context [] tree.nodes →
    Holds l.fn.context (code_in l.fn.body) l.fn.writer (rewrite l.fn.context 1 [] tree.nodes) l.walk l.writer l.point

abbrev pub decreases-points : goal.decreases-points
decreases-points l = left_of (length l.fn.body.ops) l.point
