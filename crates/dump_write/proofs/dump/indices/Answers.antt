use Rattle.std.proofs.Common.{ℕ, List, [], ◌∷◌, ◌++◌, ◌∙◌, ap, sym}
use Rattle.dump_write.proofs.Dumps.{range_grown}
use Rattle.dump_write.proofs.dump.indices.Goals as goal

pub loop-index-preserved : goal.loop-index-preserved
loop-index-preserved c = c.in_ok-push.ensures.ok ∙ ap (λ (ns : List ℕ). ns ++ c.loop-index.index ∷ []) c.loop-index.invariant ∙ sym (range_grown c.loop-index.index)
