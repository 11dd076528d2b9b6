use Rattle.std.proofs.Common.{ap₂, ◌∙◌}
use Rattle.wasm_syntax.specs.Tree.{code_of}
use Rattle.rewrite_bodies.specs.calls.Facts.{frail, first_facts}
use Rattle.operand_spill.specs.inner.Exposing.{held, exposed_along}
use Rattle.operand_spill.proofs.Exposings.{exposed_begin, own_exposed}
use Rattle.operand_spill.proofs.exposing.exposed.Goals as goal

pub returns : goal.returns
returns c = λ targets tree w.
    c.in_ok-note_all.ensures targets
    ∙ ap₂ (λ k os. exposed_along (held c.in_ok-marks.marks) k (code_of targets c.args.ops.now) os) c.in_ok-knowing.ensures c.new-found.ensures
    ∙ exposed_begin (held c.in_ok-marks.marks) (first_facts c.args.source.now.memories) targets c.args.ops.now tree w
    ∙ own_exposed (first_facts c.args.source.now.memories) (held c.in_ok-marks.marks) (frail tree.nodes) tree.nodes (c.in_ok-marks.ensures targets tree w)
