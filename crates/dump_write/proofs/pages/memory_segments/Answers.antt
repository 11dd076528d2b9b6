use Rattle.std.proofs.Common.{◌≡◌, ◌*◌, ◌<◌, length, ◌∙◌, arith}
use Rattle.linear_memory.specs.Memory.{page_size, pages}
use Rattle.dump_write.proofs.LaidLists.{laying_more, laying_on, pages_all}
use Rattle.dump_write.proofs.pages.memory_segments.Goals as goal
use Rattle.dump_write.proofs.pages.memory_segments.Goals.{in-Some+in_ok-push, in_default}

pub returns-clause-paged : goal.returns-clause-paged
returns-clause-paged c = pages_all c.loop-index.segments c.loop-index.index c.loop-index.invariant.paged

pub loop-index-preserved : goal.loop-index-preserved
loop-index-preserved c =
    let i = c.loop-index.index in
    let memory = c.args.memory.now.memory in
    let n = pages c.args.memory.now.memory in
    let old = c.loop-index.segments in
    let new = c.match-page.segments in
    let known = c.loop-index.invariant in
    let below : c.loop-index.index < pages c.args.memory.now.memory = omega arith in
    let size : length c.args.memory.now.memory.bytes ≡ page_size * pages c.args.memory.now.memory = omega arith in
    elim c.match-page.branch [
      | in-Some+in_ok-push w ↦ laying_more n i memory.bytes w.in-Some.bytes.now old new below size known w.in-Some.ensures.shown (w.segments-is ∙ w.in_ok-push.ensures.ok)
      | in_default w ↦ laying_on n i memory.bytes old new below known w.in_default.ensures.absent w.segments-is
    ]
