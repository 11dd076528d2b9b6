use Rattle.std.proofs.Common.{ℕ, Bool, List, map, is_some, replicate, ap, sym, subst, ◌∙◌, arith}
use Rattle.linear_memory.specs.Memory.{splice}
use Rattle.linear_memory.specs.calls.Paged.{Makes}
use Rattle.linear_memory.proofs.Changed.{put_refused}
use Rattle.linear_memory.proofs.Contents.{length-contents}
use Rattle.linear_memory.proofs.changes.fill_bytes.Goals as goal

pub fill_all-requires-clause-whole : goal.fill_all-requires-clause-whole
fill_all-requires-clause-whole c = c.in-Ok.ensures.3

pub fill_all-requires-clause-inside : goal.fill_all-requires-clause-inside
fill_all-requires-clause-inside c = omega (arith, c.in-Ok.ensures.0, length-contents c.args.pages.now c.requires.whole, c.prepare.auto.pages)

pub fill_all-requires-clause-small : goal.fill_all-requires-clause-small
fill_all-requires-clause-small c = omega (arith, c.requires.small, c.prepare.auto.pages)

pub fill_all-requires-clause-made : goal.fill_all-requires-clause-made
fill_all-requires-clause-made c = c.in-Ok.ensures.2.touched

pub returns-in-Ok : goal.returns-in-Ok
returns-in-Ok c = (
  c.in-Ok.ensures.0,
  c.fill_all.ensures.contents ∙ ap (λ (l : List ℕ). splice l c.args.at (replicate c.args.len c.args.byte)) c.in-Ok.ensures.1,
  subst (λ (m : List Bool). Makes (map is_some c.args.pages.now) m c.args.at c.args.len) (sym c.fill_all.ensures.made) c.in-Ok.ensures.2,
  c.fill_all.ensures.whole,
)

pub returns-in-Err : goal.returns-in-Err
returns-in-Err c = put_refused c.in-Err.fault c.args.pages.now c.prepare.new.pages c.args.at c.args.len (replicate c.args.len c.args.byte) c.in-Err.ensures
