use Rattle.std.proofs.Common.{ℕ, Bool, List, length, map, is_some, ap, sym, subst, ◌∙◌, arith}
use Rattle.linear_memory.specs.Memory.{splice}
use Rattle.linear_memory.specs.calls.Paged.{Makes}
use Rattle.linear_memory.proofs.Changed.{put_refused}
use Rattle.linear_memory.proofs.Contents.{length-contents}
use Rattle.linear_memory.proofs.changes.put_bytes.Goals as goal

pub put_all-requires-clause-whole : goal.put_all-requires-clause-whole
put_all-requires-clause-whole c = c.in-Ok.ensures.3

pub put_all-requires-clause-inside : goal.put_all-requires-clause-inside
put_all-requires-clause-inside c = omega (arith, c.in-Ok.ensures.0, length-contents c.args.pages.now c.requires.whole, c.prepare.auto.pages)

pub put_all-requires-clause-small : goal.put_all-requires-clause-small
put_all-requires-clause-small c = omega (arith, c.requires.small, c.prepare.auto.pages)

pub put_all-requires-clause-made : goal.put_all-requires-clause-made
put_all-requires-clause-made c = c.in-Ok.ensures.2.touched

pub returns-in-Ok : goal.returns-in-Ok
returns-in-Ok c = (
  c.in-Ok.ensures.0,
  c.put_all.ensures.contents ∙ ap (λ (l : List ℕ). splice l c.args.at c.args.bytes.now) c.in-Ok.ensures.1,
  subst (λ (m : List Bool). Makes (map is_some c.args.pages.now) m c.args.at (length c.args.bytes.now)) (sym c.put_all.ensures.made) c.in-Ok.ensures.2,
  c.put_all.ensures.whole,
)

pub returns-in-Err : goal.returns-in-Err
returns-in-Err c = put_refused c.in-Err.fault c.args.pages.now c.prepare.new.pages c.args.at (length c.args.bytes.now) c.args.bytes.now c.in-Err.ensures
