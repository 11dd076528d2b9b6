use Rattle.std.proofs.Common.{ℕ, Bool, List, inr, refl, map, is_some, ap, sym, subst, ◌∙◌, arith}
use Rattle.linear_memory.specs.Memory.{splice, window}
use Rattle.linear_memory.specs.calls.Paged.{Makes}
use Rattle.linear_memory.proofs.Changed.{copy_refused}
use Rattle.linear_memory.proofs.Contents.{length-contents}
use Rattle.linear_memory.proofs.changes.copy_bytes.Goals as goal

pub move_all-requires-clause-whole : goal.move_all-requires-clause-whole
move_all-requires-clause-whole c = c.in-Ok.ensures.3

pub move_all-requires-clause-inside : goal.move_all-requires-clause-inside
move_all-requires-clause-inside c = omega (arith, c.in-Ok.ensures.0, c.is_inside.ensures.inside c.if-not-is_inside.false, length-contents c.args.pages.now c.requires.whole, c.prepare.auto.pages)

pub move_all-requires-clause-small : goal.move_all-requires-clause-small
move_all-requires-clause-small c = omega (arith, c.requires.small, c.prepare.auto.pages)

pub move_all-requires-clause-made : goal.move_all-requires-clause-made
move_all-requires-clause-made c = c.in-Ok.ensures.2.touched

pub returns-then-not-is_inside : goal.returns-then-not-is_inside
returns-then-not-is_inside c = (inr (c.is_inside.ensures.out c.if-not-is_inside.true), refl)

pub returns-in-Ok : goal.returns-in-Ok
returns-in-Ok c = (
  (c.in-Ok.ensures.0, c.is_inside.ensures.inside c.if-not-is_inside.false),
  c.move_all.ensures.contents ∙ ap (λ (l : List ℕ). splice l c.args.to (window l c.args.from c.args.len)) c.in-Ok.ensures.1,
  subst (λ (m : List Bool). Makes (map is_some c.args.pages.now) m c.args.to c.args.len) (sym c.move_all.ensures.made) c.in-Ok.ensures.2,
  c.move_all.ensures.whole,
)

pub returns-in-Err : goal.returns-in-Err
returns-in-Err c = copy_refused c.in-Err.fault c.args.pages.now c.prepare.new.pages c.args.to c.args.from c.args.len (c.is_inside.ensures.inside c.if-not-is_inside.false) c.in-Err.ensures
