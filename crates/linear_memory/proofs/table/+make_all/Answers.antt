use Rattle.std.proofs.Common.{◌+◌, ◌/◌, ◌%◌, ◌≤◌, ◌<◌, map, is_some, length, ap, sym, ◌∙◌, arith}
use Rattle.linear_memory.proofs.Contents.{made_is_at}
use Rattle.linear_memory.proofs.Making.{makes_behind, makes_first}
use Rattle.linear_memory.proofs.table.+make_all.Goals as goal

pub returns-then-is_made-clause-made : goal.returns-then-is_made-clause-made
returns-then-is_made-clause-made t c =
    let at = c.args.at in let len = c.args.len in let step = c.min-step.result in let ps = c.args.pages.now in
    let le : step ≤ len = omega (arith, c.min-step.ensures) in
    let fits : at % 65536 + step ≤ 65536 = omega (arith, c.min-step.ensures) in
    let inside : at / 65536 < length ps = omega (arith, c.requires.inside, c.if-len-eq0.false) in
    let here = made_is_at ps (at / 65536) c.index-pages-index.result inside c.index-pages-index.is (ap is_some c.index-pages-index.is ∙ sym c.is_made.ensures ∙ c.if-is_made.true) in
    λ h. makes_behind (map is_some ps) (map is_some c.make_all.new.pages) at step len le fits here (c.make_all.ensures.made h)

pub returns-then-make_all-clause-made : goal.returns-then-make_all-clause-made
returns-then-make_all-clause-made t c =
    let at = c.args.at in let len = c.args.len in let step = c.min-step.result in
    let le : step ≤ len = omega (arith, c.min-step.ensures) in
    let some : 0 < len = omega (arith, c.if-len-eq0.false) in
    let fits : at % 65536 + step ≤ 65536 = omega (arith, c.min-step.ensures) in
    λ _. makes_first (map is_some c.args.pages.now) (map is_some c.make_all-in-Ok.new.pages) (map is_some c.install.new.pages) at step len le some fits
    (c.make_all-in-Ok.ensures.made c.if-make_all.true) c.install.ensures.stays c.install.ensures.made c.install.ensures.only
