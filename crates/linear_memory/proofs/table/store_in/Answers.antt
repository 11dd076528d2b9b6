use Rattle.std.proofs.Common.{◌≡◌, ℕ, ◌+◌, ◌/◌, ◌%◌, ◌≤◌, length, is_some, map, set, get_or, ap, sym, ◌∙◌, subst, arith}
use Rattle.std.proofs.lemmas.List.{get_or_default}
use Rattle.linear_memory.specs.Memory.{to_bytes}
use Rattle.linear_memory.specs.calls.Paged.{AllMade}
use Rattle.linear_memory.proofs.Contents.{stored_all}
use Rattle.linear_memory.proofs.LowBytes.{length-to_bytes}
use Rattle.linear_memory.proofs.table.store_in.Goals as goal

pub returns-then-is_made-clause-stored : goal.returns-then-is_made-clause-stored
returns-then-is_made-clause-stored c = λ _.
    let ps = c.args.pages.now in let at = c.args.at in let zs = to_bytes c.args.width c.args.value in
    let n : length zs ≡ c.args.width = length-to_bytes c.args.width c.args.value in
    let fits : at % 65536 + length zs ≤ 65536 = omega (arith, n, c.if-at-width-le65536.true) in
    let all = stored_all ps at zs _ c.store.new.self c.requires.whole c.if-at-pages.true fits (ap (get_or ps (at / 65536)) c.index-pages-at-then-is_made.is)
    (ap is_some (get_or_default ps (at / 65536) _ _ c.if-at-pages.true) ∙ sym c.is_made.ensures ∙ c.if-is_made.true) c.store.ensures in
    (all.0, all.1, all.2, subst (λ (k : ℕ). AllMade (map is_some (set ps (at / 65536) c.store.new.self)) at k) n all.3, omega (arith, c.if-at-pages.true, c.if-at-width-le65536.true))
