use Rattle.std.proofs.Common.{ℕ, ◌+◌, ◌≤◌, length, arith, ◌/◌, ◌%◌, List, Option, map, is_some, ap, subst, sym, ◌∙◌, set, get_or, replicate}
use Rattle.std.proofs.lemmas.List.{length-replicate}
use Rattle.linear_memory.specs.inner.Table.{contents, AllWhole}
use Rattle.linear_memory.proofs.Contents.{put_step, put_whole, put_made, is_made_at}
use Rattle.linear_memory.proofs.table.fill_in.Goals as goal

fits : (at len byte : ℕ) → at % 65536 + len ≤ 65536 → at % 65536 + length (replicate len byte) ≤ 65536
fits at len byte h = omega (arith, h, length-replicate {A = ℕ} len byte)

pub returns-clause-contents : goal.returns-clause-contents
returns-clause-contents c =
    ap (λ (p : Option (List ℕ)). contents (set c.args.pages.now (c.args.at / 65536) p)) c.fill.ensures
    ∙ put_step c.args.pages.now c.args.at (replicate c.args.len c.args.byte) _ c.requires.whole c.requires.inside.0 (fits c.args.at c.args.len c.args.byte c.requires.inside.1) (ap (get_or c.args.pages.now (c.args.at / 65536)) c.index-pages-at.is)

pub returns-clause-whole : goal.returns-clause-whole
returns-clause-whole c =
    subst (λ (p : Option (List ℕ)). AllWhole (set c.args.pages.now (c.args.at / 65536) p)) (sym c.fill.ensures)
    (put_whole c.args.pages.now (c.args.at / 65536) (c.args.at % 65536) (replicate c.args.len c.args.byte) _ c.requires.whole c.requires.inside.0 (fits c.args.at c.args.len c.args.byte c.requires.inside.1) (ap (get_or c.args.pages.now (c.args.at / 65536)) c.index-pages-at.is))

pub returns-clause-made : goal.returns-clause-made
returns-clause-made c =
    ap (λ (p : Option (List ℕ)). map is_some (set c.args.pages.now (c.args.at / 65536) p)) c.fill.ensures
    ∙ put_made c.args.pages.now (c.args.at / 65536) _ c.index-pages-at.result c.requires.inside.0 c.index-pages-at.is
    (is_made_at c.args.pages.now (c.args.at / 65536) c.index-pages-at.result c.requires.inside.0 c.index-pages-at.is c.requires.made)
