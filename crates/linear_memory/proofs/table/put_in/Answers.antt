use Rattle.std.proofs.Common.{ℕ, ◌/◌, ◌%◌, List, Option, map, is_some, ap, subst, sym, ◌∙◌, set, get_or}
use Rattle.linear_memory.specs.inner.Table.{contents, AllWhole}
use Rattle.linear_memory.proofs.Contents.{put_step, put_whole, put_made, is_made_at}
use Rattle.linear_memory.proofs.table.put_in.Goals as goal

pub returns-clause-contents : goal.returns-clause-contents
returns-clause-contents c =
    ap (λ (p : Option (List ℕ)). contents (set c.args.pages.now (c.args.at / 65536) p)) c.write.ensures
    ∙ put_step c.args.pages.now c.args.at c.args.part.now _ c.requires.whole c.requires.inside.0 c.requires.inside.1 (ap (get_or c.args.pages.now (c.args.at / 65536)) c.index-pages-at.is)

pub returns-clause-whole : goal.returns-clause-whole
returns-clause-whole c =
    subst (λ (p : Option (List ℕ)). AllWhole (set c.args.pages.now (c.args.at / 65536) p)) (sym c.write.ensures)
    (put_whole c.args.pages.now (c.args.at / 65536) (c.args.at % 65536) c.args.part.now _ c.requires.whole c.requires.inside.0 c.requires.inside.1 (ap (get_or c.args.pages.now (c.args.at / 65536)) c.index-pages-at.is))

pub returns-clause-made : goal.returns-clause-made
returns-clause-made c =
    ap (λ (p : Option (List ℕ)). map is_some (set c.args.pages.now (c.args.at / 65536) p)) c.write.ensures
    ∙ put_made c.args.pages.now (c.args.at / 65536) _ c.index-pages-at.result c.requires.inside.0 c.index-pages-at.is
    (is_made_at c.args.pages.now (c.args.at / 65536) c.index-pages-at.result c.requires.inside.0 c.index-pages-at.is c.requires.made)
