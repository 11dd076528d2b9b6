use Rattle.std.proofs.Common.{ap, sym, ◌∙◌}
use Rattle.linear_memory.specs.inner.Table.{page_bytes}
use Rattle.linear_memory.proofs.Contents.{page_at, zeros_is}
use Rattle.linear_memory.proofs.table.bytes_at.Goals as goal

pub returns-in-Some-clause-shown : goal.returns-in-Some-clause-shown
returns-in-Some-clause-shown c =
    sym (page_at c.args.pages.now c.args.index c.index-pages-index.result c.requires.whole c.requires.inside c.index-pages-index.is ∙ ap page_bytes c.in-Some.ensures.0)

pub returns-in-None-clause-absent : goal.returns-in-None-clause-absent
returns-in-None-clause-absent c =
    page_at c.args.pages.now c.args.index c.index-pages-index.result c.requires.whole c.requires.inside c.index-pages-index.is ∙ ap page_bytes c.in-None.ensures ∙ zeros_is
