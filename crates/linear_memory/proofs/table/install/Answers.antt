use Rattle.linear_memory.proofs.Contents.{install_contents, install_whole, install_made, install_stays, install_only}
use Rattle.std.proofs.Common.{is_some, ap, sym, ◌∙◌}
use Rattle.linear_memory.proofs.table.install.Goals as goal

pub returns-then-not-is_made-clause-contents : goal.returns-then-not-is_made-clause-contents
returns-then-not-is_made-clause-contents c =
    install_contents c.args.pages.now c.args.index c.args.page c.index-pages-index.result c.requires.inside c.requires.zero c.index-pages-index.is (ap is_some c.index-pages-index.is ∙ sym c.is_made.ensures ∙ c.if-not-is_made.true)

pub returns-then-not-is_made-clause-whole : goal.returns-then-not-is_made-clause-whole
returns-then-not-is_made-clause-whole c = install_whole c.args.pages.now c.args.index c.args.page c.requires.zero c.requires.whole

pub returns-then-not-is_made-clause-stays : goal.returns-then-not-is_made-clause-stays
returns-then-not-is_made-clause-stays c = install_stays c.args.pages.now c.args.index c.args.page c.requires.zero

pub returns-then-not-is_made-clause-made : goal.returns-then-not-is_made-clause-made
returns-then-not-is_made-clause-made c = install_made c.args.pages.now c.args.index c.args.page c.requires.inside c.requires.zero

pub returns-then-not-is_made-clause-only : goal.returns-then-not-is_made-clause-only
returns-then-not-is_made-clause-only c = install_only c.args.pages.now c.args.index c.args.page c.requires.zero
