use Rattle.std.proofs.Common.{None, Bool, cond, ◌++◌, replicate, ap, ◌∙◌}
use Rattle.linear_memory.proofs.Contents.{grown_contents, grown_whole, grown_made}
use Rattle.linear_memory.proofs.table.add_pages.Goals as goal

pub returns-clause-contents : goal.returns-clause-contents
returns-clause-contents c = λ h. grown_contents c.args.table.now.items c.push_absent.new.table.items c.args.count
    (c.push_absent.ensures ∙ ap (λ (b : Bool). cond b (c.args.table.now.items ++ replicate c.args.count None) c.args.table.now.items) h)

pub returns-clause-whole : goal.returns-clause-whole
returns-clause-whole c = λ h. grown_whole c.args.table.now.items c.push_absent.new.table.items c.args.count c.requires.whole
    (c.push_absent.ensures ∙ ap (λ (b : Bool). cond b (c.args.table.now.items ++ replicate c.args.count None) c.args.table.now.items) h)

pub returns-clause-made : goal.returns-clause-made
returns-clause-made c = λ h. grown_made c.args.table.now.items c.push_absent.new.table.items c.args.count
    (c.push_absent.ensures ∙ ap (λ (b : Bool). cond b (c.args.table.now.items ++ replicate c.args.count None) c.args.table.now.items) h)
