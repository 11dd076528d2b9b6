use Rattle.std.proofs.Common.{sym, ◌∙◌}
use Rattle.std.proofs.lemmas.Result.{on_ok_weaker}
use Rattle.dwarf_scopes.proofs.ListedLaws.{without_list, with_seen, with_new, seen_kept}
use Rattle.dwarf_scopes.proofs.listed.push_listed.Goals as goal

pub returns-in_default-clause-so_far : goal.returns-in_default-clause-so_far
returns-in_default-clause-so_far c =
    without_list c.args.entries.now c.args.index c.index-entries-index.result c.args.numbers.now c.requires.there c.index-entries-index.is (sym c.list_of.ensures ∙ c.in_default.is) c.requires.so_far

pub returns-then-is_seen-clause-so_far : goal.returns-then-is_seen-clause-so_far
returns-then-is_seen-clause-so_far c =
    with_seen c.args.entries.now c.args.index c.index-entries-index.result c.in-Some.place c.args.numbers.now c.requires.there c.index-entries-index.is (sym c.list_of.ensures ∙ c.in-Some.is)
    (c.is_seen.ensures c.args.entries.now c.args.numbers.now c.requires.seen c.if-is_seen.true) c.requires.so_far

pub returns-in-Ok-clause-so_far : goal.returns-in-Ok-clause-so_far
returns-in-Ok-clause-so_far c =
    on_ok_weaker c.push.result
    (λ pushed. with_new c.args.entries.now c.args.index c.index-entries-index.result c.in-Some.place c.args.numbers.now c.push.new.self c.requires.there c.index-entries-index.is (sym c.list_of.ensures ∙ c.in-Some.is)
    pushed c.requires.so_far)
    c.push.ensures.ok

pub returns-in-Ok-clause-seen : goal.returns-in-Ok-clause-seen
returns-in-Ok-clause-seen c =
    on_ok_weaker c.push.result
    (λ pushed. seen_kept c.args.entries.now c.args.index c.index-entries-index.result c.in-Some.place c.args.numbers.now c.push.new.self c.args.seen.now c.insert.new.self c.number_of-number.result c.requires.there
    c.index-entries-index.is (sym c.list_of.ensures ∙ c.in-Some.is) pushed c.in-Ok.ensures.updates.0 c.requires.seen)
    c.push.ensures.ok
