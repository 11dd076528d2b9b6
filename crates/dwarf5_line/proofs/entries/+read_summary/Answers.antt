use Rattle.std.proofs.lemmas.Result.{err_from_is_err_and}
use Rattle.dwarf5_line.proofs.Summaries.{summary_none, summary_split, first_fails, others_fail}
use Rattle.dwarf5_line.specs.Layout5.{texts_of}
use Rattle.dwarf5_line.proofs.entries.+read_summary.Goals as goal

pub returns-in_default-clause-item : goal.returns-in_default-clause-item
returns-in_default-clause-item t c = summary_none (texts_of c.args.sections.now) c.args.pairs.now c.args.reader.now c.in_default.len_below

pub returns-in_err-first-clause-item : goal.returns-in_err-first-clause-item
returns-in_err-first-clause-item t c =
    let p = err_from_is_err_and c.from_residual.result c.from_residual.ensures.1 in
    rw (p.1, p.2) (first_fails (texts_of c.args.sections.now) c.args.pairs.now c.args.reader.now _ c.in-len1-up.len_at_least c.in_err-first.ensures.item)

pub returns-in_err-summary-clause-item : goal.returns-in_err-summary-clause-item
returns-in_err-summary-clause-item t c =
    let p = err_from_is_err_and c.from_residual-in_err-summary.result c.from_residual-in_err-summary.ensures.1 in
    rw (p.1, p.2) (others_fail (texts_of c.args.sections.now) c.args.pairs.now c.args.reader.now c.read_content.new.reader c.in_ok-first.first _ c.in-len1-up.len_at_least c.in_ok-first.ensures.item c.in_err-summary.ensures.item)

pub returns-clause-item : goal.returns-clause-item
returns-clause-item t c = rw c.add.ensures (summary_split (texts_of c.args.sections.now) c.args.pairs.now c.args.reader.now c.read_content.new.reader c.read_summary.new.reader c.in_ok-first.first c.in_ok-summary.summary c.in-len1-up.len_at_least c.in_ok-first.ensures.item c.in_ok-summary.ensures.item)
