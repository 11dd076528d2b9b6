use Rattle.std.proofs.Common.{sym, arith}
use Rattle.std.proofs.lemmas.Result.{err_from_is_err_and}
use Rattle.std.proofs.lemmas.List.{length-take-le}
use Rattle.dwarf_bytes.proofs.Texts.{ran_on, searched, text_there, text_cut, text_open}
use Rattle.dwarf_bytes.proofs.items.text.Goals as goal

pub returns-in_err-bytes-in-Some-clause-item : goal.returns-in_err-bytes-in-Some-clause-item
returns-in_err-bytes-in-Some-clause-item c =
    let zero = searched c.fork.result c.args.reader.now c.rest.result.now c.rest.new.self _ c.fork.ensures c.rest.ensures.item c.in-Some.ensures in
    let r = err_from_is_err_and c.from_residual.result c.from_residual.ensures.1 in
    rw (r.1, r.2) (text_cut c.args.reader.now c.in-Some.len _ zero c.in_err-bytes-in-Some.ensures.item)

pub slice_bounds-result-end : goal.slice_bounds-result-end
slice_bounds-result-end c =
    let r = ran_on c.in-Some.len c.args.reader.now c.in_ok-bytes-in-Some.bytes.now c.run.new.self c.in_ok-bytes-in-Some.ensures.item in
    sym (length-take-le c.in-Some.len c.in_ok-bytes-in-Some.bytes.now (omega (arith, r.1)))

pub returns-in_ok-bytes-in-Some-clause-item : goal.returns-in_ok-bytes-in-Some-clause-item
returns-in_ok-bytes-in-Some-clause-item c =
    let zero = searched c.fork.result c.args.reader.now c.rest.result.now c.rest.new.self _ c.fork.ensures c.rest.ensures.item c.in-Some.ensures in
    text_there c.args.reader.now c.in-Some.len c.in_ok-bytes-in-Some.bytes.now c.run.new.self zero c.in_ok-bytes-in-Some.ensures.item

pub returns-in_ok-bytes-in-Some-clause-moves : goal.returns-in_ok-bytes-in-Some-clause-moves
returns-in_ok-bytes-in-Some-clause-moves c =
    let r = ran_on c.in-Some.len c.args.reader.now c.in_ok-bytes-in-Some.bytes.now c.run.new.self c.in_ok-bytes-in-Some.ensures.item in
    (r.0, c.in_ok-bytes-in-Some.ensures.stays.1)

pub returns-in-None-clause-item : goal.returns-in-None-clause-item
returns-in-None-clause-item c =
    let zero = searched c.fork.result c.args.reader.now c.rest.result.now c.rest.new.self _ c.fork.ensures c.rest.ensures.item c.in-None.ensures in
    rw c.at.ensures.is (text_open c.args.reader.now c.at.ensures.inside zero)
