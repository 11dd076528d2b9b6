use Rattle.std.proofs.Common.{◌<◌, arith}
use Rattle.var_values.proofs.FuelLaws.{digits_pushed, none_pushed}
use Rattle.var_values.proofs.texts.+push_byte_digits.Goals as goal

pub returns-then-count-eq0 : goal.returns-then-count-eq0
returns-then-count-eq0 t c = none_pushed c.args.text.now c.args.count c.args.word c.if-count-eq0.true

pub returns : goal.returns
returns t c =
    let some : 0 < c.args.count = omega arith in
    digits_pushed c.push_hex.result c.push_hex.new.self c.push_byte_digits.new.text c.args.text.now c.args.count c.args.word some c.push_hex.ensures.ok c.in_ok-push_byte_digits.ensures
