use Rattle.std.proofs.Common.{◌≡◌, true, arith}
use Rattle.std.proofs.lemmas.Str.Pattern.{starts_char}
use Rattle.pm_text.proofs.NumberLaws.{parsed}
use Rattle.pm_text.proofs.numbers.read_decimal.Goals as goal

pub returns : goal.returns
returns c =
    let plus = starts_char 43 c.args.s.now c.starts_with.result c.starts_with.ensures.cases (omega arith) (omega arith) in
    parsed c.args.s.now c.parse.result c.ok.result c.parse.ensures.value.0
    (λ e. let yes : c.starts_with.result ≡ true = plus.1 e in let no = c.if-starts_with.false in cc)
    (omega arith) c.ok.ensures.value
