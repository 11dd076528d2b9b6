use Rattle.std.proofs.Common.{◌≡◌, false, sym, rules}
use Rattle.std.specs.Str.{bytes_eq}
use Rattle.run_words.proofs.DumpNames.{no_front, no_dot, behind_dot}
use Rattle.run_words.proofs.words.is_for_dumps.Goals as goal

pub returns-in_default : goal.returns-in_default
returns-in_default c =
    let apart : bytes_eq c.args.file.now c.args.first.now ≡ false = search rules in
    rw apart (sym (no_front c.args.first.now c.args.file.now c.in_default.ensures))

pub returns-in-Some-behind : goal.returns-in-Some-behind
returns-in-Some-behind c =
    let apart : bytes_eq c.args.file.now c.args.first.now ≡ false = search rules in
    rw (apart, c.is_number.ensures) (sym (behind_dot c.args.first.now c.args.file.now c.in-Some.rest.now c.in-Some-behind.number.now c.in-Some.ensures.1 c.in-Some.ensures.0 c.in-Some-behind.ensures.0 c.in-Some-behind.ensures.1))

pub returns-in-None : goal.returns-in-None
returns-in-None c =
    let apart : bytes_eq c.args.file.now c.args.first.now ≡ false = search rules in
    rw apart (sym (no_dot c.args.first.now c.args.file.now c.in-Some.rest.now c.in-Some.ensures.1 c.in-Some.ensures.0 c.in-None.ensures))
