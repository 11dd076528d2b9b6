use Rattle.std.proofs.Common.{sym}
use Rattle.host_replies.proofs.Numbers.{number_fits}
use Rattle.run_words.proofs.invoking.argument.Goals as goal

pub typed-requires : goal.typed-requires
typed-requires c = number_fits c.args.word.now c.in_ok-number.number (sym c.in_ok-number.ensures)
