use Rattle.std.proofs.Common.{sym}
use Rattle.host_replies.proofs.Numbers.{number_fits}
use Rattle.host_replies.proofs.words.first_word.Goals as goal

pub typed-requires : goal.typed-requires
typed-requires c = number_fits c.in_ok-text.text.now c.in_ok-number.number (sym c.in_ok-number.ensures)
