use Rattle.replay.proofs.Tracks.{copy_stands}
use Rattle.replay.proofs.ahead.next_at.Goals as goal

pub looked_ahead-next-requires-clause-stands : goal.looked_ahead-next-requires-clause-stands
looked_ahead-next-requires-clause-stands c =
    (c.requires.stands.0, copy_stands c.args.recorded.now c.args.from c.requires.stands.0 c.args.shown.now c.in_ok-ahead.ahead c.requires.stands.1 c.in_ok-ahead.ensures.same)
