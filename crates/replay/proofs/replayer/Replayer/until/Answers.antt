use Rattle.replay.proofs.replayer.Replayer.until.Goals as goal

pub next_at-requires-clause-stands : goal.next_at-requires-clause-stands
next_at-requires-clause-stands c = (c.self.invariant.answer, c.self.invariant.reached)
