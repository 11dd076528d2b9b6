use Rattle.std.proofs.Common.{subst}
use Rattle.replay.specs.Moves.{Replay, OfEach, Shows}
use Rattle.replay.proofs.Moving.{point_shows}
use Rattle.replay.proofs.replayer.Replayer.state.Goals as goal

pub returns-clause-shows : goal.returns-clause-shows
returns-clause-shows c =
    let i = c.self.inside in
    subst (λ (r : Replay). OfEach r.recording (λ p. Shows p r.recording r.step i.shown.instance)) c.self.view_is (point_shows i.recorded i.step c.self.invariant.answer i.shown c.self.invariant.reached)
