use Rattle.line_coverage.proofs.MoveLaws.{moves_one}
use Rattle.line_coverage.proofs.placing.move_visit.Goals as goal

pub returns-clause-moves : goal.returns-clause-moves
returns-clause-moves c = moves_one c.args.spots.now.entries c.args.visits.now.entries c.add_spot.new.spots.entries c.remove.new.self.entries c.args.address c.args.spot c.args.steps c.requires c.remove.ensures.entries c.in_ok-add_spot.ensures
