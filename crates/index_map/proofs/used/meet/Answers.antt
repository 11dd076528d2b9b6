use Rattle.index_map.proofs.Meeting.{met_old, met_pushed}
use Rattle.index_map.proofs.used.meet.Goals as goal

pub returns-in-Some : goal.returns-in-Some
returns-in-Some c = λ us h. met_old us c.args.met.now.items c.args.places.now c.args.t c.in-Some.field-0 h c.requires c.in-Some.is

pub returns-in_ok-push-in-None : goal.returns-in_ok-push-in-None
returns-in_ok-push-in-None c = λ us h. met_pushed us c.args.met.now.items c.push.new.self.items c.as_slice.result.now c.args.places.now c.args.t c.in_ok-push-in-None.ensures.items c.as_slice.ensures.value h c.requires c.in-None.is
