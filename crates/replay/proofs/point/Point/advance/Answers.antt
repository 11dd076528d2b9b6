use Rattle.std.proofs.Common.{ℕ, ap, ◌∙◌}
use Rattle.std.specs.Prelude.{false}
use Rattle.wasm_machine.specs.calls.Instances.{last_of}
use Rattle.replay.proofs.Advances.{handed_on, few_more}
use Rattle.replay.proofs.point.Point.advance.Goals as goal

pub returns-clause-came : goal.returns-clause-came
returns-clause-came c =
    let r = c.resume-answer in
    handed_on c.args.recorded.now c.args.self.now.next c.given.result c.args.steps c.hosts-hosts.result r.new.hosts c.args.self.now.instance r.new.self r.result
    (record {
      scripted = record { begun = c.hosts-hosts.ensures.value; origin = r.ensures.host.origin_is; counted = c.given.ensures.count; given = c.given.ensures.given; left = c.given.ensures.left };
      came = r.ensures.came;
      last = λ l e. r.ensures.last l e ∙ ap (λ (d : ℕ). last_of l.entry l.args d false r.result) c.depth.ensures;
      cause = r.ensures.cause;
      module_ = r.ensures.module_;
      prepared = r.ensures.prepared;
    }) c.had_memory.result c.had_memory.ensures

pub returns-clause-since : goal.returns-clause-since
returns-clause-since c =
    let r = c.resume-answer in
    few_more c.args.recorded.now c.requires.waits.0 c.args.self.now.next c.args.self.now.instance c.requires.waits.1 c.given.result c.args.steps c.hosts-hosts.result r.new.hosts r.new.self r.result
    (record {
      scripted = record { begun = c.hosts-hosts.ensures.value; origin = r.ensures.host.origin_is; counted = c.given.ensures.count; given = c.given.ensures.given; left = c.given.ensures.left };
      came = r.ensures.came;
      last = λ l e. r.ensures.last l e ∙ ap (λ (d : ℕ). last_of l.entry l.args d false r.result) c.depth.ensures;
      cause = r.ensures.cause;
      module_ = r.ensures.module_;
      prepared = r.ensures.prepared;
    })
