use Rattle.std.proofs.Common.{◌∙◌, refl, sym}
use Rattle.host_collector.proofs.Judged.{accepted}
use Rattle.host_collector.proofs.Faults.{torn_exactly, whole_not_torn, wanting_not_torn}
use Rattle.host_collector.proofs.closing.close.Goals as goal

pub returns-in-Err-clause-torn : goal.returns-in-Err-clause-torn
returns-in-Err-clause-torn c at = torn_exactly c.args.calls.now _ c.in-Err.at refl (sym c.judge.ensures ∙ c.in-Err.is) at

pub returns-in-Ok-collected_dump-clause-closed : goal.returns-in-Ok-collected_dump-clause-closed
returns-in-Ok-collected_dump-clause-closed c held there =
    let w = accepted c.args.calls.now c.in-Ok.kind (sym c.judge.ensures ∙ c.in-Ok.is) in
    record {
      whole = w.0;
      kind = sym w.1;
      dump = c.in-Ok-collected_dump.ensures.pictures held w.0 there;
      bytes = c.in-Ok-collected_dump.ensures.bytes held w.0 there;
    }

pub returns-in-Ok-collected_dump-clause-torn : goal.returns-in-Ok-collected_dump-clause-torn
returns-in-Ok-collected_dump-clause-torn c at =
    let w = accepted c.args.calls.now c.in-Ok.kind (sym c.judge.ensures ∙ c.in-Ok.is) in
    whole_not_torn c.args.calls.now _ _ refl w.0 at

pub returns-in-Err-collected_dump-clause-torn : goal.returns-in-Err-collected_dump-clause-torn
returns-in-Err-collected_dump-clause-torn c at =
    let w = accepted c.args.calls.now c.in-Ok.kind (sym c.judge.ensures ∙ c.in-Ok.is) in
    wanting_not_torn c.args.calls.now _ refl w.0 at

pub returns-in-Err-collected_dump-clause-wanting : goal.returns-in-Err-collected_dump-clause-wanting
returns-in-Err-collected_dump-clause-wanting c e = (accepted c.args.calls.now c.in-Ok.kind (sym c.judge.ensures ∙ c.in-Ok.is)).0
