use Rattle.std.proofs.Common.{ap, refl, sym, ◌∙◌, Err}
use Rattle.run_session.specs.Delivery.{whole, torn, handed_by}
use Rattle.run_session.proofs.Deliveries.{filled}
use Rattle.run_session.proofs.handed.handed_over.Goals as goal

pub returns-in-Ok-clause-handed : goal.returns-in-Ok-clause-handed
returns-in-Ok-clause-handed c held there =
    let closed = c.in-Ok.ensures.closed held there in (
      whole (handed_by closed.whole),
      (closed.whole, refl),
      (handed_by closed.whole, refl, record { kind = closed.kind; dump = closed.dump; bytes = closed.bytes }),
    )

pub returns-in-Err-Torn-clause-handed : goal.returns-in-Err-Torn-clause-handed
returns-in-Err-Torn-clause-handed c held there = (
  torn c.in-Err-Torn.at,
  (
    filled c.args.calls.now (sym c.is_empty.ensures ∙ c.if-is_empty.false),
    (c.close.ensures.torn c.in-Err-Torn.at).0 (c.in-Err-Torn.is ∙ ap (λ f. Err f) c.in-Err-Torn.field-0-is),
  ),
  refl,
)
