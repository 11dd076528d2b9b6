-- What the output has taken.
use Rattle.std.proofs.Common.{◌≡◌, ℕ, List, ◌++◌, length, Option, Some, None, sym, ap, ◌∙◌}
use Rattle.std.specs.Prelude.{IfSome}
use Rattle.std.proofs.Math.Seq.{take-length}
use Rattle.commands.specs.Told.{HasTakenFront, UnlessFault}
use Rattle.commands.specs.declared.outcome.Outcome.{Outcome}
use Rattle.commands.specs.declared.status.Status.{Status}
use Rattle.commands.specs.declared.status.Status.TheVariants as status

-- a whole text is a front of itself
pub whole_front : (taken after : Option (List ℕ)) (piece text : List ℕ) → piece ≡ text → IfSome taken (λ old. after ≡ Some (old ++ piece)) → IfSome taken (λ before. HasTakenFront before after text)
whole_front None after piece text same all = tt
whole_front (Some old) after piece text same all = (length text, all ∙ ap (λ front. Some (old ++ front)) (same ∙ sym (take-length text)))

-- a fact on a status holds of an equal one
of_same : (s t : Status) (P : Type 0) → s ≡ t → UnlessFault t P → UnlessFault s P
of_same s t P e p = rw e p

-- what is known of an outcome on its own status is known on the status that was delivered
pub with_outcome : (s : Status) (o : Outcome) (P T : Outcome → Type 0) → (T o → s ≡ o.status) → UnlessFault o.status (P o) → UnlessFault s (T o) → UnlessFault s ((p : Outcome) × P p × T p)
with_outcome status.FileFault o P T same p t = tt
with_outcome status.NoMemory o P T same p t = tt
with_outcome status.Done o P T same p t = (o, of_same status.Done o.status (P o) (same t) p, t)
with_outcome status.Trapped o P T same p t = (o, of_same status.Trapped o.status (P o) (same t) p, t)
with_outcome status.Usage o P T same p t = (o, of_same status.Usage o.status (P o) (same t) p, t)
with_outcome status.NoFile o P T same p t = (o, of_same status.NoFile o.status (P o) (same t) p, t)
with_outcome status.Malformed o P T same p t = (o, of_same status.Malformed o.status (P o) (same t) p, t)
with_outcome status.Outside o P T same p t = (o, of_same status.Outside o.status (P o) (same t) p, t)
with_outcome status.Invalid o P T same p t = (o, of_same status.Invalid o.status (P o) (same t) p, t)
with_outcome status.NotStarted o P T same p t = (o, of_same status.NotStarted o.status (P o) (same t) p, t)
with_outcome status.HostStopped o P T same p t = (o, of_same status.HostStopped o.status (P o) (same t) p, t)
with_outcome status.FuelSpent o P T same p t = (o, of_same status.FuelSpent o.status (P o) (same t) p, t)
with_outcome status.BadDump o P T same p t = (o, of_same status.BadDump o.status (P o) (same t) p, t)
with_outcome status.Mismatch o P T same p t = (o, of_same status.Mismatch o.status (P o) (same t) p, t)
with_outcome status.Limit o P T same p t = (o, of_same status.Limit o.status (P o) (same t) p, t)
with_outcome status.Collision o P T same p t = (o, of_same status.Collision o.status (P o) (same t) p, t)
with_outcome status.TornCalls o P T same p t = (o, of_same status.TornCalls o.status (P o) (same t) p, t)
with_outcome status.BadReplies o P T same p t = (o, of_same status.BadReplies o.status (P o) (same t) p, t)
