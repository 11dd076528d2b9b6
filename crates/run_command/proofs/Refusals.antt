-- The steps of the command: what one answers is carried to the one before it, or it is a refusal.
use Rattle.std.proofs.Common.{◌≡◌, List, [], refl, sym, subst, Option, Some, None, Result}
use Rattle.pm_outside.specs.Contents.{Contents}
use Rattle.wasm_syntax.specs.declared.host.Served.{Served}
use Rattle.pm_outside.specs.Written.{OnTold}
use Rattle.host_set.specs.Sets.{DeviceState}
use Rattle.commands.specs.declared.outcome.Outcome.{Outcome}
use Rattle.commands.specs.declared.status.Status.{Status}
use Rattle.commands.specs.declared.status.Status.TheVariants as status
use Rattle.commands.proofs.Unless.{OnAnswer, map_answer}
use Rattle.pm_outside.specs.Held.{Writes, HoldThen}
use Rattle.run_command.specs.inner.Steps.{IsAnswered}
use Rattle.run_command.specs.RunAnswer.{IfRefusal, IsUntouched}

-- ---- statuses

pub if_refusal : (s : Status) (P : Type 0) → P → IfRefusal s P
if_refusal status.FileFault P x = tt
if_refusal status.NoMemory P x = x
if_refusal status.Done P x = tt
if_refusal status.Trapped P x = tt
if_refusal status.HostStopped P x = tt
if_refusal status.FuelSpent P x = tt
if_refusal status.Usage P x = x
if_refusal status.NoFile P x = x
if_refusal status.Malformed P x = x
if_refusal status.Outside P x = x
if_refusal status.Invalid P x = x
if_refusal status.NotStarted P x = x
if_refusal status.BadDump P x = x
if_refusal status.Mismatch P x = x
if_refusal status.Limit P x = x
if_refusal status.Collision P x = x
if_refusal status.TornCalls P x = tt
if_refusal status.BadReplies P x = x

-- ---- steps

-- files that tell the same hold what they held
pub untold : (old new : Option Contents) → new ≡ old → OnTold (HoldThen []) old new
untold old new same = subst (λ t. OnTold (HoldThen []) old t) (sym same) (alike old)
  where
    alike : (t : Option Contents) → OnTold (HoldThen []) t t
    alike None = tt
    alike (Some held) = λ name. refl

-- nothing was done, and this is answered
pub untouched : (devices : List DeviceState) (Q : List Served → Writes → Outcome → Type 0) (old new : Option Contents) (o : Outcome) → new ≡ old → Q [] [] o → IsAnswered Q devices devices old new o
untouched devices Q old new o same x = record {
  given = [];
  writes = [];
  answer = x;
  files = untold old new same;
  untouched = if_refusal o.status (IsUntouched devices devices [] []) (record { devices = refl; given_none = refl; writes_none = refl });
}

module _ (before after : List DeviceState) (P Q : List Served → Writes → Outcome → Type 0) (old mid new : Option Contents) (same : mid ≡ old) where
  -- what is answered behind a step
  pub carried : (o : Outcome) → ((given : List Served) (writes : Writes) → P given writes o → Q given writes o) → IsAnswered P before after mid new o → IsAnswered Q before after old new o
  carried o to a = record { given = a.given; writes = a.writes; answer = to a.given a.writes a.answer; files = subst (λ t. OnTold (HoldThen a.writes) t new) same a.files; untouched = a.untouched }

  pub all_carried : {E : Type 0} (r : Result Outcome E) → ((given : List Served) (writes : Writes) (o : Outcome) → P given writes o → Q given writes o) → OnAnswer (IsAnswered P before after mid new) r → OnAnswer (IsAnswered Q before after old new) r
  all_carried r to x = map_answer (IsAnswered P before after mid new) (IsAnswered Q before after old new) r (λ o. carried o (λ given writes. to given writes o)) x
