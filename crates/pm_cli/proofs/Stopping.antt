-- What is left where there is no answer, from what the commands leave.
use Rattle.std.proofs.Common.{◌≡◌, ℕ, List, refl, sym, ap, ◌∙◌, subst, inl, inr, Option, Some, None, Result, Ok, Err}
use Rattle.std.specs.Prelude.{◌⊎◌, IfSome, IfOk}
use Rattle.causes.specs.declared.NoMemory.{NoMemory}
use Rattle.pm_outside.specs.Contents.{Contents}
use Rattle.host_set.specs.Sets.{DeviceState}
use Rattle.commands.specs.calls.Ended.{Ended}
use Rattle.commands.specs.Texts.{usage, file_fault}
use Rattle.commands.specs.Told.{UnlessFault, Takes, HasTakenFront}
use Rattle.commands.specs.declared.outcome.Outcome.{Outcome}
use Rattle.commands.specs.declared.status.Status.{Status}
use Rattle.commands.specs.declared.status.Status.TheVariants as status
use Rattle.run_words.specs.declared.words.RunWords.{RunWords}
use Rattle.run_session.specs.Stop.{Stop, no_memory, file_failed, IsFileFault, OnStop}
use Rattle.run_session.specs.Created.{CreatesOnly, IsRunName}
use Rattle.run_command.specs.Stops.{NothingDone, RunStops}
use Rattle.debug_command.specs.declared.words.DebugWords.{DebugWords}
use Rattle.debug_command.specs.Answer.{IsReadBy}
use Rattle.replay_command.specs.declared.asking.ReplayWords.{ReplayWords}
use Rattle.replay_command.specs.ReplayAnswer.{IsReadBy as IsReplayed}
use Rattle.run_words.specs.declared.cover.CoverWords.{CoverWords}
use Rattle.cover_command.specs.Stops.{CoverStops}
use Rattle.instrument_command.specs.Stops.{InstrumentStops}
use Rattle.instrument_command.proofs.HeldFiles.{all_kept}
use Rattle.selftest_command.specs.SelftestAnswer.{module_file, rewritten_file}
use Rattle.selftest_command.specs.Stops.{SelftestStops}
use Rattle.selftest_command.proofs.Files.{none_kept}
use Rattle.pm_cli.specs.Stops.{Quiet, IsQuietBut, IsQuietButBoth, CommandStops, WordsStop}
use Rattle.pm_cli.specs.Words.{command}
use Rattle.pm_cli.specs.declared.words.Command.{Command}
use Rattle.pm_cli.specs.declared.words.Command.TheVariants.{Check, Run, Instrument, Show, Debug, Selftest, Replay, Cover}
use Rattle.run_session.proofs.Stops.{map_stop}
use Rattle.run_session.proofs.Created.{creates_none}

-- ---- commands that run nothing

of_command : (words : List (List ℕ)) (c : Option Command) (before after : List DeviceState) (stop : Stop) (old new : Option Contents) → command words ≡ c → CommandStops stop c before after old new → WordsStop stop words before after old new
of_command words c before after stop old new asked x = subst (λ k. CommandStops stop k before after old new) (sym asked) x

module _ (devices : List DeviceState) (words : List (List ℕ)) (told told' : Option Contents) (same : told' ≡ told) (R : Type 0) where
  abbrev Leaves : Stop → Type 0
  Leaves stop = WordsStop stop words devices devices told told'

  pub check_stops : (result : Result Outcome NoMemory) (m file : List ℕ) → command words ≡ Some (Check m) → file ≡ m → IfOk result (Ended (λ o. (o ≡ file_fault file) × R)) → OnStop Leaves result
  check_stops (Err e) m file asked named ended = of_command words (Some (Check m)) devices devices no_memory told told' asked record { devices = refl; files = same; file = tt }
  check_stops (Ok o) m file asked named ended = λ faulted. record {
    file = file;
    named = (ended.fault faulted).0;
    failed = of_command words (Some (Check m)) devices devices (file_failed file) told told' asked record { devices = refl; files = same; file = named };
    memory = of_command words (Some (Check m)) devices devices no_memory told told' asked record { devices = refl; files = same; file = tt };
  }

  pub show_stops : (result : Result Outcome NoMemory) (dump file : List ℕ) → command words ≡ Some (Show dump) → file ≡ dump → IfOk result (Ended (λ o. (o ≡ file_fault file) × R)) → OnStop Leaves result
  show_stops (Err e) dump file asked named ended = of_command words (Some (Show dump)) devices devices no_memory told told' asked record { devices = refl; files = same; file = tt }
  show_stops (Ok o) dump file asked named ended = λ faulted. record {
    file = file;
    named = (ended.fault faulted).0;
    failed = of_command words (Some (Show dump)) devices devices (file_failed file) told told' asked record { devices = refl; files = same; file = named };
    memory = of_command words (Some (Show dump)) devices devices no_memory told told' asked record { devices = refl; files = same; file = tt };
  }

  -- of a command that reads files, calls no device and writes nothing
  read_stops : (result : Result Outcome NoMemory) (c : Option Command) (IsRead : List ℕ → Type 0) → command words ≡ c → ((stop : Stop) → NothingDone stop IsRead devices devices told told' → CommandStops stop c devices devices told told')
      → IfOk result (Ended (λ o. ((file : List ℕ) × IsRead file × (o ≡ file_fault file)) × R)) → OnStop Leaves result
  read_stops (Err e) c IsRead asked fits ended = of_command words c devices devices no_memory told told' asked (fits no_memory record { devices = refl; files = same; file = tt })
  read_stops (Ok o) c IsRead asked fits ended = λ faulted. record {
    file = (ended.fault faulted).0.0;
    named = (ended.fault faulted).0.2;
    failed = of_command words c devices devices (file_failed (ended.fault faulted).0.0) told told' asked (fits (file_failed (ended.fault faulted).0.0) record { devices = refl; files = same; file = (ended.fault faulted).0.1 });
    memory = of_command words c devices devices no_memory told told' asked (fits no_memory record { devices = refl; files = same; file = tt });
  }

  pub debug_stops : (result : Result Outcome NoMemory) (w : DebugWords) → command words ≡ Some (Debug w) → IfOk result (Ended (λ o. ((file : List ℕ) × IsReadBy w file × (o ≡ file_fault file)) × R)) → OnStop Leaves result
  debug_stops result w asked ended = read_stops result (Some (Debug w)) (IsReadBy w) asked (λ stop k. k) ended

  pub replay_stops : (result : Result Outcome NoMemory) (w : ReplayWords) → command words ≡ Some (Replay w) → IfOk result (Ended (λ o. ((file : List ℕ) × IsReplayed w file × (o ≡ file_fault file)) × R)) → OnStop Leaves result
  replay_stops result w asked ended = read_stops result (Some (Replay w)) (IsReplayed w) asked (λ stop k. k) ended

-- no words that are wrong fail a file
no_usage_fault : (o : Outcome) → o ≡ usage → o.status ≡ status.FileFault → ⊥
no_usage_fault o e is = let clash : status.Usage ≡ status.FileFault = sym (ap (λ (x : Outcome). x.status) e) ∙ is in absurd cc

-- the words were not read: whatever they ask for, nothing was done
unread : (c : Option Command) (devices : List DeviceState) (told : Option Contents) → CommandStops no_memory c devices devices told told
unread (Some (Check m)) devices told = record { devices = refl; files = refl; file = tt }
unread (Some (Run w)) devices told = inl record { devices = refl; files = refl; file = tt }
unread (Some (Instrument m out)) devices told = (refl, inl (refl, tt))
unread (Some (Show dump)) devices told = record { devices = refl; files = refl; file = tt }
unread (Some (Debug w)) devices told = record { devices = refl; files = refl; file = tt }
unread (Some (Selftest n)) devices told = (refl, inl (refl, refl))
unread (Some (Replay w)) devices told = record { devices = refl; files = refl; file = tt }
unread (Some (Cover w)) devices told = inl record { devices = refl; files = refl; file = tt }
unread None devices told = record { devices = refl; files = refl; file = tt }

pub unread_stops : (devices : List DeviceState) (words : List (List ℕ)) (told : Option Contents) → WordsStop no_memory words devices devices told told
unread_stops devices words told = unread (command words) devices told

pub usage_stops : (devices : List DeviceState) (words : List (List ℕ)) (told : Option Contents) (result : Result Outcome NoMemory) → IfOk result (λ o. o ≡ usage) → OnStop (λ stop. WordsStop stop words devices devices told told) result
usage_stops devices words told (Err e) x = unread_stops devices words told
usage_stops devices words told (Ok o) x = λ faulted. absurd (no_usage_fault o x faulted)

pub run_stops : (before after : List DeviceState) (words : List (List ℕ)) (told told' : Option Contents) (result : Result Outcome NoMemory) (w : RunWords) → command words ≡ Some (Run w)
    → OnStop (λ stop. RunStops stop w before after told told') result → OnStop (λ stop. WordsStop stop words before after told told') result
run_stops before after words told told' result w asked x = subst (λ c. OnStop (λ stop. CommandStops stop c before after told told') result) (sym asked) x

pub instrument_stops : (devices : List DeviceState) (words : List (List ℕ)) (told told' : Option Contents) (result : Result Outcome NoMemory) (m out source file : List ℕ) → command words ≡ Some (Instrument m out) → source ≡ m → file ≡ out
    → OnStop (λ stop. InstrumentStops stop source file told told') result → OnStop (λ stop. WordsStop stop words devices devices told told') result
instrument_stops devices words told told' result m out source file asked named written x =
    map_stop (λ stop. InstrumentStops stop source file told told') (λ stop. WordsStop stop words devices devices told told') result
    (λ stop k. of_command words (Some (Instrument m out)) devices devices stop told told' asked
    (refl, subst (λ f. InstrumentStops stop m f told told') written (subst (λ s. InstrumentStops stop s file told told') named k))) x

pub selftest_stops : (devices : List DeviceState) (words : List (List ℕ)) (told told' : Option Contents) (result : Result Outcome NoMemory) (n : ℕ) → command words ≡ Some (Selftest n)
    → OnStop (λ stop. SelftestStops stop n told told') result → OnStop (λ stop. WordsStop stop words devices devices told told') result
selftest_stops devices words told told' result n asked x =
    map_stop (λ stop. SelftestStops stop n told told') (λ stop. WordsStop stop words devices devices told told') result
    (λ stop k. of_command words (Some (Selftest n)) devices devices stop told told' asked (refl, k)) x

pub cover_stops : (before after : List DeviceState) (words : List (List ℕ)) (told told' : Option Contents) (result : Result Outcome NoMemory) (w : CoverWords) → command words ≡ Some (Cover w)
    → OnStop (λ stop. CoverStops stop w before after told told') result → OnStop (λ stop. WordsStop stop words before after told told') result
cover_stops before after words told told' result w asked x = subst (λ c. OnStop (λ stop. CommandStops stop c before after told told') result) (sym asked) x

-- ---- however it ends

-- all is as before, whatever the words ask for
pub quiet_all : (c : Option Command) (devices : List DeviceState) (told told' : Option Contents) (created created' : List (List ℕ)) → told' ≡ told → created' ≡ created → Quiet c devices devices told told' created created'
quiet_all c devices told told' created created' same names = of c
  where
    of : (c : Option Command) → Quiet c devices devices told told' created created'
    of (Some (Check m)) = (refl, same, names)
    of (Some (Run w)) = creates_none (IsRunName w) created created' names
    of (Some (Instrument m out)) = record { devices = refl; files = all_kept out told told' same; names = inl names }
    of (Some (Show dump)) = (refl, same, names)
    of (Some (Debug w)) = (refl, same, names)
    of (Some (Replay w)) = (refl, same, names)
    of (Some (Cover w)) = (same, names)
    of (Some (Selftest n)) = record { devices = refl; files = none_kept module_file rewritten_file told told' same; names = (created, inl refl, inl names) }
    of None = (refl, same, names)

module _ (c : Option Command) (before after : List DeviceState) (told told' : Option Contents) (created created' : List (List ℕ)) where
  pub quiet_run : (w : RunWords) → c ≡ Some (Run w) → CreatesOnly (IsRunName w) created created' → Quiet c before after told told' created created'
  quiet_run w asked names = subst (λ k. Quiet k before after told told' created created') (sym asked) names

  pub quiet_cover : (w : CoverWords) → c ≡ Some (Cover w) → told' ≡ told → created' ≡ created → Quiet c before after told told' created created'
  quiet_cover w asked same names = subst (λ k. Quiet k before after told told' created created') (sym asked) (same, names)

  pub quiet_instrument : (m out file : List ℕ) → c ≡ Some (Instrument m out) → file ≡ out → IsQuietBut file before after told told' created created' → Quiet c before after told told' created created'
  quiet_instrument m out file same written x =
      subst (λ k. Quiet k before after told told' created created') (sym same) (subst (λ f. IsQuietBut f before after told told' created created') written x)

  pub quiet_selftest : (n : ℕ) → c ≡ Some (Selftest n) → IsQuietButBoth before after told told' created created' → Quiet c before after told told' created created'
  quiet_selftest n same x = subst (λ k. Quiet k before after told told' created created') (sym same) x

-- ---- the top call

-- it was stopped, or answered
by_status : (s : Status) (P Q : Type 0) → (s ≡ status.NoMemory → ⊥) → UnlessFault s Q → (s ≡ status.FileFault → P) → P ⊎ Q
by_status status.FileFault P Q some answer stopped = inl (stopped refl)
by_status status.NoMemory P Q some answer stopped = absurd (some refl)
by_status status.Done P Q some answer stopped = inr answer
by_status status.Trapped P Q some answer stopped = inr answer
by_status status.Usage P Q some answer stopped = inr answer
by_status status.NoFile P Q some answer stopped = inr answer
by_status status.Malformed P Q some answer stopped = inr answer
by_status status.Outside P Q some answer stopped = inr answer
by_status status.Invalid P Q some answer stopped = inr answer
by_status status.NotStarted P Q some answer stopped = inr answer
by_status status.HostStopped P Q some answer stopped = inr answer
by_status status.FuelSpent P Q some answer stopped = inr answer
by_status status.BadDump P Q some answer stopped = inr answer
by_status status.Mismatch P Q some answer stopped = inr answer
by_status status.Limit P Q some answer stopped = inr answer
by_status status.Collision P Q some answer stopped = inr answer
by_status status.TornCalls P Q some answer stopped = inr answer
by_status status.BadReplies P Q some answer stopped = inr answer

module _ (o : Outcome) (A : Outcome → Type 0) (P : Stop → Type 0) (some : o.status ≡ status.NoMemory → ⊥) (answer : UnlessFault o.status (A o)) (stops : o.status ≡ status.FileFault → IsFileFault P o) where
  pub stopped_or_answered : P no_memory ⊎ ((p : Outcome) × A p)
  stopped_or_answered = either (by_status o.status (P no_memory) (A o) some answer (λ faulted. (stops faulted).memory))
    where
      either : P no_memory ⊎ A o → P no_memory ⊎ ((p : Outcome) × A p)
      either (inl x) = inl x
      either (inr a) = inr (o, a)

  pub failed_or_answered : (R : Type 0) → (o.status ≡ status.FileFault → R) → (R × ((file : List ℕ) × P (file_failed file))) ⊎ ((p : Outcome) × A p)
  failed_or_answered R rose = either (by_status o.status (R × IsFileFault P o) (A o) some answer (λ faulted. (rose faulted, stops faulted)))
    where
      either : (R × IsFileFault P o) ⊎ A o → (R × ((file : List ℕ) × P (file_failed file))) ⊎ ((p : Outcome) × A p)
      either (inl (risen, x)) = inl (risen, (x.file, x.failed))
      either (inr a) = inr (o, a)

  -- the output has taken a front of the text
  pub fronts : (taken taken' : Option (List ℕ)) (R : Type 0) → (o.status ≡ status.FileFault → R) → IfSome taken (λ before. HasTakenFront before taken' o.text)
      → IfSome taken (λ before. (taken' ≡ Some before) ⊎ (((p : Outcome) × A p × HasTakenFront before taken' p.text) ⊎ (R × ((file : List ℕ) × P (file_failed file) × HasTakenFront before taken' (file_fault file).text))))
  fronts None taken' R rose x = tt
  fronts (Some before) taken' R rose x = either (by_status o.status (R × IsFileFault P o) (A o) some answer (λ faulted. (rose faulted, stops faulted)))
    where
      either : (R × IsFileFault P o) ⊎ A o → (taken' ≡ Some before) ⊎ (((p : Outcome) × A p × HasTakenFront before taken' p.text) ⊎ (R × ((file : List ℕ) × P (file_failed file) × HasTakenFront before taken' (file_fault file).text)))
      either (inl (rose, k)) = inr (inr (rose, (k.file, k.failed, subst (λ (p : Outcome). HasTakenFront before taken' p.text) k.named x)))
      either (inr a) = inr (inl (o, a, x))

  -- a fault that is not the output's
  pub named_fault : (s : Status) (taken taken' : Option (List ℕ)) (R S : Type 0) → (o.status ≡ status.FileFault → R) → (s ≡ status.FileFault → (o.status ≡ status.FileFault) ⊎ S)
      → (s ≡ status.FileFault → (S → ⊥) → Takes s taken taken' o)
      → s ≡ status.FileFault → (S → ⊥) → R × ((file : List ℕ) × P (file_failed file) × Takes s taken taken' (file_fault file))
  named_fault s taken taken' R S rose cause takes faulted not_there = either (cause faulted)
    where
      either : (o.status ≡ status.FileFault) ⊎ S → R × ((file : List ℕ) × P (file_failed file) × Takes s taken taken' (file_fault file))
      either (inl is) = let k = stops is in (rose is, (k.file, k.failed, subst (λ (p : Outcome). Takes s taken taken' p) k.named (takes faulted not_there)))
      either (inr there) = absurd (not_there there)

-- the output was not asked
pub untaken : (taken : Option (List ℕ)) (B : List ℕ → Type 0) → IfSome taken (λ before. (taken ≡ Some before) ⊎ B before)
untaken None B = tt
untaken (Some before) B = inl refl

pub no_fault : status.NoMemory ≡ status.FileFault → ⊥
no_fault e = absurd cc
