-- The answers of the commands are those of the words that ask for them.
use Rattle.std.proofs.Common.{◌≡◌, ℕ, List, [], Option, Some, None, Result, refl, sym, subst}
use Rattle.std.specs.Prelude.{IfOk}
use Rattle.pm_outside.specs.Contents.{Contents}
use Rattle.wasm_syntax.specs.declared.host.Served.{Served}
use Rattle.host_set.specs.Sets.{DeviceState}
use Rattle.commands.specs.Texts.{usage}
use Rattle.commands.specs.Told.{MayHold, OnContents}
use Rattle.commands.specs.declared.outcome.Outcome.{Outcome}
use Rattle.commands.proofs.Unless.{OnAnswer, map_answer, all_answers}
use Rattle.run_words.specs.declared.words.RunWords.{RunWords}
use Rattle.pm_outside.specs.Held.{Writes}
use Rattle.run_command.specs.RunAnswer.{RunAnswer, AnsweredOn}
use Rattle.instrument_command.specs.InstrumentAnswer.{AnsweredOn as InstrumentedOn}
use Rattle.debug_command.specs.declared.words.DebugWords.{DebugWords}
use Rattle.debug_command.specs.Answer.{DebugAnswer}
use Rattle.selftest_command.specs.SelftestAnswer.{AnsweredOn as TestedOn}
use Rattle.replay_command.specs.declared.asking.ReplayWords.{ReplayWords}
use Rattle.replay_command.specs.ReplayAnswer.{ReplayAnswer}
use Rattle.run_words.specs.declared.cover.CoverWords.{CoverWords}
use Rattle.cover_command.specs.CoverAnswer.{CoverAnswer}
use Rattle.pm_cli.specs.Answer.{AnswersTo, IsAnswer, Answered, CheckAnswer, ShowAnswer}
use Rattle.pm_cli.specs.Words.{command}
use Rattle.pm_cli.specs.declared.words.Command.{Command}
use Rattle.pm_cli.specs.declared.words.Command.TheVariants.{Check, Run, Instrument, Show, Debug, Selftest, Replay, Cover}
use Rattle.run_command.proofs.Refusals.{untold}

-- ---- commands that write nothing and call no device

-- what these words ask for is answered so
quiet_answer : (devices : List DeviceState) (words : List (List ℕ)) (told told' : Option Contents) (c : Option Command) (o : Outcome) → command words ≡ c → told' ≡ told
    → OnContents told (λ held. AnswersTo devices devices c held held [] [] o) → Answered devices devices words told told' o
unfolding IsAnswer
quiet_answer devices words told told' c o asked same p = record {
  first = p.files;
  may_first = p.may;
  later = p.files;
  may_later = p.may;
  given = [];
  writes = [];
  answer = subst (λ k. AnswersTo devices devices k p.files p.files [] [] o) (sym asked) p.holds;
  files = untold told told' same;
}

module _ {E : Type 0} (devices : List DeviceState) (words : List (List ℕ)) (told told' : Option Contents) (r : Result Outcome E) (same : told' ≡ told) where
  pub check_answered : (m file : List ℕ) → command words ≡ Some (Check m) → file ≡ m → OnAnswer (λ o. OnContents told (λ held. CheckAnswer file (held file) o)) r → OnAnswer (Answered devices devices words told told') r
  check_answered m file asked named x = map_answer (λ o. OnContents told (λ held. CheckAnswer file (held file) o)) (Answered devices devices words told told') r
      (λ o p. quiet_answer devices words told told' (Some (Check m)) o asked same record {
        files = p.files;
        may = p.may;
        holds = (subst (λ f. CheckAnswer f (p.files f) o) named p.holds, record { devices = refl; given_none = refl; writes_none = refl });
      }) x

  pub show_answered : (dump file : List ℕ) → command words ≡ Some (Show dump) → file ≡ dump → OnAnswer (λ o. OnContents told (λ held. ShowAnswer file (held file) o)) r → OnAnswer (Answered devices devices words told told') r
  show_answered dump file asked named x = map_answer (λ o. OnContents told (λ held. ShowAnswer file (held file) o)) (Answered devices devices words told told') r
      (λ o p. quiet_answer devices words told told' (Some (Show dump)) o asked same record {
        files = p.files;
        may = p.may;
        holds = (subst (λ f. ShowAnswer f (p.files f) o) named p.holds, record { devices = refl; given_none = refl; writes_none = refl });
      }) x

  pub usage_answered : command words ≡ None → IfOk r (λ o. o ≡ usage) → OnAnswer (Answered devices devices words told told') r
  usage_answered asked x = map_answer (λ o. o ≡ usage) (Answered devices devices words told told') r (λ o e. quiet_answer devices words told told' None o asked same (by_telling told o e)) (all_answers (λ o. o ≡ usage) r x)
    where
      known : (held : Contents) (o : Outcome) → o ≡ usage → AnswersTo devices devices None held held [] [] o
      known held o e = (e, record { devices = refl; given_none = refl; writes_none = refl })

      by_telling : (t : Option Contents) (o : Outcome) → o ≡ usage → OnContents t (λ held. AnswersTo devices devices None held held [] [] o)
      by_telling None o e = record { files = λ name. None; may = tt; holds = known (λ name. None) o e }
      by_telling (Some held) o e = record { files = held; may = refl; holds = known held o e }

-- ---- commands that call devices

with_devices : (before after : List DeviceState) (words : List (List ℕ)) (c : Option Command) (A : (first later : Contents) → List Served → Writes → Outcome → Type 0) (told told' : Option Contents) (o : Outcome) → command words ≡ c
    → ((first later : Contents) (given : List Served) (writes : Writes) → A first later given writes o → AnswersTo before after c first later given writes o)
    → AnsweredOn A told told' o → Answered before after words told told' o
unfolding IsAnswer
with_devices before after words c A told told' o asked fits a = record {
  first = a.first;
  may_first = a.may_first;
  later = a.later;
  may_later = a.may_later;
  given = a.given;
  writes = a.writes;
  answer = subst (λ k. AnswersTo before after k a.first a.later a.given a.writes o) (sym asked) (fits a.first a.later a.given a.writes a.answer);
  files = a.files;
}

pub run_answered : {E : Type 0} (before after : List DeviceState) (words : List (List ℕ)) (w : RunWords) (told told' : Option Contents) (r : Result Outcome E) → command words ≡ Some (Run w)
    → OnAnswer (AnsweredOn (RunAnswer before after w) told told') r → OnAnswer (Answered before after words told told') r
run_answered before after words w told told' r asked x = map_answer (AnsweredOn (RunAnswer before after w) told told') (Answered before after words told told') r
    (λ o a. with_devices before after words (Some (Run w)) (RunAnswer before after w) told told' o asked (λ first later given writes k. k) a) x

pub cover_answered : {E : Type 0} (before after : List DeviceState) (words : List (List ℕ)) (w : CoverWords) (told told' : Option Contents) (r : Result Outcome E) → command words ≡ Some (Cover w)
    → OnAnswer (AnsweredOn (CoverAnswer before after w) told told') r → OnAnswer (Answered before after words told told') r
cover_answered before after words w told told' r asked x = map_answer (AnsweredOn (CoverAnswer before after w) told told') (Answered before after words told told') r
    (λ o a. with_devices before after words (Some (Cover w)) (CoverAnswer before after w) told told' o asked (λ first later given writes k. k) a) x

-- ---- `instrument`

instrument_answer : (devices : List DeviceState) (words : List (List ℕ)) (m out : List ℕ) (told told' : Option Contents) (o : Outcome) → command words ≡ Some (Instrument m out) → InstrumentedOn m out told told' o → Answered devices devices words told told' o
unfolding IsAnswer
instrument_answer devices words m out told told' o asked a = record {
  first = a.held;
  may_first = a.may;
  later = a.held;
  may_later = a.may;
  given = [];
  writes = a.writes;
  answer = subst (λ k. AnswersTo devices devices k a.held a.held [] a.writes o) (sym asked) (a.answer, (refl, refl));
  files = a.files;
}

pub instrument_answered : {E : Type 0} (devices : List DeviceState) (words : List (List ℕ)) (m out source file : List ℕ) (told told' : Option Contents) (r : Result Outcome E) → command words ≡ Some (Instrument m out) → source ≡ m → file ≡ out
    → OnAnswer (InstrumentedOn source file told told') r → OnAnswer (Answered devices devices words told told') r
instrument_answered devices words m out source file told told' r asked named written x = map_answer (InstrumentedOn source file told told') (Answered devices devices words told told') r
    (λ o a. instrument_answer devices words m out told told' o asked (subst (λ f. InstrumentedOn m f told told' o) written (subst (λ s. InstrumentedOn s file told told' o) named a))) x

-- ---- commands that read two files

two_read : (devices : List DeviceState) (words : List (List ℕ)) (c : Option Command) (A : (first later : Contents) → Outcome → Type 0) (told told' : Option Contents) (o : Outcome) → command words ≡ c → told' ≡ told
    → ((first later : Contents) → A first later o → AnswersTo devices devices c first later [] [] o)
    → OnContents told (λ first. OnContents told (λ later. A first later o)) → Answered devices devices words told told' o
unfolding IsAnswer
two_read devices words c A told told' o asked same fits a = record {
  first = a.files;
  may_first = a.may;
  later = a.holds.files;
  may_later = a.holds.may;
  given = [];
  writes = [];
  answer = subst (λ k. AnswersTo devices devices k a.files a.holds.files [] [] o) (sym asked) (fits a.files a.holds.files a.holds.holds);
  files = untold told told' same;
}

pub debug_answered : {E : Type 0} (devices : List DeviceState) (words : List (List ℕ)) (w : DebugWords) (told told' : Option Contents) (r : Result Outcome E) → command words ≡ Some (Debug w) → told' ≡ told
    → OnAnswer (λ o. OnContents told (λ first. OnContents told (λ later. DebugAnswer w first later o))) r → OnAnswer (Answered devices devices words told told') r
debug_answered devices words w told told' r asked same x = map_answer (λ o. OnContents told (λ first. OnContents told (λ later. DebugAnswer w first later o))) (Answered devices devices words told told') r
    (λ o a. two_read devices words (Some (Debug w)) (DebugAnswer w) told told' o asked same (λ first later d. (d, record { devices = refl; given_none = refl; writes_none = refl })) a) x

pub replay_answered : {E : Type 0} (devices : List DeviceState) (words : List (List ℕ)) (w : ReplayWords) (told told' : Option Contents) (r : Result Outcome E) → command words ≡ Some (Replay w) → told' ≡ told
    → OnAnswer (λ o. OnContents told (λ first. OnContents told (λ later. ReplayAnswer w first later o))) r → OnAnswer (Answered devices devices words told told') r
replay_answered devices words w told told' r asked same x = map_answer (λ o. OnContents told (λ first. OnContents told (λ later. ReplayAnswer w first later o))) (Answered devices devices words told told') r
    (λ o a. two_read devices words (Some (Replay w)) (ReplayAnswer w) told told' o asked same (λ first later d. (d, record { devices = refl; given_none = refl; writes_none = refl })) a) x

-- ---- `selftest`

-- it reads no file: any contents that may be held do
held : (told : Option Contents) → (files : Contents) × MayHold told files
held None = (λ name. None, tt)
held (Some files) = (files, refl)

selftest_answer : (devices : List DeviceState) (words : List (List ℕ)) (n : ℕ) (told told' : Option Contents) (o : Outcome) → command words ≡ Some (Selftest n) → TestedOn n told told' o → Answered devices devices words told told' o
unfolding IsAnswer
selftest_answer devices words n told told' o asked a =
    let h = held told in
    record {
      first = h.0;
      may_first = h.1;
      later = h.0;
      may_later = h.1;
      given = [];
      writes = a.writes;
      answer = subst (λ k. AnswersTo devices devices k h.0 h.0 [] a.writes o) (sym asked) (a.answer, (refl, refl));
      files = a.files;
    }

pub selftest_answered : {E : Type 0} (devices : List DeviceState) (words : List (List ℕ)) (n : ℕ) (told told' : Option Contents) (r : Result Outcome E) → command words ≡ Some (Selftest n)
    → OnAnswer (TestedOn n told told') r → OnAnswer (Answered devices devices words told told') r
selftest_answered devices words n told told' r asked x = map_answer (TestedOn n told told') (Answered devices devices words told told') r (λ o a. selftest_answer devices words n told told' o asked a) x
