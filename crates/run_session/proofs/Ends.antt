-- How a list of invocations has ended.
use Rattle.std.proofs.Common.{◌≡◌, ℕ, ◌+◌, ◌<◌, Bool, true, false, List, [], ◌∷◌, ◌++◌, length, refl, sym, ap, ◌∙◌, inl, inr, arith, Option, Some, None, subst}
use Rattle.std.specs.Prelude.{IfSome, is_some, nat_lt, if◌then◌else◌}
use Rattle.std.proofs.Math.Nat.{le_refl}
use Rattle.std.proofs.lemmas.Bool.{lt-ltb}
use Rattle.std.proofs.lemmas.List.{append-nil}
use Rattle.pm_outside.specs.Contents.{Contents}
use Rattle.wasm_syntax.specs.declared.parts.Import.{Import}
use Rattle.wasm_syntax.specs.declared.host.Served.{Served}
use Rattle.wasm_syntax.specs.Machine.{Config, Engine}
use Rattle.wasm_syntax.specs.Module.{Program}
use Rattle.wasm_syntax.specs.Run.{Invocation, Outcome as RunOutcome, not_started, finished, trapped, lacks_reply, misfits, running, got_stuck, Ran, goes_on}
use Rattle.host_devices.specs.Given.{replies_of}
use Rattle.machine_hosted.specs.declared.answer.RunEnd.{RunEnd}
use Rattle.machine_hosted.specs.declared.answer.RunEnd.TheVariants.{Finished, Trapped, NoReply, BadReply, DeviceFault, FuelSpent, NoMemory}
use Rattle.machine_hosted.specs.calls.Answers.{HasCause}
use Rattle.machine_hosted.specs.calls.Invocations.{HasOutcome}
use Rattle.wasm_machine.specs.calls.Instances.{State}
use Rattle.commands.specs.Texts.{ended}
use Rattle.commands.specs.declared.outcome.Outcome.{Outcome}
use Rattle.commands.specs.declared.status.Status.TheVariants as status
use Rattle.run_session.specs.Telling.{Telling, nothing, finish, trap, bare_trap, torn, Tells, told, torn_in}
use Rattle.run_session.specs.RunText.{traps_in, with_trap, last_of, fitted, up_to_torn, torn_text, not_invoked_text}
use Rattle.run_session.specs.calls.Answers.{answer_line, answer_status, ended_as}
use Rattle.run_session.specs.Ending.{trapped_or_done, end_status, told_status}
use Rattle.run_session.specs.calls.Progress.{Point, session_from, WentOn, NoneTorn}
use Rattle.run_session.specs.calls.Sessions.{is_misfit, ends_badly, point_of, EndsIn, ToldEndsIn, RanAll, SoFar}
use Rattle.run_session.specs.declared.turns.Lines.{Lines}
use Rattle.run_session.proofs.Tellings.{Behaves}
use Rattle.run_session.proofs.Lists.{none_torn_first}
use Rattle.run_session.proofs.Sessions.{EndedWith, EndsSo, TornAt, fits_on}
use Rattle.wasm_machine.proofs.SessionLaws.{all_fitted}

-- ---- the last line and the status by the answer

pub line_ends : (p : Program) (used_up : Import → Bool) (counts now : List ℕ → ℕ) (given due : ℕ) (a : RunEnd) (o : RunOutcome) → HasOutcome p used_up a o → (a ≡ NoMemory → ⊥) → HasCause a counts now → EndsIn p used_up counts now given due o (answer_line a given due)
line_ends p used_up counts now given due (Finished v) o is some cause = subst (λ x. EndsIn p used_up counts now given due x []) (sym is) refl
line_ends p used_up counts now given due (Trapped kind) o is some cause = subst (λ x. EndsIn p used_up counts now given due x (not_invoked_text due)) (sym is) refl
line_ends p used_up counts now given due NoReply o (call, is, up) some cause = subst (λ x. EndsIn p used_up counts now given due x (answer_line NoReply given due)) (sym is) (inl (up, refl))
line_ends p used_up counts now given due (DeviceFault device) o (call, is, named) some cause = subst (λ x. EndsIn p used_up counts now given due x (answer_line (DeviceFault device) given due)) (sym is) (inr (device, named, cause, refl))
line_ends p used_up counts now given due (BadReply reply) o (call, is) some cause = subst (λ x. EndsIn p used_up counts now given due x (answer_line (BadReply reply) given due)) (sym is) refl
line_ends p used_up counts now given due FuelSpent o is some cause = subst (λ x. EndsIn p used_up counts now given due x (answer_line FuelSpent given due)) (sym is) refl
line_ends p used_up counts now given due NoMemory o is some cause = absurd (some refl)

pub status_ends : (p : Program) (used_up : Import → Bool) (traps : ℕ) (a : RunEnd) (o : RunOutcome) → HasOutcome p used_up a o → (a ≡ NoMemory → ⊥) → end_status traps o ≡ Some (answer_status a traps)
status_ends p used_up traps (Finished v) o is some = ap (λ x. end_status traps x) is
status_ends p used_up traps (Trapped kind) o is some = ap (λ x. end_status traps x) is
status_ends p used_up traps NoReply o (call, is, up) some = ap (λ x. end_status traps x) is
status_ends p used_up traps (DeviceFault device) o (call, is, named) some = ap (λ x. end_status traps x) is
status_ends p used_up traps (BadReply reply) o (call, is) some = ap (λ x. end_status traps x) is
status_ends p used_up traps FuelSpent o is some = ap (λ x. end_status traps x) is
status_ends p used_up traps NoMemory o is some = absurd (some refl)

-- no answer of the list is a fault of a file
of_choice : (b : Bool) → ((if b then status.Trapped else status.Done) ≡ status.FileFault → ⊥) × ((if b then status.Trapped else status.Done) ≡ status.NoMemory → ⊥)
of_choice true = (λ e. absurd cc, λ e. absurd cc)
of_choice false = (λ e. absurd cc, λ e. absurd cc)

of_traps : (traps : ℕ) → (trapped_or_done traps ≡ status.FileFault → ⊥) × (trapped_or_done traps ≡ status.NoMemory → ⊥)
of_traps traps = of_choice (nat_lt 0 traps)

pub no_file_fault : (a : RunEnd) (traps : ℕ) → answer_status a traps ≡ status.FileFault → ⊥
no_file_fault (Finished v) traps e = (of_traps traps).0 e
no_file_fault (Trapped kind) traps e = absurd cc
no_file_fault NoReply traps e = absurd cc
no_file_fault (DeviceFault device) traps e = absurd cc
no_file_fault (BadReply reply) traps e = absurd cc
no_file_fault FuelSpent traps e = absurd cc
no_file_fault NoMemory traps e = absurd cc

pub no_want : (a : RunEnd) (traps : ℕ) → (a ≡ NoMemory → ⊥) → answer_status a traps ≡ status.NoMemory → ⊥
no_want (Finished v) traps some e = (of_traps traps).1 e
no_want (Trapped kind) traps some e = absurd cc
no_want NoReply traps some e = absurd cc
no_want (DeviceFault device) traps some e = absurd cc
no_want (BadReply reply) traps some e = absurd cc
no_want FuelSpent traps some e = absurd cc
no_want NoMemory traps some e = some refl

pub done_no_fault : (traps : ℕ) → trapped_or_done traps ≡ status.FileFault → ⊥
done_no_fault traps = (of_traps traps).0

pub done_no_want : (traps : ℕ) → trapped_or_done traps ≡ status.NoMemory → ⊥
done_no_want traps = (of_traps traps).1

-- ---- the whole list

module _ (tell : Tells) (p : Program) (M : Engine) (base name : List ℕ) (used_up : Import → Bool) (counts now : List ℕ → ℕ) (bad : Bool) (first : Point) (lines : Lines) (before after : List Served) (told_before told_after : Option Contents) (due : ℕ) (none : before ≡ []) where
  abbrev pub RanSo : Outcome → Type 0
  RanSo o = RanAll tell p M base name used_up counts now bad first before after told_before told_after o

  abbrev pub EndedSo : (Ran → Type 0) → Type 0
  EndedSo known_of = EndedWith tell M base name first lines before after told_before told_after known_of due

  ran_so : (known_of : Ran → Type 0) (e : EndedSo known_of) (line : List ℕ) (o : Outcome) → ToldEndsIn p used_up counts now (length e.given) due (torn_in (told tell e.last)) e.last.outcome line
      → ended_as (told_status lines.traps (torn_in (told tell e.last)) e.last.outcome) (lines.text ++ line) ≡ Some o → is_misfit e.last.outcome ≡ bad → RanSo o
  ran_so known_of e line o ends is misfit = record {
    given = e.given;
    grew = e.grew;
    writes = e.writes;
    files = e.files;
    lines = lines;
    due = due;
    last = e.last;
    has_ended = e.has_ended;
    line = line;
    ends = ends;
    answer = is;
    misfit = misfit;
  }

  pub ended_so : (a : RunEnd) (count : ℕ) (o : Outcome) → count ≡ length after → (a ≡ NoMemory → ⊥) → HasCause a counts now → o ≡ ended (answer_status a lines.traps) (lines.text ++ answer_line a count due)
      → EndedSo (EndsSo tell p used_up a bad) → RanSo o
  ended_so a count o counted some cause is e =
      let line = answer_line a count due in
      ran_so (EndsSo tell p used_up a bad) e line o
      (subst (λ t. ToldEndsIn p used_up counts now (length e.given) due t e.last.outcome line) (sym e.known.1)
      (subst (λ n. EndsIn p used_up counts now n due e.last.outcome line) all (line_ends p used_up counts now count due a e.last.outcome e.known.0 some cause)))
      (ap (λ s. ended_as s (lines.text ++ line)) (ap (λ t. told_status lines.traps t e.last.outcome) e.known.1 ∙ status_ends p used_up lines.traps a e.last.outcome e.known.0 some) ∙ ap Some (sym is)) e.known.2
    where
      all : count ≡ length e.given
      all = counted ∙ ap (λ l. length l) (e.grew ∙ ap (λ l. l ++ e.given) none)

  pub torn_so : (at : ℕ) (o : Outcome) → o ≡ ended status.TornCalls (lines.text ++ torn_text at) → EndedSo (TornAt tell at bad) → RanSo o
  torn_so at o is e =
      ran_so (TornAt tell at bad) e (torn_text at) o (subst (λ t. ToldEndsIn p used_up counts now (length e.given) due t e.last.outcome (torn_text at)) (sym e.known.0) refl)
      (ap (λ t. ended_as (told_status lines.traps t e.last.outcome) (lines.text ++ torn_text at)) e.known.0 ∙ ap Some (sym is)) e.known.1

-- all invocations were made: the last one went on

record LastWent (rans : List Ran) : Type 0 where
  pub last : Ran
  pub is_last : last_of rans ≡ Some last
  pub went : WentOn last

last_went : (rans : List Ran) → 0 < length rans → IfSome (last_of rans) WentOn → LastWent rans
last_went [] some went = absurd (omega arith)
last_went (r ∷ []) some went = record { last = r; is_last = refl; went = went }
last_went (r ∷ q ∷ rans) some went = let more = last_went (q ∷ rans) (omega arith) went in record { last = more.last; is_last = more.is_last; went = more.went }

-- its calls are not torn
last_whole : (tell : Tells) (rans : List Ran) (r : Ran) → last_of rans ≡ Some r → NoneTorn tell rans → torn_in (told tell r) ≡ None
last_whole tell [] r is none = absurd cc
last_whole tell (q ∷ []) r is (first, none) =
    let same : q ≡ r = ap (λ (o : Option Ran). elim o [ None ↦ q | Some x ↦ x ]) is in
    ap (λ (x : Ran). torn_in (told tell x)) (sym same) ∙ first
last_whole tell (q ∷ p ∷ rans) r is (first, none) = last_whole tell (p ∷ rans) r is none

-- its status is that of all traps
more_traps : (t : Telling) (n : ℕ) → 0 < n → 0 < with_trap t n
more_traps nothing n lt = lt
more_traps (finish v) n lt = lt
more_traps (trap kind place dump) n lt = omega arith
more_traps (bare_trap kind) n lt = omega arith
more_traps (torn at) n lt = lt

last_trap : (tell : Tells) (rans : List Ran) (r : Ran) → last_of rans ≡ Some r → 0 < with_trap (told tell r) 0 → 0 < traps_in tell rans
last_trap tell [] r is lt = absurd cc
last_trap tell (q ∷ []) r is lt =
    let same : q ≡ r = ap (λ (o : Option Ran). elim o [ None ↦ q | Some x ↦ x ]) is in
    subst (λ (x : Ran). 0 < with_trap (told tell x) 0) (sym same) lt
last_trap tell (q ∷ p ∷ rans) r is lt = more_traps (told tell q) (traps_in tell (p ∷ rans)) (last_trap tell (p ∷ rans) r is lt)

some_traps : (n : ℕ) → 0 < n → trapped_or_done n ≡ status.Trapped
some_traps n lt = ap (λ b. if b then status.Trapped else status.Done) (lt-ltb 0 n lt)

record EndsQuietly (p : Program) (used_up : Import → Bool) (counts now : List ℕ → ℕ) (given traps : ℕ) (o : RunOutcome) : Type 0 where
  pub ends : EndsIn p used_up counts now given 0 o []
  pub status_is : end_status traps o ≡ Some (trapped_or_done traps)

ends_quietly : (tell : Tells) → Behaves tell → (p : Program) (used_up : Import → Bool) (counts now : List ℕ → ℕ) (given : ℕ) (rans : List Ran) (r : Ran) (o : RunOutcome) (l : Option Config) → r.outcome ≡ o → r.last ≡ l → last_of rans ≡ Some r → torn_in (told tell r) ≡ None → goes_on o r.entered ≡ true → is_some l ≡ true
    → EndsQuietly p used_up counts now given (traps_in tell rans) o
ends_quietly tell b p used_up counts now given rans r (finished v) l is at last whole on some = record { ends = refl; status_is = refl }
ends_quietly tell b p used_up counts now given rans r (trapped kind) (Some c) is at last whole on some =
    let same : told tell r ≡ tell (trapped kind) r.collected (Some c) = ap (λ x. tell x r.collected r.last) is ∙ ap (λ x. tell (trapped kind) r.collected x) at in
    record {
      ends = refl;
      status_is = ap Some (sym (some_traps (traps_in tell rans) (last_trap tell rans r last (subst (λ t. 0 < with_trap t 0) (sym same) (b.traps kind r.collected c (ap torn_in (sym same) ∙ whole))))));
    }
ends_quietly tell b p used_up counts now given rans r (trapped kind) None is at last whole on some = absurd cc
ends_quietly tell b p used_up counts now given rans r (not_started cause) l is at last whole on some = absurd cc
ends_quietly tell b p used_up counts now given rans r (lacks_reply call) l is at last whole on some = absurd cc
ends_quietly tell b p used_up counts now given rans r (misfits call reply) l is at last whole on some = absurd cc
ends_quietly tell b p used_up counts now given rans r running l is at last whole on some = absurd cc
ends_quietly tell b p used_up counts now given rans r got_stuck l is at last whole on some = absurd cc

pub all_made_so : (tell : Tells) → Behaves tell → (p : Program) (M : Engine) (base name : List ℕ) (used_up : Import → Bool) (counts now : List ℕ → ℕ) (first s : State) (done : List Invocation) (fuel : ℕ) (lines : Lines) (before after : List Served) (told_before told_after : Option Contents) (o : Outcome)
    → 0 < length (done ++ []) → o ≡ ended (trapped_or_done lines.traps) lines.text
    → SoFar tell M base name first s done fuel lines before after told_before told_after
    → RanAll tell p M base name used_up counts now (ends_badly s.last) (point_of first (done ++ []) fuel) before after told_before told_after o
all_made_so tell b p M base name used_up counts now first s done fuel lines before after told_before told_after o some is so_far =
    let come = so_far.come [] fuel so_far.within (le_refl fuel) [] in
    let counted : length (done ++ []) ≡ length come.rans + 0 = come.counted in
    let went = last_went come.rans (omega (arith, some, counted)) come.went_on in
    let whole = last_whole tell come.rans went.last went.is_last come.none_torn in
    let quiet = ends_quietly tell b p used_up counts now (length so_far.given) come.rans went.last went.last.outcome went.last.last refl refl went.is_last whole went.went.0 went.went.1 in
    record {
      given = so_far.given;
      grew = so_far.grew;
      writes = so_far.writes;
      files = so_far.files;
      lines = lines;
      due = 0;
      last = went.last;
      has_ended = record {
        rans = come.rans;
        is = ap (λ l. up_to_torn tell l) (ap (λ l. session_from M (point_of first (done ++ []) fuel) l) (sym (append-nil (replies_of so_far.given))) ∙ come.is)
            ∙ none_torn_first tell come.rans [] come.none_torn ∙ append-nil come.rans;
        counted = counted;
        came_of = come.came_of;
        fit = come.fit ∙ plus_none (fitted come.rans) ∙ ap (λ l. fitted come.rans + length l) (sym (all_fitted went.last.outcome went.last.entered went.went.0));
        last = went.is_last;
      };
      line = [];
      ends = subst (λ t. ToldEndsIn p used_up counts now (length so_far.given) 0 t went.last.outcome []) (sym whole) quiet.ends;
      answer = ap (λ s. ended_as s (lines.text ++ [])) (ap (λ t. told_status lines.traps t went.last.outcome) whole ∙ ap (λ n. end_status n went.last.outcome) come.came_of.traps ∙ quiet.status_is ∙ ap (λ n. Some (trapped_or_done n)) (sym come.came_of.traps))
          ∙ ap (λ t. Some (ended (trapped_or_done lines.traps) t)) (append-nil lines.text) ∙ ap Some (sym is);
      misfit = fits_on went.last.outcome went.last.entered went.went.0 ∙ sym (so_far.fits (subst (λ l. 0 < length l) (append-nil done) some));
    }
  where
    plus_none : (n : ℕ) → n ≡ n + 0
    plus_none n = omega arith
