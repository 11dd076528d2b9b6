-- The whole list, from what its parts ensure.
use Rattle.std.proofs.Common.{◌≡◌, ℕ, suc, ◌+◌, ◌-◌, ◌<◌, ◌≤◌, Bool, List, [], ◌∷◌, ◌++◌, map, length, take, drop, get_or, refl, sym, ap, ◌∙◌, subst, arith, Option, None, Result, Ok, Err, drop-cons}
use Rattle.std.specs.Prelude.{All, IfOk}
use Rattle.std.proofs.Math.Path.{fun_ext}
use Rattle.std.proofs.Math.Seq.{take-suc}
use Rattle.std.proofs.lemmas.List.{append-nil, drop_all, length-drop, map-append, take-append-drop, length-map}
use Rattle.causes.specs.declared.NoMemory.{NoMemory as WantOfMemory}
use Rattle.pm_outside.specs.Contents.{Contents}
use Rattle.wasm_syntax.specs.declared.parts.Import.{Import}
use Rattle.wasm_syntax.specs.declared.parts.FuncType.{FuncType}
use Rattle.wasm_syntax.specs.declared.module.ModuleParts.{ModuleParts as Module}
use Rattle.wasm_syntax.specs.declared.host.Served.{Served}
use Rattle.wasm_syntax.specs.Machine.{Engine}
use Rattle.wasm_syntax.specs.Module.{Program}
use Rattle.wasm_syntax.specs.Run.{Invocation, Ran}
use Rattle.machine_hosted.specs.declared.answer.RunEnd.{RunEnd}
use Rattle.machine_hosted.specs.declared.answer.RunEnd.TheVariants.{NoMemory}
use Rattle.machine_hosted.specs.calls.Answers.{HasCause}
use Rattle.wasm_machine.specs.calls.Entries.{entry_fault}
use Rattle.wasm_machine.specs.calls.Instances.{State}
use Rattle.commands.specs.Texts.{ended}
use Rattle.commands.specs.Told.{UnlessFault}
use Rattle.commands.specs.declared.outcome.Outcome.{Outcome}
use Rattle.commands.specs.declared.status.Status.TheVariants as status
use Rattle.run_words.specs.declared.invocation.Invocation.{Invocation as InvocationWords}
use Rattle.run_session.specs.Telling.{Tells}
use Rattle.run_session.specs.RunText.{dumps_from, torn_text}
use Rattle.run_session.specs.Invocations.{invocation_of}
use Rattle.run_session.specs.calls.Answers.{answer_line, answer_status}
use Rattle.run_session.specs.Ending.{trapped_or_done}
use Rattle.run_session.specs.calls.Progress.{session_from}
use Rattle.run_session.specs.inner.Turns.{UnlessRefused, IfGoesOn, IfEnds, IfTurnRefused}
use Rattle.run_session.specs.Stop.{Stop, no_memory, file_failed, IsFileFault, OnStop}
use Rattle.run_session.specs.calls.Sessions.{ends_badly, point_of, MadeOne, SoFar, RanAll, StopsIn, OnTurnStop}
use Rattle.run_session.specs.declared.turns.Lines.{Lines}
use Rattle.run_session.specs.declared.turns.Turn.{Turn}
use Rattle.run_session.specs.declared.turns.Turn.TheVariants.{GoesOn, Ends, Torn, Refused}
use Rattle.run_session.proofs.Tellings.{Behaves}
use Rattle.pm_outside.proofs.Held.{none_held}
use Rattle.run_session.proofs.Lists.{zero_plus}
use Rattle.run_session.proofs.Sessions.{EndedWith, EndsSo, TornAt, list_goes_on, list_ends, list_torn}
use Rattle.run_session.proofs.Ends.{ended_so, torn_so, all_made_so, no_file_fault}
use Rattle.run_session.proofs.Stopped.{ended_stopped, stops_behind}
use Rattle.commands.proofs.Unless.{on_all}

-- ---- the begin

pub begins : (tell : Tells) (M : Engine) (base name : List ℕ) (s : State) (done : List Invocation) (fuel : ℕ) (lines : Lines) (calls : List Served) (told : Option Contents) → [] ≡ done → s.steps ≡ 0 → lines.text ≡ [] → lines.traps ≡ 0 → SoFar tell M base name s s done fuel lines calls calls told told
unfolding dumps_from
begins tell M base name s done fuel lines calls told none steps text traps = record {
  given = [];
  grew = sym (append-nil calls);
  writes = [];
  files = none_held told;
  within = omega (arith, steps);
  fits = λ some. absurd (omega (arith, some, ap length none));
  come = λ rest total few many more. record {
    rans = [];
    is = ap (λ l. session_from M (point_of s (l ++ rest) total) more) (sym none);
    counted = ap (λ l. length (l ++ rest)) (sym none) ∙ zero_plus (length rest);
    came_of = record { text = text; writes = refl; traps = traps; given = refl };
    fit = refl;
    went_on = tt;
    none_torn = tt;
  };
}

-- ---- one turn

pub one_more : (n : ℕ) → suc n ≡ n + 1
one_more n = omega arith

pub next_due : (xs : List InvocationWords) (k : ℕ) (x other : InvocationWords) → k < length xs → x ≡ get_or xs k other → map invocation_of (drop k xs) ≡ invocation_of x ∷ map invocation_of (drop (k + 1) xs)
next_due xs k x other lt is =
    ap (λ l. map invocation_of l) (drop-cons xs k other lt) ∙ ap (λ y. invocation_of y ∷ map invocation_of (drop (suc k) xs)) (sym is)
    ∙ ap (λ n. invocation_of x ∷ map invocation_of (drop n xs)) (one_more k)

pub due_left : (xs : List InvocationWords) (k : ℕ) → length (map invocation_of (drop (k + 1) xs)) ≡ length xs - k - 1
due_left xs k = length-map (drop (k + 1) xs) invocation_of ∙ length-drop (k + 1) xs ∙ less (length xs) k
  where
    less : (a b : ℕ) → a - (b + 1) ≡ a - b - 1
    less a b = omega arith

pub of_ok : (result : Result Turn WantOfMemory) (turn : Turn) (P : Turn → Type 0) → result ≡ Ok turn → IfOk result P → P turn
of_ok result turn P is x = subst (λ r. IfOk r P) is x

pub of_want : (result : Result Turn WantOfMemory) (P : Stop → Type 0) → ((turn : Turn) → result ≡ Ok turn → ⊥) → OnTurnStop P result → P no_memory
of_want (Err e) P none x = x
of_want (Ok turn) P none x = absurd (none turn refl)

pub of_goes : (turn : Turn) (P : Type 0) → turn ≡ GoesOn → IfGoesOn P turn → P
of_goes turn P is x = subst (λ t. IfGoesOn P t) is x

pub of_refused : (turn : Turn) (o : Outcome) (P : Outcome → Type 0) → turn ≡ Refused o → IfTurnRefused P turn → P o
of_refused turn o P is x = subst (λ t. IfTurnRefused P t) is x

-- each of them may be begun, where what is served did not change
pub entry_now : (old now : Import → FuncType → Bool) → ((i : Import) (type : FuncType) → now i type ≡ old i type) → (m n : Module) → n ≡ m → (all xs : List InvocationWords) → xs ≡ all → All (λ i. entry_fault old m i.entry i.args ≡ None) all
    → (k : ℕ) (x other : InvocationWords) → k < length xs → x ≡ get_or xs k other → entry_fault now n x.entry x.args ≡ None
entry_now old now same m n stays all xs are entries k x other lt is =
    ap (λ s. entry_fault s n x.entry x.args) (fun_ext (λ i. fun_ext (λ type. same i type)))
    ∙ ap (λ (q : Module). entry_fault old q x.entry x.args) stays
    ∙ ap (λ (y : InvocationWords). entry_fault old m y.entry y.args) (is ∙ ap (λ l. get_or l k other) are)
    ∙ entries k other (subst (λ l. k < length l) are lt)

-- those that were made, with one more
pub next_done : (xs : List InvocationWords) (k : ℕ) (x other : InvocationWords) → k < length xs → x ≡ get_or xs k other → map invocation_of (take k xs) ++ invocation_of x ∷ [] ≡ map invocation_of (take (k + 1) xs)
next_done xs k x other lt is =
    ap (λ y. map invocation_of (take k xs) ++ invocation_of y ∷ []) is
    ∙ sym (map-append invocation_of (take k xs) (get_or xs k other ∷ []))
    ∙ ap (λ l. map invocation_of l) (sym (take-suc xs k other lt))
    ∙ ap (λ n. map invocation_of (take n xs)) (one_more k)

-- those that were made, and those that are due
pub all_due : (xs : List InvocationWords) (k : ℕ) → map invocation_of (take k xs) ++ map invocation_of (drop k xs) ≡ map invocation_of xs
all_due xs k = sym (map-append invocation_of (take k xs) (drop k xs)) ∙ ap (λ l. map invocation_of l) (take-append-drop k xs)

pub one_due : (xs : List InvocationWords) (k : ℕ) (x other : InvocationWords) → k < length xs → x ≡ get_or xs k other → map invocation_of (take k xs) ++ invocation_of x ∷ map invocation_of (drop (k + 1) xs) ≡ map invocation_of xs
one_due xs k x other lt is = ap (λ l. map invocation_of (take k xs) ++ l) (sym (next_due xs k x other lt is)) ∙ all_due xs k

module _ (tell : Tells) (p : Program) (M : Engine) (base name : List ℕ) (used_up : Import → Bool) (first s new : State) (done rest : List Invocation) (i : Invocation) (fuel : ℕ) (old later : Lines) (before mid after : List Served) (told_before told_mid told_after : Option Contents)
    (so_far : SoFar tell M base name first s done fuel old before mid told_before told_mid) where
  abbrev pub made_by : Turn → Type 0
  made_by turn = MadeOne tell p M base name used_up s new i fuel old later mid after told_mid told_after turn

  pub come_next : (turn : Turn) (more : List Invocation) → turn ≡ GoesOn → done ++ i ∷ [] ≡ more → UnlessRefused turn (made_by turn) → SoFar tell M base name first new more fuel later before after told_before told_after
  come_next turn more is with_one made =
      subst (λ l. SoFar tell M base name first new l fuel later before after told_before told_after) with_one
      (list_goes_on tell p M base name used_up first s new done i fuel old later before mid after told_before told_mid told_after so_far (subst (λ t. UnlessRefused t (made_by t)) is made))

  abbrev ends_so : List Invocation → (Ran → Type 0) → Type 0
  ends_so all known_of = EndedWith tell M base name (point_of first all fuel) later before after told_before told_after known_of (length rest)

  ends_with : (turn : Turn) (a : RunEnd) (all : List Invocation) → turn ≡ Ends a → done ++ i ∷ rest ≡ all → UnlessRefused turn (made_by turn) → ends_so all (EndsSo tell p used_up a (ends_badly new.last))
  ends_with turn a all is are made =
      subst (λ l. ends_so l (EndsSo tell p used_up a (ends_badly new.last))) are
      (list_ends tell p M base name used_up first s new done i rest fuel old later before mid after told_before told_mid told_after so_far a (subst (λ t. UnlessRefused t (made_by t)) is made))

  torn_with : (turn : Turn) (at : ℕ) (all : List Invocation) → turn ≡ Torn at → done ++ i ∷ rest ≡ all → UnlessRefused turn (made_by turn) → ends_so all (TornAt tell at (ends_badly new.last))
  torn_with turn at all is are made =
      subst (λ l. ends_so l (TornAt tell at (ends_badly new.last))) are
      (list_torn tell p M base name used_up first s new done i rest fuel old later before mid after told_before told_mid told_after so_far at (subst (λ t. UnlessRefused t (made_by t)) is made))

  abbrev ran_so : (counts now : List ℕ → ℕ) → List Invocation → Outcome → Type 0
  ran_so counts now all o = RanAll tell p M base name used_up counts now (ends_badly new.last) (point_of first all fuel) before after told_before told_after o

  pub ends_ran : (counts now : List ℕ → ℕ) (turn : Turn) (a : RunEnd) (result : Result Outcome WantOfMemory) (all : List Invocation) (left count : ℕ) → turn ≡ Ends a → done ++ i ∷ rest ≡ all → UnlessRefused turn (made_by turn) → length rest ≡ left → before ≡ [] → count ≡ length after
      → (a ≡ NoMemory → ⊥) → HasCause a counts now → IfOk result (λ o. o ≡ ended (answer_status a later.traps) (later.text ++ answer_line a count left))
      → IfOk result (λ o. UnlessFault o.status (ran_so counts now all o))
  ends_ran counts now turn a (Err e) all left count is are made leaves none counted some cause answer = tt
  ends_ran counts now turn a (Ok o) all left count is are made leaves none counted some cause answer =
      on_all o.status (ran_so counts now all o)
      (ended_so tell p M base name used_up counts now (ends_badly new.last) (point_of first all fuel) later before after told_before told_after (length rest) none a count o counted some cause
      (answer ∙ ap (λ n. ended (answer_status a later.traps) (later.text ++ answer_line a count n)) (sym leaves))
      (ends_with turn a all is are made))

  pub torn_ran : (counts now : List ℕ → ℕ) (turn : Turn) (at : ℕ) (result : Result Outcome WantOfMemory) (all : List Invocation) → turn ≡ Torn at → done ++ i ∷ rest ≡ all → UnlessRefused turn (made_by turn) → before ≡ []
      → IfOk result (λ o. o ≡ ended status.TornCalls (later.text ++ torn_text at)) → IfOk result (λ o. UnlessFault o.status (ran_so counts now all o))
  torn_ran counts now turn at (Err e) all is are made none answer = tt
  torn_ran counts now turn at (Ok o) all is are made none answer =
      on_all o.status (ran_so counts now all o)
      (torn_so tell p M base name used_up counts now (ends_badly new.last) (point_of first all fuel) later before after told_before told_after (length rest) none at o answer (torn_with turn at all is are made))

  abbrev stopped_so : List Invocation → Stop → Type 0
  stopped_so all stop = StopsIn tell stop M base name 0 first all fuel before after told_before told_after

  -- the line of its end can't be told
  pub ends_stopped : (turn : Turn) (a : RunEnd) (result : Result Outcome WantOfMemory) (all : List Invocation) (left count : ℕ) → turn ≡ Ends a → done ++ i ∷ rest ≡ all → UnlessRefused turn (made_by turn) → first.steps ≡ 0
      → IfOk result (λ o. o ≡ ended (answer_status a later.traps) (later.text ++ answer_line a count left))
      → OnStop (stopped_so all) result
  ends_stopped turn a (Err e) all left count is are made steps answer =
      ended_stopped tell M base name first all fuel later before after told_before told_after (EndsSo tell p used_up a (ends_badly new.last)) (length rest) steps (ends_with turn a all is are made)
  ends_stopped turn a (Ok o) all left count is are made steps answer = λ faulted. absurd (no_file_fault a later.traps (sym (ap (λ (x : Outcome). x.status) answer) ∙ faulted))

  pub torn_stopped : (turn : Turn) (at : ℕ) (result : Result Outcome WantOfMemory) (all : List Invocation) → turn ≡ Torn at → done ++ i ∷ rest ≡ all → UnlessRefused turn (made_by turn) → first.steps ≡ 0
      → IfOk result (λ o. o ≡ ended status.TornCalls (later.text ++ torn_text at)) → OnStop (stopped_so all) result
  torn_stopped turn at (Err e) all is are made steps answer =
      ended_stopped tell M base name first all fuel later before after told_before told_after (TornAt tell at (ends_badly new.last)) (length rest) steps (torn_with turn at all is are made)
  torn_stopped turn at (Ok o) all is are made steps answer = λ faulted. let clash : status.TornCalls ≡ status.FileFault = sym (ap (λ (x : Outcome). x.status) answer) ∙ faulted in absurd cc

  abbrev pub stops_here : Stop → Type 0
  stops_here stop = StopsIn tell stop M base name old.traps s (i ∷ rest) fuel mid after told_mid told_after

  -- the invocation was stopped
  pub stopped_here : (stop : Stop) (all : List Invocation) → done ++ i ∷ rest ≡ all → first.steps ≡ 0 → stops_here stop → stopped_so all stop
  stopped_here stop all are steps x =
      subst (λ l. stopped_so l stop) are
      (stops_behind tell stop M base name first s done (i ∷ rest) fuel old before mid after told_before told_mid told_after steps so_far x)

  pub stopped_refused : (turn : Turn) (o : Outcome) (all : List Invocation) → turn ≡ Refused o → done ++ i ∷ rest ≡ all → first.steps ≡ 0 → OnTurnStop stops_here (Ok turn)
      → IsFileFault (stopped_so all) o
  stopped_refused turn o all is are steps x =
      let k : IsFileFault stops_here o = subst (λ t. OnTurnStop stops_here (Ok t)) is x in
      record { file = k.file; named = k.named; failed = stopped_here (file_failed k.file) all are steps k.failed; memory = stopped_here no_memory all are steps k.memory }

-- ---- the end of the list

some_due : (xs : List InvocationWords) → 0 < length xs → 0 < length (map invocation_of xs)
some_due xs lt = subst (λ n. 0 < n) (sym (length-map xs invocation_of)) lt

pub all_ran_so : (tell : Tells) → Behaves tell → (p : Program) (M : Engine) (base name : List ℕ) (used_up : Import → Bool) (counts now : List ℕ → ℕ) (first s : State) (all xs : List InvocationWords) (k fuel : ℕ) (lines : Lines) (before after : List Served) (told_before told_after : Option Contents) (o : Outcome)
    → length xs ≤ k → xs ≡ all → 0 < length all → o ≡ ended (trapped_or_done lines.traps) lines.text
    → SoFar tell M base name first s (map invocation_of (take k xs)) fuel lines before after told_before told_after
    → UnlessFault o.status (RanAll tell p M base name used_up counts now (ends_badly s.last) (point_of first (map invocation_of all) fuel) before after told_before told_after o)
all_ran_so tell b p M base name used_up counts now first s all xs k fuel lines before after told_before told_after o le same some answer so_far =
    on_all o.status (RanAll tell p M base name used_up counts now (ends_badly s.last) (point_of first (map invocation_of all) fuel) before after told_before told_after o)
    (subst (λ l. RanAll tell p M base name used_up counts now (ends_badly s.last) (point_of first l fuel) before after told_before told_after o) are
    (all_made_so tell b p M base name used_up counts now first s (map invocation_of (take k xs)) fuel lines before after told_before told_after o
    (subst (λ l. 0 < length l) (sym are) (some_due all some)) answer so_far))
  where
    are : map invocation_of (take k xs) ++ [] ≡ map invocation_of all
    are = ap (λ l. map invocation_of (take k xs) ++ map invocation_of l) (sym (drop_all k xs le)) ∙ all_due xs k ∙ ap (λ l. map invocation_of l) same

-- ---- the answer that ends the list

pub of_end : (turn : Turn) (a : RunEnd) (P : RunEnd → Type 0) → turn ≡ Ends a → IfEnds P turn → P a
of_end turn a P is x = subst (λ t. IfEnds P t) is x
