-- Moves and looks, one after the other.
use Rattle.std.proofs.Common.{◌≡◌, ℕ, ◌-◌, min, true, false, List, [], ◌∷◌, ◌++◌, refl, sym, ap, ap₂, subst, ◌∙◌, append_assoc, inl, inr}
use Rattle.std.specs.Prelude.{codes, IfOk, OnOk, Result, Ok, Err}
use Rattle.std.specs.Result.{result_and}
use Rattle.std.specs.Fmt.{decimal}
use Rattle.std.proofs.lemmas.List.{append-nil}
use Rattle.wasm_syntax.specs.declared.module.ModuleParts.{ModuleParts as Module}
use Rattle.wasm_syntax.specs.Module.{Program, IsModule}
use Rattle.wasm_syntax.specs.Run.{Outcome}
use Rattle.machine_hosted.specs.declared.answer.RunEnd.{RunEnd}
use Rattle.dump_format.specs.declared.dump.Dump.{Dump}
use Rattle.dump_match.specs.Judged.{Match}
use Rattle.debug_frames.specs.Information.{SourceInformation, information}
use Rattle.debugger.specs.Subject.{Subject, subject_on}
use Rattle.debugger.specs.calls.Sitting.{Sitting, sitting}
use Rattle.replay.specs.Replays.{Recording, IsOutcome}
use Rattle.replay.specs.Moves.{Replay, OfEach, Went, Found}
use Rattle.replay_command.specs.declared.moves.Move.{Move}
use Rattle.replay_command.specs.declared.moves.Move.TheVariants.{Goto, Back, Until}
use Rattle.replay_command.specs.Moves.{read_move}
use Rattle.replay_command.specs.ReplayText.{At, at_frame, at_step, ending_at, step_text, commands_in, subject_at, ShowsStep, DoesMove, DoAll, ReplayText}
use Rattle.replay_command.specs.inner.Steps.{Seat, choosing, LookedThrough, RunOf, SameRun, place, TakesFor, Moves, Took, EndsSo}
use Rattle.replay_command.proofs.Looks.{looked_all}

-- ---- where a call answered

pub on_line : {E : Type 0} (r : Result (Unit {0}) E) (I P : Outcome → Type 0) (Q : Type 0) → (((o : Outcome) → I o → P o) → Q) → ((o : Outcome) → I o → OnOk r (P o)) → OnOk r Q
on_line (Ok x) I P Q to h = to h
on_line (Err e) I P Q to h = tt

pub on_ok_to : {E : Type 0} (r : Result (Unit {0}) E) (P Q : Type 0) → (P → Q) → OnOk r P → OnOk r Q
on_ok_to (Ok x) P Q to h = to h
on_ok_to (Err e) P Q to h = tt

-- it hands out what was known before
pub hands_out : {A E : Type 0} (r : Result (Unit {0}) E) (x : A) (P : A → Type 0) → OnOk r (P x) → IfOk (result_and r (Ok x)) P
hands_out (Ok u) x P h = h
hands_out (Err e) x P h = tt

pub hands_any : {A E : Type 0} (r : Result (Unit {0}) E) (x : A) (P : A → Type 0) → P x → IfOk (result_and r (Ok x)) P
hands_any (Ok u) x P h = h
hands_any (Err e) x P h = tt

-- ---- the line of a step

more_text : (out x y t : List ℕ) → t ≡ out ++ x → t ++ y ≡ out ++ (x ++ y)
more_text out x y t e = ap (λ (z : List ℕ). z ++ y) e ∙ append_assoc out x y

pub step_line : (step end : ℕ) (o : Outcome) (out a b c d : List ℕ) → a ≡ out ++ codes "step " ++ decimal step → b ≡ a ++ codes " of " ++ decimal end → c ≡ b ++ ending_at step end o → d ≡ c ++ codes "\n" → d ≡ out ++ step_text step end o
unfolding step_text
step_line step end o out a b c d ea eb ec ed =
    let one = more_text out (codes "step ") (decimal step) (out ++ codes "step ") refl in
    let two = more_text out _ (codes " of ") a (ea ∙ one) in
    let three = more_text out _ (decimal end) (a ++ codes " of ") two in
    let four = more_text out _ (ending_at step end o) b (eb ∙ three) in
    ed ∙ more_text out _ (codes "\n") c (ec ∙ four)

-- ---- one move

pub same_run : (r : Replay) → SameRun r r
same_run r = record { recording = refl; end = refl; outcome = refl }

pub went_run : (old new : Replay) (n : ℕ) → Went old new n → SameRun old new
went_run old new n w = record { recording = w.recording; end = w.end; outcome = w.outcome }

-- It went to a step, frame 0 was chosen, and the line of the step was added.
pub arrived : (old new : Replay) (before after : Seat) (out more : List ℕ) (n : ℕ) (move : Move)
    → Went old new n → after ≡ choosing before 0
    → ((o : Outcome) → IsOutcome new.outcome o → more ≡ out ++ step_text new.step new.end o)
    → ((p : Program) (o : Outcome) → RunOf old.recording old.end old.outcome p o → (given text : List ℕ) → text ≡ step_text n old.end o → DoesMove p old.recording before.bytes old.end o (place old before) given move text (at_step n))
    → Moves old before out move new after more
arrived old new before after out more n move went innermost line does = record {
  run = went_run old new n went;
  seat = innermost ∙ ap (λ i. choosing before i) (sym (ap (λ (v : Seat). v.chosen) innermost));
  does = λ p o run given. (
    step_text n old.end o,
    line o (subst (λ a. IsOutcome a o) (sym went.outcome) run.answers) ∙ ap₂ (λ step end. out ++ step_text step end o) went.step_is went.end,
    subst (λ new_place. DoesMove p old.recording before.bytes old.end o (place old before) given move (step_text n old.end o) new_place)
        (ap₂ at_frame (sym went.step_is) (sym (ap (λ (v : Seat). v.chosen) innermost))) (does p o run given (step_text n old.end o) refl),
  );
}

pub went_to : (old new : Replay) (before after : Seat) (out more : List ℕ) (n : ℕ) → Went old new (min n old.end) → after ≡ choosing before 0
    → ((o : Outcome) → IsOutcome new.outcome o → more ≡ out ++ step_text new.step new.end o) → Moves old before out (Goto n) new after more
went_to old new before after out more n went innermost line = arrived old new before after out more (min n old.end) (Goto n) went innermost line (λ p o run given text is. (is, refl))

-- one step back is a step that there is
pub went_back : (old new : Replay) (before after : Seat) (out more : List ℕ) (n : ℕ) → n ≡ old.step - 1 → min n old.end ≡ n → Moves old before out (Goto n) new after more → Moves old before out Back new after more
went_back old new before after out more n is there moves = record {
  run = moves.run;
  seat = moves.seat;
  does = λ p o run given.
      let k = moves.does p o run given in
      let same : min n old.end ≡ old.step - 1 = there ∙ is in
      (k.0, k.1, (k.2.0 ∙ ap (λ s. step_text s old.end o) same, k.2.1 ∙ ap at_step same));
}

pub found_next : (old new : Replay) (before after : Seat) (out more : List ℕ) (f at : ℕ) → Found true old f at new → after ≡ choosing before 0
    → ((o : Outcome) → IsOutcome new.outcome o → more ≡ out ++ step_text new.step new.end o) → Moves old before out (Until f at) new after more
found_next old new before after out more f at (went, next) innermost line =
    arrived old new before after out more new.step (Until f at) went innermost line (λ p o run given text is. inl (new.step, next p run.of_program, (is, refl)))

pub found_none : (old new : Replay) (seat : Seat) (out more : List ℕ) (f at : ℕ) → Found false old f at new → more ≡ out ++ codes "not reached\n" → Moves old seat out (Until f at) new seat more
found_none old new seat out more f at (same, none) line = record {
  run = subst (λ r. SameRun old r) (sym same) (same_run old);
  seat = refl;
  does = λ p o run given. (codes "not reached\n", line, inr (none p run.of_program, refl, ap (λ (r : Replay). place r seat) same));
}

-- ---- what is taken

-- a move is the first command
pub took_move : (old new : Replay) (before after : Seat) (out more given : List ℕ) (commands left : List (List ℕ)) (move : Move) → commands ≡ given ∷ left → read_move given ≡ move → Moves old before out move new after more
    → Took old before out commands left new after more
took_move old new before after out more given commands left move begins reads moves = record {
  run = moves.run;
  seat = moves.seat;
  does = λ p o run behind all.
      let k = moves.does p o run given in
      let here = subst (λ mv. DoesMove p old.recording before.bytes old.end o (place old before) given mv k.0 (place new after)) (sym reads) k.2 in
      (k.0, k.1, subst (λ cs. DoAll p old.recording before.bytes old.end o (place old before) cs (k.0 ++ behind)) (sym begins) (k.0, behind, place new after, here, all, refl));
}

-- what a session on the dump of a state looks at
pub looks_at : (x : Recording) (bytes : List ℕ) (m : Module) (d : Dump) (known : SourceInformation) (match : Match) → m ≡ x.module_ → known ≡ information bytes m.customs → match.module_ ≡ m → match.dump ≡ d
    → subject_on known match.module_ match.dump ≡ subject_at x bytes d
looks_at x bytes m d known match of is module_is dump_is =
    λ i. subject_on ((is ∙ ap (λ (k : Module). information bytes k.customs) of) i) ((module_is ∙ of) i) (dump_is i)

-- commands look at one dump of the state
pub took_looks : (r : Replay) (before after : Seat) (d : Dump) (session : Sitting) (at : Subject) (out more : List ℕ) (commands left : List (List ℕ)) (j : ℕ) → after ≡ choosing before after.chosen → after.chosen ≡ j
    → OfEach r.recording (λ p. ShowsStep p r.recording r.step d) → session ≡ sitting at before.chosen → at ≡ subject_at r.recording before.bytes d → LookedThrough session.subject session.chosen out commands left j more
    → Took r before out commands left r after more
took_looks r before after d session at out more commands left j same chosen shows begins is through =
    let here : LookedThrough (subject_at r.recording before.bytes d) before.chosen out commands left after.chosen more = subst (λ s. LookedThrough s before.chosen out commands left after.chosen more) is
    (subst (λ (s : Sitting). LookedThrough s.subject s.chosen out commands left after.chosen more) begins (subst (λ k. LookedThrough session.subject session.chosen out commands left k more) (sym chosen) through)) in
    record {
      run = same_run r;
      seat = same;
      does = λ p o run behind all. looked_all p r.recording before.bytes r.end o r.step d (shows p run.of_program) before.chosen after.chosen out more behind commands left here all;
    }

-- ---- all of them

-- all of the commands print what those that are left print, behind what was printed
abbrev pub Leads : Replay → Seat → List (List ℕ) → At → List (List ℕ) → List ℕ → Type 0
Leads r v commands new left out =
    (p : Program) (o : Outcome) → RunOf r.recording r.end r.outcome p o → (behind : List ℕ) → DoAll p r.recording v.bytes r.end o new left behind → DoAll p r.recording v.bytes r.end o (place r v) commands (out ++ behind)

-- what the loop keeps
pub record Reached (r : Replay) (v : Seat) (commands : List (List ℕ)) (now : Replay) (seat : Seat) (left : List (List ℕ)) (out : List ℕ) : Type 0 where
  pub run : SameRun r now
  pub seat_is : seat ≡ choosing v seat.chosen
  pub leads : Leads r v commands (place now seat) left out

pub reached_none : (r : Replay) (v : Seat) (commands : List (List ℕ)) (out : List ℕ) → out ≡ [] → Reached r v commands r v commands out
reached_none r v commands out empty = record {
  run = same_run r;
  seat_is = refl;
  leads = λ p o run behind all. subst (λ (t : List ℕ). DoAll p r.recording v.bytes r.end o (place r v) commands (t ++ behind)) (sym empty) all;
}

-- the same run is known by what it was before
takes_since : (x y : Recording) (bytes bytes' : List ℕ) (end end' : ℕ) (answer answer' : RunEnd) (old : At) (out : List ℕ) (commands left : List (List ℕ)) (new : At) (more : List ℕ)
    → y ≡ x → bytes' ≡ bytes → end' ≡ end → answer' ≡ answer → TakesFor y bytes' end' answer' old out commands left new more → TakesFor x bytes end answer old out commands left new more
takes_since x y bytes bytes' end end' answer answer' old out commands left new more ex eb ee ea takes =
    subst (λ a. TakesFor x bytes end a old out commands left new more) ea
    (subst (λ e. TakesFor x bytes e answer' old out commands left new more) ee
    (subst (λ b. TakesFor x b end' answer' old out commands left new more) eb
    (subst (λ z. TakesFor z bytes' end' answer' old out commands left new more) ex takes)))

pub reached_more : (r : Replay) (v : Seat) (commands : List (List ℕ)) (now next : Replay) (seat other : Seat) (left rest : List (List ℕ)) (out more : List ℕ)
    → Reached r v commands now seat left out → Took now seat out left rest next other more → Reached r v commands next other rest more
reached_more r v commands now next seat other left rest out more so_far took =
    let bytes : seat.bytes ≡ v.bytes = ap (λ (s : Seat). s.bytes) so_far.seat_is in
    let takes = takes_since r.recording now.recording v.bytes seat.bytes r.end now.end r.outcome now.outcome (place now seat) out left rest (place next other) more so_far.run.recording bytes so_far.run.end so_far.run.outcome took.does in
    record {
      run = record { recording = took.run.recording ∙ so_far.run.recording; end = took.run.end ∙ so_far.run.end; outcome = took.run.outcome ∙ so_far.run.outcome };
      seat_is = took.seat ∙ ap (λ (s : Seat). choosing s other.chosen) so_far.seat_is;
      leads = λ p o run behind all.
          let k = takes p o run behind all in
          let here = so_far.leads p o run (k.0 ++ behind) k.2 in
          subst (λ (t : List ℕ). DoAll p r.recording v.bytes r.end o (place r v) commands t) (sym (append_assoc out k.0 behind) ∙ ap (λ (t : List ℕ). t ++ behind) (sym k.1)) here;
    }

-- there are trees of a module
pub told_all : (m : Module) (r : Replay) (v : Seat) (bytes commands text : List ℕ) → IsModule m → r.recording.module_ ≡ m → v.bytes ≡ bytes → OfEach r.recording (λ p. ReplayText r.recording v.bytes commands text) → ReplayText r.recording bytes commands text
told_all m r v bytes commands text whole of same told =
    subst (λ (b : List ℕ). ReplayText r.recording b commands text) same (told (record { module_ = m; trees = whole.trees }) (record { of_module = sym of; writes_out = whole.write }))

-- none is left
pub reached_all : (r : Replay) (v : Seat) (text : List ℕ) (now : Replay) (seat : Seat) (out : List ℕ) → r.step ≡ 0 → v.chosen ≡ 0 → Reached r v (commands_in text) now seat [] out → OfEach r.recording (λ p. EndsSo p r)
    → OfEach r.recording (λ p. ReplayText r.recording v.bytes text out)
reached_all r v text now seat out first innermost so_far ends p of =
    let e = ends p of in
    let o = e.1.0 in
    let all = so_far.leads p o (record { of_program = of; outcome_is = e.1.1; answers = e.1.2 }) [] refl in
    record {
      program = p;
      of_program = of;
      end = r.end;
      is_end = e.0;
      outcome = o;
      outcome_is = e.1.1;
      is_text = subst (λ start. DoAll p r.recording v.bytes r.end o start (commands_in text) out) (ap₂ at_frame first innermost)
          (subst (λ (t : List ℕ). DoAll p r.recording v.bytes r.end o (place r v) (commands_in text) t) (append-nil out) all);
    }
