-- Commands of the debugger, one after the other, on one dump of a state.
use Rattle.std.proofs.Common.{◌≡◌, ℕ, List, [], ◌∷◌, ◌++◌, refl, sym, ap, subst, ◌∙◌, append_assoc}
use Rattle.std.proofs.lemmas.List.{append-nil}
use Rattle.wasm_syntax.specs.Module.{Program}
use Rattle.wasm_syntax.specs.Run.{Outcome}
use Rattle.dump_format.specs.declared.dump.Dump.{Dump}
use Rattle.debugger.specs.Commands.{read_command}
use Rattle.debugger.specs.Subject.{Subject}
use Rattle.debugger.specs.Session.{Prints, chosen_behind}
use Rattle.debugger.specs.calls.Sitting.{Sitting}
use Rattle.replay.specs.Replays.{Recording}
use Rattle.replay_command.specs.declared.moves.Move.{Move}
use Rattle.replay_command.specs.declared.moves.Move.TheVariants.{Look}
use Rattle.replay_command.specs.Moves.{read_move}
use Rattle.replay_command.specs.ReplayText.{at_frame, subject_at, ShowsStep, Looked, DoesMove, DoAll}
use Rattle.debug_command.specs.calls.Steps.{Adds}
use Rattle.replay_command.specs.inner.Steps.{Looks, LookedThrough}

-- one command more
looks_more : (s : Subject) (taken : List (List ℕ)) (i j : ℕ) (out more given first : List ℕ) → Looks s i out taken j more → read_move given ≡ Look → Prints s j given (read_command given) first
    → Looks s i out (taken ++ given ∷ []) (chosen_behind s j (read_command given)) (more ++ first)
looks_more s [] i j out more given first (same, none) look prints =
    (first, look, subst (λ k. Prints s k given (read_command given) first) same prints, (ap (λ k. chosen_behind s k (read_command given)) same, ap (λ (t : List ℕ). t ++ first) none))
looks_more s (t ∷ ts) i j out more given first (text, looked, printed, rest) look prints =
    (text, looked, printed, looks_more s ts (chosen_behind s i (read_command t)) j (out ++ text) more given first rest look prints)

pub looked_more : (s : Subject) (i : ℕ) (out : List ℕ) (commands left next : List (List ℕ)) (before after : Sitting) (more given out' : List ℕ)
    → before.subject ≡ s → left ≡ given ∷ next → read_move given ≡ Look → LookedThrough s i out commands left before.chosen more → Adds before more given after out' → LookedThrough s i out commands next after.chosen out'
looked_more s i out commands left next before after more given out' same begins look through adds =
    let text : List ℕ = adds.0 in
    let prints : Prints s before.chosen given (read_command given) text = subst (λ (z : Subject). Prints z before.chosen given (read_command given) text) same adds.1 in
    let chosen : after.chosen ≡ chosen_behind s before.chosen (read_command given) = ap (λ (z : Sitting). z.chosen) adds.2 ∙ ap (λ (z : Subject). chosen_behind z before.chosen (read_command given)) same in
    record {
      taken = through.taken ++ given ∷ [];
      are = through.are ∙ ap (λ (cs : List (List ℕ)). through.taken ++ cs) begins ∙ sym (append_assoc through.taken (given ∷ []) next);
      looks = rw (chosen, adds.3) (looks_more s through.taken i before.chosen out more given text through.looks look prints);
    }

pub looked_none : (s : Subject) (i : ℕ) (out : List ℕ) (commands : List (List ℕ)) → LookedThrough s i out commands commands i out
looked_none s i out commands = record { taken = []; are = refl; looks = (refl, refl) }

-- ---- as commands of a replay

module _ (p : Program) (x : Recording) (bytes : List ℕ) (end : ℕ) (o : Outcome) (step : ℕ) (d : Dump) (shows : ShowsStep p x step d) where
  abbrev s : Subject
  s = subject_at x bytes d

  all_looks : (taken left : List (List ℕ)) (i j : ℕ) (out more behind : List ℕ) → Looks s i out taken j more → DoAll p x bytes end o (at_frame step j) left behind
      → (text : List ℕ) × (more ≡ out ++ text) × DoAll p x bytes end o (at_frame step i) (taken ++ left) (text ++ behind)
  all_looks [] left i j out more behind (same, none) all = ([], none ∙ sym (append-nil out), subst (λ k. DoAll p x bytes end o (at_frame step k) left behind) same all)
  all_looks (given ∷ ts) left i j out more behind (first, look, prints, rest) all =
      let next = chosen_behind s i (read_command given) in
      let ih = all_looks ts left next j (out ++ first) more behind rest all in
      let here : Looked p x bytes (at_frame step i) given first (at_frame step next) = record { dump = d; shows = shows; prints = prints; chooses = refl } in (
        first ++ ih.0,
        ih.1 ∙ append_assoc out first ih.0,
        (
          first,
          ih.0 ++ behind,
          at_frame step next,
          subst (λ (move : Move). DoesMove p x bytes end o (at_frame step i) given move first (at_frame step next)) (sym look) here,
          ih.2,
          append_assoc first ih.0 behind,
        ),
      )

  pub looked_all : (i j : ℕ) (out more behind : List ℕ) (commands left : List (List ℕ)) → LookedThrough s i out commands left j more → DoAll p x bytes end o (at_frame step j) left behind
      → (text : List ℕ) × (more ≡ out ++ text) × DoAll p x bytes end o (at_frame step i) commands (text ++ behind)
  looked_all i j out more behind commands left through all =
      let k = all_looks through.taken left i j out more behind through.looks all in
      (k.0, k.1, subst (λ (cs : List (List ℕ)). DoAll p x bytes end o (at_frame step i) cs (k.0 ++ behind)) (sym through.are) k.2)
