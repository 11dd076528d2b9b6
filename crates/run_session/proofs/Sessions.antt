-- A list of invocations goes on, or ends.
use Rattle.std.proofs.Common.{◌≡◌, ℕ, ◌+◌, Bool, true, false, List, [], ◌∷◌, ◌++◌, length, refl, sym, ap, ◌∙◌, append_assoc, subst, Option, Some, None}
use Rattle.std.proofs.Math.Nat.{le_refl, le_trans}
use Rattle.pm_outside.specs.Contents.{Contents}
use Rattle.wasm_syntax.specs.declared.parts.Import.{Import}
use Rattle.wasm_syntax.specs.declared.host.Served.{Served}
use Rattle.wasm_syntax.specs.Machine.{Engine}
use Rattle.wasm_syntax.specs.Module.{Program}
use Rattle.wasm_syntax.specs.Run.{Invocation, Outcome, not_started, finished, trapped, lacks_reply, misfits, running, got_stuck, Ran, goes_on}
use Rattle.pm_outside.specs.Written.{OnTold}
use Rattle.host_devices.specs.Given.{replies_of}
use Rattle.machine_hosted.specs.declared.answer.RunEnd.{RunEnd}
use Rattle.machine_hosted.specs.calls.Invocations.{HasOutcome}
use Rattle.wasm_machine.specs.calls.Instances.{State}
use Rattle.run_session.specs.Telling.{Tells, told, torn_in}
use Rattle.run_session.specs.RunText.{dumps_from, traps_in, up_to_torn}
use Rattle.run_session.specs.Given.{given_to}
use Rattle.pm_outside.specs.Held.{Writes, HoldThen}
use Rattle.run_session.specs.calls.Progress.{Point, Made, session_from, HasCome, HasEnded}
use Rattle.run_session.specs.inner.Turns.{Adds}
use Rattle.run_session.specs.calls.Sessions.{is_misfit, ends_badly, point_of, MadeOne, made_with, SoFar}
use Rattle.run_session.specs.declared.turns.Lines.{Lines}
use Rattle.run_session.specs.declared.turns.Turn.{Turn}
use Rattle.run_session.specs.declared.turns.Turn.TheVariants.{GoesOn, Ends, Torn}
use Rattle.pm_outside.proofs.Held.{held_also}
use Rattle.run_session.proofs.Lists.{only_one, none_behind}
use Rattle.run_session.proofs.Steps.{with_ran, goes_further, ends_there}
use Rattle.machine_hosted.proofs.WatchLaws.{admits_none}

abbrev made_of : (text : List ℕ) → Writes → ℕ → List Served → Made
made_of text writes traps given = record { text = text; writes = writes; traps = traps; given = given }

-- what is made with one more is what the lines say
same_made : (tell : Tells) (base name : List ℕ) (old new : Lines) (given also : List Served) (writes more : Writes) (r : Ran) → Adds tell base name r old new more → with_ran tell base name (made_with old given writes) also r ≡ made_with new (given ++ also) (writes ++ more)
same_made tell base name old new given also writes more r adds =
    ap (λ t. made_of t (writes ++ dumps_from tell base name old.traps (r ∷ [])) (old.traps + traps_in tell (r ∷ [])) (given ++ also)) (sym adds.text)
    ∙ ap (λ ws. made_of new.text (writes ++ ws) (old.traps + traps_in tell (r ∷ [])) (given ++ also)) (sym adds.wrote)
    ∙ ap (λ n. made_of new.text (writes ++ more) n (given ++ also)) (sym adds.traps)

pub grown : (a b c given also : List Served) → b ≡ a ++ given → c ≡ b ++ also → c ≡ a ++ (given ++ also)
grown a b c given also one other = other ∙ ap (λ l. l ++ also) one ∙ append_assoc a given also

-- all replies fit where the list goes on
pub fits_on : (o : Outcome) (entered : Bool) → goes_on o entered ≡ true → is_misfit o ≡ false
fits_on (finished v) entered e = refl
fits_on (trapped kind) entered e = refl
fits_on (not_started cause) entered e = refl
fits_on (lacks_reply call) entered e = refl
fits_on (misfits call reply) entered e = absurd cc
fits_on running entered e = refl
fits_on got_stuck entered e = refl

pub list_goes_on : (tell : Tells) (p : Program) (M : Engine) (base name : List ℕ) (used_up : Import → Bool) (first s next : State) (done : List Invocation) (i : Invocation) (fuel : ℕ) (old new : Lines) (before mid after : List Served) (told_before told_mid told_after : Option Contents)
    → SoFar tell M base name first s done fuel old before mid told_before told_mid
    → MadeOne tell p M base name used_up s next i fuel old new mid after told_mid told_after GoesOn
    → SoFar tell M base name first next (done ++ i ∷ []) fuel new before after told_before told_after
list_goes_on tell p M base name used_up first s next done i fuel old new before mid after told_before told_mid told_after so_far made = record {
  given = so_far.given ++ made.given;
  grew = grown before mid after so_far.given made.given so_far.grew made.grew;
  writes = so_far.writes ++ made.writes;
  files = held_also so_far.writes made.writes told_before told_mid told_after so_far.files made.files;
  within = made.within so_far.within;
  fits = λ some. let one = made.ran [] fuel (made.within so_far.within) (le_refl fuel) [] tt in sym one.misfit ∙ fits_on one.ran.outcome one.ran.entered one.turns.0;
  come = λ rest total few many more.
      let one = made.ran rest total few many more tt in
      let new_made = made_with new (so_far.given ++ made.given) (so_far.writes ++ made.writes) in
      subst (λ is. HasCome tell M base name (point_of first is total) (point_of next rest total) new_made more) (sym (append_assoc done (i ∷ []) rest))
      (subst (λ m. HasCome tell M base name (point_of first (done ++ i ∷ rest) total) (point_of next rest total) m more) (same_made tell base name old new so_far.given made.given so_far.writes made.writes one.ran one.turns.2)
      (goes_further tell M base name (point_of first (done ++ i ∷ rest) total) (point_of s (i ∷ rest) total) (point_of next rest total) i (made_with old so_far.given so_far.writes) made.given one.ran more refl one.session_turns one.given_is (one.turns.0, one.turns.2.placed) one.turns.1
      (so_far.come (i ∷ rest) total (le_trans made.onward few) many (replies_of made.given ++ more))));
}

-- the list ends, and this is known of its last invocation
pub record EndedWith (tell : Tells) (M : Engine) (base name : List ℕ) (first : Point) (lines : Lines) (before after : List Served) (told_before told_after : Option Contents) (known_of : Ran → Type 0) (due : ℕ) : Type 0 where
  pub given : List Served
  pub grew : after ≡ before ++ given
  pub writes : Writes
  pub files : OnTold (HoldThen writes) told_before told_after
  pub last : Ran
  pub has_ended : HasEnded tell M base name first (made_with lines given writes) due last
  pub known : known_of last

-- with an answer, or with torn calls
abbrev pub EndsSo : Tells → Program → (Import → Bool) → RunEnd → (bad : Bool) → Ran → Type 0
EndsSo tell p used_up answer bad r = HasOutcome p used_up answer r.outcome × (torn_in (told tell r) ≡ None) × (is_misfit r.outcome ≡ bad)

abbrev pub TornAt : Tells → ℕ → (bad : Bool) → Ran → Type 0
TornAt tell at bad r = (torn_in (told tell r) ≡ Some at) × (is_misfit r.outcome ≡ bad)

module _ (tell : Tells) (p : Program) (M : Engine) (base name : List ℕ) (used_up : Import → Bool) (first s next : State) (done : List Invocation) (i : Invocation) (rest : List Invocation) (fuel : ℕ) (old new : Lines) (before mid after : List Served) (told_before told_mid told_after : Option Contents)
    (so_far : SoFar tell M base name first s done fuel old before mid told_before told_mid) where
  abbrev pub HasEndedSo : (Ran → Type 0) → Type 0
  HasEndedSo known_of = EndedWith tell M base name (point_of first (done ++ i ∷ rest) fuel) new before after told_before told_after known_of (length rest)

  ended_there : (turn : Turn) (made : MadeOne tell p M base name used_up s next i fuel old new mid after told_mid told_after turn) (r : Ran) (later : List Ran) (known_of : Ran → Type 0)
      → session_from M (point_of s (i ∷ rest) fuel) (replies_of made.given ++ []) ≡ r ∷ later → up_to_torn tell (r ∷ later) ≡ r ∷ [] → made.given ≡ given_to r → Adds tell base name r old new made.writes
      → known_of r → HasEndedSo known_of
  ended_there turn made r later known_of is last given_is adds known = record {
    given = so_far.given ++ made.given;
    grew = grown before mid after so_far.given made.given so_far.grew made.grew;
    writes = so_far.writes ++ made.writes;
    files = held_also so_far.writes made.writes told_before told_mid told_after so_far.files made.files;
    last = r;
    has_ended = subst (λ m. HasEnded tell M base name (point_of first (done ++ i ∷ rest) fuel) m (length rest) r) (same_made tell base name old new so_far.given made.given so_far.writes made.writes r adds)
        (ends_there tell M base name (point_of first (done ++ i ∷ rest) fuel) (point_of s (i ∷ rest) fuel) i rest (made_with old so_far.given so_far.writes) made.given r later refl is last given_is
        (so_far.come (i ∷ rest) fuel so_far.within (le_refl fuel) (replies_of made.given ++ [])));
    known = known;
  }

  pub list_ends : (answer : RunEnd) → MadeOne tell p M base name used_up s next i fuel old new mid after told_mid told_after (Ends answer) → HasEndedSo (EndsSo tell p used_up answer (ends_badly next.last))
  list_ends answer made =
      let one = made.ran rest fuel (made.within so_far.within) (le_refl fuel) [] (admits_none answer) in
      ended_there (Ends answer) made one.ran [] (EndsSo tell p used_up answer (ends_badly next.last)) one.session_turns (only_one tell one.ran) one.given_is one.turns.3 (one.outcome, one.turns.2, one.misfit)

  pub list_torn : (at : ℕ) → MadeOne tell p M base name used_up s next i fuel old new mid after told_mid told_after (Torn at) → HasEndedSo (TornAt tell at (ends_badly next.last))
  list_torn at made =
      let one = made.ran rest fuel (made.within so_far.within) (le_refl fuel) [] refl in
      ended_there (Torn at) made one.ran one.session_turns.0 (TornAt tell at (ends_badly next.last)) one.session_turns.1 (none_behind tell one.ran at one.session_turns.0 one.turns.0) one.given_is one.turns.1 (one.turns.0, one.misfit)
