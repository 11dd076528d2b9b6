-- Lists of invocations that were stopped.
use Rattle.std.proofs.Common.{◌≡◌, ℕ, suc, ◌+◌, Bool, true, false, List, [], ◌∷◌, ◌++◌, length, take, refl, sym, ap, ap₂, ◌∙◌, subst, arith, Option, Some, None, Result, Ok, Err}
use Rattle.std.specs.Prelude.{IfOk, reverse, if◌then◌else◌}
use Rattle.std.proofs.Math.Nat.{le_refl}
use Rattle.std.proofs.Math.Seq.{take-append-add}
use Rattle.std.proofs.lemmas.List.{map-append}
use Rattle.std.proofs.lemmas.Grind.{flat_map-append}
use Rattle.causes.specs.declared.NoMemory.{NoMemory as WantOfMemory}
use Rattle.pm_outside.specs.Contents.{Contents}
use Rattle.wasm_syntax.specs.declared.value.Value.{Value}
use Rattle.wasm_syntax.specs.declared.host.Served.{Served}
use Rattle.wasm_syntax.specs.Host.{World}
use Rattle.wasm_syntax.specs.Machine.{Engine, config, entered}
use Rattle.wasm_syntax.specs.Module.{Function, imported, defined, function_at, function_export}
use Rattle.wasm_syntax.specs.Run.{Invocation, Ran, ran_to, run_function, invoked, fresh, goes_on, session}
use Rattle.pm_outside.specs.Written.{OnTold}
use Rattle.host_devices.specs.Given.{replies_of}
use Rattle.wasm_machine.specs.calls.Instances.{State}
use Rattle.commands.specs.Texts.{file_fault}
use Rattle.commands.specs.declared.outcome.Outcome.{Outcome}
use Rattle.run_session.specs.Telling.{Tells}
use Rattle.run_session.specs.RunText.{dumps_from, traps_in, up_to_torn, unless_torn, with_dump}
use Rattle.run_session.specs.Given.{given_to, given_in}
use Rattle.pm_outside.specs.Held.{Writes, HoldThen, HoldPart}
use Rattle.run_session.specs.calls.Progress.{Point, session_from, HasCome}
use Rattle.run_session.specs.Stop.{Stop, no_memory, file_failed, OnStop}
use Rattle.run_session.specs.inner.Turns.{IfTurnRefused}
use Rattle.run_session.specs.calls.Sessions.{point_of, made_with, SoFar, WasStopped, StopsIn, OnTurnStop}
use Rattle.run_session.specs.declared.turns.Lines.{Lines}
use Rattle.run_session.specs.declared.turns.Turn.{Turn}
use Rattle.run_session.specs.declared.turns.Turn.TheVariants.{GoesOn, Ends, Torn, Refused}
use Rattle.pm_outside.proofs.Held.{held_part, part_also}
use Rattle.run_session.proofs.Tellings.{Behaves}
use Rattle.run_session.proofs.Lists.{dumps_behind, last_behind, traps_behind, zero_plus, only_one, none_torn_first}
use Rattle.run_session.proofs.Sessions.{EndedWith, grown}

-- ---- no step is left

-- nothing was given, and nothing is dumped
pub record Nothing (tell : Tells) (base name : List ℕ) (rans : List Ran) : Type 0 where
  pub given : given_in rans ≡ []
  pub dumps : (j : ℕ) → dumps_from tell base name j rans ≡ []

nothing : (tell : Tells) (base name : List ℕ) → Nothing tell base name []
unfolding dumps_from
nothing tell base name = record { given = refl; dumps = λ j. refl }

pub unless_left : (tell : Tells) (base name : List ℕ) (t : Option ℕ) (rans : List Ran) → Nothing tell base name rans → Nothing tell base name (unless_torn t rans)
unless_left tell base name None rans none = none
unless_left tell base name (Some at) rans none = nothing tell base name

-- the list does not go on behind it
record Still (tell : Tells) (base name : List ℕ) (r : Ran) : Type 0 where
  pub off : goes_on r.outcome r.entered ≡ false
  pub none : Nothing tell base name (r ∷ [])

still : (tell : Tells) → Behaves tell → (base name : List ℕ) (M : Engine) (f : ℕ) (fn : Option Function) (args : List Value) (w : World) → w.served ≡ [] → Still tell base name (let e = run_function M 0 f fn args w [] in ran_to true e.what e.left)
unfolding dumps_from
still tell b base name M f None args w none = record { off = refl; none = record { given = refl; dumps = λ j. ap (λ t. with_dump base name j t (λ k. [])) (b.stuck [] None) } }
still tell b base name M f (Some (imported import type)) args w none =
    record { off = refl; none = record { given = ap (λ l. (reverse l ++ []) ++ []) none; dumps = λ j. ap (λ t. with_dump base name j t (λ k. [])) (b.running (reverse []) (Some (config [] w []))) } }
still tell b base name M f (Some (defined body tree type)) args w none =
    record { off = refl; none = record { given = ap (λ l. (reverse l ++ []) ++ []) none; dumps = λ j. ap (λ t. with_dump base name j t (λ k. [])) (b.running (reverse []) (Some (config (entered f body tree type args ∷ []) w []))) } }

ends_still : (tell : Tells) (base name : List ℕ) (r : Ran) (others : List Ran) → Still tell base name r → Nothing tell base name (up_to_torn tell (r ∷ (if goes_on r.outcome r.entered then others else [])))
ends_still tell base name r others s =
    subst (λ b. Nothing tell base name (up_to_torn tell (r ∷ (if b then others else [])))) (sym s.off) (subst (λ l. Nothing tell base name l) (sym (only_one tell r)) s.none)

-- no invocation begins
pub none_left : (tell : Tells) → Behaves tell → (base name : List ℕ) (M : Engine) (is : List Invocation) (w : World) → w.served ≡ [] → Nothing tell base name (up_to_torn tell (session M is None w 0))
none_left tell b base name M [] w none = nothing tell base name
none_left tell b base name M (i ∷ is) w none = by_export (function_export M.program.module_ i.name)
  where
    others : Ran → List Ran
    others r = session M is None (fresh r.last w) r.left

    by_export : (o : Option ℕ) → Nothing tell base name (up_to_torn tell (elim o [ None ↦ [] | Some f ↦ let r = invoked M None 0 f i.args w in r ∷ (if goes_on r.outcome r.entered then session M is None (fresh r.last w) r.left else []) ]))
    by_export None = nothing tell base name
    by_export (Some f) = let r = invoked M None 0 f i.args w in ends_still tell base name r (others r) (still tell b base name M f (function_at M.program f) i.args w none)

pub choice_left : (tell : Tells) (base name : List ℕ) (b : Bool) (rans : List Ran) → Nothing tell base name (up_to_torn tell rans) → Nothing tell base name (up_to_torn tell (if b then rans else []))
choice_left tell base name true rans none = none
choice_left tell base name false rans none = nothing tell base name

-- ---- behind others

-- the same numbers of the dumps
same_dumps : (tell : Tells) (base name : List ℕ) (n : ℕ) (rans rs : List Ran) → n ≡ traps_in tell rans → dumps_from tell base name 0 rans ++ dumps_from tell base name n rs ≡ dumps_from tell base name 0 (rans ++ rs)
same_dumps tell base name n rans rs is = ap (λ k. dumps_from tell base name 0 rans ++ dumps_from tell base name k rs) (is ∙ zero_plus (traps_in tell rans)) ∙ sym (dumps_behind tell base name 0 rans rs)

was_behind : (tell : Tells) (M : Engine) (base name : List ℕ) (first there : Point) (rans : List Ran) (lines : Lines) (given : List Served) (writes : Writes) (before mid after : List Served) (told_before told_mid told_after : Option Contents)
    → mid ≡ before ++ given → OnTold (HoldThen writes) told_before told_mid
    → (w : WasStopped tell M base name lines.traps there rans mid after told_mid told_after)
    → (come : HasCome tell M base name first there (made_with lines given writes) (replies_of w.given))
    → WasStopped tell M base name 0 first (come.rans ++ rans) before after told_before told_after
was_behind tell M base name first there rans lines given writes before mid after told_before told_mid told_after grew files w come = record {
  given = given ++ w.given;
  grew = grown before mid after given w.given grew w.grew;
  is = ap (λ l. up_to_torn tell l) (ap (λ l. session_from M first l) (map-append (λ (s : Served). s.reply) given w.given) ∙ come.is)
      ∙ none_torn_first tell come.rans (session_from M there (replies_of w.given)) come.none_torn ∙ ap (λ l. come.rans ++ l) w.is;
  all_given = ap₂ (λ a b. a ++ b) come.came_of.given w.all_given ∙ sym (flat_map-append given_to come.rans rans);
  files =
      subst (λ ws. OnTold (HoldPart ws) told_before told_after)
      (ap (λ ws. ws ++ dumps_from tell base name lines.traps rans) come.came_of.writes ∙ same_dumps tell base name lines.traps come.rans rans come.came_of.traps)
      (part_also writes (dumps_from tell base name lines.traps rans) told_before told_mid told_after files w.files);
}

-- the number of the last trap
trap_behind : (tell : Tells) (traps trap : ℕ) (rans rs : List Ran) → traps ≡ traps_in tell rans → traps + traps_in tell rs ≡ suc trap → 0 + traps_in tell (rans ++ rs) ≡ suc trap
trap_behind tell traps trap rans rs is counted = sym (zero_plus (traps_in tell (rans ++ rs))) ∙ traps_behind tell rans rs ∙ ap (λ n. n + traps_in tell rs) (sym is) ∙ counted

pub stops_behind : (tell : Tells) (stop : Stop) (M : Engine) (base name : List ℕ) (first s : State) (done is : List Invocation) (fuel : ℕ) (lines : Lines) (before mid after : List Served) (told_before told_mid told_after : Option Contents)
    → first.steps ≡ 0 → SoFar tell M base name first s done fuel lines before mid told_before told_mid
    → StopsIn tell stop M base name lines.traps s is fuel mid after told_mid told_after
    → StopsIn tell stop M base name 0 first (done ++ is) fuel before after told_before told_after
stops_behind tell no_memory M base name first s done is fuel lines before mid after told_before told_mid told_after none so_far (total, few, many, rans, w) =
    let come = so_far.come is total few many (replies_of w.given) in
    (total, omega (arith, none), many, come.rans ++ rans, was_behind tell M base name (point_of first (done ++ is) total) (point_of s is total) rans lines so_far.given so_far.writes before mid after told_before told_mid told_after so_far.grew so_far.files w come)
stops_behind tell (file_failed file) M base name first s done is fuel lines before mid after told_before told_mid told_after none so_far (made, rans, d, w) =
    let come = so_far.come (take made is) fuel so_far.within (le_refl fuel) (replies_of w.given) in (
      length done + made,
      come.rans ++ rans,
      record {
        ran = d.ran;
        kind = d.kind;
        last = last_behind come.rans rans d.ran d.last;
        has_trapped = d.has_trapped;
        has_dump = d.has_dump;
        trap = d.trap;
        counted = trap_behind tell lines.traps d.trap come.rans rans come.came_of.traps d.counted;
        file_is = d.file_is;
      },
      subst (λ l. WasStopped tell M base name 0 (point_of first l fuel) (come.rans ++ rans) before after told_before told_after) (sym (take-append-add done is made))
          (was_behind tell M base name (point_of first (done ++ take made is) fuel) (point_of s (take made is) fuel) rans lines so_far.given so_far.writes before mid after told_before told_mid told_after so_far.grew so_far.files w come),
    )

-- ---- behind all of them

pub ended_stopped : (tell : Tells) (M : Engine) (base name : List ℕ) (first : State) (all : List Invocation) (fuel : ℕ) (lines : Lines) (before after : List Served) (told_before told_after : Option Contents) (known_of : Ran → Type 0) (due : ℕ)
    → first.steps ≡ 0 → EndedWith tell M base name (point_of first all fuel) lines before after told_before told_after known_of due
    → StopsIn tell no_memory M base name 0 first all fuel before after told_before told_after
ended_stopped tell M base name first all fuel lines before after told_before told_after known_of due none e = (
  fuel,
  omega (arith, none),
  le_refl fuel,
  e.has_ended.rans,
  record {
    given = e.given;
    grew = e.grew;
    is = e.has_ended.is;
    all_given = e.has_ended.came_of.given;
    files = subst (λ ws. OnTold (HoldPart ws) told_before told_after) e.has_ended.came_of.writes (held_part e.writes told_before told_after e.files);
  },
)

-- ---- one of them

pub turn_stops : (P : Stop → Type 0) (H R : Type 0) (file : List ℕ) (result : Result Turn WantOfMemory) → P no_memory → (H → P (file_failed file)) → IfOk result (IfTurnRefused (λ _. H))
    → IfOk result (IfTurnRefused (λ o. (o ≡ file_fault file) × R)) → OnTurnStop P result
turn_stops P H R file (Err e) memory failed refused named = memory
turn_stops P H R file (Ok GoesOn) memory failed refused named = tt
turn_stops P H R file (Ok (Ends a)) memory failed refused named = tt
turn_stops P H R file (Ok (Torn at)) memory failed refused named = tt
turn_stops P H R file (Ok (Refused o)) memory failed refused named = record { file = file; named = named.0; failed = failed refused; memory = memory }

pub want_stops : (P : Stop → Type 0) (result : Result Outcome WantOfMemory) (e : WantOfMemory) → result ≡ Err e → P no_memory → OnStop P result
want_stops P result e is x = subst (λ r. OnStop P r) (sym is) x
