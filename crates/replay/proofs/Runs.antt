-- What the definitions' run comes to where an instance came so far.
use Rattle.std.proofs.Common.{◌≡◌, ℕ, ◌-◌, ◌≤◌, List, [], ◌∷◌, ◌++◌, drop, slice_get, refl, sym, ap, ap₂, ◌∙◌}
use Rattle.std.specs.Prelude.{Bool, true, false, if◌then◌else◌, Option, Some, None, option_map}
use Rattle.std.proofs.lemmas.List.{take-append-drop}
use Rattle.wasm_syntax.specs.declared.host.Reply.{Reply}
use Rattle.wasm_syntax.specs.declared.module.ModuleParts.{ModuleParts as Module}
use Rattle.wasm_syntax.specs.Module.{Program, function_export, option_then}
use Rattle.wasm_syntax.specs.Host.{World}
use Rattle.wasm_syntax.specs.Machine.{Engine, Config}
use Rattle.wasm_syntax.specs.Run.{Ran, Cause, cause_of, engine, invoked, goes_on, fresh, session, unless, run, start_world}
use Rattle.host_devices.specs.Given.{replies_of}
use Rattle.machine_hosted.specs.declared.answer.RunEnd.{RunEnd}
use Rattle.machine_hosted.specs.calls.Settings.{world_of}
use Rattle.machine_hosted.specs.calls.Invocations.{InvocationCame, invoking}
use Rattle.wasm_machine.specs.calls.Instances.{State, StandsAt}
use Rattle.wasm_machine.proofs.SessionLaws.{goes_on_behind}
use Rattle.replay.specs.Replays.{Recording, IsOf, IsOutcome, invocation_of, ran_within, outcome_at}
use Rattle.replay.specs.Moves.{Shows}
use Rattle.replay.specs.inner.Reached.{CameTo, Reached}
use Rattle.replay.proofs.Answers.{had_memory, all_given, stands, is_outcome}

-- what is known of a run within so many steps, of which it made some
pub record Known (p : Program) (x : Recording) (n steps : ℕ) (answer : RunEnd) (s : State) : Type 0 where
  pub ran : Ran
  pub alone : run p false (invocation_of x ∷ []) x.replies x.depth n ≡ ran ∷ []
  pub left : ran.left ≡ n - steps
  pub within : steps ≤ n
  pub outcome : IsOutcome answer ran.outcome
  pub last : Config
  pub last_is : ran.last ≡ Some last
  pub stands : StandsAt s p last

module _ (x : Recording) (n next : ℕ) (answer : RunEnd) (s : State) (r : Reached x n next answer s) (p : Program) (is : IsOf x p) where
  abbrev c : CameTo x r.entry n next answer r.end s p
  c = r.came p is

  abbrev M : Engine
  M = engine p false x.depth

  came : InvocationCame p s.prepared.codes.items c.used_up (invoking M c.course.start r.entry x.args (world_of c.course.before [])) c.course.fuel c.course.asked answer c.course.steps s.ready s.entered s.machine (drop next x.replies)
  came = c.came (drop next x.replies) r.admits

  all_replies : replies_of c.course.asked.given ++ drop next x.replies ≡ x.replies
  all_replies = ap (λ (rs : List Reply). rs ++ drop next x.replies) c.given ∙ take-append-drop next x.replies

  world_is : world_of c.course.before (replies_of c.course.asked.given ++ drop next x.replies) ≡ start_world p.module_ x.replies
  world_is =
      ap (λ (rs : List Reply). world_of c.course.before rs) all_replies
      ∙ c.before x.replies
      ∙ ap (λ (m : Module). start_world m x.replies) (sym is.of_module)

  due_is : c.course.start ≡ p.module_.start
  due_is = c.start ∙ ap (λ (m : Module). m.start) (sym is.of_module)

  abbrev behind : List Ran
  behind = if s.ready then session M [] None (world_of s.machine (drop next x.replies)) (c.course.fuel - c.course.steps) else []

  session_is : session M (invocation_of x ∷ []) p.module_.start (start_world p.module_ x.replies) n ≡ came.ran ∷ behind
  session_is =
      ap (λ (k : ℕ). session M (invocation_of x ∷ []) p.module_.start (start_world p.module_ x.replies) k) (sym c.fuel)
      ∙ ap₂ (λ (d : Option ℕ) (w : World). session M (invocation_of x ∷ []) d w c.course.fuel) (sym due_is) (sym world_is)
      ∙ goes_on_behind M s.prepared.codes.items c.used_up (invocation_of x) [] r.entry c.course.start c.course.before s.machine c.course.fuel c.course.asked answer c.course.steps s.ready s.entered (drop next x.replies)
      (ap (λ (m : Module). function_export m x.entry) is.of_module ∙ r.exported) (had_memory answer r.ended) came

  starts : cause_of p.module_ (invocation_of x ∷ []) ≡ None
  starts = ap (λ (m : Module). cause_of m (invocation_of x ∷ [])) is.of_module ∙ r.starts

  none_behind : (b : Bool) → (if b then session M [] None (world_of s.machine (drop next x.replies)) (c.course.fuel - c.course.steps) else []) ≡ []
  none_behind true = refl
  none_behind false = refl

  run_is : run p false (invocation_of x ∷ []) x.replies x.depth n ≡ came.ran ∷ []
  run_is = ap (λ (o : Option Cause). unless M o (invocation_of x ∷ []) x.replies n) starts ∙ session_is ∙ ap (λ (rs : List Ran). came.ran ∷ rs) (none_behind s.ready)

  pub known : Known p x n s.steps answer s
  known = record {
    ran = came.ran;
    alone = run_is;
    left = came.left ∙ ap₂ (λ (a b : ℕ). a - b) (all_given answer c.course.fuel c.course.steps r.ended ∙ c.fuel) c.steps;
    within = r.made;
    outcome = is_outcome p c.used_up answer came.ran.outcome r.ended came.outcome;
    last = came.last;
    last_is = came.last_is;
    stands = stands answer s p came.last r.ended (record { of_module = is.of_module ∙ sym r.of_module; writes_out = is.writes_out }) came.keeps;
  }

module _ (x : Recording) (n next : ℕ) (answer : RunEnd) (s : State) (r : Reached x n next answer s) (p : Program) (is : IsOf x p) (j : ℕ) where
  abbrev from : Option ℕ → List Ran
  from o = elim o [
    | None ↦ []
    | Some f ↦ let a = invoked (M x n next answer s r p is) p.module_.start j f x.args (start_world p.module_ x.replies) in
        a ∷ (if goes_on a.outcome a.entered then session (M x n next answer s r p is) [] None (fresh a.last (start_world p.module_ x.replies)) a.left else [])
  ]

  -- within any number of steps it comes to something
  pub ran_there : (a : Ran) × (ran_within p x j ≡ Some a)
  ran_there =
      let is_from : run p false (invocation_of x ∷ []) x.replies x.depth j ≡ from (Some r.entry) =
      ap (λ (o : Option Cause). unless (M x n next answer s r p is) o (invocation_of x ∷ []) x.replies j) (starts x n next answer s r p is)
      ∙ ap from (ap (λ (m : Module). function_export m x.entry) is.of_module ∙ r.exported) in
      (invoked (M x n next answer s r p is) p.module_.start j r.entry x.args (start_world p.module_ x.replies), ap (λ (rs : List Ran). slice_get rs 0) is_from)

pub ran_is : (p : Program) (x : Recording) (n steps : ℕ) (answer : RunEnd) (s : State) → (k : Known p x n steps answer s) → ran_within p x n ≡ Some k.ran
ran_is p x n steps answer s k = ap (λ (rs : List Ran). slice_get rs 0) k.alone

-- the instance shows the state behind so many steps
pub shows : (p : Program) (x : Recording) (n steps : ℕ) (answer : RunEnd) (s : State) → Known p x n steps answer s → Shows p x n s
shows p x n steps answer s k = (k.last, ap (λ (o : Option Ran). option_then o (λ r. r.last)) (ran_is p x n steps answer s k) ∙ k.last_is, k.stands)

pub outcome_is : (p : Program) (x : Recording) (n steps : ℕ) (answer : RunEnd) (s : State) → (k : Known p x n steps answer s) → outcome_at p x n ≡ Some k.ran.outcome
outcome_is p x n steps answer s k = ap (λ (o : Option Ran). option_map (λ r. r.outcome) o) (ran_is p x n steps answer s k)
