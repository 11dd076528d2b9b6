-- The first invocation of a list.
use Rattle.std.proofs.Common.{◌≡◌, ℕ, ◌-◌, List, [], ◌∷◌, ◌++◌, drop, length, refl, sym, ap, ap₂, ◌∙◌}
use Rattle.std.specs.Prelude.{Bool, true, false, if◌then◌else◌, Option, Some, None}
use Rattle.wasm_syntax.specs.declared.parts.Import.{Import}
use Rattle.wasm_syntax.specs.declared.host.Reply.{Reply}
use Rattle.wasm_syntax.specs.Module.{Program, function_export}
use Rattle.wasm_syntax.specs.Host.{World}
use Rattle.wasm_syntax.specs.Machine.{Engine, Config}
use Rattle.wasm_syntax.specs.Run.{Outcome, not_started, finished, trapped, lacks_reply, misfits, running, got_stuck, Ran, goes_on, fresh, invoked, Invocation, session}
use Rattle.machine_code.specs.declared.code.Code.{Code}
use Rattle.machine_steps.specs.declared.machine.Machine.{Machine}
use Rattle.machine_steps.specs.calls.Meets.{Shares}
use Rattle.machine_hosted.specs.calls.Hosted.{Asked}
use Rattle.host_devices.specs.Given.{replies_of}
use Rattle.machine_hosted.specs.declared.answer.RunEnd.{RunEnd}
use Rattle.machine_hosted.specs.declared.answer.RunEnd.TheVariants.{Finished, Trapped, NoReply, BadReply, DeviceFault, FuelSpent, NoMemory}
use Rattle.machine_hosted.specs.calls.Settings.{world_of}
use Rattle.machine_hosted.specs.calls.Answers.{KeepsThen, given_steps}
use Rattle.machine_hosted.specs.calls.Invocations.{may_follow, invoking, InvocationCame}
use Rattle.host_devices.specs.Given.{unfitting}
use Rattle.machine_hosted.proofs.WorldLaws.{same_world}
use Rattle.wasm_machine.specs.calls.Sessions.{HadMemory, GoesOn}

all_given : (answer : RunEnd) (fuel steps : ℕ) → HadMemory answer → given_steps answer fuel steps ≡ fuel
all_given NoMemory fuel steps h = absurd h
all_given (Finished value) fuel steps h = refl
all_given (Trapped kind) fuel steps h = refl
all_given NoReply fuel steps h = refl
all_given (BadReply reply) fuel steps h = refl
all_given (DeviceFault name) fuel steps h = refl
all_given FuelSpent fuel steps h = refl

may_is : (answer : RunEnd) (r : Ran) → HadMemory answer → may_follow answer r ≡ goes_on r.outcome r.entered
may_is NoMemory r h = absurd h
may_is (Finished value) r h = refl
may_is (Trapped kind) r h = refl
may_is NoReply r h = refl
may_is (BadReply reply) r h = refl
may_is (DeviceFault name) r h = refl
may_is FuelSpent r h = refl

keeps_shares : (p : Program) (codes : List Code) (answer : RunEnd) (m : Machine) (c : Config) → HadMemory answer → KeepsThen p codes answer m c → Shares m c.world
keeps_shares p codes NoMemory m c h k = absurd h
keeps_shares p codes (Finished value) m c h k = k.shares
keeps_shares p codes (Trapped kind) m c h k = k.shares
keeps_shares p codes NoReply m c h k = k.shares
keeps_shares p codes (BadReply reply) m c h k = k.shares
keeps_shares p codes (DeviceFault name) m c h k = k.shares
keeps_shares p codes FuelSpent m c h k = k.shares

pub all_fitted : (o : Outcome) (q : Bool) → goes_on o q ≡ true → unfitting o ≡ []
all_fitted (not_started cause) q e = refl
all_fitted (finished v) q e = refl
all_fitted (trapped kind) q e = refl
all_fitted (lacks_reply call) q e = refl
all_fitted (misfits call r) q e = absurd (cc)
all_fitted running q e = refl
all_fitted got_stuck q e = refl

fresh_world : (m : Machine) (c : Config) (w : World) (more : List Reply) → Shares m c.world → c.world.replies ≡ more → fresh (Some c) w ≡ world_of m more
fresh_world m c w more s r = same_world (fresh (Some c) w) (world_of m more) s.holds.globals s.holds.memory s.table r refl

module _ (M : Engine) (codes : List Code) (used_up : Import → Bool) (i : Invocation) (rest : List Invocation) (f : ℕ) (due : Option ℕ) (m m' : Machine) (left : ℕ) (asked : Asked) (answer : RunEnd) (steps : ℕ) (ready entered : Bool) (more : List Reply)
    (exported : function_export M.program.module_ i.name ≡ Some f) (memory : HadMemory answer) (came : InvocationCame M.program codes used_up (invoking M due f i.args (world_of m [])) left asked answer steps ready entered m' more) where
  abbrev w : World
  w = world_of m (replies_of asked.given ++ more)

  abbrev behind : Ran → List Ran
  behind r = r ∷ (if goes_on r.outcome r.entered then session M rest None (fresh r.last w) r.left else [])

  abbrev from : Option ℕ → List Ran
  from o = elim o [
    | None ↦ []
    | Some f ↦ behind (invoked M due left f i.args w)
  ]

  ready_is : ready ≡ goes_on came.ran.outcome came.ran.entered
  ready_is = came.follows ∙ may_is answer came.ran memory

  world_is : ready ≡ true → fresh came.ran.last w ≡ world_of m' more
  world_is e =
      let none : unfitting came.ran.outcome ≡ [] = all_fitted came.ran.outcome came.ran.entered (sym ready_is ∙ e) in
      ap (λ l. fresh l w) came.last_is
      ∙ fresh_world m' came.last w more (keeps_shares M.program codes answer m' came.last memory came.keeps) (ap (λ us. drop (length us) came.last.world.replies) (sym none) ∙ came.replies)

  left_is : came.ran.left ≡ left - steps
  left_is = came.left ∙ ap (λ n. n - steps) (all_given answer left steps memory)

  tails : (b : Bool) → ready ≡ b → (if b then session M rest None (fresh came.ran.last w) came.ran.left else []) ≡ (if b then session M rest None (world_of m' more) (left - steps) else [])
  tails true e = ap₂ (λ u n. session M rest None u n) (world_is e) left_is
  tails false e = refl

  ran_is : invoked M due left f i.args w ≡ came.ran
  ran_is = ap (λ n. invoked M due n f i.args w) (sym (all_given answer left steps memory)) ∙ came.gives

  pub first_of_list : session M (i ∷ rest) due w left ≡ came.ran ∷ (if ready then session M rest None (world_of m' more) (left - steps) else [])
  first_of_list =
      ap from exported ∙ ap behind ran_is
      ∙ ap (λ b. came.ran ∷ (if b then session M rest None (fresh came.ran.last w) came.ran.left else [])) (sym ready_is)
      ∙ ap (λ l. came.ran ∷ l) (tails ready refl)

pub goes_on_behind : GoesOn
goes_on_behind M codes used_up i rest f due m m' left asked answer steps ready entered more e h came = first_of_list M codes used_up i rest f due m m' left asked answer steps ready entered more e h came
