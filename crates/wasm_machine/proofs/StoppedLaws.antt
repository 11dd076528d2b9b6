-- Where the last invocation of an instance stopped.
use Rattle.std.proofs.Common.{◌≡◌, ℕ, ◌+◌, List, refl, sym, ap, subst, ◌∙◌}
use Rattle.std.specs.Prelude.{Bool, Option, Some, None, option_map}
use Rattle.wasm_syntax.specs.declared.value.Value.{Value}
use Rattle.wasm_syntax.specs.declared.parts.Import.{Import}
use Rattle.wasm_syntax.specs.declared.module.ModuleParts.{ModuleParts as Module}
use Rattle.wasm_syntax.specs.Module.{Program}
use Rattle.machine_code.specs.declared.code.Code.{Code}
use Rattle.machine_steps.specs.declared.machine.Machine.{Machine}
use Rattle.machine_code.specs.declared.prepared.Prepared.{Prepared}
use Rattle.host_devices.specs.calls.HostSides.{Calls}
use Rattle.machine_hosted.specs.declared.answer.EntryRun.{EntryRun}
use Rattle.machine_hosted.specs.declared.answer.RunEnd.{RunEnd}
use Rattle.machine_hosted.specs.declared.answer.RunEnd.TheVariants as answers
use Rattle.machine_hosted.specs.calls.Settings.{MachineFits, Takes}
use Rattle.machine_hosted.specs.calls.Courses.{Course, longer, CameBy, Followed, WentOn}
use Rattle.wasm_machine.specs.declared.invocation.End.{End}
use Rattle.wasm_machine.specs.declared.invocation.End.TheVariants as ends
use Rattle.wasm_machine.specs.declared.invocation.LastInvocation.{LastInvocation}
use Rattle.wasm_machine.specs.calls.Instances.{State, state, kept_end, last_of, IsSpent, Resumed, StoppedBy}
use Rattle.pm_text.proofs.Lists.{some_is}

abbrev kept_so : (entry : ℕ) (args : List Value) (depth : ℕ) (collecting : Bool) → End → LastInvocation
kept_so entry args depth collecting end = record { entry = entry; args = args; depth = depth; collecting = collecting; end = end }

-- what is kept, if anything is
kept_as : (entry : ℕ) (args : List Value) (depth : ℕ) (collecting : Bool) (o : Option End) (l : LastInvocation) → option_map (kept_so entry args depth collecting) o ≡ Some l
    → (end : End) × (o ≡ Some end) × (kept_so entry args depth collecting end ≡ l)
kept_as entry args depth collecting None l e = absurd (cc)
kept_as entry args depth collecting (Some end) l e = let same : kept_so entry args depth collecting end ≡ l = cc in (end, refl, same)

module _ (p : Program) (codes : List Code) (m : Module) (entry : ℕ) (args : List Value) (depth : ℕ) (collecting : Bool) (course : Course) (ready entered : Bool) (after : Machine) where
  -- the invocation that is kept came to this
  abbrev Kept : LastInvocation → Type 0
  Kept l = (answer : RunEnd) × (kept_end answer ≡ Some l.end) × Followed p codes l.collecting l.depth l.entry l.args m course answer ready entered after

  pub stops : (used_up : Import → Bool) (copy : List Value) (answer : RunEnd) (kept : Option LastInvocation)
      → ((f : ℕ) → course.start ≡ Some f → m.start ≡ Some f) → MachineFits m course.before → Takes m entry args → copy ≡ args → kept ≡ last_of entry copy depth collecting answer
      → CameBy p codes collecting depth entry args used_up course answer ready entered after
      → (l : LastInvocation) → kept ≡ Some l → Kept l
  stops used_up copy answer kept due fits takes same is came l there =
      let k = kept_as entry copy depth collecting (kept_end answer) l (sym is ∙ there) in
      subst Kept k.2 (
        answer,
        k.1,
        record {
          due = due;
          fits = fits;
          takes = subst (λ vs. Takes m entry vs) (sym same) takes;
          used_up = used_up;
          came = subst (λ vs. CameBy p codes collecting depth entry vs used_up course answer ready entered after) (sym same) came;
        },
      )

-- ---- an instance whose steps are used up

spent_is : (answer : RunEnd) → kept_end answer ≡ Some ends.FuelSpent → answer ≡ answers.FuelSpent
spent_is (answers.Finished value) e = absurd (cc)
spent_is (answers.Trapped kind) e = absurd (cc)
spent_is answers.NoReply e = absurd (cc)
spent_is (answers.BadReply reply) e = absurd (cc)
spent_is (answers.DeviceFault name) e = absurd (cc)
spent_is answers.FuelSpent e = refl
spent_is answers.NoMemory e = absurd (cc)

-- what it keeps
pub spent_so : (s : State) (depth : ℕ) (collecting : Bool) (spent : IsSpent s depth collecting) (l : LastInvocation) → s.last ≡ Some l → kept_so spent.entry spent.args depth collecting ends.FuelSpent ≡ l
spent_so s depth collecting spent l is = some_is (sym spent.last_is ∙ is)

pub spent_after : (s : State) (entry : ℕ) (args : List Value) (depth : ℕ) (collecting there : Bool) (answer : RunEnd) → s.last ≡ last_of entry args depth collecting answer → there ≡ collecting → answer ≡ answers.FuelSpent → IsSpent s depth there
spent_after s entry args depth collecting there answer is same e = record {
  entry = entry;
  args = args;
  last_is = is ∙ ap (λ (a : RunEnd). last_of entry args depth collecting a) e ∙ ap (λ (b : Bool). last_of entry args depth b answers.FuelSpent) (sym same);
}

-- it followed a course up to there
pub spent_by : (s : State) (depth : ℕ) (collecting : Bool) (spent : IsSpent s depth collecting) (l : LastInvocation) → s.last ≡ Some l → (p : Program) (course : Course) → StoppedBy s l p course
    → Followed p s.prepared.codes.items collecting depth l.entry l.args s.module_ course answers.FuelSpent s.ready s.entered s.machine
spent_by s depth collecting spent l is p course by =
    subst (λ (k : LastInvocation). StoppedBy s k p course → Followed p s.prepared.codes.items collecting depth k.entry k.args s.module_ course answers.FuelSpent s.ready s.entered s.machine) (spent_so s depth collecting spent l is)
    (λ b. subst (λ (a : RunEnd). Followed p s.prepared.codes.items collecting depth spent.entry spent.args s.module_ course a s.ready s.entered s.machine) (spent_is b.0 b.1) b.2) by

-- the code and the arguments, as the run had them
pub goes_on : (p : Program) (q there : Prepared) (args lent : List Value) (collecting : Bool) (depth entry : ℕ) (m : Module) (ready entered : Bool) (machine : Machine) (used_up : Import → Bool) (fuel : ℕ) (run : EntryRun) (after : Machine) (old new : Calls) → there ≡ q → lent ≡ args
    → ((course : Course) → Followed p there.codes.items collecting depth entry lent m course answers.FuelSpent ready entered machine → WentOn p there.codes.items collecting depth entry lent used_up course fuel run after old new)
    → (course : Course) → Followed p q.codes.items collecting depth entry args m course answers.FuelSpent ready entered machine → WentOn p q.codes.items collecting depth entry args used_up course fuel run after old new
goes_on p q there args lent collecting depth entry m ready entered machine used_up fuel run after old new same_code same_args h course =
    subst (λ (vs : List Value). Followed p q.codes.items collecting depth entry vs m course answers.FuelSpent ready entered machine → WentOn p q.codes.items collecting depth entry vs used_up course fuel run after old new) same_args
    (subst (λ (r : Prepared). Followed p r.codes.items collecting depth entry lent m course answers.FuelSpent ready entered machine → WentOn p r.codes.items collecting depth entry lent used_up course fuel run after old new) same_code (h course))

module _ (s : State) (depth : ℕ) (collecting : Bool) (spent : IsSpent s depth collecting) (last : LastInvocation) (there : s.last ≡ Some last) (p : Program) (used_up : Import → Bool) (fuel : ℕ) (run : EntryRun) (after : Machine) (kept : Option LastInvocation) (old new : Calls) where
  -- the instance behind it
  abbrev pub behind : State
  behind = state s.module_ s.prepared after s.due run.ready run.entered (s.steps + run.steps) (s.since_copy + run.steps) kept

  abbrev so : LastInvocation
  so = kept_so spent.entry spent.args depth collecting ends.FuelSpent

  abbrev Keeps : LastInvocation → Type 0
  Keeps k = kept ≡ last_of k.entry k.args depth k.collecting run.answer

  abbrev Goes : LastInvocation → Type 0
  Goes k = (course : Course) → Followed p s.prepared.codes.items collecting depth k.entry k.args s.module_ course answers.FuelSpent s.ready s.entered s.machine
      → WentOn p s.prepared.codes.items collecting depth k.entry k.args used_up course fuel run after old new

  pub resumed : kept ≡ last_of last.entry last.args depth last.collecting run.answer
      → ((course : Course) → Followed p s.prepared.codes.items collecting depth last.entry last.args s.module_ course answers.FuelSpent s.ready s.entered s.machine
      → WentOn p s.prepared.codes.items collecting depth last.entry last.args used_up course fuel run after old new)
      → (l : LastInvocation) (course : Course) → s.last ≡ Some l → StoppedBy s l p course → Resumed p used_up l course fuel s behind run.answer old new
  resumed keeps goes l course is by =
      let same = spent_so s depth collecting spent last there in
      let same_l = spent_so s depth collecting spent l is in
      let keeps_so = subst Keeps (sym same) keeps in
      let f = spent_by s depth collecting spent so spent.last_is p course (subst (λ (k : LastInvocation). StoppedBy s k p course) (sym same_l) by) in
      let w = subst Goes (sym same) goes course f in
      subst (λ (k : LastInvocation). Resumed p used_up k course fuel s behind run.answer old new) same_l
      (record {
        made = run.steps;
        steps = refl;
        since_copy = refl;
        asked = w.asked;
        grew = w.grew;
        came = w.came;
        stopped = stops p s.prepared.codes.items s.module_ spent.entry spent.args depth collecting (longer course fuel run.steps w.asked) run.ready run.entered after used_up spent.args run.answer kept f.due f.fits f.takes refl keeps_so w.came;
      })
