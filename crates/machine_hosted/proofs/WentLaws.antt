-- How an invocation whose steps were used up went on.
use Rattle.std.proofs.Common.{◌≡◌, ℕ, ◌+◌, ◌-◌, List, [], ◌++◌, reverse, refl, sym, ap, subst, ◌∙◌, arith, append_assoc}
use Rattle.std.proofs.lemmas.List.{append-nil}
use Rattle.std.specs.Prelude.{Bool, true, false, Option, Some}
use Rattle.wasm_syntax.specs.declared.value.Value.{Value}
use Rattle.wasm_syntax.specs.declared.parts.Import.{Import}
use Rattle.wasm_syntax.specs.declared.module.ModuleParts.{ModuleParts as Module}
use Rattle.wasm_syntax.specs.declared.host.Reply.{Reply}
use Rattle.wasm_syntax.specs.declared.host.CollectorCall.{CollectorCall}
use Rattle.wasm_syntax.specs.Module.{Program, IsProgram, Function, function_at}
use Rattle.wasm_syntax.specs.Host.{World}
use Rattle.wasm_syntax.specs.Machine.{Engine}
use Rattle.wasm_syntax.specs.Run.{engine}
use Rattle.machine_code.specs.declared.code.Code.{Code}
use Rattle.machine_steps.specs.declared.machine.Machine.{Machine}
use Rattle.machine_code.specs.declared.prepared.Prepared.{Prepared}
use Rattle.host_devices.specs.calls.HostSides.{Calls}
use Rattle.machine_hosted.specs.declared.answer.RunEnd.{RunEnd}
use Rattle.machine_hosted.specs.declared.answer.RunEnd.TheVariants.{Finished, FuelSpent}
use Rattle.machine_hosted.specs.declared.answer.EntryRun.{EntryRun}
use Rattle.machine_hosted.specs.calls.Settings.{Sound, world_of}
use Rattle.machine_steps.specs.calls.Meets.{Shares}
use Rattle.machine_hosted.specs.calls.Hosted.{Asked, Grew, Going}
use Rattle.machine_hosted.specs.calls.Answers.{AdmitsReplies, given_steps, FunctionCame, FunctionCameWith, function_going}
use Rattle.machine_hosted.specs.calls.Invocations.{follows_behind, Invoking, invoking, InvocationCame, InvocationCameWith}
use Rattle.machine_hosted.specs.calls.Courses.{Course, both, Followed, WentOn}
use Rattle.machine_hosted.specs.inner.Resumes.{resuming}
use Rattle.machine_hosted.proofs.ModuleLaws.{function_there}
use Rattle.machine_hosted.proofs.JoinLaws.{begun_is, ran_came, inside_start, behind_start, w1, co1}
use Rattle.machine_hosted.proofs.CourseLaws.{itself, last_part, one_asked, Continued, ContinuedWith, continued, EntryPlace, entry_place, StartPlace, start_place}

-- what came of it
abbrev pub came_to : (answer : RunEnd) (steps : ℕ) (entered : Bool) → EntryRun
came_to answer steps entered = record { answer = answer; steps = steps; ready = follows_behind answer entered; entered = entered }

-- ---- calls, one after the other

abbrev no_calls : Calls
no_calls = record { served = []; collected = [] }

abbrev calls_of : Asked → Calls
calls_of asked = record { served = asked.given; collected = asked.told }

-- the calls that a host side without earlier ones served are those that it was asked for
asked_for : (p : Program) (codes : List Code) (used_up : Import → Bool) (go : Invoking) (fuel steps : ℕ) (asked : Asked) (answer : RunEnd) (ready entered : Bool) (m : Machine)
    → InvocationCameWith p codes used_up go fuel answer steps ready entered m no_calls (calls_of asked) → (more : List Reply) → AdmitsReplies answer more → InvocationCame p codes used_up go fuel asked answer steps ready entered m more
asked_for p codes used_up go fuel steps asked answer ready entered m h more ad =
    subst (λ (a : Asked). InvocationCame p codes used_up go fuel a answer steps ready entered m more)
    (one_asked h.asked asked no_calls (calls_of asked) h.grew (record { served = refl; collected = refl })) (h.came more ad)

both_both : (a b c : Asked) → both (both a b) c ≡ both a (both b c)
both_both a b c =
    let given : a.given ++ b.given ++ c.given ≡ a.given ++ (b.given ++ c.given) = append_assoc a.given b.given c.given in
    let told : a.told ++ b.told ++ c.told ≡ a.told ++ (b.told ++ c.told) = append_assoc a.told b.told c.told in
    λ i. record { given = given i; told = told i }

grew_both : (a b : Asked) (old mid new : Calls) → Grew a old mid → Grew b mid new → Grew (both a b) old new
grew_both a b old mid new g h = record {
  served = h.served ∙ ap (λ l. l ++ b.given) g.served ∙ append_assoc old.served a.given b.given;
  collected = h.collected ∙ ap (λ l. l ++ b.told) g.collected ∙ append_assoc old.collected a.told b.told;
}

module _ (source : Module) (prepared : Prepared) (sound : Sound source prepared) (p : Program) (e : p.module_ ≡ source) (is : IsProgram p) (collecting : Bool) (depth entry : ℕ) (args : List Value) (course : Course) (ready : Bool) (m : Machine) where
  abbrev M : Engine
  M = engine p collecting depth

  abbrev codes : List Code
  codes = prepared.codes.items

  -- the whole invocation came to this
  abbrev Came : (Import → Bool) → (fuel steps : ℕ) → Asked → RunEnd → (entered : Bool) → Machine → List Reply → Type 0
  Came used_up fuel steps asked answer entered later more =
      InvocationCame p prepared.codes.items used_up (invoking (engine p collecting depth) course.start entry args (world_of course.before [])) fuel asked answer steps (follows_behind answer entered) entered later more

  abbrev Went : (Import → Bool) → (fuel : ℕ) → EntryRun → Machine → Calls → Calls → Type 0
  Went used_up fuel run later old new = WentOn p prepared.codes.items collecting depth entry args used_up course fuel run later old new

  -- all steps that were given before were made
  went : (used_up : Import → Bool) (fuel steps : ℕ) (answer : RunEnd) (entered : Bool) (later : Machine) (old new : Calls) → course.steps ≡ course.fuel → (asked : Asked) → Grew asked old new
      → ((more : List Reply) → AdmitsReplies answer more → Came used_up (course.fuel + fuel) (course.fuel + steps) (both course.asked asked) answer entered later more) → Went used_up fuel (came_to answer steps entered) later old new
  went used_up fuel steps answer entered later old new all asked grew came = record {
    asked = asked;
    grew = grew;
    came = λ more ad. subst (λ n. Came used_up (course.fuel + fuel) (n + steps) (both course.asked asked) answer entered later more) (sym all) (came more ad);
  }

  -- ---- in the entry

  module _ (h : Followed p prepared.codes.items collecting depth entry args source course FuelSpent ready true m) where
    abbrev pub there : (more : List Reply) → EntryPlace source prepared sound p e is collecting depth entry args course ready m true h more
    there more = (entry_place source prepared sound p e is collecting depth entry args course ready m true h refl more).1

    pub entry_went : (used_up : Import → Bool) (fuel steps : ℕ) (answer : RunEnd) (later : Machine) (old new : Calls)
        → ((more : List Reply) → FunctionCameWith p prepared.codes.items used_up (resuming (engine p collecting depth) entry (there more).waits.fn args (there more).there) (there more).there.world (there more).there.collected fuel answer steps later old new)
        → WentOn p prepared.codes.items collecting depth entry args used_up course fuel (came_to answer steps true) later old new
    entry_went used_up fuel steps answer later old new runs =
        let go = invoking (engine p collecting depth) course.start entry args (world_of course.before []) in
        let k = continued (engine p collecting depth) prepared.codes.items entry args m course.fuel course.asked last_part go there used_up fuel answer steps later old new runs in
        went used_up fuel steps answer true later old new ((entry_place source prepared sound p e is collecting depth entry args course ready m true h refl []).0) k.asked k.grew
        (λ more ad.
        let c = k.came more ad in
        ran_came p prepared.codes.items used_up true true go (course.fuel + fuel) (both course.asked k.asked) answer (course.fuel + steps) later more c.what (given_steps answer (course.fuel + fuel) (course.fuel + steps) - (course.fuel + steps))
        c.within c.gives refl c.answers c.keeps c.served c.told c.left c.fits
        (begun_is p prepared.codes.items used_up answer true c.what (given_steps answer (course.fuel + fuel) (course.fuel + steps) - (course.fuel + steps))))

  -- ---- in the start function

  module _ (start : ℕ) (is_start : source.start ≡ Some start) (h : Followed p prepared.codes.items collecting depth entry args source course FuelSpent ready false m) where
    abbrev pub start_there : (more : List Reply) → StartPlace source prepared sound p e is collecting depth entry args course ready m false h start more
    start_there more = (start_place source prepared sound p e is collecting depth entry args course ready m false h refl start is_start more).2

    all : course.steps ≡ course.fuel
    all = (start_place source prepared sound p e is collecting depth entry args course ready m false h refl start is_start []).0

    due : course.start ≡ Some start
    due = (start_place source prepared sound p e is collecting depth entry args course ready m false h refl start is_start []).1

    entry_there : (fn : Function) × (function_at p entry ≡ Some fn)
    entry_there = function_there p source prepared entry args sound e is h.takes

    -- the run of the start function on all replies
    abbrev go_first : Going
    go_first = function_going (engine p collecting depth) start [] (world_of course.before []) []

    -- and from where it waited
    abbrev Runs : (Import → Bool) → (fuel steps : ℕ) → RunEnd → Machine → Calls → Calls → Type 0
    Runs used_up fuel steps answer later old new =
        (more : List Reply) → FunctionCameWith p prepared.codes.items used_up (resuming (engine p collecting depth) start (start_there more).waits.fn [] (start_there more).there) (start_there more).there.world (start_there more).there.collected fuel answer steps later old new

    abbrev first_with : (used_up : Import → Bool) (fuel steps : ℕ) (answer : RunEnd) (later : Machine) (old new : Calls) → Runs used_up fuel steps answer later old new
        → ContinuedWith (engine p collecting depth) prepared.codes.items start [] m course.fuel course.asked itself go_first used_up fuel answer steps later old new
    first_with used_up fuel steps answer later old new runs = continued (engine p collecting depth) prepared.codes.items start [] m course.fuel course.asked itself go_first start_there used_up fuel answer steps later old new runs

    first_came : (used_up : Import → Bool) (fuel steps : ℕ) (answer : RunEnd) (later : Machine) (asked : Asked) (more : List Reply) → Continued (engine p collecting depth) prepared.codes.items start [] m course.fuel course.asked itself go_first used_up fuel asked answer steps later more
        → FunctionCame p prepared.codes.items used_up go_first (world_of course.before []) [] (course.fuel + fuel) (both course.asked asked) answer (course.fuel + steps) later more
    first_came used_up fuel steps answer later asked more c = record {
      what = c.what;
      within = c.within;
      gives = c.gives;
      answers = c.answers;
      keeps = c.keeps;
      served = record { served = c.served ∙ sym (append-nil (reverse (both course.asked asked).given)); collected = c.told ∙ sym (append-nil (reverse (both course.asked asked).told)); left = c.left };
      fits = c.fits;
    }

    -- the start function did not end
    pub start_went : (used_up : Import → Bool) (fuel steps : ℕ) (answer : RunEnd) (later : Machine) (old new : Calls) → ((v : Option Value) → answer ≡ Finished v → ⊥) → Runs used_up fuel steps answer later old new
        → WentOn p prepared.codes.items collecting depth entry args used_up course fuel (came_to answer steps false) later old new
    start_went used_up fuel steps answer later old new no_end runs =
        let k = first_with used_up fuel steps answer later old new runs in
        let whole = inside_start p prepared.codes.items used_up (engine p collecting depth) refl course.before entry args (course.fuel + fuel) start entry_there.0 entry_there.1 answer no_end (course.fuel + steps) later no_calls (calls_of (both course.asked k.asked))
        (record {
          asked = both course.asked k.asked;
          grew = record { served = refl; collected = refl };
          came = λ more ad. first_came used_up fuel steps answer later k.asked more (k.came more ad);
        }) in
        went used_up fuel steps answer false later old new all k.asked k.grew
        (λ more ad.
        subst (λ s. InvocationCame p prepared.codes.items used_up (invoking (engine p collecting depth) s entry args (world_of course.before [])) (course.fuel + fuel) (both course.asked k.asked) answer (course.fuel + steps) (follows_behind answer false) false later more) (sym due)
        (asked_for p prepared.codes.items used_up (invoking (engine p collecting depth) (Some start) entry args (world_of course.before [])) (course.fuel + fuel) (course.fuel + steps) (both course.asked k.asked) answer (follows_behind answer false) false later whole more ad))

    -- it ended, and the entry was run behind it
    module _ (mid : Machine) (made : ℕ) (first : Asked) where
      abbrev world_behind : World
      world_behind = w1 p prepared.codes.items (λ i. false) (engine p collecting depth) refl course.before entry args 0 start mid made (both course.asked first)

      abbrev told_behind : List CollectorCall
      told_behind = co1 p prepared.codes.items (λ i. false) (engine p collecting depth) refl course.before entry args 0 start mid made (both course.asked first)

      both_came : (first_up used_up : Import → Bool) (fuel steps : ℕ) (v : Option Value) (answer : RunEnd) (later : Machine) (middle new : Calls)
          → ((more : List Reply) → FunctionCame p prepared.codes.items first_up go_first (world_of course.before []) [] (course.fuel + fuel) (both course.asked first) (Finished v) (course.fuel + made) mid more)
          → (second : FunctionCameWith p prepared.codes.items used_up (function_going (engine p collecting depth) entry args world_behind told_behind) world_behind told_behind (fuel - made) answer steps later middle new)
          → (more : List Reply) → AdmitsReplies answer more
          → InvocationCame p prepared.codes.items used_up (invoking (engine p collecting depth) (Some start) entry args (world_of course.before [])) (course.fuel + fuel) (both (both course.asked first) second.asked) answer (course.fuel + made + steps) (follows_behind answer true) true later more
      both_came first_up used_up fuel steps v answer later middle new started second more ad =
          let left : fuel - made ≡ course.fuel + fuel - (course.fuel + made) = omega arith in
          asked_for p prepared.codes.items used_up (invoking (engine p collecting depth) (Some start) entry args (world_of course.before [])) (course.fuel + fuel) (course.fuel + made + steps) (both (both course.asked first) second.asked) answer (follows_behind answer true) true later
          (behind_start p prepared.codes.items used_up (engine p collecting depth) refl course.before entry args (course.fuel + fuel) start mid (course.fuel + made) (both course.asked first) first_up v
          no_calls (calls_of (both course.asked first)) (calls_of (both (both course.asked first) second.asked)) answer steps later started (record { served = refl; collected = refl })
          (record {
            asked = second.asked;
            grew = record { served = refl; collected = refl };
            came = λ more ad. subst (λ n. FunctionCame p prepared.codes.items used_up (function_going (engine p collecting depth) entry args world_behind told_behind) world_behind told_behind n second.asked answer steps later more) left (second.came more ad);
          })) more ad

    pub start_ended : (first_up used_up : Import → Bool) (fuel made steps : ℕ) (v : Option Value) (answer : RunEnd) (mid later : Machine) (old middle new : Calls) → Runs first_up fuel made (Finished v) mid old middle
        → ((w : World) (co : List CollectorCall) → Shares mid w → FunctionCameWith p prepared.codes.items used_up (function_going (engine p collecting depth) entry args w co) w co (fuel - made) answer steps later middle new)
        → WentOn p prepared.codes.items collecting depth entry args used_up course fuel (came_to answer (made + steps) true) later old new
    start_ended first_up used_up fuel made steps v answer mid later old middle new runs then = ended_with (first_with first_up fuel made (Finished v) mid old middle runs)
      where
        ended_with : ContinuedWith (engine p collecting depth) prepared.codes.items start [] m course.fuel course.asked itself go_first first_up fuel (Finished v) made mid old middle → Went used_up fuel (came_to answer (made + steps) true) later old new
        ended_with k = entered_with (then (world_behind mid made k.asked) (told_behind mid made k.asked) (record { holds = record { globals = refl; memory = refl }; table = refl }))
          where
            entered_with : FunctionCameWith p prepared.codes.items used_up (function_going (engine p collecting depth) entry args (world_behind mid made k.asked) (told_behind mid made k.asked)) (world_behind mid made k.asked) (told_behind mid made k.asked) (fuel - made) answer steps later middle new
                → Went used_up fuel (came_to answer (made + steps) true) later old new
            entered_with second =
                let sum : course.fuel + made + steps ≡ course.fuel + (made + steps) = omega arith in
                went used_up fuel (made + steps) answer true later old new all (both k.asked second.asked) (grew_both k.asked second.asked old middle new k.grew second.grew)
                (λ more ad.
                subst (λ s. InvocationCame p prepared.codes.items used_up (invoking (engine p collecting depth) s entry args (world_of course.before [])) (course.fuel + fuel) (both course.asked (both k.asked second.asked)) answer (course.fuel + (made + steps)) (follows_behind answer true) true later more) (sym due)
                (subst (λ n. InvocationCame p prepared.codes.items used_up (invoking (engine p collecting depth) (Some start) entry args (world_of course.before [])) (course.fuel + fuel) (both course.asked (both k.asked second.asked)) answer n (follows_behind answer true) true later more) sum
                (subst (λ a. InvocationCame p prepared.codes.items used_up (invoking (engine p collecting depth) (Some start) entry args (world_of course.before [])) (course.fuel + fuel) a answer (course.fuel + made + steps) (follows_behind answer true) true later more) (both_both course.asked k.asked second.asked)
                (both_came mid made k.asked first_up used_up fuel steps v answer later middle new (λ more. first_came first_up fuel made (Finished v) mid k.asked more (k.came more tt)) second more ad))))
