-- An invocation whose steps are used up waits in its start function or in its entry, and goes on from there.
use Rattle.std.proofs.Common.{◌≡◌, ℕ, suc, ◌+◌, ◌-◌, ◌≤◌, List, [], ◌++◌, reverse, drop, length, refl, sym, ap, subst, ◌∙◌, arith, append_assoc}
use Rattle.std.proofs.lemmas.List.{append-nil, append_cancel_left, map-append, reverse-append, reverse-reverse}
use Rattle.std.specs.Prelude.{Bool, true, false, Option, Some, None}
use Rattle.wasm_syntax.specs.declared.value.Value.{Value}
use Rattle.wasm_syntax.specs.declared.parts.Import.{Import}
use Rattle.wasm_syntax.specs.declared.parts.FuncType.{FuncType}
use Rattle.wasm_syntax.specs.declared.module.ModuleParts.{ModuleParts as Module}
use Rattle.wasm_syntax.specs.declared.host.Reply.{Reply}
use Rattle.wasm_syntax.specs.declared.host.Served.{Served as ServedCall}
use Rattle.wasm_syntax.specs.declared.host.CollectorCall.{CollectorCall}
use Rattle.wasm_syntax.specs.Module.{Program, IsProgram, function_at, type_at}
use Rattle.wasm_syntax.specs.Host.{World}
use Rattle.wasm_syntax.specs.Machine.{Engine, Config, Stepped, next, ends, traps, no_reply, bad_reply, stuck}
use Rattle.wasm_syntax.specs.Run.{Ended, ended, run_function, run_entry, go_on, ran_to, invoked, engine, running, Ran}
use Rattle.host_devices.specs.calls.HostSides.{Calls}
use Rattle.host_devices.specs.Given.{replies_of, unfitting}
use Rattle.machine_code.specs.declared.code.Code.{Code}
use Rattle.machine_steps.specs.declared.machine.Machine.{Machine}
use Rattle.machine_code.specs.declared.prepared.Prepared.{Prepared}
use Rattle.machine_hosted.specs.calls.Safe.{ValidProgram, WorldFits, RunFits}
use Rattle.machine_hosted.specs.calls.Settings.{Sound, MachineFits, Takes, world_of}
use Rattle.machine_hosted.specs.calls.Hosted.{Asked, Grew, replying, served_in, told_in, left_in}
use Rattle.machine_hosted.specs.declared.answer.RunEnd.{RunEnd}
use Rattle.machine_hosted.specs.declared.answer.RunEnd.TheVariants.{Finished, Trapped, NoReply, BadReply, DeviceFault, FuelSpent, NoMemory}
use Rattle.machine_hosted.specs.calls.Answers.{KeepsThen, last_in, AnswersTo, given_steps, FunctionCame, FunctionCameWith, AdmitsReplies, function_going}
use Rattle.machine_hosted.specs.calls.Invocations.{InvocationCame, Invoking, invoking}
use Rattle.machine_hosted.specs.calls.Courses.{Course, both, Followed}
use Rattle.machine_hosted.specs.inner.Resumes.{with_replies, going_on, resuming, Waits}
use Rattle.machine_hosted.proofs.WorldLaws.{fits_replying}
use Rattle.machine_hosted.proofs.ModuleLaws.{valid_program, takes_start}
use Rattle.machine_hosted.proofs.JoinLaws.{begun_in, function_ends}
use Rattle.machine_hosted.proofs.WaitLaws.{function_fits, rests}
use Rattle.pm_text.proofs.Lists.{some_is}

-- ---- where an invocation waits

-- a run that is still going came to its last configuration
running_is : (q : Bool) (s : Stepped) (left : ℕ) (c : Config) → (ran_to q s left).outcome ≡ running → (ran_to q s left).last ≡ Some c → s ≡ next c
running_is q (next d) left c o e = ap next (some_is e)
running_is q (ends w vs co) left c o e = absurd (cc)
running_is q (traps k d) left c o e = absurd (cc)
running_is q (no_reply call d) left c o e = absurd (cc)
running_is q (bad_reply call r d) left c o e = absurd (cc)
running_is q stuck left c o e = absurd (cc)

module _ (M : Engine) (start : Option ℕ) (n entry : ℕ) (args : List Value) (w : World) (r : Ran) (c : Config) where
  -- the start function waits there
  pub record InStart : Type 0 where
    pub function : ℕ
    pub due : start ≡ Some function
    pub left : ℕ
    pub waits : run_function M n function (function_at M.program function) [] w [] ≡ ended (next c) left
    pub ran_is : r ≡ ran_to false (next c) left

  -- the entry waits there, behind what came before it
  pub record InEntry : Type 0 where
    pub from : World
    pub told : List CollectorCall
    pub given : ℕ
    pub left : ℕ
    pub fits : WorldFits M.program.module_ from
    pub waits : run_function M given entry (function_at M.program entry) args from told ≡ ended (next c) left
    pub ran_is : r ≡ ran_to true (next c) left
    pub on : (k : ℕ) → invoked M start (n + k) entry args w ≡ run_entry M (given + k) entry args from told

module _ (M : Engine) (n entry : ℕ) (args : List Value) (w : World) (r : Ran) (c : Config) (outcome : r.outcome ≡ running) (last : r.last ≡ Some c) where
  entry_waits : (start : Option ℕ) (given : ℕ) (from : World) (told : List CollectorCall) → run_entry M given entry args from told ≡ r → WorldFits M.program.module_ from
      → ((k : ℕ) → invoked M start (n + k) entry args w ≡ run_entry M (given + k) entry args from told) → InEntry M start n entry args w r c
  entry_waits start given from told is fits on =
      let e = run_function M given entry (function_at M.program entry) args from told in
      let there : e.what ≡ next c = running_is true e.what e.left c (ap (λ (x : Ran). x.outcome) is ∙ outcome) (ap (λ (x : Ran). x.last) is ∙ last) in
      record {
        from = from;
        told = told;
        given = given;
        left = e.left;
        fits = fits;
        waits = ap (λ s. ended s e.left) there;
        ran_is = sym is ∙ ap (λ s. ran_to true s e.left) there;
        on = on;
      }

  -- the entry alone was begun
  entered_is : (given : ℕ) (from : World) (told : List CollectorCall) → run_entry M given entry args from told ≡ r → r.entered ≡ true
  entered_is given from told is = let e = run_function M given entry (function_at M.program entry) args from told in sym (begun_in true e.what e.left ∙ ap (λ (x : Ran). x.entered) is)

  pub in_entry : (start : Option ℕ) → invoked M start n entry args w ≡ r → r.entered ≡ true → WorldFits M.program.module_ w
      → ((s : ℕ) → start ≡ Some s → RunFits M.program.module_ (run_function M n s (function_at M.program s) [] w []).what) → InEntry M start n entry args w r c
  in_entry None is begun fits started = entry_waits None n w [] is fits (λ k. refl)
  in_entry (Some s) is begun fits started =
      let e = run_function M n s (function_at M.program s) [] w [] in
      by_what e.what e.left refl is (started s refl)
    where
      by_what : (what : Stepped) (left : ℕ) → run_function M n s (function_at M.program s) [] w [] ≡ ended what left → go_on M what left entry args ≡ r → RunFits M.program.module_ what → InEntry M (Some s) n entry args w r c
      by_what (ends from vs told) left is gives fit =
          let f = function_ends M n s (function_at M.program s) [] w [] from vs told left is in
          entry_waits (Some s) left from told gives fit
          (λ k.
          let j : n + k ≡ suc f.made + (left + k) = omega (arith, f.all) in
          ap (λ (x : Ended). go_on M x.what x.left entry args) (ap (λ i. run_function M i s (function_at M.program s) [] w []) j ∙ f.always (left + k)))
      by_what (next d) left is gives fit = let z : false ≡ true = ap (λ (x : Ran). x.entered) gives ∙ begun in absurd (cc)
      by_what (traps k d) left is gives fit = let z : false ≡ true = ap (λ (x : Ran). x.entered) gives ∙ begun in absurd (cc)
      by_what (no_reply call d) left is gives fit = let z : false ≡ true = ap (λ (x : Ran). x.entered) gives ∙ begun in absurd (cc)
      by_what (bad_reply call reply d) left is gives fit = let z : false ≡ true = ap (λ (x : Ran). x.entered) gives ∙ begun in absurd (cc)
      by_what stuck left is gives fit = let z : false ≡ true = ap (λ (x : Ran). x.entered) gives ∙ begun in absurd (cc)

  pub in_start : (start : Option ℕ) → invoked M start n entry args w ≡ r → r.entered ≡ false → InStart M start n entry args w r c
  in_start None is begun = let z : true ≡ false = sym (entered_is n w [] is) ∙ begun in absurd (cc)
  in_start (Some s) is begun =
      let e = run_function M n s (function_at M.program s) [] w [] in
      by_what e.what e.left refl is
    where
      by_stay : (what : Stepped) (left : ℕ) → run_function M n s (function_at M.program s) [] w [] ≡ ended what left → ran_to false what left ≡ r → InStart M (Some s) n entry args w r c
      by_stay what left is gives =
          let there : what ≡ next c = running_is false what left c (ap (λ (x : Ran). x.outcome) gives ∙ outcome) (ap (λ (x : Ran). x.last) gives ∙ last) in
          record {
            function = s;
            due = refl;
            left = left;
            waits = is ∙ ap (λ t. ended t left) there;
            ran_is = sym gives ∙ ap (λ t. ran_to false t left) there;
          }

      by_what : (what : Stepped) (left : ℕ) → run_function M n s (function_at M.program s) [] w [] ≡ ended what left → go_on M what left entry args ≡ r → InStart M (Some s) n entry args w r c
      by_what (ends from vs told) left is gives = let z : true ≡ false = sym (entered_is left from told gives) ∙ begun in absurd (cc)
      by_what (next d) left is gives = by_stay (next d) left is gives
      by_what (traps k d) left is gives = by_stay (traps k d) left is gives
      by_what (no_reply call d) left is gives = by_stay (no_reply call d) left is gives
      by_what (bad_reply call reply d) left is gives = by_stay (bad_reply call reply d) left is gives
      by_what stuck left is gives = by_stay stuck left is gives

-- ---- what is known of where it waits

module _ (p : Program) (codes : List Code) (used_up : Import → Bool) (go : Invoking) (fuel : ℕ) (asked : Asked) (steps : ℕ) (ready entered : Bool) (m : Machine) (more : List Reply) (came : InvocationCame p codes used_up go fuel asked FuelSpent steps ready entered m more) where
  -- the calls so far, and the replies that are left
  pub record Halted : Type 0 where
    pub all : steps ≡ fuel
    pub replies : came.last.world.replies ≡ more
    pub served : came.last.world.served ≡ reverse asked.given
    pub told : came.last.collected ≡ reverse asked.told

  pub halted : (q : Bool) (left : ℕ) → came.ran ≡ ran_to q (next came.last) left → left ≡ 0 → Halted
  halted q left is none =
      let fitting : unfitting came.ran.outcome ≡ [] = ap unfitting came.outcome in
      let rest : fuel - steps ≡ 0 = sym came.left ∙ ap (λ (x : Ran). x.left) is ∙ none in
      let given : asked.given ≡ reverse came.last.world.served =
      came.served ∙ ap (λ us. came.ran.served ++ us) fitting ∙ append-nil came.ran.served ∙ ap (λ (x : Ran). x.served) is in
      let told : asked.told ≡ reverse came.last.collected = came.collected ∙ ap (λ (x : Ran). x.collected) is in
      record {
        all = omega (arith, rest, came.within);
        replies = ap (λ us. drop (length us) came.last.world.replies) (sym fitting) ∙ came.replies;
        served = sym (reverse-reverse came.last.world.served) ∙ ap reverse (sym given);
        told = sym (reverse-reverse came.last.collected) ∙ ap reverse (sym told);
      }

-- ---- what was asked, one after the other

pub replies_on : (gs hs : List ServedCall) (more : List Reply) → replies_of (gs ++ hs) ++ more ≡ replies_of gs ++ (replies_of hs ++ more)
replies_on gs hs more = ap (λ l. l ++ more) (map-append (λ (s : ServedCall). s.reply) gs hs) ∙ append_assoc (replies_of gs) (replies_of hs) more

-- the host side's lists tell what was asked
pub one_asked : (a b : Asked) (old new : Calls) → Grew a old new → Grew b old new → a ≡ b
one_asked a b old new g h =
    let given : a.given ≡ b.given = append_cancel_left old.served a.given b.given (sym g.served ∙ h.served) in
    let told : a.told ≡ b.told = append_cancel_left old.collected a.told b.told (sym g.collected ∙ h.collected) in
    λ i. record { given = given i; told = told i }

given_on : (answer : RunEnd) (n k steps : ℕ) → given_steps answer (n + k) (n + steps) ≡ n + given_steps answer k steps
given_on (Finished v) n k steps = refl
given_on (Trapped kind) n k steps = refl
given_on NoReply n k steps = refl
given_on (DeviceFault name) n k steps = refl
given_on (BadReply reply) n k steps = refl
given_on FuelSpent n k steps = refl
given_on NoMemory n k steps = refl

left_on : (answer : RunEnd) (n k steps : ℕ) → given_steps answer k steps - steps ≡ given_steps answer (n + k) (n + steps) - (n + steps)
left_on (Finished v) n k steps = omega arith
left_on (Trapped kind) n k steps = omega arith
left_on NoReply n k steps = omega arith
left_on (DeviceFault name) n k steps = omega arith
left_on (BadReply reply) n k steps = omega arith
left_on FuelSpent n k steps = omega arith
left_on NoMemory n k steps = omega arith

-- ---- on from where a function waits

-- the run of a function as it is, and as the last part of an invocation
abbrev pub itself : Ended → Ended
itself e = e

abbrev pub last_part : Ended → Ran
last_part e = ran_to true e.what e.left

module _ (M : Engine) (codes : List Code) (f : ℕ) (args : List Value) (m : Machine) (n : ℕ) (first : Asked) {A : Type 0} (wrap : Ended → A) where
  -- The function waits there, with these replies left, and what goes on is what it comes to.
  pub record Place (go : ℕ → A) (more : List Reply) : Type 0 where
    pub there : Config
    pub waits : Waits M f codes m there
    pub on : (k : ℕ) → go (n + k) ≡ wrap (going_on M f waits.fn args there k)
    pub replies : there.world.replies ≡ more
    pub served : there.world.served ≡ reverse first.given
    pub told : there.collected ≡ reverse first.told

  -- it came to this, with the calls of both parts
  pub record Continued (go : List Reply → ℕ → A) (used_up : Import → Bool) (fuel : ℕ) (asked : Asked) (answer : RunEnd) (steps : ℕ) (later : Machine) (more : List Reply) : Type 0 where
    pub what : Stepped
    pub within : n + steps ≤ n + fuel
    pub gives : go (replies_of (both first asked).given ++ more) (given_steps answer (n + fuel) (n + steps)) ≡ wrap (ended what (given_steps answer (n + fuel) (n + steps) - (n + steps)))
    pub answers : AnswersTo M.program used_up answer what
    pub keeps : (c : Config) → last_in what ≡ Some c → KeepsThen M.program codes answer later c
    pub served : served_in what ≡ reverse (both first asked).given
    pub told : told_in what ≡ reverse (both first asked).told
    pub left : left_in what ≡ more
    pub fits : RunFits M.program.module_ what

  pub record ContinuedWith (go : List Reply → ℕ → A) (used_up : Import → Bool) (fuel : ℕ) (answer : RunEnd) (steps : ℕ) (later : Machine) (old new : Calls) : Type 0 where
    pub asked : Asked
    pub grew : Grew asked old new
    pub came : (more : List Reply) → AdmitsReplies answer more → Continued go used_up fuel asked answer steps later more

  module _ (go : List Reply → ℕ → A) (places : (more : List Reply) → Place (go (replies_of first.given ++ more)) more) (used_up : Import → Bool) (fuel : ℕ) (answer : RunEnd) (steps : ℕ) (later : Machine) (old new : Calls)
      (runs : (more : List Reply) → FunctionCameWith M.program codes used_up (resuming M f (places more).waits.fn args (places more).there) (places more).there.world (places more).there.collected fuel answer steps later old new) where
    by_place : (asked : Asked) (more : List Reply) (place : Place (go (replies_of first.given ++ (replies_of asked.given ++ more))) (replies_of asked.given ++ more))
        → FunctionCame M.program codes used_up (resuming M f place.waits.fn args place.there) place.there.world place.there.collected fuel asked answer steps later more → Continued go used_up fuel asked answer steps later more
    by_place asked more place c =
        let given = given_steps answer fuel steps in
        let same : with_replies place.there (replies_of asked.given ++ more) ≡ place.there = ap (with_replies place.there) (sym place.replies) in
        record {
          what = c.what;
          within = omega (arith, c.within);
          gives =
              ap (λ l. go l (given_steps answer (n + fuel) (n + steps))) (replies_on first.given asked.given more)
              ∙ ap (go (replies_of first.given ++ (replies_of asked.given ++ more))) (given_on answer n fuel steps)
              ∙ place.on (given_steps answer fuel steps)
              ∙ ap (λ (d : Config). wrap (going_on M f place.waits.fn args d (given_steps answer fuel steps))) (sym same)
              ∙ ap wrap c.gives
              ∙ ap (λ l. wrap (ended c.what l)) (left_on answer n fuel steps);
          answers = c.answers;
          keeps = c.keeps;
          served = c.served.served ∙ ap (λ l. reverse asked.given ++ l) place.served ∙ sym (reverse-append first.given asked.given);
          told = c.served.collected ∙ ap (λ l. reverse asked.told ++ l) place.told ∙ sym (reverse-append first.told asked.told);
          left = c.served.left;
          fits = c.fits;
        }

    -- what was asked does not depend on the replies that are left
    pub continued : ContinuedWith go used_up fuel answer steps later old new
    continued =
        let asked = (runs []).asked in
        record {
          asked = asked;
          grew = (runs []).grew;
          came = λ more ad.
              let place = places (replies_of (runs []).asked.given ++ more) in
              let run = runs (replies_of (runs []).asked.given ++ more) in
              by_place (runs []).asked more (places (replies_of (runs []).asked.given ++ more))
              (subst (λ (a : Asked). FunctionCame M.program codes used_up (resuming M f place.waits.fn args place.there) place.there.world place.there.collected fuel a answer steps later more)
              (one_asked run.asked (runs []).asked old new run.grew (runs []).grew) (run.came more ad));
        }

-- ---- what is known where the steps of an invocation are used up

module _ (source : Module) (prepared : Prepared) (sound : Sound source prepared) (p : Program) (e : p.module_ ≡ source) (is : IsProgram p) (collecting : Bool) (depth entry : ℕ) (args : List Value) (course : Course) (ready : Bool) (m : Machine) where
  abbrev M : Engine
  M = engine p collecting depth

  abbrev codes : List Code
  codes = prepared.codes.items

  abbrev pub Stands : Bool → Type 0
  Stands entered = Followed p prepared.codes.items collecting depth entry args source course FuelSpent ready entered m

  -- the world in which it began
  abbrev pub begun : List Reply → World
  begun replies = replying (world_of course.before []) replies

  v : ValidProgram p
  v = valid_program p source prepared sound e is

  begun_fits : MachineFits source course.before → (replies : List Reply) → WorldFits p.module_ (begun replies)
  begun_fits fits replies = fits_replying p.module_ (world_of course.before []) replies (subst (λ (x : Module). WorldFits x (world_of course.before [])) (sym e) fits)

  typed : (f : ℕ) (type : FuncType) → type_at source f ≡ Some type → type_at p.module_ f ≡ Some type
  typed f type t = subst (λ (x : Module). type_at x f ≡ Some type) (sym e) t

  module _ (entered : Bool) (h : Followed p prepared.codes.items collecting depth entry args source course FuelSpent ready entered m) where
    abbrev pub came : (more : List Reply) → InvocationCame p prepared.codes.items h.used_up (invoking (engine p collecting depth) course.start entry args (world_of course.before [])) course.fuel course.asked FuelSpent course.steps ready entered m more
    came more = h.came more tt

    takes_due : (s : ℕ) → course.start ≡ Some s → Takes source s []
    takes_due s due = takes_start source (Some s) sound.valid (λ f q. h.due f (due ∙ q))

    started : (more : List Reply) (s : ℕ) → course.start ≡ Some s → RunFits p.module_ (run_function (engine p collecting depth) course.fuel s (function_at p s) [] (begun (replies_of course.asked.given ++ more)) []).what
    started more s due =
        let t = takes_due s due in
        function_fits (engine p collecting depth) v s t.0 [] (typed s t.0 t.1) t.2 (begun (replies_of course.asked.given ++ more)) [] (begun_fits h.fits (replies_of course.asked.given ++ more)) course.fuel

    -- ---- in the entry

    abbrev pub EntryPlace : List Reply → Type 0
    EntryPlace more =
        Place (engine p collecting depth) prepared.codes.items entry args m course.fuel course.asked last_part
        (invoking (engine p collecting depth) course.start entry args (world_of course.before []) (replies_of course.asked.given ++ more)) more

    pub entry_place : entered ≡ true → (more : List Reply) → (course.steps ≡ course.fuel) × EntryPlace more
    entry_place is_entered more =
        let i = came more in
        let x = in_entry (engine p collecting depth) course.fuel entry args (begun (replies_of course.asked.given ++ more)) i.ran i.last i.outcome i.last_is course.start i.gives (sym i.entered_is ∙ is_entered)
        (begun_fits h.fits (replies_of course.asked.given ++ more)) (started more) in
        let r = rests (engine p collecting depth) v entry h.takes.0 args (typed entry h.takes.0 h.takes.1) h.takes.2 x.from x.told x.fits x.given prepared.codes.items m i.last x.left x.waits i.keeps in
        let k = halted p prepared.codes.items h.used_up (invoking (engine p collecting depth) course.start entry args (world_of course.before [])) course.fuel course.asked course.steps ready entered m more i true x.left x.ran_is r.none_left in (
          k.all,
          record {
            there = i.last;
            waits = r.waits;
            on = λ n. x.on n ∙ ap last_part (r.on n);
            replies = k.replies;
            served = k.served;
            told = k.told;
          },
        )

    -- ---- in the start function

    abbrev pub StartPlace : ℕ → List Reply → Type 0
    StartPlace s more =
        Place (engine p collecting depth) prepared.codes.items s [] m course.fuel course.asked itself
        (function_going (engine p collecting depth) s [] (world_of course.before []) [] (replies_of course.asked.given ++ more)) more

    -- it was due
    pub start_due : entered ≡ false → (s : ℕ) × (source.start ≡ Some s)
    start_due not_entered =
        let i = came [] in
        let x = in_start (engine p collecting depth) course.fuel entry args (begun (replies_of course.asked.given ++ [])) i.ran i.last i.outcome i.last_is course.start i.gives (sym i.entered_is ∙ not_entered) in
        (x.function, h.due x.function x.due)

    pub start_place : entered ≡ false → (s : ℕ) → source.start ≡ Some s → (more : List Reply) → (course.steps ≡ course.fuel) × (course.start ≡ Some s) × StartPlace s more
    start_place not_entered s is_start more =
        let i = came more in
        let x = in_start (engine p collecting depth) course.fuel entry args (begun (replies_of course.asked.given ++ more)) i.ran i.last i.outcome i.last_is course.start i.gives (sym i.entered_is ∙ not_entered) in
        let same : x.function ≡ s = some_is (sym (h.due x.function x.due) ∙ is_start) in
        let due : course.start ≡ Some s = x.due ∙ ap Some same in
        let t = takes_due s due in
        let waits = subst (λ f. run_function (engine p collecting depth) course.fuel f (function_at p f) [] (begun (replies_of course.asked.given ++ more)) [] ≡ ended (next i.last) x.left) same x.waits in
        let r = rests (engine p collecting depth) v s t.0 [] (typed s t.0 t.1) t.2 (begun (replies_of course.asked.given ++ more)) [] (begun_fits h.fits (replies_of course.asked.given ++ more)) course.fuel prepared.codes.items m i.last x.left waits i.keeps in
        let k = halted p prepared.codes.items h.used_up (invoking (engine p collecting depth) course.start entry args (world_of course.before [])) course.fuel course.asked course.steps ready entered m more i false x.left x.ran_is r.none_left in (
          k.all,
          due,
          record {
            there = i.last;
            waits = r.waits;
            on = r.on;
            replies = k.replies;
            served = k.served;
            told = k.told;
          },
        )
