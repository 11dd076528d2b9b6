-- What an invocation of the instance comes to in the session.
use Rattle.std.proofs.Common.{◌≡◌, ℕ, ◌+◌, ◌-◌, ◌≤◌, Bool, true, false, List, [], ◌∷◌, ◌++◌, length, drop, refl, sym, ap, ◌∙◌, add-one, arith, Option, Some, None, subst}
use Rattle.std.specs.Prelude.{if◌then◌else◌, option_map}
use Rattle.std.proofs.Math.Nat.{le_refl}
use Rattle.std.proofs.lemmas.List.{length-append, append-nil}
use Rattle.linear_memory.specs.Memory.{Memory}
use Rattle.linear_memory.specs.calls.Paged.{Paged}
use Rattle.pm_outside.specs.Contents.{Contents}
use Rattle.wasm_syntax.specs.declared.parts.Import.{Import}
use Rattle.wasm_syntax.specs.declared.value.Value.{Value}
use Rattle.wasm_syntax.specs.declared.host.Reply.{Reply}
use Rattle.wasm_syntax.specs.declared.host.Served.{Served}
use Rattle.wasm_syntax.specs.declared.host.CollectorCall.{CollectorCall}
use Rattle.wasm_syntax.specs.Host.{World}
use Rattle.wasm_syntax.specs.Machine.{Config, Engine}
use Rattle.wasm_syntax.specs.Module.{Program, function_export}
use Rattle.wasm_syntax.specs.Run.{Invocation, Outcome, lacks_reply, misfits, running, Ran, goes_on, fresh, session, invoked, engine}
use Rattle.machine_code.specs.declared.code.Code.{Code}
use Rattle.machine_steps.specs.declared.machine.Machine.{Machine}
use Rattle.machine_code.specs.declared.prepared.Prepared.{Prepared}
use Rattle.machine_steps.specs.calls.Meets.{Shares}
use Rattle.pm_outside.specs.Written.{OnTold}
use Rattle.host_devices.specs.calls.HostSides.{Calls}
use Rattle.host_devices.specs.Given.{replies_of}
use Rattle.machine_hosted.specs.declared.answer.RunEnd.{RunEnd}
use Rattle.machine_hosted.specs.declared.answer.RunEnd.TheVariants.{Finished, Trapped, NoReply, BadReply, DeviceFault, FuelSpent, NoMemory}
use Rattle.machine_hosted.specs.calls.Settings.{world_of}
use Rattle.machine_hosted.specs.calls.Answers.{AdmitsReplies, KeepsThen, given_steps}
use Rattle.machine_hosted.specs.calls.Invocations.{HasOutcome, may_follow, InvocationCame, invoking}
use Rattle.host_devices.specs.Given.{unfitting}
use Rattle.wasm_machine.specs.calls.Instances.{State, IsOf, Invoked, last_of}
use Rattle.run_session.specs.calls.Progress.{session_from}
use Rattle.run_session.specs.Telling.{Tells, told, torn_in, HasDump}
use Rattle.run_session.specs.RunText.{dump_name, dumps_from, up_to_torn, unless_torn}
use Rattle.run_session.specs.Given.{given_to}
use Rattle.pm_outside.specs.Held.{HoldPart}
use Rattle.run_session.specs.Stop.{no_memory, file_failed}
use Rattle.run_session.specs.inner.Turns.{CameTo, Answered, UnlessRefused, Added, LeavesPart, Dumps}
use Rattle.run_session.specs.calls.Sessions.{is_misfit, ends_badly, point_of, MadeOne, StopsIn}
use Rattle.run_session.specs.declared.turns.Lines.{Lines}
use Rattle.run_session.specs.declared.turns.Turn.{Turn}
use Rattle.run_session.specs.declared.turns.Turn.TheVariants.{GoesOn, Ends, Torn, Refused}
use Rattle.run_session.proofs.Tellings.{Behaves, one_trap}
use Rattle.run_session.proofs.Lists.{dumps_only, only_one}
use Rattle.run_session.proofs.Stopped.{Nothing, none_left, choice_left, unless_left}
use Rattle.machine_hosted.proofs.Fewer.{with_left, fewer_steps}
use Rattle.machine_hosted.proofs.WatchLaws.{admits_none}
use Rattle.wasm_machine.proofs.SessionLaws.{all_fitted}
use Rattle.machine_hosted.proofs.StageLaws.{enough as given_enough}

-- ---- an answer with a reply that does not fit

abbrev pub is_bad : RunEnd → Bool
is_bad (BadReply reply) = true
is_bad (Finished v) = false
is_bad (Trapped kind) = false
is_bad NoReply = false
is_bad (DeviceFault device) = false
is_bad FuelSpent = false
is_bad NoMemory = false

pub kept_badly : (f : ℕ) (args : List Value) (depth : ℕ) (collecting : Bool) (a : RunEnd) → ends_badly (last_of f args depth collecting a) ≡ is_bad a
kept_badly f args depth collecting (BadReply reply) = refl
kept_badly f args depth collecting (Finished v) = refl
kept_badly f args depth collecting (Trapped kind) = refl
kept_badly f args depth collecting NoReply = refl
kept_badly f args depth collecting (DeviceFault device) = refl
kept_badly f args depth collecting FuelSpent = refl
kept_badly f args depth collecting NoMemory = refl

came_badly : (p : Program) (used_up : Import → Bool) (a : RunEnd) (o : Outcome) → HasOutcome p used_up a o → (a ≡ NoMemory → ⊥) → is_misfit o ≡ is_bad a
came_badly p used_up (BadReply reply) o (call, is) some = ap is_misfit is
came_badly p used_up (Finished v) o is some = ap is_misfit is
came_badly p used_up (Trapped kind) o is some = ap is_misfit is
came_badly p used_up NoReply o (call, is, up) some = ap is_misfit is
came_badly p used_up (DeviceFault device) o (call, is, named) some = ap is_misfit is
came_badly p used_up FuelSpent o is some = ap is_misfit is
came_badly p used_up NoMemory o is some = absurd (some refl)

-- ---- an answer behind which the list goes on

abbrev OnAnswer : RunEnd → Type 0
OnAnswer (Finished v) = Unit {0}
OnAnswer (Trapped kind) = Unit {0}
OnAnswer NoReply = ⊥
OnAnswer (DeviceFault device) = ⊥
OnAnswer (BadReply reply) = ⊥
OnAnswer FuelSpent = ⊥
OnAnswer NoMemory = ⊥

is_off : (o x : Outcome) (e : Bool) → o ≡ x → goes_on o e ≡ true → goes_on x e ≡ false → ⊥
is_off o x e is on off = let same : true ≡ false = sym on ∙ ap (λ (y : Outcome). goes_on y e) is ∙ off in absurd cc

on_answer : (p : Program) (used_up : Import → Bool) (a : RunEnd) (o : Outcome) (e : Bool) → HasOutcome p used_up a o → goes_on o e ≡ true → (a ≡ NoMemory → ⊥) → OnAnswer a
on_answer p used_up (Finished v) o e is on some = tt
on_answer p used_up (Trapped kind) o e is on some = tt
on_answer p used_up NoReply o e (call, is, up) on some = is_off o (lacks_reply call) e is on refl
on_answer p used_up (DeviceFault device) o e (call, is, named) on some = is_off o (lacks_reply call) e is on refl
on_answer p used_up (BadReply reply) o e (call, is) on some = is_off o (misfits call reply) e is on refl
on_answer p used_up FuelSpent o e is on some = is_off o running e is on refl
on_answer p used_up NoMemory o e is on some = some refl

admits_on : (a : RunEnd) → OnAnswer a → (more : List Reply) → AdmitsReplies a more
admits_on (Finished v) on more = tt
admits_on (Trapped kind) on more = tt
admits_on (BadReply reply) on more = tt
admits_on FuelSpent on more = tt
admits_on NoMemory on more = tt
admits_on NoReply on more = absurd on
admits_on (DeviceFault device) on more = absurd on

shares_on : (p : Program) (codes : List Code) (a : RunEnd) (m : Machine) (c : Config) → OnAnswer a → KeepsThen p codes a m c → Shares m c.world
shares_on p codes (Finished v) m c on keeps = keeps.shares
shares_on p codes (Trapped kind) m c on keeps = keeps.shares
shares_on p codes (BadReply reply) m c on keeps = absurd on
shares_on p codes FuelSpent m c on keeps = absurd on
shares_on p codes NoMemory m c on keeps = absurd on
shares_on p codes NoReply m c on keeps = absurd on
shares_on p codes (DeviceFault device) m c on keeps = absurd on

-- all steps were given
pub all_given : (a : RunEnd) (fuel steps : ℕ) → (a ≡ NoMemory → ⊥) → given_steps a fuel steps ≡ fuel
all_given (Finished v) fuel steps some = refl
all_given (Trapped kind) fuel steps some = refl
all_given NoReply fuel steps some = refl
all_given (DeviceFault device) fuel steps some = refl
all_given (BadReply reply) fuel steps some = refl
all_given FuelSpent fuel steps some = refl
all_given NoMemory fuel steps some = absurd (some refl)

-- ---- the world behind it

abbrev world : List Value → Option Memory → List (Option ℕ) → List Reply → World
world globals memory table replies = record { globals = globals; memory = memory; table = table; replies = replies; served = [] }

same_world : (m : Machine) (c : Config) (w : World) (more : List Reply) → Shares m c.world → c.world.replies ≡ more → fresh (Some c) w ≡ world_of m more
same_world m c w more shares left =
    ap (λ g. world g c.world.memory c.world.table c.world.replies) shares.holds.globals
    ∙ ap (λ k. world m.shared.globals k c.world.table c.world.replies) shares.holds.memory
    ∙ ap (λ t. world m.shared.globals (option_map (λ (k : Paged). k.memory) m.shared.memory) t c.world.replies) shares.table
    ∙ ap (λ rs. world m.shared.globals (option_map (λ (k : Paged). k.memory) m.shared.memory) m.table rs) left

-- ---- the session

abbrev behind : Engine → List Invocation → Ran → World → List Ran
behind M rest r w = r ∷ (if goes_on r.outcome r.entered then session M rest None (fresh r.last w) r.left else [])

first_of : (M : Engine) (i : Invocation) (rest : List Invocation) (due : Option ℕ) (w : World) (n f : ℕ) (r : Ran) → function_export M.program.module_ i.name ≡ Some f → invoked M due n f i.args w ≡ r → session M (i ∷ rest) due w n ≡ behind M rest r w
first_of M i rest due w n f r entry is = ap (λ (o : Option ℕ). elim o [ None ↦ [] | Some g ↦ behind M rest (invoked M due n g i.args w) w ]) entry ∙ ap (λ x. behind M rest x w) is

-- within fewer steps, but not fewer than were made, the invocation comes to the same
came_within : (M : Engine) (due : Option ℕ) (n t steps f : ℕ) (args : List Value) (w : World) (r : Ran) → invoked M due n f args w ≡ r → r.left ≡ n - steps → steps ≤ t → t ≤ n → invoked M due t f args w ≡ with_left r (t - steps)
came_within M due n t steps f args w r gives left few many =
    ap (λ k. invoked M due k f args w) (sym (back n t many))
    ∙ fewer_steps M due n (n - t) f args w (subst (λ k. n - t ≤ k) (sym (ap (λ (x : Ran). x.left) gives ∙ left)) (enough n t steps few))
    ∙ ap (λ (x : Ran). with_left x (x.left - (n - t))) gives
    ∙ ap (λ k. with_left r k) (ap (λ k. k - (n - t)) left ∙ less n t steps few many)
  where
    back : (n t : ℕ) → t ≤ n → n - (n - t) ≡ t
    back n t many = omega arith

    enough : (n t steps : ℕ) → steps ≤ t → n - t ≤ n - steps
    enough n t steps few = omega arith

    less : (n t steps : ℕ) → steps ≤ t → t ≤ n → n - steps - (n - t) ≡ t - steps
    less n t steps few many = omega arith

-- what is known of the invocation with these replies left
module _ (M : Engine) (s new : State) (i : Invocation) (rest : List Invocation) (f fuel steps : ℕ) (given : List Served) (a : RunEnd)
    (entry : function_export M.program.module_ i.name ≡ Some f) (made : new.steps ≡ s.steps + steps) where
  -- within so many steps
  opens : (total : ℕ) (more : List Reply) (r : Ran) → invoking M s.due f i.args (world_of s.machine []) (replies_of given ++ more) (given_steps a (fuel - s.steps) steps) ≡ r → r.left ≡ given_steps a (fuel - s.steps) steps - steps
      → new.steps ≤ total → total - s.steps ≤ given_steps a (fuel - s.steps) steps
      → session_from M (point_of s (i ∷ rest) total) (replies_of given ++ more) ≡ behind M rest (with_left r (total - new.steps)) (world_of s.machine (replies_of given ++ more))
  opens total more r gives left few many =
      let w = world_of s.machine (replies_of given ++ more) in
      first_of M i rest s.due w (total - s.steps) f (with_left r (total - new.steps)) entry
      (came_within M s.due (given_steps a (fuel - s.steps) steps) (total - s.steps) steps f i.args w r gives left (reaches total s.steps steps new.steps made few) many
      ∙ ap (λ k. with_left r k) (less total s.steps steps new.steps made))
    where
      reaches : (t x y k : ℕ) → k ≡ x + y → k ≤ t → y ≤ t - x
      reaches t x y k e le = omega arith

      less : (t x y k : ℕ) → k ≡ x + y → t - x - y ≡ t - k
      less t x y k e = omega arith

  -- up to the fuel, where memory was not wanting
  up_to : (total : ℕ) → (a ≡ NoMemory → ⊥) → total ≤ fuel → total - s.steps ≤ given_steps a (fuel - s.steps) steps
  up_to total some many = subst (λ k. total - s.steps ≤ k) (sym (all_given a (fuel - s.steps) steps some)) (fewer total fuel s.steps many)
    where
      fewer : (t n x : ℕ) → t ≤ n → t - x ≤ n - x
      fewer t n x le = omega arith

  pub goes_on_from : (total : ℕ) (more : List Reply) (r : Ran) (c : Config) → (a ≡ NoMemory → ⊥) → new.due ≡ None → new.steps ≤ total → total ≤ fuel
      → invoking M s.due f i.args (world_of s.machine []) (replies_of given ++ more) (given_steps a (fuel - s.steps) steps) ≡ r
      → r.left ≡ given_steps a (fuel - s.steps) steps - steps → r.last ≡ Some c → goes_on r.outcome r.entered ≡ true → Shares new.machine c.world → drop (length (unfitting r.outcome)) c.world.replies ≡ more
      → session_from M (point_of s (i ∷ rest) total) (replies_of given ++ more) ≡ with_left r (total - new.steps) ∷ session_from M (point_of new rest total) more
  goes_on_from total more r c some due few many gives left last on shares replies =
      let w = world_of s.machine (replies_of given ++ more) in
      let q = with_left r (total - new.steps) in
      opens total more r gives left few (up_to total some many)
      ∙ ap (λ b. q ∷ (if b then session M rest None (fresh r.last w) (total - new.steps) else [])) on
      ∙ ap (λ l. q ∷ session M rest None (fresh l w) (total - new.steps)) last
      ∙ ap (λ v. q ∷ session M rest None v (total - new.steps)) (same_world new.machine c w more shares (ap (λ us. drop (length us) c.world.replies) (sym (all_fitted r.outcome r.entered on)) ∙ replies))
      ∙ ap (λ d. q ∷ session M rest d (world_of new.machine more) (total - new.steps)) (sym due)

  pub ends_at : (total : ℕ) (more : List Reply) (r : Ran) → (a ≡ NoMemory → ⊥) → new.steps ≤ total → total ≤ fuel
      → invoking M s.due f i.args (world_of s.machine []) (replies_of given ++ more) (given_steps a (fuel - s.steps) steps) ≡ r → r.left ≡ given_steps a (fuel - s.steps) steps - steps → goes_on r.outcome r.entered ≡ false
      → session_from M (point_of s (i ∷ rest) total) (replies_of given ++ more) ≡ with_left r (total - new.steps) ∷ []
  ends_at total more r some few many gives left off =
      let w = world_of s.machine (replies_of given ++ more) in
      opens total more r gives left few (up_to total some many)
      ∙ ap (λ b. with_left r (total - new.steps) ∷ (if b then session M rest None (fresh r.last w) (total - new.steps) else [])) off

  -- whatever comes behind it
  pub begins_with : (total : ℕ) (r : Ran) → (a ≡ NoMemory → ⊥) → new.steps ≤ total → total ≤ fuel
      → invoking M s.due f i.args (world_of s.machine []) (replies_of given ++ []) (given_steps a (fuel - s.steps) steps) ≡ r → r.left ≡ given_steps a (fuel - s.steps) steps - steps
      → (later : List Ran) × (session_from M (point_of s (i ∷ rest) total) (replies_of given ++ []) ≡ with_left r (total - new.steps) ∷ later)
  begins_with total r some few many gives left =
      let w = world_of s.machine (replies_of given ++ []) in
      ((if goes_on r.outcome r.entered then session M rest None (fresh r.last w) (total - new.steps) else []), opens total [] r gives left few (up_to total some many))

  -- the steps that were made are all
  pub stops_at : (more : List Reply) (r : Ran) → steps ≤ fuel - s.steps
      → invoking M s.due f i.args (world_of s.machine []) (replies_of given ++ more) (given_steps a (fuel - s.steps) steps) ≡ r → r.left ≡ given_steps a (fuel - s.steps) steps - steps
      → session_from M (point_of s (i ∷ rest) new.steps) (replies_of given ++ more) ≡ behind M rest (with_left r 0) (world_of s.machine (replies_of given ++ more))
  stops_at more r within gives left =
      opens new.steps more r gives left (le_refl new.steps) (subst (λ k. k ≤ given_steps a (fuel - s.steps) steps) (sym (just new.steps s.steps steps made)) (given_enough a (fuel - s.steps) steps within))
      ∙ ap (λ k. behind M rest (with_left r k) (world_of s.machine (replies_of given ++ more))) (none new.steps)
    where
      just : (k x y : ℕ) → k ≡ x + y → k - x ≡ y
      just k x y e = omega arith

      none : (n : ℕ) → n - n ≡ 0
      none n = omega arith

-- ---- one invocation

counts : (old new given : List Served) (calls before after : ℕ) → new ≡ old ++ given → before ≡ length old → after ≡ length new → calls ≡ after - before → calls ≡ length given
counts old new given calls before after grew one other is =
    let all : length new ≡ length old + length given = ap (λ l. length l) grew ∙ length-append old given in
    omega arith

-- whatever is left of the steps
same_follow : (a : RunEnd) (r : Ran) (left : ℕ) → may_follow a r ≡ may_follow a (with_left r left)
same_follow (Finished v) r left = refl
same_follow (Trapped kind) r left = refl
same_follow NoReply r left = refl
same_follow (DeviceFault device) r left = refl
same_follow (BadReply reply) r left = refl
same_follow FuelSpent r left = refl
same_follow NoMemory r left = refl

onward : (x k y : ℕ) → k ≡ x + y → x ≤ k
onward x k y e = omega arith

within : (n x k y : ℕ) → k ≡ x + y → y ≤ n - x → x ≤ n → k ≤ n
within n x k y e le few = omega arith

-- what was collected, where it is looked at
same_collected : (collect : Bool) (told_calls collected before after there : List CollectorCall) → told_calls ≡ collected → after ≡ before ++ told_calls → (collect ≡ true → before ≡ []) → there ≡ after → collect ≡ true → collected ≡ there
same_collected collect told_calls collected before after there came grew none are looked = sym came ∙ sym (are ∙ grew ∙ ap (λ l. l ++ told_calls) (none looked))

module _ (tell : Tells) (p : Program) (collect : Bool) (depth : ℕ) (base name : List ℕ) (used_up : Import → Bool) (s new : State) (i : Invocation) (f fuel : ℕ) (a : RunEnd) (handed : List CollectorCall) (before after : Calls) (told_before told_after : Option Contents)
    (is_of : IsOf new p) (same : new.prepared ≡ s.prepared) (entry : function_export p.module_ i.name ≡ Some f)
    (none : collect ≡ true → before.collected ≡ []) (are : handed ≡ after.collected)
    (was : Invoked p collect depth used_up f i.args (fuel - s.steps) s new a before after) where
  abbrev came_with : List Reply → Type 0
  came_with more = InvocationCame p s.prepared.codes.items used_up (invoking (engine p collect depth) s.due f i.args (world_of s.machine [])) (fuel - s.steps) was.came.asked a was.made new.ready new.entered new.machine more

  begin : came_with []
  begin = was.came.came [] (admits_none a)

  came_to : (more : List Reply) (came : came_with more) → CameTo p used_up a new came.ran.outcome came.last
  came_to more came = record { is_of = is_of; outcome = came.outcome; keeps = subst (λ (q : Prepared). KeepsThen p q.codes.items a new.machine came.last) (sym same) came.keeps }

  collected_is : (more : List Reply) (came : came_with more) → collect ≡ true → came.ran.collected ≡ handed
  collected_is more came = same_collected collect was.came.asked.told came.ran.collected before.collected after.collected handed came.collected was.came.grew.collected none are

  -- ---- an invocation that was made

  module _ (calls before_count after_count : ℕ) (lines later : Lines) (some : a ≡ NoMemory → ⊥) (due : new.due ≡ None)
      (kept : ends_badly new.last ≡ is_bad a) (one : before_count ≡ length before.served) (other : after_count ≡ length after.served) (counted : calls ≡ after_count - before_count) where
    known : (more : List Reply) (came : came_with more) (left : ℕ) → Answered p used_up collect a new calls handed (with_left came.ran left)
    known more came left = record {
      last = came.last;
      last_is = came.last_is;
      came = came_to more came;
      follows = came.follows ∙ same_follow a came.ran left;
      counted = counts before.served after.served was.came.asked.given calls before_count after_count was.came.grew.served one other counted ∙ ap (λ l. length l) came.served;
      handed = collected_is more came;
    }

    pub made_one : (turn : Turn) → UnlessRefused turn (Added tell collect base name new a calls handed lines later told_before told_after turn)
        → UnlessRefused turn (MadeOne tell p (engine p collect depth) base name used_up s new i fuel lines later before.served after.served told_before told_after turn)
    made_one (Refused o) added = tt
    made_one GoesOn added =
        let on = on_answer p used_up a begin.ran.outcome begin.ran.entered begin.outcome (added.turns p used_up (with_left begin.ran 0) (known [] begin 0)).0 some in
        record {
          answer = a;
          given = was.came.asked.given;
          grew = was.came.grew.served;
          writes = added.writes;
          files = added.files;
          onward = onward s.steps new.steps was.made was.steps;
          within = within fuel s.steps new.steps was.made was.steps begin.within;
          ran = λ rest total few many more admits.
              let came = was.came.came more (admits_on a on more) in
              let ran = with_left came.ran (total - new.steps) in
              let turns = added.turns p used_up ran (known more came (total - new.steps)) in
              record {
                ran = ran;
                given_is = came.served;
                turns = turns;
                session_turns = goes_on_from (engine p collect depth) s new i rest f fuel was.made was.came.asked.given a entry was.steps total more came.ran came.last some due few many came.gives came.left came.last_is turns.0 (shares_on p s.prepared.codes.items a new.machine came.last on came.keeps) came.replies;
                outcome = tt;
                misfit = came_badly p used_up a came.ran.outcome came.outcome some ∙ sym kept;
              };
        }
    made_one (Ends b) added =
        let is : b ≡ a = (added.turns p used_up (with_left begin.ran 0) (known [] begin 0)).0 in
        record {
          answer = a;
          given = was.came.asked.given;
          grew = was.came.grew.served;
          writes = added.writes;
          files = added.files;
          onward = onward s.steps new.steps was.made was.steps;
          within = within fuel s.steps new.steps was.made was.steps begin.within;
          ran = λ rest total few many more admits.
              let came = was.came.came more (subst (λ x. AdmitsReplies x more) is admits) in
              let ran = with_left came.ran (total - new.steps) in
              let turns = added.turns p used_up ran (known more came (total - new.steps)) in
              record {
                ran = ran;
                given_is = came.served;
                turns = turns;
                session_turns = ends_at (engine p collect depth) s new i rest f fuel was.made was.came.asked.given a entry was.steps total more came.ran some few many came.gives came.left turns.1;
                outcome = subst (λ x. HasOutcome p used_up x came.ran.outcome) (sym is) came.outcome;
                misfit = came_badly p used_up a came.ran.outcome came.outcome some ∙ sym kept;
              };
        }
    made_one (Torn at) added = record {
      answer = a;
      given = was.came.asked.given;
      grew = was.came.grew.served;
      writes = added.writes;
      files = added.files;
      onward = onward s.steps new.steps was.made was.steps;
      within = within fuel s.steps new.steps was.made was.steps begin.within;
      ran = λ rest total few many more admits.
          let ran = with_left begin.ran (total - new.steps) in
          let begun = begins_with (engine p collect depth) s new i rest f fuel was.made was.came.asked.given a entry was.steps total begin.ran some few many begin.gives begin.left in
          record {
            ran = ran;
            given_is = begin.served;
            turns = added.turns p used_up ran (known [] begin (total - new.steps));
            session_turns = (begun.0, ap (λ l. session_from (engine p collect depth) (point_of s (i ∷ rest) total) (replies_of was.came.asked.given ++ l)) admits ∙ begun.1);
            outcome = tt;
            misfit = came_badly p used_up a begin.ran.outcome begin.outcome some ∙ sym kept;
          };
    }

  -- ---- an invocation that was stopped

  module _ (rest : List Invocation) (traps : ℕ) (b : Behaves tell) (begun : s.steps ≤ fuel) (part : LeavesPart tell collect base name new a handed traps told_before told_after) where
    dumped : (left : ℕ) → OnTold (HoldPart (dumps_from tell base name traps (with_left begin.ran left ∷ []))) told_before told_after
    dumped left = part p used_up (with_left begin.ran left) begin.last (came_to [] begin) (collected_is [] begin) begin.last_is

    no_more : session_from (engine p collect depth) (point_of s (i ∷ rest) new.steps) (replies_of was.came.asked.given ++ []) ≡ session_from (engine p collect depth) (point_of s (i ∷ rest) new.steps) (replies_of was.came.asked.given)
    no_more = ap (λ l. session_from (engine p collect depth) (point_of s (i ∷ rest) new.steps) l) (append-nil (replies_of was.came.asked.given))

    fresh_served : (l : Option Config) (c : Config) (w : World) → l ≡ Some c → (fresh l w).served ≡ []
    fresh_served l c w is = ap (λ k. (fresh k w).served) is

    pub stopped_in : StopsIn tell no_memory (engine p collect depth) base name traps s (i ∷ rest) fuel before.served after.served told_before told_after
    stopped_in =
        let M = engine p collect depth in
        let given = was.came.asked.given in
        let w = world_of s.machine (replies_of given ++ []) in
        let r = with_left begin.ran 0 in
        let others = if goes_on r.outcome r.entered then session M rest None (fresh r.last w) 0 else [] in
        let behind_it = unless_torn (torn_in (told tell r)) (up_to_torn tell others) in
        let nothing_there : Nothing tell base name behind_it = unless_left tell base name (torn_in (told tell r)) (up_to_torn tell others)
        (choice_left tell base name (goes_on r.outcome r.entered) (session M rest None (fresh r.last w) 0) (none_left tell b base name M rest (fresh r.last w) (fresh_served r.last begin.last w begin.last_is))) in (
          new.steps,
          onward s.steps new.steps was.made was.steps,
          within fuel s.steps new.steps was.made was.steps begin.within begun,
          r ∷ behind_it,
          record {
            given = given;
            grew = was.came.grew.served;
            is = ap (λ l. up_to_torn tell l) (sym no_more ∙ stops_at M s new i rest f fuel was.made given a entry was.steps [] begin.ran begin.within begin.gives begin.left);
            all_given = begin.served ∙ sym (append-nil (given_to r)) ∙ ap (λ l. given_to r ++ l) (sym nothing_there.given);
            files = subst (λ ws. OnTold (HoldPart ws) told_before told_after) (sym (dumps_only tell base name traps r behind_it nothing_there.dumps)) (dumped 0);
          },
        )

    pub failed_in : (a ≡ NoMemory → ⊥) → Dumps tell collect a new handed → StopsIn tell (file_failed (dump_name base traps)) (engine p collect depth) base name traps s (i ∷ rest) fuel before.served after.served told_before told_after
    failed_in some dumps =
        let M = engine p collect depth in
        let given = was.came.asked.given in
        let r = with_left begin.ran (fuel - new.steps) in
        let has : HasDump (told tell r) = subst (λ l. HasDump (tell r.outcome r.collected l)) (sym begin.last_is) (dumps p used_up begin.ran.outcome begin.last begin.ran.collected (came_to [] begin) (collected_is [] begin)) in
        let trap = b.dumped r.outcome r.collected r.last has in (
          1,
          r ∷ [],
          record {
            ran = r;
            kind = trap.0;
            last = refl;
            has_trapped = trap.1;
            has_dump = has;
            trap = traps;
            counted = ap (λ n. traps + n) (one_trap (told tell r) has) ∙ add-one traps;
            file_is = refl;
          },
          record {
            given = given;
            grew = was.came.grew.served;
            is = ap (λ l. up_to_torn tell l)
                (ap (λ l. session_from M (point_of s (i ∷ []) fuel) l) (sym (append-nil (replies_of given)))
                ∙ opens M s new i [] f fuel was.made given a entry was.steps fuel [] begin.ran begin.gives begin.left (within fuel s.steps new.steps was.made was.steps begin.within begun) (up_to M s new i [] f fuel was.made given a entry was.steps fuel some (le_refl fuel))
                ∙ either (goes_on r.outcome r.entered) r) ∙ only_one tell r;
            all_given = begin.served ∙ sym (append-nil (given_to r));
            files = dumped (fuel - new.steps);
          },
        )
      where
        either : (b : Bool) (r : Ran) → r ∷ (if b then [] else []) ≡ r ∷ []
        either true r = refl
        either false r = refl
