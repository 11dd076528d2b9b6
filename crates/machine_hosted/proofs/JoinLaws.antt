-- The start function and the entry behind it.
use Rattle.std.proofs.Common.{◌≡◌, ℕ, zero, suc, ◌+◌, ◌-◌, ◌≤◌, List, [], ◌∷◌, ◌++◌, reverse, drop, length, append_assoc, refl, sym, ap, ap₂, ◌∙◌, arith}
use Rattle.std.proofs.lemmas.List.{append-nil, reverse-append, reverse-reverse, map-append}
use Rattle.std.specs.Prelude.{Bool, true, false, Option, Some, None, option_map}
use Rattle.wasm_syntax.specs.declared.value.Value.{Value}
use Rattle.wasm_syntax.specs.declared.parts.Import.{Import}
use Rattle.wasm_syntax.specs.declared.host.HostCall.{HostCall}
use Rattle.wasm_syntax.specs.declared.host.Reply.{Reply}
use Rattle.wasm_syntax.specs.declared.host.Served.{Served as ServedCall}
use Rattle.wasm_syntax.specs.declared.host.CollectorCall.{CollectorCall}
use Rattle.wasm_syntax.specs.declared.module.ModuleParts.{ModuleParts as Module}
use Rattle.wasm_syntax.specs.Module.{Program, Function, imported, defined, function_at}
use Rattle.wasm_syntax.specs.Host.{World}
use Rattle.wasm_syntax.specs.Machine.{Engine, Config, config, Stepped, next, ends, traps, no_reply, bad_reply, stuck, step, host_call, entered}
use Rattle.wasm_syntax.specs.Run.{Ended, ended, run_on, run_steps, run_alone, run_function, run_entry, go_on, ran_to, finished, goes_on}
use Rattle.machine_code.specs.declared.code.Code.{Code}
use Rattle.machine_steps.specs.declared.machine.Machine.{Machine}
use Rattle.machine_hosted.specs.calls.Safe.{RunFits}
use Rattle.host_devices.specs.calls.HostSides.{Calls}
use Rattle.machine_hosted.specs.calls.Hosted.{Asked, Grew, replying, served_in, told_in, left_in}
use Rattle.host_devices.specs.Given.{replies_of}
use Rattle.machine_hosted.specs.declared.answer.RunEnd.{RunEnd}
use Rattle.machine_hosted.specs.declared.answer.RunEnd.TheVariants.{Finished, Trapped, NoReply, BadReply, DeviceFault, FuelSpent, NoMemory}
use Rattle.machine_hosted.specs.calls.Settings.{world_of}
use Rattle.machine_hosted.specs.calls.Answers.{KeepsThen, last_in, AnswersTo, given_steps, FunctionCame, FunctionCameWith, function_going}
use Rattle.machine_hosted.specs.calls.Invocations.{HasOutcome, IsEntered, may_follow, follows_behind, finishes, Invoking, invoking, InvocationCame, InvocationCameWith}
use Rattle.host_devices.specs.Given.{unfitting}
use Rattle.machine_hosted.proofs.WorldLaws.{one_world}
use Rattle.pm_text.proofs.Lists.{some_is}

-- ---- a run that ended ends with each number of steps that suffices

module _ (M : Engine) where
  pub record EndsAfter (n l : ℕ) (go : ℕ → Ended) (w : World) (vs : List Value) (co : List CollectorCall) : Type 0 where
    pub made : ℕ
    pub all : n ≡ suc made + l
    pub always : (k : ℕ) → go (suc made + k) ≡ ended (ends w vs co) k

  what_of : {a b : Stepped} {m n : ℕ} → ended a m ≡ ended b n → a ≡ b
  what_of e = ap (λ (x : Ended). x.what) e

  left_of : {a b : Stepped} {m n : ℕ} → ended a m ≡ ended b n → m ≡ n
  left_of e = ap (λ (x : Ended). x.left) e

  steps_end : (n : ℕ) (c : Config) (w : World) (vs : List Value) (co : List CollectorCall) (l : ℕ) → run_steps M n c ≡ ended (ends w vs co) l → EndsAfter n l (λ k. run_steps M k c) w vs co
  steps_end zero c w vs co l e = let q : next c ≡ ends w vs co = what_of e in absurd (cc)
  steps_end (suc n) c w vs co l e = by_step (step M c) refl (λ c'. steps_end n c' w vs co l) e
    where
      by_step : (s : Stepped) → step M c ≡ s → ((c' : Config) → run_steps M n c' ≡ ended (ends w vs co) l → EndsAfter n l (λ k. run_steps M k c') w vs co) → run_on M (run_steps M n) n s ≡ ended (ends w vs co) l → EndsAfter (suc n) l (λ k. run_steps M k c) w vs co
      by_step (next c') q ih e =
          let r = ih c' e in
          record {
            made = suc r.made;
            all = omega (arith, r.all);
            always = λ k.
                let j : suc (suc r.made) + k ≡ suc (suc r.made + k) = omega arith in
                ap (λ i. run_steps M i c) j ∙ ap (λ s. run_on M (run_steps M (suc r.made + k)) (suc r.made + k) s) q ∙ r.always k;
          }
      by_step (ends w' vs' co') q ih e = record {
        made = 0;
        all = let j : n ≡ l = left_of e in omega (arith, j);
        always = λ k.
            let j : suc 0 + k ≡ suc k = omega arith in
            ap (λ i. run_steps M i c) j ∙ ap (λ s. run_on M (run_steps M k) k s) q ∙ ap (λ s. ended s k) (what_of e);
      }
      by_step (traps kind c') q ih e = let z : traps kind c' ≡ ends w vs co = what_of e in absurd (cc)
      by_step (no_reply call c') q ih e = let z : no_reply call c' ≡ ends w vs co = what_of e in absurd (cc)
      by_step (bad_reply call r c') q ih e = let z : bad_reply call r c' ≡ ends w vs co = what_of e in absurd (cc)
      by_step stuck q ih e = let z : stuck ≡ ends w vs co = what_of e in absurd (cc)

  alone_ends : (n : ℕ) (call : HostCall) (u : World) (uo : List CollectorCall) (w : World) (vs : List Value) (co : List CollectorCall) (l : ℕ) → run_alone M n call u uo ≡ ended (ends w vs co) l → EndsAfter n l (λ k. run_alone M k call u uo) w vs co
  alone_ends zero call u uo w vs co l e = let q : next (config [] u uo) ≡ ends w vs co = what_of e in absurd (cc)
  alone_ends (suc n) call u uo w vs co l e = record {
    made = 0;
    all = let j : n ≡ l = left_of e in omega (arith, j);
    always = λ k. let j : suc 0 + k ≡ suc k = omega arith in ap (λ i. run_alone M i call u uo) j ∙ ap (λ s. ended s k) (what_of e);
  }

  pub function_ends : (n f : ℕ) (fn : Option Function) (args : List Value) (u : World) (uo : List CollectorCall) (w : World) (vs : List Value) (co : List CollectorCall) (l : ℕ) → run_function M n f fn args u uo ≡ ended (ends w vs co) l → EndsAfter n l (λ k. run_function M k f fn args u uo) w vs co
  function_ends n f None args u uo w vs co l e = let q : stuck ≡ ends w vs co = what_of e in absurd (cc)
  function_ends n f (Some (imported i type)) args u uo w vs co l e = alone_ends n (host_call f i type args) u uo w vs co l e
  function_ends n f (Some (defined body tree type)) args u uo w vs co l e = steps_end n (config (entered f body tree type args ∷ []) u uo) w vs co l e

-- ---- the last part of an invocation

pub left_is : (q : Bool) (s : Stepped) (left : ℕ) → (ran_to q s left).left ≡ left
left_is q (next c) left = refl
left_is q (ends w vs co) left = refl
left_is q (traps k c) left = refl
left_is q (no_reply call c) left = refl
left_is q (bad_reply call r c) left = refl
left_is q stuck left = refl

last_is : (q : Bool) (s : Stepped) (left : ℕ) → (ran_to q s left).last ≡ last_in s
last_is q (next c) left = refl
last_is q (ends w vs co) left = refl
last_is q (traps k c) left = refl
last_is q (no_reply call c) left = refl
last_is q (bad_reply call r c) left = refl
last_is q stuck left = refl

told_is : (q : Bool) (s : Stepped) (left : ℕ) → (ran_to q s left).collected ≡ reverse (told_in s)
told_is q (next c) left = refl
told_is q (ends w vs co) left = refl
told_is q (traps k c) left = refl
told_is q (no_reply call c) left = refl
told_is q (bad_reply call r c) left = refl
told_is q stuck left = refl

served_is : (q : Bool) (s : Stepped) (left : ℕ) → (ran_to q s left).served ++ unfitting (ran_to q s left).outcome ≡ reverse (served_in s)
served_is q (next c) left = append-nil (reverse c.world.served)
served_is q (ends w vs co) left = append-nil (reverse w.served)
served_is q (traps k c) left = append-nil (reverse c.world.served)
served_is q (no_reply call c) left = append-nil (reverse c.world.served)
served_is q (bad_reply call r c) left = sym (reverse-append (record { call = call; reply = r } ∷ []) c.world.served)
served_is q stuck left = refl

replies_are : (q : Bool) (s : Stepped) (left : ℕ) (c : Config) → last_in s ≡ Some c → drop (length (unfitting (ran_to q s left).outcome)) c.world.replies ≡ left_in s
replies_are q (next k) left c e = ap (λ (c : Config). c.world.replies) (sym (some_is e))
replies_are q (ends w vs co) left c e = ap (λ (c : Config). c.world.replies) (sym (some_is e))
replies_are q (traps n k) left c e = ap (λ (c : Config). c.world.replies) (sym (some_is e))
replies_are q (no_reply call k) left c e = ap (λ (c : Config). c.world.replies) (sym (some_is e))
replies_are q (bad_reply call r k) left c e = ap (λ (c : Config). drop 1 c.world.replies) (sym (some_is e))
replies_are q stuck left c e = absurd (cc)

-- whether the entry was begun
pub begun_in : (q : Bool) (s : Stepped) (left : ℕ) → q ≡ (ran_to q s left).entered
begun_in q (next c) left = refl
begun_in q (ends w vs co) left = refl
begun_in q (traps k c) left = refl
begun_in q (no_reply call c) left = refl
begun_in q (bad_reply call r c) left = refl
begun_in q stuck left = refl

there_is : (m : Module) (s : Stepped) → RunFits m s → (c : Config) × (last_in s ≡ Some c)
there_is m (next c) h = (c, refl)
there_is m (ends w vs co) h = (config [] w co, refl)
there_is m (traps k c) h = (c, refl)
there_is m (no_reply call c) h = (c, refl)
there_is m (bad_reply call r c) h = (c, refl)
there_is m stuck h = absurd h

module _ (p : Program) (codes : List Code) (used_up : Import → Bool) where
  outcome_is : (answer : RunEnd) (q : Bool) (s : Stepped) (left : ℕ) → AnswersTo p used_up answer s → HasOutcome p used_up answer (ran_to q s left).outcome
  outcome_is (Finished v) q s left a = ap (λ s. (ran_to q s left).outcome) a.3 ∙ ap finished (sym a.4)
  outcome_is (Trapped kind) q s left a = ap (λ s. (ran_to q s left).outcome) a.1
  outcome_is NoReply q s left a = (a.0, ap (λ s. (ran_to q s left).outcome) a.2, a.3)
  outcome_is (DeviceFault name) q s left a = (a.0, ap (λ s. (ran_to q s left).outcome) a.2, a.3)
  outcome_is (BadReply reply) q s left a = (a.0, ap (λ s. (ran_to q s left).outcome) a.2)
  outcome_is FuelSpent q s left a = ap (λ s. (ran_to q s left).outcome) a.1
  outcome_is NoMemory q s left a = tt

  follows_is : (answer : RunEnd) (q : Bool) (s : Stepped) (left : ℕ) → AnswersTo p used_up answer s → follows_behind answer q ≡ may_follow answer (ran_to q s left)
  follows_is (Finished v) q s left a = ap (λ s. goes_on (ran_to q s left).outcome (ran_to q s left).entered) (sym a.3)
  follows_is (Trapped kind) q s left a = ap (λ s. goes_on (ran_to q s left).outcome (ran_to q s left).entered) (sym a.1)
  follows_is NoReply q s left a = ap (λ s. goes_on (ran_to q s left).outcome (ran_to q s left).entered) (sym a.2)
  follows_is (DeviceFault name) q s left a = ap (λ s. goes_on (ran_to q s left).outcome (ran_to q s left).entered) (sym a.2)
  follows_is (BadReply reply) q s left a = ap (λ s. goes_on (ran_to q s left).outcome (ran_to q s left).entered) (sym a.2)
  follows_is FuelSpent q s left a = ap (λ s. goes_on (ran_to q s left).outcome (ran_to q s left).entered) (sym a.1)
  follows_is NoMemory q s left a = refl

  pub begun_is : (answer : RunEnd) (q : Bool) (s : Stepped) (left : ℕ) → IsEntered answer q (ran_to q s left)
  begun_is (Finished v) q s left = begun_in q s left
  begun_is (Trapped kind) q s left = begun_in q s left
  begun_is NoReply q s left = begun_in q s left
  begun_is (DeviceFault name) q s left = begun_in q s left
  begun_is (BadReply reply) q s left = begun_in q s left
  begun_is FuelSpent q s left = begun_in q s left
  begun_is NoMemory q s left = tt

  pub ran_came : (q begun : Bool) (go : Invoking) (fuel : ℕ) (asked : Asked) (answer : RunEnd) (steps : ℕ) (m : Machine) (more : List Reply) (s : Stepped) (left : ℕ) →
      steps ≤ fuel → go (replies_of asked.given ++ more) (given_steps answer fuel steps) ≡ ran_to q s left → left ≡ given_steps answer fuel steps - steps →
      AnswersTo p used_up answer s → ((c : Config) → last_in s ≡ Some c → KeepsThen p codes answer m c) →
      served_in s ≡ reverse asked.given → told_in s ≡ reverse asked.told → left_in s ≡ more → RunFits p.module_ s → IsEntered answer begun (ran_to q s left) →
      InvocationCame p codes used_up go fuel asked answer steps (follows_behind answer q) begun m more
  ran_came q begun go fuel asked answer steps m more s left le e l a k given told rest fits is_begun =
      let there = there_is p.module_ s fits in
      record {
        ran = ran_to q s left;
        within = le;
        gives = e;
        outcome = outcome_is answer q s left a;
        left = left_is q s left ∙ l;
        served = sym (served_is q s left ∙ ap reverse given ∙ reverse-reverse asked.given);
        collected = sym (told_is q s left ∙ ap reverse told ∙ reverse-reverse asked.told);
        follows = follows_is answer q s left a;
        entered_is = is_begun;
        last = there.0;
        last_is = last_is q s left ∙ there.1;
        keeps = k there.0 there.1;
        replies = replies_are q s left there.0 there.1 ∙ rest;
      }

  module _ (M : Engine) (program : M.program ≡ p) (m0 : Machine) (f : ℕ) (args : List Value) (fuel : ℕ) where
    abbrev w0 : World
    w0 = world_of m0 []

    -- ---- without a start function

    pub entry_alone : (answer : RunEnd) (steps : ℕ) (m : Machine) (old new : Calls) → FunctionCameWith p codes used_up (function_going M f args w0 []) w0 [] fuel answer steps m old new →
        InvocationCameWith p codes used_up (invoking M None f args w0) fuel answer steps (follows_behind answer true) true m old new
    entry_alone answer steps m old new h = record {
      asked = h.asked;
      grew = h.grew;
      came = λ more ad.
          let c = h.came more ad in
          ran_came true true (invoking M None f args w0) fuel h.asked answer steps m more c.what (given_steps answer fuel steps - steps) c.within
          (ap (λ (e : Ended). ran_to true e.what e.left) c.gives) refl c.answers c.keeps
          (c.served.served ∙ append-nil (reverse h.asked.given)) (c.served.collected ∙ append-nil (reverse h.asked.told)) c.served.left c.fits
          (begun_is answer true c.what (given_steps answer fuel steps - steps));
    }

    module _ (start : ℕ) where
      abbrev go : Invoking
      go = invoking M (Some start) f args w0

      abbrev go_first : List Reply → ℕ → Ended
      go_first = function_going M start [] w0 []

      from_first : (replies : List Reply) (n : ℕ) (s : Stepped) (left : ℕ) → go_first replies n ≡ ended s left → go replies n ≡ go_on M s left f args
      from_first replies n s left e = ap (λ (e : Ended). go_on M e.what e.left f args) e

      -- ---- the run ends inside the start function

      -- no end of the start function
      abbrev NoEnd : RunEnd → Type 0
      NoEnd (Finished v) = ⊥
      NoEnd (Trapped kind) = Unit {0}
      NoEnd NoReply = Unit {0}
      NoEnd (DeviceFault name) = Unit {0}
      NoEnd (BadReply reply) = Unit {0}
      NoEnd FuelSpent = Unit {0}
      NoEnd NoMemory = Unit {0}

      stays : (answer : RunEnd) (s : Stepped) (left : ℕ) → NoEnd answer → (answer ≡ NoMemory → ⊥) → AnswersTo p used_up answer s → go_on M s left f args ≡ ran_to false s left
      stays (Finished v) s left n m a = absurd n
      stays (Trapped kind) s left n m a = ap (λ s. go_on M s left f args) a.1 ∙ sym (ap (λ s. ran_to false s left) a.1)
      stays NoReply s left n m a = ap (λ s. go_on M s left f args) a.2 ∙ sym (ap (λ s. ran_to false s left) a.2)
      stays (DeviceFault name) s left n m a = ap (λ s. go_on M s left f args) a.2 ∙ sym (ap (λ s. ran_to false s left) a.2)
      stays (BadReply reply) s left n m a = ap (λ s. go_on M s left f args) a.2 ∙ sym (ap (λ s. ran_to false s left) a.2)
      stays FuelSpent s left n m a = ap (λ s. go_on M s left f args) a.1 ∙ sym (ap (λ s. ran_to false s left) a.1)
      stays NoMemory s left n m a = absurd (m refl)

      -- no step of the entry is made
      pub record Waits (w : World) (co : List CollectorCall) : Type 0 where
        pub there : Config
        pub world : there.world ≡ w
        pub collected : there.collected ≡ co
        pub is : run_function M 0 f (function_at M.program f) args w co ≡ ended (next there) 0

      waits : (fn : Function) → function_at M.program f ≡ Some fn → (w : World) (co : List CollectorCall) → Waits w co
      waits (imported i type) at w co = record { there = config [] w co; world = refl; collected = refl; is = ap (λ o. run_function M 0 f o args w co) at }
      waits (defined body tree type) at w co = record { there = config (entered f body tree type args ∷ []) w co; world = refl; collected = refl; is = ap (λ o. run_function M 0 f o args w co) at }

      lacking : (fn : Function) → function_at M.program f ≡ Some fn → (steps : ℕ) (m : Machine) (asked : Asked) (more : List Reply) (s : Stepped) → steps ≤ fuel → go (replies_of asked.given ++ more) steps ≡ go_on M s (steps - steps) f args →
          served_in s ≡ reverse asked.given → told_in s ≡ reverse asked.told → left_in s ≡ more → RunFits p.module_ s → InvocationCame p codes used_up go fuel asked NoMemory steps false false m more
      lacking fn at steps m asked more (ends w vs co) le e given told rest fits =
          let x = waits fn at w co in
          let z : steps - steps ≡ 0 = omega arith in
          ran_came true false go fuel asked NoMemory steps m more (next x.there) 0 le
          (e ∙ ap (λ n. run_entry M n f args w co) z ∙ ap (λ (e : Ended). ran_to true e.what e.left) x.is) (sym z) tt (λ c q. tt)
          (ap (λ (w : World). w.served) x.world ∙ given) (x.collected ∙ told) (ap (λ (w : World). w.replies) x.world ∙ rest) tt tt
      lacking fn at steps m asked more (next c) le e given told rest fits = ran_came false false go fuel asked NoMemory steps m more (next c) (steps - steps) le e refl tt (λ c q. tt) given told rest fits tt
      lacking fn at steps m asked more (traps k c) le e given told rest fits = ran_came false false go fuel asked NoMemory steps m more (traps k c) (steps - steps) le e refl tt (λ c q. tt) given told rest fits tt
      lacking fn at steps m asked more (no_reply call c) le e given told rest fits = ran_came false false go fuel asked NoMemory steps m more (no_reply call c) (steps - steps) le e refl tt (λ c q. tt) given told rest fits tt
      lacking fn at steps m asked more (bad_reply call r c) le e given told rest fits = ran_came false false go fuel asked NoMemory steps m more (bad_reply call r c) (steps - steps) le e refl tt (λ c q. tt) given told rest fits tt
      lacking fn at steps m asked more stuck le e given told rest fits = absurd fits

      pub inside_start : (fn : Function) → function_at M.program f ≡ Some fn → (answer : RunEnd) → ((v : Option Value) → answer ≡ Finished v → ⊥) → (steps : ℕ) (m : Machine) (old new : Calls) →
          FunctionCameWith p codes used_up go_first w0 [] fuel answer steps m old new → InvocationCameWith p codes used_up go fuel answer steps (follows_behind answer false) false m old new
      inside_start fn at answer no_end steps m old new h = record { asked = h.asked; grew = h.grew; came = λ more ad. by_answer answer (none answer no_end) more (h.came more ad) }
        where
          none : (answer : RunEnd) → ((v : Option Value) → answer ≡ Finished v → ⊥) → NoEnd answer
          none (Finished v) n = n v refl
          none (Trapped kind) n = tt
          none NoReply n = tt
          none (DeviceFault name) n = tt
          none (BadReply reply) n = tt
          none FuelSpent n = tt
          none NoMemory n = tt

          by_stay : (answer : RunEnd) → NoEnd answer → (answer ≡ NoMemory → ⊥) → (more : List Reply) → FunctionCame p codes used_up go_first w0 [] fuel h.asked answer steps m more → InvocationCame p codes used_up go fuel h.asked answer steps (follows_behind answer false) false m more
          by_stay answer n ok more c =
              ran_came false false go fuel h.asked answer steps m more c.what (given_steps answer fuel steps - steps) c.within
              (from_first (replies_of h.asked.given ++ more) (given_steps answer fuel steps) c.what (given_steps answer fuel steps - steps) c.gives ∙ stays answer c.what (given_steps answer fuel steps - steps) n ok c.answers) refl c.answers c.keeps
              (c.served.served ∙ append-nil (reverse h.asked.given)) (c.served.collected ∙ append-nil (reverse h.asked.told)) c.served.left c.fits
              (begun_is answer false c.what (given_steps answer fuel steps - steps))

          by_answer : (answer : RunEnd) → NoEnd answer → (more : List Reply) → FunctionCame p codes used_up go_first w0 [] fuel h.asked answer steps m more → InvocationCame p codes used_up go fuel h.asked answer steps (follows_behind answer false) false m more
          by_answer (Finished v) n more c = absurd n
          by_answer (Trapped kind) n more c = by_stay (Trapped kind) n (λ e. cc) more c
          by_answer NoReply n more c = by_stay NoReply n (λ e. cc) more c
          by_answer (DeviceFault name) n more c = by_stay (DeviceFault name) n (λ e. cc) more c
          by_answer (BadReply reply) n more c = by_stay (BadReply reply) n (λ e. cc) more c
          by_answer FuelSpent n more c = by_stay FuelSpent n (λ e. cc) more c
          by_answer NoMemory n more c =
              lacking fn at steps m h.asked more c.what c.within (from_first (replies_of h.asked.given ++ more) steps c.what (steps - steps) c.gives)
              (c.served.served ∙ append-nil (reverse h.asked.given)) (c.served.collected ∙ append-nil (reverse h.asked.told)) c.served.left c.fits

      -- ---- the entry behind the start function

      module _ (mid : Machine) (made : ℕ) (first_asked : Asked) where
        -- the world behind the start function
        abbrev pub w1 : World
        w1 = record { globals = mid.shared.globals; memory = option_map (λ k. k.memory) mid.shared.memory; table = mid.table; replies = []; served = reverse first_asked.given ++ [] }

        abbrev pub co1 : List CollectorCall
        co1 = reverse first_asked.told ++ []

        -- with as many steps as are given in all
        long_enough : (answer : RunEnd) (steps : ℕ) (replies : List Reply) (w : World) (vs : List Value) (co : List CollectorCall) → made ≤ fuel → steps ≤ fuel - made → go_first replies fuel ≡ ended (ends w vs co) (fuel - made) →
            go_first replies (given_steps answer fuel (made + steps)) ≡ ended (ends w vs co) (given_steps answer (fuel - made) steps)
        long_enough (Finished v) steps replies w vs co le le' e = e
        long_enough (Trapped kind) steps replies w vs co le le' e = e
        long_enough NoReply steps replies w vs co le le' e = e
        long_enough (DeviceFault name) steps replies w vs co le le' e = e
        long_enough (BadReply reply) steps replies w vs co le le' e = e
        long_enough FuelSpent steps replies w vs co le le' e = e
        long_enough NoMemory steps replies w vs co le le' e =
            let r = function_ends M fuel start (function_at M.program start) [] (replying w0 replies) [] w vs co (fuel - made) e in
            let q : made + steps ≡ suc r.made + steps = omega (arith, r.all, le) in
            ap (go_first replies) q ∙ r.always steps

        left_over : (answer : RunEnd) (steps : ℕ) → made ≤ fuel → steps ≤ fuel - made → given_steps answer (fuel - made) steps - steps ≡ given_steps answer fuel (made + steps) - (made + steps)
        left_over (Finished v) steps le le' = omega (arith, le, le')
        left_over (Trapped kind) steps le le' = omega (arith, le, le')
        left_over NoReply steps le le' = omega (arith, le, le')
        left_over (DeviceFault name) steps le le' = omega (arith, le, le')
        left_over (BadReply reply) steps le le' = omega (arith, le, le')
        left_over FuelSpent steps le le' = omega (arith, le, le')
        left_over NoMemory steps le le' = omega arith

        module _ (first_up : Import → Bool) (v : Option Value) (old middle new : Calls) (answer : RunEnd) (steps : ℕ) (m : Machine) where
          joined : (asked : Asked) → Grew first_asked old middle → Grew asked middle new → Grew (record { given = first_asked.given ++ asked.given; told = first_asked.told ++ asked.told }) old new
          joined asked a b = record {
            served = b.served ∙ ap (λ l. l ++ asked.given) a.served ∙ append_assoc old.served first_asked.given asked.given;
            collected = b.collected ∙ ap (λ l. l ++ asked.told) a.collected ∙ append_assoc old.collected first_asked.told asked.told;
          }

          replies_joined : (given : List ServedCall) (more : List Reply) → replies_of (first_asked.given ++ given) ++ more ≡ replies_of first_asked.given ++ (replies_of given ++ more)
          replies_joined given more = ap (λ l. l ++ more) (map-append (λ (s : ServedCall). s.reply) first_asked.given given) ∙ append_assoc (replies_of first_asked.given) (replies_of given) more

          both : (asked : Asked) (more : List Reply) → FunctionCame p codes first_up go_first w0 [] fuel first_asked (Finished v) made mid (replies_of asked.given ++ more) →
              FunctionCame p codes used_up (function_going M f args w1 co1) w1 co1 (fuel - made) asked answer steps m more →
              InvocationCame p codes used_up go fuel (record { given = first_asked.given ++ asked.given; told = first_asked.told ++ asked.told }) answer (made + steps) (follows_behind answer true) true m more
          both asked more a b =
              let e = a.answers in
              let k = a.keeps (config [] e.0 e.2) (ap last_in e.3) in
              let world_is : e.0 ≡ replying w1 (replies_of asked.given ++ more) =
              one_world mid e.0 (replying w1 (replies_of asked.given ++ more)) k.shares (record { holds = record { globals = refl; memory = refl }; table = refl })
              (sym (ap left_in e.3) ∙ a.served.left) (sym (ap served_in e.3) ∙ a.served.served) in
              let told_is : e.2 ≡ co1 = sym (ap told_in e.3) ∙ a.served.collected in
              let n = given_steps answer (fuel - made) steps in
              let ended_there : go_first (replies_of first_asked.given ++ (replies_of asked.given ++ more)) (given_steps answer fuel (made + steps)) ≡ ended (ends e.0 e.1 e.2) (given_steps answer (fuel - made) steps) =
              long_enough answer steps (replies_of first_asked.given ++ (replies_of asked.given ++ more)) e.0 e.1 e.2 a.within b.within (a.gives ∙ ap (λ s. ended s (fuel - made)) e.3) in
              ran_came true true go fuel (record { given = first_asked.given ++ asked.given; told = first_asked.told ++ asked.told }) answer (made + steps) m more b.what (given_steps answer (fuel - made) steps - steps) (omega (arith, a.within, b.within))
              (ap (λ l. go l (given_steps answer fuel (made + steps))) (replies_joined asked.given more)
              ∙ from_first (replies_of first_asked.given ++ (replies_of asked.given ++ more)) (given_steps answer fuel (made + steps)) (ends e.0 e.1 e.2) (given_steps answer (fuel - made) steps) ended_there
              ∙ ap₂ (λ u uo. run_entry M (given_steps answer (fuel - made) steps) f args u uo) world_is told_is
              ∙ ap (λ (e : Ended). ran_to true e.what e.left) b.gives)
              (left_over answer steps a.within b.within) b.answers b.keeps
              (b.served.served ∙ ap (λ l. reverse asked.given ++ l) (append-nil (reverse first_asked.given)) ∙ sym (reverse-append first_asked.given asked.given))
              (b.served.collected ∙ ap (λ l. reverse asked.told ++ l) (append-nil (reverse first_asked.told)) ∙ sym (reverse-append first_asked.told asked.told))
              b.served.left b.fits (begun_is answer true b.what (given_steps answer (fuel - made) steps - steps))

          pub behind_start : (a : (more : List Reply) → FunctionCame p codes first_up go_first w0 [] fuel first_asked (Finished v) made mid more) → Grew first_asked old middle →
              FunctionCameWith p codes used_up (function_going M f args w1 co1) w1 co1 (fuel - made) answer steps m middle new → InvocationCameWith p codes used_up go fuel answer (made + steps) (follows_behind answer true) true m old new
          behind_start a g b = record {
            asked = record { given = first_asked.given ++ b.asked.given; told = first_asked.told ++ b.asked.told };
            grew = joined b.asked g b.grew;
            came = λ more ad. both b.asked more (a (replies_of b.asked.given ++ more)) (b.came more ad);
          }

-- ---- answers

pub has_finished : (answer : RunEnd) → finishes answer ≡ true → (v : Option Value) × (answer ≡ Finished v)
has_finished (Finished v) e = (v, refl)
has_finished (Trapped kind) e = absurd (cc)
has_finished NoReply e = absurd (cc)
has_finished (BadReply reply) e = absurd (cc)
has_finished (DeviceFault name) e = absurd (cc)
has_finished FuelSpent e = absurd (cc)
has_finished NoMemory e = absurd (cc)

pub not_finished : (answer : RunEnd) → finishes answer ≡ false → (v : Option Value) → answer ≡ Finished v → ⊥
not_finished answer e v q = let z : false ≡ true = sym e ∙ ap finishes q in cc
