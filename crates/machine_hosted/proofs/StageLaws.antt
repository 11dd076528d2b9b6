-- A run as a family over the replies that are left: how far it has come, whatever these are.
use Rattle.std.proofs.Common.{◌≡◌, ◌≢◌, ℕ, suc, ◌+◌, ◌-◌, ◌≤◌, ◌<◌, List, [], ◌∷◌, ◌++◌, reverse, refl, sym, ap, subst, ◌∙◌, append_assoc, arith}
use Rattle.std.proofs.lemmas.List.{append-nil, reverse-append}
use Rattle.std.specs.Prelude.{Bool, slice_get}
use Rattle.wasm_syntax.specs.declared.value.Value.{Value}
use Rattle.wasm_syntax.specs.declared.parts.Import.{Import}
use Rattle.wasm_syntax.specs.declared.parts.FuncType.{FuncType}
use Rattle.wasm_syntax.specs.declared.module.ModuleParts.{ModuleParts as Module}
use Rattle.wasm_syntax.specs.declared.host.Reply.{Reply}
use Rattle.wasm_syntax.specs.declared.host.CollectorCall.{CollectorCall}
use Rattle.wasm_syntax.specs.Host.{World}
use Rattle.wasm_syntax.specs.Machine.{Engine, Frame, Config, config, Stepped, next, ends, traps, no_reply, bad_reply, stuck, step, first}
use Rattle.wasm_syntax.specs.Run.{run_steps, run_on, ended}
use Rattle.machine_basics.specs.calls.Traps.{trap_code}
use Rattle.machine_basics.specs.declared.answer.TrapKind.{TrapKind}
use Rattle.machine_code.specs.declared.code.Code.{Code}
use Rattle.machine_steps.specs.declared.machine.Machine.{Machine}
use Rattle.machine_code.specs.declared.prepared.Prepared.{Prepared}
use Rattle.machine_steps.specs.declared.machine.ImportCall.{ImportCall}
use Rattle.machine_steps.specs.declared.machine.Outcome.{Outcome}
use Rattle.machine_steps.specs.declared.machine.Outcome.TheVariants as outcomes
use Rattle.machine_steps.specs.calls.Meets.{StandsFor, CallsImport}
use Rattle.machine_steps.specs.calls.Runs as runs
use Rattle.machine_steps.specs.calls.Runs.{Begins, Leads, Stops}
use Rattle.machine_hosted.proofs.SafeLaws.{reached}
use Rattle.host_devices.specs.calls.HostSides.{Calls}
use Rattle.machine_hosted.specs.declared.answer.RunEnd.{RunEnd}
use Rattle.machine_hosted.specs.declared.answer.RunEnd.TheVariants as answers
use Rattle.machine_hosted.specs.declared.turn.Turn.TheVariants.{Goes, Ends}
use Rattle.machine_hosted.specs.calls.Hosted.{replying, Asked, Grew, Served}
use Rattle.machine_hosted.specs.calls.Answers.{given_steps}
use Rattle.machine_hosted.specs.inner.FrameRuns.{Tells, Came, CameWith}
use Rattle.host_devices.specs.Given.{replies_of}
use Rattle.machine_hosted.specs.inner.Turns.{Setting, Ready, Calling, going, nothing, Turned, TurnedWith}
use Rattle.machine_hosted.specs.inner.Turns as turns
use Rattle.machine_hosted.proofs.CourseLaws.{replies_on}

-- ---- what was asked, one after the other

abbrev pub joined : Asked → Asked → Asked
joined a b = record { given = a.given ++ b.given; told = a.told ++ b.told }

pub grew_on : (a b : Asked) (old mid new : Calls) → Grew a old mid → Grew b mid new → Grew (joined a b) old new
grew_on a b old mid new g h = record {
  served = h.served ∙ ap (λ l. l ++ b.given) g.served ∙ append_assoc old.served a.given b.given;
  collected = h.collected ∙ ap (λ l. l ++ b.told) g.collected ∙ append_assoc old.collected a.told b.told;
}

turned_round : {A : Type 0} → (xs ys rest : List A) → reverse ys ++ (reverse xs ++ rest) ≡ reverse (xs ++ ys) ++ rest
turned_round xs ys rest = sym (append_assoc (reverse ys) (reverse xs) rest) ∙ ap (λ l. l ++ rest) (sym (reverse-append xs ys))

-- ---- steps

abbrev ends_here : Stepped → Type 0
ends_here (next c) = ⊥
ends_here (ends w vs co) = Unit {0}
ends_here (traps k c) = Unit {0}
ends_here (no_reply call c) = Unit {0}
ends_here (bad_reply call r c) = Unit {0}
ends_here stuck = Unit {0}

module _ (M : Engine) (codes : List Code) where
  -- one step that ends the run
  stops_in_one : (c : Config) (s : Stepped) → step M c ≡ s → ends_here s → Stops M codes c 1 s
  stops_in_one c s e h k = let n : 1 + k ≡ suc k = omega arith in ap (λ j. run_steps M j c) n ∙ ap (run_on M (run_steps M k) k) e ∙ by_cases s h k
    where
      by_cases : (s : Stepped) → ends_here s → (k : ℕ) → run_on M (run_steps M k) k s ≡ ended s k
      by_cases (next c) h k = absurd h
      by_cases (ends w vs co) h k = refl
      by_cases (traps n c) h k = refl
      by_cases (no_reply call c) h k = refl
      by_cases (bad_reply call r c) h k = refl
      by_cases stuck h k = refl

  leads_in_one : (c c' : Config) → step M c ≡ next c' → Leads M codes c 1 c'
  leads_in_one c c' e k = let n : 1 + k ≡ suc k = omega arith in ap (λ j. run_steps M j c) n ∙ ap (run_on M (run_steps M k) k) e

  pub leads_on : (c c' c'' : Config) (n k : ℕ) → Leads M codes c n c' → Leads M codes c' k c'' → Leads M codes c (n + k) c''
  leads_on c c' c'' n k a b j = let e : n + k + j ≡ n + (k + j) = omega arith in ap (λ i. run_steps M i c) e ∙ a (k + j) ∙ b j

  stops_on : (c c' : Config) (s : Stepped) (n k : ℕ) → Leads M codes c n c' → Stops M codes c' k s → Stops M codes c (n + k) s
  stops_on c c' s n k a b j = let e : n + k + j ≡ n + (k + j) = omega arith in ap (λ i. run_steps M i c) e ∙ a (k + j) ∙ b j

  -- with enough steps
  at_stop : (c : Config) (s : Stepped) (n given : ℕ) → n ≤ given → Stops M codes c n s → run_steps M given c ≡ ended s (given - n)
  at_stop c s n given le stops = let e : given ≡ n + (given - n) = omega arith in ap (λ j. run_steps M j c) e ∙ stops (given - n)

  at_lead : (c c' : Config) (n : ℕ) → Leads M codes c n c' → run_steps M n c ≡ ended (next c') (n - n)
  at_lead c c' n leads =
      let e : n ≡ n + 0 = omega arith in
      let z : 0 ≡ n - n = omega arith in
      ap (λ j. run_steps M j c) e ∙ leads 0 ∙ ap (ended (next c')) z

pub enough : (answer : RunEnd) (fuel n : ℕ) → n ≤ fuel → n ≤ given_steps answer fuel n
enough answers.NoMemory fuel n le = omega arith
enough answers.FuelSpent fuel n le = le
enough (answers.Finished value) fuel n le = le
enough (answers.Trapped kind) fuel n le = le
enough answers.NoReply fuel n le = le
enough (answers.DeviceFault name) fuel n le = le
enough (answers.BadReply reply) fuel n le = le

first_is : (vs : List Value) → slice_get vs 0 ≡ first vs
first_is [] = refl
first_is (v ∷ vs) = refl

-- ---- how far a run has come

module _ (M : Engine) (codes : List Code) (fs : List Frame) (w : World) (co : List CollectorCall) where
  -- where it begins
  abbrev pub begun : List Reply → Config
  begun replies = config fs (replying w replies) co

  -- after so many steps, with these calls, the machine stands there, and these replies are left
  pub record Reaches (asked : Asked) (n : ℕ) (m : Machine) (more : List Reply) : Type 0 where
    pub there : Config
    pub leads : Leads M codes (config fs (replying w (replies_of asked.given ++ more)) co) n there
    pub stands : StandsFor M.program codes m there
    pub replies : there.world.replies ≡ more
    pub served : there.world.served ≡ reverse asked.given ++ w.served
    pub collected : there.collected ≡ reverse asked.told ++ co

  -- whatever they are
  pub record SoFar (n : ℕ) (m : Machine) (old new : Calls) : Type 0 where
    pub asked : Asked
    pub grew : Grew asked old new
    pub reaches : (more : List Reply) → Reaches asked n m more

  abbrev pub Comes : (used_up : Import → Bool) (fuel : ℕ) → Asked → RunEnd → ℕ → Machine → List Reply → Type 0
  Comes used_up fuel asked answer steps m more = Came M.program codes used_up (going M fs w co) w co fuel asked answer steps m more

  abbrev pub ComesWith : (used_up : Import → Bool) (fuel : ℕ) → RunEnd → ℕ → Machine → Calls → Calls → Type 0
  ComesWith used_up fuel answer steps m old new = CameWith M.program codes used_up (going M fs w co) w co fuel answer steps m old new

  abbrev pub at_first : (m : Machine) (calls : Calls) → ((replies : List Reply) → StandsFor M.program codes m (config fs (replying w replies) co)) → SoFar 0 m calls calls
  at_first m calls stands = record {
    asked = nothing;
    grew = record { served = sym (append-nil calls.served); collected = sym (append-nil calls.collected) };
    reaches = λ more. record {
      there = config fs (replying w more) co;
      leads = λ k. let e : 0 + k ≡ k = omega arith in ap (λ j. run_steps M j (config fs (replying w more) co)) e;
      stands = stands more;
      replies = refl;
      served = refl;
      collected = refl;
    };
  }

  -- ---- ends between steps

  -- memory ran out
  pub lacking : (used_up : Import → Bool) (fuel n : ℕ) (m m' : Machine) (old new : Calls) → n ≤ fuel → SoFar n m old new → ComesWith used_up fuel answers.NoMemory n m' old new
  lacking used_up fuel n m m' old new le s = record {
    asked = s.asked;
    grew = s.grew;
    came = λ more admits. let r = s.reaches more in record {
      what = next r.there;
      within = le;
      gives = at_lead M codes (config fs (replying w (replies_of s.asked.given ++ more)) co) r.there n r.leads;
      tells = tt;
      served = record { served = r.served; collected = r.collected; left = r.replies };
    };
  }

  pub spent : (used_up : Import → Bool) (fuel n : ℕ) (m : Machine) (old new : Calls) → n ≡ fuel → SoFar n m old new → ComesWith used_up fuel answers.FuelSpent fuel m old new
  spent used_up fuel n m old new e s = record {
    asked = s.asked;
    grew = s.grew;
    came = λ more admits. let r = s.reaches more in record {
      what = next r.there;
      within = omega arith;
      gives = at_lead M codes (config fs (replying w (replies_of s.asked.given ++ more)) co) r.there fuel (subst (λ j. Leads M codes (config fs (replying w (replies_of s.asked.given ++ more)) co) j r.there) e r.leads);
      tells = r.stands;
      served = record { served = r.served; collected = r.collected; left = r.replies };
    };
  }

  -- ---- on by a run of the machine

  -- the next step calls an import, whatever replies are left
  pub record CallsThere (call : ImportCall) (n : ℕ) (m : Machine) (old new : Calls) : Type 0 where
    pub so_far : SoFar n m old new
    pub calls : (more : List Reply) → CallsImport M codes (so_far.reaches more).there call (step M (so_far.reaches more).there) m

  module _ (n : ℕ) (m : Machine) (old mid : Calls) (s : SoFar n m old mid) where
    -- where it is
    abbrev pub here : List Reply → Config
    here more = (s.reaches more).there

    abbrev from : List Reply → Config
    from more = config fs (replying w (replies_of s.asked.given ++ more)) co

    pub run_goes : (k : ℕ) (m' : Machine) → ((more : List Reply) → runs.Reached M codes (s.reaches more).there k m') → SoFar (n + k) m' old mid
    run_goes k m' t = record {
      asked = s.asked;
      grew = s.grew;
      reaches = λ more. let r = s.reaches more in let q = t more in record {
        there = q.there;
        leads = leads_on M codes (config fs (replying w (replies_of s.asked.given ++ more)) co) r.there q.there n k r.leads q.leads;
        stands = q.then_is.stands;
        replies = q.then_is.host.replies ∙ r.replies;
        served = q.then_is.host.served ∙ r.served;
        collected = q.then_is.host.collected ∙ r.collected;
      };
    }

    pub run_spends : (used_up : Import → Bool) (fuel k : ℕ) (m' : Machine) → n ≤ fuel → ((more : List Reply) → runs.Came M codes (s.reaches more).there (fuel - n) outcomes.Next k m') → ComesWith used_up fuel answers.FuelSpent fuel m' old mid
    run_spends used_up fuel k m' le t =
        let l : k ≡ fuel - n = (t []).0 in
        let e : n + k ≡ fuel = omega (arith, l, le) in
        spent used_up fuel (n + k) m' old mid e (run_goes k m' (λ more. (t more).1))

    pub run_ends : (used_up : Import → Bool) (fuel k : ℕ) (m' : Machine) → n ≤ fuel → ((more : List Reply) → runs.Came M codes (s.reaches more).there (fuel - n) outcomes.Ended k m') → ComesWith used_up fuel (answers.Finished (slice_get m'.stack.values 0)) (n + k) m' old mid
    run_ends used_up fuel k m' le t = record {
      asked = s.asked;
      grew = s.grew;
      came = λ more admits. let r = s.reaches more in let l : k ≤ fuel - n = (t more).0 in let q = (t more).1 in let within : n + k ≤ fuel = omega (arith, l, le) in record {
        what = ends q.world q.results q.collected;
        within = within;
        gives = at_stop M codes (config fs (replying w (replies_of s.asked.given ++ more)) co) (ends q.world q.results q.collected) (n + k) fuel within
            (stops_on M codes (config fs (replying w (replies_of s.asked.given ++ more)) co) r.there (ends q.world q.results q.collected) n k r.leads q.stops);
        tells = record { value_is = ap (λ (l : List Value). slice_get l 0) q.left.values ∙ first_is q.results; frames = q.left.frames; shares = q.left.shares };
        served = record { served = q.left.host.served ∙ r.served; collected = q.left.host.collected ∙ r.collected; left = q.left.host.replies ∙ r.replies };
      };
    }

    pub run_traps : (used_up : Import → Bool) (kind : TrapKind) (fuel k : ℕ) (m' : Machine) → n ≤ fuel → ((more : List Reply) → runs.Came M codes (s.reaches more).there (fuel - n) (outcomes.Trap kind) k m') → ComesWith used_up fuel (answers.Trapped kind) (n + k) m' old mid
    run_traps used_up kind fuel k m' le t = record {
      asked = s.asked;
      grew = s.grew;
      came = λ more admits. let r = s.reaches more in let l : k ≤ fuel - n = (t more).0 in let q = (t more).1 in let within : n + k ≤ fuel = omega (arith, l, le) in record {
        what = traps (trap_code kind) q.there;
        within = within;
        gives = at_stop M codes (config fs (replying w (replies_of s.asked.given ++ more)) co) (traps (trap_code kind) q.there) (n + k) fuel within
            (stops_on M codes (config fs (replying w (replies_of s.asked.given ++ more)) co) r.there (traps (trap_code kind) q.there) n k r.leads q.stops);
        tells = (refl, q.then_is.stands);
        served = record { served = q.then_is.host.served ∙ r.served; collected = q.then_is.host.collected ∙ r.collected; left = q.then_is.host.replies ∙ r.replies };
      };
    }

    -- the run comes to a call of an import
    abbrev pub run_calls : (call : ImportCall) (fuel k : ℕ) (m' : Machine) → ((more : List Reply) → runs.Came M codes (s.reaches more).there fuel (outcomes.Import call) k m') → CallsThere call (n + k) m' old mid
    run_calls call fuel k m' t = record {
      so_far = record {
        asked = s.asked;
        grew = s.grew;
        reaches = λ more. let r = s.reaches more in let q = (t more).1 in record {
          there = q.there;
          leads = leads_on M codes (config fs (replying w (replies_of s.asked.given ++ more)) co) r.there q.there n k r.leads q.leads;
          stands = q.calls.stands;
          replies = q.host.replies ∙ r.replies;
          served = q.host.served ∙ r.served;
          collected = q.host.collected ∙ r.collected;
        };
      };
      calls = λ more. (t more).1.calls;
    }

    -- ---- on by a turn

    pub turn_reaches : (used_up : Import → Bool) (m' : Machine) (asked : Asked) (more : List Reply) → Turned M codes used_up asked Goes (s.reaches (replies_of asked.given ++ more)).there m' more → Reaches (joined s.asked asked) (n + 1) m' more
    turn_reaches used_up m' asked more t = by_cases t.what t.is t.tells t.served
      where
        by_cases : (what : Stepped) → step M (s.reaches (replies_of asked.given ++ more)).there ≡ what → Tells M.program codes used_up answers.FuelSpent what m' →
            Served asked (s.reaches (replies_of asked.given ++ more)).there.world (s.reaches (replies_of asked.given ++ more)).there.collected more what → Reaches (joined s.asked asked) (n + 1) m' more
        by_cases (next c) e tells served = let r = s.reaches (replies_of asked.given ++ more) in record {
          there = c;
          leads = subst (λ l. Leads M codes (config fs (replying w l) co) (n + 1) c) (sym (replies_on s.asked.given asked.given more))
              (leads_on M codes (config fs (replying w (replies_of s.asked.given ++ (replies_of asked.given ++ more))) co) r.there c n 1 r.leads (leads_in_one M codes r.there c e));
          stands = tells;
          replies = served.left;
          served = served.served ∙ ap (λ l. reverse asked.given ++ l) r.served ∙ turned_round s.asked.given asked.given w.served;
          collected = served.collected ∙ ap (λ l. reverse asked.told ++ l) r.collected ∙ turned_round s.asked.told asked.told co;
        }
        by_cases (ends v vs do_) e tells served = absurd tells
        by_cases (traps j c) e tells served = absurd tells
        by_cases (no_reply call c) e tells served = absurd tells
        by_cases (bad_reply call reply c) e tells served = absurd tells
        by_cases stuck e tells served = absurd tells

    abbrev pub turn_goes : (used_up : Import → Bool) (m' : Machine) (new : Calls) → TurnedWith M codes used_up Goes (λ more. (s.reaches more).there) m' mid new → SoFar (n + 1) m' old new
    turn_goes used_up m' new t = record {
      asked = joined s.asked t.asked;
      grew = grew_on s.asked t.asked old mid new s.grew t.grew;
      reaches = λ more. turn_reaches used_up m' t.asked more (t.turned more tt);
    }

    turn_comes : (used_up : Import → Bool) (answer : RunEnd) (fuel : ℕ) (m' : Machine) (asked : Asked) (more : List Reply) → n < fuel → Turned M codes used_up asked (Ends answer) (s.reaches (replies_of asked.given ++ more)).there m' more → Comes used_up fuel (joined s.asked asked) answer (n + 1) m' more
    turn_comes used_up answer fuel m' asked more lt t = by_cases answer t.what t.is t.stops t.tells t.served
      where
        gives_next : (c : Config) → step M (s.reaches (replies_of asked.given ++ more)).there ≡ next c → run_steps M (n + 1) (config fs (replying w (replies_of (s.asked.given ++ asked.given) ++ more)) co) ≡ ended (next c) (n + 1 - (n + 1))
        gives_next c e = let r = s.reaches (replies_of asked.given ++ more) in
            subst (λ l. run_steps M (n + 1) (config fs (replying w l) co) ≡ ended (next c) (n + 1 - (n + 1))) (sym (replies_on s.asked.given asked.given more))
            (at_lead M codes (config fs (replying w (replies_of s.asked.given ++ (replies_of asked.given ++ more))) co) c (n + 1)
            (leads_on M codes (config fs (replying w (replies_of s.asked.given ++ (replies_of asked.given ++ more))) co) r.there c n 1 r.leads (leads_in_one M codes r.there c e)))

        gives_end : (what : Stepped) (given : ℕ) → ends_here what → n + 1 ≤ given → step M (s.reaches (replies_of asked.given ++ more)).there ≡ what → run_steps M given (config fs (replying w (replies_of (s.asked.given ++ asked.given) ++ more)) co) ≡ ended what (given - (n + 1))
        gives_end what given h le e = let r = s.reaches (replies_of asked.given ++ more) in
            subst (λ l. run_steps M given (config fs (replying w l) co) ≡ ended what (given - (n + 1))) (sym (replies_on s.asked.given asked.given more))
            (at_stop M codes (config fs (replying w (replies_of s.asked.given ++ (replies_of asked.given ++ more))) co) what (n + 1) given le
            (stops_on M codes (config fs (replying w (replies_of s.asked.given ++ (replies_of asked.given ++ more))) co) r.there what n 1 r.leads (stops_in_one M codes r.there what e h)))

        served_on : (what : Stepped) → Served asked (s.reaches (replies_of asked.given ++ more)).there.world (s.reaches (replies_of asked.given ++ more)).there.collected more what → Served (joined s.asked asked) w co more what
        served_on what served = let r = s.reaches (replies_of asked.given ++ more) in record {
          served = served.served ∙ ap (λ l. reverse asked.given ++ l) r.served ∙ turned_round s.asked.given asked.given w.served;
          collected = served.collected ∙ ap (λ l. reverse asked.told ++ l) r.collected ∙ turned_round s.asked.told asked.told co;
          left = served.left;
        }

        -- the step ends the run
        by_end : (answer : RunEnd) (what : Stepped) → ends_here what → step M (s.reaches (replies_of asked.given ++ more)).there ≡ what → Tells M.program codes used_up answer what m' →
            Served asked (s.reaches (replies_of asked.given ++ more)).there.world (s.reaches (replies_of asked.given ++ more)).there.collected more what → Comes used_up fuel (joined s.asked asked) answer (n + 1) m' more
        by_end answer what h e tells served =
            let le : n + 1 ≤ fuel = omega (arith, lt) in
            record { what = what; within = le; gives = gives_end what (given_steps answer fuel (n + 1)) h (enough answer fuel (n + 1) le) e; tells = tells; served = served_on what served }

        by_next : (answer : RunEnd) (c : Config) → step M (s.reaches (replies_of asked.given ++ more)).there ≡ next c → turns.Stops answer → Tells M.program codes used_up answer (next c) m' →
            Served asked (s.reaches (replies_of asked.given ++ more)).there.world (s.reaches (replies_of asked.given ++ more)).there.collected more (next c) → Comes used_up fuel (joined s.asked asked) answer (n + 1) m' more
        by_next answers.NoMemory c e stops tells served = let le : n + 1 ≤ fuel = omega (arith, lt) in record { what = next c; within = le; gives = gives_next c e; tells = tt; served = served_on (next c) served }
        by_next answers.FuelSpent c e stops tells served = absurd stops
        by_next (answers.Finished value) c e stops tells served = absurd tells
        by_next (answers.Trapped kind) c e stops tells served = absurd tells
        by_next answers.NoReply c e stops tells served = absurd tells
        by_next (answers.DeviceFault name) c e stops tells served = absurd tells
        by_next (answers.BadReply reply) c e stops tells served = absurd tells

        by_cases : (answer : RunEnd) (what : Stepped) → step M (s.reaches (replies_of asked.given ++ more)).there ≡ what → turns.Stops answer → Tells M.program codes used_up answer what m' →
            Served asked (s.reaches (replies_of asked.given ++ more)).there.world (s.reaches (replies_of asked.given ++ more)).there.collected more what → Comes used_up fuel (joined s.asked asked) answer (n + 1) m' more
        by_cases answer (next c) e stops tells served = by_next answer c e stops tells served
        by_cases answer (ends v vs do_) e stops tells served = by_end answer (ends v vs do_) tt e tells served
        by_cases answer (traps j c) e stops tells served = by_end answer (traps j c) tt e tells served
        by_cases answer (no_reply call c) e stops tells served = by_end answer (no_reply call c) tt e tells served
        by_cases answer (bad_reply call reply c) e stops tells served = by_end answer (bad_reply call reply c) tt e tells served
        by_cases answer stuck e stops tells served = by_end answer stuck tt e tells served

    pub turn_ends : (used_up : Import → Bool) (answer : RunEnd) (fuel : ℕ) (m' : Machine) (new : Calls) → n < fuel → TurnedWith M codes used_up (Ends answer) (λ more. (s.reaches more).there) m' mid new → ComesWith used_up fuel answer (n + 1) m' old new
    turn_ends used_up answer fuel m' new lt t = record {
      asked = joined s.asked t.asked;
      grew = grew_on s.asked t.asked old mid new s.grew t.grew;
      came = λ more admits. turn_comes used_up answer fuel m' t.asked more lt (t.turned more admits);
    }

-- ---- safety

pub begins_there : (M : Engine) (prepared : Prepared) (depth : ℕ) (fs : List Frame) (w : World) (co : List CollectorCall) (first : Machine) → ((replies : List Reply) → Begins M prepared depth (config fs (replying w replies) co) first) →
    (n : ℕ) (m : Machine) (asked : Asked) (more : List Reply) (r : Reaches M prepared.codes.items fs w co asked n m more) → Begins M prepared depth r.there m
begins_there M prepared depth fs w co first b n m asked more r =
    reached M prepared depth n (config fs (replying w (replies_of asked.given ++ more)) co) r.there first m (b (replies_of asked.given ++ more)) r.leads r.stands

pub not_stuck : (M : Engine) (prepared : Prepared) (depth : ℕ) (c : Config) (m : Machine) → Begins M prepared depth c m → step M c ≢ stuck
not_stuck M prepared depth c m b e = b.safe 1 (ap (λ s. (run_on M (run_steps M 0) 0 s).what) e)

-- ---- the host side

pub setting_on : (M : Engine) (source : Module) (collecting collecting' : Bool) (serving serving' : Import → FuncType → Bool) → Setting M source collecting serving → collecting' ≡ collecting → ((i : Import) (t : FuncType) → serving' i t ≡ serving i t) → Setting M source collecting' serving'
setting_on M source collecting collecting' serving serving' s c e = record {
  valid = s.valid;
  source_is = s.source_is;
  collects = s.collects ∙ sym c;
  serves = λ f i t a b. e i t ∙ s.serves f i t a b;
  few = s.few;
}

-- ---- the call of an import, as the code that serves it takes it

abbrev pub calling : (prepared : Prepared) (source : Module) (depth : ℕ) (first : Machine) (collecting collecting' : Bool) (serving serving' : Import → FuncType → Bool) (r : Ready prepared source depth first collecting serving) →
    collecting' ≡ collecting → ((i : Import) (t : FuncType) → serving' i t ≡ serving i t) →
    (call : ImportCall) (n : ℕ) (m : Machine) (old mid : Calls) → CallsThere r.engine prepared.codes.items r.frames r.world r.collected call n m old mid → Calling source call m collecting' serving'
calling prepared source depth first collecting collecting' serving serving' r same alike call n m old mid k = record {
  engine = r.engine;
  codes = prepared.codes.items;
  setting = setting_on r.engine source collecting collecting' serving serving' r.setting same alike;
  there = λ more. (k.so_far.reaches more).there;
  replies = λ more. (k.so_far.reaches more).replies;
  calls = k.calls;
  safe = λ more. not_stuck r.engine prepared depth (k.so_far.reaches more).there m
      (begins_there r.engine prepared depth r.frames r.world r.collected first r.begins n m k.so_far.asked more (k.so_far.reaches more));
}

-- what a run of the machine comes to from there
pub ran : (prepared : Prepared) (source : Module) (depth : ℕ) (first : Machine) (collecting : Bool) (serving : Import → FuncType → Bool) (r : Ready prepared source depth first collecting serving) (n : ℕ) (m : Machine) (old mid : Calls) (s : SoFar r.engine prepared.codes.items r.frames r.world r.collected n m old mid) →
    (fuel : ℕ) (o o' : Outcome) (k : ℕ) (m' : Machine) → ((M : Engine) (c : Config) → Begins M prepared depth c m → runs.Came M prepared.codes.items c fuel o k m') → o ≡ o' →
    (more : List Reply) → runs.Came r.engine prepared.codes.items (s.reaches more).there fuel o' k m'
ran prepared source depth first collecting serving r n m old mid s fuel o o' k m' t e more =
    subst (λ (x : Outcome). runs.Came r.engine prepared.codes.items (s.reaches more).there fuel x k m') e
    (t r.engine (s.reaches more).there (begins_there r.engine prepared depth r.frames r.world r.collected first r.begins n m s.asked more (s.reaches more)))
