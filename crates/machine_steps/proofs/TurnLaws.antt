-- The turns of a run.
use Rattle.std.proofs.Common.{◌≡◌, ℕ, suc, ◌+◌, ◌<◌, List, refl, sym, ap, subst, ◌∙◌, arith}
use Rattle.std.specs.Prelude.{◌≢◌}
use Rattle.wasm_syntax.specs.declared.host.CollectorCall.{CollectorCall}
use Rattle.wasm_syntax.specs.Host.{World}
use Rattle.wasm_syntax.specs.Machine as steps
use Rattle.wasm_syntax.specs.Machine.{Engine, Config, step}
use Rattle.wasm_syntax.specs.Run.{Ended as Result, run_steps, run_on, ended}
use Rattle.machine_code.specs.declared.code.Code.{Code}
use Rattle.machine_steps.specs.declared.machine.Machine.{Machine}
use Rattle.machine_steps.specs.declared.machine.ImportCall.{ImportCall}
use Rattle.machine_steps.specs.declared.machine.Outcome.{Outcome}
use Rattle.machine_steps.specs.declared.machine.Outcome.TheVariants.{Next, Ended, Trap, Import, NoMemory, Stuck}
use Rattle.machine_steps.specs.calls.Meets.{StandsFor, SameHost, Then, CallsImport, Meets}
use Rattle.machine_steps.specs.calls.Runs.{Reached, Came}

same_after : (w v u : World) (co do_ eo : List CollectorCall) → SameHost w co v do_ → SameHost v do_ u eo → SameHost w co u eo
same_after w v u co do_ eo a b = record { replies = b.replies ∙ a.replies; served = b.served ∙ a.served; collected = b.collected ∙ a.collected }

module _ (M : Engine) (codes : List Code) (c : Config) where
  pub reached_first : (m : Machine) → StandsFor M.program codes m c → Reached M codes c 0 m
  reached_first m st = record {
    there = c;
    leads = λ k. let e : 0 + k ≡ k = omega arith in ap (λ n. run_steps M n c) e;
    then_is = record { stands = st; host = record { replies = refl; served = refl; collected = refl } };
  }

  module _ (n : ℕ) (m m' : Machine) (r : Reached M codes c n m) (safe : (n : ℕ) → (run_steps M n c).what ≢ steps.stuck) where
    -- one step more
    turned : (k : ℕ) → run_steps M (suc n + k) c ≡ run_on M (run_steps M k) k (step M r.there)
    turned k = let e : suc n + k ≡ n + suc k = omega arith in ap (λ j. run_steps M j c) e ∙ r.leads (suc k)

    by_step : (k : ℕ) (s : steps.Stepped) → step M r.there ≡ s → run_steps M (suc n + k) c ≡ run_on M (run_steps M k) k s
    by_step k s e = turned k ∙ ap (run_on M (run_steps M k) k) e

    not_stuck : step M r.there ≡ steps.stuck → ⊥
    not_stuck e = safe (suc n + 0) (ap (λ (x : Result). x.what) (by_step 0 steps.stuck e))

    then_after : (c'' : Config) → Then M.program codes r.there.world r.there.collected m' c'' → Then M.program codes c.world c.collected m' c''
    then_after c'' t = record { stands = t.stands; host = same_after c.world r.there.world c''.world c.collected r.there.collected c''.collected r.then_is.host t.host }

    pub goes_on : Meets M codes r.there Next (step M r.there) m' → Reached M codes c (suc n) m'
    goes_on t = by_cases (step M r.there) refl t
      where
        by_cases : (s : steps.Stepped) → step M r.there ≡ s → Meets M codes r.there Next s m' → Reached M codes c (suc n) m'
        by_cases (steps.next c'') e t = record { there = c''; leads = λ k. by_step k (steps.next c'') e; then_is = then_after c'' t }
        by_cases (steps.ends w vs co) e t = absurd t
        by_cases (steps.traps kind c'') e t = absurd t
        by_cases (steps.no_reply call c'') e t = absurd t
        by_cases (steps.bad_reply call reply c'') e t = absurd t
        by_cases steps.stuck e t = absurd (not_stuck e)

    pub calls : (fuel : ℕ) → n < fuel → (call : ImportCall) → Meets M codes r.there (Import call) (step M r.there) m' → Came M codes c fuel (Import call) n m'
    calls fuel lt call t = (lt, record { there = r.there; leads = r.leads; host = r.then_is.host; calls = by_cases (step M r.there) refl t })
      where
        by_cases : (s : steps.Stepped) → step M r.there ≡ s → Meets M codes r.there (Import call) s m' → CallsImport M codes r.there call (step M r.there) m'
        by_cases (steps.next c'') e t = subst (λ s. CallsImport M codes r.there call s m') (sym e) t
        by_cases (steps.ends w vs co) e t = absurd t
        by_cases (steps.traps kind c'') e t = absurd t
        by_cases (steps.no_reply call' c'') e t = subst (λ s. CallsImport M codes r.there call s m') (sym e) t
        by_cases (steps.bad_reply call' reply c'') e t = subst (λ s. CallsImport M codes r.there call s m') (sym e) t
        by_cases steps.stuck e t = absurd (not_stuck e)

    pub stops_with : (fuel : ℕ) → n < fuel → (o : Outcome) → (o ≡ Next → ⊥) → ((call : ImportCall) → o ≡ Import call → ⊥) → Meets M codes r.there o (step M r.there) m' → Came M codes c fuel o (suc n) m'
    stops_with fuel lt o no_next no_call t = by_cases o (step M r.there) refl no_next no_call t
      where
        by_cases : (o : Outcome) (s : steps.Stepped) → step M r.there ≡ s → (o ≡ Next → ⊥) → ((call : ImportCall) → o ≡ Import call → ⊥) → Meets M codes r.there o s m' → Came M codes c fuel o (suc n) m'
        by_cases Next s e nn nc t = absurd (nn refl)
        by_cases (Import call) s e nn nc t = absurd (nc call refl)
        by_cases NoMemory s e nn nc t = omega arith
        by_cases Ended (steps.ends w vs co) e nn nc t = (
          omega arith,
          record {
            world = w;
            results = vs;
            collected = co;
            stops = λ k. by_step k (steps.ends w vs co) e;
            left = record { values = t.values; controls = t.controls; frames = t.frames; shares = t.shares; host = same_after c.world r.there.world w c.collected r.there.collected co r.then_is.host t.host };
          },
        )
        by_cases Ended (steps.next c'') e nn nc t = absurd t
        by_cases Ended (steps.traps kind c'') e nn nc t = absurd t
        by_cases Ended (steps.no_reply call' c'') e nn nc t = absurd t
        by_cases Ended (steps.bad_reply call' reply c'') e nn nc t = absurd t
        by_cases Ended steps.stuck e nn nc t = absurd (not_stuck e)
        by_cases (Trap kind) (steps.traps k' c'') e nn nc t = (
          omega arith,
          record {
            there = c'';
            stops = λ k. by_step k (steps.traps k' c'') e ∙ ap (λ j. ended (steps.traps j c'') k) (sym t.0);
            then_is = then_after c'' t.1;
          },
        )
        by_cases (Trap kind) (steps.next c'') e nn nc t = absurd t
        by_cases (Trap kind) (steps.ends w vs co) e nn nc t = absurd t
        by_cases (Trap kind) (steps.no_reply call' c'') e nn nc t = absurd t
        by_cases (Trap kind) (steps.bad_reply call' reply c'') e nn nc t = absurd t
        by_cases (Trap kind) steps.stuck e nn nc t = absurd (not_stuck e)
        by_cases Stuck (steps.next c'') e nn nc t = absurd t
        by_cases Stuck (steps.ends w vs co) e nn nc t = absurd t
        by_cases Stuck (steps.traps k' c'') e nn nc t = absurd t
        by_cases Stuck (steps.no_reply call' c'') e nn nc t = absurd t
        by_cases Stuck (steps.bad_reply call' reply c'') e nn nc t = absurd t
        by_cases Stuck steps.stuck e nn nc t = absurd (not_stuck e)
