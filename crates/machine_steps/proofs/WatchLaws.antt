-- The turns of a watched run.
use Rattle.std.proofs.Common.{◌≡◌, ℕ, zero, suc, ◌+◌, ◌<◌, List, [], ◌∷◌, ◌++◌, length, length-append, refl, sym, ap, subst, ◌∙◌, append_assoc, arith}
use Rattle.std.proofs.lemmas.List.{append-nil}
use Rattle.std.specs.Prelude.{Option}
use Rattle.wasm_syntax.specs.declared.module.ModuleParts.{ModuleParts as Module}
use Rattle.wasm_syntax.specs.Machine.{Engine, Config}
use Rattle.machine_steps.specs.declared.machine.Machine.{Machine}
use Rattle.machine_code.specs.declared.prepared.Prepared.{Prepared}
use Rattle.machine_steps.specs.declared.machine.ImportCall.{ImportCall}
use Rattle.machine_steps.specs.declared.machine.Outcome.{Outcome}
use Rattle.machine_steps.specs.declared.machine.Outcome.TheVariants.{Next, Ended, Trap, Import, NoMemory, Stuck}
use Rattle.machine_steps.specs.Places.{Place, place_of, step_places, flat_place}
use Rattle.machine_steps.specs.calls.Watches.{place_at, places_from}
use Rattle.machine_steps.specs.calls.Runs.{Begins, Reached}
use Rattle.machine_steps.specs.calls.Watched.{position_of, IsCount, Saw, Watched}
use Rattle.machine_steps.proofs.PlaceLaws.{position_place}
use Rattle.machine_steps.proofs.MadeLaws.{behind_lead, one_place}

-- one step more is made where the machine stands
pub places_more : (prepared : Prepared) (depth : ℕ) (m : Machine) (n : ℕ) (m' : Machine) → ((M : Engine) (c : Config) → Begins M prepared depth c m → Reached M prepared.codes.items c n m')
    → (M : Engine) (c : Config) → Begins M prepared depth c m → step_places M (suc n) c ≡ step_places M n c ++ place_at M.program.module_ (position_of m') ∷ []
places_more prepared depth m n m' reached M c b =
    let r = reached M c b in
    let here : place_at M.program.module_ (position_of m') ≡ place_of r.there = position_place M.program prepared.codes.items m' r.there r.then_is.stands in
    let e : suc n ≡ n + 1 = omega arith in
    ap (λ k. step_places M k c) e
    ∙ behind_lead M n 1 c r.there r.leads
    ∙ ap (λ l. step_places M n c ++ l) (one_place M r.there)
    ∙ ap (λ (p : Option Place). step_places M n c ++ p ∷ []) (sym here)

count_from : (x : Module) (f s k : ℕ) → length (places_from x f s k) ≡ k
count_from x f s zero = refl
count_from x f s (suc k) = length-append (places_from x f s k) (flat_place x f (s + k) ∷ []) ∙ (let h = count_from x f s k in omega (arith, h))

module _ {W : Type 0} (saw : Module → W → List (Option Place) → Type 0) (prepared : Prepared) (depth : ℕ) (m : Machine) (before : W) where
  pub saw_none : Saw saw prepared depth m 0 before before
  saw_none = record { made = λ M c b. refl; steps = λ M c b seen h. subst (saw M.program.module_ before) (sym (append-nil seen)) h }

  -- one step more, from where the machine stands
  pub saw_one : (n : ℕ) (m' : Machine) (now next : W) → ((M : Engine) (c : Config) → Begins M prepared depth c m → Reached M prepared.codes.items c n m') → Saw saw prepared depth m n before now
      → ((x : Module) (seen : List (Option Place)) → saw x now seen → saw x next (seen ++ place_at x (position_of m') ∷ [])) → Saw saw prepared depth m (suc n) before next
  saw_one n m' now next reached s one = record {
    made = λ M c b. ap length (places_more prepared depth m n m' reached M c b) ∙ length-append (step_places M n c) (place_at M.program.module_ (position_of m') ∷ []) ∙ (let h = s.made M c b in omega (arith, h));
    steps = λ M c b seen h.
        subst (saw M.program.module_ next) (append_assoc seen (step_places M n c) (place_at M.program.module_ (position_of m') ∷ []) ∙ ap (λ l. seen ++ l) (sym (places_more prepared depth m n m' reached M c b)))
        (one M.program.module_ (seen ++ step_places M n c) (s.steps M c b seen h));
  }

  -- so many steps more, at the instructions of a function from one on
  pub saw_run : (n k f s : ℕ) (now next : W) → Saw saw prepared depth m n before now
      → ((M : Engine) (c : Config) → Begins M prepared depth c m → step_places M (n + k) c ≡ step_places M n c ++ places_from M.program.module_ f s k)
      → ((x : Module) (seen : List (Option Place)) → saw x now seen → saw x next (seen ++ places_from x f s k)) → Saw saw prepared depth m (n + k) before next
  saw_run n k f s now next w all run = record {
    made = λ M c b. ap length (all M c b) ∙ length-append (step_places M n c) (places_from M.program.module_ f s k) ∙ (let h = w.made M c b in let l = count_from M.program.module_ f s k in omega (arith, h, l));
    steps = λ M c b seen h.
        subst (saw M.program.module_ next) (append_assoc seen (step_places M n c) (places_from M.program.module_ f s k) ∙ ap (λ l. seen ++ l) (sym (all M c b)))
        (run M.program.module_ (seen ++ step_places M n c) (w.steps M c b seen h));
  }

  -- ---- ends

  pub watched_call : (fuel n : ℕ) (call : ImportCall) (next : W) → n < fuel → Saw saw prepared depth m (suc n) before next → Watched saw prepared depth fuel m (Import call) n before next
  watched_call fuel n call next lt s = record { count = suc n; few = omega (arith, lt); is = refl; seen = s }

  pub watched_all : (fuel : ℕ) (next : W) → Saw saw prepared depth m fuel before next → Watched saw prepared depth fuel m Next fuel before next
  watched_all fuel next s = record { count = fuel; few = omega arith; is = refl; seen = s }

  pub watched_end : (fuel n : ℕ) (o : Outcome) (next : W) → n < fuel → ((call : ImportCall) → o ≡ Import call → ⊥) → Saw saw prepared depth m (suc n) before next → Watched saw prepared depth fuel m o (suc n) before next
  watched_end fuel n o next lt no_call s = record { count = suc n; few = omega (arith, lt); is = by_outcome o no_call; seen = s }
    where
      by_outcome : (o : Outcome) → ((call : ImportCall) → o ≡ Import call → ⊥) → IsCount o (suc n) (suc n)
      by_outcome Next nc = refl
      by_outcome (Import call) nc = absurd (nc call refl)
      by_outcome NoMemory nc = tt
      by_outcome Ended nc = refl
      by_outcome (Trap kind) nc = refl
      by_outcome Stuck nc = tt
