-- Steps in a frame, behind the first ones of a run.
use Rattle.std.proofs.Common.{◌≡◌, ℕ, suc, ◌+◌, ◌<◌, ◌≤◌, List, [], ◌∷◌, ◌++◌, refl, sym, ap, subst, ◌∙◌, append_assoc, arith}
use Rattle.std.specs.Prelude.{Option, Some}
use Rattle.wasm_syntax.specs.declared.module.ModuleParts.{ModuleParts as Module}
use Rattle.wasm_syntax.specs.Machine.{Engine, Config, step}
use Rattle.machine_code.specs.declared.prepared.Prepared.{Prepared}
use Rattle.machine_code.specs.calls.Prepares.{IsPrepared}
use Rattle.machine_steps.specs.declared.machine.Machine.{Machine}
use Rattle.machine_steps.specs.declared.machine.ImportCall.{ImportCall}
use Rattle.machine_steps.specs.declared.machine.Outcome.{Outcome}
use Rattle.machine_steps.specs.declared.machine.Outcome.TheVariants.{Next, Ended, Trap, Import, NoMemory, Stuck}
use Rattle.machine_steps.specs.Places.{Place, step_places, flat_place}
use Rattle.machine_steps.specs.calls.Meets.{StandsFor, Meets}
use Rattle.machine_steps.specs.calls.Watches.{place_at, places_from}
use Rattle.machine_steps.specs.calls.Runs.{Begins, Reached}
use Rattle.machine_steps.specs.calls.Watched.{position_of, Saw}
use Rattle.machine_steps.specs.inner.Turns.{Ran, Made, Over, Went}
use Rattle.machine_steps.proofs.TurnLaws.{reached_first, goes_on, calls, stops_with}
use Rattle.machine_steps.proofs.WatchLaws.{places_more, saw_none, saw_one, saw_run, watched_call, watched_end}

-- what one step more came to, from wherever the machine stands
abbrev pub Turned : Prepared → ℕ → (m m' : Machine) → Outcome → Type 0
Turned prepared depth m m' o = (M : Engine) (c : Config) → IsPrepared M.program prepared → M.depth ≡ depth → StandsFor M.program prepared.codes.items m c → Meets M prepared.codes.items c o (step M c) m'

-- ---- steps of a straight run

module _ (prepared : Prepared) (depth : ℕ) (first : Machine) (n f s : ℕ) where
  -- one step more is made at the instruction behind them
  pub ran_places : (k : ℕ) (m : Machine) → Ran prepared depth first n f s k m → Some (record { function = f; index = s + k }) ≡ position_of m
      → (M : Engine) (c : Config) → Begins M prepared depth c first → step_places M (n + suc k) c ≡ step_places M n c ++ places_from M.program.module_ f s (suc k)
  ran_places k m r stands M c b =
      let e : n + suc k ≡ suc (n + k) = omega arith in
      ap (λ j. step_places M j c) e
      ∙ places_more prepared depth first (n + k) m r.reached M c b
      ∙ ap (λ p. step_places M (n + k) c ++ place_at M.program.module_ p ∷ []) (sym stands)
      ∙ ap (λ l. l ++ flat_place M.program.module_ f (s + k) ∷ []) (r.places M c b)
      ∙ append_assoc (step_places M n c) (places_from M.program.module_ f s k) (flat_place M.program.module_ f (s + k) ∷ [])

  pub ran_more : (k : ℕ) (m m' : Machine) → Ran prepared depth first n f s k m → Some (record { function = f; index = s + k }) ≡ position_of m → Turned prepared depth m m' Next → Ran prepared depth first n f s (suc k) m'
  ran_more k m m' r stands t = let e : suc (n + k) ≡ n + suc k = omega arith in record {
    reached = λ M c b.
        let at = r.reached M c b in
        subst (λ j. Reached M prepared.codes.items c j m') e (goes_on M prepared.codes.items c (n + k) m m' at b.safe (t M at.there b.is_prepared b.depth_is at.then_is.stands));
    places = ran_places k m r stands;
  }

module _ {W : Type 0} (saw : Module → W → List (Option Place) → Type 0) (prepared : Prepared) (depth : ℕ) (first : Machine) (before : W) where
  pub made_none : Made saw prepared depth first before 0 first before
  made_none = record {
    reached = λ M c b. reached_first M prepared.codes.items c first b.stands;
    seen = saw_none saw prepared depth first before;
  }

  -- steps of a straight run that are told at once
  pub made_run : (n k f s : ℕ) (m m' : Machine) (now next : W) → Made saw prepared depth first before n m now → Ran prepared depth first n f s k m'
      → ((x : Module) (seen : List (Option Place)) → saw x now seen → saw x next (seen ++ places_from x f s k)) → Made saw prepared depth first before (n + k) m' next
  made_run n k f s m m' now next made r run = record { reached = r.reached; seen = saw_run saw prepared depth first before n k f s now next made.seen r.places run }

  -- one step more, that was seen
  module _ (n : ℕ) (m : Machine) (reached : (M : Engine) (c : Config) → Begins M prepared depth c first → Reached M prepared.codes.items c n m) (m' : Machine) (next : W)
      (seen : Saw saw prepared depth first (suc n) before next) where
    step_made : Turned prepared depth m m' Next → Made saw prepared depth first before (suc n) m' next
    step_made t = record {
      reached = λ M c b. let r = reached M c b in goes_on M prepared.codes.items c n m m' r b.safe (t M r.there b.is_prepared b.depth_is r.then_is.stands);
      seen = seen;
    }

    module _ (start fuel : ℕ) (le : start ≤ n) (lt : n < fuel) where
      over : (o : Outcome) → (o ≡ Next → ⊥) → ((call : ImportCall) → o ≡ Import call → ⊥) → Turned prepared depth m m' o → Over saw prepared depth first before fuel o (suc n) m' next
      over o no_next no_call t = record {
        came = λ M c b. let r = reached M c b in stops_with M prepared.codes.items c n m m' r b.safe fuel lt o no_next no_call (t M r.there b.is_prepared b.depth_is r.then_is.stands);
        watched = watched_end saw prepared depth first before fuel n o next lt no_call seen;
      }

      step_went : (o : Outcome) → ((call : ImportCall) → o ≡ Import call → ⊥) → Turned prepared depth m m' o → Went saw prepared depth first before start fuel o (suc n) m' next
      step_went Next nc t = (omega (arith, le), omega (arith, lt), step_made t)
      step_went (Import call) nc t = absurd (nc call refl)
      step_went Ended nc t = over Ended (λ e. cc) nc t
      step_went (Trap kind) nc t = over (Trap kind) (λ e. cc) nc t
      step_went NoMemory nc t = over NoMemory (λ e. cc) nc t
      step_went Stuck nc t = over Stuck (λ e. cc) nc t

  -- one that is told alone
  module _ (n : ℕ) (m : Machine) (now : W) (made : Made saw prepared depth first before n m now) (m' : Machine) (next : W)
      (sees : (x : Module) (seen : List (Option Place)) → saw x now seen → saw x next (seen ++ place_at x (position_of m) ∷ [])) where
    seen_more : Saw saw prepared depth first (suc n) before next
    seen_more = saw_one saw prepared depth first before n m now next made.reached made.seen sees

    pub made_more : Turned prepared depth m m' Next → Made saw prepared depth first before (suc n) m' next
    made_more = step_made n m made.reached m' next seen_more

    module _ (start fuel : ℕ) (le : start ≤ n) (lt : n < fuel) where
      pub went_call : (call : ImportCall) → Turned prepared depth m m' (Import call) → Went saw prepared depth first before start fuel (Import call) n m' next
      went_call call t = record {
        came = λ M c b. let r = made.reached M c b in calls M prepared.codes.items c n m m' r b.safe fuel lt call (t M r.there b.is_prepared b.depth_is r.then_is.stands);
        watched = watched_call saw prepared depth first before fuel n call next lt seen_more;
      }

      pub went_one : (o : Outcome) → ((call : ImportCall) → o ≡ Import call → ⊥) → Turned prepared depth m m' o → Went saw prepared depth first before start fuel o (suc n) m' next
      went_one = step_went n m made.reached m' next seen_more start fuel le lt

  -- the last one of a straight run, that is told with it
  pub went_run : (n k f s : ℕ) (m mk m' : Machine) (now next : W) → Made saw prepared depth first before n m now → Ran prepared depth first n f s k mk → Some (record { function = f; index = s + k }) ≡ position_of mk
      → ((x : Module) (seen : List (Option Place)) → saw x now seen → saw x next (seen ++ places_from x f s (suc k))) → (start fuel : ℕ) → start ≤ n + k → n + k < fuel
      → (o : Outcome) → ((call : ImportCall) → o ≡ Import call → ⊥) → Turned prepared depth mk m' o → Went saw prepared depth first before start fuel o (suc (n + k)) m' next
  went_run n k f s m mk m' now next made r stands run start fuel le lt =
      let e : n + suc k ≡ suc (n + k) = omega arith in
      step_went (n + k) mk r.reached m' next
      (subst (λ j. Saw saw prepared depth first j before next) e (saw_run saw prepared depth first before n (suc k) f s now next made.seen (ran_places prepared depth first n f s k mk r stands) run))
      start fuel le lt

  -- a run that does not go on is over
  pub is_over : (start fuel : ℕ) (o : Outcome) (n : ℕ) (m : Machine) (now : W) → (o ≡ Next → ⊥) → Went saw prepared depth first before start fuel o n m now → Over saw prepared depth first before fuel o n m now
  is_over start fuel Next n m now ends w = absurd (ends refl)
  is_over start fuel Ended n m now ends w = w
  is_over start fuel (Trap kind) n m now ends w = w
  is_over start fuel (Import call) n m now ends w = w
  is_over start fuel NoMemory n m now ends w = w
  is_over start fuel Stuck n m now ends w = w

  -- a machine that stands nowhere is not one of a run
  pub went_nowhere : (n fuel : ℕ) (m : Machine) (now : W) → n ≤ fuel → Made saw prepared depth first before n m now → ((M : Engine) (c : Config) → IsPrepared M.program prepared → StandsFor M.program prepared.codes.items m c → ⊥) → Went saw prepared depth first before n fuel Stuck n m now
  went_nowhere n fuel m now le made nowhere = record {
    came = λ M c b. let r = made.reached M c b in nowhere M r.there b.is_prepared r.then_is.stands;
    watched = record { count = n; few = le; is = tt; seen = made.seen };
  }
