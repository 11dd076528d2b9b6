-- A run of one invocation that ended does so with the steps that it made, and is still running with fewer.
use Rattle.std.proofs.Common.{◌≡◌, ◌≢◌, ◌⊎◌, ℕ, zero, suc, ◌+◌, ◌-◌, ◌<◌, ◌≤◌, List, [], ◌∷◌, slice_get, if◌then◌else◌, Option, Some, None, inl, inr, refl, sym, ap, subst, ◌∙◌, arith}
use Rattle.std.specs.Prelude.{Bool, true, false, option_map}
use Rattle.wasm_syntax.specs.declared.value.Value.{Value}
use Rattle.wasm_syntax.specs.declared.host.HostCall.{HostCall}
use Rattle.wasm_syntax.specs.declared.host.Reply.{Reply}
use Rattle.wasm_syntax.specs.declared.host.CollectorCall.{CollectorCall}
use Rattle.wasm_syntax.specs.Module.{Program, Function, imported, defined, function_at, function_export}
use Rattle.wasm_syntax.specs.Host.{World}
use Rattle.wasm_syntax.specs.Machine.{Engine, Config, config, Stepped, next, ends, traps, no_reply, bad_reply, stuck, step, entered, host_call}
use Rattle.wasm_syntax.specs.Run.{Ended, ended, run_on, run_steps, run_alone, run_function, Outcome, not_started, finished, trapped, lacks_reply, misfits, running, got_stuck, Ran, ran_to, not_begun, run_entry, go_on, invoked, goes_on, fresh, session, unless, run, cause_of, Cause, Invocation, engine, start_world}
use Rattle.wasm_laws.specs.calls.Runs.{with_more}
use Rattle.wasm_laws.proofs.Longer.{Over, more_left, function_more, over_of, over_start, longer_run}
use Rattle.pm_text.proofs.Lists.{some_is}

-- ---- one function

-- so many of the steps were made, and with these alone it ends the same
record Made (go : ℕ → Ended) (n : ℕ) : Type 0 where
  made : ℕ
  counted : n ≡ made + (go n).left
  exact : go made ≡ ended (go n).what 0

-- the same of an invocation
record RanMade (go : ℕ → Ran) (n : ℕ) : Type 0 where
  made : ℕ
  counted : n ≡ made + (go n).left
  same : (go made).outcome ≡ (go n).outcome

none_made : (n : ℕ) → n ≡ zero + n
none_made n = omega arith

one_made : (n : ℕ) → suc n ≡ suc zero + n
one_made n = omega arith

module _ (M : Engine) where
  on_made : (n : ℕ) (s : Stepped) → ((c : Config) → Over (run_steps M n c).what → Made (λ k. run_steps M k c) n) → Over (run_on M (run_steps M n) n s).what → Made (λ k. run_on M (run_steps M k) k s) n
  on_made n (next c) ih h = let m = ih c h in record { made = m.made; counted = m.counted; exact = m.exact }
  on_made n (ends w vs co) ih h = record { made = zero; counted = none_made n; exact = refl }
  on_made n (traps k c) ih h = record { made = zero; counted = none_made n; exact = refl }
  on_made n (no_reply call c) ih h = record { made = zero; counted = none_made n; exact = refl }
  on_made n (bad_reply call r c) ih h = record { made = zero; counted = none_made n; exact = refl }
  on_made n stuck ih h = record { made = zero; counted = none_made n; exact = refl }

  steps_made : (n : ℕ) (c : Config) → Over (run_steps M n c).what → Made (λ k. run_steps M k c) n
  steps_made zero c h = absurd h
  steps_made (suc n) c h =
      let m = on_made n (step M c) (λ c h. steps_made n c h) h in
      let k : n ≡ m.made + (run_steps M (suc n) c).left = m.counted in
      let counted : suc n ≡ suc m.made + (run_steps M (suc n) c).left = omega (arith, k) in
      record { made = suc m.made; counted = counted; exact = m.exact }

  alone_made : (n : ℕ) (call : HostCall) (w : World) (co : List CollectorCall) → Over (run_alone M n call w co).what → Made (λ k. run_alone M k call w co) n
  alone_made zero call w co h = absurd h
  alone_made (suc n) call w co h = record { made = suc zero; counted = one_made n; exact = refl }

  function_made : (n f : ℕ) (fn : Option Function) (args : List Value) (w : World) (co : List CollectorCall) → Over (run_function M n f fn args w co).what → Made (λ k. run_function M k f fn args w co) n
  function_made n f None args w co h = record { made = zero; counted = none_made n; exact = refl }
  function_made n f (Some (imported i type)) args w co h = let m = alone_made n (host_call f i type args) w co h in record { made = m.made; counted = m.counted; exact = m.exact }
  function_made n f (Some (defined body tree type)) args w co h =
      let m = steps_made n (config (entered f body tree type args ∷ []) w co) h in record { made = m.made; counted = m.counted; exact = m.exact }

  -- ---- an invocation

  left_of : (q : Bool) (s : Stepped) (left : ℕ) → (ran_to q s left).left ≡ left
  left_of q (next c) left = refl
  left_of q (ends w vs co) left = refl
  left_of q (traps k c) left = refl
  left_of q (no_reply call c) left = refl
  left_of q (bad_reply call r c) left = refl
  left_of q stuck left = refl

  outcome_of : (q : Bool) (s : Stepped) (a b : ℕ) → (ran_to q s a).outcome ≡ (ran_to q s b).outcome
  outcome_of q (next c) a b = refl
  outcome_of q (ends w vs co) a b = refl
  outcome_of q (traps k c) a b = refl
  outcome_of q (no_reply call c) a b = refl
  outcome_of q (bad_reply call r c) a b = refl
  outcome_of q stuck a b = refl

  entry_made : (n f : ℕ) (args : List Value) (w : World) (co : List CollectorCall) → (run_entry M n f args w co).outcome ≢ running → RanMade (λ k. run_entry M k f args w co) n
  entry_made n f args w co h =
      let x = run_function M n f (function_at M.program f) args w co in
      let m = function_made n f (function_at M.program f) args w co (over_of M n true x.what x.left h) in
      record {
        made = m.made;
        counted = m.counted ∙ ap (λ k. m.made + k) (sym (left_of true x.what x.left));
        same = ap (λ (y : Ended). (ran_to true y.what y.left).outcome) m.exact ∙ outcome_of true x.what 0 x.left;
      }

  behind_made : (s : Stepped) (n f : ℕ) (args : List Value) → (go_on M s n f args).outcome ≢ running → RanMade (λ k. go_on M s k f args) n
  behind_made (next c) n f args h = absurd (h refl)
  behind_made (ends w vs co) n f args h = let m = entry_made n f args w co h in record { made = m.made; counted = m.counted; same = m.same }
  behind_made (traps k c) n f args h = record { made = zero; counted = none_made n; same = refl }
  behind_made (no_reply call c) n f args h = record { made = zero; counted = none_made n; same = refl }
  behind_made (bad_reply call r c) n f args h = record { made = zero; counted = none_made n; same = refl }
  behind_made stuck n f args h = record { made = zero; counted = none_made n; same = refl }

  invoked_made : (start : Option ℕ) (n f : ℕ) (args : List Value) (w : World) → (invoked M start n f args w).outcome ≢ running → RanMade (λ k. invoked M start k f args w) n
  invoked_made None n f args w h = let m = entry_made n f args w [] h in record { made = m.made; counted = m.counted; same = m.same }
  invoked_made (Some s) n f args w h =
      let fn = function_at M.program s in
      let x = run_function M n s fn [] w [] in
      let over : Over x.what = over_start M n x.what x.left f args h in
      let m = function_made n s fn [] w [] over in
      let b = behind_made x.what x.left f args h in
      let still : Over (run_function M m.made s fn [] w []).what = subst (λ (e : Ended). Over e.what) (sym m.exact) over in
      let none : 0 + b.made ≡ b.made = omega arith in
      let is : run_function M (m.made + b.made) s fn [] w [] ≡ ended x.what b.made =
      function_more M b.made m.made (m.made + b.made) s refl fn [] w [] still ∙ ap (more_left b.made) m.exact ∙ ap (ended x.what) none in
      let behind : x.left ≡ b.made + (go_on M x.what x.left f args).left = b.counted in
      let before : n ≡ m.made + x.left = m.counted in
      let counted : n ≡ (m.made + b.made) + (go_on M x.what x.left f args).left = omega (arith, before, behind) in
      record {
        made = m.made + b.made;
        counted = counted;
        same = ap (λ (e : Ended). (go_on M e.what e.left f args).outcome) is ∙ b.same;
      }

  -- ---- a list of one

  -- the first run of a list, within so many steps
  abbrev Exactly : (ℕ → List Ran) → ℕ → Ran → Type 0
  Exactly runs n r = (made : ℕ) × (n ≡ made + r.left) × (option_map (λ (x : Ran). x.outcome) (slice_get (runs made) 0) ≡ Some r.outcome)

  abbrev Listed : Invocation → Option ℕ → World → Option ℕ → ℕ → List Ran
  Listed i start w o n = elim o [
    | None ↦ []
    | Some f ↦ let r = invoked M start n f i.args w in r ∷ (if goes_on r.outcome r.entered then session M [] None (fresh r.last w) r.left else [])
  ]

  listed_made : (i : Invocation) (start : Option ℕ) (w : World) (o : Option ℕ) (n : ℕ) (r : Ran) → slice_get (Listed i start w o n) 0 ≡ Some r → r.outcome ≢ running → Exactly (λ k. Listed i start w o k) n r
  listed_made i start w None n r e h = absurd cc
  listed_made i start w (Some f) n r e h =
      let same : invoked M start n f i.args w ≡ r = some_is e in
      let m = invoked_made start n f i.args w (λ z. h (ap (λ (x : Ran). x.outcome) (sym same) ∙ z)) in
      (m.made, m.counted ∙ ap (λ (x : Ran). m.made + x.left) same, ap Some (m.same ∙ ap (λ (x : Ran). x.outcome) same))

  listed_there : (i : Invocation) (start : Option ℕ) (w : World) (o : Option ℕ) (n k : ℕ) (r : Ran) → slice_get (Listed i start w o n) 0 ≡ Some r → (s : Ran) × (slice_get (Listed i start w o k) 0 ≡ Some s)
  listed_there i start w None n k r e = absurd cc
  listed_there i start w (Some f) n k r e = (invoked M start k f i.args w, refl)

  unless_made : (i : Invocation) (replies : List Reply) (c : Option Cause) (n : ℕ) (r : Ran) → slice_get (unless M c (i ∷ []) replies n) 0 ≡ Some r → r.outcome ≢ running → Exactly (λ k. unless M c (i ∷ []) replies k) n r
  unless_made i replies None n r e h = listed_made i M.program.module_.start (start_world M.program.module_ replies) (function_export M.program.module_ i.name) n r e h
  unless_made i replies (Some cause) n r e h =
      let same : not_begun cause n ≡ r = some_is e in
      let left : n ≡ r.left = ap (λ (x : Ran). x.left) same in
      let counted : n ≡ zero + r.left = omega (arith, left) in
      (zero, counted, ap (λ (x : Ran). Some x.outcome) same)

  unless_there : (i : Invocation) (replies : List Reply) (c : Option Cause) (n k : ℕ) (r : Ran) → slice_get (unless M c (i ∷ []) replies n) 0 ≡ Some r → (s : Ran) × (slice_get (unless M c (i ∷ []) replies k) 0 ≡ Some s)
  unless_there i replies None n k r e = listed_there i M.program.module_.start (start_world M.program.module_ replies) (function_export M.program.module_ i.name) n k r e
  unless_there i replies (Some cause) n k r e = (not_begun cause k, refl)

running_or : (o : Outcome) → (o ≡ running) ⊎ (o ≢ running)
running_or (not_started cause) = inr (λ e. absurd cc)
running_or (finished v) = inr (λ e. absurd cc)
running_or (trapped kind) = inr (λ e. absurd cc)
running_or (lacks_reply call) = inr (λ e. absurd cc)
running_or (misfits call reply) = inr (λ e. absurd cc)
running_or running = inl refl
running_or got_stuck = inr (λ e. absurd cc)

-- what one invocation comes to within so many steps
abbrev Within : Program → (collecting : Bool) → Invocation → List Reply → (d steps : ℕ) → Option Outcome
Within p collecting i replies d steps = option_map (λ (r : Ran). r.outcome) (slice_get (run p collecting (i ∷ []) replies d steps) 0)

module _ (p : Program) (collecting : Bool) (i : Invocation) (replies : List Reply) (d n : ℕ) (r : Ran) (is : run p collecting (i ∷ []) replies d n ≡ r ∷ []) (over : r.outcome ≢ running) where
  first : slice_get (run p collecting (i ∷ []) replies d n) 0 ≡ Some r
  first = ap (λ l. slice_get l 0) is

  pub ended_within : Within p collecting i replies d (n - r.left) ≢ Some running
  ended_within e =
      let m = unless_made (engine p collecting d) i replies (cause_of p.module_ (i ∷ [])) n r first over in
      let k : n - r.left ≡ m.0 = omega (arith, m.1) in
      over (some_is (sym m.2 ∙ ap (Within p collecting i replies d) (sym k) ∙ e))

  pub running_before : (k : ℕ) → k < n - r.left → Within p collecting i replies d k ≡ Some running
  running_before k less =
      let s = unless_there (engine p collecting d) i replies (cause_of p.module_ (i ∷ [])) n k r first in
      by_test s.0 s.1 (running_or s.0.outcome)
    where
      by_test : (s : Ran) → slice_get (run p collecting (i ∷ []) replies d k) 0 ≡ Some s → (s.outcome ≡ running) ⊎ (s.outcome ≢ running) → Within p collecting i replies d k ≡ Some running
      by_test s e (inl so) = ap (λ (o : Option Ran). option_map (λ (x : Ran). x.outcome) o) e ∙ ap Some so
      by_test s e (inr so) =
          let le : k ≤ n = omega (arith, less) in
          let stays = longer_run p collecting (i ∷ []) replies d k n le 0 s e so in
          let left : r.left ≡ s.left + (n - k) = ap (λ (x : Ran). x.left) (some_is (sym first ∙ stays)) in
          absurd (omega (arith, less, left))
