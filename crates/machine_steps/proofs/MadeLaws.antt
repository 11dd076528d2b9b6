-- Where the steps of runs are made that are put together.
use Rattle.std.proofs.Common.{◌≡◌, ℕ, zero, suc, ◌+◌, List, [], ◌∷◌, ◌++◌, length, refl, sym, ap, ◌∙◌, arith}
use Rattle.std.specs.Prelude.{Option, Some, None, slice_get}
use Rattle.wasm_syntax.specs.declared.value.Value.{Value}
use Rattle.wasm_syntax.specs.declared.host.HostCall.{HostCall}
use Rattle.wasm_syntax.specs.declared.host.CollectorCall.{CollectorCall}
use Rattle.wasm_syntax.specs.Module.{Function, imported, defined}
use Rattle.wasm_syntax.specs.Host.{World}
use Rattle.wasm_syntax.specs.Machine.{Engine, Config, config, Stepped, next, ends, traps, no_reply, bad_reply, stuck, step, host_call, entered}
use Rattle.wasm_syntax.specs.Run.{Ended, ended, run_on, run_steps, run_alone, run_function}
use Rattle.machine_steps.specs.Places.{Place, place_of, places_behind, step_places, alone_places, function_places}

module _ (M : Engine) where
  what_of : {a b : Stepped} {m n : ℕ} → ended a m ≡ ended b n → a ≡ b
  what_of e = ap (λ (x : Ended). x.what) e

  -- ---- one run behind another

  pub behind_lead : (n k : ℕ) (c there : Config) → ((j : ℕ) → run_steps M (n + j) c ≡ run_steps M j there) → step_places M (n + k) c ≡ step_places M n c ++ step_places M k there
  behind_lead zero k c there leads =
      let z : 0 + k ≡ k = omega arith in
      let o : 0 + 0 ≡ 0 = omega arith in
      let e : next c ≡ next there = what_of (ap (λ j. run_steps M j c) (sym o) ∙ leads 0) in
      let same : c ≡ there = cc in
      ap (λ j. step_places M j c) z ∙ ap (step_places M k) same
  behind_lead (suc n) k c there leads = by_step (step M c) refl (behind_lead n k)
    where
      at : (j : ℕ) → run_on M (run_steps M (n + j)) (n + j) (step M c) ≡ run_steps M j there
      at j = let e : suc (n + j) ≡ suc n + j = omega arith in ap (λ i. run_steps M i c) e ∙ leads j

      at_step : (s : Stepped) → step M c ≡ s → (j : ℕ) → run_on M (run_steps M (n + j)) (n + j) s ≡ run_steps M j there
      at_step s q j = sym (ap (run_on M (run_steps M (n + j)) (n + j)) q) ∙ at j

      by_step : (s : Stepped) → step M c ≡ s → ((c' there : Config) → ((j : ℕ) → run_steps M (n + j) c' ≡ run_steps M j there) → step_places M (n + k) c' ≡ step_places M n c' ++ step_places M k there) → step_places M (suc n + k) c ≡ step_places M (suc n) c ++ step_places M k there
      by_step (next c') q ih =
          let e : suc n + k ≡ suc (n + k) = omega arith in
          ap (λ i. step_places M i c) e
          ∙ ap (λ s. place_of c ∷ places_behind M (step_places M (n + k)) s) q
          ∙ ap (λ l. place_of c ∷ l) (ih c' there (at_step (next c') q))
          ∙ sym (ap (λ s. (place_of c ∷ places_behind M (step_places M n) s) ++ step_places M k there) q)
      by_step (ends w vs co) q ih = let z : ends w vs co ≡ next there = what_of (at_step (ends w vs co) q 0) in absurd (cc)
      by_step (traps kind c') q ih = let z : traps kind c' ≡ next there = what_of (at_step (traps kind c') q 0) in absurd (cc)
      by_step (no_reply call c') q ih = let z : no_reply call c' ≡ next there = what_of (at_step (no_reply call c') q 0) in absurd (cc)
      by_step (bad_reply call r c') q ih = let z : bad_reply call r c' ≡ next there = what_of (at_step (bad_reply call r c') q 0) in absurd (cc)
      by_step stuck q ih = let z : stuck ≡ next there = what_of (at_step stuck q 0) in absurd (cc)

  pub one_place : (c : Config) → step_places M 1 c ≡ place_of c ∷ []
  one_place c = ap (λ l. place_of c ∷ l) (by_step (step M c))
    where
      by_step : (s : Stepped) → places_behind M (step_places M 0) s ≡ []
      by_step (next c') = refl
      by_step (ends w vs co) = refl
      by_step (traps kind c') = refl
      by_step (no_reply call c') = refl
      by_step (bad_reply call r c') = refl
      by_step stuck = refl

  -- ---- as many as steps are made

  steps_count : (n : ℕ) (c : Config) → length (step_places M n c) + (run_steps M n c).left ≡ n
  steps_count zero c = refl
  steps_count (suc n) c = by_step (step M c) (steps_count n)
    where
      by_step : (s : Stepped) → ((c' : Config) → length (step_places M n c') + (run_steps M n c').left ≡ n) → length (place_of c ∷ places_behind M (step_places M n) s) + (run_on M (run_steps M n) n s).left ≡ suc n
      by_step (next c') ih = omega (arith, ih c')
      by_step (ends w vs co) ih = omega arith
      by_step (traps kind c') ih = omega arith
      by_step (no_reply call c') ih = omega arith
      by_step (bad_reply call r c') ih = omega arith
      by_step stuck ih = omega arith

  pub function_count : (n f : ℕ) (fn : Option Function) (args : List Value) (w : World) (co : List CollectorCall) → length (function_places M f fn n args w co) + (run_function M n f fn args w co).left ≡ n
  function_count n f None args w co = omega arith
  function_count zero f (Some (imported i t)) args w co = refl
  function_count (suc n) f (Some (imported i t)) args w co = omega arith
  function_count n f (Some (defined body tree type)) args w co = steps_count n (config (entered f body tree type args ∷ []) w co)

  -- ---- no more behind the end

  steps_over : (n k : ℕ) (c : Config) (w : World) (vs : List Value) (co : List CollectorCall) (l : ℕ) → run_steps M n c ≡ ended (ends w vs co) l → step_places M (n + k) c ≡ step_places M n c
  steps_over zero k c w vs co l e = let z : next c ≡ ends w vs co = what_of e in absurd (cc)
  steps_over (suc n) k c w vs co l e = (let j : suc n + k ≡ suc (n + k) = omega arith in ap (λ i. step_places M i c) j) ∙ by_step (step M c) (λ c'. steps_over n k c' w vs co l) e
    where
      by_step : (s : Stepped) → ((c' : Config) → run_steps M n c' ≡ ended (ends w vs co) l → step_places M (n + k) c' ≡ step_places M n c') → run_on M (run_steps M n) n s ≡ ended (ends w vs co) l
          → ◌≡◌ {A = List (Option Place)} (place_of c ∷ places_behind M (step_places M (n + k)) s) (place_of c ∷ places_behind M (step_places M n) s)
      by_step (next c') ih e = ap (λ l. place_of c ∷ l) (ih c' e)
      by_step (ends w' vs' co') ih e = refl
      by_step (traps kind c') ih e = refl
      by_step (no_reply call c') ih e = refl
      by_step (bad_reply call r c') ih e = refl
      by_step stuck ih e = refl

  alone_over : (n k : ℕ) (call : HostCall) (u : World) (uo : List CollectorCall) (w : World) (vs : List Value) (co : List CollectorCall) (l : ℕ) → run_alone M n call u uo ≡ ended (ends w vs co) l → alone_places (n + k) ≡ alone_places n
  alone_over zero k call u uo w vs co l e = let z : next (config [] u uo) ≡ ends w vs co = what_of e in absurd (cc)
  alone_over (suc n) k call u uo w vs co l e = let j : suc n + k ≡ suc (n + k) = omega arith in ap alone_places j

  pub function_over : (n k f : ℕ) (fn : Option Function) (args : List Value) (u : World) (uo : List CollectorCall) (w : World) (vs : List Value) (co : List CollectorCall) (l : ℕ) → run_function M n f fn args u uo ≡ ended (ends w vs co) l
      → function_places M f fn (n + k) args u uo ≡ function_places M f fn n args u uo
  function_over n k f None args u uo w vs co l e = refl
  function_over n k f (Some (imported i t)) args u uo w vs co l e = alone_over n k (host_call f i t args) u uo w vs co l e
  function_over n k f (Some (defined body tree type)) args u uo w vs co l e = steps_over n k (config (entered f body tree type args ∷ []) u uo) w vs co l e

  pub function_none : (f : ℕ) (fn : Option Function) (args : List Value) (w : World) (co : List CollectorCall) → function_places M f fn 0 args w co ≡ []
  function_none f None args w co = refl
  function_none f (Some (imported i t)) args w co = refl
  function_none f (Some (defined body tree type)) args w co = refl

  -- ---- each where the steps before it lead

  pub record Reached (go : ℕ → Ended) (k : ℕ) (at : Option Place) : Type 0 where
    pub there : Config
    pub is : go k ≡ ended (next there) 0
    pub place : at ≡ place_of there

  pub steps_reached : (n k : ℕ) (c : Config) (at : Option Place) → slice_get (step_places M n c) k ≡ Some at → Reached (λ k. run_steps M k c) k at
  steps_reached zero k c at e = absurd (cc)
  steps_reached (suc n) zero c at e = record { there = c; is = refl; place = (let q : place_of c ≡ at = cc in sym q) }
  steps_reached (suc n) (suc k) c at e = by_step (step M c) refl (λ c'. steps_reached n k c' at) e
    where
      by_step : (s : Stepped) → step M c ≡ s → ((c' : Config) → slice_get (step_places M n c') k ≡ Some at → Reached (λ k. run_steps M k c') k at) → slice_get (places_behind M (step_places M n) s) k ≡ Some at → Reached (λ k. run_steps M k c) (suc k) at
      by_step (next c') q ih e = let r = ih c' e in record { there = r.there; is = ap (run_on M (run_steps M k) k) q ∙ r.is; place = r.place }
      by_step (ends w vs co) q ih e = absurd (cc)
      by_step (traps kind c') q ih e = absurd (cc)
      by_step (no_reply call c') q ih e = absurd (cc)
      by_step (bad_reply call r c') q ih e = absurd (cc)
      by_step stuck q ih e = absurd (cc)

  alone_reached : (n k : ℕ) (call : HostCall) (w : World) (co : List CollectorCall) (at : Option Place) → slice_get (alone_places n) k ≡ Some at → Reached (λ k. run_alone M k call w co) k at
  alone_reached zero k call w co at e = absurd (cc)
  alone_reached (suc n) zero call w co at e = record { there = config [] w co; is = refl; place = (let q : None ≡ at = cc in sym q) }
  alone_reached (suc n) (suc k) call w co at e = absurd (cc)

  pub function_reached : (n k f : ℕ) (fn : Option Function) (args : List Value) (w : World) (co : List CollectorCall) (at : Option Place) → slice_get (function_places M f fn n args w co) k ≡ Some at → Reached (λ k. run_function M k f fn args w co) k at
  function_reached n k f None args w co at e = absurd (cc)
  function_reached n k f (Some (imported i t)) args w co at e = alone_reached n k (host_call f i t args) w co at e
  function_reached n k f (Some (defined body tree type)) args w co at e = steps_reached n k (config (entered f body tree type args ∷ []) w co) at e
