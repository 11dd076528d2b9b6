-- Where the steps of an invocation are made, and how many there are.
use Rattle.std.proofs.Common.{◌≡◌, ℕ, suc, ◌+◌, ◌-◌, ◌<◌, ◌≤◌, List, [], ◌++◌, length, length-append, refl, sym, ap, ◌∙◌, arith, inl, inr}
use Rattle.std.proofs.lemmas.Bool.{cases_lt}
use Rattle.std.specs.Prelude.{true, Option, Some, None, slice_get}
use Rattle.wasm_syntax.specs.declared.value.Value.{Value}
use Rattle.wasm_syntax.specs.Module.{function_at}
use Rattle.wasm_syntax.specs.Host.{World}
use Rattle.wasm_syntax.specs.Machine.{Engine, Config, Stepped, next, ends, traps, no_reply, bad_reply, stuck}
use Rattle.wasm_syntax.specs.Run.{Ended, ended, ran_to, run_function, go_on, invoked}
use Rattle.machine_steps.specs.Places.{Place, place_of, entry_places, places_on, invocation_places}
use Rattle.machine_steps.proofs.MadeLaws.{function_count, function_reached}
use Rattle.machine_hosted.proofs.JoinLaws.{function_ends, left_is}
use Rattle.wasm_laws.proofs.Lists.{get_front}
use Rattle.pm_text.proofs.Lists.{get_behind}

module _ (M : Engine) (f : ℕ) (args : List Value) where
  -- ---- as many as steps

  count_on : (s : Stepped) (l : ℕ) → length (places_on M s l f args) + (go_on M s l f args).left ≡ l
  count_on (ends w vs co) l =
      let e = run_function M l f (function_at M.program f) args w co in
      ap (λ k. length (entry_places M l f args w co) + k) (left_is true e.what e.left) ∙ function_count M l f (function_at M.program f) args w co
  count_on (next c) l = omega arith
  count_on (traps kind c) l = omega arith
  count_on (no_reply call c) l = omega arith
  count_on (bad_reply call r c) l = omega arith
  count_on stuck l = omega arith

  pub all_count : (start : Option ℕ) (n : ℕ) (w : World) → length (invocation_places M start n f args w) + (invoked M start n f args w).left ≡ n
  all_count None n w =
      let e = run_function M n f (function_at M.program f) args w [] in
      ap (λ k. length (entry_places M n f args w []) + k) (left_is true e.what e.left) ∙ function_count M n f (function_at M.program f) args w []
  all_count (Some start) n w =
      let e = run_function M n start (function_at M.program start) [] w [] in
      let first = function_count M n start (function_at M.program start) [] w [] in
      let second = count_on (run_function M n start (function_at M.program start) [] w []).what (run_function M n start (function_at M.program start) [] w []).left in
      omega (arith, length-append (entry_places M n start [] w []) (places_on M e.what e.left f args), first, second)

  -- ---- each where the steps before it lead

  pub all_reached : (start : Option ℕ) (n k : ℕ) (w : World) (at : Option Place) → slice_get (invocation_places M start n f args w) k ≡ Some at → (there : Config) × ((invoked M start k f args w).last ≡ Some there) × (at ≡ place_of there)
  all_reached None n k w at e =
      let r = function_reached M n k f (function_at M.program f) args w [] at e in
      (r.there, ap (λ (x : Ended). (ran_to true x.what x.left).last) r.is, r.place)
  all_reached (Some start) n k w at e = elim (cases_lt k (length (entry_places M n start [] w []))) [
    | inl lt ↦ first lt
    | inr le ↦ second le
  ]
    where
      first : k < length (entry_places M n start [] w []) → (there : Config) × ((invoked M (Some start) k f args w).last ≡ Some there) × (at ≡ place_of there)
      first lt =
          let x = run_function M n start (function_at M.program start) [] w [] in
          let r = function_reached M n k start (function_at M.program start) [] w [] at (sym (get_front (entry_places M n start [] w []) (places_on M x.what x.left f args) k lt) ∙ e) in
          (r.there, ap (λ (x : Ended). (go_on M x.what x.left f args).last) r.is, r.place)

      behind : (s : Stepped) (l j : ℕ) → run_function M n start (function_at M.program start) [] w [] ≡ ended s l → k ≡ length (entry_places M n start [] w []) + j → slice_get (places_on M s l f args) j ≡ Some at → (there : Config) × ((invoked M (Some start) k f args w).last ≡ Some there) × (at ≡ place_of there)
      behind (ends u vs co) l j is at_k q =
          let r = function_reached M l j f (function_at M.program f) args u co at q in
          let b = function_ends M n start (function_at M.program start) [] w [] u vs co l is in
          let count = function_count M n start (function_at M.program start) [] w [] in
          let left : (run_function M n start (function_at M.program start) [] w []).left ≡ l = ap (λ (x : Ended). x.left) is in
          let all : k ≡ suc b.made + j = omega (arith, at_k, count, left, b.all) in (
            r.there,
            ap (λ i. (let x = run_function M i start (function_at M.program start) [] w [] in go_on M x.what x.left f args).last) all
                ∙ ap (λ (x : Ended). (go_on M x.what x.left f args).last) (b.always j)
                ∙ ap (λ (x : Ended). (ran_to true x.what x.left).last) r.is,
            r.place,
          )
      behind (next c) l j is at_k q = absurd (cc)
      behind (traps kind c) l j is at_k q = absurd (cc)
      behind (no_reply call c) l j is at_k q = absurd (cc)
      behind (bad_reply call r c) l j is at_k q = absurd (cc)
      behind stuck l j is at_k q = absurd (cc)

      second : length (entry_places M n start [] w []) ≤ k → (there : Config) × ((invoked M (Some start) k f args w).last ≡ Some there) × (at ≡ place_of there)
      second le =
          let x = run_function M n start (function_at M.program start) [] w [] in
          let places = entry_places M n start [] w [] in
          let j = k - length (entry_places M n start [] w []) in
          let at_k : k ≡ length (entry_places M n start [] w []) + (k - length (entry_places M n start [] w [])) = omega (arith, le) in
          behind x.what x.left j refl at_k (sym (get_behind places (places_on M x.what x.left f args) j) ∙ ap (slice_get (places ++ places_on M x.what x.left f args)) (sym at_k) ∙ e)
