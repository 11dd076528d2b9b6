-- Where a run goes on behind its steps, all of them are made.
use Rattle.std.proofs.Common.{◌≡◌, ℕ, zero, suc, List, [], ◌∷◌, refl}
use Rattle.std.specs.Prelude.{Bool, true, Option, Some, None}
use Rattle.wasm_syntax.specs.declared.value.Value.{Value}
use Rattle.wasm_syntax.specs.declared.host.HostCall.{HostCall}
use Rattle.wasm_syntax.specs.declared.host.CollectorCall.{CollectorCall}
use Rattle.wasm_syntax.specs.Module.{Function, imported, defined, function_at}
use Rattle.wasm_syntax.specs.Host.{World, Answer, replied, told, silent, misfit, answer}
use Rattle.wasm_syntax.specs.Machine.{Engine, Config, config, Stepped, next, ends, traps, no_reply, bad_reply, stuck, step, entered, host_call}
use Rattle.wasm_syntax.specs.Run.{Ended, run_on, run_steps, host_alone, run_alone, run_function, running, ran_to, run_entry, go_on, invoked}

abbrev NoneLeft : Stepped → ℕ → Type 0
NoneLeft (next c) left = left ≡ 0
NoneLeft (ends w vs co) left = Unit {0}
NoneLeft (traps k c) left = Unit {0}
NoneLeft (no_reply call c) left = Unit {0}
NoneLeft (bad_reply call r c) left = Unit {0}
NoneLeft stuck left = Unit {0}

abbrev Spends : Ended → Type 0
Spends e = NoneLeft e.what e.left

ran_spends : (entered : Bool) (s : Stepped) (left : ℕ) → NoneLeft s left → (ran_to entered s left).outcome ≡ running → (ran_to entered s left).left ≡ 0
ran_spends entered (next c) left h e = h
ran_spends entered (ends w vs co) left h e = absurd (cc)
ran_spends entered (traps k c) left h e = absurd (cc)
ran_spends entered (no_reply call c) left h e = absurd (cc)
ran_spends entered (bad_reply call r c) left h e = absurd (cc)
ran_spends entered stuck left h e = absurd (cc)

module _ (M : Engine) where
  on_spends : (n : ℕ) (s : Stepped) → ((c : Config) → Spends (run_steps M n c)) → Spends (run_on M (run_steps M n) n s)
  on_spends n (next c) ih = ih c
  on_spends n (ends w vs co) ih = tt
  on_spends n (traps k c) ih = tt
  on_spends n (no_reply call c) ih = tt
  on_spends n (bad_reply call r c) ih = tt
  on_spends n stuck ih = tt

  steps_spend : (n : ℕ) (c : Config) → Spends (run_steps M n c)
  steps_spend zero c = refl
  steps_spend (suc n) c = on_spends n (step M c) (λ c. steps_spend n c)

  host_spends : (a : Answer) (call : HostCall) (w : World) (co : List CollectorCall) (n : ℕ) → NoneLeft (host_alone a call w co) n
  host_spends (replied w' v) call w co n = tt
  host_spends (told k) call w co n = tt
  host_spends silent call w co n = tt
  host_spends (misfit reply) call w co n = tt

  alone_spends : (n : ℕ) (call : HostCall) (w : World) (co : List CollectorCall) → Spends (run_alone M n call w co)
  alone_spends zero call w co = refl
  alone_spends (suc n) call w co = host_spends (answer M.collects M.program.module_ call w) call w co n

  function_spends : (n f : ℕ) (fn : Option Function) (args : List Value) (w : World) (co : List CollectorCall) → Spends (run_function M n f fn args w co)
  function_spends n f None args w co = tt
  function_spends n f (Some (imported i type)) args w co = alone_spends n (host_call f i type args) w co
  function_spends n f (Some (defined body tree type)) args w co = steps_spend n (config (entered f body tree type args ∷ []) w co)

  entry_spends : (n f : ℕ) (args : List Value) (w : World) (co : List CollectorCall) → (run_entry M n f args w co).outcome ≡ running → (run_entry M n f args w co).left ≡ 0
  entry_spends n f args w co e =
      let x = run_function M n f (function_at M.program f) args w co in
      ran_spends true x.what x.left (function_spends n f (function_at M.program f) args w co) e

  behind_spends : (s : Stepped) (n f : ℕ) (args : List Value) → NoneLeft s n → (go_on M s n f args).outcome ≡ running → (go_on M s n f args).left ≡ 0
  behind_spends (next c) n f args h e = h
  behind_spends (ends w vs co) n f args h e = entry_spends n f args w co e
  behind_spends (traps k c) n f args h e = absurd (cc)
  behind_spends (no_reply call c) n f args h e = absurd (cc)
  behind_spends (bad_reply call r c) n f args h e = absurd (cc)
  behind_spends stuck n f args h e = absurd (cc)

  pub invoked_spends : (start : Option ℕ) (n f : ℕ) (args : List Value) (w : World) → (invoked M start n f args w).outcome ≡ running → (invoked M start n f args w).left ≡ 0
  invoked_spends None n f args w e = entry_spends n f args w [] e
  invoked_spends (Some s) n f args w e =
      let x = run_function M n s (function_at M.program s) [] w [] in
      behind_spends x.what x.left f args (function_spends n s (function_at M.program s) [] w []) e
