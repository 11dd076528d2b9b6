-- An outcome other than `running` stays the same for every greater number of steps.
use Rattle.std.proofs.Common.{◌≡◌, ◌≢◌, ℕ, zero, suc, ◌+◌, ◌-◌, ◌≤◌, Bool, true, false, List, [], ◌∷◌, slice_get, if◌then◌else◌, Option, Some, None, refl, sym, ap, subst, ◌∙◌, arith}
use Rattle.wasm_syntax.specs.declared.value.Value.{Value}
use Rattle.wasm_syntax.specs.declared.host.HostCall.{HostCall}
use Rattle.wasm_syntax.specs.declared.host.Reply.{Reply}
use Rattle.wasm_syntax.specs.declared.host.CollectorCall.{CollectorCall}
use Rattle.wasm_syntax.specs.Module.{Program, Function, imported, defined, function_at, function_export}
use Rattle.wasm_syntax.specs.Host.{World, answer}
use Rattle.wasm_syntax.specs.Machine.{Engine, Config, config, Stepped, next, ends, traps, no_reply, bad_reply, stuck, step, entered, host_call}
use Rattle.wasm_syntax.specs.Run.{Ended, ended, run_on, run_steps, host_alone, run_alone, run_function, Outcome, running, Ran, ran_to, not_begun, run_entry, go_on, invoked, goes_on, fresh, session, unless, run, cause_of, Cause, Invocation, engine, start_world}
use Rattle.wasm_laws.specs.calls.Runs.{with_more, Stay}
use Rattle.pm_text.proofs.Lists.{some_is}

-- it is over
abbrev pub Over : Stepped → Type 0
Over (next c) = ⊥
Over (ends w vs co) = Unit {0}
Over (traps k c) = Unit {0}
Over (no_reply call c) = Unit {0}
Over (bad_reply call r c) = Unit {0}
Over stuck = Unit {0}

-- what comes of more steps
abbrev pub more_left : ℕ → Ended → Ended
more_left more e = ended e.what (e.left + more)

module _ (M : Engine) (more : ℕ) where
  on_more : (n m : ℕ) → m ≡ n + more → ((c : Config) → Over (run_steps M n c).what → run_steps M m c ≡ more_left more (run_steps M n c)) → (s : Stepped) → Over (run_on M (run_steps M n) n s).what → run_on M (run_steps M m) m s ≡ more_left more (run_on M (run_steps M n) n s)
  on_more n m e ih (next c) h = ih c h
  on_more n m e ih (ends w vs co) h = ap (ended (ends w vs co)) e
  on_more n m e ih (traps k c) h = ap (ended (traps k c)) e
  on_more n m e ih (no_reply call c) h = ap (ended (no_reply call c)) e
  on_more n m e ih (bad_reply call r c) h = ap (ended (bad_reply call r c)) e
  on_more n m e ih stuck h = ap (ended stuck) e

  steps_more : (n m : ℕ) → m ≡ n + more → (c : Config) → Over (run_steps M n c).what → run_steps M m c ≡ more_left more (run_steps M n c)
  steps_more zero m e c h = absurd h
  steps_more (suc n) zero e c h = absurd (omega (arith, e))
  steps_more (suc n) (suc m) e c h = let e' : m ≡ n + more = omega (arith, e) in on_more n m e' (λ c h. steps_more n m e' c h) (step M c) h

  alone_more : (n m : ℕ) → m ≡ n + more → (call : HostCall) (w : World) (co : List CollectorCall) → Over (run_alone M n call w co).what → run_alone M m call w co ≡ more_left more (run_alone M n call w co)
  alone_more zero m e call w co h = absurd h
  alone_more (suc n) zero e call w co h = absurd (omega (arith, e))
  alone_more (suc n) (suc m) e call w co h = let e' : m ≡ n + more = omega (arith, e) in ap (ended (host_alone (answer M.collects M.program.module_ call w) call w co)) e'

  pub function_more : (n m f : ℕ) → m ≡ n + more → (fn : Option Function) (args : List Value) (w : World) (co : List CollectorCall) → Over (run_function M n f fn args w co).what → run_function M m f fn args w co ≡ more_left more (run_function M n f fn args w co)
  function_more n m f e None args w co h = ap (ended stuck) e
  function_more n m f e (Some (imported i type)) args w co h = alone_more n m e (host_call f i type args) w co h
  function_more n m f e (Some (defined body tree type)) args w co h = steps_more n m e (config (entered f body tree type args ∷ []) w co) h

  pub over_of : (q : Bool) (s : Stepped) (left : ℕ) → (ran_to q s left).outcome ≢ running → Over s
  over_of q (next c) left h = h refl
  over_of q (ends w vs co) left h = tt
  over_of q (traps k c) left h = tt
  over_of q (no_reply call c) left h = tt
  over_of q (bad_reply call r c) left h = tt
  over_of q stuck left h = tt

  ran_more : (q : Bool) (s : Stepped) (left : ℕ) → ran_to q s (left + more) ≡ with_more more (ran_to q s left)
  ran_more q (next c) left = refl
  ran_more q (ends w vs co) left = refl
  ran_more q (traps k c) left = refl
  ran_more q (no_reply call c) left = refl
  ran_more q (bad_reply call r c) left = refl
  ran_more q stuck left = refl

  entry_more : (n m f : ℕ) → m ≡ n + more → (args : List Value) (w : World) (co : List CollectorCall) → (run_entry M n f args w co).outcome ≢ running → run_entry M m f args w co ≡ with_more more (run_entry M n f args w co)
  entry_more n m f e args w co h =
      let x = run_function M n f (function_at M.program f) args w co in
      ap (λ y. ran_to true y.what y.left) (function_more n m f e (function_at M.program f) args w co (over_of true x.what x.left h)) ∙ ran_more true x.what x.left

  pub over_start : (s : Stepped) (n f : ℕ) (args : List Value) → (go_on M s n f args).outcome ≢ running → Over s
  over_start (next c) n f args h = h refl
  over_start (ends w vs co) n f args h = tt
  over_start (traps k c) n f args h = tt
  over_start (no_reply call c) n f args h = tt
  over_start (bad_reply call r c) n f args h = tt
  over_start stuck n f args h = tt

  behind_more : (s : Stepped) (left f : ℕ) (args : List Value) → (go_on M s left f args).outcome ≢ running → go_on M s (left + more) f args ≡ with_more more (go_on M s left f args)
  behind_more (next c) left f args h = absurd (h refl)
  behind_more (ends w vs co) left f args h = entry_more left (left + more) f refl args w co h
  behind_more (traps k c) left f args h = refl
  behind_more (no_reply call c) left f args h = refl
  behind_more (bad_reply call r c) left f args h = refl
  behind_more stuck left f args h = refl

  invoked_more : (start : Option ℕ) (n m f : ℕ) → m ≡ n + more → (args : List Value) (w : World) → (invoked M start n f args w).outcome ≢ running → invoked M start m f args w ≡ with_more more (invoked M start n f args w)
  invoked_more None n m f e args w h = entry_more n m f e args w [] h
  invoked_more (Some s) n m f e args w h =
      let x = run_function M n s (function_at M.program s) [] w [] in
      ap (λ y. go_on M y.what y.left f args) (function_more n m s e (function_at M.program s) [] w [] (over_start x.what x.left f args h)) ∙ behind_more x.what x.left f args h

  not_running : (o : Outcome) (q : Bool) → goes_on o q ≡ true → o ≢ running
  not_running o q g e = no_going (subst (λ x. goes_on x q ≡ true) e g)
    where
      no_going : false ≡ true → ⊥
      no_going e = cc

  abbrev rest : List Invocation → World → Ran → List Ran
  rest is w r = if goes_on r.outcome r.entered then session M is None (fresh r.last w) r.left else []

  rest_more : (is : List Invocation) (w : World) (r s : Ran) → (r.outcome ≢ running → s ≡ with_more more r) → ((w : World) (n m : ℕ) → m ≡ n + more → Stay more (session M is None w n) (session M is None w m)) → Stay more (r ∷ rest is w r) (s ∷ rest is w s)
  rest_more is w r s same ih zero x e h =
      let n : r.outcome ≢ running = λ z. h (ap (λ y. y.outcome) (sym (some_is e)) ∙ z) in
      ap Some (same n ∙ ap (with_more more) (some_is e))
  rest_more is w r s same ih (suc i) x e h = by_test (goes_on r.outcome r.entered) refl e
    where
      by_test : (b : Bool) → goes_on r.outcome r.entered ≡ b → slice_get (if b then session M is None (fresh r.last w) r.left else []) i ≡ Some x → slice_get (rest is w s) i ≡ Some (with_more more x)
      by_test false g e = absurd (cc)
      by_test true g e =
          let t : s ≡ with_more more r = same (not_running r.outcome r.entered g) in
          let inner : slice_get (session M is None (fresh r.last w) (r.left + more)) i ≡ Some (with_more more x) = ih (fresh r.last w) r.left (r.left + more) refl i x e h in
          let there : slice_get (if goes_on r.outcome r.entered then session M is None (fresh r.last w) (r.left + more) else []) i ≡ Some (with_more more x) = rw g inner in
          subst (λ y. slice_get (rest is w y) i ≡ Some (with_more more x)) (sym t) there

  session_more : (is : List Invocation) (start : Option ℕ) (w : World) (n m : ℕ) → m ≡ n + more → Stay more (session M is start w n) (session M is start w m)
  session_more [] start w n m e = λ i r g h. absurd (cc)
  session_more (i ∷ is) start w n m e = by_export (function_export M.program.module_ i.name) refl (λ w n m e. session_more is None w n m e)
    where
      by_export : (o : Option ℕ) → function_export M.program.module_ i.name ≡ o → ((w : World) (n m : ℕ) → m ≡ n + more → Stay more (session M is None w n) (session M is None w m)) → Stay more (session M (i ∷ is) start w n) (session M (i ∷ is) start w m)
      by_export None q ih = rw (q, session) (λ j r g h. absurd (cc))
      by_export (Some f) q ih = rw (q, session) (rest_more is w (invoked M start n f i.args w) (invoked M start m f i.args w) (λ h. invoked_more start n m f e i.args w h) ih)

  unless_more : (is : List Invocation) (replies : List Reply) (n m : ℕ) → m ≡ n + more → (c : Option Cause) → Stay more (unless M c is replies n) (unless M c is replies m)
  unless_more is replies n m e None = session_more is M.program.module_.start (start_world M.program.module_ replies) n m e
  unless_more is replies n m e (Some cause) = λ i r g h. one i r g
    where
      one : (i : ℕ) (r : Ran) → slice_get (not_begun cause n ∷ []) i ≡ Some r → slice_get (not_begun cause m ∷ []) i ≡ Some (with_more more r)
      one zero r g = rw e (ap (λ x. Some (with_more more x)) (some_is g))
      one (suc i) r g = absurd (cc)

pub longer_run : (p : Program) (collecting : Bool) (is : List Invocation) (replies : List Reply) (d n m : ℕ) → n ≤ m → Stay (m - n) (run p collecting is replies d n) (run p collecting is replies d m)
longer_run p collecting is replies d n m le = unless_more (engine p collecting d) (m - n) is replies n m (omega arith) (cause_of p.module_ is)
