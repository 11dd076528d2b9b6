-- Of calls by names and by entries of the table: an outcome other than `running` stays the same for every greater number of steps.
use Rattle.std.proofs.Common.{◌≡◌, ◌≢◌, ℕ, zero, suc, ◌+◌, ◌-◌, ◌≤◌, Bool, true, false, List, [], ◌∷◌, slice_get, if◌then◌else◌, Option, Some, None, refl, sym, ap, subst, subst₂, ◌∙◌, arith}
use Rattle.wasm_syntax.specs.declared.value.Value.{Value}
use Rattle.wasm_syntax.specs.declared.host.Reply.{Reply}
use Rattle.wasm_syntax.specs.declared.host.CollectorCall.{CollectorCall}
use Rattle.wasm_syntax.specs.Module.{Program, function_at}
use Rattle.wasm_syntax.specs.Host.{World}
use Rattle.wasm_syntax.specs.Machine.{Engine, Stepped, next, ends, traps, no_reply, bad_reply, stuck}
use Rattle.wasm_syntax.specs.Run.{run_function, Outcome, running, Ran, ran_to, not_begun, run_entry, go_on, invoked, goes_on, fresh, Cause, engine, start_world}
use Rattle.wasm_laws.specs.calls.Runs.{with_more, Stay}
use Rattle.wasm_laws.proofs.Longer.{function_more, over_of, over_start}
use Rattle.rewrite_modules.specs.Entries.{Calling, function_of, cause_of_calls, call_session, unless_cause, run_calls}
use Rattle.rewrite_modules.proofs.BareCalls.{rest_of, calls_some, calls_none}
use Rattle.pm_text.proofs.Lists.{some_is}

module _ (M : Engine) (more : ℕ) where
  ran_more : (q : Bool) (s : Stepped) (left : ℕ) → ran_to q s (left + more) ≡ with_more more (ran_to q s left)
  ran_more q (next c) left = refl
  ran_more q (ends w vs co) left = refl
  ran_more q (traps k c) left = refl
  ran_more q (no_reply call c) left = refl
  ran_more q (bad_reply call r c) left = refl
  ran_more q stuck left = refl

  entry_more : (n m f : ℕ) → m ≡ n + more → (args : List Value) (w : World) (co : List CollectorCall) → (run_entry M n f args w co).outcome ≢ running → run_entry M m f args w co ≡ with_more more (run_entry M n f args w co)
  entry_more n m f e args w co h =
      let x = run_function M n f (function_at M.program f) args w co in
      ap (λ y. ran_to true y.what y.left) (function_more M more n m f e (function_at M.program f) args w co (over_of M more true x.what x.left h)) ∙ ran_more true x.what x.left

  behind_more : (s : Stepped) (left f : ℕ) (args : List Value) → (go_on M s left f args).outcome ≢ running → go_on M s (left + more) f args ≡ with_more more (go_on M s left f args)
  behind_more (next c) left f args h = absurd (h refl)
  behind_more (ends w vs co) left f args h = entry_more left (left + more) f refl args w co h
  behind_more (traps k c) left f args h = refl
  behind_more (no_reply call c) left f args h = refl
  behind_more (bad_reply call r c) left f args h = refl
  behind_more stuck left f args h = refl

  invoked_more : (start : Option ℕ) (n m f : ℕ) → m ≡ n + more → (args : List Value) (w : World) → (invoked M start n f args w).outcome ≢ running → invoked M start m f args w ≡ with_more more (invoked M start n f args w)
  invoked_more None n m f e args w h = entry_more n m f e args w [] h
  invoked_more (Some s) n m f e args w h =
      let x = run_function M n s (function_at M.program s) [] w [] in
      ap (λ y. go_on M y.what y.left f args) (function_more M more n m s e (function_at M.program s) [] w [] (over_start M more x.what x.left f args h)) ∙ behind_more x.what x.left f args h

  not_running : (o : Outcome) (q : Bool) → goes_on o q ≡ true → o ≢ running
  not_running o q g e = no_going (subst (λ x. goes_on x q ≡ true) e g)
    where
      no_going : false ≡ true → ⊥
      no_going e = cc

  rest_more : (cs : List Calling) (w : World) (r s : Ran) → (r.outcome ≢ running → s ≡ with_more more r) → ((w : World) (n m : ℕ) → m ≡ n + more → Stay more (call_session M cs None w n) (call_session M cs None w m)) → Stay more (r ∷ rest_of M cs w r) (s ∷ rest_of M cs w s)
  rest_more cs w r s same ih zero x e h =
      let n : r.outcome ≢ running = λ z. h (ap (λ y. y.outcome) (sym (some_is e)) ∙ z) in
      ap Some (same n ∙ ap (with_more more) (some_is e))
  rest_more cs w r s same ih (suc i) x e h = by_test (goes_on r.outcome r.entered) refl e
    where
      by_test : (b : Bool) → goes_on r.outcome r.entered ≡ b → slice_get (if b then call_session M cs None (fresh r.last w) r.left else []) i ≡ Some x → slice_get (rest_of M cs w s) i ≡ Some (with_more more x)
      by_test false g e = absurd (cc)
      by_test true g e =
          let t : s ≡ with_more more r = same (not_running r.outcome r.entered g) in
          let inner : slice_get (call_session M cs None (fresh r.last w) (r.left + more)) i ≡ Some (with_more more x) = ih (fresh r.last w) r.left (r.left + more) refl i x e h in
          let there : slice_get (if goes_on r.outcome r.entered then call_session M cs None (fresh r.last w) (r.left + more) else []) i ≡ Some (with_more more x) = rw g inner in
          subst (λ y. slice_get (rest_of M cs w y) i ≡ Some (with_more more x)) (sym t) there

  calls_more : (cs : List Calling) (start : Option ℕ) (w : World) (n m : ℕ) → m ≡ n + more → Stay more (call_session M cs start w n) (call_session M cs start w m)
  calls_more [] start w n m e = λ i r g h. absurd (cc)
  calls_more (c ∷ cs) start w n m e = by_function (function_of M.program.module_ w.table c.target) refl (λ w n m e. calls_more cs None w n m e)
    where
      by_function : (o : Option ℕ) → function_of M.program.module_ w.table c.target ≡ o → ((w : World) (n m : ℕ) → m ≡ n + more → Stay more (call_session M cs None w n) (call_session M cs None w m)) → Stay more (call_session M (c ∷ cs) start w n) (call_session M (c ∷ cs) start w m)
      by_function None q ih = subst₂ (Stay more) (sym (calls_none M c cs start w n q)) (sym (calls_none M c cs start w m q)) (λ j r g h. absurd (cc))
      by_function (Some f) q ih =
          subst₂ (Stay more) (sym (calls_some M c cs start w n f q)) (sym (calls_some M c cs start w m f q)) (rest_more cs w (invoked M start n f c.args w) (invoked M start m f c.args w) (λ h. invoked_more start n m f e c.args w h) ih)

  unless_more : (cs : List Calling) (replies : List Reply) (n m : ℕ) → m ≡ n + more → (c : Option Cause) → Stay more (unless_cause M c cs replies n) (unless_cause M c cs replies m)
  unless_more cs replies n m e None = calls_more cs M.program.module_.start (start_world M.program.module_ replies) n m e
  unless_more cs replies n m e (Some cause) = λ i r g h. one i r g
    where
      one : (i : ℕ) (r : Ran) → slice_get (not_begun cause n ∷ []) i ≡ Some r → slice_get (not_begun cause m ∷ []) i ≡ Some (with_more more r)
      one zero r g = rw e (ap (λ x. Some (with_more more x)) (some_is g))
      one (suc i) r g = absurd (cc)

pub longer_calls : (p : Program) (collecting : Bool) (cs : List Calling) (replies : List Reply) (d n m : ℕ) → n ≤ m → Stay (m - n) (run_calls p collecting cs replies d n) (run_calls p collecting cs replies d m)
longer_calls p collecting cs replies d n m le = unless_more (engine p collecting d) (m - n) cs replies n m (omega (arith, le)) (cause_of_calls p.module_ cs)
