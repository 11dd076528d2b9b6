-- Fewer steps change nothing but how many of them are left, as long as no more are taken away than were left.
use Rattle.std.proofs.Common.{◌≡◌, ℕ, zero, suc, ◌+◌, ◌-◌, ◌≤◌, Bool, true, false, List, [], ◌∷◌, map, if◌then◌else◌, Option, Some, None, refl, sym, ap, subst, ◌∙◌, arith, unwrap_or}
use Rattle.wasm_syntax.specs.declared.value.Value.{Value}
use Rattle.wasm_syntax.specs.declared.host.HostCall.{HostCall}
use Rattle.wasm_syntax.specs.declared.host.Reply.{Reply}
use Rattle.wasm_syntax.specs.declared.host.CollectorCall.{CollectorCall}
use Rattle.wasm_syntax.specs.Module.{Program, Function, imported, defined, function_at, function_export}
use Rattle.wasm_syntax.specs.Host.{World, answer}
use Rattle.wasm_syntax.specs.Machine.{Engine, Config, config, Stepped, next, ends, traps, no_reply, bad_reply, stuck, step, entered, host_call}
use Rattle.wasm_syntax.specs.Run.{Ended, ended, run_on, run_steps, host_alone, run_alone, run_function, Ran, ran_to, run_entry, go_on, invoked, goes_on, fresh, Invocation, session, unless, run, cause_of, Cause, engine, start_world}
use Rattle.machine_hosted.proofs.JoinLaws.{left_is}

abbrev pub last_of : List Ran → Option Ran
last_of [] = None
last_of (r ∷ []) = Some r
last_of (r ∷ q ∷ rs) = last_of (q ∷ rs)

abbrev pub with_left : Ran → ℕ → Ran
with_left r n = record r { left = n }

-- the same with fewer steps left
abbrev pub less_left : ℕ → Ran → Ran
less_left d r = with_left r (r.left - d)

abbrev less : ℕ → Ended → Ended
less d e = ended e.what (e.left - d)

-- ---- numbers of steps

pub itself : (n : ℕ) → n ≤ n
itself n = omega arith

up : (l n : ℕ) → l ≤ n → l ≤ suc n
up l n le = omega arith

through : (a b c : ℕ) → a ≤ b → b ≤ c → a ≤ c
through a b c one two = omega arith

none_less : (d : ℕ) → 0 ≡ 0 - d
none_less d = omega arith

rest_of : (n m d : ℕ) → n ≡ m + d → m ≡ n - d
rest_of n m d e = omega arith

whole_of : (n d l : ℕ) → l ≤ n → d ≤ l → n ≡ (n - d) + d
whole_of n d l le few = omega arith

not_both : (n d l : ℕ) → l ≤ n → d ≤ l → suc n ≡ 0 + d → ⊥
not_both n d l le few e = omega arith

none_more : (m d : ℕ) → 0 ≡ suc m + d → ⊥
none_more m d e = omega arith

before_both : (n m d : ℕ) → suc n ≡ suc m + d → n ≡ m + d
before_both n m d e = omega arith

-- ---- no more is left than there was

module _ (M : Engine) where
  on_left : (n : ℕ) → ((c : Config) → (run_steps M n c).left ≤ n) → (s : Stepped) → (run_on M (run_steps M n) n s).left ≤ n
  on_left n ih (next c) = ih c
  on_left n ih (ends w vs co) = itself n
  on_left n ih (traps k c) = itself n
  on_left n ih (no_reply call c) = itself n
  on_left n ih (bad_reply call r c) = itself n
  on_left n ih stuck = itself n

  steps_left : (n : ℕ) (c : Config) → (run_steps M n c).left ≤ n
  steps_left zero c = itself 0
  steps_left (suc n) c = up (run_on M (run_steps M n) n (step M c)).left n (on_left n (steps_left n) (step M c))

  alone_left : (n : ℕ) (call : HostCall) (w : World) (co : List CollectorCall) → (run_alone M n call w co).left ≤ n
  alone_left zero call w co = itself 0
  alone_left (suc n) call w co = up n n (itself n)

  function_left : (n f : ℕ) (fn : Option Function) (args : List Value) (w : World) (co : List CollectorCall) → (run_function M n f fn args w co).left ≤ n
  function_left n f None args w co = itself n
  function_left n f (Some (imported i type)) args w co = alone_left n (host_call f i type args) w co
  function_left n f (Some (defined body tree type)) args w co = steps_left n (config (entered f body tree type args ∷ []) w co)

ran_fewer : (d : ℕ) (q : Bool) (s : Stepped) (left : ℕ) → ran_to q s (left - d) ≡ less_left d (ran_to q s left)
ran_fewer d q (next c) left = refl
ran_fewer d q (ends w vs co) left = refl
ran_fewer d q (traps k c) left = refl
ran_fewer d q (no_reply call c) left = refl
ran_fewer d q (bad_reply call r c) left = refl
ran_fewer d q stuck left = refl

module _ (M : Engine) where
  entry_left : (n f : ℕ) (args : List Value) (w : World) (co : List CollectorCall) → (run_entry M n f args w co).left ≤ n
  entry_left n f args w co =
      let e = run_function M n f (function_at M.program f) args w co in
      subst (λ l. l ≤ n) (sym (left_is true e.what e.left)) (function_left M n f (function_at M.program f) args w co)

  behind_left : (s : Stepped) (n f : ℕ) (args : List Value) → (go_on M s n f args).left ≤ n
  behind_left (next c) n f args = itself n
  behind_left (ends w vs co) n f args = entry_left n f args w co
  behind_left (traps k c) n f args = itself n
  behind_left (no_reply call c) n f args = itself n
  behind_left (bad_reply call r c) n f args = itself n
  behind_left stuck n f args = itself n

  pub invoked_left : (start : Option ℕ) (n f : ℕ) (args : List Value) (w : World) → (invoked M start n f args w).left ≤ n
  invoked_left None n f args w = entry_left n f args w []
  invoked_left (Some s) n f args w =
      let e = run_function M n s (function_at M.program s) [] w [] in
      through (go_on M e.what e.left f args).left e.left n (behind_left e.what e.left f args) (function_left M n s (function_at M.program s) [] w [])

-- ---- one function

module _ (M : Engine) (d : ℕ) where
  on_fewer : (n m : ℕ) → n ≡ m + d → ((c : Config) → d ≤ (run_steps M n c).left → run_steps M m c ≡ less d (run_steps M n c)) → (s : Stepped) → d ≤ (run_on M (run_steps M n) n s).left → run_on M (run_steps M m) m s ≡ less d (run_on M (run_steps M n) n s)
  on_fewer n m e ih (next c) few = ih c few
  on_fewer n m e ih (ends w vs co) few = ap (ended (ends w vs co)) (rest_of n m d e)
  on_fewer n m e ih (traps k c) few = ap (ended (traps k c)) (rest_of n m d e)
  on_fewer n m e ih (no_reply call c) few = ap (ended (no_reply call c)) (rest_of n m d e)
  on_fewer n m e ih (bad_reply call r c) few = ap (ended (bad_reply call r c)) (rest_of n m d e)
  on_fewer n m e ih stuck few = ap (ended stuck) (rest_of n m d e)

  steps_fewer : (n m : ℕ) → n ≡ m + d → (c : Config) → d ≤ (run_steps M n c).left → run_steps M m c ≡ less d (run_steps M n c)
  steps_fewer zero zero e c few = ap (ended (next c)) (none_less d)
  steps_fewer zero (suc m) e c few = absurd (none_more m d e)
  steps_fewer (suc n) zero e c few = absurd (not_both n d (run_on M (run_steps M n) n (step M c)).left (on_left M n (steps_left M n) (step M c)) few e)
  steps_fewer (suc n) (suc m) e c few = let e' : n ≡ m + d = before_both n m d e in on_fewer n m e' (λ c few. steps_fewer n m e' c few) (step M c) few

  alone_fewer : (n m : ℕ) → n ≡ m + d → (call : HostCall) (w : World) (co : List CollectorCall) → d ≤ (run_alone M n call w co).left → run_alone M m call w co ≡ less d (run_alone M n call w co)
  alone_fewer zero zero e call w co few = ap (ended (next (config [] w co))) (none_less d)
  alone_fewer zero (suc m) e call w co few = absurd (none_more m d e)
  alone_fewer (suc n) zero e call w co few = absurd (not_both n d n (itself n) few e)
  alone_fewer (suc n) (suc m) e call w co few = ap (ended (host_alone (answer M.collects M.program.module_ call w) call w co)) (rest_of n m d (before_both n m d e))

  function_fewer : (n m f : ℕ) → n ≡ m + d → (fn : Option Function) (args : List Value) (w : World) (co : List CollectorCall) → d ≤ (run_function M n f fn args w co).left → run_function M m f fn args w co ≡ less d (run_function M n f fn args w co)
  function_fewer n m f e None args w co few = ap (ended stuck) (rest_of n m d e)
  function_fewer n m f e (Some (imported i type)) args w co few = alone_fewer n m e (host_call f i type args) w co few
  function_fewer n m f e (Some (defined body tree type)) args w co few = steps_fewer n m e (config (entered f body tree type args ∷ []) w co) few

  -- ---- the start function and the entry

  entry_fewer : (n m f : ℕ) → n ≡ m + d → (args : List Value) (w : World) (co : List CollectorCall) → d ≤ (run_entry M n f args w co).left → run_entry M m f args w co ≡ less_left d (run_entry M n f args w co)
  entry_fewer n m f e args w co few =
      let x = run_function M n f (function_at M.program f) args w co in
      let few' : d ≤ x.left = subst (λ l. d ≤ l) (left_is true x.what x.left) few in
      ap (λ y. ran_to true y.what y.left) (function_fewer n m f e (function_at M.program f) args w co few') ∙ ran_fewer d true x.what x.left

  behind_fewer : (s : Stepped) (n m f : ℕ) → n ≡ m + d → (args : List Value) → d ≤ (go_on M s n f args).left → go_on M s m f args ≡ less_left d (go_on M s n f args)
  behind_fewer (next c) n m f e args few = ap (ran_to false (next c)) (rest_of n m d e)
  behind_fewer (ends w vs co) n m f e args few = entry_fewer n m f e args w co few
  behind_fewer (traps k c) n m f e args few = ap (ran_to false (traps k c)) (rest_of n m d e)
  behind_fewer (no_reply call c) n m f e args few = ap (ran_to false (no_reply call c)) (rest_of n m d e)
  behind_fewer (bad_reply call r c) n m f e args few = ap (ran_to false (bad_reply call r c)) (rest_of n m d e)
  behind_fewer stuck n m f e args few = ap (ran_to false stuck) (rest_of n m d e)

  pub invoked_fewer : (start : Option ℕ) (n m f : ℕ) → n ≡ m + d → (args : List Value) (w : World) → d ≤ (invoked M start n f args w).left → invoked M start m f args w ≡ less_left d (invoked M start n f args w)
  invoked_fewer None n m f e args w few = entry_fewer n m f e args w [] few
  invoked_fewer (Some s) n m f e args w few =
      let x = run_function M n s (function_at M.program s) [] w [] in
      let few' : d ≤ x.left = through d (go_on M x.what x.left f args).left x.left few (behind_left M x.what x.left f args) in
      ap (λ y. go_on M y.what y.left f args) (function_fewer n m s e (function_at M.program s) [] w [] few')
      ∙ behind_fewer x.what x.left (x.left - d) f (whole_of x.left d x.left (itself x.left) few') args few

-- ---- with the difference written out

pub fewer_run : (M : Engine) (n d : ℕ) (c : Config) → d ≤ (run_steps M n c).left → run_steps M (n - d) c ≡ ended (run_steps M n c).what ((run_steps M n c).left - d)
fewer_run M n d c few = steps_fewer M d n (n - d) (whole_of n d (run_steps M n c).left (steps_left M n c) few) c few

pub fewer_alone : (M : Engine) (n d : ℕ) (call : HostCall) (w : World) (co : List CollectorCall) → d ≤ (run_alone M n call w co).left → run_alone M (n - d) call w co ≡ ended (run_alone M n call w co).what ((run_alone M n call w co).left - d)
fewer_alone M n d call w co few = alone_fewer M d n (n - d) (whole_of n d (run_alone M n call w co).left (alone_left M n call w co) few) call w co few

pub fewer_function : (M : Engine) (n d f : ℕ) (fn : Option Function) (args : List Value) (w : World) (co : List CollectorCall) → d ≤ (run_function M n f fn args w co).left → run_function M (n - d) f fn args w co ≡ ended (run_function M n f fn args w co).what ((run_function M n f fn args w co).left - d)
fewer_function M n d f fn args w co few = function_fewer M d n (n - d) f (whole_of n d (run_function M n f fn args w co).left (function_left M n f fn args w co) few) fn args w co few

pub fewer_steps : (M : Engine) (start : Option ℕ) (n d f : ℕ) (args : List Value) (w : World) → d ≤ (invoked M start n f args w).left → invoked M start (n - d) f args w ≡ with_left (invoked M start n f args w) ((invoked M start n f args w).left - d)
fewer_steps M start n d f args w few = invoked_fewer M d start n (n - d) f (whole_of n d (invoked M start n f args w).left (invoked_left M start n f args w) few) args w few

-- ---- lists of invocations

-- of so many steps, behind these invocations
abbrev pub left_behind : ℕ → List Ran → ℕ
left_behind n [] = n
left_behind n (r ∷ rs) = left_behind r.left rs

left_of_last : (n : ℕ) (rs : List Ran) (x : Ran) → last_of rs ≡ Some x → left_behind n rs ≡ x.left
left_of_last n [] x e = absurd (cc)
left_of_last n (r ∷ []) x e = ap (λ (o : Option Ran). (unwrap_or o r).left) e
left_of_last n (r ∷ q ∷ rs) x e = left_of_last r.left (q ∷ rs) x e

module _ (M : Engine) where
  abbrev rest : List Invocation → World → Ran → List Ran
  rest is w r = if goes_on r.outcome r.entered then session M is None (fresh r.last w) r.left else []

  rest_left : (is : List Invocation) (w : World) (n : ℕ) (q : Bool) → ((w : World) (n : ℕ) → left_behind n (session M is None w n) ≤ n) → left_behind n (if q then session M is None w n else []) ≤ n
  rest_left is w n true ih = ih w n
  rest_left is w n false ih = itself n

  session_left : (is : List Invocation) (start : Option ℕ) (w : World) (n : ℕ) → left_behind n (session M is start w n) ≤ n
  session_left [] start w n = itself n
  session_left (i ∷ is) start w n = by_export (function_export M.program.module_ i.name) refl (λ w n. session_left is None w n)
    where
      by_export : (o : Option ℕ) → function_export M.program.module_ i.name ≡ o → ((w : World) (n : ℕ) → left_behind n (session M is None w n) ≤ n) → left_behind n (session M (i ∷ is) start w n) ≤ n
      by_export None e ih = rw (e, session) (itself n)
      by_export (Some f) e ih =
          let r = invoked M start n f i.args w in
          rw (e, session) (through (left_behind r.left (rest is w r)) r.left n (rest_left is (fresh r.last w) r.left (goes_on r.outcome r.entered) ih) (invoked_left M start n f i.args w))

  module _ (d : ℕ) where
    abbrev Fewer : List Invocation → Type 0
    Fewer is = (w : World) (n : ℕ) → d ≤ left_behind n (session M is None w n) → session M is None w (n - d) ≡ map (less_left d) (session M is None w n)

    rest_fewer : (is : List Invocation) (w : World) (n : ℕ) (q : Bool) → Fewer is → d ≤ left_behind n (if q then session M is None w n else []) → (if q then session M is None w (n - d) else []) ≡ map (less_left d) (if q then session M is None w n else [])
    rest_fewer is w n true ih few = ih w n few
    rest_fewer is w n false ih few = refl

    invocation_fewer : (is : List Invocation) (w : World) (n : ℕ) (r s : Ran) → (d ≤ r.left → s ≡ less_left d r) → Fewer is → d ≤ left_behind n (r ∷ rest is w r) → s ∷ rest is w s ≡ map (less_left d) (r ∷ rest is w r)
    invocation_fewer is w n r s same ih few =
        let few' : d ≤ r.left = through d (left_behind r.left (rest is w r)) r.left few (rest_left is (fresh r.last w) r.left (goes_on r.outcome r.entered) (λ w n. session_left is None w n)) in
        ap (λ x. x ∷ rest is w x) (same few')
        ∙ ap (λ l. less_left d r ∷ l) (rest_fewer is (fresh r.last w) r.left (goes_on r.outcome r.entered) ih few)

    session_fewer : (is : List Invocation) (start : Option ℕ) (w : World) (n : ℕ) → d ≤ left_behind n (session M is start w n) → session M is start w (n - d) ≡ map (less_left d) (session M is start w n)
    session_fewer [] start w n = λ few. refl
    session_fewer (i ∷ is) start w n = by_export (function_export M.program.module_ i.name) refl (λ w n few. session_fewer is None w n few)
      where
        by_export : (o : Option ℕ) → function_export M.program.module_ i.name ≡ o → Fewer is → d ≤ left_behind n (session M (i ∷ is) start w n) → session M (i ∷ is) start w (n - d) ≡ map (less_left d) (session M (i ∷ is) start w n)
        by_export None e ih = rw (e, session) (λ few. refl)
        by_export (Some f) e ih = rw (e, session) (invocation_fewer is w n (invoked M start n f i.args w) (invoked M start (n - d) f i.args w) (λ few. fewer_steps M start n d f i.args w few) ih)

    unless_fewer : (is : List Invocation) (replies : List Reply) (n : ℕ) (c : Option Cause) → d ≤ left_behind n (unless M c is replies n) → unless M c is replies (n - d) ≡ map (less_left d) (unless M c is replies n)
    unless_fewer is replies n None few = session_fewer is M.program.module_.start (start_world M.program.module_ replies) n few
    unless_fewer is replies n (Some cause) few = refl

pub fewer_list : (M : Engine) (is : List Invocation) (start : Option ℕ) (w : World) (n d : ℕ) (last : Ran) → last_of (session M is start w n) ≡ Some last → d ≤ last.left → session M is start w (n - d) ≡ map (less_left d) (session M is start w n)
fewer_list M is start w n d last e few = session_fewer M d is start w n (subst (λ l. d ≤ l) (sym (left_of_last n (session M is start w n) last e)) few)

pub fewer_in_run : (p : Program) (collecting : Bool) (is : List Invocation) (replies : List Reply) (depth n d : ℕ) (last : Ran) → last_of (run p collecting is replies depth n) ≡ Some last → d ≤ last.left → run p collecting is replies depth (n - d) ≡ map (less_left d) (run p collecting is replies depth n)
fewer_in_run p collecting is replies depth n d last e few = unless_fewer (engine p collecting depth) d is replies n (cause_of p.module_ is) (subst (λ l. d ≤ l) (sym (left_of_last n (run p collecting is replies depth n) last e)) few)
