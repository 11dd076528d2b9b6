-- What each step keeps of the frames, the last configuration of each invocation of a run has.
use Rattle.std.proofs.Common.{◌≡◌, ℕ, zero, suc, Bool, true, false, List, [], ◌∷◌, if◌then◌else◌, Option, Some, None, refl, subst}
use Rattle.std.specs.List.{AllByRecursion}
use Rattle.wasm_syntax.specs.declared.value.Value.{Value}
use Rattle.wasm_syntax.specs.declared.parts.FuncType.{FuncType}
use Rattle.wasm_syntax.specs.declared.parts.Body.{Body}
use Rattle.wasm_syntax.specs.declared.host.HostCall.{HostCall}
use Rattle.wasm_syntax.specs.declared.host.Reply.{Reply}
use Rattle.wasm_syntax.specs.declared.host.CollectorCall.{CollectorCall}
use Rattle.wasm_syntax.specs.Tree.{Tree}
use Rattle.wasm_syntax.specs.Module.{Function, imported, defined, function_at, function_export}
use Rattle.wasm_syntax.specs.Host.{World, Answer, replied, told, silent, misfit, answer}
use Rattle.wasm_syntax.specs.Machine.{Frame, Config, config, Engine, Stepped, next, ends, traps, no_reply, bad_reply, stuck, entered, host_call, step}
use Rattle.wasm_syntax.specs.Run.{Ended, run_on, run_steps, host_alone, run_alone, run_function, Ran, ran_to, run_entry, go_on, invoked, start_world, Cause, goes_on, fresh, session, unless, Invocation}
use Rattle.pm_text.proofs.Lists.{some_is}

-- of the frames of a configuration, where there is one
abbrev pub OnFrames : (List Frame → Type 0) → Stepped → Type 0
OnFrames P (next c) = P c.frames
OnFrames P (ends w vs co) = Unit {0}
OnFrames P (traps k c) = P c.frames
OnFrames P (no_reply call c) = P c.frames
OnFrames P (bad_reply call r c) = P c.frames
OnFrames P stuck = Unit {0}

-- of those of the last configuration of an invocation
abbrev pub LastHas : (List Frame → Type 0) → Ran → Type 0
LastHas P r = (c : Config) → r.last ≡ Some c → P c.frames

module _ (M : Engine) (P : List Frame → Type 0) (none : P []) (begins : (f : ℕ) (b : Body) (tree : Tree) (type : FuncType) (args : List Value) → function_at M.program f ≡ Some (defined b tree type) → P (entered f b tree type args ∷ [])) (kept : (c : Config) → P c.frames → OnFrames P (step M c)) where
  on_frames : (go : Config → Ended) (n : ℕ) (r : Stepped) → OnFrames P r → ((c : Config) → P c.frames → OnFrames P (go c).what) → OnFrames P (run_on M go n r).what
  on_frames go n (next c) h ih = ih c h
  on_frames go n (ends w vs co) h ih = tt
  on_frames go n (traps k c) h ih = h
  on_frames go n (no_reply call c) h ih = h
  on_frames go n (bad_reply call r c) h ih = h
  on_frames go n stuck h ih = tt

  steps_keep : (n : ℕ) (c : Config) → P c.frames → OnFrames P (run_steps M n c).what
  steps_keep zero c h = h
  steps_keep (suc n) c h = on_frames (run_steps M n) n (step M c) (kept c h) (steps_keep n)

  host_keeps : (A : Answer) (call : HostCall) (w : World) (co : List CollectorCall) → OnFrames P (host_alone A call w co)
  host_keeps (replied w' v) call w co = tt
  host_keeps (told k) call w co = tt
  host_keeps silent call w co = none
  host_keeps (misfit reply) call w co = none

  alone_keeps : (n : ℕ) (call : HostCall) (w : World) (co : List CollectorCall) → OnFrames P (run_alone M n call w co).what
  alone_keeps zero call w co = none
  alone_keeps (suc n) call w co = host_keeps (answer M.collects M.program.module_ call w) call w co

  function_keeps : (n f : ℕ) (o : Option Function) (args : List Value) (w : World) (co : List CollectorCall) → function_at M.program f ≡ o → OnFrames P (run_function M n f o args w co).what
  function_keeps n f None args w co e = tt
  function_keeps n f (Some (imported import type)) args w co e = alone_keeps n (host_call f import type args) w co
  function_keeps n f (Some (defined body tree type)) args w co e = steps_keep n (config (entered f body tree type args ∷ []) w co) (begins f body tree type args e)

  last_has : (q : Bool) (x : Stepped) (left : ℕ) → OnFrames P x → LastHas P (ran_to q x left)
  last_has q (next c) left h = λ d e. subst (λ o. P o.frames) (some_is e) h
  last_has q (ends w vs co) left h = λ d e. subst (λ o. P o.frames) (some_is e) none
  last_has q (traps k c) left h = λ d e. subst (λ o. P o.frames) (some_is e) h
  last_has q (no_reply call c) left h = λ d e. subst (λ o. P o.frames) (some_is e) h
  last_has q (bad_reply call r c) left h = λ d e. subst (λ o. P o.frames) (some_is e) h
  last_has q stuck left h = λ d e. absurd (cc)

  entry_has : (n f : ℕ) (args : List Value) (w : World) (co : List CollectorCall) → LastHas P (run_entry M n f args w co)
  entry_has n f args w co = let e = run_function M n f (function_at M.program f) args w co in last_has true e.what e.left (function_keeps n f (function_at M.program f) args w co refl)

  behind_has : (x : Stepped) (left f : ℕ) (args : List Value) → OnFrames P x → LastHas P (go_on M x left f args)
  behind_has (next c) left f args h = last_has false (next c) left h
  behind_has (ends w vs co) left f args h = entry_has left f args w co
  behind_has (traps k c) left f args h = last_has false (traps k c) left h
  behind_has (no_reply call c) left f args h = last_has false (no_reply call c) left h
  behind_has (bad_reply call r c) left f args h = last_has false (bad_reply call r c) left h
  behind_has stuck left f args h = last_has false stuck left h

  invoked_has : (st : Option ℕ) (n f : ℕ) (args : List Value) (w : World) → LastHas P (invoked M st n f args w)
  invoked_has None n f args w = entry_has n f args w []
  invoked_has (Some g) n f args w =
      let e = run_function M n g (function_at M.program g) [] w [] in
      behind_has e.what e.left f args (function_keeps n g (function_at M.program g) [] w [] refl)

  -- ---- lists of invocations

  session_has : (is : List Invocation) (st : Option ℕ) (w : World) (n : ℕ) → AllByRecursion (LastHas P) (session M is st w n)
  session_has [] st w n = tt
  session_has (i ∷ is) st w n = by_export (function_export M.program.module_ i.name) (λ w' n'. session_has is None w' n')
    where
      rest_has : (q : Bool) (rs : List Ran) → AllByRecursion (LastHas P) rs → AllByRecursion (LastHas P) (if q then rs else [])
      rest_has true rs h = h
      rest_has false rs h = tt

      by_export : (o : Option ℕ) → ((w' : World) (n' : ℕ) → AllByRecursion (LastHas P) (session M is None w' n'))
          → AllByRecursion (LastHas P) (elim o [ None ↦ [] | Some f ↦ let r = invoked M st n f i.args w in r ∷ (if goes_on r.outcome r.entered then session M is None (fresh r.last w) r.left else []) ])
      by_export None ih = tt
      by_export (Some f) ih =
          let r = invoked M st n f i.args w in
          (invoked_has st n f i.args w, rest_has (goes_on r.outcome r.entered) (session M is None (fresh r.last w) r.left) (ih (fresh r.last w) r.left))

  pub unless_has : (c : Option Cause) (is : List Invocation) (replies : List Reply) (n : ℕ) → AllByRecursion (LastHas P) (unless M c is replies n)
  unless_has None is replies n = session_has is M.program.module_.start (start_world M.program.module_ replies) n
  unless_has (Some cause) is replies n = (λ d e. absurd (cc), tt)
