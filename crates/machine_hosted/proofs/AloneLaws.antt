-- A call of an import with no frame, by what the host side answers.
use Rattle.std.proofs.Common.{◌≡◌, ℕ, zero, suc, ◌-◌, ◌<◌, List, [], ◌∷◌, ◌++◌, refl, sym, ap, ap₂, subst, ◌∙◌, arith}
use Rattle.std.proofs.lemmas.List.{append-nil}
use Rattle.std.specs.Prelude.{Bool, true, false, if◌then◌else◌, Option, Some, None, option_map, option_to_list, slice_get}
use Rattle.wasm_syntax.specs.declared.value.Value.{Value}
use Rattle.wasm_syntax.specs.declared.value.ValType.{ValType}
use Rattle.wasm_syntax.specs.declared.parts.Import.{Import}
use Rattle.wasm_syntax.specs.declared.parts.FuncType.{FuncType}
use Rattle.wasm_syntax.specs.declared.host.HostCall.{HostCall}
use Rattle.wasm_syntax.specs.declared.host.Reply.{Reply}
use Rattle.wasm_syntax.specs.declared.host.Served.{Served as ServedCall}
use Rattle.wasm_syntax.specs.declared.host.CollectorCall.{CollectorCall}
use Rattle.wasm_syntax.specs.Module.{Program, option_then}
use Rattle.wasm_syntax.specs.Host.{World, answer, told_or, served_by, if_fits, if_written, if_none, fits_type, after_writes, collector_call}
use Rattle.wasm_syntax.specs.Machine.{Config, config, Stepped, next, ends, no_reply, bad_reply, host_call, first}
use Rattle.wasm_syntax.specs.Run.{ended, engine, host_alone}
use Rattle.linear_memory.specs.Memory.{Memory}
use Rattle.machine_basics.specs.declared.shared.Shared.{Shared}
use Rattle.machine_code.specs.declared.code.Code.{Code}
use Rattle.machine_steps.specs.declared.machine.Machine.{Machine}
use Rattle.machine_steps.specs.calls.Meets.{Shares}
use Rattle.machine_hosted.specs.calls.Safe.{WorldFits, RunFits}
use Rattle.host_devices.specs.calls.Devices.{empty_reply}
use Rattle.host_devices.specs.calls.HostSides.{Calls, Adds, told}
use Rattle.machine_hosted.specs.calls.Hosted.{Going, Asked, Grew, Served, replying}
use Rattle.host_devices.specs.Given.{replies_of}
use Rattle.machine_hosted.specs.declared.answer.RunEnd.{RunEnd}
use Rattle.machine_hosted.specs.declared.answer.RunEnd.TheVariants.{Finished, Trapped, NoReply, BadReply, DeviceFault, FuelSpent, NoMemory}
use Rattle.machine_hosted.specs.inner.Alone.{after_reply, Took, alone}
use Rattle.machine_hosted.specs.calls.Answers.{Keeps, KeepsThen, last_in, AnswersTo, AdmitsReplies, given_steps, FunctionCame, FunctionCameWith, HasCause}
use Rattle.machine_hosted.proofs.WorldLaws.{shares_replying, fits_replying, writes_fit}
use Rattle.pm_text.proofs.Lists.{some_is}

no_result : (b : Bool) (r : Option ValType) (x : Option CollectorCall) (k : CollectorCall) → (if b then if_none r x else None) ≡ Some k → r ≡ None
no_result true None x k e = refl
no_result true (Some t) x k e = absurd (cc)
no_result false r x k e = absurd (cc)

first_of : (v : Option Value) → first (option_to_list v) ≡ v
first_of None = refl
first_of (Some v) = refl

given_some : (answer : RunEnd) (fuel : ℕ) → 0 < fuel → 0 < given_steps answer fuel 1
given_some NoMemory fuel h = omega arith
given_some (Finished value) fuel h = h
given_some (Trapped kind) fuel h = h
given_some NoReply fuel h = h
given_some (DeviceFault name) fuel h = h
given_some (BadReply reply) fuel h = h
given_some FuelSpent fuel h = h

module _ (p : Program) (codes : List Code) (used_up : Import → Bool) (collecting : Bool) (depth index : ℕ) (import : Import) (type : FuncType) (args : List Value) (w : World) (co : List CollectorCall) where
  abbrev call : HostCall
  call = host_call index import type args

  abbrev go : Going
  go = alone (engine p collecting depth) call w co

  abbrev told_here : Option CollectorCall
  told_here = told collecting import call

  -- what the step is, where the host side tells this and these replies are left
  abbrev stepped : Option CollectorCall → List Reply → Stepped
  stepped o replies = host_alone (told_or o call (replying w replies)) call (replying w replies) co

  -- ---- no step

  abbrev nothing : Asked
  nothing = record { given = []; told = [] }

  nothing_grew : (old new : Calls) → new ≡ old → Grew nothing old new
  nothing_grew old new e = record { served = ap (λ (c : Calls). c.served) e ∙ sym (append-nil old.served); collected = ap (λ (c : Calls). c.collected) e ∙ sym (append-nil old.collected) }

  keeps_none : (m : Machine) (u : World) (k : List CollectorCall) → m.stack.frames ≡ [] → Shares m u → Keeps p codes m (config [] u k)
  keeps_none m u k f s = record { frames = f; shares = s }

  nothing_made : (replies : List Reply) (n : ℕ) → n ≡ 0 → go replies n ≡ ended (next (config [] (replying w replies) co)) (n - 0)
  nothing_made replies n e = subst (λ k. go replies k ≡ ended (next (config [] (replying w replies) co)) (k - 0)) (sym e) refl

  pub spent : (m : Machine) (fuel : ℕ) (old new : Calls) → fuel ≡ 0 → new ≡ old → m.stack.frames ≡ [] → Shares m w → FunctionCameWith p codes used_up go w co fuel FuelSpent 0 m old new
  spent m fuel old new z e f s = record {
    asked = nothing;
    grew = nothing_grew old new e;
    came = λ more ad. record {
      what = next (config [] (replying w more) co);
      within = omega arith;
      gives = nothing_made more fuel z;
      answers = (config [] (replying w more) co, refl);
      keeps = λ c q. subst (Keeps p codes m) (some_is q) (keeps_none m (replying w more) co f (shares_replying m w more s));
      served = record { served = refl; collected = refl; left = refl };
      fits = tt;
    };
  }

  pub no_memory : (m : Machine) (fuel : ℕ) (old new : Calls) → new ≡ old → FunctionCameWith p codes used_up go w co fuel NoMemory 0 m old new
  no_memory m fuel old new e = record {
    asked = nothing;
    grew = nothing_grew old new e;
    came = λ more ad. record {
      what = next (config [] (replying w more) co);
      within = omega arith;
      gives = nothing_made more 0 refl;
      answers = tt;
      keeps = λ c q. tt;
      served = record { served = refl; collected = refl; left = refl };
      fits = tt;
    };
  }

  module _ (there : slice_get p.module_.imports index ≡ Some import) (wf : WorldFits p.module_ w) where
    answer_is : (u : World) → answer collecting p.module_ call u ≡ told_or told_here call u
    answer_is u = ap (λ (o : Option Import). told_or (if collecting then if_none call.result (option_then o (λ i. collector_call i args)) else None) call u) there

    one_step : (o : Option CollectorCall) → told_here ≡ o → (replies : List Reply) (n : ℕ) → 0 < n → go replies n ≡ ended (stepped o replies) (n - 1)
    one_step o e replies zero h = absurd (omega (arith, h))
    one_step o e replies (suc n) h =
        let q : suc n - 1 ≡ n = omega arith in
        let u = replying w replies in
        ap (λ a. ended (host_alone a call (replying w replies) co) n) (answer_is (replying w replies) ∙ ap (λ o. told_or o call (replying w replies)) e) ∙ ap (ended (stepped o replies)) (sym q)

    -- ---- what the step keeps

    written_fits : (reply : Reply) (left : List Reply) (u : World) (r : Option (Option Memory)) → WorldFits p.module_ u → after_writes u.memory reply.writes ≡ r → RunFits p.module_ (host_alone (if_written call reply left u r) call u co)
    written_fits reply left u None h e = tt
    written_fits reply left u (Some memory) h e = record { globals = h.globals; memory = writes_fit p.module_.memories u.memory memory reply.writes h.memory e; table = h.table }

    reply_fits : (reply : Reply) (left : List Reply) (u : World) (b : Bool) → WorldFits p.module_ u → RunFits p.module_ (host_alone (if_fits call reply left u b) call u co)
    reply_fits reply left u false h = tt
    reply_fits reply left u true h = written_fits reply left u (after_writes u.memory reply.writes) h refl

    served_fits : (replies : List Reply) (u : World) → WorldFits p.module_ u → RunFits p.module_ (host_alone (served_by call u replies) call u co)
    served_fits [] u h = tt
    served_fits (reply ∷ left) u h = reply_fits reply left u (fits_type call.result reply.value) h

    step_fits : (o : Option CollectorCall) (replies : List Reply) → RunFits p.module_ (stepped o replies)
    step_fits (Some k) replies = fits_replying p.module_ w replies wf
    step_fits None replies = served_fits replies (replying w replies) (fits_replying p.module_ w replies wf)

    module _ (m : Machine) (fuel : ℕ) (some_fuel : 0 < fuel) where
      -- one step that comes to this
      made : (o : Option CollectorCall) → told_here ≡ o → (asked : Asked) (answer : RunEnd) (more : List Reply) (what : Stepped) → stepped o (replies_of asked.given ++ more) ≡ what →
          AnswersTo p used_up answer what → ((c : Config) → last_in what ≡ Some c → KeepsThen p codes answer m c) → Served asked w co more what → FunctionCame p codes used_up go w co fuel asked answer 1 m more
      made o e asked answer more what is a k s = record {
        what = what;
        within = omega (arith, some_fuel);
        gives = one_step o e (replies_of asked.given ++ more) (given_steps answer fuel 1) (given_some answer fuel some_fuel) ∙ ap (λ t. ended t (given_steps answer fuel 1 - 1)) is;
        answers = a;
        keeps = k;
        served = s;
        fits = subst (RunFits p.module_) is (step_fits o (replies_of asked.given ++ more));
      }

      -- ---- no reply

      silent : (answer : RunEnd) (old new : Calls) → told_here ≡ None → new ≡ old → ((more : List Reply) → AdmitsReplies answer more → more ≡ []) →
          ((more : List Reply) → AnswersTo p used_up answer (no_reply call (config [] (replying w more) co))) → ((c : Config) → Keeps p codes m c → KeepsThen p codes answer m c) → m.stack.frames ≡ [] → Shares m w →
          FunctionCameWith p codes used_up go w co fuel answer 1 m old new
      silent answer old new t e none a k f s = record {
        asked = nothing;
        grew = nothing_grew old new e;
        came = λ more ad.
            made None t nothing answer more (no_reply call (config [] (replying w more) co))
            (subst (λ replies. stepped None replies ≡ no_reply call (config [] (replying w replies) co)) (sym (none more ad)) refl)
            (a more)
            (λ c q. k c (subst (Keeps p codes m) (some_is q) (keeps_none m (replying w more) co f (shares_replying m w more s))))
            (record { served = refl; collected = refl; left = refl });
      }

      pub without_reply : (old new : Calls) → new ≡ old → told_here ≡ None → used_up import ≡ true → m.stack.frames ≡ [] → Shares m w → FunctionCameWith p codes used_up go w co fuel NoReply 1 m old new
      without_reply old new e t u f s = silent NoReply old new t e (λ more ad. ad) (λ more. (call, config [] (replying w more) co, refl, (import, there, u))) (λ c k. k) f s

      pub faulted : (name : List ℕ) (old new : Calls) → new ≡ old → told_here ≡ None → name ≡ import.«module» → used_up import ≡ false → m.stack.frames ≡ [] → Shares m w → FunctionCameWith p codes used_up go w co fuel (DeviceFault name) 1 m old new
      faulted name old new e t n l f s = silent (DeviceFault name) old new t e (λ more ad. ad) (λ more. (call, config [] (replying w more) co, refl, (import, there, n, l))) (λ c k. k) f s

      -- ---- a reply

      module _ (before : Machine) (reply : Reply) (frames : m.stack.frames ≡ []) (table : m.table ≡ before.table) (shares : Shares before w) where
        abbrev after : Option (Option Memory)
        after = after_reply call.result reply w

        abbrev memory_now : Option Memory
        memory_now = option_map (λ k. k.memory) m.shared.memory

        empty_after : reply ≡ empty_reply → call.result ≡ None → after ≡ Some w.memory
        empty_after r n = ap₂ (λ (t : Option ValType) (r : Reply). after_reply t r w) n r

        -- the collector was told
        told_says : (answer : RunEnd) (k : CollectorCall) (more : List Reply) → reply ≡ empty_reply → call.result ≡ None → Took answer call.result reply w before.shared m.shared →
            AnswersTo p used_up answer (ends (replying w more) [] (k ∷ co)) × ((c : Config) → Some (config [] (replying w more) (k ∷ co)) ≡ Some c → KeepsThen p codes answer m c)
        told_says (Finished value) k more r n t = (
          (replying w more, [], k ∷ co, refl, t.0 ∙ ap (λ (r : Reply). r.value) r),
          λ c q. subst (Keeps p codes m) (some_is q) (keeps_none m (replying w more) (k ∷ co) frames
              (record { holds = record { globals = shares.holds.globals ∙ sym t.2; memory = some_is (sym (empty_after r n) ∙ t.1) }; table = shares.table ∙ sym table })),
        )
        told_says (BadReply s) k more r n t = let q : Some w.memory ≡ None = sym (empty_after r n) ∙ t.1 in absurd (cc)
        told_says NoMemory k more r n t = (tt, λ c q. tt)
        told_says (Trapped kind) k more r n t = absurd t
        told_says NoReply k more r n t = absurd t
        told_says (DeviceFault name) k more r n t = absurd t
        told_says FuelSpent k more r n t = absurd t

        -- the reply was served
        abbrev replied_call : ServedCall
        replied_call = record { call = call; reply = reply }

        abbrev asked_reply : Asked
        asked_reply = record { given = replied_call ∷ []; told = [] }

        abbrev came_to : List Reply → Option (Option Memory) → Stepped
        came_to more r = host_alone (if_written call reply more (replying w (reply ∷ more)) r) call (replying w (reply ∷ more)) co

        by_fit : (more : List Reply) (b : Bool) → host_alone (if_fits call reply more (replying w (reply ∷ more)) b) call (replying w (reply ∷ more)) co ≡ came_to more (if b then after_writes w.memory reply.writes else None)
        by_fit more true = refl
        by_fit more false = refl

        step_is : (more : List Reply) (r : Option (Option Memory)) → after ≡ r → stepped None (reply ∷ more) ≡ came_to more r
        step_is more r e = by_fit more (fits_type call.result reply.value) ∙ ap (came_to more) e

        reply_served : (more : List Reply) (r : Option (Option Memory)) → Served asked_reply w co more (came_to more r)
        reply_served more None = record { served = refl; collected = refl; left = refl }
        reply_served more (Some memory) = record { served = refl; collected = refl; left = refl }

        served_says : (answer : RunEnd) (more : List Reply) → told_here ≡ None → Took answer call.result reply w before.shared m.shared → FunctionCame p codes used_up go w co fuel asked_reply answer 1 m more
        served_says (Finished value) more n t =
            made None n asked_reply (Finished value) more (came_to more (Some memory_now)) (step_is more (Some memory_now) t.1)
            (record { globals = w.globals; memory = memory_now; table = w.table; replies = more; served = replied_call ∷ w.served }, option_to_list reply.value, co, refl, t.0 ∙ sym (first_of reply.value))
            (λ c q. subst (Keeps p codes m) (some_is q) (keeps_none m (record { globals = w.globals; memory = memory_now; table = w.table; replies = more; served = replied_call ∷ w.served }) co frames
            (record { holds = record { globals = shares.holds.globals ∙ sym t.2; memory = refl }; table = shares.table ∙ sym table })))
            (reply_served more (Some memory_now))
        served_says (BadReply s) more n t =
            made None n asked_reply (BadReply s) more (came_to more None) (step_is more None t.1)
            (call, config [] (replying w (reply ∷ more)) co, ap (λ r. bad_reply call r (config [] (replying w (reply ∷ more)) co)) (sym t.0))
            (λ c q. subst (Keeps p codes m) (some_is q) (keeps_none m (replying w (reply ∷ more)) co frames
            (record { holds = record { globals = shares.holds.globals ∙ ap (λ s. s.globals) (sym t.2); memory = shares.holds.memory ∙ ap (λ s. option_map (λ k. k.memory) s.memory) (sym t.2) }; table = shares.table ∙ sym table })))
            (reply_served more None)
        served_says NoMemory more n t = made None n asked_reply NoMemory more (came_to more after) (step_is more after refl) tt (λ c q. tt) (reply_served more after)
        served_says (Trapped kind) more n t = absurd t
        served_says NoReply more n t = absurd t
        served_says (DeviceFault name) more n t = absurd t
        served_says FuelSpent more n t = absurd t

        pub replied : (answer : RunEnd) (old new : Calls) → Adds told_here call reply old new → Took answer call.result reply w before.shared m.shared → FunctionCameWith p codes used_up go w co fuel answer 1 m old new
        replied answer old new adds took = by_told told_here refl adds
          where
            by_told : (o : Option CollectorCall) → told_here ≡ o → Adds o call reply old new → FunctionCameWith p codes used_up go w co fuel answer 1 m old new
            by_told (Some k) e a = record {
              asked = record { given = []; told = k ∷ [] };
              grew = record { served = a.0 ∙ sym (append-nil old.served); collected = a.1 };
              came = λ more ad.
                  let says = told_says answer k more a.2 (no_result collecting call.result (collector_call import args) k e) took in
                  made (Some k) e (record { given = []; told = k ∷ [] }) answer more (ends (replying w more) [] (k ∷ co)) refl says.0 says.1 (record { served = refl; collected = refl; left = refl });
            }
            by_told None e a = record {
              asked = asked_reply;
              grew = record { served = a.0; collected = a.1 ∙ sym (append-nil old.collected) };
              came = λ more ad. served_says answer more e took;
            }

-- taking a reply is no fault of a device
pub took_cause : (answer : RunEnd) (wanted : Option ValType) (reply : Reply) (w : World) (old new : Shared) (before now : List ℕ → ℕ) → Took answer wanted reply w old new → HasCause answer before now
took_cause (Finished value) wanted reply w old new before now t = tt
took_cause (Trapped kind) wanted reply w old new before now t = tt
took_cause NoReply wanted reply w old new before now t = tt
took_cause (BadReply r) wanted reply w old new before now t = tt
took_cause (DeviceFault name) wanted reply w old new before now t = absurd t
took_cause FuelSpent wanted reply w old new before now t = tt
took_cause NoMemory wanted reply w old new before now t = tt
