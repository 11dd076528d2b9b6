-- A function whose steps are used up waits where it stands, and goes on from there.
use Rattle.std.proofs.Common.{◌≡◌, ℕ, zero, suc, ◌+◌, List, [], ◌∷◌, refl, sym, ap, subst, ◌∙◌, arith}
use Rattle.std.specs.Prelude.{Some}
use Rattle.wasm_syntax.specs.declared.value.Value.{Value}
use Rattle.wasm_syntax.specs.declared.parts.FuncType.{FuncType}
use Rattle.wasm_syntax.specs.declared.host.HostCall.{HostCall}
use Rattle.wasm_syntax.specs.declared.host.CollectorCall.{CollectorCall}
use Rattle.wasm_syntax.specs.Numbers.{types}
use Rattle.wasm_syntax.specs.Module.{Function, imported, defined, function_at, type_at}
use Rattle.wasm_syntax.specs.Host.{World, Answer, replied, told, silent, misfit, answer}
use Rattle.wasm_syntax.specs.Machine.{Engine, Frame, Config, config, Stepped, next, ends, traps, no_reply, bad_reply, stuck, step, entered, host_call, function_type}
use Rattle.wasm_syntax.specs.Run.{Ended, ended, run_on, run_steps, host_alone, run_alone, run_function}
use Rattle.wasm_laws.proofs.Progress.{WorldFine}
use Rattle.wasm_laws.proofs.Safe.{AnswerFine, answer_fine, FramesFine, SteppedFine, Typed, step_fine}
use Rattle.machine_code.specs.declared.code.Code.{Code}
use Rattle.machine_steps.specs.calls.Layout as layout
use Rattle.machine_steps.specs.declared.machine.Machine.{Machine}
use Rattle.machine_steps.specs.calls.Meets.{StandsFor}
use Rattle.machine_hosted.specs.calls.Safe.{ValidProgram, WorldFits, RunFits}
use Rattle.machine_hosted.specs.calls.Hosted.{replying}
use Rattle.machine_hosted.specs.calls.Answers.{KeepsFrames, Keeps}
use Rattle.machine_hosted.specs.inner.Resumes.{with_replies, going_on, Waits}
use Rattle.machine_hosted.proofs.SafeLaws.{world_fine, world_fits, run_fits, entered_fine}
use Rattle.machine_hosted.proofs.WorldLaws.{fits_replying}
use Rattle.machine_hosted.proofs.ModuleLaws.{typed_of}

pub what_of : {a b : Stepped} {m n : ℕ} → ended a m ≡ ended b n → a ≡ b
what_of e = ap (λ (x : Ended). x.what) e

pub left_of : {a b : Stepped} {m n : ℕ} → ended a m ≡ ended b n → m ≡ n
left_of e = ap (λ (x : Ended). x.left) e

pub next_is : {a b : Config} → next a ≡ next b → a ≡ b
next_is e = cc

module _ (M : Engine) where
  -- ---- steps

  record StepsOn (n : ℕ) (first c : Config) (l : ℕ) : Type 0 where
    pub none_left : l ≡ 0
    pub on : (k : ℕ) → run_steps M (n + k) first ≡ run_steps M k c

  steps_wait : (n : ℕ) (first c : Config) (l : ℕ) → run_steps M n first ≡ ended (next c) l → StepsOn n first c l
  steps_wait zero first c l e = let same : first ≡ c = next_is (what_of e) in record {
    none_left = sym (left_of e);
    on = λ k. let z : 0 + k ≡ k = omega arith in ap (λ j. run_steps M j first) z ∙ ap (run_steps M k) same;
  }
  steps_wait (suc n) first c l e = by_step (step M first) refl (λ c'. steps_wait n c' c l) e
    where
      by_step : (s : Stepped) → step M first ≡ s → ((c' : Config) → run_steps M n c' ≡ ended (next c) l → StepsOn n c' c l) → run_on M (run_steps M n) n s ≡ ended (next c) l → StepsOn (suc n) first c l
      by_step (next c') q ih e = let r = ih c' e in record {
        none_left = r.none_left;
        on = λ k.
            let j : suc n + k ≡ suc (n + k) = omega arith in
            ap (λ i. run_steps M i first) j ∙ ap (λ s. run_on M (run_steps M (n + k)) (n + k) s) q ∙ r.on k;
      }
      by_step (ends w vs co) q ih e = let z : ends w vs co ≡ next c = what_of e in absurd (cc)
      by_step (traps kind c') q ih e = let z : traps kind c' ≡ next c = what_of e in absurd (cc)
      by_step (no_reply call c') q ih e = let z : no_reply call c' ≡ next c = what_of e in absurd (cc)
      by_step (bad_reply call r c') q ih e = let z : bad_reply call r c' ≡ next c = what_of e in absurd (cc)
      by_step stuck q ih e = let z : stuck ≡ next c = what_of e in absurd (cc)

  -- ---- an import that is called with no frame

  record AloneOn (n : ℕ) (call : HostCall) (w : World) (co : List CollectorCall) (c : Config) (l : ℕ) : Type 0 where
    pub none_left : l ≡ 0
    pub there : config [] w co ≡ c
    pub on : (k : ℕ) → run_alone M (n + k) call w co ≡ run_alone M k call c.world c.collected

  alone_wait : (n : ℕ) (call : HostCall) (w : World) (co : List CollectorCall) (c : Config) (l : ℕ) → run_alone M n call w co ≡ ended (next c) l → AloneOn n call w co c l
  alone_wait zero call w co c l e = let same : config [] w co ≡ c = next_is (what_of e) in record {
    none_left = sym (left_of e);
    there = same;
    on = λ k. let z : 0 + k ≡ k = omega arith in ap (λ j. run_alone M j call w co) z ∙ ap (λ (d : Config). run_alone M k call d.world d.collected) same;
  }
  alone_wait (suc n) call w co c l e = absurd (by_answer (answer M.collects M.program.module_ call w) (what_of e))
    where
      by_answer : (a : Answer) → host_alone a call w co ≡ next c → ⊥
      by_answer (replied w' v) q = cc
      by_answer (told k) q = cc
      by_answer silent q = cc
      by_answer (misfit reply) q = cc

  -- ---- what a run keeps

  module _ (typed : Typed M.program) where
    run_fine : (n : ℕ) (c : Config) → WorldFine M.program.module_ c.world → FramesFine M.program c.frames → SteppedFine M.program (run_steps M n c).what
    run_fine zero c wf ff = (wf, ff)
    run_fine (suc n) c wf ff = by_step (step M c) (step_fine M typed c wf ff) (run_fine n)
      where
        by_step : (s : Stepped) → SteppedFine M.program s → ((c : Config) → WorldFine M.program.module_ c.world → FramesFine M.program c.frames → SteppedFine M.program (run_steps M n c).what) → SteppedFine M.program (run_on M (run_steps M n) n s).what
        by_step (next c') h ih = ih c' h.0 h.1
        by_step (ends w vs co) h ih = h
        by_step (traps kind c') h ih = h
        by_step (no_reply call c') h ih = h
        by_step (bad_reply call r c') h ih = h
        by_step stuck h ih = h

  alone_fits : (A : Answer) (call : HostCall) (w : World) (co : List CollectorCall) → WorldFine M.program.module_ w → AnswerFine M.program.module_ call.result A → RunFits M.program.module_ (host_alone A call w co)
  alone_fits (replied w' v) call w co wf h = world_fits M.program.module_ w' h.0
  alone_fits (told k) call w co wf h = world_fits M.program.module_ w wf
  alone_fits silent call w co wf h = tt
  alone_fits (misfit reply) call w co wf h = tt

  run_alone_fits : (n : ℕ) (call : HostCall) (w : World) (co : List CollectorCall) → WorldFits M.program.module_ w → RunFits M.program.module_ (run_alone M n call w co).what
  run_alone_fits zero call w co wf = tt
  run_alone_fits (suc n) call w co wf =
      let fine = world_fine M.program.module_ w wf in
      alone_fits (answer M.collects M.program.module_ call w) call w co fine (answer_fine M.program.module_ call w fine M.collects)

  -- ---- a function

  frames_stand : (codes : List Code) (m : Machine) (fs : List Frame) → FramesFine M.program fs → KeepsFrames M.program codes m fs → layout.StandsFor M.program codes m.stack fs
  frames_stand codes m [] h k = absurd h
  frames_stand codes m (f ∷ fs) h k = k

  module _ (v : ValidProgram M.program) (f : ℕ) (type : FuncType) (args : List Value) (t : type_at M.program.module_ f ≡ Some type) (ty : types args ≡ type.params) (w : World) (co : List CollectorCall) (wf : WorldFits M.program.module_ w) (n : ℕ) where
    -- no run of it gets stuck
    pub function_fits : RunFits M.program.module_ (run_function M n f (function_at M.program f) args w co).what
    function_fits = let fn = (typed_of M.program v).functions f type t in by_function fn.0 fn.1 fn.2
      where
        by_function : (fn : Function) → function_at M.program f ≡ Some fn → function_type fn ≡ type → RunFits M.program.module_ (run_function M n f (function_at M.program f) args w co).what
        by_function (imported i u) at same = subst (λ o. RunFits M.program.module_ (run_function M n f o args w co).what) (sym at) (run_alone_fits n (host_call f i u args) w co wf)
        by_function (defined body tree u) at same =
            subst (λ o. RunFits M.program.module_ (run_function M n f o args w co).what) (sym at)
            (run_fits M (typed_of M.program v) n (config (entered f body tree u args ∷ []) w co) (world_fine M.program.module_ w wf)
            (entered_fine M (typed_of M.program v) f body tree u args at (ty ∙ ap (λ (x : FuncType). x.params) (sym same))))

    module _ (codes : List Code) (m : Machine) (c : Config) (l : ℕ) where
      -- it waits there, and goes on from there
      pub record Rests : Type 0 where
        pub none_left : l ≡ 0
        pub waits : Waits M f codes m c
        pub on : (k : ℕ) → run_function M (n + k) f (function_at M.program f) args w co ≡ going_on M f waits.fn args c k

      pub rests : run_function M n f (function_at M.program f) args w co ≡ ended (next c) l → Keeps M.program codes m c → Rests
      rests e keeps = let fn = (typed_of M.program v).functions f type t in by_function fn.0 fn.1 fn.2
        where
          by_function : (fn : Function) → function_at M.program f ≡ Some fn → function_type fn ≡ type → Rests
          by_function (imported i u) at same =
              let a = alone_wait n (host_call f i u args) w co c l (ap (λ o. run_function M n f o args w co) (sym at) ∙ e) in
              record {
                none_left = a.none_left;
                waits = record { fn = imported i u; is = at; shares = keeps.shares; fits = subst (λ (d : Config). WorldFits M.program.module_ d.world) a.there wf; place = ap (λ (d : Config). d.frames) (sym a.there) };
                on = λ k. ap (λ o. run_function M (n + k) f o args w co) at ∙ a.on k;
              }
          by_function (defined body tree u) at same =
              let first = config (entered f body tree u args ∷ []) w co in
              let q : run_steps M n (config (entered f body tree u args ∷ []) w co) ≡ ended (next c) l = ap (λ o. run_function M n f o args w co) (sym at) ∙ e in
              let s = steps_wait n (config (entered f body tree u args ∷ []) w co) c l q in
              let typed = typed_of M.program v in
              let fine = subst (λ (x : Ended). SteppedFine M.program x.what) q
              (run_fine typed n (config (entered f body tree u args ∷ []) w co) (world_fine M.program.module_ w wf) (entered_fine M typed f body tree u args at (ty ∙ ap (λ (x : FuncType). x.params) (sym same)))) in
              record {
                none_left = s.none_left;
                waits = record {
                  fn = defined body tree u;
                  is = at;
                  shares = keeps.shares;
                  fits = world_fits M.program.module_ c.world fine.0;
                  place = (
                    record { frames = frames_stand codes m c.frames fine.1 keeps.frames; shares = keeps.shares },
                    λ replies j. run_fits M typed j (with_replies c replies) (world_fine M.program.module_ (replying c.world replies) (fits_replying M.program.module_ c.world replies (world_fits M.program.module_ c.world fine.0))) fine.1,
                  );
                };
                on = λ k. ap (λ o. run_function M (n + k) f o args w co) at ∙ s.on k;
              }
