-- The run of one function, from the run of its frames.
use Rattle.std.proofs.Common.{◌≡◌, ℕ, ◌≤◌, List, [], ◌∷◌, ◌++◌, refl, sym, ap, subst, ◌∙◌}
use Rattle.std.specs.Prelude.{Bool, Some}
use Rattle.wasm_syntax.specs.declared.parts.Import.{Import}
use Rattle.wasm_syntax.specs.declared.host.Reply.{Reply}
use Rattle.wasm_syntax.specs.declared.host.CollectorCall.{CollectorCall}
use Rattle.wasm_syntax.specs.Module.{Program}
use Rattle.wasm_syntax.specs.Host.{World}
use Rattle.wasm_syntax.specs.Machine.{Engine, Frame, Config, config, Stepped, next, ends, traps, no_reply, bad_reply, stuck}
use Rattle.wasm_syntax.specs.Run.{Ended as Result}
use Rattle.machine_code.specs.declared.code.Code.{Code}
use Rattle.machine_steps.specs.calls.Layout as layout
use Rattle.machine_steps.specs.declared.machine.Machine.{Machine}
use Rattle.machine_steps.specs.calls.Meets.{StandsFor}
use Rattle.machine_hosted.specs.calls.Safe.{RunFits}
use Rattle.host_devices.specs.calls.HostSides.{Calls}
use Rattle.machine_hosted.specs.calls.Hosted.{Going}
use Rattle.machine_hosted.specs.inner.FrameRuns.{Tells, Came, CameWith}
use Rattle.host_devices.specs.Given.{replies_of}
use Rattle.machine_hosted.specs.inner.Turns as turns
use Rattle.machine_hosted.specs.declared.answer.RunEnd.{RunEnd}
use Rattle.machine_hosted.specs.declared.answer.RunEnd.TheVariants.{Finished, Trapped, NoReply, BadReply, DeviceFault, FuelSpent, NoMemory}
use Rattle.machine_hosted.specs.calls.Answers.{KeepsFrames, Keeps, KeepsThen, last_in, AnswersTo, AdmitsReplies, given_steps, FunctionCame, FunctionCameWith, FitsThen}
use Rattle.machine_hosted.proofs.WorldLaws.{machine_fits}
use Rattle.pm_text.proofs.Lists.{some_is}

module _ (p : Program) (codes : List Code) (used_up : Import → Bool) where
  keeps_frames : (m : Machine) (fs : List Frame) → layout.StandsFor p codes m.stack fs → KeepsFrames p codes m fs
  keeps_frames m [] h = absurd h
  keeps_frames m (f ∷ fs) h = h

  keeps_of : (m : Machine) (c : Config) → StandsFor p codes m c → Keeps p codes m c
  keeps_of m c h = record { frames = keeps_frames m c.frames h.frames; shares = h.shares }

  keeps_at : (m : Machine) (k c : Config) → StandsFor p codes m k → Some k ≡ Some c → Keeps p codes m c
  keeps_at m k c h e = subst (Keeps p codes m) (some_is e) (keeps_of m k h)

  abbrev Says : RunEnd → Stepped → Machine → Type 0
  Says answer s m = AnswersTo p used_up answer s × ((c : Config) → last_in s ≡ Some c → KeepsThen p codes answer m c)

  says : (answer : RunEnd) (s : Stepped) (m : Machine) → Tells p codes used_up answer s m → Says answer s m
  says NoMemory s m t = (tt, λ c e. tt)
  says FuelSpent (next k) m t = ((k, refl), λ c e. keeps_at m k c t e)
  says FuelSpent (ends w vs co) m t = absurd t
  says FuelSpent (traps number k) m t = absurd t
  says FuelSpent (no_reply call k) m t = absurd t
  says FuelSpent (bad_reply call r k) m t = absurd t
  says FuelSpent stuck m t = absurd t
  says (Finished value) (next k) m t = absurd t
  says (Finished value) (ends w vs co) m t = ((w, vs, co, refl, t.value_is), λ c e. subst (Keeps p codes m) (some_is e) (record { frames = t.frames; shares = t.shares }))
  says (Finished value) (traps number k) m t = absurd t
  says (Finished value) (no_reply call k) m t = absurd t
  says (Finished value) (bad_reply call r k) m t = absurd t
  says (Finished value) stuck m t = absurd t
  says (Trapped kind) (next k) m t = absurd t
  says (Trapped kind) (ends w vs co) m t = absurd t
  says (Trapped kind) (traps number k) m t = ((k, ap (λ n. traps n k) (sym t.0)), λ c e. subst (StandsFor p codes m) (some_is e) t.1)
  says (Trapped kind) (no_reply call k) m t = absurd t
  says (Trapped kind) (bad_reply call r k) m t = absurd t
  says (Trapped kind) stuck m t = absurd t
  says NoReply (next k) m t = absurd t
  says NoReply (ends w vs co) m t = absurd t
  says NoReply (traps number k) m t = absurd t
  says NoReply (no_reply call k) m t = ((call, k, refl, t.1), λ c e. keeps_at m k c t.0 e)
  says NoReply (bad_reply call r k) m t = absurd t
  says NoReply stuck m t = absurd t
  says (DeviceFault name) (next k) m t = absurd t
  says (DeviceFault name) (ends w vs co) m t = absurd t
  says (DeviceFault name) (traps number k) m t = absurd t
  says (DeviceFault name) (no_reply call k) m t = ((call, k, refl, t.0), λ c e. keeps_at m k c t.1 e)
  says (DeviceFault name) (bad_reply call r k) m t = absurd t
  says (DeviceFault name) stuck m t = absurd t
  says (BadReply reply) (next k) m t = absurd t
  says (BadReply reply) (ends w vs co) m t = absurd t
  says (BadReply reply) (traps number k) m t = absurd t
  says (BadReply reply) (no_reply call k) m t = absurd t
  says (BadReply reply) (bad_reply call r k) m t = ((call, k, ap (λ r. bad_reply call r k) t.0), λ c e. keeps_at m k c t.1 e)
  says (BadReply reply) stuck m t = absurd t

  -- a run of frames that is the run of a function
  pub by_frames : (M : Engine) (fs : List Frame) (w : World) (co : List CollectorCall) (go : Going) → ((replies : List Reply) (n : ℕ) → go replies n ≡ turns.going M fs w co replies n) → ((replies : List Reply) (n : ℕ) → RunFits p.module_ (turns.going M fs w co replies n).what) →
      (fuel : ℕ) (answer : RunEnd) (steps : ℕ) (m : Machine) (old new : Calls) → CameWith p codes used_up (turns.going M fs w co) w co fuel answer steps m old new → FunctionCameWith p codes used_up go w co fuel answer steps m old new
  by_frames M fs w co go same fits fuel answer steps m old new h = record {
    asked = h.asked;
    grew = h.grew;
    came = λ more ad. by_came more (h.came more ad);
  }
    where
      by_came : (more : List Reply) → Came p codes used_up (turns.going M fs w co) w co fuel h.asked answer steps m more → FunctionCame p codes used_up go w co fuel h.asked answer steps m more
      by_came more c =
          let said = says answer c.what m c.tells in
          record {
            what = c.what;
            within = c.within;
            gives = same (replies_of h.asked.given ++ more) (given_steps answer fuel steps) ∙ c.gives;
            answers = said.0;
            keeps = said.1;
            served = c.served;
            fits = subst (λ (e : Result). RunFits p.module_ e.what) c.gives (fits (replies_of h.asked.given ++ more) (given_steps answer fuel steps));
          }

  -- ---- what follows of any run of a function

  module _ (go : Going) (w : World) (co : List CollectorCall) (fuel steps : ℕ) (m : Machine) (old new : Calls) where
    admits_none : (answer : RunEnd) → AdmitsReplies answer []
    admits_none (Finished value) = tt
    admits_none (Trapped kind) = tt
    admits_none NoReply = refl
    admits_none (DeviceFault name) = refl
    admits_none (BadReply reply) = tt
    admits_none FuelSpent = tt
    admits_none NoMemory = tt

    pub within_fuel : (answer : RunEnd) → FunctionCameWith p codes used_up go w co fuel answer steps m old new → steps ≤ fuel
    within_fuel answer h = (h.came [] (admits_none answer)).within

    pub fits_then : (answer : RunEnd) → FunctionCameWith p codes used_up go w co fuel answer steps m old new → FitsThen p.module_ answer m
    fits_then (Finished value) h =
        let c = h.came [] tt in
        let a = c.answers in
        let k = c.keeps (config [] a.0 a.2) (ap last_in a.3) in
        machine_fits p.module_ m a.0 k.shares (subst (RunFits p.module_) a.3 c.fits)
    fits_then (Trapped kind) h =
        let c = h.came [] tt in
        let a = c.answers in
        let k = c.keeps a.0 (ap last_in a.1) in
        machine_fits p.module_ m a.0.world k.shares (subst (RunFits p.module_) a.1 c.fits)
    fits_then NoReply h = tt
    fits_then (DeviceFault name) h = tt
    fits_then (BadReply reply) h = tt
    fits_then FuelSpent h = tt
    fits_then NoMemory h = tt
