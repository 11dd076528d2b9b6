-- What a watch sees of a run, stage by stage.
use Rattle.std.proofs.Common.{◌≡◌, ℕ, zero, suc, ◌+◌, ◌-◌, ◌≤◌, List, [], ◌++◌, length, length-append, refl, sym, ap, ap₂, subst, ◌∙◌, append_assoc, arith}
use Rattle.std.proofs.lemmas.List.{append-nil}
use Rattle.std.specs.Prelude.{Bool, Option}
use Rattle.wasm_syntax.specs.declared.module.ModuleParts.{ModuleParts as Module}
use Rattle.wasm_syntax.specs.declared.parts.Import.{Import}
use Rattle.wasm_syntax.specs.declared.host.Reply.{Reply}
use Rattle.wasm_syntax.specs.declared.host.HostCall.{HostCall}
use Rattle.wasm_syntax.specs.declared.host.CollectorCall.{CollectorCall}
use Rattle.wasm_syntax.specs.Module.{Program}
use Rattle.wasm_syntax.specs.Host.{World}
use Rattle.wasm_syntax.specs.Machine.{Engine, Frame, config}
use Rattle.wasm_syntax.specs.Run.{Ended, run_alone}
use Rattle.machine_code.specs.declared.code.Code.{Code}
use Rattle.machine_steps.specs.declared.machine.Machine.{Machine}
use Rattle.machine_code.specs.declared.prepared.Prepared.{Prepared}
use Rattle.machine_steps.specs.Places.{Place, step_places, alone_places}
use Rattle.machine_steps.specs.calls.Runs.{Begins}
use Rattle.machine_steps.specs.calls.Watched.{Saw}
use Rattle.machine_steps.proofs.MadeLaws.{behind_lead}
use Rattle.host_devices.specs.calls.HostSides.{Calls}
use Rattle.host_devices.specs.Given.{replies_of}
use Rattle.machine_hosted.specs.declared.answer.RunEnd.{RunEnd}
use Rattle.machine_hosted.specs.declared.answer.RunEnd.TheVariants.{Finished, Trapped, NoReply, BadReply, DeviceFault, FuelSpent, NoMemory}
use Rattle.machine_hosted.specs.calls.Hosted.{replying, Asked, Grew}
use Rattle.machine_hosted.specs.calls.Answers.{AdmitsReplies, given_steps, FunctionCameWith}
use Rattle.machine_hosted.specs.calls.Watching.{Placing, IsCount, Watched}
use Rattle.machine_hosted.specs.inner.Alone.{alone}
use Rattle.machine_hosted.specs.inner.Turns.{nothing}
use Rattle.machine_hosted.specs.inner.Watches.{frames_placing}
use Rattle.machine_hosted.proofs.StageLaws.{joined, SoFar}
use Rattle.machine_hosted.proofs.CourseLaws.{replies_on}

-- all steps that were made
pub count_same : (answer : RunEnd) (fuel n : ℕ) → n ≤ fuel → IsCount answer fuel n n
count_same (Finished value) fuel n le = refl
count_same (Trapped kind) fuel n le = refl
count_same NoReply fuel n le = refl
count_same (BadReply reply) fuel n le = refl
count_same (DeviceFault name) fuel n le = refl
count_same FuelSpent fuel n le = refl
count_same NoMemory fuel n le = le

module _ {W : Type 0} (saw : Module → W → List (Option Place) → Type 0) where
  -- the same places, written otherwise
  pub by_same_places : (m : Module) (placing other : Placing) (fuel : ℕ) (answer : RunEnd) (steps : ℕ) (before now : W) (old new : Calls) → ((replies : List Reply) (n : ℕ) → placing replies n ≡ other replies n)
      → Watched saw m placing fuel answer steps before now old new → Watched saw m other fuel answer steps before now old new
  by_same_places m placing other fuel answer steps before now old new same h = record {
    asked = h.asked;
    grew = h.grew;
    count = h.count;
    is = h.is;
    made = λ more. ap length (sym (same (replies_of h.asked.given ++ more) h.count)) ∙ h.made more;
    sees = λ more seen first. subst (λ l. saw m now (seen ++ l)) (same (replies_of h.asked.given ++ more) h.count) (h.sees more seen first);
  }

  -- no step is seen
  pub unseen : (m : Module) (placing : Placing) (fuel : ℕ) (before : W) (calls : Calls) → ((replies : List Reply) → placing replies 0 ≡ []) → Watched saw m placing fuel NoMemory 0 before before calls calls
  unseen m placing fuel before calls none = record {
    asked = nothing;
    grew = record { served = sym (append-nil calls.served); collected = sym (append-nil calls.collected) };
    count = 0;
    is = omega arith;
    made = λ more. ap length (none more);
    sees = λ more seen first. subst (saw m before) (sym (append-nil seen) ∙ ap (λ l. seen ++ l) (sym (none more))) first;
  }

  module _ (M : Engine) (fs : List Frame) (w : World) (co : List CollectorCall) where
    -- so many steps of a run were seen
    pub record Seen (asked : Asked) (n : ℕ) (before now : W) : Type 0 where
      pub made : (more : List Reply) → length (step_places M n (config fs (replying w (replies_of asked.given ++ more)) co)) ≡ n
      pub steps : (more : List Reply) (seen : List (Option Place)) → saw M.program.module_ before seen → saw M.program.module_ now (seen ++ step_places M n (config fs (replying w (replies_of asked.given ++ more)) co))

    -- how far the run has come, and what was seen of it
    pub record SeenSoFar (codes : List Code) (n : ℕ) (m : Machine) (old mid : Calls) (before now : W) : Type 0 where
      pub so_far : SoFar M codes fs w co n m old mid
      pub seen : Seen so_far.asked n before now

    pub seen_none : (before : W) → Seen nothing 0 before before
    seen_none before = record { made = λ more. refl; steps = λ more seen first. subst (saw M.program.module_ before) (sym (append-nil seen)) first }

    -- on by a run of the machine
    pub seen_on : (prepared : Prepared) (depth n : ℕ) (m : Machine) (old mid : Calls) (s : SoFar M prepared.codes.items fs w co n m old mid) (count : ℕ) (before now next : W) → ((more : List Reply) → Begins M prepared depth (s.reaches more).there m)
        → Seen s.asked n before now → Saw saw prepared depth m count now next → Seen s.asked (n + count) before next
    seen_on prepared depth n m old mid s count before now next begins a h = record {
      made = λ more.
          let r = s.reaches more in
          let from = config fs (replying w (replies_of s.asked.given ++ more)) co in
          let x : length (step_places M n (config fs (replying w (replies_of s.asked.given ++ more)) co)) ≡ n = a.made more in
          let y : length (step_places M count (s.reaches more).there) ≡ count = h.made M r.there (begins more) in
          ap length (behind_lead M n count from r.there r.leads) ∙ length-append (step_places M n from) (step_places M count r.there) ∙ ap₂ (λ i j. i + j) x y;
      steps = λ more seen first.
          let r = s.reaches more in
          let from = config fs (replying w (replies_of s.asked.given ++ more)) co in
          let all : seen ++ step_places M n from ++ step_places M count r.there ≡ seen ++ step_places M (n + count) from =
          append_assoc seen (step_places M n from) (step_places M count r.there) ∙ ap (λ l. seen ++ l) (sym (behind_lead M n count from r.there r.leads))
          in
          subst (saw M.program.module_ next) all (h.steps M r.there (begins more) (seen ++ step_places M n from) (a.steps more seen first));
    }

    -- with more that was asked behind it
    pub seen_more : (a b : Asked) (n : ℕ) (before now : W) → Seen a n before now → Seen (joined a b) n before now
    seen_more a b n before now h = record {
      made = λ more. subst (λ l. length (step_places M n (config fs (replying w l) co)) ≡ n) (sym (replies_on a.given b.given more)) (h.made (replies_of b.given ++ more));
      steps = λ more seen first.
          subst (λ l. saw M.program.module_ now (seen ++ step_places M n (config fs (replying w l) co))) (sym (replies_on a.given b.given more)) (h.steps (replies_of b.given ++ more) seen first);
    }

    pub watched_of : (fuel : ℕ) (answer : RunEnd) (steps n : ℕ) (before now : W) (old new : Calls) (asked : Asked) → Grew asked old new → IsCount answer fuel steps n → Seen asked n before now → Watched saw M.program.module_ (frames_placing M fs w co) fuel answer steps before now old new
    watched_of fuel answer steps n before now old new asked grew is h = record { asked = asked; grew = grew; count = n; is = is; made = h.made; sees = h.steps }

-- ---- an import with no frame

pub admits_none : (answer : RunEnd) → AdmitsReplies answer []
admits_none (Finished value) = tt
admits_none (Trapped kind) = tt
admits_none NoReply = refl
admits_none (DeviceFault name) = refl
admits_none (BadReply reply) = tt
admits_none FuelSpent = tt
admits_none NoMemory = tt

none_made : (answer : RunEnd) (steps : ℕ) → steps ≤ 0 → IsCount answer 0 steps 0
none_made (Finished value) steps le = omega (arith, le)
none_made (Trapped kind) steps le = omega (arith, le)
none_made NoReply steps le = omega (arith, le)
none_made (BadReply reply) steps le = omega (arith, le)
none_made (DeviceFault name) steps le = omega (arith, le)
none_made FuelSpent steps le = omega (arith, le)
none_made NoMemory steps le = omega arith

module _ (M : Engine) (call : HostCall) (w : World) (co : List CollectorCall) where
  one_made : (answer : RunEnd) (n steps : ℕ) → steps ≤ suc n → (run_alone M (given_steps answer (suc n) steps) call w co).left ≡ given_steps answer (suc n) steps - steps → IsCount answer (suc n) steps 1
  one_made (Finished value) n steps le e = let q : n ≡ suc n - steps = e in omega (arith, le, q)
  one_made (Trapped kind) n steps le e = let q : n ≡ suc n - steps = e in omega (arith, le, q)
  one_made NoReply n steps le e = let q : n ≡ suc n - steps = e in omega (arith, le, q)
  one_made (BadReply reply) n steps le e = let q : n ≡ suc n - steps = e in omega (arith, le, q)
  one_made (DeviceFault name) n steps le e = let q : n ≡ suc n - steps = e in omega (arith, le, q)
  one_made FuelSpent n steps le e = let q : n ≡ suc n - steps = e in omega (arith, le, q)
  one_made NoMemory n steps le e = omega arith

alone_count : (p : Program) (codes : List Code) (used_up : Import → Bool) (M : Engine) (call : HostCall) (w : World) (co : List CollectorCall) (fuel : ℕ) (answer : RunEnd) (steps : ℕ) (m : Machine) (old new : Calls)
    → FunctionCameWith p codes used_up (alone M call w co) w co fuel answer steps m old new → IsCount answer fuel steps (length (alone_places fuel))
alone_count p codes used_up M call w co zero answer steps m old new h = none_made answer steps (h.came [] (admits_none answer)).within
alone_count p codes used_up M call w co (suc n) answer steps m old new h =
    let c = h.came [] (admits_none answer) in
    one_made M call (replying w (replies_of h.asked.given ++ [])) co answer n steps c.within (ap (λ (e : Ended). e.left) c.gives)

as_many : (fuel : ℕ) → alone_places (length (alone_places fuel)) ≡ alone_places fuel
as_many zero = refl
as_many (suc n) = refl

pub alone_watched : {W : Type 0} (saw : Module → W → List (Option Place) → Type 0) (x : Module) (placing : Placing) (p : Program) (codes : List Code) (used_up : Import → Bool) (M : Engine) (call : HostCall) (w : World) (co : List CollectorCall) (fuel : ℕ) (answer : RunEnd) (steps : ℕ) (m : Machine) (old new : Calls) (before now : W)
    → ((replies : List Reply) (n : ℕ) → alone_places n ≡ placing replies n) → ((seen : List (Option Place)) → saw x before seen → saw x now (seen ++ alone_places fuel))
    → FunctionCameWith p codes used_up (alone M call w co) w co fuel answer steps m old new → Watched saw x placing fuel answer steps before now old new
alone_watched saw x placing p codes used_up M call w co fuel answer steps m old new before now same one h = record {
  asked = h.asked;
  grew = h.grew;
  count = length (alone_places fuel);
  is = alone_count p codes used_up M call w co fuel answer steps m old new h;
  made = λ more. ap length (sym (same (replies_of h.asked.given ++ more) (length (alone_places fuel))) ∙ as_many fuel);
  sees = λ more seen first. subst (λ l. saw x now (seen ++ l)) (sym (as_many fuel) ∙ same (replies_of h.asked.given ++ more) (length (alone_places fuel))) (one seen first);
}
