-- What a call of an import comes to, by the reply.
use Rattle.std.proofs.Common.{◌≡◌, List, ◌∷◌, ◌++◌, length, reverse, refl, sym, ap, subst, ◌∙◌}
use Rattle.std.proofs.lemmas.List.{reverse-reverse, length-reverse}
use Rattle.std.specs.Prelude.{Bool, true, false, Option, Some, None}
use Rattle.wasm_syntax.specs.declared.value.Value.{Value}
use Rattle.wasm_syntax.specs.declared.host.Reply.{Reply}
use Rattle.wasm_syntax.specs.Numbers.{types}
use Rattle.wasm_syntax.specs.Module.{imported, same_types}
use Rattle.wasm_syntax.specs.Host.{World, Answer, answer, told_or, served_by, if_fits, if_written, fits_type, after_writes}
use Rattle.wasm_syntax.specs.Machine as steps
use Rattle.wasm_syntax.specs.Machine.{Engine, Config, config, Cut, short, parts, cut, label, frame, result_of}
use Rattle.linear_memory.specs.Memory.{Memory}
use Rattle.machine_steps.proofs.CallLaws.{cut_parts}
use Rattle.machine_code.specs.declared.code.Code.{Code}
use Rattle.machine_steps.specs.calls.Layout as layout
use Rattle.machine_steps.specs.calls.FramesMeet.{with_labels}
use Rattle.machine_basics.specs.declared.shared.Shared.{Shared}
use Rattle.machine_steps.specs.declared.machine.Machine.{Machine}
use Rattle.machine_steps.specs.declared.machine.ImportCall.{ImportCall}
use Rattle.machine_steps.specs.calls.Meets.{StandsFor, CallsImport}
use Rattle.machine_hosted.specs.declared.reply.Replied.{Replied}
use Rattle.machine_hosted.specs.declared.reply.Replied.TheVariants.{Done, Misfit, NoMemory}
use Rattle.machine_hosted.specs.inner.Replies.{Finished}
use Rattle.machine_hosted.specs.inner.Meets.{call_with, NotCollected, Takes, MeetsReply}

module _ (M : Engine) (codes : List Code) (c : Config) (call : ImportCall) (s : steps.Stepped) (m : Machine) (h : CallsImport M codes c call s m) (reply : Reply) (left : List Reply) where
  abbrev Meets : Replied → steps.Stepped → Machine → Type 0
  Meets o t m' = MeetsReply M codes c call s m h reply left o t m'

  -- the step where the host answers so to a call with these arguments
  abbrev answered : Answer → (args below : List Value) → steps.Stepped
  answered a args below = steps.host M a (call_with M codes c call s m h args) below h.rest h.frame h.label h.outer h.callers c.world c.collected

  abbrev fits : Bool
  fits = fits_type (result_of h.type) reply.value

  stuck_meets : (o : Replied) (m' : Machine) → Meets o steps.stuck m'
  stuck_meets Done m' = tt
  stuck_meets Misfit m' = tt
  stuck_meets NoMemory m' = tt

  -- the machine still stands at the call
  stands_still : StandsFor M.program codes m (config (with_labels h.frame (h.label ∷ h.outer) ∷ h.callers) c.world c.collected)
  stands_still = record { frames = subst (λ fs. layout.StandsFor M.program codes m.stack fs) h.frames_are h.stands.frames; shares = h.stands.shares }

  takes : (vs below : List Value) → cut (length h.type.params) h.operands ≡ parts vs below → Takes M codes c call s m h (reverse vs) below
  takes vs below e =
      let p = cut_parts (length h.type.params) h.operands vs below e in
      record { operands = p.0 ∙ ap (λ l. l ++ below) (sym (reverse-reverse vs)); count = length-reverse vs ∙ p.1 }

  module _ (replies : c.world.replies ≡ reply ∷ left) (unheard : NotCollected M codes c call s m h) where
    answer_is : (args : List Value) → same_types (types args) h.type.params ≡ true → answer M.collects M.program.module_ (call_with M codes c call s m h args) c.world ≡ if_fits (call_with M codes c call s m h args) reply left c.world fits
    answer_is args t = ap (λ o. told_or o (call_with M codes c call s m h args) c.world) (unheard args t) ∙ ap (served_by (call_with M codes c call s m h args) c.world) replies

    -- it is enough to know what the reply comes to where the call has its arguments
    by_answer : (o : Replied) (m' : Machine) →
        ((args below : List Value) → Takes M codes c call s m h args below → Meets o (answered (if_fits (call_with M codes c call s m h args) reply left c.world fits) args below) m') → Meets o s m'
    by_answer o m' given = subst (λ t. Meets o t m') (sym (h.step ∙ ap (λ f. steps.calls M f call.function h.operands h.at h.rest h.frame h.label h.outer h.callers c.world c.collected) h.is)) (by_cut (cut (length h.type.params) h.operands) refl)
      where
        by_types : (vs below : List Value) → cut (length h.type.params) h.operands ≡ parts vs below → (b : Bool) → same_types (types (reverse vs)) h.type.params ≡ b →
            Meets o (steps.applied_if M b (imported h.import h.type) call.function (reverse vs) below h.at h.rest h.frame h.label h.outer h.callers c.world c.collected) m'
        by_types vs below e false t = stuck_meets o m'
        by_types vs below e true t = subst (λ a. Meets o (answered a (reverse vs) below) m') (sym (answer_is (reverse vs) t)) (given (reverse vs) below (takes vs below e))

        by_cut : (k : Cut) → cut (length h.type.params) h.operands ≡ k → Meets o (steps.calls_on M (imported h.import h.type) call.function k h.at h.rest h.frame h.label h.outer h.callers c.world c.collected) m'
        by_cut short e = stuck_meets o m'
        by_cut (parts vs below) e = by_types vs below e (same_types (types (reverse vs)) h.type.params) refl

    pub misfit_type : fits ≡ false → Meets Misfit s m
    misfit_type e = by_answer Misfit m (λ args below t. subst (λ b. Meets Misfit (answered (if_fits (call_with M codes c call s m h args) reply left c.world b) args below) m) (sym e) (refl, refl, stands_still))

    misfit_writes : fits ≡ true → after_writes c.world.memory reply.writes ≡ None → Meets Misfit s m
    misfit_writes e none = by_answer Misfit m (λ args below t.
        subst (λ b. Meets Misfit (answered (if_fits (call_with M codes c call s m h args) reply left c.world b) args below) m) (sym e)
        (subst (λ o. Meets Misfit (answered (if_written (call_with M codes c call s m h args) reply left c.world o) args below) m) (sym none) (refl, refl, stands_still)))

    -- the same machine, where what frames share is as it was
    pub misfit_all : (shared : Shared) → fits ≡ true → after_writes c.world.memory reply.writes ≡ None → shared ≡ m.shared → Meets Misfit s (record m { shared = shared })
    misfit_all shared e none same = subst (λ (k : Shared). Meets Misfit s (record m { shared = k })) (sym same) (misfit_writes e none)

    -- the world behind the call
    abbrev pub world_with : Option Memory → List Value → World
    world_with memory args = record { globals = c.world.globals; memory = memory; table = c.world.table; replies = left; served = record { call = call_with M codes c call s m h args; reply = reply } ∷ c.world.served }

    pub served_all : (m' : Machine) (memory : Option Memory) → fits ≡ true → after_writes c.world.memory reply.writes ≡ Some memory →
        ((args below : List Value) → Takes M codes c call s m h args below → Finished M codes c call s m h (world_with memory args) c.collected reply.value below m') → Meets Done s m'
    served_all m' memory e some stands = by_answer Done m' (λ args below t.
        subst (λ b. Meets Done (answered (if_fits (call_with M codes c call s m h args) reply left c.world b) args below) m') (sym e)
        (subst (λ o. Meets Done (answered (if_written (call_with M codes c call s m h args) reply left c.world o) args below) m') (sym some)
        (record { stands = stands args below t; args = args; below = below; takes = t; served = refl; replies = refl; collected = refl })))
