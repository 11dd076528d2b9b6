-- What a call of an import comes to, by the answer of the host side.
use Rattle.std.proofs.Common.{◌≡◌, ℕ, List, [], ◌∷◌, ◌++◌, drop, refl, sym, ap, subst, ◌∙◌}
use Rattle.std.specs.Prelude.{Bool, true, false, Option, Some, None, slice_get, option_to_list}
use Rattle.wasm_syntax.specs.declared.value.Value.{Value}
use Rattle.wasm_syntax.specs.declared.parts.Import.{Import}
use Rattle.wasm_syntax.specs.declared.parts.FuncType.{FuncType}
use Rattle.wasm_syntax.specs.declared.host.HostCall.{HostCall}
use Rattle.wasm_syntax.specs.declared.host.Reply.{Reply}
use Rattle.wasm_syntax.specs.declared.host.CollectorCall.{CollectorCall}
use Rattle.wasm_syntax.specs.Numbers.{types}
use Rattle.wasm_syntax.specs.Host.{World, told_or, served_by, if_fits, if_written, fits_type, after_writes}
use Rattle.wasm_syntax.specs.Machine.{Engine, Config, config, Stepped, next, no_reply, bad_reply, step, host, host_call, label, result_of}
use Rattle.linear_memory.specs.Memory.{Memory}
use Rattle.machine_code.specs.declared.code.Code.{Code}
use Rattle.machine_steps.specs.calls.Layout as layout
use Rattle.machine_steps.specs.calls.FramesMeet.{with_labels}
use Rattle.machine_steps.specs.declared.machine.Machine.{Machine}
use Rattle.machine_steps.specs.declared.machine.ImportCall.{ImportCall}
use Rattle.machine_steps.specs.calls.Meets.{StandsFor}
use Rattle.machine_hosted.specs.declared.reply.Replied.{Replied}
use Rattle.machine_hosted.specs.declared.reply.Replied.TheVariants as replies
use Rattle.machine_hosted.specs.inner.Meets.{NotCollected, MeetsReply}
use Rattle.machine_hosted.specs.declared.answer.RunEnd.TheVariants as answers
use Rattle.machine_hosted.specs.declared.turn.Turn.{Turn}
use Rattle.machine_hosted.specs.declared.turn.Turn.TheVariants.{Goes, Ends}
use Rattle.machine_hosted.specs.inner.Turns.{AtCall, told_by, nothing, one_reply, one_told, Turned}
use Rattle.machine_hosted.proofs.CollectorLaws.{unheard}
use Rattle.wasm_syntax.proofs.Types.{same_types_are}

-- what came of a reply
abbrev pub turn_of : Replied → Reply → Turn
turn_of replies.Done reply = Goes
turn_of replies.Misfit reply = Ends (answers.BadReply reply)
turn_of replies.NoMemory reply = Ends answers.NoMemory

module _ (M : Engine) (codes : List Code) (call : ImportCall) (import : Import) (type : FuncType) (args : List Value) (m : Machine) (c : Config) (used_up : Import → Bool) (k : AtCall M codes call import type args m c) where
  abbrev the_call : HostCall
  the_call = host_call call.function import type args

  -- the configuration at the call, and behind it
  abbrev at_it : Config
  at_it = config (with_labels k.calls.frame (k.calls.label ∷ k.calls.outer) ∷ k.calls.callers) c.world c.collected

  abbrev behind_it : Option Value → World → List CollectorCall → Config
  behind_it value w co = config (with_labels k.calls.frame (label (option_to_list value ++ k.below) k.calls.rest k.calls.label.end k.calls.label.kind ∷ k.calls.outer) ∷ k.calls.callers) w co

  stands_still : StandsFor M.program codes m (config (with_labels k.calls.frame (k.calls.label ∷ k.calls.outer) ∷ k.calls.callers) c.world c.collected)
  stands_still = record { frames = subst (λ fs. layout.StandsFor M.program codes m.stack fs) k.calls.frames_are k.calls.stands.frames; shares = k.calls.stands.shares }

  -- no call with arguments of these types is one of the collector's
  pub not_collected : told_by M (host_call call.function import type args) ≡ None → NotCollected M codes c call (step M c) m k.calls
  not_collected none others t =
      let same : types args ≡ types others = k.typed ∙ ap (λ (t : FuncType). t.params) (sym k.type_is) ∙ sym (same_types_are (types others) k.calls.type.params t) in
      unheard M call.function k.calls.import k.calls.type args others same
      (subst (λ i. told_by M (host_call call.function i k.calls.type args) ≡ None) (sym k.import_is) (subst (λ t. told_by M (host_call call.function import t args) ≡ None) (sym k.type_is) none))

  by_told : (o : Option CollectorCall) → told_by M (host_call call.function import type args) ≡ o →
      step M c ≡ host M (told_or o (host_call call.function import type args) c.world) (host_call call.function import type args) k.below k.calls.rest k.calls.frame k.calls.label k.calls.outer k.calls.callers c.world c.collected
  by_told o e = k.step_is ∙ ap (λ o. host M (told_or o (host_call call.function import type args) c.world) (host_call call.function import type args) k.below k.calls.rest k.calls.frame k.calls.label k.calls.outer k.calls.callers c.world c.collected) e

  by_replies : (rs : List Reply) → told_by M (host_call call.function import type args) ≡ None → c.world.replies ≡ rs →
      step M c ≡ host M (served_by (host_call call.function import type args) c.world rs) (host_call call.function import type args) k.below k.calls.rest k.calls.frame k.calls.label k.calls.outer k.calls.callers c.world c.collected
  by_replies rs none e = by_told None none ∙ ap (λ rs. host M (served_by (host_call call.function import type args) c.world rs) (host_call call.function import type args) k.below k.calls.rest k.calls.frame k.calls.label k.calls.outer k.calls.callers c.world c.collected) e

  -- ---- a reply

  module _ (reply : Reply) (left : List Reply) (none : told_by M (host_call call.function import type args) ≡ None) (e : c.world.replies ≡ reply ∷ left) (m' : Machine) where
    abbrev Meets : Replied → Stepped → Type 0
    Meets o s = MeetsReply M codes c call (step M c) m k.calls reply left o s m'

    abbrev ReplyTurned : Replied → Type 0
    ReplyTurned o = Turned M codes used_up (one_reply (host_call call.function import type args) reply) (turn_of o reply) c m' left

    where_misfit : step M c ≡ bad_reply the_call reply at_it → (o : Replied) → Meets o (bad_reply the_call reply at_it) → ReplyTurned o
    where_misfit s replies.Done t = absurd t
    where_misfit s replies.Misfit t = record { what = bad_reply the_call reply at_it; is = s; stops = tt; tells = (refl, t.2); served = record { served = refl; collected = refl; left = ap (drop 1) e } }
    where_misfit s replies.NoMemory t = record { what = bad_reply the_call reply at_it; is = s; stops = tt; tells = tt; served = record { served = refl; collected = refl; left = ap (drop 1) e } }

    abbrev world_with : Option Memory → World
    world_with memory = record { globals = c.world.globals; memory = memory; table = c.world.table; replies = left; served = record { call = host_call call.function import type args; reply = reply } ∷ c.world.served }

    where_fit : (memory : Option Memory) → step M c ≡ next (behind_it reply.value (world_with memory) c.collected) → (o : Replied) → Meets o (next (behind_it reply.value (world_with memory) c.collected)) → ReplyTurned o
    where_fit memory s replies.Done t = record { what = next (behind_it reply.value (world_with memory) c.collected); is = s; stops = tt; tells = t.stands; served = record { served = refl; collected = refl; left = refl } }
    where_fit memory s replies.Misfit t = absurd t
    where_fit memory s replies.NoMemory t = record { what = next (behind_it reply.value (world_with memory) c.collected); is = s; stops = tt; tells = tt; served = record { served = refl; collected = refl; left = refl } }

    by_memory : (o : Replied) (memory : Option (Option Memory)) →
        step M c ≡ host M (if_written the_call reply left c.world memory) the_call k.below k.calls.rest k.calls.frame k.calls.label k.calls.outer k.calls.callers c.world c.collected → Meets o (step M c) → ReplyTurned o
    by_memory o None s t = where_misfit s o (subst (Meets o) s t)
    by_memory o (Some memory) s t = where_fit memory s o (subst (Meets o) s t)

    by_fits : (o : Replied) (b : Bool) → step M c ≡ host M (if_fits the_call reply left c.world b) the_call k.below k.calls.rest k.calls.frame k.calls.label k.calls.outer k.calls.callers c.world c.collected → Meets o (step M c) → ReplyTurned o
    by_fits o false s t = where_misfit s o (subst (Meets o) s t)
    by_fits o true s t = by_memory o (after_writes c.world.memory reply.writes) s t

    pub reply_turns : (o : Replied) → MeetsReply M codes c call (step M c) m k.calls reply left o (step M c) m' → Turned M codes used_up (one_reply (host_call call.function import type args) reply) (turn_of o reply) c m' left
    reply_turns o t = by_fits o (fits_type (result_of type) reply.value) (by_replies (reply ∷ left) none e) t

  -- ---- a call of the collector

  module _ (kept : CollectorCall) (some : told_by M (host_call call.function import type args) ≡ Some kept) (m' : Machine) where
    pub told_goes : StandsFor M.program codes m' (config (with_labels k.calls.frame (label k.below k.calls.rest k.calls.label.end k.calls.label.kind ∷ k.calls.outer) ∷ k.calls.callers) c.world (kept ∷ c.collected)) →
        Turned M codes used_up (one_told kept) Goes c m' c.world.replies
    told_goes stands = record { what = next (behind_it None c.world (kept ∷ c.collected)); is = by_told (Some kept) some; stops = tt; tells = stands; served = record { served = refl; collected = refl; left = refl } }

    pub told_lacks : Turned M codes used_up (one_told kept) (Ends answers.NoMemory) c m' c.world.replies
    told_lacks = record { what = next (behind_it None c.world (kept ∷ c.collected)); is = by_told (Some kept) some; stops = tt; tells = tt; served = record { served = refl; collected = refl; left = refl } }

  -- ---- no reply

  module _ (none : told_by M (host_call call.function import type args) ≡ None) (e : c.world.replies ≡ []) where
    pub silent_turns : slice_get M.program.module_.imports call.function ≡ Some import → used_up import ≡ true → Turned M codes used_up nothing (Ends answers.NoReply) c m []
    silent_turns is none_left = record { what = no_reply the_call at_it; is = by_replies [] none e; stops = tt; tells = (stands_still, (import, is, none_left)); served = record { served = refl; collected = refl; left = e } }

    pub failed_turns : (name : List ℕ) → slice_get M.program.module_.imports call.function ≡ Some import → name ≡ import.«module» → used_up import ≡ false → Turned M codes used_up nothing (Ends (answers.DeviceFault name)) c m []
    failed_turns name is same some_left = record { what = no_reply the_call at_it; is = by_replies [] none e; stops = tt; tells = ((import, is, same, some_left), stands_still); served = record { served = refl; collected = refl; left = e } }
