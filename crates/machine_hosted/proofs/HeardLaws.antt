-- What a call of an import comes to, whatever replies are left, by what the host side answered.
use Rattle.std.proofs.Common.{◌≡◌, ◌≤◌, ℕ, List, [], ◌∷◌, ◌++◌, length, reverse, refl, sym, ap, subst, ◌∙◌, arith}
use Rattle.std.specs.Prelude.{Bool, true, false, Option, Some, None, is_some, slice_get, option_to_list}
use Rattle.wasm_syntax.specs.declared.value.Value.{Value}
use Rattle.wasm_syntax.specs.declared.parts.Import.{Import}
use Rattle.wasm_syntax.specs.declared.parts.FuncType.{FuncType}
use Rattle.wasm_syntax.specs.declared.module.ModuleParts.{ModuleParts as Module}
use Rattle.wasm_syntax.specs.declared.host.HostCall.{HostCall}
use Rattle.wasm_syntax.specs.declared.host.Reply.{Reply}
use Rattle.wasm_syntax.specs.declared.host.CollectorCall.{CollectorCall}
use Rattle.wasm_syntax.specs.Numbers.{types}
use Rattle.wasm_syntax.specs.Module.{imported, function_at}
use Rattle.wasm_syntax.specs.declared.value.ValType.{ValType}
use Rattle.wasm_syntax.specs.Machine.{Engine, Config, Stepped, step, host_call, first}
use Rattle.wasm_laws.proofs.Validity.{startable}
use Rattle.machine_code.specs.declared.code.Code.{Code}
use Rattle.machine_steps.specs.declared.machine.Machine.{Machine}
use Rattle.machine_steps.specs.declared.machine.ImportCall.{ImportCall}
use Rattle.machine_steps.specs.calls.Meets.{CallsImport}
use Rattle.host_devices.specs.calls.HostSides.{Calls, told, Adds, IsOfType}
use Rattle.machine_hosted.specs.declared.answer.RunEnd.{RunEnd}
use Rattle.machine_hosted.specs.declared.answer.RunEnd.TheVariants as answers
use Rattle.machine_hosted.specs.declared.turn.Turn.{Turn}
use Rattle.machine_hosted.specs.declared.turn.Turn.TheVariants.{Goes, Ends, Lacking}
use Rattle.machine_hosted.specs.calls.Hosted.{Asked, Grew}
use Rattle.machine_hosted.specs.calls.Answers.{AdmitsReplies, HasCause}
use Rattle.host_devices.specs.Given.{replies_of}
use Rattle.machine_hosted.specs.inner.Turns.{Calling, AtCall, told_by, nothing, one_reply, one_told, end_of, Turned, TurnMeets, IsReplied}
use Rattle.machine_hosted.proofs.CallLaws.{imported_is, called, at_call}
use Rattle.machine_hosted.proofs.CollectorLaws.{told_same}
use Rattle.machine_hosted.proofs.TurnLaws.{silent_turns, failed_turns}

-- ---- what the host side's lists grew by

pub append_nil : {A : Type 0} → (l : List A) → l ++ [] ≡ l
append_nil [] = refl
append_nil (x ∷ xs) = ap (λ l. x ∷ l) (append_nil xs)

pub grew_none : (old new : Calls) → new ≡ old → Grew nothing old new
grew_none old new e = record { served = ap (λ (k : Calls). k.served) e ∙ sym (append_nil old.served); collected = ap (λ (k : Calls). k.collected) e ∙ sym (append_nil old.collected) }

-- a call of the collector that was taken
pub record IsTold (o : Option CollectorCall) (old new : Calls) : Type 0 where
  pub kept : CollectorCall
  pub is : o ≡ Some kept
  pub grew : Grew (one_told kept) old new

pub grew_told : (o : Option CollectorCall) (b : Bool) (call : HostCall) (reply : Reply) (old new : Calls) → b ≡ is_some o → b ≡ true → Adds o call reply old new → IsTold o old new
grew_told None b call reply old new e t h = absurd (cc)
grew_told (Some k) b call reply old new e t h = record { kept = k; is = refl; grew = record { served = h.0 ∙ sym (append_nil old.served); collected = h.1 } }

-- a reply
pub record IsServed (o : Option CollectorCall) (call : HostCall) (reply : Reply) (old new : Calls) : Type 0 where
  pub is : o ≡ None
  pub grew : Grew (one_reply call reply) old new

pub grew_reply : (o : Option CollectorCall) (b : Bool) (call : HostCall) (reply : Reply) (old new : Calls) → b ≡ is_some o → b ≡ false → Adds o call reply old new → IsServed o call reply old new
grew_reply (Some k) b call reply old new e t h = absurd (cc)
grew_reply None b call reply old new e t h = record { is = refl; grew = record { served = h.0; collected = h.1 ∙ sym (append_nil old.collected) } }

-- ---- turns

meets : (M : Engine) (codes : List Code) (used_up : Import → Bool) (turn : Turn) (there : List Reply → Config) (m : Machine) (old new : Calls) (asked : Asked) → Grew asked old new →
    ((more : List Reply) → AdmitsReplies (end_of turn) more → Turned M codes used_up asked turn (there (replies_of asked.given ++ more)) m more) → TurnMeets M codes used_up turn there m old new
meets M codes used_up Goes there m old new asked g t = record { asked = asked; grew = g; turned = t }
meets M codes used_up (Ends answer) there m old new asked g t = record { asked = asked; grew = g; turned = t }
meets M codes used_up Lacking there m old new asked g t = absurd ((t [] tt).stops)

module _ (source : Module) (call : ImportCall) (m : Machine) (collecting : Bool) (serving : Import → FuncType → Bool) (import : Import) (type : FuncType) (args : List Value)
    (a : slice_get source.imports call.function ≡ Some import) (b : slice_get source.types import.ftype ≡ Some type)
    (reads : (M : Engine) (codes : List Code) (c : Config) (s : Stepped) (h : CallsImport M codes c call s m) (others below : List Value) → h.operands ≡ reverse others ++ below → length others ≡ length type.params → args ≡ others)
    (k : Calling source call m collecting serving) where
  abbrev the_call : HostCall
  the_call = host_call call.function import type args

  in_program : slice_get k.engine.program.module_.imports call.function ≡ Some import
  in_program = ap (λ (s : Module). slice_get s.imports call.function) (sym k.setting.source_is) ∙ a

  is_import : function_at k.engine.program call.function ≡ Some (imported import type)
  is_import = imported_is k.engine.program call.function import type in_program (ap (λ (s : Module). slice_get s.types import.ftype) (sym k.setting.source_is) ∙ b)

  type_known : (more : List Reply) → (k.calls more).type ≡ type
  type_known more =
      let both : Some (imported (k.calls more).import (k.calls more).type) ≡ Some (imported import type) = sym (k.calls more).is ∙ is_import in
      cc

  pub at_calls : (more : List Reply) → AtCall k.engine k.codes call import type args m (k.there more)
  at_calls more =
      let q = called k.engine k.codes call m (k.there more) (k.calls more) (k.safe more) in
      at_call k.engine k.codes call m (k.there more) (k.calls more) (k.safe more) import type args is_import
      (reads k.engine k.codes (k.there more) (step k.engine (k.there more)) (k.calls more) q.args q.below q.operands (q.count ∙ ap (λ (t : FuncType). length t.params) (type_known more)))

  pub served : serving import type ≡ true
  served = k.setting.serves call.function import type a b

  pub typed : types args ≡ type.params
  typed = (at_calls []).typed

  pub few : length type.results ≤ 1
  few = let v = k.setting.valid in (startable k.engine.program v.writes v.paired v.valid).typed.few call.function (imported import type) is_import

  told_is : (o : Option CollectorCall) → told collecting import (host_call call.function import type args) ≡ o → told_by k.engine (host_call call.function import type args) ≡ o
  told_is o e = told_same k.engine collecting call.function import type args k.setting.collects in_program ∙ e

  module _ (used_up : Import → Bool) (turn : Turn) (m' : Machine) (old new : Calls) where
    pub told_meets : IsTold (told collecting import (host_call call.function import type args)) old new →
        ((taken : Import → Bool) (M : Engine) (codes : List Code) (i : Import) (us : List Value) (c : Config) (kept : CollectorCall) → AtCall M codes call i type us m c → told_by M (host_call call.function i type us) ≡ Some kept → Turned M codes taken (one_told kept) turn c m' c.world.replies) →
        TurnMeets k.engine k.codes used_up turn k.there m' old new
    told_meets g t = meets k.engine k.codes used_up turn k.there m' old new (one_told g.kept) g.grew
        (λ more admits. subst (Turned k.engine k.codes used_up (one_told g.kept) turn (k.there more) m') (k.replies more) (t used_up k.engine k.codes import args (k.there more) g.kept (at_calls more) (told_is (Some g.kept) g.is)))

    pub reply_meets : (reply : Reply) → IsServed (told collecting import (host_call call.function import type args)) (host_call call.function import type args) reply old new →
        ((taken : Import → Bool) (M : Engine) (codes : List Code) (i : Import) (us : List Value) (c : Config) (left : List Reply) → AtCall M codes call i type us m c → told_by M (host_call call.function i type us) ≡ None → c.world.replies ≡ reply ∷ left → Turned M codes taken (one_reply (host_call call.function i type us) reply) turn c m' left) →
        TurnMeets k.engine k.codes used_up turn k.there m' old new
    reply_meets reply g t = meets k.engine k.codes used_up turn k.there m' old new (one_reply (host_call call.function import type args) reply) g.grew
        (λ more admits. t used_up k.engine k.codes import args (k.there (reply ∷ more)) more (at_calls (reply ∷ more)) (told_is None g.is) (k.replies (reply ∷ more)))

  pub silent_meets : (used_up : Import → Bool) (old new : Calls) → used_up import ≡ true → (new ≡ old) × (told collecting import (host_call call.function import type args) ≡ None) → TurnMeets k.engine k.codes used_up (Ends answers.NoReply) k.there m old new
  silent_meets used_up old new none_left h = record {
    asked = nothing;
    grew = grew_none old new h.0;
    turned = λ more admits. subst (λ r. Turned k.engine k.codes used_up nothing (Ends answers.NoReply) (k.there more) m r) (sym admits)
        (silent_turns k.engine k.codes call import type args m (k.there more) used_up (at_calls more) (told_is None h.1) (k.replies more ∙ admits) in_program none_left);
  }

  pub failed_meets : (used_up : Import → Bool) (name : List ℕ) (old new : Calls) → name ≡ import.«module» → used_up import ≡ false → (new ≡ old) × (told collecting import (host_call call.function import type args) ≡ None) → TurnMeets k.engine k.codes used_up (Ends (answers.DeviceFault name)) k.there m old new
  failed_meets used_up name old new e some_left h = record {
    asked = nothing;
    grew = grew_none old new h.0;
    turned = λ more admits. subst (λ r. Turned k.engine k.codes used_up nothing (Ends (answers.DeviceFault name)) (k.there more) m r) (sym admits)
        (failed_turns k.engine k.codes call import type args m (k.there more) used_up (at_calls more) (told_is None h.1) (k.replies more ∙ admits) name in_program e some_left);
  }

-- ---- the call that is made

one_listed : (ts : List ValType) → length ts ≤ 1 → option_to_list (first ts) ≡ ts
one_listed [] le = refl
one_listed (t ∷ []) le = refl
one_listed (t ∷ u ∷ ts) le = absurd (omega (arith, le))

pub of_type : (f : ℕ) (i : Import) (type : FuncType) (args : List Value) (call : HostCall) → call ≡ host_call f i type args → types args ≡ type.params → length type.results ≤ 1 → IsOfType type call
of_type f i type args call e t le = subst (IsOfType type) (sym e) (t, one_listed type.results le)

-- ---- where the host side replied

pub replied_cause : (answer : RunEnd) (before now : List ℕ → ℕ) → IsReplied answer → HasCause answer before now
replied_cause answers.FuelSpent before now h = tt
replied_cause (answers.Finished value) before now h = tt
replied_cause (answers.Trapped kind) before now h = tt
replied_cause answers.NoReply before now h = absurd h
replied_cause (answers.DeviceFault name) before now h = absurd h
replied_cause (answers.BadReply reply) before now h = tt
replied_cause answers.NoMemory before now h = tt
