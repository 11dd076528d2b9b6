-- The answer on a module and on replies, by what its parts came to.
use Rattle.std.proofs.Common.{◌≡◌, ℕ, ◌<◌, ◌^◌, List, None, Result, Ok, Err, sym, ap, subst, ◌∙◌}
use Rattle.std.specs.Prelude.{IfOk}
use Rattle.wasm_syntax.specs.declared.value.Value.{Value}
use Rattle.wasm_syntax.specs.declared.host.Reply.{Reply}
use Rattle.wasm_syntax.specs.declared.module.ModuleParts.{ModuleParts as Module}
use Rattle.commands.specs.declared.outcome.Outcome.{Outcome}
use Rattle.run_command.specs.Starting.{cause_text}
use Rattle.run_command.specs.RunAnswer.{StartsOr}
use Rattle.replay.specs.declared.fault.StartRefusal.{StartRefusal}
use Rattle.replay.specs.Moves.{IsFault, Replay, Starts}
use Rattle.replay.specs.Replays.{Recording, cause_in}
use Rattle.replay_command.specs.declared.asking.ReplayWords.{ReplayWords}
use Rattle.replay_command.specs.ReplayAnswer.{IsTold, ModuleAnswer, recording}
use Rattle.replay_command.specs.inner.Told.{StandsAtStart, TellsFault}

-- what is run, as the call has it
abbrev pub asked : (m : Module) (entry : List ℕ) (args : List Value) (replies : List Reply) (depth fuel : ℕ) → Recording
asked m entry args replies depth fuel = record { module_ = m; entry = entry; args = args; replies = replies; depth = depth; fuel = fuel }

pub asked_is : (w : ReplayWords) (m : Module) (replies : List Reply) (entry : List ℕ) (args : List Value) (depth : ℕ) → entry ≡ w.entry → args ≡ w.args → depth ≡ w.depth → asked m entry args replies depth w.fuel ≡ recording w m replies
asked_is w m replies entry args depth e a d = λ i. record { module_ = m; entry = e i; args = a i; replies = replies; depth = d i; fuel = w.fuel }

pub at_start : (m : Module) (entry : List ℕ) (args : List Value) (replies : List Reply) (depth fuel every : ℕ) (r : Replay) → depth < 2 ^ 32 → Starts (Ok r) (asked m entry args replies depth fuel) every → StandsAtStart m r
at_start m entry args replies depth fuel every r deep (none, same, far, first) = record {
  module_ = ap (λ (x : Recording). x.module_) same;
  depth = subst (λ (x : Recording). x.depth < 2 ^ 32) (sym same) deep;
  step = first;
}

-- it starts
pub starts_told : {E : Type 0} (w : ReplayWords) (bytes commands : List ℕ) (m : Module) (replies : List Reply) (entry : List ℕ) (args : List Value) (depth every : ℕ) (r : Replay) (result : Result Outcome E)
    → entry ≡ w.entry → args ≡ w.args → depth ≡ w.depth → commands ≡ w.commands → Starts (Ok r) (asked m entry args replies depth w.fuel) every → IfOk result (IsTold r.recording bytes commands) → IfOk result (ModuleAnswer w bytes m replies)
starts_told w bytes commands m replies entry args depth every r (Err e) ee ea ed ec starts told = tt
starts_told w bytes commands m replies entry args depth every r (Ok o) ee ea ed ec (none, same, far, first) told =
    let x : r.recording ≡ recording w m replies = same ∙ asked_is w m replies entry args depth ee ea ed in
    let here : IsTold (recording w m replies) bytes w.commands o = subst (λ z. IsTold z bytes w.commands o) x (subst (λ cs. IsTold r.recording bytes cs o) ec told) in
    let cause : cause_in (recording w m replies) ≡ None = ap cause_in (sym (asked_is w m replies entry args depth ee ea ed)) ∙ none in
    subst (λ c. StartsOr (cause_text w.entry c) (IsTold (recording w m replies) bytes w.commands o) o) (sym cause) here

-- it does not start
pub fault_told : {E : Type 0} (w : ReplayWords) (bytes : List ℕ) (m : Module) (replies : List Reply) (entry : List ℕ) (args : List Value) (depth every : ℕ) (fault : StartRefusal) (result : Result Outcome E)
    → entry ≡ w.entry → args ≡ w.args → depth ≡ w.depth → Starts (Err fault) (asked m entry args replies depth w.fuel) every → IfOk result (TellsFault fault w.entry) → IfOk result (ModuleAnswer w bytes m replies)
fault_told w bytes m replies entry args depth every fault (Err e) ee ea ed starts tells = tt
fault_told w bytes m replies entry args depth every fault (Ok o) ee ea ed starts tells =
    let is : IsFault fault (recording w m replies) = subst (λ z. IsFault fault z) (asked_is w m replies entry args depth ee ea ed) starts in
    let k = tells (recording w m replies) is in
    subst (λ c. StartsOr c (IsTold (recording w m replies) bytes w.commands o) o) (sym k.1) k.2
