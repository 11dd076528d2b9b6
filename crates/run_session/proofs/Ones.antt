-- One invocation, from what its parts ensure.
use Rattle.std.proofs.Common.{◌≡◌, ℕ, ◌-◌, ◌≤◌, Bool, true, List, [], ◌∷◌, length, sym, subst, Option, Some, None, Result, Ok, Err}
use Rattle.std.specs.Prelude.{IfOk}
use Rattle.causes.specs.declared.NoMemory.{NoMemory as WantOfMemory}
use Rattle.pm_outside.specs.Contents.{Contents}
use Rattle.wasm_syntax.specs.declared.parts.Import.{Import}
use Rattle.wasm_syntax.specs.declared.value.Value.{Value}
use Rattle.wasm_syntax.specs.declared.host.CollectorCall.{CollectorCall}
use Rattle.wasm_syntax.specs.Module.{Program, function_export}
use Rattle.wasm_syntax.specs.Run.{Invocation, engine}
use Rattle.host_devices.specs.calls.HostSides.{Calls}
use Rattle.machine_hosted.specs.declared.answer.RunEnd.{RunEnd}
use Rattle.machine_hosted.specs.declared.answer.RunEnd.TheVariants.{NoMemory}
use Rattle.wasm_machine.specs.calls.Instances.{State, IsOf, Invoked}
use Rattle.commands.specs.Texts.{file_fault}
use Rattle.run_session.specs.Telling.{Tells}
use Rattle.run_session.specs.RunText.{dump_name}
use Rattle.run_session.specs.inner.Turns.{UnlessRefused, IfEnds, IfTurnRefused, Added, LeavesPart, Dumps}
use Rattle.run_session.specs.calls.Sessions.{ends_badly, MadeOne, StopsIn, OnTurnStop}
use Rattle.run_session.specs.declared.turns.Lines.{Lines}
use Rattle.run_session.specs.declared.turns.Turn.{Turn}
use Rattle.run_session.specs.declared.turns.Turn.TheVariants.{GoesOn, Ends, Torn, Refused}
use Rattle.run_session.proofs.Tellings.{Behaves}
use Rattle.run_session.proofs.Stopped.{turn_stops}
use Rattle.run_session.proofs.Invocations.{is_bad, made_one, stopped_in, failed_in}

-- two facts on what is answered in place of a turn
of_refusal : (turn : Turn) (P Q : Type 0) → P → IfTurnRefused (λ _. Q) turn → IfTurnRefused (λ _. P × Q) turn
of_refusal GoesOn P Q x y = tt
of_refusal (Ends a) P Q x y = tt
of_refusal (Torn at) P Q x y = tt
of_refusal (Refused o) P Q x y = (x, y)

both_refused : (result : Result Turn WantOfMemory) (P Q : Type 0) → IfOk result (λ (turn : Turn). P) → IfOk result (IfTurnRefused (λ _. Q)) → IfOk result (IfTurnRefused (λ _. P × Q))
both_refused (Ok turn) P Q x y = of_refusal turn P Q x y
both_refused (Err e) P Q x y = tt

module _ (tell : Tells) (p : Program) (collect there : Bool) (depth frames : ℕ) (base name : List ℕ) (used_up : Import → Bool) (s new : State) (i : Invocation) (args : List Value) (f fuel left : ℕ) (a : RunEnd) (handed : List CollectorCall) (before after : Calls) (told_before told_after : Option Contents)
    (is_of : IsOf new p) (same_prepared : new.prepared ≡ s.prepared) (same_args : args ≡ i.args) (same_left : left ≡ fuel - s.steps) (same_side : there ≡ collect) (same_depth : frames ≡ depth)
    (entry : function_export p.module_ i.name ≡ Some f) (none : collect ≡ true → before.collected ≡ []) (are : handed ≡ after.collected)
    (invoked : Invoked p there frames used_up f args left s new a before after) where
  was : Invoked p collect depth used_up f i.args (fuel - s.steps) s new a before after
  was =
      subst (λ d. Invoked p collect d used_up f i.args (fuel - s.steps) s new a before after) same_depth
      (subst (λ c. Invoked p c frames used_up f i.args (fuel - s.steps) s new a before after) same_side
      (subst (λ n. Invoked p there frames used_up f i.args n s new a before after) same_left
      (subst (λ vs. Invoked p there frames used_up f vs left s new a before after) same_args invoked)))

  pub result_made : (result : Result Turn WantOfMemory) (calls before_count after_count : ℕ) (lines later : Lines) → new.due ≡ None → ends_badly new.last ≡ is_bad a
      → before_count ≡ length before.served → after_count ≡ length after.served → calls ≡ after_count - before_count
      → IfOk result (λ (turn : Turn). a ≡ NoMemory → ⊥)
      → IfOk result (λ turn. UnlessRefused turn (Added tell collect base name new a calls handed lines later told_before told_after turn))
      → IfOk result (λ turn. UnlessRefused turn (MadeOne tell p (engine p collect depth) base name used_up s new i fuel lines later before.served after.served told_before told_after turn))
  result_made (Err e) calls before_count after_count lines later due kept one other counted some added = tt
  result_made (Ok turn) calls before_count after_count lines later due kept one other counted some added =
      made_one tell p collect depth base name used_up s new i f fuel a handed before after told_before told_after is_of same_prepared entry none are was
      calls before_count after_count lines later some due kept one other counted turn added

  -- in it or behind it
  pub result_stopped : (result : Result Turn WantOfMemory) (R : Type 0) (rest : List Invocation) (traps : ℕ) → Behaves tell → s.steps ≤ fuel
      → LeavesPart tell collect base name new a handed traps told_before told_after
      → IfOk result (λ (turn : Turn). a ≡ NoMemory → ⊥)
      → IfOk result (IfTurnRefused (λ _. Dumps tell collect a new handed)) → IfOk result (IfTurnRefused (λ o. (o ≡ file_fault (dump_name base traps)) × R))
      → OnTurnStop (λ stop. StopsIn tell stop (engine p collect depth) base name traps s (i ∷ rest) fuel before.served after.served told_before told_after) result
  result_stopped result R rest traps b begun part some refused named =
      turn_stops (λ stop. StopsIn tell stop (engine p collect depth) base name traps s (i ∷ rest) fuel before.served after.served told_before told_after) ((a ≡ NoMemory → ⊥) × Dumps tell collect a new handed) R (dump_name base traps) result
      (stopped_in tell p collect depth base name used_up s new i f fuel a handed before after told_before told_after is_of same_prepared entry none are was rest traps b begun part)
      (λ has. failed_in tell p collect depth base name used_up s new i f fuel a handed before after told_before told_after is_of same_prepared entry none are was rest traps b begun part has.0 has.1)
      (both_refused result (a ≡ NoMemory → ⊥) (Dumps tell collect a new handed) some refused) named

-- a fact on the answer that ends the list
of_ends : (turn : Turn) (a : RunEnd) (P : RunEnd → Type 0) → IfEnds (λ b. b ≡ a) turn → P a → IfEnds P turn
of_ends GoesOn a P same x = tt
of_ends (Ends b) a P same x = subst P (sym same) x
of_ends (Torn at) a P same x = tt
of_ends (Refused o) a P same x = tt

pub ends_all : (result : Result Turn WantOfMemory) (a : RunEnd) (P : RunEnd → Type 0) → IfOk result (IfEnds (λ b. b ≡ a)) → P a → IfOk result (IfEnds P)
ends_all (Ok turn) a P same x = of_ends turn a P same x
ends_all (Err e) a P same x = tt

pub ends_some : (result : Result Turn WantOfMemory) (a : RunEnd) (P : RunEnd → Type 0) → IfOk result (IfEnds (λ b. b ≡ a)) → IfOk result (λ (turn : Turn). P a) → IfOk result (IfEnds P)
ends_some (Ok turn) a P same x = of_ends turn a P same x
ends_some (Err e) a P same x = tt
