-- One invocation with a collector of its own in front of the host side, and without one.
use Rattle.std.proofs.Common.{◌≡◌, ℕ, Bool, true, false, List, [], refl, sym, ap, subst, Option, Result}
use Rattle.std.specs.Prelude.{IfOk}
use Rattle.causes.specs.declared.NoMemory.{NoMemory as WantOfMemory}
use Rattle.pm_outside.specs.Contents.{Contents}
use Rattle.wasm_syntax.specs.declared.parts.Import.{Import}
use Rattle.wasm_syntax.specs.declared.parts.FuncType.{FuncType}
use Rattle.wasm_syntax.specs.declared.host.Served.{Served}
use Rattle.wasm_syntax.specs.Machine.{Engine}
use Rattle.wasm_syntax.specs.Module.{Program}
use Rattle.wasm_syntax.specs.Run.{Invocation}
use Rattle.host_devices.specs.calls.HostSides.{Origin, Calls}
use Rattle.machine_hosted.specs.calls.Settings.{HostKept}
use Rattle.host_collector.specs.Collecting.{CollectingState, serves, is_used_up}
use Rattle.wasm_machine.specs.calls.Instances.{State}
use Rattle.run_session.specs.Telling.{Tells}
use Rattle.run_session.specs.calls.Collecting.{used_up_of, KeptBehind}
use Rattle.run_session.specs.inner.Turns.{UnlessRefused}
use Rattle.run_session.specs.calls.Sessions.{MadeOne, StopsIn, OnTurnStop}
use Rattle.run_session.specs.declared.turns.Lines.{Lines}
use Rattle.run_session.specs.declared.turns.Turn.{Turn}

-- a collector stood in front of the host side, which was so before and is so then
pub record StoodBehind {H : Type 0} (collect : Bool) (first last : CollectingState H) (before after : H) : Type 0 where
  pub asked : collect ≡ true
  pub begun : first ≡ record { inner = before; calls = [] }
  pub back : after ≡ last.inner

module _ {H : Type 0} (calls : H → Calls) (used_up : H → Import → Bool) (collect : Bool) (first last : CollectingState H) (before after : H) (stood : StoodBehind collect first last before after)
    (tell : Tells) (p : Program) (M : Engine) (base name : List ℕ) (s : State) (fuel : ℕ) (told_before told_after : Option Contents) (result : Result Turn WantOfMemory) where
  inner_is : first.inner ≡ before
  inner_is = ap (λ x. x.inner) stood.begun

  pub made_behind : (new : State) (i : Invocation) (old later : Lines)
      → IfOk result (λ turn. UnlessRefused turn (MadeOne tell p M base name (is_used_up used_up last) s new i fuel old later (calls first.inner).served (calls last.inner).served told_before told_after turn))
      → IfOk result (λ turn. UnlessRefused turn (MadeOne tell p M base name (used_up_of collect (used_up after)) s new i fuel old later (calls before).served (calls after).served told_before told_after turn))
  made_behind new i old later made =
      subst (λ b. IfOk result (λ turn. UnlessRefused turn (MadeOne tell p M base name (used_up_of b (used_up after)) s new i fuel old later (calls before).served (calls after).served told_before told_after turn))) (sym stood.asked)
      (subst (λ h. IfOk result (λ turn. UnlessRefused turn (MadeOne tell p M base name (used_up_of true (used_up h)) s new i fuel old later (calls before).served (calls h).served told_before told_after turn))) (sym stood.back)
      (subst (λ h. IfOk result (λ turn. UnlessRefused turn (MadeOne tell p M base name (used_up_of true (used_up last.inner)) s new i fuel old later (calls h).served (calls last.inner).served told_before told_after turn))) inner_is made))

  pub stops_behind_it : (number : ℕ) (is : List Invocation)
      → OnTurnStop (λ stop. StopsIn tell stop M base name number s is fuel (calls first.inner).served (calls last.inner).served told_before told_after) result
      → OnTurnStop (λ stop. StopsIn tell stop M base name number s is fuel (calls before).served (calls after).served told_before told_after) result
  stops_behind_it number is stops =
      subst (λ h. OnTurnStop (λ stop. StopsIn tell stop M base name number s is fuel (calls before).served (calls h).served told_before told_after) result) (sym stood.back)
      (subst (λ h. OnTurnStop (λ stop. StopsIn tell stop M base name number s is fuel (calls h).served (calls last.inner).served told_before told_after) result) inner_is stops)

module _ {H : Type 0} (origin : H → Origin) (collecting : H → Bool) (serving : H → Import → FuncType → Bool) (fault_count : H → List ℕ → ℕ) (collect : Bool) (before after : H) where
  pub kept_behind : (first last : CollectingState H) → StoodBehind collect first last before after
      → HostKept (λ c. origin c.inner) (λ c. true) (λ c i t. serves serving c i t) (λ c n. fault_count c.inner n) first last
      → KeptBehind origin collecting serving fault_count collect before after
  kept_behind first last stood kept =
      subst (λ b. KeptBehind origin collecting serving fault_count b before after) (sym stood.asked)
      (subst (λ h. KeptBehind origin collecting serving fault_count true before h) (sym stood.back)
      (subst (λ h. KeptBehind origin collecting serving fault_count true h last.inner) (ap (λ x. x.inner) stood.begun) record {
        origin_is = kept.origin_is;
        collecting_is = refl;
        serving_is = kept.serving_is;
        later = kept.later;
      }))

  pub kept_alone : collect ≡ false → HostKept origin collecting serving fault_count before after → KeptBehind origin collecting serving fault_count collect before after
  kept_alone none kept =
      subst (λ b. KeptBehind origin collecting serving fault_count b before after) (sym none) record {
        origin_is = kept.origin_is;
        collecting_is = kept.collecting_is;
        serving_is = kept.serving_is;
        later = kept.later;
      }

-- without a collector
pub made_alone : (collect : Bool) (used_up : Import → Bool) → collect ≡ false → (tell : Tells) (p : Program) (M : Engine) (base name : List ℕ) (s new : State) (i : Invocation) (fuel : ℕ) (old later : Lines) (before after : List Served) (told_before told_after : Option Contents) (result : Result Turn WantOfMemory)
    → IfOk result (λ turn. UnlessRefused turn (MadeOne tell p M base name used_up s new i fuel old later before after told_before told_after turn))
    → IfOk result (λ turn. UnlessRefused turn (MadeOne tell p M base name (used_up_of collect used_up) s new i fuel old later before after told_before told_after turn))
made_alone collect used_up none tell p M base name s new i fuel old later before after told_before told_after result made =
    subst (λ b. IfOk result (λ turn. UnlessRefused turn (MadeOne tell p M base name (used_up_of b used_up) s new i fuel old later before after told_before told_after turn))) (sym none) made
