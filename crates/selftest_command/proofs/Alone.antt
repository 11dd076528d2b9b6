-- What the run of the first module comes to, without a collector, from what its parts ensure.
use Rattle.std.proofs.Common.{◌≡◌, ℕ, List, [], ◌∷◌, map, slice_get, refl, sym, ap, subst, ◌∙◌, false, Some, None, Result, Ok, Err}
use Rattle.std.specs.Prelude.{Bool, codes, IfOk}
use Rattle.std.specs.declared.vec.Vec.{Vec}
use Rattle.std.specs.Global.{Global}
use Rattle.wasm_syntax.specs.declared.parts.FuncType.{FuncType}
use Rattle.wasm_syntax.specs.declared.parts.Import.{Import}
use Rattle.wasm_syntax.specs.declared.host.Served.{Served}
use Rattle.wasm_syntax.specs.declared.module.ModuleParts.{ModuleParts as Module}
use Rattle.wasm_syntax.specs.Module.{Program, IsModule, function_export}
use Rattle.wasm_syntax.specs.Machine.{Config}
use Rattle.wasm_syntax.specs.Run.{Outcome, not_started, finished, trapped, lacks_reply, misfits, running, first_false, Cause, cause_of, cause_of_segments}
use Rattle.machine_basics.specs.declared.answer.TrapKind.{TrapKind}
use Rattle.machine_code.specs.declared.prepared.Prepared.{Prepared}
use Rattle.machine_steps.specs.calls.Meets.{StandsFor}
use Rattle.host_devices.specs.calls.HostSides.{Origin}
use Rattle.host_set.specs.Sets.{DeviceState, names}
use Rattle.host_set.specs.calls.Hosting.{HostsState, origin_of, calls_of, serves as hosts_serve}
use Rattle.machine_hosted.specs.declared.answer.RunEnd.{RunEnd}
use Rattle.machine_hosted.specs.declared.answer.RunEnd.TheVariants.{Finished, Trapped, NoReply, BadReply, DeviceFault, FuelSpent, NoMemory}
use Rattle.machine_hosted.specs.calls.Settings.{Knows}
use Rattle.machine_hosted.specs.calls.Answers.{KeepsThen}
use Rattle.machine_hosted.specs.calls.Invocations.{HasOutcome}
use Rattle.wasm_machine.specs.calls.Entries.{is_served, first_unserved, entry_fault}
use Rattle.wasm_machine.specs.calls.Instances.{State, IsNew, IsOf, StandsAt, Invoked}
use Rattle.wasm_machine.specs.declared.entries.EntryFault.{EntryFault}
use Rattle.wasm_machine.proofs.StandingLaws.{of_same, trap_stands}
use Rattle.causes.specs.declared.NoMemory.{NoMemory as WantOfMemory}
use Rattle.selftest_command.specs.Handing.{main_on, fuel, depth, own_dump}
use Rattle.selftest_command.specs.inner.Steps.{RunsAlone}
use Rattle.selftest_command.proofs.Runs.{entry_cause, once_not_begun, no_cause, same_export, came_once}
use Rattle.pm_text.proofs.Lists.{some_is}

-- ---- the host side

-- a module without imports asks for nothing
none_unserved : (m : Module) (serving : Import → FuncType → Bool) → m.imports ≡ [] → first_unserved serving m ≡ None
none_unserved m serving none = ap (λ is. first_false 0 (map (is_served serving m) is)) none

pub knows_alone : (m : Module) (s : State) (h : HostsState) (lent : List Import) → IsNew m s → h.imports ≡ lent → lent ≡ m.imports → Knows (origin_of h) s.module_
knows_alone m s h lent is_new are same f i e = ap (λ is. slice_get is f) (are ∙ same) ∙ ap (λ (x : Module). slice_get x.imports f) (sym is_new.module_is) ∙ e

pub none_named_alone : (h back : HostsState) (set : List DeviceState) → origin_of back ≡ origin_of h → h.devices ≡ set → set ≡ [] → names back.devices ≡ []
none_named_alone h back set same devices none = ap (λ (o : Origin). o.names) same ∙ ap names (devices ∙ none)

pub no_script_alone : (h back : HostsState) → origin_of back ≡ origin_of h → h.script ≡ None → back.script ≡ None
no_script_alone h back same script = ap (λ (o : Origin). o.script) same ∙ script

-- ---- where nothing is begun

no_trap : (cause : Cause) (kind : ℕ) → not_started cause ≡ trapped kind → ⊥
no_trap cause kind e = absurd cc

pub alone_not_begun : (n : ℕ) (m : Module) (whole : IsModule m) (dump : List ℕ) → (cause : Cause) × (cause_of m (main_on n ∷ []) ≡ Some cause) → RunsAlone n m dump
alone_not_begun n m whole dump (cause, is) = record { run = once_not_begun false n m whole cause is; dump_is = λ kind at ended last. absurd (no_trap cause kind ended) }

pub refused_alone : (n : ℕ) (m : Module) (whole : IsModule m) (s : State) (h : HostsState) (fault : EntryFault) (dump : List ℕ) → IsNew m s → m.imports ≡ []
    → Some fault ≡ entry_fault (λ i t. hosts_serve h i) s.module_ (codes "main") (main_on n).args → RunsAlone n m dump
refused_alone n m whole s h fault dump is_new none is =
    let serving : Import → FuncType → Bool = λ i t. hosts_serve h i in
    alone_not_begun n m whole dump (entry_cause n m serving fault (none_unserved m serving none) (is ∙ ap (λ x. entry_fault serving x (codes "main") (main_on n).args) is_new.module_is))

-- ---- where it is run

pub same_items : {x y : List ℕ} (result : Result (Vec ℕ Global) WantOfMemory) → IfOk result (λ v. v.items ≡ x) → x ≡ y → IfOk result (λ v. v.items ≡ y)
same_items (Err e) is same = tt
same_items (Ok v) is same = is ∙ same

-- an outcome that is a trap is answered as one
trap_of : (p : Program) (used_up : Import → Bool) (a : RunEnd) (o : Outcome) (kind : ℕ) → (a ≡ NoMemory → ⊥) → HasOutcome p used_up a o → o ≡ trapped kind → (k : TrapKind) × (a ≡ Trapped k)
trap_of p used_up (Trapped k) o kind some h e = (k, refl)
trap_of p used_up (Finished v) o kind some h e = let clash : finished v ≡ trapped kind = sym h ∙ e in absurd cc
trap_of p used_up NoReply o kind some (call, is, up) e = let clash : lacks_reply call ≡ trapped kind = sym is ∙ e in absurd cc
trap_of p used_up (DeviceFault device) o kind some (call, is, named) e = let clash : lacks_reply call ≡ trapped kind = sym is ∙ e in absurd cc
trap_of p used_up (BadReply reply) o kind some (call, is) e = let clash : misfits call reply ≡ trapped kind = sym is ∙ e in absurd cc
trap_of p used_up FuelSpent o kind some h e = let clash : running ≡ trapped kind = sym h ∙ e in absurd cc
trap_of p used_up NoMemory o kind some h e = absurd (some refl)

-- and leaves the instance at its configuration
stands : (p : Program) (s later : State) (c : Config) (a : RunEnd) (k : TrapKind) → later.module_ ≡ s.module_ → later.prepared ≡ s.prepared → IsOf s p → KeepsThen p s.prepared.codes.items a later.machine c → a ≡ Trapped k → StandsAt later p c
stands p s later c a k same prepared is keeps e =
    let here : StandsFor p s.prepared.codes.items later.machine c = subst (λ x. KeepsThen p s.prepared.codes.items x later.machine c) e keeps in
    trap_stands later p c (of_same s later p same is) (subst (λ (r : Prepared). StandsFor p r.codes.items later.machine c) (sym prepared) here)

pub ran_alone : (n f : ℕ) (m : Module) (whole : IsModule m) (s later : State) (first last : HostsState) (end : RunEnd) (used_up : Import → Bool) (result : Result (Vec ℕ Global) WantOfMemory)
    → IsNew m s → m.imports ≡ [] → cause_of_segments m ≡ None → later.module_ ≡ s.module_ → later.prepared ≡ s.prepared
    → None ≡ entry_fault (λ i t. hosts_serve first i) s.module_ (codes "main") (main_on n).args → function_export s.module_ (codes "main") ≡ Some f
    → ((p : Program) → IsOf s p → Invoked p false (depth false) used_up f (main_on n).args fuel s later end (calls_of first) (calls_of last))
    → last.served ≡ []
    → IfOk result (λ v. end ≡ NoMemory → ⊥)
    → ((p : Program) (c : Config) (kind : TrapKind) → end ≡ Trapped kind → StandsAt later p c → IfOk result (λ v. v.items ≡ own_dump c))
    → IfOk result (λ v. RunsAlone n m v.items)
ran_alone n f m whole s later first last end used_up (Err e) is_new none segments same prepared entry export invoked nothing some dumps = tt
ran_alone n f m whole s later first last end used_up (Ok v) is_new none segments same prepared entry export invoked nothing some dumps =
    let serving : Import → FuncType → Bool = λ i t. hosts_serve first i in
    let came = came_once false n f m whole s later end used_up (calls_of first) (calls_of last) is_new segments (no_cause n m s serving is_new (none_unserved m serving none) entry) (same_export m s f is_new export) some
    (ap (λ l. map (λ (x : List ℕ × Served). x.1) l) nothing) refl invoked
    in
    record {
      run = came.run;
      dump_is = λ kind at ended there.
          let k = trap_of came.run.program used_up end came.run.ran.outcome kind some came.outcome ended in
          let is : came.last ≡ at = some_is (sym came.last_is ∙ there) in
          subst (λ c. v.items ≡ own_dump c) is (dumps came.run.program came.last k.0 k.1 (stands came.run.program s later came.last end k.0 same prepared came.is_of came.keeps k.1));
    }
