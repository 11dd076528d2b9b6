-- A host side with a collector in front of it, where one is asked for.
use Rattle.std.specs.Prelude.{ℕ, Bool, true, false, List, if◌then◌else◌}
use Rattle.wasm_syntax.specs.declared.parts.FuncType.{FuncType}
use Rattle.wasm_syntax.specs.declared.parts.Import.{Import}
use Rattle.host_devices.specs.calls.HostSides.{Origin}
use Rattle.machine_hosted.specs.calls.Settings.{HostKept}
use Rattle.host_collector.specs.Collecting.{is_told, is_collected}

-- what is served, where this is served without the collector
abbrev pub serving_of : (collect : Bool) → (Import → FuncType → Bool) → Import → FuncType → Bool
serving_of collect serving i type = if collect then (if is_told i then is_collected i type else serving i type) else serving i type

-- what is used up; the collector never is
abbrev pub used_up_of : (collect : Bool) → (Import → Bool) → Import → Bool
used_up_of collect used_up i = if collect then (if is_told i then false else used_up i) else used_up i

-- whether calls are collected
abbrev pub collecting_of : (collect : Bool) → Bool → Bool
collecting_of collect collecting = if collect then true else collecting

-- What never changes behind the collector did not change, and no count of faults fell.
abbrev pub KeptBehind : {H : Type 0} → (H → Origin) → (H → Bool) → (H → Import → FuncType → Bool) → (H → List ℕ → ℕ) → (collect : Bool) → (old new : H) → Type 0
KeptBehind origin collecting serving fault_count collect old new = HostKept origin (λ h. collecting_of collect (collecting h)) (λ h. serving_of collect (serving h)) fault_count old new
