-- A set of devices: a map from names to devices, kept as a list in order of attachment.
use Rattle.std.specs.Prelude.{◌≡◌, ◌≤◌, ℕ, zero, suc, List, [], ◌∷◌, Option, Some, None, Bool, true, false, if◌then◌else◌, map}
use Rattle.std.specs.Str.{bytes_eq}
use Rattle.wasm_syntax.specs.declared.host.HostCall.{HostCall}
use Rattle.wasm_syntax.specs.declared.host.Served.{Served}
use Rattle.causes.specs.Counts.{Rose}
use Rattle.host_devices.specs.calls.Devices.{log_after}
use Rattle.host_devices.specs.declared.device.DeviceAnswer.{DeviceAnswer}
use Rattle.host_devices.specs.declared.device.DeviceAnswer.TheVariants.{Failed}

-- what a device shows: its name, the calls that it replied to, and its count of faults
pub record DeviceState : Type 0 where
  pub name : List ℕ
  pub log : List Served
  pub count : ℕ

abbrev pub no_device : DeviceState
no_device = record { name = []; log = []; count = 0 }

-- the names, in order
abbrev pub names : List DeviceState → List (List ℕ)
names devices = map (λ d. d.name) devices

-- whether a name stands in a list
abbrev pub is_named : List (List ℕ) → List ℕ → Bool
is_named [] name = false
is_named (n ∷ ns) name = if bytes_eq n name then true else is_named ns name

-- each name stands once
abbrev pub AreDistinct : List (List ℕ) → Type 0
AreDistinct [] = Unit {0}
AreDistinct (n ∷ ns) = (is_named ns n ≡ false) × AreDistinct ns

-- the device of a name stands at a place
abbrev pub IsPlace : List DeviceState → List ℕ → ℕ → Type 0
IsPlace [] name i = ⊥
IsPlace (d ∷ ds) name zero = bytes_eq d.name name ≡ true
IsPlace (d ∷ ds) name (suc i) = (bytes_eq d.name name ≡ false) × IsPlace ds name i

-- no device has a name
pub record IsUnnamed (devices : List DeviceState) (name : List ℕ) : Type 0 where
  pub unnamed : is_named (names devices) name ≡ false

-- the device of a name
abbrev pub device_named : List DeviceState → List ℕ → Option DeviceState
device_named [] name = None
device_named (d ∷ ds) name = if bytes_eq d.name name then Some d else device_named ds name

-- a device in place of the one of its name, or at the end
abbrev pub attached : List DeviceState → DeviceState → List DeviceState
attached [] new = new ∷ []
attached (d ∷ ds) new = if bytes_eq d.name new.name then new ∷ ds else d ∷ attached ds new

-- without the device of a name
abbrev pub released : List DeviceState → List ℕ → List DeviceState
released [] name = []
released (d ∷ ds) name = if bytes_eq d.name name then ds else d ∷ released ds name

-- the log of the device of a name
abbrev pub log_of : List DeviceState → List ℕ → List Served
log_of [] name = []
log_of (d ∷ ds) name = if bytes_eq d.name name then d.log else log_of ds name

-- the count of faults of the device of a name
abbrev pub count_of : List DeviceState → List ℕ → ℕ
count_of [] name = 0
count_of (d ∷ ds) name = if bytes_eq d.name name then d.count else count_of ds name

-- a device behind a call
pub record IsCalled (answer : DeviceAnswer) (call : HostCall) (old new : DeviceState) : Type 0 where
  pub name : new.name ≡ old.name
  pub log : new.log ≡ log_after answer call old.log
  pub later : old.count ≤ new.count
  pub failed : answer ≡ Failed → Rose old.count new.count
