-- A host side made of a set of devices, and of a script for the modules that have no device.
use Rattle.std.specs.Prelude.{◌≡◌, ◌≤◌, ◌<◌, ℕ, ◌-◌, List, [], ◌∷◌, ◌++◌, Option, Some, None, Bool, true, false, if◌then◌else◌, map, length, take, slice_get, slice_index_or}
use Rattle.std.specs.Option.{is_some, is_none}
use Rattle.std.specs.Str.{bytes_eq}
use Rattle.wasm_syntax.specs.declared.parts.FuncType.{FuncType}
use Rattle.wasm_syntax.specs.declared.parts.Import.{Import}
use Rattle.wasm_syntax.specs.declared.host.HostCall.{HostCall}
use Rattle.wasm_syntax.specs.declared.host.Reply.{Reply}
use Rattle.wasm_syntax.specs.declared.host.Served.{Served}
use Rattle.host_devices.specs.declared.host.HostAnswer.{HostAnswer}
use Rattle.host_devices.specs.declared.host.HostAnswer.TheVariants.{Replied, NoReply, Failed, NoMemory}
use Rattle.host_devices.specs.calls.Devices.{empty_reply}
use Rattle.host_devices.specs.Given.{module_name}
use Rattle.host_devices.specs.calls.HostSides.{Calls, Origin, Answers, IsExhausted, HasCause, KeepsUse}
use Rattle.host_set.specs.declared.entry.Entry.{Entry}
use Rattle.host_set.specs.declared.entry.Entry.TheVariants.{OfDevice, OfScript}
use Rattle.host_set.specs.Sets.{DeviceState, names, is_named, AreDistinct, count_of, no_device}

-- the imports of the module; the devices as they are now; the script, if there is one, and how many of its replies were given; and what
-- was served so far, each with the name of its import's module
pub record HostsState : Type 0 where
  pub imports : List Import
  pub devices : List DeviceState
  pub script : Option (List Reply)
  pub given : ℕ
  pub served : List (List ℕ × Served)

-- the replies of a script, none where there is no script
abbrev pub replies_of : Option (List Reply) → List Reply
replies_of None = []
replies_of (Some replies) = replies

-- ---- what was served

-- what was served, with the name of its import's module
abbrev pub with_module : List Import → Served → List ℕ × Served
with_module imports s = (module_name (slice_get imports s.call.import), s)

-- what was served to the imports of a module
abbrev pub of_module : List ℕ → List (List ℕ × Served) → List Served
of_module name [] = []
of_module name (s ∷ ss) = if bytes_eq name s.0 then s.1 ∷ of_module name ss else of_module name ss

-- the replies to the imports of modules without a device
abbrev pub of_script : List (List ℕ) → List (List ℕ × Served) → List Reply
of_script devices [] = []
of_script devices (s ∷ ss) = if is_named devices s.0 then of_script devices ss else s.1.reply ∷ of_script devices ss

-- the name of each device, and its log
abbrev pub logs : List DeviceState → List (List ℕ × List Served)
logs devices = map (λ d. (d.name, d.log)) devices

-- what stands in front of the end of a list
abbrev pub in_front : List Served → List Served → List Served
in_front log end = take (length log - length end) log

-- the logs as they were before anything was served
abbrev pub logs_before : HostsState → List (List ℕ × List Served)
logs_before h = map (λ d. (d.name, in_front d.log (of_module d.name h.served))) h.devices

-- the log of a name, none where no device has it
abbrev pub log_named : List (List ℕ × List Served) → List ℕ → List Served
log_named [] name = []
log_named (k ∷ ks) name = if bytes_eq k.0 name then k.1 else log_named ks name

-- what the host side began with
abbrev pub origin_of : HostsState → Origin
origin_of h = record { imports = h.imports; names = names h.devices; logs = log_named (logs_before h); script = h.script }

-- ---- what the host side answers

abbrev pub calls_of : HostsState → Calls
calls_of h = record { served = map (λ s. s.1) h.served; collected = [] }

-- An import is served where its module has a device, or there is a script.
abbrev pub serves : HostsState → Import → Bool
serves h i = if is_named (names h.devices) i.«module» then true else is_some h.script

-- An import is used up where its module has no device, and no reply of the script is left.
abbrev pub is_used_up : HostsState → Import → Bool
is_used_up h i = if is_named (names h.devices) i.«module» then false else is_none (slice_get (replies_of h.script) h.given)

-- Exactly a reply is served, to the import's module.
abbrev pub ServesNext : Import → HostCall → HostAnswer → List (List ℕ × Served) → List (List ℕ × Served) → Type 0
ServesNext i call (Replied reply) old new = new ≡ old ++ (i.«module», record { call = call; reply = reply }) ∷ []
ServesNext i call NoReply old new = new ≡ old
ServesNext i call (Failed name) old new = new ≡ old
ServesNext i call NoMemory old new = new ≡ old

-- A fault names its device, unless memory ran out.
abbrev pub IsFailed : List ℕ → HostAnswer → Type 0
IsFailed n (Failed name) = name ≡ n
IsFailed n NoMemory = Unit {0}
IsFailed n NoReply = ⊥
IsFailed n (Replied reply) = ⊥

-- what a call does
pub record IsAnswered (i : Import) (call : HostCall) (answer : HostAnswer) (old new : HostsState) : Type 0 where
  pub calls : Answers None call answer (calls_of old) (calls_of new)
  pub exhausted : IsExhausted (is_used_up old i) answer
  pub used : KeepsUse answer (is_used_up old) (is_used_up new)
  pub cause : HasCause i answer (count_of old.devices) (count_of new.devices)
  pub later : (name : List ℕ) → count_of old.devices name ≤ count_of new.devices name
  pub served : ServesNext i call answer old.served new.served
  pub names : names new.devices ≡ names old.devices
  pub script : new.script ≡ old.script
  pub serving : (i : Import) (t : FuncType) → serves new i ≡ serves old i
  pub origin : origin_of new ≡ origin_of old

-- ---- how it is stored

abbrev pub no_served : Served
no_served = record { call = record { «import» = 0; name = []; args = []; result = None }; reply = empty_reply }

-- what was served, by an entry that names its place
abbrev pub stored_at : List DeviceState → List Reply → Entry → Served
stored_at devices replies (OfDevice place at) = slice_index_or (slice_index_or devices place no_device).log at no_served
stored_at devices replies (OfScript call reply) = record { call = call; reply = slice_index_or replies reply empty_reply }

abbrev pub served_at : List Import → List DeviceState → List Reply → Entry → List ℕ × Served
served_at imports devices replies e = with_module imports (stored_at devices replies e)

abbrev pub all_served : List Import → List DeviceState → List Reply → List Entry → List (List ℕ × Served)
all_served imports devices replies entries = map (served_at imports devices replies) entries

abbrev pub IsInside : List DeviceState → List Reply → Entry → Type 0
IsInside devices replies (OfDevice place at) = (place < length devices) × (at < length (slice_index_or devices place no_device).log)
IsInside devices replies (OfScript call reply) = reply < length replies

abbrev pub AreInside : List DeviceState → List Reply → List Entry → Type 0
AreInside devices replies [] = Unit {0}
AreInside devices replies (e ∷ es) = IsInside devices replies e × AreInside devices replies es

-- Each log ends with what was served to the imports of its module.
abbrev pub AreLogged : List (List ℕ × Served) → List DeviceState → Type 0
AreLogged served [] = Unit {0}
AreLogged served (d ∷ ds) = (d.log ≡ in_front d.log (of_module d.name served) ++ of_module d.name served) × AreLogged served ds

abbrev pub seen : List Import → List DeviceState → Option (List Reply) → ℕ → List Entry → HostsState
seen imports devices script given entries = record { imports = imports; devices = devices; script = script; given = given; served = all_served imports devices (replies_of script) entries }

-- what every host side keeps
pub record Keeps (imports : List Import) (devices : List DeviceState) (script : Option (List Reply)) (given : ℕ) (entries : List Entry) : Type 0 where
  pub inside : AreInside devices (replies_of script) entries
  pub logged : AreLogged (all_served imports devices (replies_of script) entries) devices
  pub scripted : of_script (names devices) (all_served imports devices (replies_of script) entries) ≡ take given (replies_of script)
  pub within : given ≤ length (replies_of script)
  pub distinct : AreDistinct (names devices)
