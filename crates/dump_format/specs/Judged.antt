-- What parts say together: the dump that they make, or why they make none.
use Rattle.std.specs.Prelude.{ℕ, List, [], ◌∷◌, ◌++◌, length, map, fold, Option, Some, None, Result, Bool, true, false, nat_lt, if◌then◌else◌, option_map}
use Rattle.std.specs.List.{flat_map}
use Rattle.wasm_syntax.specs.declared.value.Seen.{Seen}
use Rattle.wasm_syntax.specs.declared.value.Seen.TheVariants as seen
use Rattle.wasm_syntax.specs.declared.value.Value.{Value}
use Rattle.wasm_syntax.specs.declared.value.Value.TheVariants as value
use Rattle.wasm_syntax.specs.declared.quantity.Quantity.{Quantity}
use Rattle.wasm_syntax.specs.declared.quantity.Quantity.TheVariants.{DumpPages, DumpFrames}
use Rattle.wasm_syntax.specs.Quantity.{greatest}
use Rattle.dump_format.specs.declared.dump.Instance.{Instance}
use Rattle.dump_format.specs.declared.dump.Frame.{Frame}
use Rattle.dump_format.specs.declared.dump.Dump.{Dump}
use Rattle.dump_format.specs.declared.fault.DumpPart.{DumpPart}
use Rattle.dump_format.specs.declared.fault.DumpPart.TheVariants as parts
use Rattle.dump_format.specs.declared.fault.DumpFault.{DumpFault}
use Rattle.dump_format.specs.declared.fault.DumpFault.TheVariants.{FloatValue, Several, Limit}
use Rattle.dump_format.specs.Region.{Region}
use Rattle.dump_format.specs.Parts.{Shown, known, float, ShownFrame, Part, core, modules, instances, stack, memories, globals, segments, passed}
use Rattle.dump_format.specs.Form.{pages_of}
use Rattle.wasm_bytes.specs.Refusals.{◌orelse◌, unless_refused}

-- ---- values without floats

-- A float stands as missing, or as 0. A dump with floats is refused.
abbrev pub seen_of : Shown Seen → Seen
seen_of (known x) = x
seen_of (float at) = seen.Missing

abbrev pub value_of : Shown Value → Value
value_of (known x) = x
value_of (float at) = value.I32 0

abbrev pub frame_of : ShownFrame → Frame
frame_of f = record { instance = f.instance; function = f.function; offset = f.offset; locals = map seen_of f.locals; operands = map seen_of f.operands }

-- ---- what stands in a part

abbrev pub names_in : Part → List (List ℕ)
names_in (core name) = name ∷ []
names_in _ = []

abbrev pub modules_in : Part → List (List (List ℕ))
modules_in (modules names) = names ∷ []
modules_in _ = []

abbrev pub instances_in : Part → List (List Instance)
instances_in (instances list) = list ∷ []
instances_in _ = []

abbrev pub frames_in : Part → List (List Frame)
frames_in (stack frames) = map frame_of frames ∷ []
frames_in _ = []

abbrev pub memories_in : Part → List (List ℕ)
memories_in (memories pages) = pages ∷ []
memories_in _ = []

abbrev pub values_in : Part → List (List Value)
values_in (globals values) = map value_of values ∷ []
values_in _ = []

abbrev pub segments_in : Part → List (List Region)
segments_in (segments regions) = regions ∷ []
segments_in _ = []

-- ---- floats

abbrev pub float_in : {A : Type 0} → Shown A → List ℕ
float_in (known x) = []
float_in (float at) = at ∷ []

abbrev pub frame_floats : ShownFrame → List ℕ
frame_floats f = flat_map float_in f.locals ++ flat_map float_in f.operands

-- the floats of a part, in the order of the input
abbrev pub floats_in : Part → List ℕ
floats_in (stack frames) = flat_map frame_floats frames
floats_in (globals values) = flat_map float_in values
floats_in _ = []

-- ---- several parts

-- the one element of a list, or else the other value
abbrev pub only : {A : Type 0} → A → List A → A
only other (x ∷ []) = x
only other _ = other

abbrev pub first_of : {A : Type 0} → List A → Option A
first_of [] = None
first_of (x ∷ xs) = Some x

-- the last id other than 0, behind one more part
abbrev pub id_behind : ℕ → Part → ℕ
id_behind last (memories pages) = 5
id_behind last (globals values) = 6
id_behind last (segments regions) = 11
id_behind last (passed id) = id
id_behind last _ = last

unfoldable pub last_id : List Part → ℕ
last_id ps = fold id_behind 0 ps

-- the sizes of the memories, in pages
abbrev pub memories_of : List Part → List ℕ
memories_of ps = only [] (flat_map memories_in ps)

-- the size of the first memory, where there is one
unfoldable pub memory_of : List Part → Option ℕ
memory_of ps = first_of (memories_of ps)

abbrev pub frames_of : List Part → List Frame
frames_of ps = only [] (flat_map frames_in ps)

unfoldable pub dump_of : List Part → Dump
dump_of ps = record {
  name = only [] (flat_map names_in ps);
  modules = only [] (flat_map modules_in ps);
  instances = only [] (flat_map instances_in ps);
  frames = frames_of ps;
  memory = memory_of ps;
  globals = only [] (flat_map values_in ps);
  segments = only [] (flat_map segments_in ps);
}

-- ---- refusals

abbrev pub is_repeated : {A : Type 0} → List A → Bool
is_repeated (x ∷ y ∷ ys) = true
is_repeated _ = false

-- the first part that stands more than once
unfoldable pub repeated : List Part → Option DumpPart
repeated ps =
    if is_repeated (flat_map names_in ps) then Some parts.Core
    else (if is_repeated (flat_map modules_in ps) then Some parts.CoreModules
    else (if is_repeated (flat_map instances_in ps) then Some parts.CoreInstances
    else (if is_repeated (flat_map frames_in ps) then Some parts.CoreStack
    else (if is_repeated (memories_of ps) then Some parts.Memory
    else None))))

-- a count that passes its greatest number
abbrev pub over : Quantity → ℕ → Option DumpFault
over what count = if nat_lt (greatest what) count then Some (Limit what count) else None

abbrev pub at_float : Option ℕ → Option DumpFault
at_float o = option_map FloatValue o

abbrev pub at_repeated : Option DumpPart → Option DumpFault
at_repeated o = option_map Several o

-- why these parts are refused
unfoldable pub refusal : List Part → Option DumpFault
refusal ps =
    at_float (first_of (flat_map floats_in ps)) orelse at_repeated (repeated ps)
    orelse over DumpPages (pages_of (memory_of ps)) orelse over DumpFrames (length (frames_of ps))

abbrev pub judged : List Part → Result Dump DumpFault
judged ps = unless_refused (refusal ps) (dump_of ps)
