-- A host side that collects the calls of the collector's imports, and leaves all other imports to another host side.
use Rattle.std.specs.Prelude.{ℕ, List, [], ◌∷◌, length, Bool, true, false, ◌&&◌, ◌==◌, if◌then◌else◌, bytes_eq, codes}
use Rattle.wasm_syntax.specs.declared.value.ValType.{ValType}
use Rattle.wasm_syntax.specs.declared.value.ValType.TheVariants.{I32, I64}
use Rattle.wasm_syntax.specs.declared.parts.FuncType.{FuncType}
use Rattle.wasm_syntax.specs.declared.parts.Import.{Import}
use Rattle.wasm_syntax.specs.declared.host.CollectorCall.{CollectorCall}
use Rattle.host_devices.specs.calls.HostSides.{Calls}

-- the other host side, and the calls that were collected so far
pub record CollectingState (H : Type 0) : Type 0 where
  pub inner : H
  pub calls : List CollectorCall

-- ---- the collector's imports

abbrev pub takes_i32 : List ValType → Bool
takes_i32 (I32 ∷ []) = true
takes_i32 params = false

abbrev pub takes_i64 : List ValType → Bool
takes_i64 (I64 ∷ []) = true
takes_i64 params = false

abbrev pub takes_frame : List ValType → Bool
takes_frame (I32 ∷ I32 ∷ I32 ∷ I32 ∷ []) = true
takes_frame params = false

-- value_i32(i32), value_i64(i64) and frame(i32, i32, i32, i32)
abbrev pub has_params : List ℕ → List ValType → Bool
has_params name params =
    if bytes_eq name (codes "value_i32") then takes_i32 params else
    if bytes_eq name (codes "value_i64") then takes_i64 params else
    if bytes_eq name (codes "frame") then takes_frame params else false

-- one of these, without a result
abbrev pub is_collected : Import → FuncType → Bool
is_collected i type = has_params i.name type.params && length type.results == 0

-- an import of the collector's module
abbrev pub is_told : Import → Bool
is_told i = bytes_eq i.«module» (codes "coredump")

-- ---- what the host side answers

-- An import of module `coredump` is served exactly where it is one of the collector's; any other, where the other host side serves it.
abbrev pub serves : {H : Type 0} → (H → Import → FuncType → Bool) → CollectingState H → Import → FuncType → Bool
serves serving c i type = if is_told i then is_collected i type else serving c.inner i type

-- The collector's imports are never used up.
abbrev pub is_used_up : {H : Type 0} → (H → Import → Bool) → CollectingState H → Import → Bool
is_used_up used_up c i = if is_told i then false else used_up c.inner i

-- Only the other host side serves calls.
abbrev pub calls_of : {H : Type 0} → (H → Calls) → CollectingState H → Calls
calls_of calls c = record { served = (calls c.inner).served; collected = c.calls }
