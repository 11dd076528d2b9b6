-- The stack of the validation algorithm (Core, appendix "Validation Algorithm") as a list of control frames, each with its own operands,
-- the innermost first and the topmost first.
use Rattle.std.specs.Prelude.{ℕ, Bool, true, false, ◌||◌, ◌&&◌, List, [], ◌∷◌, ◌++◌, length, map, slice_get, if◌then◌else◌, Option, Some, None, option_map, option_to_list}
use Rattle.wasm_syntax.specs.declared.blocks.BlockKind.{BlockKind}
use Rattle.wasm_syntax.specs.declared.value.ValType.{ValType}
use Rattle.wasm_syntax.specs.Numbers.{same_type}
use Rattle.wasm_syntax.specs.Module.{option_then}
use Rattle.wasm_syntax.specs.Typing.{only_if}
use Rattle.wasm_syntax.specs.FlatTyping.{label_of}

-- types, some of them not known
abbrev pub Known : Type 0
Known = List (Option ValType)

-- an open block; where free holds, any types may lie below the known ones
pub record Frame : Type 0 where
  pub kind : BlockKind
  pub result : Option ValType
  pub known : List (Option ValType)
  pub free : Bool

abbrev pub opening : BlockKind → Option ValType → Frame
opening kind result = record { kind = kind; result = result; known = []; free = false }

abbrev pub set_known : Frame → List Frame → Known → List Frame
set_known f fs ks = record f { known = ks } ∷ fs

-- what a branch to each frame takes
abbrev pub labels : List Frame → List (Option ValType)
labels fs = map (λ f. label_of f.kind f.result) fs

abbrev pub label : List Frame → ℕ → Option (Option ValType)
label fs n = slice_get (labels fs) n

-- ---- operands

abbrev pub pop_type : Bool → Known → ValType → Option Known
pop_type free [] t = only_if free (Some [])
pop_type free (None ∷ ks) t = Some ks
pop_type free (Some u ∷ ks) t = only_if (same_type u t) (Some ks)

-- the topmost type, which may be unknown, and the others
abbrev pub pop_any : Bool → Known → Option (Option ValType × Known)
pop_any free [] = only_if free (Some (None, []))
pop_any free (k ∷ ks) = Some (k, ks)

abbrev pub pop : List Frame → ValType → Option (List Frame)
pop [] t = None
pop (f ∷ fs) t = option_map (set_known f fs) (pop_type f.free f.known t)

-- the topmost type, which may be unknown, and the others
abbrev pub take_any : List Frame → Option (Option ValType × List Frame)
take_any [] = None
take_any (f ∷ fs) = option_map (λ p. (p.0, set_known f fs p.1)) (pop_any f.free f.known)

abbrev pub push : List Frame → Option ValType → List Frame
push [] k = []
push (f ∷ fs) k = set_known f fs (k ∷ f.known)

abbrev pub pops : List Frame → List ValType → Option (List Frame)
pops fs [] = Some fs
pops fs (t ∷ ts) = option_then (pop fs t) (λ gs. pops gs ts)

abbrev pub pushes : List Frame → List ValType → List Frame
pushes fs [] = fs
pushes fs (t ∷ ts) = push (pushes fs ts) (Some t)

-- behind an unconditional transfer
abbrev pub forget : List Frame → List Frame
forget [] = []
forget (f ∷ fs) = record f { known = []; free = true } ∷ fs

abbrev pub is_empty : Known → Bool
is_empty [] = true
is_empty (k ∷ ks) = false

-- the innermost frame has no operands of its own, and gives any types
abbrev pub gives_any : List Frame → Bool
gives_any [] = false
gives_any (f ∷ fs) = f.free && is_empty f.known

-- ---- a frame's end

abbrev pub no_frame : List Frame → Bool
no_frame [] = true
no_frame (f ∷ fs) = false

-- the innermost frame, where no operands are left in it, and the others
abbrev pub emptied : List Frame → Option (Frame × List Frame)
emptied [] = None
emptied (f ∷ fs) = only_if (is_empty f.known) (Some (f, fs))

-- what the innermost frame gives
abbrev pub result_of : List Frame → List ValType
result_of [] = []
result_of (f ∷ fs) = option_to_list f.result

-- ---- all frames

-- the operands of all frames, the topmost first
abbrev pub operands : List Frame → Known
operands [] = []
operands (f ∷ fs) = f.known ++ operands fs

-- a frame gives any types: the code here is dead
abbrev pub any_free : List Frame → Bool
any_free [] = false
any_free (f ∷ fs) = f.free || any_free fs

-- the operands of all frames, where none is dead
abbrev pub height_of : List Frame → Option ℕ
height_of fs = if any_free fs then None else Some (length (operands fs))

abbrev pub topmost : Known → Option ValType
topmost [] = None
topmost (k ∷ ks) = k
