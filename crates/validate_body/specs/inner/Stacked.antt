-- One pile of types, and control frames with heights, stand for frames that each hold their own operands. Both are topmost first.
use Rattle.std.specs.Prelude.{◌≡◌, ℕ, ◌-◌, ◌≤◌, ◌||◌, Bool, false, List, [], ◌∷◌, length, take, drop, Option, Some, None, Result, Ok, Err}
use Rattle.wasm_syntax.specs.declared.value.ValType.{ValType}
use Rattle.validate_body.specs.declared.stack.Control.{Control}
use Rattle.validate_body.specs.declared.stack.StackFault.{StackFault}
use Rattle.validate_body.specs.declared.stack.StackFault.TheVariants.{Wrong, NoMemory}
use Rattle.validate_body.specs.calls.Frames.{Known, Frame, take_any, emptied}

abbrev pub frame_of : Control → Known → Frame
frame_of c ks = record { kind = c.kind; result = c.result; known = ks; free = c.free }

abbrev pub frames_of : Known → List Control → List Frame
frames_of ks [] = []
frames_of ks (c ∷ cs) = frame_of c (take (length ks - c.height) ks) ∷ frames_of (drop (length ks - c.height) ks) cs

abbrev pub free_control : List Control → Bool
free_control [] = false
free_control (c ∷ cs) = c.free || free_control cs

-- the heights go down, from this one
abbrev pub Heights : ℕ → List Control → Type 0
Heights n [] = n ≡ 0
Heights n (c ∷ cs) = (c.height ≤ n) × (c.within ≡ free_control cs) × Heights c.height cs

-- A call makes a step from frames to frames: it is made, or there is none. Of want of memory nothing is said, where memory is taken.
abbrev pub Did : {A : Type 0} → Result A StackFault → Option (List Frame) → List Frame → Type 0
Did (Ok x) step new = step ≡ Some new
Did (Err Wrong) step new = step ≡ None
Did (Err NoMemory) step new = Unit {0}

-- the same of a call that takes no memory
abbrev pub Made : {A : Type 0} → Result A StackFault → Option (List Frame) → List Frame → Type 0
Made (Ok x) step new = step ≡ Some new
Made (Err Wrong) step new = step ≡ None
Made (Err NoMemory) step new = ⊥

-- the topmost type was taken
abbrev pub Took : Result (Option ValType) StackFault → List Frame → List Frame → Type 0
Took (Ok u) old new = take_any old ≡ Some (u, new)
Took (Err Wrong) old new = take_any old ≡ None
Took (Err NoMemory) old new = ⊥

-- the innermost frame was left, where it was empty; it was what this control frame says
abbrev pub Left : Result Control StackFault → List Frame → List Frame → Type 0
Left (Ok c) old new = emptied old ≡ Some (frame_of c [], new)
Left (Err Wrong) old new = emptied old ≡ None
Left (Err NoMemory) old new = ⊥
