-- What the code of a step goes by.
use Rattle.std.specs.Prelude.{◌≡◌, ◌≢◌, List, [], ◌∷◌, ◌++◌, reverse, Some, None, option_to_list, Result, Ok, Err}
use Rattle.wasm_syntax.specs.declared.value.ValType.{ValType}
use Rattle.wasm_syntax.specs.declared.instruction.Basic.{Basic}
use Rattle.wasm_syntax.specs.declared.instruction.Basic.TheVariants.{Drop, Select}
use Rattle.wasm_syntax.specs.declared.module.ModuleParts.{ModuleParts as Module}
use Rattle.wasm_syntax.specs.Typing.{Context, Arrow, ◌⇒◌}
use Rattle.validate_body.specs.declared.stack.Control.{Control}
use Rattle.validate_body.specs.declared.stack.StackFault.{StackFault}
use Rattle.validate_body.specs.declared.stack.StackFault.TheVariants.{Wrong, NoMemory}
use Rattle.validate_body.specs.calls.Frames.{Frame}
use Rattle.validate_body.specs.inner.Stacked.{frame_of}
use Rattle.validate_body.specs.declared.shape.Shape.{Shape}
use Rattle.validate_body.specs.calls.Algorithm.{closed}

-- the types that are taken, and the one that is given, where there are so many
abbrev pub arrow_of : Shape → Arrow
arrow_of s = option_to_list s.first ++ option_to_list s.second ++ option_to_list s.third ⇒ option_to_list s.gives

-- not one of the two that take any type
abbrev pub HasShape : Basic → Type 0
HasShape i = (i ≢ Drop) × (i ≢ Select)

-- what the typing of a body goes by
abbrev pub context_of : Module → List ValType → List ValType → Context
context_of m locals results = record {
  module_ = m;
  locals = locals;
  labels = reverse results ∷ [];
  returns = reverse results;
}

-- the innermost frame was left with its result alone; it was what this control frame says
abbrev pub Closed : Result Control StackFault → List Frame → List Frame → Type 0
Closed (Ok c) old new = closed old ≡ Some (frame_of c [], new)
Closed (Err Wrong) old new = closed old ≡ None
Closed (Err NoMemory) old new = Unit {0}
