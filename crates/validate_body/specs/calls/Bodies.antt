-- What is said of the body of a function.
use Rattle.std.specs.Prelude.{Result, Ok, Err}
use Rattle.wasm_syntax.specs.declared.module.ModuleParts.{ModuleParts as Module}
use Rattle.wasm_syntax.specs.declared.parts.FuncType.{FuncType}
use Rattle.wasm_syntax.specs.declared.parts.Body.{Body}
use Rattle.wasm_syntax.specs.Tree.{Tree, Writes, code_of}
use Rattle.wasm_syntax.specs.Typing.{IsBody}
use Rattle.wasm_syntax.specs.Valid.{FirstWrong}
use Rattle.validate_body.specs.declared.body.BodyFault.{BodyFault}
use Rattle.validate_body.specs.declared.body.BodyFault.TheVariants.{WrongAt, NoMemory}

-- the flat body is that of a tree
abbrev pub HasTree : Body → Type 0
HasTree body = (tree : Tree) × Writes body.targets body.ops tree

-- a body has its function's type, or its first wrong instruction is at this offset
abbrev pub Judged : {A : Type 0} → Result A BodyFault → Module → FuncType → Body → Type 0
Judged (Ok x) m type body = IsBody m type body (code_of body.targets body.ops)
Judged (Err (WrongAt offset)) m type body = FirstWrong m type body offset
Judged (Err NoMemory) m type body = Unit {0}
