-- What validity says of the functions that a module defines.
use Rattle.std.proofs.Common.{◌≡◌, ℕ, ◌+◌, Bool, if◌then◌else◌, length, reverse, Option, Some, None, subst, slice_get, option_to_list}
use Rattle.std.specs.Prelude.{IfSome}
use Rattle.wasm_syntax.specs.declared.parts.FuncType.{FuncType}
use Rattle.wasm_syntax.specs.declared.parts.Body.{Body}
use Rattle.wasm_syntax.specs.declared.module.ModuleParts.{ModuleParts as Module}
use Rattle.wasm_syntax.specs.declared.place.Place.TheVariants as places
use Rattle.wasm_syntax.specs.Module.{option_then, function_types, type_at}
use Rattle.wasm_syntax.specs.Machine.{result_of}
use Rattle.wasm_syntax.specs.Valid.{Valid, There, FuncTypeFine, BodyFine}
use Rattle.wasm_laws.proofs.Lists.{there_at}
use Rattle.wasm_laws.proofs.Safe.{one_result}
use Rattle.wasm_syntax.proofs.Bodies.{index_of}

abbrev unless : Bool → ℕ → Option ℕ
unless b k = if b then None else Some k

pub fine_at : (m : Module) (i : ℕ) (body : Body) → Valid m → slice_get m.bodies i ≡ Some body → BodyFine m (length m.imports + i) body
fine_at m i body valid e =
    let f = length m.imports + i in
    there_at (BodyFine m f) m.bodies i body (subst (λ (o : Option ℕ). IfSome o (λ j. There m.bodies j (BodyFine m f))) (index_of m i) (valid (places.Function f 0))) e

then_some : {A B : Type 0} (o : Option A) (go : A → Option B) (y : B) → option_then o go ≡ Some y → (x : A) × (go x ≡ Some y)
then_some None go y e = absurd cc
then_some (Some x) go y e = (x, e)

pub gives_one : (m : Module) (f : ℕ) (type : FuncType) → Valid m → type_at m f ≡ Some type → reverse type.results ≡ option_to_list (result_of type)
gives_one m f type valid e =
    let t = then_some (slice_get (function_types m) f) (λ t. slice_get m.types t) type e in
    one_result type.results (there_at FuncTypeFine m.types t.0 type (valid (places.TypeAt t.0)) t.1)
