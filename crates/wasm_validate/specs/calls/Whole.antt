-- The bodies of a module, and the module as a whole.
use Rattle.std.specs.Prelude.{◌≡◌, ℕ, ◌+◌, ◌<◌, List, length, slice_get, Result, Ok, Err, Option, Some}
use Rattle.wasm_syntax.specs.declared.module.ModuleParts.{ModuleParts as Module}
use Rattle.wasm_syntax.specs.declared.parts.FuncType.{FuncType}
use Rattle.wasm_syntax.specs.declared.parts.Body.{Body}
use Rattle.wasm_syntax.specs.declared.place.Place.TheVariants.{Function}
use Rattle.wasm_syntax.specs.Module.{type_at}
use Rattle.wasm_syntax.specs.Valid.{BodyFine, OffsetIs, Valid, FirstInvalid}
use Rattle.validate_body.specs.declared.body.BodyFault.{BodyFault}
use Rattle.validate_body.specs.declared.body.BodyFault.TheVariants as body_faults
use Rattle.validate_body.specs.declared.marks.Mark.{Mark}
use Rattle.validate_body.specs.calls.Marks.{Marked}
use Rattle.wasm_validate.specs.declared.bodies.BodiesFault.{BodiesFault}
use Rattle.wasm_validate.specs.declared.bodies.BodiesFault.TheVariants as bodies_faults

-- the marks are those of the i-th defined function
abbrev pub MarkedAt : Module → ℕ → List (Option Mark) → Type 0
MarkedAt m i marks =
    (type : FuncType) × (body : Body) × (type_at m (length m.imports + i) ≡ Some type) × (slice_get m.bodies i ≡ Some body) × Marked marks m type body

-- the body of the i-th defined function is fine, or its first wrong instruction is at this offset
abbrev pub BodyJudged : Result (List (Option Mark)) BodyFault → Module → ℕ → Type 0
BodyJudged (Ok marks) m i = ((body : Body) → slice_get m.bodies i ≡ Some body → BodyFine m (length m.imports + i) body) × MarkedAt m i marks
BodyJudged (Err (body_faults.WrongAt offset)) m i =
    OffsetIs m (Function (length m.imports + i) offset) × ((body : Body) → slice_get m.bodies i ≡ Some body → BodyFine m (length m.imports + i) body → ⊥)
BodyJudged (Err body_faults.NoMemory) m i = Unit {0}

abbrev pub BodiesUpTo : Module → ℕ → Type 0
BodiesUpTo m n = (i : ℕ) (body : Body) → i < n → slice_get m.bodies i ≡ Some body → BodyFine m (length m.imports + i) body

-- the first n functions have these marks
pub record MarkedUpTo (all : List (List (Option Mark))) (m : Module) (n : ℕ) : Type 0 where
  pub as_many : length all ≡ n
  pub each : (i : ℕ) (marks : List (Option Mark)) → slice_get all i ≡ Some marks → MarkedAt m i marks

-- the whole module is valid and marked, or this is its first place that is not fine
abbrev pub BodiesJudged : Result (List (List (Option Mark))) BodiesFault → Module → Type 0
BodiesJudged (Ok all) m = Valid m × MarkedUpTo all m (length m.bodies)
BodiesJudged (Err (bodies_faults.At place)) m = FirstInvalid m place
BodiesJudged (Err bodies_faults.NoMemory) m = Unit {0}
