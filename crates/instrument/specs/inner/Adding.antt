-- Bodies are put behind others.
use Rattle.std.specs.Prelude.{◌≡◌, ◌++◌, List, [], map}
use Rattle.std.specs.List.{AllByRecursion}
use Rattle.wasm_syntax.specs.declared.parts.Body.{Body}
use Rattle.wasm_syntax.specs.declared.module.ModuleParts.{ModuleParts as Module}
use Rattle.wasm_syntax.specs.Module.{function_at}
use Rattle.rewrite_bodies.specs.calls.Guards.{helper}
use Rattle.rewrite_bodies.specs.Numbering.{import_count, wrapped}
use Rattle.wasm_syntax.specs.SameCode.{body_code}
use Rattle.rewrite_modules.specs.calls.FlatCode.{body_of}
use Rattle.rewrite_modules.specs.calls.Instrument.{each, new_body}
use Rattle.rewrite_modules.specs.Weight.{types_used}
use Rattle.rewrite_modules.specs.calls.Wrappers.{wrapper}
use Rattle.rewrite_promise.specs.calls.Promise.{Accepted}
use Rattle.unwind_rewrite.specs.calls.Rewritten.{Ascends, program_in}

-- behind the old ones there are these, but for offsets, each with its instructions in order
pub record Adds (more old new : List Body) : Type 0 where
  pub code : map body_code new ≡ map body_code old ++ map body_code more
  pub ascend : AllByRecursion Ascends old → AllByRecursion Ascends new

-- the bodies of the module's functions, rewritten; of wrappers; and of helpers
abbrev pub new_bodies : (m : Module) → Accepted m → List Body
new_bodies m a = each (λ f. new_body (program_in m a) f (function_at (program_in m a) f)) (import_count m) m.bodies

abbrev pub wrapper_bodies : Module → List Body
wrapper_bodies m = map (λ f. body_of [] (wrapper m f)) (wrapped m)

abbrev pub helper_bodies : Module → List Body
helper_bodies m = map (λ t. body_of [] (helper m t)) (types_used m)
