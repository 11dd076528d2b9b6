-- Functions that have wrappers are there, and have few parameters.
use Rattle.std.proofs.Common.{◌≡◌, ℕ, ◌^◌, ◌<◌, ◌≤◌, length, Some, slice_get, ap, arith}
use Rattle.std.proofs.lemmas.Option.{slice_get_within}
use Rattle.wasm_syntax.specs.declared.parts.FuncType.{FuncType}
use Rattle.wasm_syntax.specs.declared.module.ModuleParts.{ModuleParts as Module}
use Rattle.wasm_syntax.specs.Module.{Program, function_types, type_at}
use Rattle.wasm_syntax.specs.Sizes.{parameter_count}
use Rattle.wasm_laws.proofs.Lists.{at_of}
use Rattle.wasm_laws.proofs.Validity.{typed}
use Rattle.rewrite_bodies.specs.Numbering.{wrapped}
use Rattle.rewrite_modules.proofs.Modules.{module_given}
use Rattle.rewrite_modules.proofs.Theorem.{ready_given}
use Rattle.rewrite_modules.proofs.ValidModule.{wrapped_types}
use Rattle.rewrite_promise.specs.calls.Promise.{Accepted}
use Rattle.unwind_rewrite.specs.calls.Rewritten.{program_in}
use Rattle.wasm_syntax.proofs.Types.{then_found}

module _ (m : Module) (a : Accepted m) (i f : ℕ) (at : slice_get (wrapped m) i ≡ Some f) where
  abbrev p : Program
  p = program_in m a

  has_type : (type : FuncType) × (type_at m f ≡ Some type)
  has_type =
      at_of (λ g. (type : FuncType) × (type_at m g ≡ Some type)) (wrapped m) i f
      (wrapped_types p (ready_given p (module_given m a.premises)) a.premises.valid (typed p a.premises.whole.write a.premises.whole.as_many a.premises.valid) a.premises.whole.write a.premises.no_export_collision) at

  pub function_there : f < length (function_types m)
  function_there = let t = then_found (slice_get (function_types m) f) (λ k. slice_get m.types k) has_type.0 has_type.1 in slice_get_within (function_types m) f t.0 t.1

  pub few_parameters : parameter_count (type_at m f) < 2 ^ 32
  few_parameters =
      let t = then_found (slice_get (function_types m) f) (λ k. slice_get m.types k) has_type.0 has_type.1 in
      let few : length has_type.0.params ≤ 1000 = at_of (λ (type : FuncType). length type.params ≤ 1000) m.types t.0 has_type.0 a.premises.lightness.few_parameters t.2 in
      let is = ap parameter_count has_type.1 in
      omega (arith, few, is)
