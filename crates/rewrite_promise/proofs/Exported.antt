-- Exported functions keep their names and their types.
use Rattle.std.proofs.Common.{◌≡◌, ℕ, ◌+◌, Some, refl, subst, inl, inr}
use Rattle.wasm_syntax.specs.declared.parts.FuncType.{FuncType}
use Rattle.wasm_syntax.specs.declared.module.ModuleParts.{ModuleParts as Module}
use Rattle.wasm_syntax.specs.Module.{Program, type_at}
use Rattle.rewrite_bodies.specs.Numbering.{mapped, wrapper_base}
use Rattle.wasm_syntax.specs.SameCode.{code_alone}
use Rattle.rewrite_modules.specs.calls.Instrument.{instrument, new_module}
use Rattle.rewrite_modules.proofs.Links.{Ready, type_is_of, function_type_kept, wrapper_there}
use Rattle.rewrite_modules.proofs.Start.{Outside, named}
use Rattle.rewrite_promise.specs.Outside.{ExportsFunction, KeepsFunctions}

outside_type : (p : Program) (ready : Ready p) (f g : ℕ) (type : FuncType) → Outside p.module_ f g → type_at p.module_ f ≡ Some type → type_at (new_module p) g ≡ Some type
outside_type p ready f g type (inl o) e = let z : mapped p.module_ f ≡ g = rw (o.1, o.0) refl in subst (λ (q : ℕ). type_at (new_module p) q ≡ Some type) z (function_type_kept p ready f type e)
outside_type p ready f g type (inr o) e = rw o.1 (type_is_of (instrument p) (wrapper_base p.module_ + o.0) _ (wrapper_there p ready o.0 f type o.2 e))

pub functions_kept : (p : Program) (other : Module) → Ready p → code_alone (new_module p) ≡ code_alone other → KeepsFunctions p.module_ other
functions_kept p other ready same name type h =
    let k = named p name h.0 h.1 in
    let new : ExportsFunction (code_alone (new_module p)) name type = (k.there, k.found, outside_type p ready h.0 k.there type k.outside h.2) in
    subst (λ (n : Module). ExportsFunction n name type) same new
