-- How many locals the function of a frame has.
use Rattle.std.proofs.Common.{◌≡◌, ℕ, ◌+◌, ◌-◌, ◌<◌, ◌≤◌, ◌^◌, Bool, true, false, length, slice_get, Option, Some, None, refl, sym, subst, arith}
use Rattle.std.specs.Prelude.{nat_lt, if◌then◌else◌}
use Rattle.std.proofs.lemmas.Bool.{ltb-false}
use Rattle.wasm_syntax.specs.declared.parts.Body.{Body}
use Rattle.wasm_syntax.specs.declared.parts.FuncType.{FuncType}
use Rattle.wasm_syntax.specs.declared.module.ModuleParts.{ModuleParts as Module}
use Rattle.wasm_syntax.specs.Module.{type_at}
use Rattle.wasm_syntax.specs.Sizes.{WithinLimits, local_count}
use Rattle.wasm_syntax.specs.Valid.{body_of, defined_index}
use Rattle.pm_text.proofs.Lists.{some_is}
use Rattle.wasm_syntax.proofs.Types.{then_found}

-- the index of a function that is defined
behind_imports : (n f i : ℕ) (b : Bool) → nat_lt f n ≡ b → (if b then None else Some (f - n)) ≡ Some i → n + i ≡ f
behind_imports n f i true q e = absurd (cc)
behind_imports n f i false q e = let le : n ≤ f = ltb-false f n q in let is : f - n ≡ i = some_is e in omega (arith, le, is)

few_locals : (m : Module) (f : ℕ) (body : Body) → WithinLimits m → body_of m f ≡ Some body → local_count (type_at m f) body < 2 ^ 32
few_locals m f body limits e =
    let i = then_found (defined_index m f) (slice_get m.bodies) body e in
    let at : length m.imports + i.0 ≡ f = behind_imports (length m.imports) f i.0 (nat_lt f (length m.imports)) refl i.1 in
    let few = limits.locals i.0 body i.2 in
    let there : local_count (type_at m f) body ≤ 16384 = subst (λ (k : ℕ). local_count (type_at m k) body ≤ 16384) at few in
    omega (arith, there)

pub few_of : (m : Module) (f : ℕ) (t : Option FuncType) (body : Body) → t ≡ type_at m f → WithinLimits m → body_of m f ≡ Some body → local_count t body < 2 ^ 32
few_of m f t body is limits e = subst (λ (t : Option FuncType). local_count t body < 2 ^ 32) (sym is) (few_locals m f body limits e)
