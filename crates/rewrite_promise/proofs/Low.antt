-- What validation admits of the operands of a module, function by function.
use Rattle.std.proofs.Common.{◌≡◌, ℕ, ◌+◌, ◌-◌, ◌<◌, ◌≤◌, Bool, true, false, nat_lt, if◌then◌else◌, length, Option, Some, None, refl, sym, ap, ◌∙◌, subst, arith, slice_get}
use Rattle.std.proofs.lemmas.Bool.{ltb-false}
use Rattle.wasm_syntax.specs.declared.parts.FuncType.{FuncType}
use Rattle.wasm_syntax.specs.declared.parts.Body.{Body}
use Rattle.wasm_syntax.specs.declared.module.ModuleParts.{ModuleParts as Module}
use Rattle.wasm_syntax.specs.Module.{type_at, option_then}
use Rattle.wasm_syntax.specs.FlatTyping.{TypesBefore}
use Rattle.wasm_syntax.specs.Valid.{body_of}
use Rattle.wasm_validate.specs.Heights.{AllLow}
use Rattle.rewrite_modules.specs.calls.LowSizes.{LowHeights}
use Rattle.pm_text.proofs.Lists.{some_is}
use Rattle.wasm_syntax.proofs.Bodies.{index_of}

abbrev at_index : Module → Option ℕ → Option Body
at_index m o = option_then o (slice_get m.bodies)

pub all_low : (m : Module) → LowHeights m → AllLow m
all_low m low f n s =
    let same : s.1.0 ≡ s.3.1 = some_is (sym s.1.1 ∙ s.3.3) in
    let inside_ : s.0 < length s.3.1.ops = subst (λ (b : Body). s.0 < length b.ops) same s.1.2 in
    by (nat_lt f (length m.imports)) refl s.3.0 s.3.1 s.3.2 s.3.3 inside_ s.3.4
  where
    by : (q : Bool) → nat_lt f (length m.imports) ≡ q → (type : FuncType) (body : Body) → type_at m f ≡ Some type → at_index m (if q then None else Some (f - length m.imports)) ≡ Some body → s.0 < length body.ops → TypesBefore m type body s.0 s.2 → n ≤ 4096
    by true q type body ty e lt before = absurd (cc)
    by false q type body ty e lt before =
        let ge = ltb-false f (length m.imports) q in
        let i = f - length m.imports in
        let z : f ≡ length m.imports + i = omega (arith, ge) in
        let h = low i s.0 body type s.2 e lt (subst (λ (k : ℕ). type_at m k ≡ Some type) z ty) before in
        omega (arith, h, s.4)

pub low_heights : (m : Module) → AllLow m → LowHeights m
low_heights m low i op body type types e lt ty before =
    let at : body_of m (length m.imports + i) ≡ Some body = ap (at_index m) (index_of m i) ∙ e in
    low (length m.imports + i) (length types) (op, (body, at, lt), types, (type, body, ty, at, before), refl)
