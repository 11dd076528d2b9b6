-- What a chain of options that gives something says of its parts, and back.
use Rattle.std.proofs.Common.{◌≡◌, refl, sym, subst}
use Rattle.std.specs.Prelude.{List, [], ◌∷◌, Bool, true, false, Option, Some, None, option_map}
use Rattle.wasm_syntax.specs.Module.{option_then}
use Rattle.wasm_syntax.specs.Typing.{only_if}
use Rattle.wasm_syntax.specs.declared.value.ValType.{ValType}
use Rattle.pm_text.proofs.Lists.{some_is}

pub none_is : {A B : Type 0} {x : A} → None ≡ Some x → B
none_is e = absurd (cc)

abbrev pub IsNil : List ValType → Type 0
IsNil [] = Unit {0}
IsNil (t ∷ ts) = ⊥

pub then_some : {A B : Type 0} (o : Option A) (k : A → Option B) (x : A) (y : B) → o ≡ Some x → k x ≡ Some y → option_then o k ≡ Some y
then_some o k x y e f = subst (λ z. option_then z k ≡ Some y) (sym e) f

pub map_inv : {A B : Type 0} (f : A → B) (o : Option A) (y : B) → option_map f o ≡ Some y → (x : A) × (o ≡ Some x) × (f x ≡ y)
map_inv f None y e = absurd (none_is e)
map_inv f (Some x) y e = (x, refl, some_is e)

pub map_some : {A B : Type 0} (f : A → B) (o : Option A) (x : A) → o ≡ Some x → option_map f o ≡ Some (f x)
map_some f o x e = subst (λ z. option_map f z ≡ Some (f x)) (sym e) refl

pub if_inv : {A : Type 0} (b : Bool) (o : Option A) (y : A) → only_if b o ≡ Some y → (b ≡ true) × (o ≡ Some y)
if_inv true o y e = (refl, e)
if_inv false o y e = absurd (none_is e)

pub if_some : {A : Type 0} (b : Bool) (o : Option A) (y : A) → b ≡ true → o ≡ Some y → only_if b o ≡ Some y
if_some b o y e f = subst (λ z. only_if z o ≡ Some y) (sym e) f
