-- What the tests of types say.
use Rattle.std.proofs.Common.{◌≡◌, ◌≢◌, suc, true, false, ◌&&◌, Bool, List, [], ◌∷◌, length, Option, Some, None, option_map, refl, ap, ap₂, ◌∙◌}
use Rattle.std.proofs.Math.Bool.{and-false}
use Rattle.wasm_syntax.specs.declared.value.ValType.{ValType}
use Rattle.wasm_syntax.specs.declared.value.ValType.TheVariants.{I32, I64}
use Rattle.wasm_syntax.specs.declared.parts.FuncType.{FuncType}
use Rattle.wasm_syntax.specs.Numbers.{same_type}
use Rattle.wasm_syntax.specs.Module.{option_then, same_types, same_functype}
use Rattle.wasm_syntax.specs.Typing.{only_if, if_any}
use Rattle.pm_text.proofs.Lists.{some_is}

pub same_type_is : (t u : ValType) → same_type t u ≡ true → t ≡ u
same_type_is I32 I32 e = refl
same_type_is I32 I64 e = absurd (cc)
same_type_is I64 I32 e = absurd (cc)
same_type_is I64 I64 e = refl

pub same_type_refl : (t : ValType) → same_type t t ≡ true
same_type_refl I32 = refl
same_type_refl I64 = refl

pub same_types_are : (ts us : List ValType) → same_types ts us ≡ true → ts ≡ us
same_types_are [] [] e = refl
same_types_are [] (_ ∷ _) e = absurd (cc)
same_types_are (_ ∷ _) [] e = absurd (cc)
same_types_are (I32 ∷ a) (I32 ∷ b) e = ap (λ z. I32 ∷ z) (same_types_are a b e)
same_types_are (I32 ∷ a) (I64 ∷ b) e = absurd (cc)
same_types_are (I64 ∷ a) (I32 ∷ b) e = absurd (cc)
same_types_are (I64 ∷ a) (I64 ∷ b) e = ap (λ z. I64 ∷ z) (same_types_are a b e)

pub same_types_refl : (ts : List ValType) → same_types ts ts ≡ true
same_types_refl [] = refl
same_types_refl (I32 ∷ a) = same_types_refl a
same_types_refl (I64 ∷ a) = same_types_refl a

pub other_count : (ts us : List ValType) → length ts ≢ length us → same_types ts us ≡ false
other_count [] [] h = absurd (h refl)
other_count [] (u ∷ us) h = refl
other_count (t ∷ ts) [] h = refl
other_count (t ∷ ts) (u ∷ us) h = ap (λ z. same_type t u && z) (other_count ts us (λ e. h (ap suc e))) ∙ and-false (same_type t u)

pub same_functype_refl : (type : FuncType) → same_functype type type ≡ true
same_functype_refl type = ap₂ (λ p q. p && q) (same_types_refl type.params) (same_types_refl type.results)

pub any_found : {A B : Type 0} (ls : List A) (o : Option B) (b : B) → if_any ls o ≡ Some b → o ≡ Some b
any_found [] o b e = absurd (cc)
any_found (l ∷ ls) o b e = e

pub then_found : {A B : Type 0} (o : Option A) (go : A → Option B) (b : B) → option_then o go ≡ Some b → (x : A) × (o ≡ Some x) × (go x ≡ Some b)
then_found None go b e = absurd (cc)
then_found (Some x) go b e = (x, refl, e)

pub map_found : {A B : Type 0} (o : Option A) (f : A → B) (b : B) → option_map f o ≡ Some b → (x : A) × (o ≡ Some x) × (f x ≡ b)
map_found None f b e = absurd (cc)
map_found (Some x) f b e = (x, refl, some_is e)

pub only_found : {A : Type 0} (q : Bool) (o : Option A) (b : A) → only_if q o ≡ Some b → o ≡ Some b
only_found true o b e = e
only_found false o b e = absurd (cc)
