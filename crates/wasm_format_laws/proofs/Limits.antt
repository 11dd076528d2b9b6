-- Which quantity of a module passes its greatest number depends on its code alone; within the limits none does.
use Rattle.std.proofs.Common.{◌≡◌, ℕ, suc, ◌≤◌, List, [], ◌∷◌, Option, None, refl, ap, subst, ◌∙◌}
use Rattle.std.specs.Prelude.{map, slice_get}
use Rattle.std.specs.List.{AllByRecursion}
use Rattle.std.proofs.lemmas.Bool.{le-ltb}
use Rattle.wasm_syntax.specs.declared.quantity.Quantity.{Quantity}
use Rattle.wasm_syntax.specs.declared.quantity.Quantity.TheVariants.{Locals, Nesting, Table, Memory}
use Rattle.wasm_syntax.specs.declared.instruction.Instr.{Instr}
use Rattle.wasm_syntax.specs.declared.instruction.Op.{Op}
use Rattle.wasm_syntax.specs.declared.parts.FuncType.{FuncType}
use Rattle.wasm_syntax.specs.declared.parts.Limits.{Limits}
use Rattle.wasm_syntax.specs.declared.parts.Body.{Body}
use Rattle.wasm_syntax.specs.declared.module.ModuleParts.{ModuleParts}
use Rattle.wasm_syntax.specs.Quantity.{greatest}
use Rattle.wasm_syntax.specs.Valid.{AtIndex}
use Rattle.wasm_syntax.specs.Sizes.{local_count, deepest, nesting, WithinLimits}
use Rattle.wasm_syntax.specs.SameCode.{op_code, body_code, code_alone}
use Rattle.wasm_decode.specs.declared.fault.DecodeFault.{DecodeFault}
use Rattle.wasm_decode.specs.Decode.{all_locals, first_over, too_much}
use Rattle.wasm_decode.proofs.Sounds.{type_behind, AtMost}
use Rattle.wasm_bytes.specs.Refusals.{◌orelse◌}

-- ---- the code alone

abbrev codes : List Op → List Instr
codes ops = map (λ o. o.code) ops

same_codes : (ops : List Op) → codes ops ≡ codes (map op_code ops)
same_codes [] = refl
same_codes (o ∷ ops) = ap (λ (is : List Instr). o.code ∷ is) (same_codes ops)

same_nesting : (bodies : List Body) → map nesting bodies ≡ map nesting (map body_code bodies)
same_nesting [] = refl
same_nesting (b ∷ bodies) =
    ap (λ (is : List Instr). deepest 0 is ∷ map nesting bodies) (same_codes b.ops) ∙ ap (λ (ns : List ℕ). nesting (body_code b) ∷ ns) (same_nesting bodies)

same_locals : (types : List FuncType) (functions : List ℕ) (bodies : List Body) → all_locals types functions bodies ≡ all_locals types functions (map body_code bodies)
same_locals types [] bodies = refl
same_locals types (t ∷ functions) [] = refl
same_locals types (t ∷ functions) (b ∷ bodies) = ap (λ (ns : List ℕ). local_count (slice_get types t) b ∷ ns) (same_locals types functions bodies)

pub same_limits : (m : ModuleParts) → too_much m ≡ too_much (code_alone m)
unfolding too_much
same_limits m =
    let rest = first_over Table (map (λ (l : Limits). l.min) m.tables) orelse first_over Memory (map (λ (l : Limits). l.min) m.memories) in
    ap (λ (ns : List ℕ). first_over Locals ns orelse (first_over Nesting (map nesting m.bodies) orelse rest)) (same_locals m.types m.functions m.bodies)
    ∙ ap (λ (ns : List ℕ). first_over Locals (all_locals m.types m.functions (map body_code m.bodies)) orelse (first_over Nesting ns orelse rest)) (same_nesting m.bodies)

-- ---- within the limits

none_over : (what : Quantity) (ns : List ℕ) → AllByRecursion (λ n. n ≤ greatest what) ns → first_over what ns ≡ None
none_over what [] h = refl
none_over what (n ∷ ns) h = rw (le-ltb (greatest what) n h.0) (none_over what ns h.1)

none_over_of : {A : Type 0} (what : Quantity) (f : A → ℕ) (xs : List A) → AllByRecursion (λ x. f x ≤ greatest what) xs → first_over what (map f xs) ≡ None
none_over_of what f [] h = refl
none_over_of what f (x ∷ xs) h = rw (le-ltb (greatest what) (f x) h.0) (none_over_of what f xs h.1)

all_at_most : (types : List FuncType) (functions : List ℕ) (bodies : List Body) → AtIndex bodies (AtMost types functions) → AllByRecursion (λ n. n ≤ greatest Locals) (all_locals types functions bodies)
unfolding AtMost
all_at_most types [] bodies h = tt
all_at_most types (t ∷ functions) [] h = tt
all_at_most types (t ∷ functions) (b ∷ bodies) h = (h 0 b refl, all_at_most types functions bodies (λ i body e. h (suc i) body e))

locals_at_most : (m : ModuleParts) → WithinLimits m → AtIndex m.bodies (AtMost m.types m.functions)
unfolding AtMost
locals_at_most m within i body e = subst (λ (o : Option FuncType). local_count o body ≤ greatest Locals) (type_behind m i) (within.locals i body e)

neither : (a b : Option DecodeFault) → a ≡ None → b ≡ None → (a orelse b) ≡ None
neither a b p q = rw (p, q) refl

pub none_too_much : (m : ModuleParts) → WithinLimits m → too_much m ≡ None
unfolding too_much
none_too_much m within =
    neither _ _ (none_over Locals (all_locals m.types m.functions m.bodies) (all_at_most m.types m.functions m.bodies (locals_at_most m within)))
    (neither _ _ (none_over_of Nesting nesting m.bodies within.nested)
    (neither _ _ (none_over_of Table (λ (l : Limits). l.min) m.tables within.tables) (none_over_of Memory (λ (l : Limits). l.min) m.memories within.memories)))
