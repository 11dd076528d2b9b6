-- The greatest height of a function's instructions, one after the other.
use Rattle.std.proofs.Common.{◌≡◌, ℕ, ◌+◌, ◌-◌, ◌^◌, ◌<◌, ◌≤◌, List, length, get_or, inl, inr, ⊎_elim, refl, sym, ap, subst, ◌∙◌, arith, length-append}
use Rattle.std.specs.Prelude.{◌⊎◌, Option, Some, None, slice_get}
use Rattle.std.proofs.lemmas.Option.{get_or_from_slice_get}
use Rattle.wasm_syntax.specs.declared.value.ValType.{ValType}
use Rattle.wasm_syntax.specs.declared.parts.FuncType.{FuncType}
use Rattle.wasm_syntax.specs.declared.parts.Body.{Body}
use Rattle.wasm_syntax.specs.declared.module.ModuleParts.{ModuleParts as Module}
use Rattle.wasm_syntax.specs.Module.{type_at, declared_locals}
use Rattle.wasm_syntax.specs.Sizes.{WithinLimits, ShortBody, local_count}
use Rattle.wasm_syntax.specs.Valid.{defined_index, body_of}
use Rattle.wasm_laws.proofs.Lists.{at_of}
use Rattle.wasm_validate.specs.Heights.{TypesAt, HasOp, HeightIs, StandsIn, AllLow}
use Rattle.wasm_validate.proofs.Order.{index_back}
use Rattle.operand_spill.specs.calls.Plans.{own_types, planned, Fits}
use Rattle.operand_spill.specs.inner.Greatest.{height_or_zero, IsGreatestUpTo}
use Rattle.wasm_syntax.proofs.Bodies.{declared_length}
use Rattle.wasm_syntax.proofs.Types.{then_found}

pub none_greatest : (m : Module) (f : ℕ) → IsGreatestUpTo m f 0 0
none_greatest m f = record { bound = λ op types lt h. absurd (omega (arith, lt)); there = inl refl }

at_most : (m : Module) (f op : ℕ) (o : Option ℕ) (next : ℕ) → HeightIs o m f op → height_or_zero o ≤ next → (types : List ValType) → TypesAt m f op types → length types ≤ next
at_most m f op None next h le types ty = absurd (h types ty)
at_most m f op (Some k) next h le types ty = omega (arith, le, h.1 types ty)

stands_there : (m : Module) (f op : ℕ) (o : Option ℕ) (next : ℕ) → HasOp m f op → HeightIs o m f op → next ≡ height_or_zero o → (next ≡ 0) ⊎ StandsIn m f next
stands_there m f op None next has h e = inl e
stands_there m f op (Some k) next has h e = inr (op, has, h.0.0, h.0.1, h.0.2 ∙ sym e)

-- one instruction more
pub greatest_more : (m : Module) (f n most next : ℕ) (o : Option ℕ) → IsGreatestUpTo m f n most → HasOp m f n → HeightIs o m f n → most ≤ next → height_or_zero o ≤ next →
    (next ≡ most) ⊎ (next ≡ height_or_zero o) → IsGreatestUpTo m f (n + 1) next
greatest_more m f n most next o g has h over holds either = record {
  bound = λ op types lt ty. ⊎_elim (λ below. omega (arith, g.bound op types below ty, over)) (λ same. at_most m f n o next h holds types (subst (λ k. TypesAt m f k types) same ty)) (below_or_same op lt);
  there = ⊎_elim (λ same. subst (λ k. (k ≡ 0) ⊎ StandsIn m f k) (sym same) g.there) (λ this. stands_there m f n o next has h this) either;
}
  where
    below_or_same : (op : ℕ) → op < n + 1 → (op < n) ⊎ (op ≡ n)
    below_or_same op lt = grind arith

-- ---- the body of a function that is defined

pub there : (m : Module) (f : ℕ) (body : Body) → body_of m f ≡ Some body → (i : ℕ) × (f ≡ length m.imports + i) × (slice_get m.bodies i ≡ Some body)
there m f body e =
    let i = then_found (defined_index m f) (slice_get m.bodies) body e in
    (i.0, index_back m f i.0 i.1, i.2)

pub few_ops : (m : Module) (f : ℕ) (body : Body) → WithinLimits m → body_of m f ≡ Some body → length body.ops < 2 ^ 32
few_ops m f body l e = let i = there m f body e in (at_of ShortBody m.bodies i.0 body l.short.each_body i.2).ops

-- all locals have numbers
pub fits : (m : Module) (f n slots : ℕ) (body : Body) → WithinLimits m → AllLow m → body_of m f ≡ Some body → IsGreatestUpTo m f n slots → Fits (planned (own_types (type_at m f) body) slots)
fits m f n slots body l low e g =
    let i = there m f body e in
    let few : local_count (type_at m (length m.imports + i.0)) body ≤ 16384 = l.locals i.0 body i.2 in
    let few_here : local_count (type_at m f) body ≤ 16384 = subst (λ k. local_count (type_at m k) body ≤ 16384) (sym i.1) few in
    let count : length (own_types (type_at m f) body) ≤ local_count (type_at m f) body = own_count (type_at m f) in
    let heights : slots ≤ 4096 = ⊎_elim (λ none. omega (arith, none)) (λ stands. low f slots stands) g.there in
    omega (arith, few_here, count, heights)
  where
    own_count : (q : Option FuncType) → length (own_types q body) ≤ local_count q body
    own_count None = omega arith
    own_count (Some type) = omega (arith, length-append type.params (declared_locals body.groups), declared_length body.groups)

-- where the parts are those of the module
pub fits_from : (m parts : Module) (f n slots : ℕ) (body : Body) (locals : List ValType) → parts ≡ m → WithinLimits m → AllLow m → body_of parts f ≡ Some body → IsGreatestUpTo m f n slots →
    locals ≡ own_types (type_at parts f) body → Fits (planned locals slots)
fits_from m parts f n slots body locals same l low e g is =
    let here : body_of m f ≡ Some body = subst (λ x. body_of x f ≡ Some body) same e in
    let types : locals ≡ own_types (type_at m f) body = is ∙ ap (λ x. own_types (type_at x f) body) same in
    subst (λ ls. Fits (planned ls slots)) (sym types) (fits m f n slots body l low here g)

-- the body that is read
pub body_read : (m : Module) (f : ℕ) (body read : Body) (bodies : List Body) (n : ℕ) → body_of m f ≡ Some body → bodies ≡ m.bodies → n ≡ length m.imports → read ≡ get_or bodies (f - n) read →
    body_of m f ≡ Some read
body_read m f body read bodies n e same count is =
    let i = there m f body e in
    let at : f - n ≡ i.0 = omega (arith, i.1, count) in
    let found : get_or m.bodies i.0 read ≡ body = get_or_from_slice_get m.bodies i.0 body read i.2 in
    e ∙ ap Some (sym found ∙ ap (λ k. get_or m.bodies k read) (sym at) ∙ ap (λ l. get_or l (f - n) read) (sym same) ∙ sym is)
