-- Constant expressions.
use Rattle.std.proofs.Common.{◌≡◌, List, [], ◌∷◌, map, refl, sym, ap, subst, ◌∙◌}
use Rattle.std.specs.Prelude.{Bool, true, false, Option, Some, None}
use Rattle.wasm_syntax.specs.declared.value.ValType.{ValType}
use Rattle.wasm_syntax.specs.declared.instruction.Instr.{Instr}
use Rattle.wasm_syntax.specs.declared.instruction.Instr.TheVariants as instr
use Rattle.wasm_syntax.specs.declared.instruction.Op.{Op}
use Rattle.wasm_syntax.specs.declared.parts.Global.{Global}
use Rattle.wasm_syntax.specs.declared.parts.Body.{Body}
use Rattle.wasm_syntax.specs.Typing.{only_if}
use Rattle.wasm_syntax.specs.Valid.{ConstBody, ConstTypes}
use Rattle.wasm_validate.specs.calls.Deciding.{Decides}
use Rattle.wasm_validate.specs.inner.Places.{is_end, one_instr}
use Rattle.pm_text.proofs.Lists.{some_is}

is_end_is : (i : Instr) → is_end i ≡ true → i ≡ instr.End
is_end_is (instr.Basic i) e = absurd (cc)
is_end_is (instr.Jump j) e = absurd (cc)
is_end_is (instr.Block t) e = absurd (cc)
is_end_is (instr.Loop t) e = absurd (cc)
is_end_is (instr.If t) e = absurd (cc)
is_end_is instr.Else e = absurd (cc)
is_end_is instr.End e = refl

one_is : (ops : List Op) (i : Instr) → one_instr ops ≡ Some i → map (λ o. o.code) ops ≡ i ∷ instr.End ∷ []
one_is [] i e = absurd (cc)
one_is (a ∷ []) i e = absurd (cc)
one_is (a ∷ b ∷ o ∷ os) i e = absurd (cc)
one_is (a ∷ b ∷ []) i e = by_end (is_end b.code) refl e
  where
    by_end : (t : Bool) → is_end b.code ≡ t → only_if t (Some a.code) ≡ Some i → a.code ∷ b.code ∷ [] ≡ i ∷ instr.End ∷ []
    by_end true q e = rw (some_is e, is_end_is b.code q) refl
    by_end false q e = absurd (cc)

head_of : Instr → List Instr → Instr
head_of d [] = d
head_of d (x ∷ xs) = x

tail_of : List Instr → List Instr
tail_of [] = []
tail_of (x ∷ xs) = xs

is_one : (ops : List Op) (i : Instr) → map (λ o. o.code) ops ≡ i ∷ instr.End ∷ [] → one_instr ops ≡ Some i
unfolding head_of tail_of
is_one [] i e = absurd (cc)
is_one (a ∷ []) i e = absurd (cc)
is_one (a ∷ b ∷ o ∷ os) i e = absurd (cc)
is_one (a ∷ b ∷ []) i e =
    let p : a.code ≡ i = ap (head_of i) e in
    let q : b.code ≡ instr.End = ap (λ l. head_of i (tail_of l)) e in
    subst (λ x. only_if (is_end x) (Some a.code) ≡ Some i) (sym q) (ap (λ x. Some x) p)

some_one : {A : Type 0} (o : Option A) (x y : A) → o ≡ Some x → o ≡ Some y → x ≡ y
some_one o x y e f = some_is (sym e ∙ f)

pub const_decides : (b : Bool) (globals : List Global) (body : Body) (t : ValType) (i : Instr) → one_instr body.ops ≡ Some i → Decides b (ConstTypes globals i t) → Decides b (ConstBody globals body t)
const_decides true globals body t i e h = (i, one_is body.ops i e, h)
const_decides false globals body t i e h = λ k. h (subst (λ x. ConstTypes globals x t) (some_one (one_instr body.ops) k.0 i (is_one body.ops k.0 k.1) e) k.2)

pub const_none : (globals : List Global) (body : Body) (t : ValType) → one_instr body.ops ≡ None → ConstBody globals body t → ⊥
const_none globals body t e k = let q : None ≡ Some k.0 = sym e ∙ is_one body.ops k.0 k.1 in cc
