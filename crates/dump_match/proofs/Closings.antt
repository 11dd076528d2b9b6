-- An `else` or `end` at an offset.
use Rattle.std.proofs.Common.{◌≡◌, ℕ, zero, suc, ◌+◌, ◌<◌, ◌≤◌, Bool, true, false, ◌⊎◌, List, length, Some, None, refl, sym, ap, subst, ◌∙◌, arith, inl, inr, ⊎_elim}
use Rattle.std.proofs.lemmas.Option.{slice_get_within}
use Rattle.wasm_syntax.specs.declared.instruction.Op.{Op}
use Rattle.wasm_syntax.specs.declared.parts.Body.{Body}
use Rattle.wasm_syntax.specs.declared.module.ModuleParts.{ModuleParts as Module}
use Rattle.wasm_syntax.specs.Valid.{Valid, body_of}
use Rattle.dump_format.specs.declared.dump.Frame.{Frame}
use Rattle.dump_match.specs.Frames.{IsOf, FunctionFits}
use Rattle.dump_match.specs.States.{AtClose, ClosesAt, SomeClosesAt}
use Rattle.wasm_validate.specs.calls.Deciding.{Decides}
use Rattle.dump_match.proofs.Spots.{defined_fits}
use Rattle.pm_text.proofs.Lists.{some_is}

-- what was looked at so far, and one more
pub one_more : (ops : List Op) (at i : ℕ) → ((k : ℕ) → k < i → ClosesAt ops k at → ⊥) → (ClosesAt ops i at → ⊥) → (k : ℕ) → k < i + 1 → ClosesAt ops k at → ⊥
one_more ops at i below here k lt c = ⊎_elim (λ a. below k a c) (λ e. here (subst (λ j. ClosesAt ops j at) e c)) (less_or_same k i (omega (arith, lt)))
  where
    less_or_same : (a b : ℕ) → a < suc b → (a < b) ⊎ (a ≡ b)
    less_or_same zero zero lt = inr refl
    less_or_same zero (suc b) lt = inl (omega arith)
    less_or_same (suc a) zero lt = absurd (omega (arith, lt))
    less_or_same (suc a) (suc b) lt = ⊎_elim (λ x. inl (omega (arith, x))) (λ x. inr (ap suc x)) (less_or_same a b (omega (arith, lt)))

pub none_at_all : (ops : List Op) (at i : ℕ) → length ops ≤ i → ((k : ℕ) → k < i → ClosesAt ops k at → ⊥) → SomeClosesAt ops at → ⊥
none_at_all ops at i end below c = let x = slice_get_within ops c.0 c.1.0 c.1.1 in below c.0 (omega (arith, x, end)) c.1

-- ---- frames

pub frame_closes : (b : Bool) (m : Module) (f : Frame) (body : Body) → Valid m → body_of m f.function ≡ Some body → Decides b (SomeClosesAt body.ops f.offset) → Decides b (AtClose m f)
frame_closes true m f body valid e h =
    let x : FunctionFits m f = defined_fits m f body valid e in
    let same : x.1 ≡ body = let is_of : IsOf m f x.0 x.1 = x.2 in some_is (sym is_of.body_is ∙ e) in
    let y = subst (λ b. SomeClosesAt b.ops f.offset) (sym same) h in
    (x.0, x.1, x.2, y)
frame_closes false m f body valid e h = λ x.
    let is_of : IsOf m f x.0 x.1 = x.2 in
    let same : x.1 ≡ body = some_is (sym is_of.body_is ∙ e) in
    h (subst (λ b. SomeClosesAt b.ops f.offset) same x.3)

pub none_closes : (m : Module) (f : Frame) → body_of m f.function ≡ None → AtClose m f → ⊥
none_closes m f e x = let is_of : IsOf m f x.0 x.1 = x.2 in let z : None ≡ Some x.1 = sym e ∙ is_of.body_is in cc
