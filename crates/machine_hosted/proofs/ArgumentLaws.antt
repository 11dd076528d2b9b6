-- The arguments of a call among the values of a machine.
use Rattle.std.proofs.Common.{◌≡◌, ℕ, ◌+◌, ◌-◌, List, [], ◌∷◌, ◌++◌, length, reverse, take, drop, refl, sym, ap, subst, ◌∙◌, append_assoc, length-append, arith}
use Rattle.std.proofs.lemmas.List.{drop_at, take_at, reverse-append, reverse-reverse, length-reverse}
use Rattle.std.specs.Prelude.{Bool, true, false, if◌then◌else◌}
use Rattle.wasm_syntax.specs.declared.value.Value.{Value}
use Rattle.wasm_syntax.specs.declared.value.Value.TheVariants as values
use Rattle.wasm_syntax.specs.Machine.{Engine, Config, Stepped}
use Rattle.machine_code.specs.declared.code.Code.{Code}
use Rattle.machine_steps.specs.calls.Layout.{Frames}
use Rattle.machine_steps.specs.calls.FramesMeet.{with_labels}
use Rattle.machine_steps.specs.declared.machine.Machine.{Machine}
use Rattle.machine_steps.specs.declared.machine.ImportCall.{ImportCall}
use Rattle.machine_steps.specs.calls.Meets.{UnderIndex, CallsImport}
use Rattle.machine_hosted.proofs.ReplyLaws.{behind_call}

-- a part of a list, by the lengths of what is before and behind it
middle : (xs ys zs : List Value) (start stop : ℕ) → start ≡ length xs → stop ≡ length xs + length ys → take (stop - start) (drop start (xs ++ (ys ++ zs))) ≡ ys
middle xs ys zs start stop a b =
    let n : stop - start ≡ length ys = omega (arith, a, b) in
    ap (take (stop - start)) (drop_at xs (ys ++ zs) start (sym a)) ∙ take_at ys zs (stop - start) (sym n)

-- values over others, under what lies above them
pub above_others : (pre args under all : List Value) (start stop : ℕ) → all ≡ pre ++ (reverse args ++ under) → stop ≡ length all - length pre → start ≡ stop - length args → take (stop - start) (drop start (reverse all)) ≡ args
above_others pre args under all start stop e p q =
    let turned : reverse all ≡ reverse under ++ (args ++ reverse pre) =
    ap reverse e ∙ reverse-append pre (reverse args ++ under) ∙ ap (λ l. l ++ reverse pre) (reverse-append (reverse args) under ∙ ap (λ l. reverse under ++ l) (reverse-reverse args))
    ∙ append_assoc (reverse under) args (reverse pre) in
    let count : length all ≡ length pre + (length args + length under) =
    ap length e ∙ length-append pre (reverse args ++ under) ∙ ap (λ n. length pre + n) (length-append (reverse args) under ∙ ap (λ n. n + length under) (length-reverse args)) in
    let l = length-reverse under in
    let a : start ≡ length (reverse under) = omega (arith, l, count, p, q) in
    let b : stop ≡ length (reverse under) + length args = omega (arith, l, count, p, q) in
    ap (λ z. take (stop - start) (drop start z)) turned ∙ middle (reverse under) args (reverse pre) start stop a b

-- what is taken from the operands
abbrev above : Bool → ℕ → List Value
above false i = []
above true i = values.I32 i ∷ []

abbrev index_in : (indirect : Bool) (operands vs : List Value) → UnderIndex indirect operands vs → ℕ
index_in false operands vs u = 0
index_in true operands vs u = u.0

taken_is : (indirect : Bool) (operands vs args below : List Value) (u : UnderIndex indirect operands vs) → vs ≡ args ++ below → operands ≡ (above indirect (index_in indirect operands vs u) ++ args) ++ below
taken_is false operands vs args below u e = u ∙ e
taken_is true operands vs args below u e = u.1 ∙ ap (λ l. values.I32 u.0 ∷ l) e

under_count : (indirect : Bool) (i : ℕ) → length (above indirect i) ≡ (if indirect then 1 else 0)
under_count false i = refl
under_count true i = refl

module _ (M : Engine) (codes : List Code) (c : Config) (call : ImportCall) (s : Stepped) (m : Machine) (h : CallsImport M codes c call s m) (args below : List Value) (operands : h.operands ≡ reverse args ++ below) where
  abbrev pre : List Value
  pre = above call.indirect (index_in call.indirect h.label.operands h.operands h.under)

  frames : Frames M.program codes (with_labels h.frame (h.label ∷ h.outer) ∷ h.callers) m.stack.frames m.stack.position m.stack.controls m.stack.values
  frames = subst (λ fs. Frames M.program codes fs m.stack.frames m.stack.position m.stack.controls m.stack.values) h.frames_are h.stands.frames

  -- the values of the machine between these two indices, the lowest first
  pub argument_values : (start stop : ℕ) → stop ≡ length m.stack.values - (if call.indirect then 1 else 0) → start ≡ stop - length args → take (stop - start) (drop start (reverse m.stack.values)) ≡ args
  argument_values start stop p q =
      let b = behind_call M.program codes h.frame h.label h.outer h.callers h.at h.jumps h.rest (above call.indirect (index_in call.indirect h.label.operands h.operands h.under) ++ reverse args) below []
      m.stack.frames m.stack.position m.stack.controls m.stack.values h.node (taken_is call.indirect h.label.operands h.operands (reverse args) below h.under operands) frames in
      let e : m.stack.values ≡ above call.indirect (index_in call.indirect h.label.operands h.operands h.under) ++ (reverse args ++ b.0) =
      b.1 ∙ append_assoc (above call.indirect (index_in call.indirect h.label.operands h.operands h.under)) (reverse args) b.0 in
      let n = under_count call.indirect (index_in call.indirect h.label.operands h.operands h.under) in
      above_others (above call.indirect (index_in call.indirect h.label.operands h.operands h.under)) args b.0 m.stack.values start stop e (p ∙ ap (λ k. length m.stack.values - k) (sym n)) q
