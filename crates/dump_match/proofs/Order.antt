-- The order of the tests.
use Rattle.std.proofs.Common.{◌≡◌, ℕ, zero, suc, ◌+◌, ◌<◌, ◌≤◌, List, [], ◌∷◌, length, Option, Some, None, slice_get, refl, sym, ap, subst, ◌∙◌, arith}
use Rattle.std.specs.Prelude.{IfSome, Result, Ok, Err}
use Rattle.wasm_syntax.specs.declared.module.ModuleParts.{ModuleParts as Module}
use Rattle.wasm_syntax.specs.Valid.{There}
use Rattle.dump_format.specs.declared.dump.Dump.{Dump}
use Rattle.dump_format.specs.declared.dump.Frame.{Frame}
use Rattle.dump_format.specs.declared.dump.Instance.{Instance}
use Rattle.dump_match.specs.declared.mismatch.Mismatch.{Mismatch}
use Rattle.dump_match.specs.declared.mismatch.Mismatch.TheVariants as rows
use Rattle.dump_match.specs.Frames.{FunctionFits, OffsetFits, LocalsFit, OperandsFit, CallFits, CalleeFits}
use Rattle.dump_match.specs.Matching.{OneInstance, MemoryFits, GlobalFits, Passes, Before, FirstMismatch, group, place}
use Rattle.dump_match.specs.inner.Decides.{GlobalsFound, WholeJudged, FrameJudged}

-- ---- one instance

abbrev head_or : Instance → List Instance → Instance
head_or d [] = d
head_or d (x ∷ xs) = x

same_one : (dump : Dump) (a b : Instance) → dump.instances ≡ a ∷ [] → dump.instances ≡ b ∷ [] → a ≡ b
same_one dump a b e f = ap (head_or a) (sym e ∙ f)

-- ---- the tests of the whole dump

abbrev pub global_answer : Option ℕ → Result (Unit {0}) Mismatch
global_answer None = Ok tt
global_answer (Some i) = Err (rows.Global i)

module _ (m : Module) (dump : Dump) where
  pub no_instance : ((one : Instance) → OneInstance dump one → ⊥) → FirstMismatch m dump rows.Instance
  no_instance h = record { fails = λ p. h p.0 p.1; earlier = λ other b. before_first other b }
    where
      before_first : (other : Mismatch) → Before other rows.Instance → Passes m dump other
      before_first rows.Instance b = absurd (omega (arith, b))
      before_first rows.Memory b = absurd (omega (arith, b))
      before_first (rows.Global i) b = absurd (omega (arith, b))
      before_first (rows.Function i) b = absurd (omega (arith, b))
      before_first (rows.Offset i) b = absurd (omega (arith, b))
      before_first (rows.Locals i) b = absurd (omega (arith, b))
      before_first (rows.Operands i) b = absurd (omega (arith, b))
      before_first (rows.NotACall i) b = absurd (omega (arith, b))
      before_first (rows.Callee i) b = absurd (omega (arith, b))

  module _ (one : Instance) (h : OneInstance dump one) where
    pub no_memory : (MemoryFits m dump one → ⊥) → FirstMismatch m dump rows.Memory
    no_memory n = record { fails = λ p. n (subst (MemoryFits m dump) (same_one dump p.0 one p.1 h.alone) p.2); earlier = λ other b. before_memory other b }
      where
        before_memory : (other : Mismatch) → Before other rows.Memory → Passes m dump other
        before_memory rows.Instance b = (one, h)
        before_memory rows.Memory b = absurd (omega (arith, b))
        before_memory (rows.Global i) b = absurd (omega (arith, b))
        before_memory (rows.Function i) b = absurd (omega (arith, b))
        before_memory (rows.Offset i) b = absurd (omega (arith, b))
        before_memory (rows.Locals i) b = absurd (omega (arith, b))
        before_memory (rows.Operands i) b = absurd (omega (arith, b))
        before_memory (rows.NotACall i) b = absurd (omega (arith, b))
        before_memory (rows.Callee i) b = absurd (omega (arith, b))

    pub no_global : (i : ℕ) → MemoryFits m dump one → (GlobalFits m dump i one → ⊥) → ((j : ℕ) → j < i → GlobalFits m dump j one) → FirstMismatch m dump (rows.Global i)
    no_global i mem n below = record { fails = λ p. n (subst (GlobalFits m dump i) (same_one dump p.0 one p.1 h.alone) p.2); earlier = λ other b. before_global other b }
      where
        before_global : (other : Mismatch) → Before other (rows.Global i) → Passes m dump other
        before_global rows.Instance b = (one, h)
        before_global rows.Memory b = (one, h.alone, mem)
        before_global (rows.Global j) b = let lt : j < i = omega (arith, b) in (one, h.alone, below j lt)
        before_global (rows.Function j) b = absurd (omega (arith, b))
        before_global (rows.Offset j) b = absurd (omega (arith, b))
        before_global (rows.Locals j) b = absurd (omega (arith, b))
        before_global (rows.Operands j) b = absurd (omega (arith, b))
        before_global (rows.NotACall j) b = absurd (omega (arith, b))
        before_global (rows.Callee j) b = absurd (omega (arith, b))

    pub whole_fine : MemoryFits m dump one → ((i : ℕ) → GlobalFits m dump i one) → (row : Mismatch) → group row ≡ 0 → Passes m dump row
    whole_fine mem globals rows.Instance e = (one, h)
    whole_fine mem globals rows.Memory e = (one, h.alone, mem)
    whole_fine mem globals (rows.Global i) e = (one, h.alone, globals i)
    whole_fine mem globals (rows.Function i) e = absurd (omega (arith, e))
    whole_fine mem globals (rows.Offset i) e = absurd (omega (arith, e))
    whole_fine mem globals (rows.Locals i) e = absurd (omega (arith, e))
    whole_fine mem globals (rows.Operands i) e = absurd (omega (arith, e))
    whole_fine mem globals (rows.NotACall i) e = absurd (omega (arith, e))
    whole_fine mem globals (rows.Callee i) e = absurd (omega (arith, e))

    pub globals_judged : (o : Option ℕ) → MemoryFits m dump one → GlobalsFound o m dump one → WholeJudged (global_answer o) m dump
    globals_judged None mem g = whole_fine mem g
    globals_judged (Some i) mem g = (refl, no_global i mem g.0 g.1)

  -- ---- the tests of a frame

  module _ (i : ℕ) (f : Frame) (at : slice_get dump.frames i ≡ Some f) where
    there : (P : Frame → Type 0) → P f → There dump.frames i P
    there P h = subst (λ o. IfSome o P) (sym at) h

    pub fits : (P : Frame → Type 0) → There dump.frames i P → P f
    fits P h = subst (λ o. IfSome o P) at h

    abbrev pub At : ℕ → (Frame → Type 0) → Type 0
    At j P = There dump.frames j P

    same_frame : (j : ℕ) → j + 1 ≡ suc i → i ≡ j
    same_frame j e = omega (arith, e)

    -- each test of the frame up to a place passes where each of these holds
    pub up_to : (n : ℕ) → (4 < n → FunctionFits m f) → (5 < n → OffsetFits m f) → (6 < n → LocalsFit m f) → (7 < n → OperandsFit m i f) → (8 < n → CallFits m i f) → (9 < n → CalleeFits m dump.frames i f)
        → (row : Mismatch) → group row ≡ suc i → place row < n → Passes m dump row
    up_to n a b c d e g rows.Instance eq lt = absurd (omega (arith, eq))
    up_to n a b c d e g rows.Memory eq lt = absurd (omega (arith, eq))
    up_to n a b c d e g (rows.Global j) eq lt = absurd (omega (arith, eq))
    up_to n a b c d e g (rows.Function j) eq lt = subst (λ k. At k (FunctionFits m)) (same_frame j eq) (there (FunctionFits m) (a lt))
    up_to n a b c d e g (rows.Offset j) eq lt = subst (λ k. At k (OffsetFits m)) (same_frame j eq) (there (OffsetFits m) (b lt))
    up_to n a b c d e g (rows.Locals j) eq lt = subst (λ k. At k (LocalsFit m)) (same_frame j eq) (there (LocalsFit m) (c lt))
    up_to n a b c d e g (rows.Operands j) eq lt = subst (λ k. At k (OperandsFit m k)) (same_frame j eq) (there (OperandsFit m i) (d lt))
    up_to n a b c d e g (rows.NotACall j) eq lt = subst (λ k. At k (CallFits m k)) (same_frame j eq) (there (CallFits m i) (e lt))
    up_to n a b c d e g (rows.Callee j) eq lt = subst (λ k. At k (CalleeFits m dump.frames k)) (same_frame j eq) (there (CalleeFits m dump.frames i) (g lt))

    -- the first test of the frame that fails
    pub fails_at : (row : Mismatch) → group row ≡ suc i → (Passes m dump row → ⊥) → (4 < place row → FunctionFits m f) → (5 < place row → OffsetFits m f) → (6 < place row → LocalsFit m f) → (7 < place row → OperandsFit m i f) → (8 < place row → CallFits m i f)
        → (9 < place row → CalleeFits m dump.frames i f) → FrameJudged (Err row) m dump i
    fails_at row eq n a b c d e g = (eq, n, λ other k lt. up_to (place row) a b c d e g other k lt)

    pub passes_all : FunctionFits m f → OffsetFits m f → LocalsFit m f → OperandsFit m i f → CallFits m i f → CalleeFits m dump.frames i f → (row : Mismatch) → group row ≡ suc i → Passes m dump row
    passes_all a b c d e g row eq = up_to (suc (place row)) (λ x. a) (λ x. b) (λ x. c) (λ x. d) (λ x. e) (λ x. g) row eq (omega arith)

    none_yet : {A : Type 0} (n : ℕ) → n < n → A
    none_yet n lt = absurd (omega (arith, lt))

    pub no_function : (FunctionFits m f → ⊥) → FrameJudged (Err (rows.Function i)) m dump i
    no_function n =
        fails_at (rows.Function i) (omega arith) (λ p. n (fits (FunctionFits m) p)) (none_yet 4) (λ x. absurd (omega (arith, x))) (λ x. absurd (omega (arith, x))) (λ x. absurd (omega (arith, x))) (λ x. absurd (omega (arith, x)))
        (λ x. absurd (omega (arith, x)))

    pub no_offset : FunctionFits m f → (OffsetFits m f → ⊥) → FrameJudged (Err (rows.Offset i)) m dump i
    no_offset a n =
        fails_at (rows.Offset i) (omega arith) (λ p. n (fits (OffsetFits m) p)) (λ x. a) (none_yet 5) (λ x. absurd (omega (arith, x))) (λ x. absurd (omega (arith, x))) (λ x. absurd (omega (arith, x))) (λ x. absurd (omega (arith, x)))

    pub no_locals : FunctionFits m f → OffsetFits m f → (LocalsFit m f → ⊥) → FrameJudged (Err (rows.Locals i)) m dump i
    no_locals a b n = fails_at (rows.Locals i) (omega arith) (λ p. n (fits (LocalsFit m) p)) (λ x. a) (λ x. b) (none_yet 6) (λ x. absurd (omega (arith, x))) (λ x. absurd (omega (arith, x))) (λ x. absurd (omega (arith, x)))

    pub no_operands : FunctionFits m f → OffsetFits m f → LocalsFit m f → (OperandsFit m i f → ⊥) → FrameJudged (Err (rows.Operands i)) m dump i
    no_operands a b c n = fails_at (rows.Operands i) (omega arith) (λ p. n (fits (OperandsFit m i) p)) (λ x. a) (λ x. b) (λ x. c) (none_yet 7) (λ x. absurd (omega (arith, x))) (λ x. absurd (omega (arith, x)))

    pub no_call : FunctionFits m f → OffsetFits m f → LocalsFit m f → OperandsFit m i f → (CallFits m i f → ⊥) → FrameJudged (Err (rows.NotACall i)) m dump i
    no_call a b c d n = fails_at (rows.NotACall i) (omega arith) (λ p. n (fits (CallFits m i) p)) (λ x. a) (λ x. b) (λ x. c) (λ x. d) (none_yet 8) (λ x. absurd (omega (arith, x)))

    pub no_callee : FunctionFits m f → OffsetFits m f → LocalsFit m f → OperandsFit m i f → CallFits m i f → (CalleeFits m dump.frames i f → ⊥) → FrameJudged (Err (rows.Callee i)) m dump i
    no_callee a b c d e n = fails_at (rows.Callee i) (omega arith) (λ p. n (fits (CalleeFits m dump.frames i) p)) (λ x. a) (λ x. b) (λ x. c) (λ x. d) (λ x. e) (none_yet 9)

  nothing : (j : ℕ) (P : Frame → Type 0) → slice_get dump.frames j ≡ None → There dump.frames j P
  nothing j P e = subst (λ o. IfSome o P) (sym e) tt

  -- a frame that is not there passes
  not_there : (row : Mismatch) (j : ℕ) → group row ≡ suc j → slice_get dump.frames j ≡ None → Passes m dump row
  not_there rows.Instance j e n = absurd (omega (arith, e))
  not_there rows.Memory j e n = absurd (omega (arith, e))
  not_there (rows.Global i) j e n = absurd (omega (arith, e))
  not_there (rows.Function i) j e n = let q : i ≡ j = omega (arith, e) in nothing i (FunctionFits m) (ap (slice_get dump.frames) q ∙ n)
  not_there (rows.Offset i) j e n = let q : i ≡ j = omega (arith, e) in nothing i (OffsetFits m) (ap (slice_get dump.frames) q ∙ n)
  not_there (rows.Locals i) j e n = let q : i ≡ j = omega (arith, e) in nothing i (LocalsFit m) (ap (slice_get dump.frames) q ∙ n)
  not_there (rows.Operands i) j e n = let q : i ≡ j = omega (arith, e) in nothing i (OperandsFit m i) (ap (slice_get dump.frames) q ∙ n)
  not_there (rows.NotACall i) j e n = let q : i ≡ j = omega (arith, e) in nothing i (CallFits m i) (ap (slice_get dump.frames) q ∙ n)
  not_there (rows.Callee i) j e n = let q : i ≡ j = omega (arith, e) in nothing i (CalleeFits m dump.frames i) (ap (slice_get dump.frames) q ∙ n)

  beyond : (fs : List Frame) (j : ℕ) → length fs ≤ j → slice_get fs j ≡ None
  beyond [] j h = refl
  beyond (f ∷ fs) zero h = absurd (omega (arith, h))
  beyond (f ∷ fs) (suc j) h = beyond fs j (omega (arith, h))

  -- so does one behind the last
  pub past_frames : (row : Mismatch) (j : ℕ) → group row ≡ suc j → length dump.frames ≤ j → Passes m dump row
  past_frames row j e h = not_there row j e (beyond dump.frames j h)
