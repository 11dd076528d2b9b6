-- The tests of a state, by those of a dump.
use Rattle.std.proofs.Common.{◌≡◌, ℕ, zero, suc, ◌+◌, ◌<◌, ◌≤◌, length, inl, inr, ⊎_elim, Option, Some, None, slice_get, refl, sym, subst, ◌∙◌, arith}
use Rattle.std.specs.Prelude.{◌⊎◌, IfSome, Result, Ok, Err}
use Rattle.std.proofs.lemmas.Option.{same_Some}
use Rattle.wasm_syntax.specs.declared.module.ModuleParts.{ModuleParts as Module}
use Rattle.wasm_syntax.specs.Valid.{There}
use Rattle.dump_format.specs.declared.dump.Dump.{Dump}
use Rattle.dump_format.specs.declared.dump.Frame.{Frame}
use Rattle.dump_match.specs.declared.mismatch.Mismatch.{Mismatch}
use Rattle.dump_match.specs.declared.mismatch.Mismatch.TheVariants as rows
use Rattle.dump_match.specs.Frames.{FunctionFits, OffsetFits, LocalsFit, OperandsFit, CallFits, CalleeFits}
use Rattle.dump_match.specs.Matching.{Passes, group, place}
use Rattle.dump_match.specs.States.{AtClose, PassesInState, MatchesState, FirstInState}
use Rattle.dump_match.specs.inner.Decides.{WholeJudged, FrameJudged, StateFrameJudged, StateFramesJudged}
use Rattle.dump_match.proofs.Order.{past_frames}
use Rattle.dump_match.proofs.InTurn.{earlier_of_all, all_of_them}

if_some : (o : Option Frame) (P Q : Frame → Type 0) → ((f : Frame) → o ≡ Some f → P f → Q f) → IfSome o P → IfSome o Q
if_some None P Q h t = tt
if_some (Some f) P Q h t = h f refl t

module _ (m : Module) (dump : Dump) where
  -- what a dump passes, it passes as a state
  pub eases : (row : Mismatch) → Passes m dump row → PassesInState m dump row
  eases rows.Instance p = p
  eases rows.Memory p = p
  eases (rows.Global i) p = p
  eases (rows.Function i) p = p
  eases (rows.Offset zero) p = if_some (slice_get dump.frames 0) (OffsetFits m) (λ f. OffsetFits m f ⊎ AtClose m f) (λ f e h. inl h) p
  eases (rows.Offset (suc i)) p = p
  eases (rows.Locals i) p = p
  eases (rows.Operands zero) p = if_some (slice_get dump.frames 0) (OperandsFit m 0) (λ f. OperandsFit m 0 f ⊎ AtClose m f) (λ f e h. inl h) p
  eases (rows.Operands (suc i)) p = p
  eases (rows.NotACall i) p = p
  eases (rows.Callee i) p = p

  -- and back, where the innermost frame stands at no `else` or `end`
  pub back : ((f : Frame) → slice_get dump.frames 0 ≡ Some f → AtClose m f → ⊥) → (row : Mismatch) → PassesInState m dump row → Passes m dump row
  back n rows.Instance p = p
  back n rows.Memory p = p
  back n (rows.Global i) p = p
  back n (rows.Function i) p = p
  back n (rows.Offset zero) p = if_some (slice_get dump.frames 0) (λ f. OffsetFits m f ⊎ AtClose m f) (OffsetFits m) (λ f e h. ⊎_elim (λ a. a) (λ b. absurd (n f e b)) h) p
  back n (rows.Offset (suc i)) p = p
  back n (rows.Locals i) p = p
  back n (rows.Operands zero) p = if_some (slice_get dump.frames 0) (λ f. OperandsFit m 0 f ⊎ AtClose m f) (OperandsFit m 0) (λ f e h. ⊎_elim (λ a. a) (λ b. absurd (n f e b)) h) p
  back n (rows.Operands (suc i)) p = p
  back n (rows.NotACall i) p = p
  back n (rows.Callee i) p = p

  -- or the row is none of the innermost frame
  pub elsewhere : (row : Mismatch) → (group row ≡ 1 → ⊥) → PassesInState m dump row → Passes m dump row
  elsewhere rows.Instance n p = p
  elsewhere rows.Memory n p = p
  elsewhere (rows.Global i) n p = p
  elsewhere (rows.Function i) n p = p
  elsewhere (rows.Offset zero) n p = absurd (n refl)
  elsewhere (rows.Offset (suc i)) n p = p
  elsewhere (rows.Locals i) n p = p
  elsewhere (rows.Operands zero) n p = absurd (n refl)
  elsewhere (rows.Operands (suc i)) n p = p
  elsewhere (rows.NotACall i) n p = p
  elsewhere (rows.Callee i) n p = p

  -- ---- a frame

  frame_by : (r : Result (Unit {0}) Mismatch) (i : ℕ) → ((row : Mismatch) → group row ≡ suc i → PassesInState m dump row → Passes m dump row) → FrameJudged r m dump i → StateFrameJudged r m dump i
  frame_by (Ok x) i b h = λ row e. eases row (h row e)
  frame_by (Err row) i b h = (h.0, λ p. h.1 (b row h.0 p), λ other e lt. eases other (h.2 other e lt))

  pub outer_frame : (r : Result (Unit {0}) Mismatch) (i : ℕ) → 0 < i → FrameJudged r m dump i → StateFrameJudged r m dump i
  outer_frame r i h = frame_by r i (λ row e p. elsewhere row (λ one. absurd (omega (arith, h, e, one))) p)

  pub inner_frame : (r : Result (Unit {0}) Mismatch) → ((f : Frame) → slice_get dump.frames 0 ≡ Some f → AtClose m f → ⊥) → FrameJudged r m dump 0 → StateFrameJudged r m dump 0
  inner_frame r n = frame_by r 0 (λ row e p. back n row p)

  pub inner_at : (r : Result (Unit {0}) Mismatch) (f : Frame) → slice_get dump.frames 0 ≡ Some f → (AtClose m f → ⊥) → FrameJudged r m dump 0 → StateFrameJudged r m dump 0
  inner_at r f at open_ = inner_frame r (λ g e close. open_ (subst (AtClose m) (same_Some g f (sym e ∙ at)) close))

  -- ---- the innermost frame at an `else` or `end`

  module _ (f : Frame) (at : slice_get dump.frames 0 ≡ Some f) (close : AtClose m f) where
    there : (P : Frame → Type 0) → P f → There dump.frames 0 P
    there P h = subst (λ o. IfSome o P) (sym at) h

    fits : (P : Frame → Type 0) → There dump.frames 0 P → P f
    fits P h = subst (λ o. IfSome o P) at h

    function_fits : FunctionFits m f
    function_fits = (close.0, close.1, close.2, tt)

    first : (j : ℕ) → j + 1 ≡ 1 → 0 ≡ j
    first j e = omega (arith, e)

    pub closing : LocalsFit m f → (row : Mismatch) → group row ≡ 1 → PassesInState m dump row
    closing l rows.Instance e = absurd (omega (arith, e))
    closing l rows.Memory e = absurd (omega (arith, e))
    closing l (rows.Global j) e = absurd (omega (arith, e))
    closing l (rows.Function j) e = subst (λ k. There dump.frames k (FunctionFits m)) (first j e) (there (FunctionFits m) function_fits)
    closing l (rows.Offset zero) e = there (λ f. OffsetFits m f ⊎ AtClose m f) (inr close)
    closing l (rows.Offset (suc j)) e = absurd (omega (arith, e))
    closing l (rows.Locals j) e = subst (λ k. There dump.frames k (LocalsFit m)) (first j e) (there (LocalsFit m) l)
    closing l (rows.Operands zero) e = there (λ f. OperandsFit m 0 f ⊎ AtClose m f) (inr close)
    closing l (rows.Operands (suc j)) e = absurd (omega (arith, e))
    closing l (rows.NotACall j) e = subst (λ k. There dump.frames k (CallFits m k)) (first j e) (there (CallFits m 0) tt)
    closing l (rows.Callee j) e = subst (λ k. There dump.frames k (CalleeFits m dump.frames k)) (first j e) (there (CalleeFits m dump.frames 0) tt)

    before_locals : (other : Mismatch) → group other ≡ 1 → place other < 6 → PassesInState m dump other
    before_locals rows.Instance e lt = absurd (omega (arith, e))
    before_locals rows.Memory e lt = absurd (omega (arith, e))
    before_locals (rows.Global j) e lt = absurd (omega (arith, e))
    before_locals (rows.Function j) e lt = subst (λ k. There dump.frames k (FunctionFits m)) (first j e) (there (FunctionFits m) function_fits)
    before_locals (rows.Offset zero) e lt = there (λ f. OffsetFits m f ⊎ AtClose m f) (inr close)
    before_locals (rows.Offset (suc j)) e lt = absurd (omega (arith, e))
    before_locals (rows.Locals j) e lt = absurd (omega (arith, lt))
    before_locals (rows.Operands zero) e lt = absurd (omega (arith, lt))
    before_locals (rows.Operands (suc j)) e lt = absurd (omega (arith, lt))
    before_locals (rows.NotACall j) e lt = absurd (omega (arith, lt))
    before_locals (rows.Callee j) e lt = absurd (omega (arith, lt))

    pub no_locals : (LocalsFit m f → ⊥) → StateFrameJudged (Err (rows.Locals 0)) m dump 0
    no_locals n = (refl, λ p. n (fits (LocalsFit m) p), before_locals)

  -- ---- the whole

  pub behind_frames : (row : Mismatch) (j : ℕ) → group row ≡ suc j → length dump.frames ≤ j → PassesInState m dump row
  behind_frames row j e h = eases row (past_frames m dump row j e h)

  pub first_of_whole : (row : Mismatch) → WholeJudged (Err row) m dump → FirstInState m dump row
  first_of_whole row h = record {
    fails = λ p. h.1.fails (elsewhere row (λ one. absurd (omega (arith, one, h.0))) p);
    earlier = λ other b. eases other (h.1.earlier other b);
  }

  pub first_of_all : (row : Mismatch) → WholeJudged (Ok tt) m dump → StateFramesJudged (Err row) m dump → FirstInState m dump row
  first_of_all row whole h = record { fails = h.1; earlier = earlier_of_all (PassesInState m dump) row (λ other e. eases other (whole other e)) h }

  pub all_pass : WholeJudged (Ok tt) m dump → StateFramesJudged (Ok tt) m dump → MatchesState m dump
  all_pass whole frames = all_of_them (PassesInState m dump) (λ row e. eases row (whole row e)) frames
