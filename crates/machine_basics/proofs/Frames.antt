-- Locals below the operands of a frame.
use Rattle.std.proofs.Common.{◌≡◌, ℕ, ◌+◌, List, [], ◌∷◌, ◌++◌, length, reverse, refl, sym, ap, ◌∙◌, arith, append_assoc}
use Rattle.std.proofs.lemmas.List.{length-reverse, reverse-append, reverse-reverse, set-append_left, set-append_right}
use Rattle.std.specs.Prelude.{Bool, true, false, Option, Some, None, slice_get, slice_set}
use Rattle.wasm_syntax.specs.declared.value.Value.{Value}
use Rattle.wasm_syntax.specs.declared.instruction.Basic.TheVariants.{LocalSet, LocalTee}
use Rattle.wasm_syntax.specs.Numbers.{same_type, type_of}
use Rattle.wasm_syntax.specs.Effect.{gives, when, over}
use Rattle.wasm_syntax.specs.Host.{World}
use Rattle.machine_basics.specs.declared.answer.Performed.TheVariants.{Done}
use Rattle.machine_basics.specs.calls.Performs.{above, on_operands, laid_out}
use Rattle.machine_basics.specs.inner.Parts.{Moves}
use Rattle.std.proofs.lemmas.Option.{slice_get_within}

turned : {A : Type 0} (operands locals below : List A) → reverse (operands ++ (reverse locals ++ below)) ≡ reverse below ++ (locals ++ reverse operands)
turned operands locals below =
    rw (reverse-append operands (reverse locals ++ below), reverse-append (reverse locals) below, reverse-reverse locals) (append_assoc (reverse below) locals (reverse operands))

-- a local that is written
set_local : {A : Type 0} (operands locals below : List A) (n : ℕ) (v old : A) → slice_get locals n ≡ Some old →
    reverse (slice_set (reverse (operands ++ (reverse locals ++ below))) (length below + n) v) ≡ operands ++ (reverse (slice_set locals n v) ++ below)
set_local operands locals below n v old e =
    let front : slice_set (reverse below ++ (locals ++ reverse operands)) (length below + n) v ≡ reverse below ++ (slice_set locals n v ++ reverse operands) =
    set-append_right (reverse below) (locals ++ reverse operands) (length below) (length below + n) v (length-reverse below) (omega arith)
    ∙ ap (λ k. reverse below ++ slice_set (locals ++ reverse operands) k v) (omega arith)
    ∙ ap (λ l. reverse below ++ l) (set-append_left locals (reverse operands) n v (slice_get_within locals n old e)) in
    rw (turned operands locals below, front, reverse-append (reverse below) (slice_set locals n v ++ reverse operands), reverse-append (slice_set locals n v) (reverse operands), reverse-reverse operands, reverse-reverse below)
    (append_assoc operands (reverse (slice_set locals n v)) below)

module _ (w : World) (locals below : List Value) (n : ℕ) where
  written : (operands : List Value) (base : ℕ) (v o : Value) → base ≡ length below → v ≡ o → (rest results : List Value) (at : Option Value) → slice_get locals n ≡ at →
      operands ≡ results ++ rest → (new : List Value) → new ≡ reverse (slice_set (reverse (laid_out operands locals below)) (base + n) v) →
      Moves (above rest (over at o (gives w (slice_set locals n o) results))) Done w below new
  written operands base v o b q rest results None g e new p = tt
  written operands base v o b q rest results (Some old) g e new p = by_type (same_type (type_of old) (type_of o))
    where
      by_type : (t : Bool) → Moves (above rest (when t (gives w (slice_set locals n o) results))) Done w below new
      by_type false = tt
      by_type true = (
        refl,
        p ∙ ap (λ k. reverse (slice_set (reverse (laid_out operands locals below)) (k + n) v)) b
            ∙ ap (λ x. reverse (slice_set (reverse (laid_out operands locals below)) (length below + n) x)) q
            ∙ set_local operands locals below n o old g
            ∙ ap (λ l. laid_out l (slice_set locals n o) below) e,
      )

  pub set_moves : (operands old popped new : List Value) (base : ℕ) (v : Value) → old ≡ laid_out operands locals below → base ≡ length below → old ≡ v ∷ popped →
      new ≡ reverse (slice_set (reverse popped) (base + n) v) → Moves (on_operands (LocalSet n) w locals operands) Done w below new
  set_moves [] old popped new base v e b q p = tt
  set_moves (o ∷ rest) old popped new base v e b q p =
      let both : v ∷ popped ≡ o ∷ laid_out rest locals below = sym q ∙ e in
      let top : v ≡ o = cc in
      let under : popped ≡ laid_out rest locals below = cc in
      written rest base v o b top rest [] (slice_get locals n) refl refl new (p ∙ ap (λ l. reverse (slice_set (reverse l) (base + n) v)) under)

  pub tee_moves : (operands old new : List Value) (base : ℕ) (v : Value) → old ≡ laid_out operands locals below → base ≡ length below → Some v ≡ slice_get old 0 →
      new ≡ reverse (slice_set (reverse old) (base + n) v) → Moves (on_operands (LocalTee n) w locals operands) Done w below new
  tee_moves [] old new base v e b q p = tt
  tee_moves (o ∷ rest) old new base v e b q p =
      let both : Some v ≡ Some o = q ∙ ap (λ l. slice_get l 0) e in
      let top : v ≡ o = cc in
      written (o ∷ rest) base v o b top rest (o ∷ []) (slice_get locals n) refl refl new (p ∙ ap (λ l. reverse (slice_set (reverse l) (base + n) v)) e)
