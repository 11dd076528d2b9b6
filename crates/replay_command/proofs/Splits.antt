-- The commands of a text at its first semicolon.
use Rattle.std.proofs.Common.{◌≡◌, ℕ, List, [], ◌∷◌, eqb, sym, ap₂, ◌∙◌, arith, Some, None, Bor}
use Rattle.std.specs.List.{slice_split}
use Rattle.std.proofs.lemmas.List.Splits.{slice_split_first}
use Rattle.std.proofs.lemmas.Str.Pattern.{IsSplitOnceResult, split_once_first}
use Rattle.replay_command.specs.ReplayText.{commands_in}
use Rattle.debugger.proofs.WordLaws.{none_split}

pub first_split : (text : List ℕ) (p : Bor (List ℕ) × Bor (List ℕ)) → IsSplitOnceResult 59 text (Some p) → commands_in text ≡ p.0.now ∷ commands_in p.1.now
first_split text p h =
    let s = split_once_first 59 text (Some p) h (omega arith) in
    slice_split_first (λ b. eqb b 59) text 0 s.0 ∙ ap₂ (λ word rest. word ∷ slice_split (λ b. eqb b 59) rest) (sym s.1) (sym s.2)

pub one_alone : (text : List ℕ) → IsSplitOnceResult 59 text None → commands_in text ≡ text ∷ []
one_alone text h = none_split (λ b. eqb b 59) text (split_once_first 59 text None h (omega arith))
