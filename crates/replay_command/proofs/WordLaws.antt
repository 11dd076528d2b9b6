-- A text of three words or more.
use Rattle.std.proofs.Common.{◌≡◌, ℕ, List, ◌∷◌, eqb, ap, ◌∙◌}
use Rattle.std.specs.List.{slice_split}
use Rattle.debugger.proofs.WordLaws.{split_some}
use Rattle.replay_command.specs.declared.moves.Move.TheVariants.{Look}
use Rattle.replay_command.specs.Moves.{move_of}

pub three_words : (w x text rest : List ℕ) → slice_split (λ b. eqb b 32) text ≡ x ∷ slice_split (λ b. eqb b 32) rest → move_of (w ∷ slice_split (λ b. eqb b 32) text) ≡ Look
three_words w x text rest e =
    let s = split_some (λ b. eqb b 32) rest in
    ap (λ words. move_of (w ∷ words)) (e ∙ ap (λ words. x ∷ words) s.2)
