-- A file that is made and filled.
use Rattle.std.proofs.Common.{◌≡◌, ℕ, List, [], sym}
use Rattle.std.proofs.lemmas.List.{append-nil}
use Rattle.pm_outside.specs.Contents.{Contents}
use Rattle.pm_outside.specs.calls.Answers.{Appends}
use Rattle.pm_outside.specs.declared.answers.WriteAnswer.{WriteAnswer}
use Rattle.pm_outside.specs.declared.answers.WriteAnswer.TheVariants as write
use Rattle.pm_outside.specs.Written.{HasFile, Leaves}
use Rattle.pm_outside.proofs.Leavings.{file_more, piece_refused}

failed_not_done : write.Failed ≡ write.Done → ⊥
failed_not_done e = absurd cc

want_not_done : write.NoMemory ≡ write.Done → ⊥
want_not_done e = absurd cc

-- the bytes were added to a new file
pub filled : (answer : WriteAnswer) (name bytes : List ℕ) (o m n : Contents) → HasFile name [] o m → Appends name bytes answer m n → Leaves name bytes answer o n
filled write.Done name bytes o m n file one = file_more name [] bytes o m n file one
filled write.Failed name bytes o m n file one = piece_refused write.Failed name [] bytes [] bytes o m n failed_not_done (sym (append-nil bytes)) file one
filled write.NoMemory name bytes o m n file one = piece_refused write.NoMemory name [] bytes [] bytes o m n want_not_done (sym (append-nil bytes)) file one
