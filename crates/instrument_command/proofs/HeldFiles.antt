-- What files hold behind one that was written.
use Rattle.std.proofs.Common.{◌≡◌, List, ℕ, [], refl, sym, subst, inr, Option}
use Rattle.std.proofs.lemmas.List.{append-nil}
use Rattle.pm_outside.specs.Contents.{Contents, SameBut}
use Rattle.pm_outside.specs.declared.answers.WriteAnswer.{WriteAnswer}
use Rattle.pm_outside.specs.declared.answers.WriteAnswer.TheVariants as write
use Rattle.pm_outside.specs.Written.{OnTold, HasFront, Leaves}
use Rattle.pm_outside.proofs.Leavings.{same_told, none_told}

-- whatever writing the file answered, it holds a front
pub front_left : (file bytes : List ℕ) (answer : WriteAnswer) (before after : Option Contents) → OnTold (Leaves file bytes answer) before after → OnTold (HasFront file bytes) before after
front_left file bytes answer before after x = same_told (Leaves file bytes answer) (HasFront file bytes) before after (λ o n. of answer o n) x
  where
    of : (a : WriteAnswer) (o n : Contents) → Leaves file bytes a o n → HasFront file bytes o n
    of write.Done o n (has, others) = (inr (bytes, [], has, sym (append-nil bytes)), others)
    of write.Failed o n k = k
    of write.NoMemory o n k = k

pub all_kept : (name : List ℕ) (old new : Option Contents) → new ≡ old → OnTold (SameBut name) old new
all_kept name old new same = subst (λ t. OnTold (SameBut name) old t) (sym same) (none_told (SameBut name) old (λ o other ne. refl))
