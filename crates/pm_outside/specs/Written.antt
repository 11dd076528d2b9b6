-- What writing a file leaves.
use Rattle.std.specs.Prelude.{◌≡◌, ℕ, ◌⊎◌, List, ◌++◌, Option, Some, IfSome, IsSomeAnd}
use Rattle.pm_outside.specs.Contents.{Contents, SameBut}
use Rattle.pm_outside.specs.declared.answers.WriteAnswer.{WriteAnswer}
use Rattle.pm_outside.specs.declared.answers.WriteAnswer.TheVariants as write

-- a fact on what files hold before and after a call, where they tell it
abbrev pub OnTold : (Contents → Contents → Type 0) → Option Contents → Option Contents → Type 0
OnTold R before after = IfSome before (λ old. IsSomeAnd after (λ new. R old new))

-- the file holds these bytes, and no other file is changed
abbrev pub HasFile : List ℕ → List ℕ → Contents → Contents → Type 0
HasFile name bytes old new = (new name ≡ Some bytes) × SameBut name old new

-- the file holds a front of these bytes, which may be empty
abbrev pub HoldsFront : List ℕ → List ℕ → Contents → Type 0
HoldsFront name bytes new = (front : List ℕ) × (rest : List ℕ) × (new name ≡ Some front) × (bytes ≡ front ++ rest)

-- the file is as before, or holds a front of these bytes, and no other file is changed
abbrev pub HasFront : List ℕ → List ℕ → Contents → Contents → Type 0
HasFront name bytes old new = ((new name ≡ old name) ⊎ HoldsFront name bytes new) × SameBut name old new

abbrev pub Leaves : List ℕ → List ℕ → WriteAnswer → Contents → Contents → Type 0
Leaves name bytes write.Done old new = HasFile name bytes old new
Leaves name bytes write.Failed old new = HasFront name bytes old new
Leaves name bytes write.NoMemory old new = HasFront name bytes old new
