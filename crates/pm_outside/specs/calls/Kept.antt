-- What a call leaves of files. Both are over what files tell: their contents, the names created, the count of faults.
use Rattle.std.specs.Prelude.{◌≡◌, ◌≤◌, ℕ, List, Option, is_some}
use Rattle.pm_outside.specs.Contents.{Contents}

-- No file is changed, no name is created, and the count of faults does not fall.
pub record FilesKept {F : Type 0} (told : F → Option Contents) (created : F → List (List ℕ)) (faults : F → ℕ) (old new : F) : Type 0 where
  pub same : told new ≡ told old
  pub names : created new ≡ created old
  pub later : faults old ≤ faults new

-- Files that tell what they hold go on telling, and the count of faults does not fall.
pub record FilesGoOn {F : Type 0} (told : F → Option Contents) (faults : F → ℕ) (old new : F) : Type 0 where
  pub telling : is_some (told new) ≡ is_some (told old)
  pub later : faults old ≤ faults new
