-- What is left where memory is wanting, or where a file fails.
use Rattle.std.specs.Prelude.{◌≡◌, ◌≢◌, ◌⊎◌, ℕ, List, Option}
use Rattle.pm_outside.specs.Contents.{Contents}
use Rattle.pm_outside.specs.Created.{with_name}
use Rattle.pm_outside.specs.Written.{OnTold, HasFile, HasFront}
use Rattle.run_session.specs.Stop.{Stop, no_memory}
use Rattle.instrument_command.specs.Stops.{IsFailed}
use Rattle.selftest_command.specs.SelftestAnswer.{module_file, rewritten_file, module_bytes, IsRewritten}

-- ---- what is written

-- a first file is written, and of a second one a front, which may be empty
abbrev pub HasThenFront : (file bytes other more : List ℕ) → (old new : Contents) → Type 0
HasThenFront file bytes other more old new = (between : Contents) × HasFile file bytes old between × HasFront other more between new

-- A front of the first file is written, which may be empty; or the first file, and a front of the second one. A file that failed is that of which
-- a front is written.
abbrev pub Left : Stop → (file bytes other more : List ℕ) → (old new : Option Contents) → Type 0
Left stop file bytes other more old new =
    (IsFailed stop file × OnTold (HasFront file bytes) old new) ⊎ (IsFailed stop other × OnTold (HasThenFront file bytes other more) old new)

-- no file but these two is changed
abbrev pub SameButBoth : (file other : List ℕ) → (old new : Contents) → Type 0
SameButBoth file other old new = (name : List ℕ) → name ≢ file → name ≢ other → new name ≡ old name

-- the first file was created or not, and then the second one was or not
abbrev pub CreatedBoth : (file other : List ℕ) → (old new : List (List ℕ)) → Type 0
CreatedBoth file other old new =
    (between : List (List ℕ)) × ((between ≡ old) ⊎ (between ≡ with_name old file)) × ((new ≡ between) ⊎ (new ≡ with_name between other))

-- ---- the command

-- No file has failed and nothing was written, or the files were written in part.
abbrev pub SelftestStops : Stop → ℕ → (old new : Option Contents) → Type 0
SelftestStops stop n old new =
    ((new ≡ old) × (stop ≡ no_memory))
    ⊎ ((rewritten : List ℕ) × IsRewritten n rewritten × Left stop module_file (module_bytes n) rewritten_file rewritten old new)
