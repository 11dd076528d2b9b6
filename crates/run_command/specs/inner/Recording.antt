-- What recording a run comes to.
use Rattle.std.specs.Prelude.{◌≡◌, ℕ, ◌-◌, ◌⊎◌, Bool, true, false, List, map, take, length, Option, Some, Result, Ok, Err}
use Rattle.causes.specs.declared.NoMemory.{NoMemory as WantOfMemory}
use Rattle.pm_outside.specs.Contents.{Contents}
use Rattle.wasm_syntax.specs.declared.host.Reply.{Reply}
use Rattle.wasm_syntax.specs.declared.host.Served.{Served}
use Rattle.pm_outside.specs.Written.{OnTold}
use Rattle.commands.specs.Texts.{file_fault}
use Rattle.commands.specs.declared.outcome.Outcome.{Outcome}
use Rattle.commands.specs.declared.status.Status.TheVariants as status
use Rattle.pm_outside.specs.Held.{HoldThen, HoldPart}
use Rattle.run_command.specs.Recorded.{record_file, IsReadBack}

-- how many replies do not fit, of so many at most one
abbrev pub misfits_in : Bool → ℕ
misfits_in true = 1
misfits_in false = 0

-- the replies that fit: all, but for the last one where it does not
abbrev pub fitting : Bool → List (List ℕ × Served) → List Reply
fitting bad served = map (λ s. s.1.reply) (take (length served - misfits_in bad) served)

-- the record was written, and the answer stays; or its file failed, and is named
abbrev pub Behind : Option (List ℕ) → List Reply → (rose : Type 0) → Outcome → Result Outcome WantOfMemory → (old new : Option Contents) → Type 0
Behind to replies rose o (Ok q) old new =
    ((q ≡ o) × OnTold (HoldThen (record_file to replies)) old new × IsReadBack to replies)
    ⊎ ((file : List ℕ) × (to ≡ Some file) × (q ≡ file_fault file) × rose × OnTold (HoldPart (record_file to replies)) old new)
Behind to replies rose o (Err e) old new = OnTold (HoldPart (record_file to replies)) old new

-- Behind an answer that is no fault, the record is written.
abbrev pub Records : Option (List ℕ) → List Reply → (rose : Type 0) → Result Outcome WantOfMemory → Result Outcome WantOfMemory → (old new : Option Contents) → Type 0
Records to replies rose (Err e) result old new = (result ≡ Err e) × (new ≡ old)
Records to replies rose (Ok o) result old new =
    ((o.status ≡ status.FileFault) × (result ≡ Ok o) × (new ≡ old)) ⊎ ((o.status ≡ status.FileFault → ⊥) × Behind to replies rose o result old new)
