-- What a reading function answers, against what reading gives.
use Rattle.std.specs.Prelude.{ℕ, ◌≡◌, Result, Ok, Err}
use Rattle.std.proofs.Common.{Bor}
use Rattle.wasm_bytes.specs.declared.faults.Malformed.{Malformed}
use Rattle.wasm_bytes.specs.declared.faults.ItemFault.{ItemFault}
use Rattle.wasm_bytes.specs.declared.faults.ItemFault.TheVariants as faults
use Rattle.wasm_bytes.specs.Place.{Place, Read}

-- A function that takes no memory returned, and left behind it, what reading gives.
abbrev pub Reads : {A : Type 0} → Result A Malformed → Place → Read A → Type 0
Reads (Ok x) after read = read ≡ Ok (x, after)
Reads (Err e) after read = read ≡ Err e.at

-- what the reference in a result points to
abbrev pub result_now : {A : Type 0} → Result (Bor A) Malformed → Result A Malformed
result_now (Ok x) = Ok x.now
result_now (Err e) = Err e

-- a result whose error is an offset
abbrev pub place_of_error : {A : Type 0} → Result A Malformed → Result A ℕ
place_of_error (Ok x) = Ok x
place_of_error (Err e) = Err e.at

-- Reading fails so, unless memory ran out.
abbrev pub Fails : {A : Type 0} → ItemFault → Read A → Type 0
Fails faults.NoMemory read = Unit {0}
Fails (faults.At at) read = read ≡ Err at

-- A function returned, and left behind it, what reading gives, unless memory ran out.
abbrev pub Gives : {A : Type 0} → Result A ItemFault → Place → Read A → Type 0
Gives (Ok x) after read = read ≡ Ok (x, after)
Gives (Err e) after read = Fails e read

-- a result, and the state that was left
abbrev pub with_state : {S X : Type 0} → S → Result X ItemFault → Result S ItemFault
with_state s (Ok x) = Ok s
with_state s (Err e) = Err e

-- A function gave what reading all of an input gives, unless memory ran out.
abbrev pub GivesWhole : {A : Type 0} → Result A ItemFault → Result A ℕ → Type 0
GivesWhole (Ok x) read = read ≡ Ok x
GivesWhole (Err faults.NoMemory) read = Unit {0}
GivesWhole (Err (faults.At at)) read = read ≡ Err at
