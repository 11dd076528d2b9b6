-- What reading a file whole gives.
use Rattle.std.specs.Prelude.{◌≡◌, ℕ, ◌+◌, List, Result, Ok}
use Rattle.std.specs.declared.vec.Vec.{Vec}
use Rattle.std.specs.Global.{Global}
use Rattle.pm_outside.specs.declared.whole.FileError.{FileError}
use Rattle.pm_outside.specs.declared.whole.FileError.TheVariants.{Missing, TooLong, Failed, NoMemory}
use Rattle.wasm_syntax.specs.declared.quantity.Quantity.{Quantity}
use Rattle.wasm_syntax.specs.Quantity.{greatest}
use Rattle.commands.specs.declared.given.Given.{Given}
use Rattle.commands.specs.declared.outcome.Outcome.{Outcome}
use Rattle.commands.specs.Texts.{no_file, over_limit, file_fault}
use Rattle.commands.specs.calls.Given.{IsGiven}

-- this is the input, but for a fault
abbrev pub IsInput : Given (Vec ℕ Global) → Result (List ℕ) Outcome → Type 0
IsInput given input = IsGiven (λ bytes input. input ≡ Ok bytes.items) given input

-- the answer where a file is not read
abbrev pub IsUnread : Quantity → List ℕ → FileError → Outcome → Type 0
IsUnread what file Missing o = o ≡ no_file file
IsUnread what file TooLong o = o ≡ over_limit what (greatest what + 1)
IsUnread what file Failed o = o ≡ file_fault file
IsUnread what file NoMemory o = ⊥
