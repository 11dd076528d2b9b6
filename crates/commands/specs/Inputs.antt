-- Files that a command reads whole.
use Rattle.std.specs.Prelude.{◌≡◌, ℕ, ◌+◌, List, length, nat_lt, Option, Some, None, Result, Ok, Err, if◌then◌else◌}
use Rattle.wasm_syntax.specs.declared.quantity.Quantity.{Quantity}
use Rattle.wasm_syntax.specs.Quantity.{greatest}
use Rattle.commands.specs.declared.outcome.Outcome.{Outcome}
use Rattle.commands.specs.Texts.{no_file, over_limit}

-- The bytes of a file with this name and this content, or the refusal. A file that passes the limit of bytes is not read past one byte more.
abbrev pub input_of : Quantity → List ℕ → Option (List ℕ) → Result (List ℕ) Outcome
input_of what file None = Err (no_file file)
input_of what file (Some bytes) = if nat_lt (greatest what) (length bytes) then Err (over_limit what (greatest what + 1)) else Ok bytes

-- a refusal is the answer, or what comes behind says what is
abbrev pub Then : {A : Type 0} → Result A Outcome → (A → Outcome → Type 0) → Outcome → Type 0
Then (Ok x) Answers o = Answers x o
Then (Err refusal) Answers o = o ≡ refusal
