-- Dumps that `run` writes, with the module that it read.
use Rattle.std.specs.Prelude.{◌≡◌, ◌≤◌, ◌⊎◌, List, [], ◌++◌, ℕ, Some, Ok}
use Rattle.std.specs.List.{AllByRecursion}
use Rattle.std.specs.Str.{IsUtf8}
use Rattle.pm_outside.specs.Contents.{Contents}
use Rattle.wasm_syntax.specs.declared.module.ModuleParts.{ModuleParts as Module}
use Rattle.wasm_bytes.specs.Laws.{IsBytes}
use Rattle.wasm_decode.specs.Decode.{module_from}
use Rattle.run_words.specs.declared.words.RunWords.{RunWords}
use Rattle.wasm_syntax.specs.declared.host.Reply.{Reply}
use Rattle.pm_outside.specs.Held.{Writes}
use Rattle.run_command.specs.Recorded.{record_file}
use Rattle.accept_laws.specs.calls.Accepted.{IsAcceptedIfFew}

-- each of these files holds a dump that is accepted with the module, where its bytes are not too many for a dump
abbrev pub AllAccepted : Module → Writes → Type 0
AllAccepted m writes = AllByRecursion (λ w. IsAcceptedIfFew m w.1) writes

-- No file was written; or each, but for the record behind them, is accepted with the module that the file of the module holds.
abbrev pub DumpsAccepted : RunWords → Contents → Writes → Type 0
DumpsAccepted w files writes =
    (writes ≡ []) ⊎ ((bytes : List ℕ) × (m : Module) × (files w.source ≡ Some bytes) × (module_from bytes ≡ Ok m)
    × (dumps : Writes) × (replies : List Reply) × (writes ≡ dumps ++ record_file w.log_to replies) × AllAccepted m dumps)

-- No file was written; or each, but for the record behind them, is accepted with this module.
abbrev pub AcceptedWith : Module → RunWords → Writes → Type 0
AcceptedWith m w writes = (writes ≡ []) ⊎ ((dumps : Writes) × (replies : List Reply) × (writes ≡ dumps ++ record_file w.log_to replies) × AllAccepted m dumps)

-- What words of `run` always keep: the name that a dump has inside is a text, and no more than 10,000 frames may stand.
pub record InBounds (w : RunWords) : Type 0 where
  pub name : IsUtf8 w.name
  pub depth : w.depth ≤ 10000

-- files hold bytes
abbrev pub HoldBytes : Contents → Type 0
HoldBytes files = (name bytes : List ℕ) → files name ≡ Some bytes → IsBytes bytes
