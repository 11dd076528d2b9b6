-- What files hold where commands of the debugger print, and where a dump is refused.
use Rattle.std.specs.Prelude.{◌≡◌, ℕ, List, Some, Ok}
use Rattle.pm_outside.specs.Contents.{Contents}
use Rattle.wasm_syntax.specs.declared.module.ModuleParts.{ModuleParts as Module}
use Rattle.wasm_syntax.specs.Valid.{Valid}
use Rattle.wasm_decode.specs.Decode.{module_from}
use Rattle.dump_format.specs.declared.dump.Dump.{Dump}
use Rattle.dump_format.specs.Decode.{dump_from}
use Rattle.dump_match.specs.Matching.{Matches}
use Rattle.commands.specs.declared.status.Status.{Status}
use Rattle.commands.specs.declared.status.Status.TheVariants as status
use Rattle.debugger.specs.Subject.{subject_of}
use Rattle.debugger.specs.Session.{PrintsAll}
use Rattle.debug_command.specs.declared.words.DebugWords.{DebugWords}

-- The files hold a valid module and a dump, and this is so of the module's bytes, the module and the dump.
pub record HoldBoth (w : DebugWords) (held : Contents) (P : List ℕ → Module → Dump → Type 0) : Type 0 where
  pub bytes : List ℕ
  pub was_read : held w.source ≡ Some bytes
  pub taken : Module
  pub decoded : module_from bytes ≡ Ok taken
  pub valid : Valid taken
  pub dump_bytes : List ℕ
  pub dump_was_read : held w.dump ≡ Some dump_bytes
  pub dump : Dump
  pub dump_decoded : dump_from dump_bytes ≡ Ok dump
  pub holds : P bytes taken dump

-- the dump can be one of the module, and the commands print this on both
abbrev pub HoldSession : DebugWords → Contents → List ℕ → Type 0
HoldSession w held text =
    HoldBoth w held (λ bytes m dump. Matches m dump × PrintsAll (subject_of bytes (record { module_ = m; dump = dump })) 0 w.commands text)

-- the dump can't be one of the module
abbrev pub HoldMismatch : DebugWords → Contents → Type 0
HoldMismatch w held = HoldBoth w held (λ bytes m dump. Matches m dump → ⊥)

-- With status Done the text is that of the commands on a module and a dump that can be one of it; with Mismatch the dump can't.
abbrev pub IsDebugged : DebugWords → Contents → Status → List ℕ → Type 0
IsDebugged w held s text = (s ≡ status.Done → HoldSession w held text) × (s ≡ status.Mismatch → HoldMismatch w held)
