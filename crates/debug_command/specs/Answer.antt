-- What `debug` answers.
use Rattle.std.specs.Prelude.{◌≡◌, ℕ, List, ◌++◌, ◌⊎◌, Result, Ok, Err, codes}
use Rattle.std.specs.Fmt.{decimal}
use Rattle.pm_outside.specs.Contents.{Contents}
use Rattle.wasm_syntax.specs.declared.quantity.Quantity.TheVariants.{ModuleBytes, DumpBytes}
use Rattle.wasm_syntax.specs.declared.module.ModuleParts.{ModuleParts as Module}
use Rattle.wasm_decode.specs.Decode.{module_from}
use Rattle.dump_format.specs.declared.dump.Dump.{Dump}
use Rattle.dump_format.specs.declared.fault.DumpFault.{DumpFault}
use Rattle.dump_format.specs.Decode.{dump_from}
use Rattle.dump_match.specs.declared.mismatch.Mismatch.{Mismatch}
use Rattle.dump_match.specs.declared.mismatch.Mismatch.TheVariants as rows
use Rattle.dump_match.specs.Matching.{Matches, FirstMismatch}
use Rattle.commands.specs.Inputs.{input_of, Then}
use Rattle.commands.specs.Loading.{IfLoaded}
use Rattle.commands.specs.Texts.{ended}
use Rattle.commands.specs.declared.outcome.Outcome.{Outcome}
use Rattle.commands.specs.declared.status.Status.TheVariants as status
use Rattle.commands.specs.Refused.{refused}
use Rattle.debugger.specs.Subject.{subject_of}
use Rattle.debugger.specs.Session.{PrintsAll}
use Rattle.debug_command.specs.declared.words.DebugWords.{DebugWords}

-- the number of a test, and what it is on
unfoldable pub row_text : Mismatch → List ℕ
row_text rows.Instance = codes "1"
row_text rows.Memory = codes "2"
row_text (rows.Global i) = codes "3 global " ++ decimal i
row_text (rows.Function i) = codes "4 frame " ++ decimal i
row_text (rows.Offset i) = codes "5 frame " ++ decimal i
row_text (rows.Locals i) = codes "6 frame " ++ decimal i
row_text (rows.Operands i) = codes "7 frame " ++ decimal i
row_text (rows.NotACall i) = codes "8 frame " ++ decimal i
row_text (rows.Callee i) = codes "9 frame " ++ decimal i

abbrev pub mismatched : Mismatch → Outcome
mismatched row = ended status.Mismatch (codes "mismatch " ++ row_text row ++ codes "\n")

-- the texts of the commands on a module, which these bytes spell, and a dump of it
pub record IsTold (commands : List (List ℕ)) (bytes : List ℕ) (m : Module) (dump : Dump) (o : Outcome) : Type 0 where
  pub done : o.status ≡ status.Done
  pub prints : PrintsAll (subject_of bytes (record { module_ = m; dump = dump })) 0 commands o.text

-- The first test that fails is told, or the dump can be one of the module.
abbrev pub DumpAnswer : List (List ℕ) → List ℕ → Module → Dump → Outcome → Type 0
DumpAnswer commands bytes m dump o =
    ((row : Mismatch) × FirstMismatch m dump row × (o ≡ mismatched row)) ⊎ (Matches m dump × IsTold commands bytes m dump o)

abbrev pub IfDump : (Dump → Outcome → Type 0) → Result Dump DumpFault → Outcome → Type 0
IfDump Answers (Ok dump) o = Answers dump o
IfDump Answers (Err fault) o = o ≡ refused fault

abbrev pub BytesAnswer : List (List ℕ) → (bytes dump_bytes : List ℕ) → Outcome → Type 0
BytesAnswer commands bytes dump_bytes o = IfLoaded (λ m. IfDump (DumpAnswer commands bytes m) (dump_from dump_bytes)) (module_from bytes) o

-- Both files are read, the module's first, before what they hold is judged.
abbrev pub DebugAnswer : DebugWords → (first later : Contents) → Outcome → Type 0
DebugAnswer w first later o =
    Then (input_of ModuleBytes w.source (first w.source)) (λ bytes.
    Then (input_of DumpBytes w.dump (later w.dump)) (λ dump_bytes. BytesAnswer w.commands bytes dump_bytes)) o

-- a file that the command reads
abbrev pub IsReadBy : DebugWords → List ℕ → Type 0
IsReadBy w file = (file ≡ w.source) ⊎ (file ≡ w.dump)
