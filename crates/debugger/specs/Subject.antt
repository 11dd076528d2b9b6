-- What a session looks at: what the bytes of a module say, the module, and what a dump that can show a state of it records.
use Rattle.std.specs.Prelude.{◌≡◌, ℕ, List, Option, Ok}
use Rattle.linear_memory.specs.Memory.{Memory}
use Rattle.wasm_syntax.specs.declared.value.Seen.{Seen}
use Rattle.wasm_syntax.specs.declared.module.ModuleParts.{ModuleParts as Module}
use Rattle.wasm_decode.specs.Decode.{module_from}
use Rattle.dump_format.specs.declared.dump.Dump.{Dump}
use Rattle.dump_format.specs.declared.dump.Frame.{Frame}
use Rattle.dump_match.specs.Judged.{Match}
use Rattle.debug_frames.specs.Information.{SourceInformation, information}
use Rattle.debugger.specs.Recorded.{recorded_globals, recorded_memory}

pub record Subject : Type 0 where
  pub information : SourceInformation
  pub module_ : Module
  pub frames : List Frame
  pub globals : List Seen
  pub memory : Option Memory

abbrev pub subject_on : SourceInformation → Module → Dump → Subject
subject_on known m d = record { information = known; module_ = m; frames = d.frames; globals = recorded_globals d; memory = recorded_memory d }

abbrev pub subject_of : List ℕ → Match → Subject
subject_of bytes x = subject_on (information bytes x.module_.customs) x.module_ x.dump

-- These bytes spell the module.
abbrev pub Spells : List ℕ → Module → Type 0
Spells bytes m = module_from bytes ≡ Ok m
