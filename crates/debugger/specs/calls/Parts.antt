-- What commands print, of the parts of what a session looks at.
use Rattle.std.specs.Prelude.{ℕ, List, Option, Some}
use Rattle.linear_memory.specs.Memory.{Memory}
use Rattle.wasm_syntax.specs.declared.value.Seen.{Seen}
use Rattle.wasm_syntax.specs.declared.module.ModuleParts.{ModuleParts as Module}
use Rattle.dump_format.specs.declared.dump.Frame.{Frame}
use Rattle.dwarf_expr.specs.View.{View}
use Rattle.var_eval.specs.Frames.{Frame as Looks, frame_of}
use Rattle.debug_frames.specs.Information.{SourceInformation}
use Rattle.debug_frames.specs.Frames.{address_of}
use Rattle.debugger.specs.declared.asked.Asked.{Asked}
use Rattle.debugger.specs.declared.asked.Asked.TheVariants as asked
use Rattle.debugger.specs.Subject.{Subject}
use Rattle.debugger.specs.Texts.{backtrace_text, frame_text_at}
use Rattle.debugger.specs.Session.{chosen_variables, chosen_path}

-- what expressions see of a frame
abbrev pub view_in : Frame → List Seen → Option Memory → View
view_in f globals memory = record { locals = f.locals; operands = f.operands; globals = globals; memory = memory }

-- a frame as its variables see it
abbrev pub looks_in : SourceInformation → Module → Frame → View → Option ℕ → Looks
looks_in x m f view left = frame_of x.sections x.units (address_of m f) view left

-- what is printed by what the bytes of the module say
abbrev pub informed_text : Subject → (i n : ℕ) → Asked → List ℕ
informed_text s i n asked.Backtrace = backtrace_text s
informed_text s i n (asked.Frame k) = frame_text_at s k
informed_text s i n asked.Variables = chosen_variables s i n
informed_text s i n (asked.Value x) = chosen_path s i n x.word (Some x.path)
