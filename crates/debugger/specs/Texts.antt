-- The texts of frames, and of the values that a dump records.
use Rattle.std.specs.Prelude.{ℕ, List, ◌++◌, length, slice_get, Option, Some, None, codes}
use Rattle.std.specs.Fmt.{decimal}
use Rattle.wasm_syntax.specs.declared.parts.FuncType.{FuncType}
use Rattle.wasm_syntax.specs.declared.parts.Body.{Body}
use Rattle.wasm_syntax.specs.declared.module.ModuleParts.{ModuleParts as Module}
use Rattle.wasm_syntax.specs.Module.{type_at}
use Rattle.wasm_syntax.specs.Sizes.{local_count}
use Rattle.wasm_syntax.specs.Valid.{body_of}
use Rattle.dump_format.specs.declared.dump.Frame.{Frame}
use Rattle.debugger.specs.Listings.{listing, recorded_or}
use Rattle.debugger.specs.Examined.{examined_text}
use Rattle.debug_frames.specs.Frames.{frame_text}
use Rattle.debug_frames.specs.Unreadable.{unreadable_text}
use Rattle.debugger.specs.Subject.{Subject}
use Rattle.commands.specs.Values.{numbered}

-- ---- frames

unfoldable pub no_frame : ℕ → List ℕ
no_frame n = codes "no frame " ++ decimal n ++ codes "\n"

-- the lines of each frame, behind those on what could not be read
unfoldable pub backtrace_text : Subject → List ℕ
backtrace_text s = unreadable_text s.information ++ numbered (frame_text s.information s.module_) 0 s.frames

abbrev pub frame_or_none : Subject → ℕ → Option Frame → List ℕ
frame_or_none s n None = no_frame n
frame_or_none s n (Some f) = frame_text s.information s.module_ n f

-- the lines of the frame of a number
unfoldable pub frame_text_at : Subject → ℕ → List ℕ
frame_text_at s n = frame_or_none s n (slice_get s.frames n)

-- ---- recorded values; a list that is not recorded is one of so many missing values

abbrev pub count_of : Option FuncType → Option Body → ℕ
count_of type (Some body) = local_count type body
count_of type None = 0

-- how many locals the function of a frame has
abbrev pub frame_locals : Module → Frame → ℕ
frame_locals m f = count_of (type_at m f.function) (body_of m f.function)

unfoldable pub locals_text : Subject → Frame → List ℕ
locals_text s f = listing (codes "local") (recorded_or (frame_locals s.module_ f) f.locals)

-- where so many are shown
unfoldable pub operands_text : ℕ → Frame → List ℕ
operands_text n f = listing (codes "operand") (recorded_or n f.operands)

unfoldable pub globals_text : Subject → List ℕ
globals_text s = listing (codes "global") (recorded_or (length s.module_.globals) s.globals)

-- ---- memory

unfoldable pub memory_text : Subject → ℕ → ℕ → List ℕ
memory_text s at n = examined_text s.memory at n
