-- The lines of `run`, and the dumps that it writes.
use Rattle.std.specs.Prelude.{ℕ, zero, suc, ◌+◌, ◌==◌, List, [], ◌∷◌, ◌++◌, length, Option, Some, None, if◌then◌else◌, codes}
use Rattle.std.specs.Fmt.{decimal}
use Rattle.wasm_syntax.specs.declared.value.Value.{Value}
use Rattle.wasm_syntax.specs.Run.{Ran}
use Rattle.dump_write.specs.Image.{DumpFrame}
use Rattle.dump_write.specs.ImageBytes.{bytes_of}
use Rattle.commands.specs.Lines.{kind_line, result_text}
use Rattle.run_session.specs.Telling.{Telling, finish, trap, bare_trap, Tells, told, torn_in}

-- ---- the lines of one invocation

-- how many replies an invocation was given
unfoldable pub calls_text : ℕ → List ℕ
calls_text n = codes "host calls " ++ decimal n ++ codes "\n"

unfoldable pub finished_text : Option Value → ℕ → List ℕ
finished_text v n = codes "finished" ++ result_text v ++ codes "\n" ++ calls_text n

unfoldable pub place_line : ℕ → ℕ → List ℕ
place_line function offset = codes "at function " ++ decimal function ++ codes " offset " ++ decimal offset ++ codes "\n"

-- the place of a frame
abbrev pub place_text : Option DumpFrame → List ℕ
place_text None = []
place_text (Some f) = place_line f.function f.offset

unfoldable pub trapped_text : ℕ → Option DumpFrame → ℕ → List ℕ
trapped_text kind f n = kind_line kind ++ place_text f ++ calls_text n

unfoldable pub bare_text : ℕ → ℕ → List ℕ
bare_text kind n = kind_line kind ++ codes "no dump collected\n" ++ calls_text n

-- an invocation that ended otherwise has no lines
abbrev pub telling_text : Telling → ℕ → List ℕ
telling_text (finish v) n = finished_text v n
telling_text (trap kind place dump) n = trapped_text kind place n
telling_text (bare_trap kind) n = bare_text kind n
telling_text _ n = []

abbrev pub invocation_text : Tells → Ran → List ℕ
invocation_text tell r = telling_text (told tell r) (length r.served)

-- ---- the list

-- a list goes on behind an invocation whose calls are not torn
abbrev pub unless_torn : Option ℕ → List Ran → List Ran
unless_torn None rans = rans
unless_torn (Some at) rans = []

-- the invocations up to the first one whose calls are torn, and with it
abbrev pub up_to_torn : Tells → List Ran → List Ran
up_to_torn tell [] = []
up_to_torn tell (r ∷ rs) = r ∷ unless_torn (torn_in (told tell r)) (up_to_torn tell rs)

-- ---- the dumps

-- of the trap with this number, counted from 0
abbrev pub dump_name : List ℕ → ℕ → List ℕ
dump_name base zero = base
dump_name base (suc j) = base ++ codes "." ++ decimal (suc j)

-- The dump of an invocation, before those of the later ones. A trap whose dump was not handed over is numbered like every other.
abbrev pub with_dump : (base name : List ℕ) → ℕ → Telling → (later : ℕ → List (List ℕ × List ℕ)) → List (List ℕ × List ℕ)
with_dump base name j (trap kind place dump) later = (dump_name base j, bytes_of (dump name)) ∷ later (suc j)
with_dump base name j (bare_trap kind) later = later (suc j)
with_dump base name j _ later = later j

-- the file names and the bytes of the dumps, the first one for the trap of this number
unfoldable pub dumps_from : Tells → (base name : List ℕ) → ℕ → List Ran → List (List ℕ × List ℕ)
dumps_from tell base name j [] = []
dumps_from tell base name j (r ∷ rs) = with_dump base name j (told tell r) (λ k. dumps_from tell base name k rs)

abbrev pub with_trap : Telling → ℕ → ℕ
with_trap (trap kind place dump) n = suc n
with_trap (bare_trap kind) n = suc n
with_trap _ n = n

abbrev pub traps_in : Tells → List Ran → ℕ
traps_in tell [] = 0
traps_in tell (r ∷ rs) = with_trap (told tell r) (traps_in tell rs)

-- ---- how the list ended

abbrev pub last_of : List Ran → Option Ran
last_of [] = None
last_of (r ∷ []) = Some r
last_of (r ∷ q ∷ rs) = last_of (q ∷ rs)

-- how many replies fitted, over the list
abbrev pub fitted : List Ran → ℕ
fitted [] = 0
fitted (r ∷ rs) = length r.served + fitted rs

unfoldable pub torn_text : ℕ → List ℕ
torn_text at = codes "torn calls at " ++ decimal at ++ codes "\n"

abbrev pub not_invoked_text : ℕ → List ℕ
not_invoked_text zero = []
not_invoked_text (suc n) = codes "not invoked " ++ decimal (suc n) ++ codes "\n"
