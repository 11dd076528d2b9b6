-- The globals and the memory that a dump records: those that its instance lists (tool-conventions Coredump.md).
use Rattle.std.specs.Prelude.{ℕ, List, [], ◌∷◌, filter_map, slice_get, Option, None, option_map}
use Rattle.wasm_syntax.specs.declared.value.Value.{Value}
use Rattle.wasm_syntax.specs.declared.value.Seen.{Seen}
use Rattle.wasm_syntax.specs.Numbers.{seen_of}
use Rattle.linear_memory.specs.Memory.{Memory, zeroed}
use Rattle.dump_format.specs.declared.dump.Dump.{Dump}
use Rattle.dump_format.specs.declared.dump.Instance.{Instance}
use Rattle.dump_format.specs.Region.{Region}
use Rattle.dump_write.specs.Pages.{laid_on}

-- what an index of the dump's list of globals names
abbrev pub listed : List Value → ℕ → Option Seen
listed globals i = option_map seen_of (slice_get globals i)

abbrev pub globals_in : List Value → List Instance → List Seen
globals_in globals [] = []
globals_in globals (one ∷ more) = filter_map (listed globals) one.globals

-- the recorded globals, in the order of the instance's list
unfoldable pub recorded_globals : Dump → List Seen
recorded_globals d = globals_in d.globals d.instances

-- a memory with segments over what was there before, one after the other
abbrev pub laid_over : Memory → List Region → Memory
laid_over m segments = record { bytes = laid_on m.bytes segments; max = m.max }

-- a memory of so many pages of zeros, which can't grow, with segments over it
abbrev pub laid_memory : ℕ → List Region → Memory
laid_memory pages segments = laid_over (zeroed pages pages) segments

abbrev pub memory_in : Dump → List ℕ → Option Memory
memory_in d [] = None
memory_in d (i ∷ more) = option_map (λ pages. laid_memory pages d.segments) d.memory

abbrev pub memory_among : Dump → List Instance → Option Memory
memory_among d [] = None
memory_among d (one ∷ more) = memory_in d one.memories

-- the recorded memory, where the instance lists one
unfoldable pub recorded_memory : Dump → Option Memory
recorded_memory d = memory_among d d.instances
