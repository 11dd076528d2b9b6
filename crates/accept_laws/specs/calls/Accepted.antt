-- When the bytes of a dump are accepted with a module, and the dumps of traps that are.
use Rattle.std.specs.Prelude.{◌≡◌, ℕ, ◌≤◌, List, [], ◌∷◌, length, Option, Some, Ok}
use Rattle.std.specs.Str.{IsUtf8}
use Rattle.wasm_syntax.specs.declared.quantity.Quantity.TheVariants.{DumpBytes}
use Rattle.wasm_syntax.specs.declared.module.ModuleParts.{ModuleParts as Module}
use Rattle.wasm_syntax.specs.Quantity.{greatest}
use Rattle.wasm_syntax.specs.Machine.{Config}
use Rattle.wasm_syntax.specs.Run.{Outcome, not_started, finished, trapped, lacks_reply, misfits, running, got_stuck, Ran}
use Rattle.dump_format.specs.declared.dump.Dump.{Dump}
use Rattle.dump_format.specs.Decode.{dump_from}
use Rattle.dump_write.specs.Collected.{Whole, collected_dump}
use Rattle.dump_write.specs.Image.{image}
use Rattle.dump_write.specs.ImageBytes.{bytes_of}
use Rattle.dump_match.specs.Matching.{Matches}
use Rattle.rewrite_modules.specs.Simulates.{memory_of}

-- the bytes are decoded as a dump that can be one of the module
pub record IsAccepted (m : Module) (bytes : List ℕ) : Type 0 where
  pub dump : Dump
  pub decoded : dump_from bytes ≡ Ok dump
  pub matches : Matches m dump

-- where there are not too many for a dump
abbrev pub IsAcceptedIfFew : Module → List ℕ → Type 0
IsAcceptedIfFew m bytes = length bytes ≤ greatest DumpBytes → IsAccepted m bytes

-- ---- the dumps of traps

-- a trap leaves a configuration whose dump is accepted, under every name
abbrev pub TrapAccepted : Module → Outcome → Option Config → Type 0
TrapAccepted m (trapped kind) last = (c : Config) × (last ≡ Some c) × ((name : List ℕ) → IsUtf8 name → IsAcceptedIfFew m (bytes_of (image c name)))
TrapAccepted m (not_started cause) last = Unit {0}
TrapAccepted m (finished value) last = Unit {0}
TrapAccepted m (lacks_reply call) last = Unit {0}
TrapAccepted m (misfits call reply) last = Unit {0}
TrapAccepted m running last = Unit {0}
TrapAccepted m got_stuck last = Unit {0}

-- so does each trap of a list of invocations
abbrev pub TrapsAccepted : Module → List Ran → Type 0
TrapsAccepted m [] = Unit {0}
TrapsAccepted m (r ∷ rs) = TrapAccepted m r.outcome r.last × TrapsAccepted m rs

-- ---- the dumps that are handed over

-- an invocation hands over whole calls, and their dump, with the memory that it leaves, is accepted under every name
pub record HandsOver (m : Module) (other : Ran) : Type 0 where
  pub whole : Whole other.collected
  pub last : Config
  pub last_is : other.last ≡ Some last
  pub accepted : (name : List ℕ) → IsUtf8 name → length name ≤ 4096 → IsAcceptedIfFew m (bytes_of (collected_dump whole (memory_of last) name))

-- where another one trapped
abbrev pub HandsOverAt : Module → Outcome → Ran → Type 0
HandsOverAt m (trapped kind) other = HandsOver m other
HandsOverAt m (not_started cause) other = Unit {0}
HandsOverAt m (finished value) other = Unit {0}
HandsOverAt m (lacks_reply call) other = Unit {0}
HandsOverAt m (misfits call reply) other = Unit {0}
HandsOverAt m running other = Unit {0}
HandsOverAt m got_stuck other = Unit {0}

-- the others are as many, and each one hands over its dump where the one in its place trapped
abbrev pub AllHandOver : Module → List Ran → List Ran → Type 0
AllHandOver m [] [] = Unit {0}
AllHandOver m [] (other ∷ others) = ⊥
AllHandOver m (one ∷ ones) [] = ⊥
AllHandOver m (one ∷ ones) (other ∷ others) = HandsOverAt m one.outcome other × AllHandOver m ones others
