-- The writes of a reply (Core 4.4.7, host functions).
use Rattle.std.specs.Prelude.{◌≡◌, ◌+◌, ℕ, Bool, true, ◌&&◌, nat_le, List, [], ◌∷◌, length, Some, None, option_map}
use Rattle.wasm_syntax.specs.declared.host.Write.{Write}
use Rattle.wasm_syntax.specs.Host.{World, after_writes}
use Rattle.linear_memory.specs.calls.Paged.{Paged}
use Rattle.machine_basics.specs.declared.shared.Shared.{Shared}
use Rattle.machine_hosted.specs.declared.reply.Replied.{Replied}
use Rattle.machine_hosted.specs.declared.reply.Replied.TheVariants.{Done, Misfit, NoMemory}

-- each write lies inside a memory of so many bytes
abbrev pub all_inside : ℕ → List Write → Bool
all_inside size [] = true
all_inside size (w ∷ ws) = nat_le (w.at + length w.bytes) size && all_inside size ws

-- a memory after writes, or as it was where one does not fit
abbrev pub WroteTo : Replied → (old new : Paged) → List Write → Type 0
WroteTo Done old new ws = after_writes (Some old.memory) ws ≡ Some (Some new.memory)
WroteTo Misfit old new ws = (after_writes (Some old.memory) ws ≡ None) × (new ≡ old)
WroteTo NoMemory old new ws = Unit {0}

-- what frames share after writes, or as it was where one does not fit
abbrev pub Wrote : Replied → World → (old new : Shared) → List Write → Type 0
Wrote Done w old new ws = (after_writes w.memory ws ≡ Some (option_map (λ m. m.memory) new.memory)) × (new.globals ≡ old.globals)
Wrote Misfit w old new ws = (after_writes w.memory ws ≡ None) × (new ≡ old)
Wrote NoMemory w old new ws = Unit {0}
