-- How many bytes a load or a store moves.
use Rattle.std.specs.Prelude.{ℕ}
use Rattle.linear_memory.specs.declared.calls.Width.{Width}
use Rattle.linear_memory.specs.declared.calls.Width.TheVariants.{One, Two, Four, Eight}

abbrev pub width_bytes : Width → ℕ
width_bytes One = 1
width_bytes Two = 2
width_bytes Four = 4
width_bytes Eight = 8
