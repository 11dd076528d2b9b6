-- The bound on the steps, by slots.
use Rattle.std.specs.Prelude.{ℕ, ◌+◌, ◌*◌, length}
use Rattle.wasm_syntax.specs.Module.{Program}
use Rattle.rewrite_bodies.specs.calls.Slots.{greatest}

abbrev pub slot_multiple : Program → ℕ
slot_multiple p = 200 + 8 * ((greatest p).0 + (greatest p).1 + length p.module_.globals)
