-- What of a module its rewriting keeps for those outside.
use Rattle.std.specs.Prelude.{◌≡◌, ℕ, ◌+◌, ◌*◌, List, [], ◌∷◌, ◌++◌, map, option_map, length, take, slice_get, if◌then◌else◌, Some, false, codes}
use Rattle.wasm_syntax.specs.declared.value.ValType.TheVariants.{I32, I64}
use Rattle.wasm_syntax.specs.declared.parts.Export.{Export}
use Rattle.wasm_syntax.specs.declared.parts.ExportKind.{ExportKind}
use Rattle.wasm_syntax.specs.declared.parts.Limits.{Limits}
use Rattle.wasm_syntax.specs.declared.module.ModuleParts.{ModuleParts as Module}
use Rattle.wasm_syntax.specs.Module.{is_function}
use Rattle.wasm_syntax.specs.Run.{start_table}
use Rattle.rewrite_bodies.specs.Numbering.{doubles, new_entries, value_type, frame_type}
use Rattle.rewrite_modules.specs.Collector.{collector_import, memory_export}

-- twice as long
abbrev pub doubled : Limits → Limits
doubled l = record { min = 2 * l.min; max = option_map (λ n. 2 * n) l.max }

abbrev pub new_tables : Module → List Limits
new_tables m = if doubles m then map doubled m.tables else m.tables

-- The table with its limits, and its entries where an instance starts; or where a host sees it and it is doubled, twice these limits, with a
-- wrapper in front for each entry, and the entries of the module behind.
pub record KeepsTable (m new : Module) : Type 0 where
  pub tables : new.tables ≡ new_tables m
  pub entries : start_table new ≡ new_entries m (start_table m)

abbrev pub named : Export → List ℕ × ExportKind
named e = (e.name, e.kind)

pub record KeepsInterface (m new : Module) : Type 0 where
  -- the imports in order, and then the three of the collector, with their types
  pub imports : new.imports ≡ m.imports ++ collector_import (codes "value_i32") (length m.types) ∷ collector_import (codes "value_i64") (length m.types + 1) ∷ collector_import (codes "frame") (length m.types + 2) ∷ []
  pub types : take (length m.types) new.types ≡ m.types
  pub takes_i32 : slice_get new.types (length m.types) ≡ Some (value_type I32)
  pub takes_i64 : slice_get new.types (length m.types + 1) ≡ Some (value_type I64)
  pub takes_frame : slice_get new.types (length m.types + 2) ≡ Some frame_type
  -- the exports with their names and kinds, and then the memory, where there is one, as `coredump.memory`; nothing else
  pub exports : map named new.exports ≡ map named m.exports ++ map named (memory_export m.memories)
  -- tables, memories and globals are exported under their indices
  pub indices : (i : ℕ) (e : Export) → slice_get m.exports i ≡ Some e → is_function e.kind ≡ false → slice_get new.exports i ≡ Some e
  pub memories : new.memories ≡ m.memories
  pub segments : new.segments ≡ m.segments
