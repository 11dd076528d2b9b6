-- What becomes of calls of the collector that are whole.
use Rattle.std.specs.Prelude.{◌≡◌, ℕ, List, Option}
use Rattle.wasm_syntax.specs.declared.host.CollectorCall.{CollectorCall}
use Rattle.dump_write.specs.Canonical.{canonical_bytes}
use Rattle.dump_write.specs.ImageBytes.{bytes_of}
use Rattle.dump_write.specs.Collected.{Whole, collected_dump}
use Rattle.dump_write.specs.Pictured.{Pictures}
use Rattle.host_collector.specs.declared.closing.Collected.{Collected}

-- the kind of the first entry, and the dump of the calls with these bytes of a memory and of this name
pub record IsClosed (calls : List CollectorCall) (memory : Option (List ℕ)) (name : List ℕ) (c : Collected) : Type 0 where
  pub whole : Whole calls
  pub kind : c.kind ≡ whole.kind
  pub dump : Pictures (collected_dump whole memory name) c.dump
  pub bytes : canonical_bytes c.dump ≡ bytes_of (collected_dump whole memory name)
