-- The bytes of a dump in the pieces in which they are written: what stands before each page, and the page.
use Rattle.std.specs.Prelude.{ℕ, List, [], ◌∷◌, ◌++◌, length}
use Rattle.std.specs.List.{flat_map}
use Rattle.wasm_leb.specs.Writing.{unsigned_bytes}
use Rattle.dump_format.specs.Region.{Region}
use Rattle.dump_write.specs.Spelled.{vector_bytes, segment_bytes}

-- what stands before the first segment: the id of the data section, its size, and the count of segments
unfoldable pub data_head : List Region → List ℕ
data_head [] = []
data_head (r ∷ rs) = 11 ∷ (unsigned_bytes (length (vector_bytes segment_bytes (r ∷ rs))) ++ unsigned_bytes (length (r ∷ rs)))

abbrev pub pages_bytes : List Region → List ℕ
pages_bytes rs = flat_map segment_bytes rs
