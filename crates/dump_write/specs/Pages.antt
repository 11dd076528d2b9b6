-- The memory of a dump, and the pages that are written of it.
use Rattle.std.specs.Prelude.{ℕ, ◌*◌, List, map, filter, fold, replicate, Bool, not, ◌==◌}
use Rattle.std.specs.List.{list_any, range_with_len}
use Rattle.linear_memory.specs.Memory.{page_size, window, splice}
use Rattle.dump_format.specs.declared.dump.Dump.{Dump}
use Rattle.dump_format.specs.Region.{Region}
use Rattle.dump_format.specs.Form.{pages_of}

-- the bytes of a memory, in which each segment in order is put over what was there before it
abbrev pub laid_on : List ℕ → List Region → List ℕ
laid_on bytes segments = fold (λ bytes r. splice bytes r.at r.bytes) bytes segments

-- the bytes of the memory: zeros, and the segments over them
unfoldable pub memory_bytes : Dump → List ℕ
memory_bytes d = laid_on (replicate (page_size * pages_of d.memory) 0) d.segments

abbrev pub page_region : List ℕ → ℕ → Region
page_region bytes i = record { at = page_size * i; bytes = window bytes (page_size * i) page_size }

-- Some byte is not zero.
abbrev pub is_used : Region → Bool
is_used r = list_any (λ b. not (b == 0)) r.bytes

-- those of so many pages of a memory that are not all zero, in rising order
unfoldable pub used_pages : ℕ → List ℕ → List Region
used_pages count bytes = filter is_used (map (page_region bytes) (range_with_len 0 count))
