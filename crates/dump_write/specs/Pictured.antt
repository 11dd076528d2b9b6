-- Dumps that show an image.
use Rattle.std.specs.Prelude.{◌≡◌, ℕ, ◌+◌, ◌*◌, ◌/◌, ◌^◌, ◌<◌, ◌≤◌, List, [], ◌∷◌, length, map, replicate, All, Option, Some, None, option_map, IfSome}
use Rattle.linear_memory.specs.Memory.{page_size, pages}
use Rattle.linear_memory.specs.calls.Paged.{Paged}
use Rattle.dump_format.specs.declared.dump.Dump.{Dump}
use Rattle.dump_format.specs.Region.{Region}
use Rattle.dump_write.specs.Pages.{laid_on, memory_bytes}
use Rattle.dump_write.specs.Canonical.{instance_of}
use Rattle.dump_write.specs.Image.{Dump as Image}
use Rattle.dump_write.specs.ImageBytes.{frame_of}

-- the bytes of the memory, if there is one
abbrev pub bytes_in : Option Paged → Option (List ℕ)
bytes_in memory = option_map (λ m. m.memory.bytes) memory

-- the dump is this image: one module and one instance of its name
pub record Pictures (i : Image) (d : Dump) : Type 0 where
  pub name : d.name ≡ i.name
  pub modules : d.modules ≡ i.name ∷ []
  pub instances : length d.globals < 2 ^ 32 → d.instances ≡ instance_of d ∷ []
  pub frames : d.frames ≡ map frame_of i.frames
  pub globals : d.globals ≡ i.globals
  pub memory : d.memory ≡ option_map (λ bytes. length bytes / page_size) i.memory
  pub bytes : IfSome i.memory (λ bytes. memory_bytes d ≡ bytes)

-- the segments lie inside the memory and make its bytes
pub record Covers (m : Paged) (segments : List Region) : Type 0 where
  pub bytes : laid_on (replicate (page_size * pages m.memory) 0) segments ≡ m.memory.bytes
  pub inside : All (λ r. r.at + length r.bytes ≤ page_size * pages m.memory) segments

abbrev pub CoversIfThere : Option Paged → List Region → Type 0
CoversIfThere None segments = segments ≡ []
CoversIfThere (Some m) segments = Covers m segments
