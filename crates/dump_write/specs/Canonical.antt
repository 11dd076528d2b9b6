-- The one list of bytes that is written of a dump: one module and one instance of the dump's name, one thread, numbers in their
-- shortest spellings, and of the memory the pages that are not all zero, each whole (tool-conventions Coredump.md; Core 5.5).
use Rattle.std.specs.Prelude.{ℕ, List, [], ◌∷◌, ◌++◌, length, map, Option, Some, None, codes}
use Rattle.std.specs.List.{range_with_len}
use Rattle.wasm_leb.specs.Writing.{unsigned_bytes}
use Rattle.wasm_syntax.specs.declared.value.Value.{Value}
use Rattle.dump_format.specs.declared.dump.Dump.{Dump}
use Rattle.dump_format.specs.declared.dump.Frame.{Frame}
use Rattle.dump_format.specs.declared.dump.Instance.{Instance}
use Rattle.dump_format.specs.Region.{Region}
use Rattle.dump_format.specs.Form.{pages_of}
use Rattle.dump_write.specs.Spelled.{vector_bytes, module_bytes, frame_bytes, global_bytes, segment_bytes, section_bytes, custom_bytes}
use Rattle.dump_write.specs.Pages.{memory_bytes, used_pages}
use Rattle.wasm_bytes.specs.Tables.{header}

-- ---- the instance

-- the index 0, where there is a memory
abbrev pub memory_indices : Option ℕ → List ℕ
memory_indices (Some pages) = 0 ∷ []
memory_indices None = []

-- the instance of the one module, with its memory and all globals
unfoldable pub instance_of : Dump → Instance
instance_of d = record { «module» = 0; memories = memory_indices d.memory; globals = range_with_len 0 (length d.globals) }

unfoldable pub instance_bytes : Instance → List ℕ
instance_bytes i = 0x00 ∷ (unsigned_bytes i.«module» ++ vector_bytes unsigned_bytes i.memories ++ vector_bytes unsigned_bytes i.globals)

-- ---- the sections

unfoldable pub core_bytes : List ℕ → List ℕ
core_bytes name = custom_bytes (codes "core") (module_bytes name)

unfoldable pub modules_bytes : List ℕ → List ℕ
modules_bytes name = custom_bytes (codes "coremodules") (vector_bytes module_bytes (name ∷ []))

unfoldable pub instances_bytes : Instance → List ℕ
instances_bytes i = custom_bytes (codes "coreinstances") (vector_bytes instance_bytes (i ∷ []))

unfoldable pub stack_bytes : List Frame → List ℕ
stack_bytes frames = custom_bytes (codes "corestack") (module_bytes (codes "main") ++ vector_bytes frame_bytes frames)

-- limits without a maximum, where there is a memory
unfoldable pub memory_section : Option ℕ → List ℕ
memory_section (Some pages) = section_bytes 5 (vector_bytes (λ n. 0x00 ∷ unsigned_bytes n) (pages ∷ []))
memory_section None = []

unfoldable pub globals_section : List Value → List ℕ
globals_section [] = []
globals_section (v ∷ vs) = section_bytes 6 (vector_bytes global_bytes (v ∷ vs))

unfoldable pub data_section : List Region → List ℕ
data_section [] = []
data_section (r ∷ rs) = section_bytes 11 (vector_bytes segment_bytes (r ∷ rs))

-- all that stands before the data section
unfoldable pub sections_before_data : Dump → List ℕ
sections_before_data d =
    header ++ core_bytes d.name ++ modules_bytes d.name ++ instances_bytes (instance_of d) ++ stack_bytes d.frames
    ++ memory_section d.memory ++ globals_section d.globals

abbrev pub segments_of : Dump → List Region
segments_of d = used_pages (pages_of d.memory) (memory_bytes d)

unfoldable pub canonical_bytes : Dump → List ℕ
canonical_bytes d = sections_before_data d ++ data_section (segments_of d)

-- ---- what these bytes say

abbrev pub in_instance : Frame → Frame
in_instance f = record f { instance = 0 }

-- the dump that the canonical bytes spell
unfoldable pub canonical : Dump → Dump
canonical d = record {
  name = d.name;
  modules = d.name ∷ [];
  instances = instance_of d ∷ [];
  frames = map in_instance d.frames;
  memory = d.memory;
  globals = d.globals;
  segments = segments_of d;
}
