-- The custom sections that hold debugging information (WebAssembly DWARF): the first one of each name, or nothing.
use Rattle.std.specs.Prelude.{ℕ, List, [], ◌∷◌, codes, if◌then◌else◌}
use Rattle.std.specs.Str.{bytes_eq}
use Rattle.linear_memory.specs.Memory.{window}
use Rattle.wasm_syntax.specs.declared.parts.Custom.{Custom}
use Rattle.dwarf_info.specs.Sections.{SectionBytes, SectionBytes5}

-- behind the name
abbrev pub contents : List ℕ → Custom → List ℕ
contents bytes c = window bytes c.at c.len

-- of a module that these bytes spell
abbrev pub section_named : List ℕ → List Custom → List ℕ → List ℕ
section_named bytes [] name = []
section_named bytes (c ∷ customs) name = if bytes_eq c.name name then contents bytes c else section_named bytes customs name

unfoldable pub sections4 : List ℕ → List Custom → SectionBytes
sections4 bytes customs = record {
  info = section_named bytes customs (codes ".debug_info");
  abbreviations = section_named bytes customs (codes ".debug_abbrev");
  line = section_named bytes customs (codes ".debug_line");
  str = section_named bytes customs (codes ".debug_str");
  loc = section_named bytes customs (codes ".debug_loc");
  ranges = section_named bytes customs (codes ".debug_ranges");
}

unfoldable pub sections_of : List ℕ → List Custom → SectionBytes5
sections_of bytes customs = record {
  base = sections4 bytes customs;
  line_str = section_named bytes customs (codes ".debug_line_str");
  str_offsets = section_named bytes customs (codes ".debug_str_offsets");
  addr = section_named bytes customs (codes ".debug_addr");
  loclists = section_named bytes customs (codes ".debug_loclists");
  rnglists = section_named bytes customs (codes ".debug_rnglists");
}
