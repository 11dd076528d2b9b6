-- Tests of entries, as the code makes them.
use Rattle.std.specs.Prelude.{ℕ, suc, List, Option, Bool, not, filter, flat_map, reverse, ◌&&◌, ◌||◌, ◌==◌}
use Rattle.dwarf_info.specs.declared.entry.UnitAnswer.{UnitAnswer}
use Rattle.dwarf_info.specs.Sections.{SectionBytes5}
use Rattle.dwarf_entries.specs.Standing.{Standing, of_unit}
use Rattle.dwarf_entries.specs.Tags.{tag_subprogram, tag_lexical_block, tag_inlined_subroutine}
use Rattle.dwarf_scopes.specs.Scopes.{declares, is_removed, is_scope_at, scopes_from}

-- a formal parameter or a variable that is a child of an entry of that depth
abbrev pub is_variable_of : ℕ → Standing → Bool
is_variable_of depth x = x.entry.depth == suc depth && declares x

-- a lexical block or an inlined subroutine
abbrev pub is_scope : Standing → Bool
is_scope x = x.entry.tag == tag_lexical_block || x.entry.tag == tag_inlined_subroutine

abbrev pub is_inlined : Standing → Bool
is_inlined x = x.entry.tag == tag_inlined_subroutine

-- a scope that holds the address; lexical blocks are wanted too, or not
abbrev pub is_wanted : Bool → SectionBytes5 → ℕ → Standing → Bool
is_wanted blocks s address x = (blocks || is_inlined x) && is_scope_at s address x

-- the inlined subroutines in a subprogram that hold an address, the innermost first
abbrev pub inlined_from : SectionBytes5 → ℕ → Option Standing → List Standing
inlined_from s address x = reverse (filter is_inlined (scopes_from s address x))

-- a subprogram that is not removed
abbrev pub is_kept : Standing → Bool
is_kept x = (x.entry.tag == tag_subprogram) && not (is_removed x)

abbrev pub kept_of : UnitAnswer → List Standing
kept_of u = filter is_kept (of_unit u)

-- those of all units, in the order of the section
abbrev pub kept : List UnitAnswer → List Standing
kept units = flat_map kept_of units
