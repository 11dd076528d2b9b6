-- The subprogram at an address, and the scopes and variables that are visible there (DWARF 4, 3.3, 3.4 and 4.1).
use Rattle.std.specs.Prelude.{ℕ, List, [], ◌∷◌, Option, Some, None, filter, find, flat_map, reverse, Bool, not, ◌&&◌, ◌||◌, ◌==◌, false}
use Rattle.dwarf_info.specs.declared.entry.UnitAnswer.{UnitAnswer}
use Rattle.dwarf_info.specs.Attributes.{valued, as_address, low_pc}
use Rattle.dwarf_info.specs.Sections.{SectionBytes5}
use Rattle.dwarf_entries.specs.Tags.{tag_subprogram, tag_lexical_block, tag_inlined_subroutine, tag_formal_parameter, tag_variable}
use Rattle.dwarf_entries.specs.Standing.{Standing, standing, inside, children}
use Rattle.dwarf_scopes.specs.Ranges.{holds}

abbrev pub is_zero_address : Option ℕ → Bool
is_zero_address (Some n) = n == 0
is_zero_address None = false

-- Linkers mark removed code by a low_pc of 0.
abbrev pub is_removed : Standing → Bool
is_removed x = is_zero_address (valued as_address low_pc x.entry.attributes)

abbrev pub is_subprogram_at : SectionBytes5 → ℕ → Standing → Bool
is_subprogram_at s address x = (x.entry.tag == tag_subprogram) && not (is_removed x) && holds s address x

-- the first subprogram of the section that holds the address and is not removed
unfoldable pub subprogram_at : SectionBytes5 → List UnitAnswer → ℕ → Option Standing
subprogram_at s units address = find (is_subprogram_at s address) (standing units)

abbrev pub is_scope_at : SectionBytes5 → ℕ → Standing → Bool
is_scope_at s address x = (x.entry.tag == tag_lexical_block || x.entry.tag == tag_inlined_subroutine) && holds s address x

-- a subprogram, and the lexical blocks and inlined subroutines in it that hold the address: outer ones first, in the section's order
abbrev pub scopes_in : SectionBytes5 → ℕ → Standing → List Standing
scopes_in s address x = x ∷ filter (is_scope_at s address) (inside x)

abbrev pub scopes_from : SectionBytes5 → ℕ → Option Standing → List Standing
scopes_from s address (Some x) = scopes_in s address x
scopes_from s address None = []

unfoldable pub scopes_at : SectionBytes5 → List UnitAnswer → ℕ → List Standing
scopes_at s units address = scopes_from s address (subprogram_at s units address)

abbrev pub declares : Standing → Bool
declares x = x.entry.tag == tag_formal_parameter || x.entry.tag == tag_variable

-- the formal parameters and variables of a scope
unfoldable pub variables_of : Standing → List Standing
variables_of x = filter declares (children x)

-- the variables that are visible at an address, those of outer scopes first
unfoldable pub variables_at : SectionBytes5 → List UnitAnswer → ℕ → List Standing
variables_at s units address = flat_map variables_of (scopes_at s units address)

-- the inlined subroutines that hold the address, the innermost first
unfoldable pub inlined_at : SectionBytes5 → List UnitAnswer → ℕ → List Standing
inlined_at s units address = reverse (filter (λ x. x.entry.tag == tag_inlined_subroutine) (scopes_at s units address))
