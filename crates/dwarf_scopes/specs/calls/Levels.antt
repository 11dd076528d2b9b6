-- Parts of the entries of a unit, of which none may hold an address as an inlined subroutine.
use Rattle.std.specs.Prelude.{◌≡◌, ◌<◌, ◌^◌, ◌-◌, ℕ, ℤ, pos, negsuc, List, [], ◌∷◌, take, drop, Option, Some, None, option_map, Bool, true, false, nat_lt, int_lt, ◌==◌, if◌then◌else◌}
use Rattle.std.specs.Option.{option_to_list}
use Rattle.std.specs.List.{list_any}
use Rattle.dwarf_info.specs.declared.entry.Entry.{Entry}
use Rattle.dwarf_info.specs.declared.entry.UnitAnswer.{UnitAnswer}
use Rattle.dwarf_info.specs.declared.entry.UnitAnswer.TheVariants.{Tree, Unreadable}
use Rattle.dwarf_info.specs.Attributes.{valued, as_offset, ranges}
use Rattle.dwarf_entries.specs.Tags.{tag_inlined_subroutine}
use Rattle.dwarf_scopes.specs.Ranges.{bounds_of}
use Rattle.dwarf_scopes.specs.declared.levels.UnitLevels.{UnitLevels}
use Rattle.dwarf_scopes.specs.declared.levels.Level.{Level}
use Rattle.dwarf_scopes.specs.declared.spans.Span.{Span}
use Rattle.dwarf_scopes.specs.calls.Numbered.{is_within}
use Rattle.dwarf_scopes.specs.calls.Spans.{from_to, covers}
use Rattle.dwarf_scopes.specs.inner.Insides.{insides}

-- bounds, or all addresses where there is a list
abbrev pub bounds_by : Option (ℕ × ℤ) → Option ℕ → Option (ℕ × ℤ)
bounds_by (Some bounds) at = Some bounds
bounds_by None at = option_map (λ (x : ℕ). (0, pos (2 ^ 32))) at

abbrev pub may_bounds : Entry → Option (ℕ × ℤ)
may_bounds e = if e.tag == tag_inlined_subroutine then bounds_by (bounds_of e) (valued as_offset ranges e.attributes) else None

abbrev pub may_in : Entry → List (ℕ × ℤ)
may_in e = option_to_list (may_bounds e)

abbrev pub may_hold : ℕ → Entry → Bool
may_hold address e = is_within may_in address e

-- ---- as spans

-- the last address of 32 bits in front of this one
abbrev pub last_before : ℤ → ℕ
last_before (pos n) = if nat_lt n (2 ^ 32) then n - 1 else 4294967295
last_before (negsuc n) = 4294967295

abbrev pub span_between : ℕ × ℤ → Option Span
span_between b = if int_lt (pos b.0) b.1 then Some (from_to b.0 (last_before b.1)) else None

-- What is in none of these is in none of the part, and the entry may not hold it.
abbrev pub IsWith : List Span → Entry → List Span → Type 0
IsWith part e more = (address : ℕ) → address < 2 ^ 32 → covers more address ≡ false → (covers part address ≡ false) × (may_hold address e ≡ false)

-- None of these entries may hold an address that is in none of the spans.
abbrev pub IsPart : List Entry → List Span → Type 0
IsPart es spans = (address : ℕ) → address < 2 ^ 32 → covers spans address ≡ false → list_any (may_hold address) es ≡ false

-- each of so many entries
abbrev pub AreParts : ℕ → List (List Span) → List Entry → Type 0
AreParts size [] es = Unit {0}
AreParts size (spans ∷ more) es = IsPart (take size es) spans × AreParts size more (drop size es)

-- of each size
abbrev pub AreSized : List Level → List Entry → Type 0
AreSized [] es = Unit {0}
AreSized (l ∷ ls) es = AreParts l.size l.parts es × AreSized ls es

pub record AreLevels (es : List Entry) (l : UnitLevels) : Type 0 where
  pub counts : l.counts ≡ insides es
  pub quiet : l.quiet ≡ true → IsPart es []
  pub levels : AreSized l.levels es

abbrev pub IsLeveled : UnitAnswer → UnitLevels → Type 0
IsLeveled (Tree u) l = AreLevels u.entries l
IsLeveled (Unreadable section at) l = Unit {0}

abbrev pub AreLeveled : List UnitLevels → List UnitAnswer → Type 0
AreLeveled [] units = Unit {0}
AreLeveled (l ∷ ls) [] = Unit {0}
AreLeveled (l ∷ ls) (u ∷ us) = IsLeveled u l × AreLeveled ls us
