-- Where variables come from by what is known of the entries of location lists.
use Rattle.std.specs.Prelude.{◌≡◌, ℕ, List, if◌then◌else◌, IfSome}
use Rattle.std.specs.Ordering.{nat_cmp}
use Rattle.std.specs.BTreeMap.{BTreeMap, get}
use Rattle.dwarf_info.specs.Sections.{SectionBytes5}
use Rattle.dwarf_scopes.specs.declared.kinds.ListWay.{ListWay}
use Rattle.dwarf_scopes.specs.calls.Kinds.{addresses_by, location_section}
use Rattle.dwarf_scopes.specs.calls.Knowing.{AreFound}
use Rattle.dwarf5_info.specs.Plain.{plain}
use Rattle.var_values.specs.declared.source.Source.{Source}
use Rattle.var_eval.specs.declared.sources.ExpressionPlace.{ExpressionPlace}
use Rattle.var_eval.specs.declared.sources.KnownSource.{KnownSource}
use Rattle.var_eval.specs.declared.sources.KnownSources.{KnownSources}
use Rattle.var_eval.specs.Frames.{Frame}
use Rattle.var_eval.specs.Locations.{spanned, source_in}

abbrev pub plain_by : SectionBytes5 → ListWay → List ℕ → List ℕ
plain_by s way expr = if way.version5 then plain (addresses_by s way) expr else expr

-- where a variable comes from whose expression stands in an entry of a list
abbrev pub sourced_at : Frame → ExpressionPlace → Source
sourced_at f p = source_in f (plain_by f.sections p.way (spanned (location_section f.sections p.way) p.span))

-- Each says where a variable comes from by the expression at its place.
abbrev pub AreSourced : Frame → BTreeMap ℕ KnownSource → Type 0
AreSourced f sources = (number : ℕ) → IfSome (get nat_cmp sources number) (λ k. k.source ≡ sourced_at f k.place)

abbrev pub AreKnown : Frame → KnownSources → Type 0
AreKnown f k = AreFound f.sections f.address k.lists × AreSourced f k.sources
