-- Where variables come from by long expressions.
use Rattle.std.proofs.Common.{◌≡◌, ℕ, Bool, true, false, cond, [], Option, Some, sym, ap, subst, ◌∙◌}
use Rattle.std.specs.Prelude.{IfSome}
use Rattle.std.specs.Ordering.{nat_cmp, is_eq}
use Rattle.std.specs.BTreeMap.{BTreeMap, get, is_at, UpdatesBy}
use Rattle.std.specs.Map.{lookup}
use Rattle.dwarf_info.specs.declared.entry.AttrValue.TheVariants.{Offset}
use Rattle.dwarf_entries.specs.Standing.{Standing}
use Rattle.dwarf_loc.specs.declared.contents.Span.{Span}
use Rattle.dwarf_scopes.specs.Lists.{location_in}
use Rattle.dwarf_scopes.specs.calls.Knowing.{way_of, AreFound}
use Rattle.var_eval.specs.declared.sources.ExpressionPlace.{ExpressionPlace}
use Rattle.var_eval.specs.declared.sources.KnownSource.{KnownSource}
use Rattle.var_eval.specs.declared.sources.KnownSources.{KnownSources}
use Rattle.var_eval.specs.Frames.{Frame}
use Rattle.var_eval.specs.Locations.{lists_of, in_list, located_by, source_by}
use Rattle.var_eval.specs.calls.Sourced.{sourced_at, AreSourced, AreKnown}

-- ---- what is kept

pub none_known : (f : Frame) (k : KnownSources) → AreFound f.sections f.address k.lists → k.sources.entries ≡ [] → AreKnown f k
none_known f k found none =
    (found, λ q. subst (λ (o : Option KnownSource). IfSome o (λ k. k.source ≡ sourced_at f k.place)) (sym (ap (λ es. lookup (is_at (nat_cmp q)) es) none)) tt)

pub known_from : (f : Frame) (sources : BTreeMap ℕ KnownSource) (number : ℕ) (k : KnownSource) (p : ExpressionPlace) → get nat_cmp sources number ≡ Some k → k.place ≡ p → AreSourced f sources
    → k.source ≡ sourced_at f p
known_from f sources number k p got same said =
    subst (λ (o : Option KnownSource). IfSome o (λ k. k.source ≡ sourced_at f k.place)) got (said number) ∙ ap (sourced_at f) same

pub source_kept : (f : Frame) (before after : BTreeMap ℕ KnownSource) (number : ℕ) (k : KnownSource)
    → UpdatesBy nat_cmp (nat_cmp number) before after (Some k) → AreSourced f before
    → k.source ≡ sourced_at f k.place → AreSourced f after
source_kept f before after number k updates said is q =
    subst (λ (o : Option KnownSource). IfSome o (λ k. k.source ≡ sourced_at f k.place)) (sym (updates.0 q)) (by (is_eq (nat_cmp number q)))
  where
    by : (b : Bool) → IfSome (cond b (Some k) (get nat_cmp before q)) (λ k. k.source ≡ sourced_at f k.place)
    by true = is
    by false = said q

pub sources_same : (f : Frame) (before after : BTreeMap ℕ KnownSource) → after.entries ≡ before.entries → AreSourced f before → AreSourced f after
sources_same f before after same said q =
    subst (λ (o : Option KnownSource). IfSome o (λ k. k.source ≡ sourced_at f k.place)) (sym (ap (λ es. lookup (is_at (nat_cmp q)) es) same)) (said q)

-- ---- expressions of lists

-- The entry of a list has an expression there.
pub long_source : (f : Frame) (x : Standing) (at : ℕ) (span : Span) → location_in f.sections x.unit at f.address ≡ Some (Some span)
    → source_by f x (located_by f.sections f.address x.unit (Some (Offset at))) ≡ sourced_at f (record { way = way_of x.unit; span = span })
long_source f x at span e = ap (λ (o : Option (Option Span)). source_by f x (in_list (lists_of f.sections x.unit) o)) e
