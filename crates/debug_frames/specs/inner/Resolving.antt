-- What is known of a code address.
use Rattle.std.specs.Prelude.{ℕ, List, Option, option_map}
use Rattle.dwarf_entries.specs.Standing.{Standing}
use Rattle.dwarf_scopes.specs.Scopes.{inlined_at}
use Rattle.debug_frames.specs.declared.rows.RowPlace.{RowPlace}
use Rattle.debug_frames.specs.Information.{SourceInformation}
use Rattle.debug_frames.specs.Programs.{located_at}
use Rattle.debug_frames.specs.Frames.{name_within, subprogram_there}
use Rattle.debug_frames.specs.inner.Paths.{row_place}

pub record Resolved : Type 0 where
  pub address : ℕ
  -- the name of the subprogram there
  pub name : Option (List ℕ)
  -- the inlined subroutines that hold it, the innermost first
  pub inlined : List Standing
  -- the place of its row
  pub place : Option RowPlace

abbrev pub resolved_at : SourceInformation → ℕ → Resolved
resolved_at x address = record {
  address = address;
  name = name_within x.units (subprogram_there x address);
  inlined = inlined_at x.sections x.units address;
  place = option_map row_place (located_at x.sections x.units address);
}
