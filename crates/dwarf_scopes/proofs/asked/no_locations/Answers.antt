use Rattle.dwarf_scopes.specs.calls.Kinds.{location_section, location_item}
use Rattle.dwarf_scopes.proofs.asked.no_locations.Goals as goal

pub returns : goal.returns
returns c = λ s address. c.new.ensures (location_section s) (location_item s) address
