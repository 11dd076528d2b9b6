use Rattle.dwarf_scopes.specs.calls.Kinds.{range_section, range_item}
use Rattle.dwarf_scopes.proofs.asked.no_ranges.Goals as goal

pub returns : goal.returns
returns c = λ s address. record { said = c.new.ensures (range_section s) (range_item s) address; tabled = c.new-2.ensures s address }
