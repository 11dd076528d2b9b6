use Rattle.dwarf_laws.proofs.Readings.{some_units, one_list}
use Rattle.dwarf_laws.proofs.laws.one_reading.Goals as goal

pub returns : goal.returns
returns c = record {
  some = some_units;
  one = one_list;
}
