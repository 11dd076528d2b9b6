use Rattle.dwarf_laws.proofs.Readings.{some_units5, one_list5}
use Rattle.dwarf_laws.proofs.laws.one_reading5.Goals as goal

pub returns : goal.returns
returns c = record {
  some = some_units5;
  one = one_list5;
}
