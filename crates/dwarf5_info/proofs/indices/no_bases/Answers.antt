use Rattle.std.proofs.Common.{[], None, refl}
use Rattle.dwarf5_info.proofs.LookUp.{bases_are}
use Rattle.dwarf5_info.proofs.indices.no_bases.Goals as goal

pub returns : goal.returns
returns c = bases_are (record { texts = None; addresses = None; location_lists = None; range_lists = None }) [] refl refl refl refl
