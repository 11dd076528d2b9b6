use Rattle.dwarf5_info.proofs.LookUp.{bases_are}
use Rattle.dwarf5_info.proofs.indices.root_bases.Goals as goal

pub returns : goal.returns
returns c = bases_are (record { texts = c.offset-texts.result; addresses = c.offset-addresses.result; location_lists = c.offset-location_lists.result; range_lists = c.offset-range_lists.result })
    c.args.root.now c.offset-texts.ensures c.offset-addresses.ensures c.offset-location_lists.ensures c.offset-range_lists.ensures
