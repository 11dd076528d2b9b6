use Rattle.machine_code.proofs.ModuleLaws.{both_numbers}
use Rattle.machine_code.proofs.numbers.function_numbers.Goals as goal

pub returns : goal.returns
returns c = both_numbers c.args.parts.now c.args.numbers.now c.as_slice.result.now c.as_slice-2.result.now c.new-out.result.items c.imported.new.out.items c.defined.new.out.items c.from_vec.result c.as_slice.ensures c.as_slice-2.ensures c.new-out.ensures.items c.in_ok-imported.ensures c.in_ok-defined.ensures c.from_vec.ensures
