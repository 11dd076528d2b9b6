use Rattle.rewrite_modules.specs.Weight.{types_used}
use Rattle.index_map.proofs.Numbers.{functions_apart, values_apart, value_no_frame, value_around, frame_around, functions_low, wrappers_apart, wrapper_within, helpers_apart}
use Rattle.index_map.proofs.laws.numbers_are_distinct.Goals as goal

pub returns : goal.returns
returns c = record {
  functions = functions_apart;
  values = values_apart;
  value_no_frame = value_no_frame;
  function_no_value = value_around;
  function_no_frame = frame_around;
  functions_before_wrappers = functions_low;
  wrappers = wrappers_apart;
  wrappers_before_helpers = wrapper_within;
  helpers = λ m t u. helpers_apart t u (types_used m);
}
