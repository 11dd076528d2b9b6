use Rattle.wasm_format_laws.proofs.Readings.{one_module, one_break, not_both, one_of_both}
use Rattle.wasm_format_laws.proofs.laws.one_reading.Goals as goal

pub returns : goal.returns
returns c = record {
  one_module = one_module;
  one_break = one_break;
  not_both = not_both;
  either = one_of_both;
}
