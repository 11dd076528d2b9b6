use Rattle.std.proofs.Common.{◌≡◌, drop}
use Rattle.wasm_decode.specs.Names.{names_from}
use Rattle.wasm_decode.proofs.name_section.first_names.Given as goal

abbrev pub invariant-loop-custom : goal.invariant-loop-custom
invariant-loop-custom l = names_from l.bytes l.customs ≡ names_from l.bytes (drop l.custom-index l.customs)
