use Rattle.std.proofs.Common.{subst}
use Rattle.wasm_bytes.specs.calls.Answers.{Gives}
use Rattle.wasm_decode.proofs.NameLaws.{names_kept}
use Rattle.wasm_decode.proofs.name_section.name_vector.Goals as goal

pub returns-clause-item : goal.returns-clause-item
returns-clause-item c = subst (Gives c.kept_names.result c.kept_names.new.input) (names_kept c.args.input.now) c.kept_names.ensures.item
