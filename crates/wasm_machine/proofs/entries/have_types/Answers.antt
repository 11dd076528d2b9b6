use Rattle.std.proofs.Common.{sym, ◌∙◌}
use Rattle.std.proofs.lemmas.List.{length-map}
use Rattle.wasm_syntax.specs.Numbers.{types, type_of}
use Rattle.wasm_machine.proofs.entries.have_types.Goals as goal
use Rattle.wasm_syntax.proofs.Types.{other_count}

pub returns-then-params-args : goal.returns-then-params-args
returns-then-params-args c = sym (other_count c.args.params.now (types c.args.args.now) (λ e. c.if-params-args.true (e ∙ length-map c.args.args.now type_of)))
