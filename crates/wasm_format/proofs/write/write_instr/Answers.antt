use Rattle.wasm_format.proofs.Encoded.{encoding_spells}
use Rattle.wasm_format.proofs.Shortest.{encoding_least}
use Rattle.wasm_format.proofs.write.write_instr.Goals as goal

pub returns-clause-spelled : goal.returns-clause-spelled
returns-clause-spelled c = λ base at from. encoding_spells c.args.targets.now base at c.args.code.now c.append_instr.ensures.code from

pub returns-clause-shortest : goal.returns-clause-shortest
returns-clause-shortest c = λ base at bytes s. encoding_least c.args.targets.now base at c.args.code.now bytes s
