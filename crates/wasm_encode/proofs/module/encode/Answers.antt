use Rattle.wasm_encode.proofs.WholeModule.{parts_spell_same}
use Rattle.wasm_encode.proofs.module.encode.Goals as goal

pub returns-clause-spelled : goal.returns-clause-spelled
returns-clause-spelled c = λ within. parts_spell_same c.parts.result.now c.args.module.now c.in_ok-bytes.bytes.items c.parts.ensures.value c.parts.ensures.whole c.in_ok-bytes.ensures.fits c.in_ok-bytes.ensures.exact c.requires within
