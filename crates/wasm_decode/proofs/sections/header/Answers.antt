use Rattle.wasm_decode.proofs.Header.{header_at}
use Rattle.wasm_decode.proofs.sections.header.Goals as goal

pub returns-clause-behind : goal.returns-clause-behind
returns-clause-behind c = (header_at c.args.input.now c.bytes.new.self tt c.in_ok-bytes.ensures.item, c.in_ok-bytes.ensures.stays.1)
