use Rattle.cover_command.proofs.ending.push_told.Goals as goal
use Rattle.wasm_decode.proofs.Short.{short_bytes}

pub of-requires : goal.of-requires
of-requires c = short_bytes c.args.bytes.now c.args.source.now c.requires
