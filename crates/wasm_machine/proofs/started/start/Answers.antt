use Rattle.wasm_machine.proofs.FillLaws.{may_begin}
use Rattle.wasm_machine.proofs.started.start.Goals as goal

pub start_memory-requires-clause-memories : goal.start_memory-requires-clause-memories
start_memory-requires-clause-memories c = may_begin c.args.m.now c.requires.valid c.requires.limits
