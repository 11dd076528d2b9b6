use Rattle.std.proofs.Common.{subst}
use Rattle.wasm_bytes.specs.Laws.{IsBytes}
use Rattle.instrument_command.proofs.Promises.{admitted}
use Rattle.instrument_command.proofs.writing.admitted_bytes.Goals as goal

pub returns : goal.returns
returns c = admitted c.args.source.now c.args.other.now c.in_ok-bytes.bytes.items c.requires c.in_ok-bytes.ensures.exact (c.in_ok-bytes.ensures.spelled c.requires.promised.within) (subst IsBytes c.deref.ensures.value c.are_bytes.ensures)
