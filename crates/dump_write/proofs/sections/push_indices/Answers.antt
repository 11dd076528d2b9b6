use Rattle.std.proofs.Common.{◌≡◌, arith}
use Rattle.wasm_leb.specs.Writing.{unsigned_bytes}
use Rattle.dump_write.proofs.Vectors.{index_more, indices_done}
use Rattle.dump_write.proofs.sections.push_indices.Goals as goal

pub loop-index-preserved : goal.loop-index-preserved
loop-index-preserved c = index_more unsigned_bytes _ _ _ c.loop-index.index c.loop-index.invariant c.in_ok-write_u64-2.ensures.exact

pub returns : goal.returns
returns c =
    let done : c.loop-index.index ≡ c.args.count = omega arith in
    indices_done unsigned_bytes _ _ _ c.args.count c.loop-index.index c.in_ok-write_u64.ensures.exact c.loop-index.invariant done
