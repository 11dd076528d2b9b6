use Rattle.std.proofs.Common.{◌≡◌, ◌+◌, ◌≤◌, length, map, sym, ap, ◌∙◌, arith}
use Rattle.std.specs.Prelude.{Err, None}
use Rattle.wasm_syntax.specs.Run.{data_fits, first_false}
use Rattle.wasm_machine.proofs.FillLaws.{data_inside}
use Rattle.wasm_machine.proofs.memory.fill_memory.Goals as goal

pub unreachable-requires : goal.unreachable-requires
unreachable-requires c =
    let m = c.args.m.now in
    let ss = c.as_slice-segments.result.now in
    let fits : first_false 0 (map (data_fits m) ss) ≡ None = ap (λ l. first_false 0 (map (data_fits m) l)) c.as_slice-segments.ensures ∙ c.requires.fits in
    let inside : c.from-at.result + length c.as_slice.result.now ≤ length c.loop-segment.memory.memory.bytes =
    data_inside m ss c.loop-segment.segment-index c.segment-item.result c.from-at.result c.as_slice.result.now c.loop-segment-test.true (sym c.segment-item.is) (c.from-at.ensures ∙ c.data_at.ensures) c.as_slice.ensures
    (length c.loop-segment.memory.memory.bytes) fits (c.loop-segment.invariant.size ∙ c.requires.size) in
    let out = c.in-Err-Out.ensures.out.0 (ap Err c.in-Err-Out.field-0-is) in
    omega (arith, inside, out)
