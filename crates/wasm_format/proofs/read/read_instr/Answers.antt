use Rattle.std.proofs.Common.{length, take, drop, sym, subst, ◌≤◌, arith, length-take}
use Rattle.std.proofs.lemmas.List.{take-append-drop}
use Rattle.wasm_bytes.specs.Laws.{IsBytes}
use Rattle.wasm_bytes.proofs.Places.{IsBytes-front}
use Rattle.wasm_format.proofs.Meanings.{found_exactly, broken_exactly}
use Rattle.wasm_format.proofs.read.read_instr.Goals as goal

pub returns : goal.returns
returns c =
    let bytes = c.args.bytes.now in
    let block = take c.args.end bytes in
    let whole : IsBytes bytes = λ i. omega (arith, c.type_inv.bytes i) in
    let fits : IsBytes block = IsBytes-front block (drop c.args.end bytes) (subst IsBytes (sym (take-append-drop c.args.end bytes)) whole) in
    let inside : c.args.at ≤ length block = omega (arith, length-take c.args.end bytes, c.requires) in
    let given = c.instr_in.ensures in
    record {
      exact = given;
      found = found_exactly block c.args.at inside fits c.instr_in.result given;
      broken = broken_exactly block c.args.at inside fits c.instr_in.result given;
    }
