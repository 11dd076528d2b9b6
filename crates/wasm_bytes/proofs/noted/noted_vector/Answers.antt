use Rattle.std.proofs.Common.{subst}
use Rattle.wasm_bytes.specs.calls.Answers.{Gives}
use Rattle.wasm_bytes.proofs.Vectors.{vector-noted}
use Rattle.wasm_bytes.proofs.noted.noted_vector.Goals as goal

pub returns-clause-item : goal.returns-clause-item
returns-clause-item g c =
    let place = g.R.Cursor.place in
    subst (Gives c.noted_elements.result (place c.noted_elements.new.reader)) (vector-noted g.T.Noting.item (place c.args.reader.now)) c.noted_elements.ensures.item
