use Rattle.std.proofs.Common.{◌≡◌, ◌+◌, ◌-◌, ◌*◌, ◌/◌, ℕ, List, ◌++◌, length, ap, ◌∙◌}
use Rattle.debugger.specs.Examined.{row_text, row_of, rows_text}
use Rattle.debugger.proofs.Rows.{goes_on}
use Rattle.debugger.proofs.examined.push_rows.Goals as goal

pub loop-row-preserved : goal.loop-row-preserved
loop-row-preserved c =
    let at = c.args.at in
    let bytes = c.args.bytes.now in
    let row = c.loop-row.row in
    let out = c.loop-row.out in
    let wrote : c.push_row.new.out ≡ out ++ row_of at bytes row = c.in_ok-push_row.ensures ∙ ap (λ (r : List ℕ). out ++ row_text (at + 16 * row) r) c.row_at.ensures in
    goes_on (row_of at bytes) row ((length bytes + 16 - 1) / 16) out c.push_row.new.out (c.args.out.now ++ rows_text at bytes) c.loop-row-test.true wrote c.loop-row.invariant
