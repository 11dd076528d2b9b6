use Rattle.std.proofs.Common.{ℕ, List, map, ap, ◌∙◌}
use Rattle.std.specs.Prelude.{Option, Some}
use Rattle.wasm_syntax.specs.Run.{over}
use Rattle.instrument.proofs.Tables.{put_taken}
use Rattle.instrument.proofs.table.put_inside.Goals as goal

pub returns-then-at-size : goal.returns-then-at-size
returns-then-at-size c =
    let table : List (Option ℕ) = c.args.table.now in
    let at = c.args.at in
    c.put_functions.ensures ∙ ap (λ fs. over table at (map Some fs)) c.first-inside.ensures ∙ put_taken table c.args.functions.now at c.if-at-size.true
