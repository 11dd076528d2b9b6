use Rattle.std.proofs.Common.{◌<◌, length, arith}
use Rattle.line_coverage.proofs.MoveLaws.{table_more}
use Rattle.line_coverage.proofs.placing.place_visits.Goals as goal

pub tables-preserved : goal.tables-preserved
tables-preserved c spots visits behind =
    let inside : c.tables.table < length c.args.tables.now.items = omega (arith, c.tables-test.true, c.len-table-end.ensures) in
    c.tables.invariant spots visits (table_more (λ t. t.now) c.tables.spots.entries c.tables.visits.entries c.place_table.new.spots.entries c.place_table.new.visits.entries spots visits c.args.tables.now.items c.tables.table
    c.index.result.now inside c.index.ensures c.in_ok-place_table.ensures behind)
