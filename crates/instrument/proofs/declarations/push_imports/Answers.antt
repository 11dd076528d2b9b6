use Rattle.std.proofs.Common.{◌+◌, refl}
use Rattle.std.specs.Prelude.{codes}
use Rattle.rewrite_modules.specs.Collector.{collector_import}
use Rattle.rewrite_code.proofs.Loads.{when_ok}
use Rattle.instrument.proofs.Copied.{three_more}
use Rattle.instrument.proofs.declarations.push_imports.Goals as goal

pub returns : goal.returns
returns c =
    let xs = c.args.imports.now in
    let t = c.args.types in
    let one = collector_import (codes "value_i32") t in
    let two = collector_import (codes "value_i64") (t + 1) in
    let three = collector_import (codes "frame") (t + 2) in
    when_ok (λ last. three_more xs xs c.push_import.new.imports c.push_import-2.new.imports c.push_import-3.new.imports one two three one two three refl c.in_ok-push_import.ensures c.in_ok-push_import-2.ensures last refl refl refl)
    c.push_import-3.result c.push_import-3.ensures
