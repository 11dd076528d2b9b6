use Rattle.instrument_command.proofs.Promises.{rewrites}
use Rattle.instrument_command.proofs.rewriting.rewrite.Goals as goal

pub returns-in-Ok-clause-told : goal.returns-in-Ok-clause-told
returns-in-Ok-clause-told c =
    let e = c.in-Ok.ensures in
    rewrites c.args.source.now c.in-Ok.other e.0 c.requires.valid e.1 e.2 e.3
