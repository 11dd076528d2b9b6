use Rattle.rewrite_code.specs.calls.Places.{place}
use Rattle.guard_insert.proofs.Meaning.{entry_written}
use Rattle.guard_insert.proofs.entries.guard_entry.Goals as goal

pub returns-clause-means : goal.returns-clause-means
returns-clause-means c = λ ftype. entry_written c.args.context.now ftype c.args.helper (place c.args.entry) c.args.height _ _ c.write_entry.result c.requires c.write_entry.ensures
