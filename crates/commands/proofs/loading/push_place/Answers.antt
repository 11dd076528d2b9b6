use Rattle.std.proofs.Common.{append_assoc}
use Rattle.std.specs.Prelude.{codes}
use Rattle.std.specs.Fmt.{decimal}
use Rattle.commands.specs.Refusal.{place_name}
use Rattle.commands.proofs.loading.push_place.Goals as goal

-- a long name: the search does not end in time
pub returns-in-Declaration : goal.returns-in-Declaration
unfolding place_name
returns-in-Declaration c = rw (c.in-Declaration.is, ← c.from-in-Declaration.ensures, ← append_assoc c.args.out.now (codes "declaration ") (decimal c.from-in-Declaration.result)) c.push_number-in-Declaration.ensures
