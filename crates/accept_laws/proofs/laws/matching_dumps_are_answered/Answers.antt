use Rattle.std.proofs.Common.{◌≡◌, ap₂, Result, Ok, Err}
use Rattle.wasm_syntax.specs.declared.module.ModuleParts.{ModuleParts as Module}
use Rattle.dump_format.specs.declared.dump.Dump.{Dump}
use Rattle.dump_match.specs.declared.mismatch.Mismatch.{Mismatch}
use Rattle.dump_match.specs.Matching.{Matches}
use Rattle.dump_match.specs.Judged.{Match, Judged}
use Rattle.accept_laws.proofs.laws.matching_dumps_are_answered.Goals as goal

match_of : Module → Dump → Result Match Mismatch
match_of m dump = Ok (record { module_ = m; dump = dump })

answered : (m : Module) (dump : Dump) (answer : Result Match Mismatch) → Matches m dump → Judged answer m dump → answer ≡ match_of m dump
unfolding match_of
answered m dump (Ok x) h j = ap₂ match_of j.1 j.2
answered m dump (Err row) h j = absurd (j.fails (h row))

pub returns : goal.returns
unfolding match_of
returns c = answered
