use Rattle.std.proofs.Common.{sym, ◌∙◌}
use Rattle.dwarf_scopes.proofs.ListedLaws.{seen_asked}
use Rattle.dwarf_scopes.proofs.listed.is_seen.Goals as goal

pub returns-in-Some : goal.returns-in-Some
returns-in-Some c = λ entries numbers seen same. seen_asked entries numbers c.args.seen.now c.number_of-number.result c.in-Some.other c.args.place (sym c.get.ensures.value ∙ sym c.copied-found.ensures ∙ c.in-Some.is) (c.is_same.ensures same) seen

pub returns-in-None : goal.returns-in-None
returns-in-None c = λ entries numbers seen same. absurd cc
