use Rattle.std.proofs.Common.{◌≡◌, ◌++◌, length}
use Rattle.dwarf_scopes.specs.calls.Spans.{apart, apart_from}
use Rattle.dwarf_scopes.proofs.spans.apart.Given as goal

abbrev pub invariant-spans : goal.invariant-spans
invariant-spans l = l.out.items ++ apart_from l.wide l.left ≡ apart l.spans

abbrev pub decreases-spans : goal.decreases-spans
decreases-spans l = length l.left
