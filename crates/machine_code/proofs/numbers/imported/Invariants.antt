use Rattle.std.proofs.Common.{◌≡◌, ◌++◌, map, take, get_or}
use Rattle.machine_code.proofs.numbers.imported.Given as goal

abbrev pub invariant-loop-import : goal.invariant-loop-import
invariant-loop-import l = l.out.items ≡ l.initial.out.items ++ map (λ i. get_or l.numbers i.ftype 0) (take l.import-index l.imports)
