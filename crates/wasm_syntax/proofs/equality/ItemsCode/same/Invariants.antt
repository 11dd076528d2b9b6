use Rattle.std.proofs.Common.{◌≡◌, map, take}
use Rattle.wasm_syntax.proofs.equality.ItemsCode.same.Given as goal

abbrev pub invariant-loop-i : goal.invariant-loop-i
invariant-loop-i g l = map g.T.Code.code (take l.i l.self) ≡ map g.T.Code.code (take l.i l.other)
