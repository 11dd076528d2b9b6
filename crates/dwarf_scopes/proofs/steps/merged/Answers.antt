use Rattle.std.proofs.Common.{◌≡◌, ◌++◌, drop, arith}
use Rattle.dwarf_scopes.specs.calls.Steps.{merged}
use Rattle.dwarf_scopes.proofs.StepLaws.{left_done, right_done}
use Rattle.dwarf_scopes.proofs.OrderLaws.{merge_done}
use Rattle.dwarf_scopes.proofs.steps.merged.Goals as goal
use Rattle.dwarf_scopes.proofs.steps.merged.Goals.{then-both-test+else-j-right, else-both-test}

pub returns : goal.returns
returns c =
    let left = c.args.left.now in let right = c.args.right.now in let i = c.both.i in let j = c.both.j in
    let done : merged (drop i left) (drop j right) ≡ drop i left ++ drop j right
    = elim c.both-test.branch [ then-both-test+else-j-right w ↦ right_done left right i j (omega arith) | else-both-test w ↦ left_done left right i j (omega arith) ] in
    merge_done c.both.steps.items left right (merged (drop i left) (drop j right)) (merged left right) c.extend_from_slice.new.self.items c.extend_from_slice-2.new.self.items i j c.both.invariant.2 done
    c.in_ok-extend_from_slice.ensures.items c.in_ok-extend_from_slice-2.ensures.items
