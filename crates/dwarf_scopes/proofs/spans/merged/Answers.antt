use Rattle.std.proofs.Common.{◌≡◌, ◌++◌, drop, arith}
use Rattle.dwarf_scopes.specs.calls.Spans.{merged}
use Rattle.dwarf_scopes.proofs.SpanLaws.{left_taken, right_taken, left_done, right_done}
use Rattle.dwarf_scopes.proofs.OrderLaws.{merge_more, merge_done}
use Rattle.dwarf_scopes.proofs.spans.merged.Goals as goal
use Rattle.dwarf_scopes.proofs.spans.merged.Goals.{then-both-test+else-j-right, else-both-test}

pub both-preserved-then-second-first : goal.both-preserved-then-second-first
both-preserved-then-second-first c =
    let left = c.args.left.now in let right = c.args.right.now in let i = c.both.i in let j = c.both.j in
    let taken = left_taken left right i j _ _ (omega arith) (omega arith) c.if-second-first.true in
    (omega arith, c.both.invariant.1, merge_more c.both.spans.items c.push.new.self.items _ _ (merged left right) _ taken c.in_ok-push.ensures.items c.both.invariant.2)

pub both-preserved : goal.both-preserved
both-preserved c =
    let left = c.args.left.now in let right = c.args.right.now in let i = c.both.i in let j = c.both.j in
    let taken = right_taken left right i j _ _ (omega arith) (omega arith) c.if-second-first.false in
    (c.both.invariant.0, omega arith, merge_more c.both.spans.items c.push-else-second-first.new.self.items _ _ (merged left right) _ taken c.in_ok-push-2.ensures.items c.both.invariant.2)

pub returns : goal.returns
returns c =
    let left = c.args.left.now in let right = c.args.right.now in let i = c.both.i in let j = c.both.j in
    let done : merged (drop i left) (drop j right) ≡ drop i left ++ drop j right
    = elim c.both-test.branch [ then-both-test+else-j-right w ↦ right_done left right i j (omega arith) | else-both-test w ↦ left_done left right i j (omega arith) ] in
    merge_done c.both.spans.items left right (merged (drop i left) (drop j right)) (merged left right) c.extend_from_slice.new.self.items c.extend_from_slice-2.new.self.items i j c.both.invariant.2 done
    c.in_ok-extend_from_slice.ensures.items c.in_ok-extend_from_slice-2.ensures.items
