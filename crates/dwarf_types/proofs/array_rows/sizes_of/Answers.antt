use Rattle.std.proofs.Common.{◌≡◌, ◌+◌, ◌-◌, arith}
use Rattle.dwarf_types.proofs.SizeLaws.{begun, further, ended, all_sized}
use Rattle.dwarf_types.proofs.array_rows.sizes_of.Goals as goal

pub subranges-init : goal.subranges-init
subranges-init c = begun c.args.counts.now c.args.element c.len-left.result c.new-sizes.result c.push.new.self c.new-sizes.ensures c.in_ok-push.ensures.ok c.len-left.ensures

pub returns-in_default : goal.returns-in_default
returns-in_default c =
    let m = c.subranges.left - 1 in
    let one : c.subranges.left ≡ m + 1 = omega arith in
    ended c.args.counts.now c.args.element c.subranges.sizes m c.subranges.left c.subranges.size c.numbered.result c.subranges.invariant one c.numbered.ensures c.in_default.ensures

pub subranges-preserved : goal.subranges-preserved
subranges-preserved c =
    let m = c.subranges.left - 1 in
    let one : c.subranges.left ≡ m + 1 = omega arith in
    further c.args.counts.now c.args.element c.subranges.sizes c.push-in-subranges.new.self m c.subranges.left c.subranges.size c.in-Some.next c.numbered.result c.subranges.invariant one c.numbered.ensures
    c.in-Some.ensures c.in_ok-push-2.ensures.ok

pub returns : goal.returns
returns c = all_sized c.args.counts.now c.args.element c.subranges.sizes c.subranges.left c.subranges.size c.subranges.invariant (omega arith)
