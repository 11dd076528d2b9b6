use Rattle.std.proofs.Common.{◌≡◌, ◌∙◌, ◌+◌, ◌-◌, ◌<◌, ℕ, Option, length, take, sym, ap, arith}
use Rattle.std.specs.Prelude.{map, filter}
use Rattle.dwarf_entries.specs.Standing.{is_child}
use Rattle.dwarf_entries.specs.Tags.{tag_subrange}
use Rattle.dwarf_types.specs.Counts.{subrange_count}
use Rattle.dwarf_types.specs.Products.{times, array_size}
use Rattle.dwarf_types.proofs.ArraySizes.{last_counts, no_counts}
use Rattle.dwarf_types.proofs.size.array_size.Goals as goal

pub entries-preserved-then-is_child : goal.entries-preserved-then-is_child
entries-preserved-then-is_child c =
    let test = is_child c.args.depth tag_subrange in
    let es = c.args.entries.now in
    let k = c.entries.left - 1 in
    let lt : k < length es = omega arith in
    let one : c.entries.left ≡ k + 1 = omega arith in
    record {
      within = omega arith;
      sizes = c.entries.invariant.sizes ∙ ap (λ (n : ℕ). array_size (map subrange_count (filter test (take n es))) c.entries.size) one
          ∙ last_counts subrange_count test es k c.index-entries-left.result c.entries.size lt c.index-entries-left.is (sym c.is_child.ensures ∙ c.if-is_child.true)
          ∙ ap (array_size (map subrange_count (filter test (take k es)))) (sym (c.times-size.ensures ∙ ap (λ (n : Option ℕ). times n c.entries.size) c.subrange_count.ensures));
    }

pub returns : goal.returns
returns c =
    let test = is_child c.args.depth tag_subrange in
    let es = c.args.entries.now in
    let none : c.entries.left ≡ 0 = omega arith in
    sym (c.entries.invariant.sizes ∙ ap (λ (n : ℕ). array_size (map subrange_count (filter test (take n es))) c.entries.size) none
    ∙ no_counts subrange_count test es c.entries.size)
