use Rattle.std.proofs.Common.{◌≡◌, ap, subst, ◌∙◌}
use Rattle.std.specs.List.Sorted.{IsPermutation}
use Rattle.dwarf_line.specs.inner.Starts.{starts_from, apart_from}
use Rattle.dwarf_line.proofs.StartLaws.{are_starts}
use Rattle.dwarf_line.proofs.sequences.Sequences.new.Goals as goal

pub invariant_of-result : goal.invariant_of-result
invariant_of-result c =
    let made : c.in_ok-starts.starts.items ≡ starts_from 0 c.args.sequences = c.in_ok-starts.ensures ∙ ap (starts_from 0) c.as_slice.ensures in
    let moved : IsPermutation (starts_from 0 c.args.sequences) c.sort_by_key.new.self.items = subst (λ l. IsPermutation l c.sort_by_key.new.self.items) made c.sort_by_key.ensures.permutation in
    are_starts c.args.sequences c.sort_by_key.new.self.items c.are_apart-apart.result moved (c.are_apart-apart.ensures ∙ ap (apart_from 0) c.as_slice-2.ensures.value)
