use Rattle.std.proofs.Common.{◌≡◌, length, subst, rules, of_calls}
use Rattle.std.specs.List.Sorted.{IsPermutation}
use Rattle.std.proofs.lemmas.Fn.{always_returns_same}
use Rattle.dwarf_line.specs.inner.Order.{place_at, numbers_from}
use Rattle.dwarf_line.proofs.rows.order_of.Goals as goal

pub returns : goal.returns
returns c =
    let made : c.in_ok-order.order.items ≡ numbers_from 0 (length c.args.rows.now) = search (rules, of_calls) in
    let moved = subst (λ l. IsPermutation l c.sort_unstable_by_key.new.self.items) made c.sort_unstable_by_key.ensures.permutation in
    (moved, c.sort_unstable_by_key.ensures.sorted (place_at c.args.rows.now) (always_returns_same _ (λ a r. r ≡ place_at c.args.rows.now a.0.now) _ (λ a r f k. search (rules, of_calls))))
