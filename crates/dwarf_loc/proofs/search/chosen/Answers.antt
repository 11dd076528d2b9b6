use Rattle.std.proofs.Common.{◌≡◌, ◌-◌, ◌∙◌, suc, length, ap, arith}
use Rattle.std.proofs.lemmas.Result.{err_from_is_err_and}
use Rattle.wasm_bytes.specs.Reading.{mapped}
use Rattle.dwarf_bytes.specs.Items.{ended_from, ended_item}
use Rattle.dwarf_loc.specs.inner.Search.{sought}
use Rattle.dwarf_loc.proofs.Sought.{sought_on, sought_fails, sought_done}
use Rattle.dwarf_loc.proofs.search.chosen.Goals as goal

pub returns-in_err-entry : goal.returns-in_err-entry
unfolding ended_item
returns-in_err-entry g c =
    let f = g.E.Entries.item c.args.entries.now in
    let s = c.entries.invariant.so_far in
    let n : s.0 ≡ suc (s.0 - 1) = omega (arith, s.1, c.at-at.ensures.inside) in
    let failing = sought_fails f (s.0 - 1) c.entries.search c.entries.reader c.in_err-entry.field-0.0.at c.in_err-entry.ensures.item in
    let p = err_from_is_err_and c.from_residual.result c.from_residual.ensures.1 in
    record { item = rw (p.1, p.2, s.2, n) failing }

pub returns-in_default : goal.returns-in_default
unfolding ended_item
returns-in_default g c =
    let f = g.E.Entries.item c.args.entries.now in
    let s = c.entries.invariant.so_far in
    let n : s.0 ≡ suc (s.0 - 1) = omega (arith, s.1, c.at-at.ensures.inside) in
    let done = sought_done f (s.0 - 1) c.entries.search c.entries.reader c.read.new.reader (rw c.in_default.is at c.in_ok-entry.ensures.item) in
    record { item = rw (s.2, n, c.first_of.ensures) done }

pub entries-preserved : goal.entries-preserved
entries-preserved g c =
    let f = g.E.Entries.item c.args.entries.now in
    let s = c.entries.invariant.so_far in
    let n : s.0 ≡ suc (s.0 - 1) = omega (arith, s.1, c.at-at.ensures.inside) in
    let on = sought_on f (s.0 - 1) c.entries.search c.entries.reader c.read.new.reader c.in-Some.entry (rw c.in-Some.is at c.in_ok-entry.ensures.item) in
    record {
      so_far = (
        s.0 - 1,
        omega (arith, s.1, c.at-at.ensures.inside, c.in_ok-entry.ensures.moves.0, ap length c.in_ok-entry.ensures.moves.1),
        rw c.take-search.ensures (s.2 ∙ ap (λ k. mapped (sought c.entries.search) (ended_from f k) c.entries.reader) n ∙ on),
      );
      stays = grind arith;
    }
