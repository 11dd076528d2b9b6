use Rattle.std.proofs.Common.{◌∙◌, ◌<◌, List, Some, length, sym, ap, arith}
use Rattle.dwarf_info.specs.declared.entry.Entry.{Entry}
use Rattle.dwarf_entries.specs.Standing.{Standing, stands}
use Rattle.dwarf_entries.specs.inner.Numbered.{numbered}
use Rattle.dwarf_entries.proofs.Placed.{numbered_at}
use Rattle.dwarf_entries.proofs.search.numbered.Goals as goal

pub returns : goal.returns
returns c =
    let es = c.as_slice-entries.result.now in
    let e = c.index-entries-number.result in
    let lt : c.args.number < length es = omega arith in
    let here = numbered_at c.args.unit.now es c.args.number e lt c.index-entries-number.is in
    ap (λ (x : Standing). Some x) (c.new.ensures ∙ ap (λ (b : List Entry). stands c.args.unit.now e b) c.rest_behind-rest.ensures)
    ∙ sym here ∙ ap (λ (xs : List Entry). numbered c.args.unit.now xs c.args.number) c.as_slice-entries.ensures
