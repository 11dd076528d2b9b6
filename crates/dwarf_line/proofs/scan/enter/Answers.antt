use Rattle.std.proofs.Common.{◌≡◌, List, ℕ, length, take, subst, sym, ◌∙◌}
use Rattle.dwarf_line.proofs.ScanLaws.{unit_taken}
use Rattle.dwarf_line.proofs.scan.enter.Goals as goal

pub returns-in-Ok-clause-block : goal.returns-in-Ok-clause-block
returns-in-Ok-clause-block g c =
    let same = c.in-Ok.ensures.stays.1 ∙ c.in_ok-version.ensures.stays.1 in
    subst (λ (block : List ℕ). block ≡ take (length block) c.args.reader.now.block) (sym same) (unit_taken c.args.reader.now c.in_ok-inner.inner c.open_unit.new.reader c.in_ok-inner.ensures.item)
