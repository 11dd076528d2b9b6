use Rattle.std.proofs.Common.{sym, ap, subst, ◌∙◌, arith}
use Rattle.std.proofs.lemmas.Result.{IfOk-weaker}
use Rattle.wasm_bytes.specs.declared.faults.ItemFault.{ItemFault}
use Rattle.wasm_bytes.specs.calls.Answers.{Fails}
use Rattle.dwarf_line.specs.calls.Hulls.{hull_if}
use Rattle.dwarf_line.specs.Parameters.{Parameters}
use Rattle.dwarf_line.specs.inner.Scans.{entered_item, bounds_item}
use Rattle.dwarf_line.proofs.ScanLaws.{scan_read, scan_fails}
use Rattle.dwarf_line.proofs.Standing.{none_behind}
use Rattle.dwarf_line.proofs.scan.scan.Goals as goal

pub returns-then-at-section-clause-bounds : goal.returns-then-at-section-clause-bounds
returns-then-at-section-clause-bounds g c =
    sym (ap hull_if (none_behind (g.V.Versions.layouts c.args.versions.now) c.args.section.now c.args.at (omega (arith, c.if-at-section.true))))

pub returns-in-Ok-clause-bounds : goal.returns-in-Ok-clause-bounds
returns-in-Ok-clause-bounds g c =
    let q = c.enter.new.reader in
    IfOk-weaker c.bounds_behind.result _ _
    (λ bounds is. scan_read (g.V.Versions.layouts c.args.versions.now) c.args.section.now c.args.at c.starting_at-reader.result q c.in-Ok.header bounds c.starting_at-reader.ensures c.in-Ok.ensures.item
    (is ∙ ap (λ (h : Parameters). bounds_item h q) c.parameters_of-parameters.ensures))
    c.bounds_behind.ensures.bounds

pub returns-in-Err-At-clause-bounds : goal.returns-in-Err-At-clause-bounds
returns-in-Err-At-clause-bounds g c =
    let versions = g.V.Versions.layouts c.args.versions.now in
    let enters = subst (λ (e : ItemFault). Fails e (entered_item versions c.starting_at-reader.result)) c.in-Err-At.field-0-is c.in-Err-At.ensures.item in
    scan_fails versions c.args.section.now c.args.at c.starting_at-reader.result c.in-Err-At.field-0-0 c.starting_at-reader.ensures enters
