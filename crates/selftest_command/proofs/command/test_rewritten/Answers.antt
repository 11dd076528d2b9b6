use Rattle.std.proofs.Common.{refl, inl, sym, subst}
use Rattle.selftest_command.specs.inner.Steps.{IsTaken, RunsBytes}
use Rattle.selftest_command.proofs.Imports.{no_imports, taken}
use Rattle.selftest_command.proofs.Steps.{rewritten_told, rewritten_stops, told_spelled, stops_spelled}
use Rattle.selftest_command.proofs.command.test_rewritten.Goals as goal

pub returns-in_err-rewritten-clause-names : goal.returns-in_err-rewritten-clause-names
returns-in_err-rewritten-clause-names g c = (g.F.Files.created c.args.files.now, inl refl, inl refl)

pub original_dump-requires : goal.original_dump-requires
original_dump-requires g c = no_imports c.args.count c.args.source.now c.requires.selftest

pub returns-in_err-own-clause-names : goal.returns-in_err-own-clause-names
returns-in_err-own-clause-names g c = (g.F.Files.created c.args.files.now, inl refl, inl refl)

pub run_bytes-requires : goal.run_bytes-requires
run_bytes-requires g c = subst IsTaken (sym c.deref.ensures.value) (taken c.args.count c.args.source.now c.in_ok-rewritten.rewritten.items c.requires.selftest c.in_ok-rewritten.ensures)

pub returns-in_err-done-clause-names : goal.returns-in_err-done-clause-names
returns-in_err-done-clause-names g c = (g.F.Files.created c.args.files.now, inl refl, inl refl)

pub returns-clause-told : goal.returns-clause-told
returns-clause-told g c =
    rewritten_told c.args.count c.args.source.now c.in_ok-rewritten.rewritten.items c.requires.selftest c.in_ok-rewritten.ensures (g.F.Files.told c.args.files.now) (g.F.Files.told c.write_both.new.files)
    c.in_ok-own.own.items c.in_ok-done.done c.write_both.result c.in_ok-own.ensures
    (subst (λ own. RunsBytes c.args.count own c.in_ok-rewritten.rewritten.items c.in_ok-done.done) c.deref-2.ensures.value (subst (λ b. RunsBytes c.args.count c.deref-2.result.now b c.in_ok-done.done) c.deref.ensures.value c.in_ok-done.ensures))
    (told_spelled c.args.count c.args.bytes.now c.deref-3.result.now c.in_ok-rewritten.rewritten.items (g.F.Files.told c.args.files.now) (g.F.Files.told c.write_both.new.files) c.in_ok-done.done c.write_both.result c.requires.bytes c.deref-3.ensures.value c.write_both.ensures.told)

pub returns-clause-stops : goal.returns-clause-stops
returns-clause-stops g c =
    rewritten_stops c.args.count c.args.source.now c.in_ok-rewritten.rewritten.items c.requires.selftest c.in_ok-rewritten.ensures (g.F.Files.told c.args.files.now) (g.F.Files.told c.write_both.new.files) c.write_both.result
    (stops_spelled c.args.count c.args.bytes.now c.deref-3.result.now c.in_ok-rewritten.rewritten.items (g.F.Files.told c.args.files.now) (g.F.Files.told c.write_both.new.files) c.write_both.result c.requires.bytes c.deref-3.ensures.value c.write_both.ensures.stops)
