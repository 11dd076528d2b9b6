use Rattle.std.proofs.Common.{sym, subst, inr}
use Rattle.pm_outside.specs.declared.answers.WriteAnswer.TheVariants as write
use Rattle.rewrite_promise.specs.Admitted.{Admits}
use Rattle.instrument_command.proofs.WrittenFile.{written, left, fault_stops}
use Rattle.instrument_command.proofs.writing.write_rewritten.Goals as goal

pub returns-in-Done-clause-told : goal.returns-in-Done-clause-told
returns-in-Done-clause-told g c =
    let done = c.in_ok-done.ensures in
    written c.args.out.now c.args.source.now c.args.other.now c.deref.result.now (g.F.Files.told c.args.files.now) (g.F.Files.told c.write_file.new.files) c.requires.rewrites (subst (Admits c.args.source.now) (sym c.deref.ensures.value) c.in_ok-bytes.ensures)
    c.in_ok-done.done done.0 done.1 done.2 c.in-Done.ensures.content

pub returns-in-Failed-clause-stops : goal.returns-in-Failed-clause-stops
returns-in-Failed-clause-stops g c =
    fault_stops c.args.out.now c.args.source.now (g.F.Files.told c.args.files.now) (g.F.Files.told c.write_file.new.files) c.about_file.result
    (left c.args.out.now c.args.source.now c.args.other.now c.deref.result.now (g.F.Files.told c.args.files.now) (g.F.Files.told c.write_file.new.files) c.requires.rewrites (subst (Admits c.args.source.now) (sym c.deref.ensures.value) c.in_ok-bytes.ensures)
    write.Failed c.in-Failed.ensures.content) c.about_file.ensures

pub returns-in-NoMemory-clause-stops : goal.returns-in-NoMemory-clause-stops
returns-in-NoMemory-clause-stops g c =
    inr (
      tt,
      left c.args.out.now c.args.source.now c.args.other.now c.deref.result.now (g.F.Files.told c.args.files.now) (g.F.Files.told c.write_file.new.files) c.requires.rewrites (subst (Admits c.args.source.now) (sym c.deref.ensures.value) c.in_ok-bytes.ensures)
          write.NoMemory c.in-NoMemory.ensures.content,
    )
