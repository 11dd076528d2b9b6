use Rattle.std.proofs.Common.{[]}
use Rattle.pm_outside.specs.calls.Answers.{Appends}
use Rattle.pm_outside.specs.Written.{HasFile, Leaves}
use Rattle.pm_outside.proofs.Leavings.{then_told}
use Rattle.pm_outside.proofs.WrittenFile.{filled}
use Rattle.pm_outside.proofs.write.write_file.Goals as goal

pub returns-in-Done-clause-content : goal.returns-in-Done-clause-content
returns-in-Done-clause-content g c =
    let name = c.args.name.now in
    let bytes = c.args.bytes.now in
    let answer = c.append.result in
    then_told (HasFile name []) (Appends name bytes answer) (Leaves name bytes answer) (g.F.Files.told c.args.files.now) (g.F.Files.told c.create.new.self) (g.F.Files.told c.append.new.self)
    (λ o m n. filled answer name bytes o m n) c.in-Done.ensures.content c.append.ensures.content
