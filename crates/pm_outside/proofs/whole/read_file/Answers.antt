use Rattle.pm_outside.proofs.Fronts.{none_said}
use Rattle.pm_outside.proofs.whole.read_file.Goals as goal

pub returns-then-count-left-clause-whole : goal.returns-then-count-left-clause-whole
returns-then-count-left-clause-whole g c = none_said (g.F.Files.told c.args.files.now)

pub returns-in-End-clause-refused : goal.returns-in-End-clause-refused
returns-in-End-clause-refused g c = none_said (g.F.Files.told c.args.files.now)

pub returns-in-Missing-clause-whole : goal.returns-in-Missing-clause-whole
returns-in-Missing-clause-whole g c = none_said (g.F.Files.told c.args.files.now)

pub returns-in-Failed-clause-whole : goal.returns-in-Failed-clause-whole
returns-in-Failed-clause-whole g c = none_said (g.F.Files.told c.args.files.now)

pub returns-in-Failed-clause-refused : goal.returns-in-Failed-clause-refused
returns-in-Failed-clause-refused g c = none_said (g.F.Files.told c.args.files.now)

pub returns-in-NoMemory-clause-whole : goal.returns-in-NoMemory-clause-whole
returns-in-NoMemory-clause-whole g c = none_said (g.F.Files.told c.args.files.now)

pub returns-in-NoMemory-clause-refused : goal.returns-in-NoMemory-clause-refused
returns-in-NoMemory-clause-refused g c = none_said (g.F.Files.told c.args.files.now)
