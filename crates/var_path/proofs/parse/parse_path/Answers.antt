use Rattle.var_path.proofs.Sound.{exactly}
use Rattle.var_path.proofs.parse.parse_path.Goals as goal

pub returns-clause-spelled : goal.returns-clause-spelled
returns-clause-spelled c = λ q. exactly c.args.text.now c.in_ok-path.path c.in_ok-path.ensures q
