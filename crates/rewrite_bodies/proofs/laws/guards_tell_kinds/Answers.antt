use Rattle.rewrite_bodies.proofs.Guards.{guard_to}
use Rattle.rewrite_bodies.proofs.laws.guards_tell_kinds.Goals as goal

pub returns : goal.returns
returns c = λ M i C l ex X k g gg co js es ops vs below under size same mf so t h e nw. guard_to M C l size under X k g gg co ex js es ops vs below i same mf so t h e nw
