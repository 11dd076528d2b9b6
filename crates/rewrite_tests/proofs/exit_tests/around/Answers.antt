use Rattle.std.proofs.Common.{◌≡◌, [], Some, slice_get, subst}
use Rattle.rewrite_tests.proofs.exit_tests.around.Goals as goal

pub close_body-requires : goal.close_body-requires
close_body-requires c = λ n x there. let gone : slice_get [] n ≡ Some x = subst (λ l. slice_get l n ≡ Some x) c.requires.none there in absurd (cc)
