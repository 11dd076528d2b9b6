use Rattle.var_values.proofs.texts.+push_byte_digits.Given as goal

abbrev pub decreases-push_byte_digits : goal.decreases-push_byte_digits
decreases-push_byte_digits l = l.count
