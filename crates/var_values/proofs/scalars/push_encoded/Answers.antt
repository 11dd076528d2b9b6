use Rattle.std.proofs.Common.{◌≡◌, ℕ, ◌++◌, List, Some, subst}
use Rattle.std.specs.Prelude.{pos, OnOk}
use Rattle.var_values.specs.Scalars.{is_signed, number_of}
use Rattle.var_values.proofs.ScalarLaws.{float_any, unsigned_any}
use Rattle.var_values.proofs.scalars.push_encoded.Goals as goal

pub returns-then-encoding-eq4 : goal.returns-then-encoding-eq4
returns-then-encoding-eq4 c =
    subst (λ (t : List ℕ). OnOk c.push_base.result (c.push_base.new.text ≡ c.args.text.now ++ t))
    (float_any c.args.encoding c.args.size c.args.word (pos 0) (number_of (is_signed (Some c.args.encoding)) c.args.count c.args.word) c.if-encoding-eq4.true) c.push_base.ensures

pub returns-then-encoding-eq7 : goal.returns-then-encoding-eq7
returns-then-encoding-eq7 c =
    subst (λ (t : List ℕ). OnOk c.push_unsigned.result (c.push_unsigned.new.text ≡ c.args.text.now ++ t))
    (unsigned_any c.args.encoding c.args.size c.args.word c.args.count c.if-encoding-eq7.true) c.push_unsigned.ensures
