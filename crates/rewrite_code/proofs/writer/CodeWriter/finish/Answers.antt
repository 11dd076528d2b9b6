use Rattle.std.proofs.Common.{◌≡◌, sym, ap, ◌∙◌, length}
use Rattle.rewrite_code.specs.inner.Numbered.{numbered}
use Rattle.rewrite_code.proofs.Numbers.{all_written, few_ascend}
use Rattle.rewrite_code.proofs.Pieces.{numbered_body}
use Rattle.rewrite_code.proofs.writer.CodeWriter.finish.Goals as goal

placed : (c : goal.After-from_vec) → c.from_vec.result ≡ numbered 0 c.self.inside.ops
placed c =
    let shown = c.deref_mut.ensures in
    c.from_vec.ensures
    ∙ all_written c.into_vec-ops.result.items c.number.new.ops c.into_vec-ops.result.len (c.number.auto.ops ∙ ap length shown.value) (sym shown.len ∙ ap length shown.value)
    ∙ c.number.ensures ∙ ap (numbered 0) (shown.value ∙ c.into_vec-ops.ensures)

pub returns-clause-code : goal.returns-clause-code
returns-clause-code c = λ nodes e.
    numbered_body c.args.groups nodes c.self.inside.ops c.from_vec.result c.self.inside.targets e (c.self.view_is ∙ c.in_ok-push.ensures) (placed c)

pub returns-clause-offsets : goal.returns-clause-offsets
returns-clause-offsets c = λ few. few_ascend c.self.inside.ops c.from_vec.result (placed c) few
