use Rattle.std.proofs.Common.{◌≡◌, sym, subst, OnOk}
use Rattle.wasm_syntax.specs.Tree.{item_of}
use Rattle.operand_spill.specs.inner.Deriving.{known, passed}
use Rattle.operand_spill.proofs.derived.Recent.pass.Goals as goal

pub returns-in-Basic : goal.returns-in-Basic
returns-in-Basic c = λ targets.
    subst (λ k. OnOk c.perform.result (known c.perform.new.self ≡ passed c.args.exposed.now (known c.args.self.now) c.args.op.at (item_of targets k))) (sym c.in-Basic.is) c.perform.ensures
