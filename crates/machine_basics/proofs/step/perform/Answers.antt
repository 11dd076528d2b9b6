use Rattle.std.proofs.Common.{◌∙◌, ap}
use Rattle.wasm_syntax.specs.declared.instruction.Basic.TheVariants as basics
use Rattle.machine_basics.proofs.InFrames.{acts_did, moves_did, changes_did}
use Rattle.machine_basics.proofs.step.perform.Goals as goal

pub returns-in-Drop-clause-effect : goal.returns-in-Drop-clause-effect
returns-in-Drop-clause-effect c = λ w operands locals below h e b. acts_did _ _ c.in-Drop.is w operands locals below _ _ _ c.args.values.now h e (c.drop_top.ensures.effect w locals)

pub returns-in-Select-clause-effect : goal.returns-in-Select-clause-effect
returns-in-Select-clause-effect c = λ w operands locals below h e b. acts_did _ _ c.in-Select.is w operands locals below _ _ _ c.args.values.now h e (c.select.ensures.effect w locals)

pub returns-in-Const-clause-effect : goal.returns-in-Const-clause-effect
returns-in-Const-clause-effect c = λ w operands locals below h e b. acts_did _ _ c.in-Const.is w operands locals below _ _ _ c.args.values.now h e (c.constant.ensures.effect w locals)

pub returns-in-Eqz-I32-clause-effect : goal.returns-in-Eqz-I32-clause-effect
returns-in-Eqz-I32-clause-effect c = λ w operands locals below h e b. acts_did _ _ (c.in-Eqz-I32.is ∙ ap (λ t. basics.Eqz t) (rw c.in-Eqz-I32.is at c.in-Eqz-I32.field-0-is)) w operands locals below _ _ _ c.args.values.now h e (c.eqz.ensures.effect w locals)

pub returns-in-Eqz-I64-clause-effect : goal.returns-in-Eqz-I64-clause-effect
returns-in-Eqz-I64-clause-effect c = λ w operands locals below h e b. acts_did _ _ (c.in-Eqz-I64.is ∙ ap (λ t. basics.Eqz t) (rw c.in-Eqz-I64.is at c.in-Eqz-I64.field-0-is)) w operands locals below _ _ _ c.args.values.now h e (c.eqz-in-Eqz-I64.ensures.effect w locals)

pub returns-in-Unary-clause-effect : goal.returns-in-Unary-clause-effect
returns-in-Unary-clause-effect c = λ w operands locals below h e b. acts_did _ _ c.in-Unary.is w operands locals below _ _ _ c.args.values.now h e (c.unary.ensures.effect w locals)

pub returns-in-Compare-I32-default-clause-effect : goal.returns-in-Compare-I32-default-clause-effect
returns-in-Compare-I32-default-clause-effect c = λ w operands locals below h e b. acts_did _ _ (c.in-Compare-I32-default.is ∙ ap (λ t. basics.Compare t c.in-Compare-I32-default.op) (rw c.in-Compare-I32-default.is at c.in-Compare-I32-default.field-0-is)) w operands locals below _ _ _ c.args.values.now h e (c.compare.ensures.effect w locals)

pub returns-in-Compare-I64-default-clause-effect : goal.returns-in-Compare-I64-default-clause-effect
returns-in-Compare-I64-default-clause-effect c = λ w operands locals below h e b. acts_did _ _ (c.in-Compare-I64-default.is ∙ ap (λ t. basics.Compare t c.in-Compare-I64-default.op) (rw c.in-Compare-I64-default.is at c.in-Compare-I64-default.field-0-is)) w operands locals below _ _ _ c.args.values.now h e (c.compare_64.ensures.effect w locals)

pub returns-in-Binary-I32-default-clause-effect : goal.returns-in-Binary-I32-default-clause-effect
returns-in-Binary-I32-default-clause-effect c = λ w operands locals below h e b. acts_did _ _ (c.in-Binary-I32-default.is ∙ ap (λ t. basics.Binary t c.in-Binary-I32-default.op) (rw c.in-Binary-I32-default.is at c.in-Binary-I32-default.field-0-is)) w operands locals below _ _ _ c.args.values.now h e (c.binary.ensures.effect w locals)

pub returns-in-Binary-I64-default-clause-effect : goal.returns-in-Binary-I64-default-clause-effect
returns-in-Binary-I64-default-clause-effect c = λ w operands locals below h e b. acts_did _ _ (c.in-Binary-I64-default.is ∙ ap (λ t. basics.Binary t c.in-Binary-I64-default.op) (rw c.in-Binary-I64-default.is at c.in-Binary-I64-default.field-0-is)) w operands locals below _ _ _ c.args.values.now h e (c.binary_64.ensures.effect w locals)

pub returns-in-Convert-clause-effect : goal.returns-in-Convert-clause-effect
returns-in-Convert-clause-effect c = λ w operands locals below h e b. acts_did _ _ c.in-Convert.is w operands locals below _ _ _ c.args.values.now h e (c.convert.ensures.effect w locals)

pub returns-in-Extend32-clause-effect : goal.returns-in-Extend32-clause-effect
returns-in-Extend32-clause-effect c = λ w operands locals below h e b. acts_did _ _ c.in-Extend32.is w operands locals below _ _ _ c.args.values.now h e (c.extend_32.ensures.effect w locals)

pub returns-in-Extend64-clause-effect : goal.returns-in-Extend64-clause-effect
returns-in-Extend64-clause-effect c = λ w operands locals below h e b. acts_did _ _ c.in-Extend64.is w operands locals below _ _ _ c.args.values.now h e (c.extend_64.ensures.effect w locals)

pub returns-in-Load-clause-effect : goal.returns-in-Load-clause-effect
returns-in-Load-clause-effect c = λ w operands locals below h e b. acts_did _ _ c.in-Load.is w operands locals below _ _ _ c.args.values.now h e (c.load.ensures.effect w locals c.in-Load.field-1 h)

pub returns-in-LocalGet-clause-effect : goal.returns-in-LocalGet-clause-effect
returns-in-LocalGet-clause-effect c = λ w operands locals below h e b. moves_did _ _ c.in-LocalGet.is w operands locals below _ _ _ h (c.local_get.ensures.effect w operands locals below e b)

pub returns-in-LocalSet-clause-effect : goal.returns-in-LocalSet-clause-effect
returns-in-LocalSet-clause-effect c = λ w operands locals below h e b. moves_did _ _ c.in-LocalSet.is w operands locals below _ _ _ h (c.local_set.ensures.effect w operands locals below e b)

pub returns-in-LocalTee-clause-effect : goal.returns-in-LocalTee-clause-effect
returns-in-LocalTee-clause-effect c = λ w operands locals below h e b. moves_did _ _ c.in-LocalTee.is w operands locals below _ _ _ h (c.local_tee.ensures.effect w operands locals below e b)

pub returns-in-GlobalSet-clause-effect : goal.returns-in-GlobalSet-clause-effect
returns-in-GlobalSet-clause-effect c = λ w operands locals below h e b. changes_did _ _ c.in-GlobalSet.is w operands locals below _ _ _ c.args.values.now e (c.global_set.ensures.effect w locals h)

pub returns-in-Store-clause-effect : goal.returns-in-Store-clause-effect
returns-in-Store-clause-effect c = λ w operands locals below h e b. changes_did _ _ c.in-Store.is w operands locals below _ _ _ c.args.values.now e (c.store.ensures.effect w locals c.in-Store.field-1 h)

pub returns-in-MemoryGrow-clause-effect : goal.returns-in-MemoryGrow-clause-effect
returns-in-MemoryGrow-clause-effect c = λ w operands locals below h e b. changes_did _ _ c.in-MemoryGrow.is w operands locals below _ _ _ c.args.values.now e (c.grow.ensures.effect w locals h)

pub returns-in-MemoryCopy-clause-effect : goal.returns-in-MemoryCopy-clause-effect
returns-in-MemoryCopy-clause-effect c = λ w operands locals below h e b. changes_did _ _ c.in-MemoryCopy.is w operands locals below _ _ _ c.args.values.now e (c.copy.ensures.effect w locals h)

pub returns-in-MemoryFill-clause-effect : goal.returns-in-MemoryFill-clause-effect
returns-in-MemoryFill-clause-effect c = λ w operands locals below h e b. changes_did _ _ c.in-MemoryFill.is w operands locals below _ _ _ c.args.values.now e (c.fill.ensures.effect w locals h)
