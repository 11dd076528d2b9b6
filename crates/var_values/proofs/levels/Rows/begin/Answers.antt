use Rattle.std.proofs.Common.{◌<◌, arith}
use Rattle.var_values.proofs.RowLaws.{empty_keeps, begun_sound, begun_keeps}
use Rattle.var_values.proofs.levels.Rows.begin.Goals as goal

pub returns-then-level-eq0-clause-keeps : goal.returns-then-level-eq0-clause-keeps
returns-then-level-eq0-clause-keeps c = λ item.
    empty_keeps c.args.text.now c.push_str.new.self item c.args.array.now c.args.self.now c.level_at-level.result c.args.start c.in_ok-push_str.ensures.ok c.requires.pending c.level_at-level.ensures
    c.if-level-eq0.true c.requires.within

pub returns-clause-sound : goal.returns-clause-sound
returns-clause-sound c =
    let some : 0 < c.level_at-level.result.count = omega (arith, c.if-level-eq0.false) in
    begun_sound c.args.array.now c.args.self.now c.level_at-level.result c.args.start c.keep.new.begun c.requires.pending c.level_at-level.ensures some c.requires.within c.in_ok-keep.ensures c.requires.sound

pub returns-clause-keeps : goal.returns-clause-keeps
returns-clause-keeps c = λ item.
    let some : 0 < c.level_at-level.result.count = omega (arith, c.if-level-eq0.false) in
    begun_keeps c.args.text.now c.push_str-2.new.self item c.args.array.now c.args.self.now c.level_at-level.result c.args.start c.keep.new.begun c.in_ok-push_str-2.ensures.ok c.requires.pending
    c.level_at-level.ensures some c.requires.within c.in_ok-keep.ensures c.requires.sound
