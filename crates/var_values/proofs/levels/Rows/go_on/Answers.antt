use Rattle.std.proofs.Common.{◌≡◌, ◌+◌, ◌-◌, Some, ap, arith}
use Rattle.var_values.proofs.RowLaws.{IsTaken, next_fits, next_sound, next_keeps, ended_sound, ended_keeps}
use Rattle.var_values.proofs.levels.Rows.go_on.Goals as goal

pub begin_next-requires-clause-fits : goal.begin_next-requires-clause-fits
begin_next-requires-clause-fits c =
    let number : c.args.self.now.opened ≡ c.args.self.now.opened - 1 + 1 = omega (arith, c.requires.open) in
    let taken : IsTaken c.args.array.now c.args.self.now (c.args.self.now.opened - 1) c.level_at-level.result c.in-Some.begun c.take_row.new.begun =
    record { none = c.requires.pending; number = number; «open» = c.requires.open; level = c.level_at-level.ensures; was = c.in-Some.ensures.some.0; same = c.in-Some.ensures.some.1 } in
    next_fits c.args.array.now c.args.self.now (c.args.self.now.opened - 1) c.level_at-level.result c.in-Some.begun c.take_row.new.begun taken c.requires.sound

pub returns-in_ok-at-in-Some-clause-sound : goal.returns-in_ok-at-in-Some-clause-sound
returns-in_ok-at-in-Some-clause-sound c =
    let number : c.args.self.now.opened ≡ c.args.self.now.opened - 1 + 1 = omega (arith, c.requires.open) in
    let taken : IsTaken c.args.array.now c.args.self.now (c.args.self.now.opened - 1) c.level_at-level.result c.in-Some.begun c.take_row.new.begun =
    record { none = c.requires.pending; number = number; «open» = c.requires.open; level = c.level_at-level.ensures; was = c.in-Some.ensures.some.0; same = c.in-Some.ensures.some.1 } in
    next_sound c.args.array.now c.args.self.now (c.args.self.now.opened - 1) c.level_at-level.result c.in-Some.begun c.take_row.new.begun c.begin_next.new.begun (Some c.in_ok-at-in-Some.at) taken
    (ap Some c.in_ok-at-in-Some.ensures.at) c.in_ok-at-in-Some.ensures.begun c.requires.sound

pub returns-in_ok-at-in-Some-clause-keeps : goal.returns-in_ok-at-in-Some-clause-keeps
returns-in_ok-at-in-Some-clause-keeps c = λ item.
    let number : c.args.self.now.opened ≡ c.args.self.now.opened - 1 + 1 = omega (arith, c.requires.open) in
    let taken : IsTaken c.args.array.now c.args.self.now (c.args.self.now.opened - 1) c.level_at-level.result c.in-Some.begun c.take_row.new.begun =
    record { none = c.requires.pending; number = number; «open» = c.requires.open; level = c.level_at-level.ensures; was = c.in-Some.ensures.some.0; same = c.in-Some.ensures.some.1 } in
    next_keeps c.args.text.now c.begin_next.new.text item c.args.array.now c.args.self.now (c.args.self.now.opened - 1) c.level_at-level.result c.in-Some.begun c.take_row.new.begun c.begin_next.new.begun
    (Some c.in_ok-at-in-Some.at) c.in_ok-at-in-Some.ensures.text taken (ap Some c.in_ok-at-in-Some.ensures.at) c.in_ok-at-in-Some.ensures.begun c.requires.sound

pub returns-in_ok-push_end-in-None-clause-sound : goal.returns-in_ok-push_end-in-None-clause-sound
returns-in_ok-push_end-in-None-clause-sound c =
    let number : c.args.self.now.opened ≡ c.args.self.now.opened - 1 + 1 = omega (arith, c.requires.open) in
    ended_sound c.args.array.now c.args.self.now (c.args.self.now.opened - 1) c.take_row.new.begun c.requires.pending number c.requires.open c.in-None.ensures.none.0 c.in-None.ensures.none.1 c.requires.sound

pub returns-in_ok-push_end-in-None-clause-keeps : goal.returns-in_ok-push_end-in-None-clause-keeps
returns-in_ok-push_end-in-None-clause-keeps c = λ item.
    let number : c.args.self.now.opened ≡ c.args.self.now.opened - 1 + 1 = omega (arith, c.requires.open) in
    ended_keeps c.args.text.now c.push_end.new.text item c.args.array.now c.args.self.now c.level_at-level.result (c.args.self.now.opened - 1) c.take_row.new.begun c.in_ok-push_end-in-None.ensures
    c.level_at-level.ensures c.requires.pending number c.requires.open c.in-None.ensures.none.0 c.in-None.ensures.none.1 c.requires.sound
