use Rattle.std.proofs.Common.{◌+◌, ◌&&◌, get_or, drop, sym, ap, ◌∙◌}
use Rattle.wasm_syntax.specs.Module.{declared_locals}
use Rattle.wasm_syntax.specs.declared.value.ValType.TheVariants.{I32}
use Rattle.wasm_syntax.specs.declared.parts.LocalGroup.{LocalGroup}
use Rattle.dump_match.specs.Values.{have_types}
use Rattle.dump_match.proofs.ValueLaws.{group_few, group_step, next_group}
use Rattle.dump_match.proofs.values.have_declared_types.Goals as goal

none : LocalGroup
none = record { count = 0; vtype = I32 }

pub returns-then-rest-count : goal.returns-then-rest-count
unfolding none
returns-then-rest-count c =
    let gs = c.args.groups.now in
    let i = c.loop-group.group-index in
    sym (ap (λ z. have_types z c.loop-group.rest.now) (next_group gs i none c.loop-group-test.true) ∙ group_few (get_or gs i none) (drop (i + 1) gs) c.loop-group.rest.now c.if-rest-count.true) ∙ c.loop-group.invariant

pub returns-then-not-all_have_type : goal.returns-then-not-all_have_type
unfolding none
returns-then-not-all_have_type c =
    let gs = c.args.groups.now in
    let i = c.loop-group.group-index in
    let own = c.split_at.result.0.now in
    let behind = c.split_at.result.1.now in
    let step = group_step (get_or gs i none) (drop (i + 1) gs) c.loop-group.rest.now own behind c.if-rest-count.false c.split_at.ensures.front c.split_at.ensures.back c.split_at.ensures.front_len in
    sym (ap (λ z. have_types z c.loop-group.rest.now) (next_group gs i none c.loop-group-test.true) ∙ step ∙ ap (λ b. b && have_types (declared_locals (drop (i + 1) gs)) behind) (sym c.all_have_type.ensures ∙ c.if-not-all_have_type.true)) ∙ c.loop-group.invariant

pub loop-group-preserved : goal.loop-group-preserved
unfolding none
loop-group-preserved c =
    let gs = c.args.groups.now in
    let i = c.loop-group.group-index in
    let own = c.split_at.result.0.now in
    let behind = c.split_at.result.1.now in
    let step = group_step (get_or gs i none) (drop (i + 1) gs) c.loop-group.rest.now own behind c.if-rest-count.false c.split_at.ensures.front c.split_at.ensures.back c.split_at.ensures.front_len in
    sym (ap (λ z. have_types z c.loop-group.rest.now) (next_group gs i none c.loop-group-test.true) ∙ step ∙ ap (λ b. b && have_types (declared_locals (drop (i + 1) gs)) behind) (sym c.all_have_type.ensures ∙ c.if-not-all_have_type.false)) ∙ c.loop-group.invariant
