use Rattle.std.proofs.Common.{◌∙◌, ap, inl, inr, refl}
use Rattle.wasm_syntax.specs.Tree.{item_of}
use Rattle.dump_match.specs.inner.Stands.{Stands, count_shown}
use Rattle.dump_match.proofs.Spots.{shown_count}
use Rattle.dump_match.proofs.frames.operand_count.Goals as goal

pub returns-in-Some : goal.returns-in-Some
returns-in-Some c =
    let m = c.args.m.now in
    let f = c.args.frame.now in
    let x = c.in-Some.stand in
    let st : Stands m f x = c.in-Some.ensures in
    let same = c.parts.ensures.value ∙ c.module.ensures.value in
    let n = c.shown_count.ensures.count st.body.targets ∙ ap (λ y. count_shown y (item_of st.body.targets x.code) c.args.i x.height) same in
    inl (shown_count m f x st c.args.i c.shown_count.result n c.shown_count.ensures.most)

pub returns-in-None : goal.returns-in-None
returns-in-None c = inr (c.in-None.ensures, refl)
