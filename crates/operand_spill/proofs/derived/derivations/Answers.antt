use Rattle.std.proofs.Common.{◌∙◌, ◌++◌, ◌/◌, List, length, map, take, ap, ap₂, sym, arith}
use Rattle.std.proofs.lemmas.List.{length-map}
use Rattle.wasm_syntax.specs.Tree.{code_of}
use Rattle.rewrite_bodies.specs.calls.Slots.{Derivation}
use Rattle.rewrite_bodies.specs.calls.Derived.{derived_in}
use Rattle.rewrite_code.specs.calls.KeptDerivations.{derivation}
use Rattle.operand_spill.specs.inner.Deriving.{Here, candidate, known, found_along}
use Rattle.operand_spill.proofs.Derivings.{derived_begin, derived_turn, derived_end}
use Rattle.operand_spill.proofs.derived.derivations.Goals as goal

pub loop-pc-init : goal.loop-pc-init
loop-pc-init c = record {
  few = omega (arith, ap length c.new-kept.ensures);
  left = λ targets tree w.
      let locals = c.args.locals.now in
      let os = c.args.exposed.now in
      let most = length locals / 3 in
      ap₂ (λ (ds : List Derivation) (h : Here). take most (ds ++ found_along (candidate c.parameter_count.result c.args.locals.now c.in_ok-times.times) os h (code_of targets c.args.ops.now))) (ap (map derivation) c.new-kept.ensures) c.new-recent.ensures
      ∙ derived_begin c.parameter_count.result locals c.in_ok-times.times os targets c.args.ops.now tree w (c.in_ok-times.ensures targets tree w)
      ∙ ap (λ n. derived_in n locals os tree.nodes) c.parameter_count.ensures;
}

pub loop-pc-preserved : goal.loop-pc-preserved
loop-pc-preserved c = record {
  few = c.in_ok-keep.ensures.few c.loop-pc.invariant.few;
  left = λ targets tree w.
      derived_turn (length c.args.locals.now / 3) (candidate c.parameter_count.result c.args.locals.now c.in_ok-times.times) c.args.exposed.now targets c.args.ops.now c.loop-pc.pc c.read_op-op.result (known c.loop-pc.recent) (known c.pass.new.self)
      (map derivation c.loop-pc.kept) (map derivation c.keep.new.kept) _ _ _ c.read_op-op.ensures (c.in_ok-pass.ensures targets) (sym (length-map c.loop-pc.kept derivation)) c.in_ok-keep.ensures.list (c.found.ensures targets)
      (c.loop-pc.invariant.left targets tree w);
}

pub returns : goal.returns
returns c = λ targets tree w.
    derived_end (length c.args.locals.now / 3) (candidate c.parameter_count.result c.args.locals.now c.in_ok-times.times) c.args.exposed.now targets c.args.ops.now c.loop-pc.pc (known c.loop-pc.recent) (map derivation c.loop-pc.kept) _
    (omega (arith, c.loop-pc-test.false)) (omega (arith, c.loop-pc.invariant.few, length-map c.loop-pc.kept derivation)) (c.loop-pc.invariant.left targets tree w)
