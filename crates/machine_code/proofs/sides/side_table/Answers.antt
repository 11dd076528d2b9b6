use Rattle.std.proofs.Common.{◌≡◌, List, ◌∙◌, sym, ap, subst, drop, refl, arith}
use Rattle.std.proofs.Math.Seq.{drop-length}
use Rattle.wasm_syntax.specs.Tree.{code_of}
use Rattle.machine_code.specs.declared.sides.Side.{Side}
use Rattle.machine_code.specs.inner.Sides.{Scan, scan}
use Rattle.machine_code.specs.calls.Flat.{Stands}
use Rattle.machine_code.proofs.Table.{table_stands, read_back}
use Rattle.machine_code.proofs.sides.side_table.Goals as goal

pub loop-index-init : goal.loop-index-init
loop-index-init c = record {
  within = omega arith;
  so_far = λ targets. rw (c.new-opens.ensures, c.new-sides.ensures.items, drop-length c.args.ops.now) refl;
}

pub loop-index-preserved : goal.loop-index-preserved
loop-index-preserved c = record {
  within = omega arith;
  so_far = λ targets. read_back c.args.ops.now targets c.loop-index.index _ _ _ c.loop-index-test.true c.loop-index.invariant.within (c.loop-index.invariant.so_far targets) (c.in_ok-read_one.ensures targets);
}

pub returns : goal.returns
returns c = λ targets tree w.
    let code = code_of targets c.args.ops.now in
    let z : c.loop-index.index ≡ 0 = omega arith in
    let e : c.from_vec.result ≡ (scan 0 code).sides = c.from_vec.ensures ∙ c.reverse.ensures.items ∙ ap (λ (s : Scan). s.sides) (c.loop-index.invariant.so_far targets) ∙ ap (λ i. (scan i (code_of targets (drop i c.args.ops.now))).sides) z in
    subst (λ (s : List Side). Stands code s tree) (sym e) (table_stands code tree w)
