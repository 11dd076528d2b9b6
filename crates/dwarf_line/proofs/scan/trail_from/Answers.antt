use Rattle.std.proofs.Common.{◌≡◌, ◌<◌, ℕ, List, length, None, Some, sym, subst, ◌∙◌, arith}
use Rattle.dwarf_line.specs.declared.scan.Stride.{Stride}
use Rattle.dwarf_line.specs.inner.Scans.{Lead, IsRest}
use Rattle.dwarf_line.proofs.ScanLaws.{rest_end, rest_fails, leads_by, lead_more}
use Rattle.dwarf_line.proofs.scan.trail_from.Goals as goal

pub returns-in_default-read_effect : goal.returns-in_default-read_effect
returns-in_default-read_effect c =
    let inside : c.opcodes.reader.at < length c.opcodes.reader.block = omega arith in
    let fails = rest_fails c.args.parameters.now c.opcodes.reader.block c.opcodes.reader.at _ inside c.in_default-read_effect.ensures.item in
    (c.opcodes.reader.at, c.opcodes.invariant.way, subst (λ (block : List ℕ). IsRest c.args.parameters.now block c.opcodes.reader.at None) c.opcodes.invariant.block fails)

pub opcodes-preserved : goal.opcodes-preserved
opcodes-preserved c =
    let h = c.args.parameters.now in
    let old = c.args.reader.now in
    let inside : c.opcodes.reader.at < length c.opcodes.reader.block = omega arith in
    let x : Stride = record { at = c.at-at.result; effect = c.in-Ok.effect } in
    let at : c.at-at.result ≡ c.opcodes.reader.at = c.at-at.ensures.is in
    let leads = leads_by h old.block c.opcodes.reader c.read_effect.new.reader x c.opcodes.invariant.block at c.in-Ok.ensures.item c.in-Ok.ensures.moves inside in
    let way = subst (λ (k : ℕ). Lead h old.block old.at c.opcodes.strides.items k) (sym at) c.opcodes.invariant.way in
    record {
      way = subst (λ (xs : List Stride). Lead h old.block old.at xs c.read_effect.new.reader.at) (sym c.in_ok-push.ensures.items) (lead_more h old.block old.at c.opcodes.strides.items x c.read_effect.new.reader.at way leads);
      block = c.in-Ok.ensures.moves.1 ∙ c.opcodes.invariant.block;
    }

pub returns : goal.returns
returns c =
    let at : c.opcodes.reader.at ≡ length c.opcodes.reader.block = omega (arith, c.at-at-2.ensures.inside) in
    let ends = rest_end c.args.parameters.now c.opcodes.reader.block c.opcodes.reader.at at in
    let told = subst (λ o. IsRest c.args.parameters.now c.opcodes.reader.block c.opcodes.reader.at (Some o)) (sym c.no_outline.ensures) ends in
    (c.opcodes.reader.at, c.opcodes.invariant.way, subst (λ (block : List ℕ). IsRest c.args.parameters.now block c.opcodes.reader.at (Some c.no_outline.result)) c.opcodes.invariant.block told)
