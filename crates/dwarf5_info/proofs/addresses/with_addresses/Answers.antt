use Rattle.std.proofs.Common.{◌≡◌, ◌-◌, suc, length, take, drop, ap, arith, ◌∙◌}
use Rattle.std.specs.Prelude.{slice_range}
use Rattle.dwarf_loc.specs.Addresses.{address_of}
use Rattle.wasm_bytes.specs.Place.{Place}
use Rattle.dwarf5_info.specs.Plain.{plain}
use Rattle.dwarf5_info.proofs.Turns.{start, turn, rest, stop, sliced}
use Rattle.dwarf5_info.proofs.addresses.with_addresses.Goals as goal

pub operators-preserved : goal.operators-preserved
operators-preserved c =
    let s = c.operators.invariant.so_far in
    let same = ap length c.in-Ok.ensures.moves.1 in
    let n : s.0 ≡ suc (s.0 - 1) = omega (arith, s.1, c.in-Ok.ensures.moves.0, c.at-to.ensures.inside, same) in
    let operator = sliced c.args.expr.now c.at-from.result c.at-to.result c.operators.reader c.read_address.new.reader c.at-from.ensures.is c.at-to.ensures.is c.operators.invariant.block in
    record {
      so_far = (
        s.0 - 1,
        omega (arith, s.1, c.in-Ok.ensures.moves.0, c.at-to.ensures.inside, same),
        turn (address_of c.args.addresses.now) _ c.operators.plain c.push_operator.new.plain (slice_range c.args.expr.now c.at-from.result c.at-to.result) (s.0 - 1) c.operators.reader c.read_address.new.reader c.in-Ok.address
            (rw n at s.2) c.in-Ok.ensures.item operator c.in_ok-push_operator.ensures,
      );
      block = c.in-Ok.ensures.moves.1 ∙ c.operators.invariant.block;
    }

pub operators-init : goal.operators-init
operators-init c = record {
  so_far = start (address_of c.args.addresses.now) c.args.expr.now c.new-plain.result c.new-reader.result c.new-plain.ensures c.new-reader.ensures;
  block = ap (λ (p : Place). p.block) c.new-reader.ensures;
}

pub returns-in_default : goal.returns-in_default
returns-in_default c =
    let s = c.operators.invariant.so_far in
    let left = rest c.args.expr.now c.at-from.result c.operators.reader c.at-from.ensures.is c.operators.invariant.block in
    record {
      exact = stop (address_of c.args.addresses.now) (plain (address_of c.args.addresses.now) c.args.expr.now) c.operators.plain c.extend_from_slice.new.self (take (length c.args.expr.now - c.at-from.result) (drop c.at-from.result c.args.expr.now)) s.0 c.in_default.field-0.at c.operators.reader
          s.2 c.in_default.ensures.item left (c.in_ok-extend_from_slice.ensures {u = tt}).ok;
    }
