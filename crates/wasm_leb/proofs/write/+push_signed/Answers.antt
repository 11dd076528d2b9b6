use Rattle.std.proofs.Common.{◌≡◌, ◌+◌, ◌∷◌, true, false, refl, arith, w64, to_z, of_z}
use Rattle.std.proofs.lemmas.Int.{ints}
use Rattle.wasm_leb.specs.Writing.{low_seven, fits_seven, signed_bytes}
use Rattle.wasm_leb.proofs.Appended.{byte_and_rest}
use Rattle.wasm_leb.proofs.SignedBytes.{one_byte, more_bytes}
use Rattle.wasm_leb.proofs.write.+push_signed.Goals as goal

pub returns-then-fits_seven-clause-exact : goal.returns-then-fits_seven-clause-exact
returns-then-fits_seven-clause-exact t c =
    let same : to_z w64 (of_z w64 c.args.v) ≡ c.args.v = omega (arith, ints) in
    let fits : fits_seven c.args.v ≡ true = cc in
    let one = one_byte c.args.v fits in
    let low : c.low_seven-low.result ≡ low_seven c.args.v = cc in
    rw (c.in_ok-push.ensures.items, one, low) refl

pub returns-clause-exact : goal.returns-clause-exact
returns-clause-exact t c =
    let same : to_z w64 (of_z w64 c.args.v) ≡ c.args.v = omega (arith, ints) in
    let above : to_z w64 (of_z w64 c.above_seven.result) ≡ c.above_seven.result = omega (arith, ints) in
    let fits_not : fits_seven c.args.v ≡ false = cc in
    let more = more_bytes c.args.v fits_not (omega (arith, ints), omega (arith, ints)) in
    let whole : signed_bytes c.args.v ≡ (c.low_seven-low.result + 128) ∷ signed_bytes (to_z w64 (of_z w64 c.above_seven.result)) = cc in
    byte_and_rest c.push_signed.result c.args.out.now.items c.push-2.new.self.items c.push_signed.new.out.items (signed_bytes (to_z w64 (of_z w64 c.above_seven.result))) (signed_bytes c.args.v) (c.low_seven-low.result + 128) c.in_ok-push-2.ensures.items whole c.push_signed.ensures.exact
