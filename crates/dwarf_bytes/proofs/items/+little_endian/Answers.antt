use Rattle.std.proofs.Common.{arith}
use Rattle.dwarf_bytes.proofs.Numbers.{parts_fit}
use Rattle.dwarf_bytes.proofs.items.+little_endian.Goals as goal

pub overflow_mul-result : goal.overflow_mul-result
overflow_mul-result t c =
    let all = parts_fit c.args.bytes.now c.from.result c.little_endian.result (λ i. let fits = c.type_inv.bytes i in omega (arith, fits)) c.in-len1-up.len_at_least c.requires.short c.from.ensures c.little_endian.ensures.is in
    omega (arith, all)

pub overflow_add-result : goal.overflow_add-result
overflow_add-result t c =
    let all = parts_fit c.args.bytes.now c.from.result c.little_endian.result (λ i. let fits = c.type_inv.bytes i in omega (arith, fits)) c.in-len1-up.len_at_least c.requires.short c.from.ensures c.little_endian.ensures.is in
    omega (arith, all)
