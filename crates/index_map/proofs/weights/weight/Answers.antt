use Rattle.std.proofs.Common.{ℕ, ◌+◌, ◌*◌, ◌^◌, ◌<◌, ◌≤◌, List, length, sym, ap, ◌∙◌, subst, arith}
use Rattle.wasm_syntax.specs.declared.module.ModuleParts.{ModuleParts as Module}
use Rattle.wasm_syntax.specs.Module.{type_at}
use Rattle.wasm_syntax.specs.Run.{table_min}
use Rattle.wasm_syntax.specs.Sizes.{local_count}
use Rattle.wasm_syntax.specs.Valid.{AtIndex}
use Rattle.rewrite_modules.specs.Weight.{bodies_weight, exports_weight, start_weight}
use Rattle.index_map.proofs.Bounds.{weight_fits}
use Rattle.index_map.proofs.weights.weight.Goals as goal

-- the weight, by how many types are used
abbrev summed : Module → List (List ℕ) → ℕ → ℕ
summed m heights types = 512 + 8 * m.plain_bytes + bodies_weight m heights 0 m.bodies + types * (128 + 5 * table_min m.tables) + exports_weight m m.exports + start_weight m m.start

pub total-requires : goal.total-requires
total-requires c =
    let m = c.args.numbers.now in
    let short = c.requires.limits.short in
    let same = sym c.source.ensures in
    record {
      few = subst (λ (x : Module). length x.imports + length x.bodies < 2 ^ 64) same (omega (arith, short.functions, short.bodies));
      locals = subst (λ (x : Module). AtIndex x.bodies (λ i body. local_count (type_at x (length x.imports + i)) body ≤ 16384)) same c.requires.limits.locals;
      fits = subst (λ (x : Module). summed x c.args.heights.now (length c.helped.result.now) < 2 ^ 64) same
          (subst (λ (n : ℕ). summed m c.args.heights.now n < 2 ^ 64) (ap length (sym c.helped.ensures.flat)) (weight_fits m c.args.heights.now c.requires.sized c.requires.limits c.requires.low));
    }

pub returns : goal.returns
returns c =
    let m = c.args.numbers.now in
    c.total.ensures ∙ ap (λ (x : Module). summed x c.args.heights.now (length c.helped.result.now)) c.source.ensures ∙ ap (λ (n : ℕ). summed m c.args.heights.now n) (ap length c.helped.ensures.flat)
