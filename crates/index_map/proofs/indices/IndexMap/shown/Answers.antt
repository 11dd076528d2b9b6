use Rattle.std.proofs.Common.{◌≡◌, ℕ, ◌+◌, false, true, length, nat_lt, sym, ap, ap₂, ◌∙◌, lt-ltb, arith}
use Rattle.std.proofs.lemmas.Bool.{le-ltb}
use Rattle.wasm_syntax.specs.declared.module.ModuleParts.{ModuleParts as Module}
use Rattle.rewrite_bodies.specs.Numbering.{import_count, is_in, place_in, element_functions, table_functions, named_wrapped, doubles, wrapper_base, shown}
use Rattle.index_map.proofs.Places.{shown_low, shown_found}
use Rattle.index_map.proofs.ShownNumbers.{shown_import, shown_defined, place_fits, in_table}
use Rattle.index_map.proofs.indices.IndexMap.shown.Goals as goal

-- the function is one of the table, where it is not imported
pub place_of-requires : goal.place_of-requires
place_of-requires c = λ k e.
    let m = c.self.inside.parts.now in
    let listed = ap (λ (m : Module). is_in c.args.f (element_functions m)) c.self.view_is ∙ c.requires.there in
    let low = ap (λ (n : ℕ). nat_lt c.args.f n) (sym c.len.ensures) ∙ le-ltb c.args.f c.len.result c.if-f-len.false in
    omega (arith, shown_low _ _ _ c.self.invariant.can c.self.invariant.shown_are c.args.f k (in_table m c.args.f listed low) e, c.len-count.ensures)

pub returns-then-f-len : goal.returns-then-f-len
returns-then-f-len c =
    let low = ap (λ (m : Module). nat_lt c.args.f (length m.imports)) (sym c.self.view_is) ∙ ap (λ (n : ℕ). nat_lt c.args.f n) (sym c.len.ensures) ∙ lt-ltb c.args.f c.len.result c.if-f-len.true in
    shown_import c.args.self.now c.args.f low

-- the number is one of 32 bits
pub overflow_add-result : goal.overflow_add-result
overflow_add-result c =
    let m = c.self.inside.parts.now in
    let listed = ap (λ (m : Module). is_in c.args.f (element_functions m)) c.self.view_is ∙ c.requires.there in
    let low = ap (λ (n : ℕ). nat_lt c.args.f n) (sym c.len.ensures) ∙ le-ltb c.args.f c.len.result c.if-f-len.false in
    let found = shown_found _ _ _ c.self.invariant.can c.self.invariant.shown_are c.args.f c.place_of.result (in_table m c.args.f listed low) (λ k e. c.place_of.ensures k e ∙ c.len-count.ensures) in
    let twice = ap (λ (m : Module). doubles m) c.self.view_is ∙ c.requires.doubled in
    omega (arith, place_fits m c.place_of.result twice found.1, c.self.invariant.named_is, c.wrapper_base.ensures, ap wrapper_base c.self.view_is, c.self.invariant.can.few.functions)

pub overflow_cast-result : goal.overflow_cast-result
overflow_cast-result c =
    let m = c.self.inside.parts.now in
    let listed = ap (λ (m : Module). is_in c.args.f (element_functions m)) c.self.view_is ∙ c.requires.there in
    let low = ap (λ (n : ℕ). nat_lt c.args.f n) (sym c.len.ensures) ∙ le-ltb c.args.f c.len.result c.if-f-len.false in
    let found = shown_found _ _ _ c.self.invariant.can c.self.invariant.shown_are c.args.f c.place_of.result (in_table m c.args.f listed low) (λ k e. c.place_of.ensures k e ∙ c.len-count.ensures) in
    let twice = ap (λ (m : Module). doubles m) c.self.view_is ∙ c.requires.doubled in
    omega (arith, place_fits m c.place_of.result twice found.1, c.self.invariant.named_is, c.wrapper_base.ensures, ap wrapper_base c.self.view_is, c.self.invariant.can.few.functions)

pub overflow_add-result-else-f-len : goal.overflow_add-result-else-f-len
overflow_add-result-else-f-len c =
    let m = c.self.inside.parts.now in
    let listed = ap (λ (m : Module). is_in c.args.f (element_functions m)) c.self.view_is ∙ c.requires.there in
    let low = ap (λ (n : ℕ). nat_lt c.args.f n) (sym c.len.ensures) ∙ le-ltb c.args.f c.len.result c.if-f-len.false in
    let found = shown_found _ _ _ c.self.invariant.can c.self.invariant.shown_are c.args.f c.place_of.result (in_table m c.args.f listed low) (λ k e. c.place_of.ensures k e ∙ c.len-count.ensures) in
    let twice = ap (λ (m : Module). doubles m) c.self.view_is ∙ c.requires.doubled in
    omega (arith, place_fits m c.place_of.result twice found.1, c.self.invariant.named_is, c.wrapper_base.ensures, ap wrapper_base c.self.view_is, c.self.invariant.can.few.functions)

pub returns-else-f-len : goal.returns-else-f-len
returns-else-f-len c =
    let m = c.self.inside.parts.now in
    let listed = ap (λ (m : Module). is_in c.args.f (element_functions m)) c.self.view_is ∙ c.requires.there in
    let low = ap (λ (n : ℕ). nat_lt c.args.f n) (sym c.len.ensures) ∙ le-ltb c.args.f c.len.result c.if-f-len.false in
    let low_ = ap (λ (m : Module). nat_lt c.args.f (length m.imports)) (sym c.self.view_is) ∙ low in
    let found = shown_found _ _ _ c.self.invariant.can c.self.invariant.shown_are c.args.f c.place_of.result (in_table m c.args.f listed low) (λ k e. c.place_of.ensures k e ∙ c.len-count.ensures) in
    let named = c.self.invariant.named_is ∙ ap (λ (m : Module). length (named_wrapped m)) c.self.view_is in
    let place = found.0 ∙ ap (λ (m : Module). place_in c.args.f (table_functions m)) c.self.view_is in
    shown_defined c.args.self.now c.args.f low_ (ap₂ (λ a b. a + b) c.wrapper_base.ensures (ap₂ (λ a b. a + b) named place))
