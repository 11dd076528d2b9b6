use Rattle.std.proofs.Common.{◌≡◌, List, length, subst, sym, ap, cond, Some, ◌∙◌, arith}
use Rattle.std.specs.Ordering.{nat_cmp}
use Rattle.std.specs.BTreeMap.{get, is_at}
use Rattle.wasm_decode.specs.Names.{Named, with_name}
use Rattle.wasm_decode.specs.inner.NamePlaces.{ArePlaced}
use Rattle.wasm_decode.proofs.NamePlaces.{Kept, new_kept, old_kept}
use Rattle.wasm_decode.proofs.name_section.Names.add.Goals as goal

kept : (c : goal.In-Ok) → Kept c.self.inside.names.items (c.args.index, c.args.name) (get nat_cmp c.insert.new.self)
kept c =
    let size : c.len-place.result ≡ length c.self.inside.names.items = omega (arith, c.len-place.ensures) in
    new_kept c.self.inside.names.items (c.args.index, c.args.name) (get nat_cmp c.self.inside.places) (get nat_cmp c.insert.new.self) c.self.invariant (sym c.contains_key.ensures ∙ c.if-contains_key.false) (λ q. c.in-Ok.ensures.updates.0 q ∙ ap (λ n. cond (is_at (nat_cmp c.args.index) q) (Some n) (get nat_cmp c.self.inside.places q)) size)

pub invariant_of-self-in-Ok : goal.invariant_of-self-in-Ok
invariant_of-self-in-Ok c = subst (λ (names : List Named). ArePlaced names (get nat_cmp c.insert.new.self)) (sym c.in_ok-push.ensures.items) (kept c).0

pub returns-in-Ok : goal.returns-in-Ok
returns-in-Ok c = c.in_ok-push.ensures.items ∙ (kept c).1 ∙ ap (λ (names : List Named). with_name names (c.args.index, c.args.name)) c.self.view_is

pub returns-then-contains_key : goal.returns-then-contains_key
returns-then-contains_key c = sym c.self.view_is ∙ old_kept c.self.inside.names.items (c.args.index, c.args.name) (get nat_cmp c.self.inside.places) c.self.invariant (sym c.contains_key.ensures ∙ c.if-contains_key.true) ∙ ap (λ (names : List Named). with_name names (c.args.index, c.args.name)) c.self.view_is
