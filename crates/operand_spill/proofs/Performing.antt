-- What a basic instruction does to the places.
use Rattle.std.proofs.Common.{◌≡◌, ℕ, List, Option, option_map, refl, sym, ap, ◌∙◌}
use Rattle.wasm_syntax.specs.declared.value.Value.{Value}
use Rattle.wasm_syntax.specs.declared.instruction.Basic.{Basic}
use Rattle.wasm_syntax.specs.declared.instruction.Basic.TheVariants.{LocalGet, LocalTee, Const}
use Rattle.wasm_syntax.specs.Effect.{takes}
use Rattle.rewrite_bodies.specs.calls.Slots.{Place, Spilled, Ctx, less, pushed, result_type, result_place, freed, after_plain}
use Rattle.operand_spill.specs.calls.Walking.{Walking, with_places}
use Rattle.rewrite_bodies.proofs.Risks.{Treated, gets, sets, tees, constant, spills, treated}

-- it takes operands, frees the copies of a local, and gives something
pub performed : (C : Ctx) (i : Basic) (n : ℕ) (q : Option Place) (w u v z : Walking) → u ≡ with_places w (less n w.places) → v ≡ with_places u (freed i u.places) → takes i ≡ n → q ≡ result_place C w.places i →
    z ≡ with_places v (pushed q v.places) → z ≡ with_places w (after_plain C w.places i)
performed C i n q w u v z taken free count gives given =
    given ∙ ap (λ (x : Walking). with_places x (pushed q x.places)) (free ∙ ap (λ (x : Walking). with_places x (freed i x.places)) taken)
    ∙ ap (λ m. with_places w (pushed q (freed i (less m w.places)))) (sym count)
    ∙ ap (λ r. with_places w (pushed r (freed i (less (takes i) w.places)))) gives

-- but for a constant and a copy of a local, what an instruction gives is in its slot alone
placed_as : (C : Ctx) (es : List Place) (i : Basic) → Treated i → ((v : Value) → i ≡ Const v → ⊥) → ((x : ℕ) → i ≡ LocalGet x → ⊥) → ((x : ℕ) → i ≡ LocalTee x → ⊥) → result_place C es i ≡ option_map Spilled (result_type C es i)
placed_as C es i (constant v) c g t = absurd (c v refl)
placed_as C es i (gets x) c g t = absurd (g x refl)
placed_as C es i (tees x) c g t = absurd (t x refl)
placed_as C es i (sets x) c g t = refl
placed_as C es i (spills none no_local given) c g t = given C es

pub placed : (C : Ctx) (es : List Place) (i : Basic) → ((v : Value) → i ≡ Const v → ⊥) → ((x : ℕ) → i ≡ LocalGet x → ⊥) → ((x : ℕ) → i ≡ LocalTee x → ⊥) → result_place C es i ≡ option_map Spilled (result_type C es i)
placed C es i c g t = placed_as C es i (treated i) c g t
