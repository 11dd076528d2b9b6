-- What is done to operands alone is done above the locals of a frame.
use Rattle.std.proofs.Common.{◌≡◌, ℕ, zero, suc, List, [], ◌∷◌, ◌++◌, reverse, refl, sym, ap, subst, ◌∙◌, append_assoc}
use Rattle.wasm_syntax.specs.declared.value.Value.{Value}
use Rattle.wasm_syntax.specs.declared.instruction.Basic.{Basic}
use Rattle.wasm_syntax.specs.Effect.{Effect, gives, fails, unfit, effect, takes}
use Rattle.wasm_syntax.specs.Host.{World}
use Rattle.wasm_syntax.specs.Machine.{Cut, short, parts, cut, one_more}
use Rattle.machine_basics.specs.declared.answer.Performed.{Performed}
use Rattle.machine_basics.specs.declared.answer.Performed.TheVariants.{Done, Trap, NoMemory}
use Rattle.machine_basics.specs.declared.shared.Shared.{Shared}
use Rattle.machine_basics.specs.calls.Performs.{above, on_cut, on_operands, laid_out, Holds, Does, Did}
use Rattle.machine_basics.specs.inner.Parts.{Acts, Moves, Changes}

-- ---- a cut of a longer list

pub cut_more : (n : ℕ) (vs more taken rest : List Value) → cut n vs ≡ parts taken rest → cut n (vs ++ more) ≡ parts taken (rest ++ more)
cut_more zero vs more taken rest e =
    let t : [] ≡ taken = cc in
    let r : vs ≡ rest = cc in
    ap (λ l. parts l (vs ++ more)) t ∙ ap (λ l. parts taken (l ++ more)) r
cut_more (suc n) [] more taken rest e = absurd (cc)
cut_more (suc n) (v ∷ vs) more taken rest e = by_cut (cut n vs) refl (λ t r. cut_more n vs more t r)
  where
    by_cut : (k : Cut) → cut n vs ≡ k → ((t r : List Value) → cut n vs ≡ parts t r → cut n (vs ++ more) ≡ parts t (r ++ more)) → one_more v (cut n (vs ++ more)) ≡ parts taken (rest ++ more)
    by_cut short q shorter = let none : short ≡ parts taken rest = sym (ap (one_more v) q) ∙ e in absurd (cc)
    by_cut (parts t r) q shorter =
        let both : parts (v ∷ t) r ≡ parts taken rest = sym (ap (one_more v) q) ∙ e in
        let front : v ∷ t ≡ taken = cc in
        let back : r ≡ rest = cc in
        ap (one_more v) (shorter t r q) ∙ ap (λ l. parts l (r ++ more)) front ∙ ap (λ l. parts taken (l ++ more)) back

-- ---- an effect above more values

raised : (e : Effect) (answer : Performed) (rest more : List Value) (P : World → List Value → List Value → Type 0) → Does (above (rest ++ more) e) answer P → Does (above rest e) answer (λ w ls vs. P w ls (vs ++ more))
raised (gives w ls vs) Done rest more P h = subst (λ l. P w ls l) (sym (append_assoc vs rest more)) h
raised (gives w ls vs) (Trap kind) rest more P h = h
raised (gives w ls vs) NoMemory rest more P h = h
raised (fails kind) Done rest more P h = h
raised (fails kind) (Trap k) rest more P h = h
raised (fails kind) NoMemory rest more P h = h
raised unfit answer rest more P h = tt

weaker : (e : Effect) (answer : Performed) (P Q : World → List Value → List Value → Type 0) → ((w : World) (ls vs : List Value) → P w ls vs → Q w ls vs) → Does e answer P → Does e answer Q
weaker (gives w ls vs) Done P Q f h = f w ls vs h
weaker (gives w ls vs) (Trap kind) P Q f h = h
weaker (gives w ls vs) NoMemory P Q f h = h
weaker (fails kind) Done P Q f h = h
weaker (fails kind) (Trap k) P Q f h = h
weaker (fails kind) NoMemory P Q f h = h
weaker unfit answer P Q f h = tt

-- what is done to operands is done to them above others
pub on_frame : (i : Basic) (w : World) (ls vs more : List Value) (answer : Performed) (P : World → List Value → List Value → Type 0) → Does (on_operands i w ls (vs ++ more)) answer P → Does (on_operands i w ls vs) answer (λ w' ls' rs. P w' ls' (rs ++ more))
on_frame i w ls vs more answer P h = by_cut (cut (takes i) vs) refl
  where
    by_cut : (k : Cut) → cut (takes i) vs ≡ k → Does (on_cut i w ls k) answer (λ w' ls' rs. P w' ls' (rs ++ more))
    by_cut short q = tt
    by_cut (parts taken rest) q =
        raised (effect i w ls taken) answer rest more P (subst (λ k. Does (on_cut i w ls k) answer P) (cut_more (takes i) vs more taken rest q) h)

-- ---- the parts of the code, in a frame

module _ (i j : Basic) (same : i ≡ j) (w : World) (operands locals below : List Value) (answer : Performed) (new : List Value) (shared : Shared) where
  as_given : Did (on_operands j w locals operands) answer below new shared → Did (on_operands i w locals operands) answer below new shared
  as_given h = subst (λ k. Did (on_operands k w locals operands) answer below new shared) (sym same) h

  pub acts_did : (old : List Value) → Holds shared w → old ≡ laid_out operands locals below → Acts (on_operands j w locals old) answer w locals new → Did (on_operands i w locals operands) answer below new shared
  acts_did old holds e h =
      as_given (weaker (on_operands j w locals operands) answer _ _
      (λ w' ls' vs q. (q.2 ∙ ap (λ l. vs ++ (reverse l ++ below)) (sym q.1), subst (λ x. Holds shared x) (sym q.0) holds))
      (on_frame j w locals operands (reverse locals ++ below) answer (λ w' ls' vs. (w' ≡ w) × (ls' ≡ locals) × (new ≡ vs))
      (subst (λ l. Acts (on_operands j w locals l) answer w locals new) e h)))

  pub moves_did : Holds shared w → Moves (on_operands j w locals operands) answer w below new → Did (on_operands i w locals operands) answer below new shared
  moves_did holds h =
      as_given (weaker (on_operands j w locals operands) answer (λ w' ls' vs. (w' ≡ w) × (new ≡ laid_out vs ls' below)) _
      (λ w' ls' vs q. (q.1, subst (λ x. Holds shared x) (sym q.0) holds)) h)

  pub changes_did : (old : List Value) → old ≡ laid_out operands locals below → Changes (on_operands j w locals old) answer locals new shared → Did (on_operands i w locals operands) answer below new shared
  changes_did old e h =
      as_given (weaker (on_operands j w locals operands) answer _ _
      (λ w' ls' vs q. (q.1 ∙ ap (λ l. vs ++ (reverse l ++ below)) (sym q.0), q.2))
      (on_frame j w locals operands (reverse locals ++ below) answer (λ w' ls' vs. (ls' ≡ locals) × (new ≡ vs) × Holds shared w')
      (subst (λ l. Changes (on_operands j w locals l) answer locals new shared) e h)))
