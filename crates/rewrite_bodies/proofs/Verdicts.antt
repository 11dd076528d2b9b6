-- What the guards leave, their types, and the bytes that they take.
use Rattle.std.proofs.Common.{◌≡◌, ℕ, zero, suc, ◌≤◌, true, List, [], ◌∷◌, ◌++◌, length, map, refl, sym, ap, subst, ◌∙◌, arith, lt-ltb, append-nil, unwrap_or, option_map, Some, slice_get, take}
use Rattle.wasm_syntax.specs.declared.value.ValType.{ValType}
use Rattle.wasm_syntax.specs.declared.value.ValType.TheVariants.{I32}
use Rattle.wasm_syntax.specs.declared.value.Value.TheVariants as values
use Rattle.wasm_syntax.specs.declared.instruction.Basic.{Basic}
use Rattle.wasm_syntax.specs.Effect.{Effect, gives, fails, unfit, effect, takes}
use Rattle.wasm_syntax.specs.Machine.{step}
use Rattle.wasm_syntax.specs.Module.{type_at}
use Rattle.rewrite_bodies.specs.calls.Slots.{Place, place_type, Ctx}
use Rattle.rewrite_bodies.specs.calls.Pieces.{const, i32, call, fetch}
use Rattle.rewrite_bodies.specs.calls.Guards.{guard, kind, can_trap, entry_label, first_table, helper_type}
use Rattle.rewrite_bodies.specs.inner.Promises as promises
use Rattle.rewrite_bodies.specs.calls.Steps.{To, st}
use Rattle.rewrite_bodies.proofs.Run.{push_to, fetch_to, seq}
use Rattle.rewrite_bodies.proofs.Guards.{guard_to}
use Rattle.rewrite_bodies.proofs.Calls.{pick_map}
use Rattle.rewrite_bodies.proofs.TypedPieces.{Ok, at_labels, ok_const, ok_fetch, ok_call}
use Rattle.rewrite_bodies.proofs.TypedNodes.{takes_of, kind_ok}
use Rattle.rewrite_bodies.proofs.Lengths.{len_const, len_call, len_fetched, len_guard, len_kind}
use Rattle.rewrite_bodies.specs.calls.Verdicts.{kind_of, kind_of_step, verdict, IsGuard, IsKind, IsGuardOfUnreachable, IsGuardOfEntry}
use Rattle.rewrite_bodies.proofs.Runs.{shell, to_leads}
use Rattle.rewrite_bodies.proofs.Helpers.{LabelOf, helper_in, told_by_helper}
use Rattle.rewrite_bodies.proofs.TypedGuards.{guard_ok}
use Rattle.rewrite_bodies.proofs.Risks.{risk_of}

same_kind : (e : Effect) → promises.kind_of e ≡ kind_of e
same_kind (gives w l vs) = refl
same_kind (fails k) = refl
same_kind unfit = refl

-- ---- the guard of an instruction

same_verdict : (n : ℕ) → promises.verdict n ≡ verdict n
same_verdict zero = refl
same_verdict (suc n) = refl

pub guard_means : (C : Ctx) (i : Basic) (es : List Place) → can_trap i ≡ true → length es ≤ C.slots → IsGuard C i es (guard C i es)
guard_means C i es trap room = record {
  tells = λ M A l ex w co ops vs below size mf tl so h c fits under k.
      let X = shell A in
      let none : es ++ [] ≡ es = append-nil es in
      let to = (guard_to M C l size under X k w w co ex [] es ops vs below i tl mf so trap h c fits).0 in
      let here = subst (λ (x : List Place). To M 1 21 (st X (l ++ ex) under (guard C i x k) w co) (st X (l ++ ex) (values.I32 (promises.verdict (promises.kind_of (effect i w l vs))) ∷ under) k w co)) none to in
      let number : promises.verdict (promises.kind_of (effect i w l vs)) ≡ verdict (kind_of (effect i w l vs)) = ap promises.verdict (same_kind (effect i w l vs)) ∙ same_verdict (kind_of (effect i w l vs)) in
      to_leads M 1 21 60 _ _ (omega arith) (subst (λ (n : ℕ). To M 1 21 (st X (l ++ ex) under (guard C i es k) w co) (st X (l ++ ex) (values.I32 n ∷ under) k w co)) number here);
  typed = λ after own h m locals returns labels before z k off t.
      let T = takes_of C [] i es [] after h in
      let taken = subst (λ (x : List Place). map place_type (take (takes i) x) ≡ h.arrow_is.takes) (append-nil es) T.taken in
      (guard_ok C m locals off returns labels z before k [] i (risk_of i trap) h.any h.arrow_is es room own h.has taken trap (record { typed = t })).typed;
  short = λ few k. let x = len_guard C few i (risk_of i trap) es k room in omega (arith, x);
}

pub kind_means : (C : Ctx) (i : Basic) (es : List Place) → can_trap i ≡ true → length es ≤ C.slots → IsKind C i es (kind C i es)
kind_means C i es trap room = record {
  tells = λ M A l ex w co ops vs below size mf tl so h c fits j is under k.
      let X = shell A in
      let none : es ++ [] ≡ es = append-nil es in
      let to = (guard_to M C l size under X k w w co ex [] es ops vs below i tl mf so trap h c fits).1 j (same_kind (effect i w l vs) ∙ is) in
      to_leads M 1 5 60 _ _ (omega arith) (subst (λ (x : List Place). To M 1 5 (st X (l ++ ex) under (kind C i x k) w co) (st X (l ++ ex) (values.I32 (suc j) ∷ under) k w co)) none to);
  typed = λ after own h m locals returns labels before z k off t.
      let T = takes_of C [] i es [] after h in
      let taken = subst (λ (x : List Place). map place_type (take (takes i) x) ≡ h.arrow_is.takes) (append-nil es) T.taken in
      (kind_ok C m locals off returns {labels = labels} {z = z} {s = before} {k = k} [] i (risk_of i trap) h.any h.arrow_is es room own h.has taken trap (record { typed = t })).typed;
  short = λ few k. let x = len_kind C few i (risk_of i trap) es k room in omega (arith, x);
}

-- ---- the guard of `unreachable`

pub unreachable_means : (C : Ctx) → IsGuardOfUnreachable C (const (i32 1))
unreachable_means C = record {
  tells = λ M A l w co under k. to_leads M 1 1 60 _ _ (omega arith) (push_to M {X = shell A} {s = under} (values.I32 1));
  typed = λ m locals returns labels before z k off t. (ok_const (i32 1) (record { typed = t })).typed;
  short = λ few k. let x = len_const (i32 1) k in omega (arith, x);
}

-- ---- the guard of `call_indirect`

pub entry_means : (C : Ctx) (t f : ℕ) (e : Place) (height : ℕ) → height ≤ C.slots → IsGuardOfEntry C t f e height (λ k. fetch C e height (call f k))
entry_means C t f e height room = record {
  tells = λ M N c n same table x nw A l ex w co size one helper deep under k.
      let X = shell A in
      let told = kind_of_step (step N c) in
      let lbl = unwrap_or (option_map (entry_label C.source t) (slice_get (first_table C.source) n)) 1 in
      let lk : LabelOf lbl told = told_by_helper N C.source t n c same table x nw in
      let pk = pick_map (entry_label C.source t) (first_table C.source) 1 n (slice_get (first_table C.source) n) refl in
      let s1 : To M 1 1 (st X (l ++ ex) under (fetch C e height (call f k)) w co) (st X (l ++ ex) (values.I32 n ∷ under) (call f k) w co) = fetch_to M C l size ex height e (values.I32 n) one in
      let s2 : To M 1 12 (st X (l ++ ex) (values.I32 n ∷ under) (call f k) w co) (st X (l ++ ex) (values.I32 told ∷ under) k w co) = helper_in M C.source t f helper X (l ++ ex) under k w co n lbl told (lt-ltb _ _ deep) pk lk in
      to_leads M 2 13 60 _ _ (omega arith) (seq M s1 s2);
  typed = λ own place has is m locals returns labels before z k off ty.
      let there : type_at m f ≡ Some helper_type = ap (type_at m) is ∙ off.helpers t has in
      let called : Ok (at_labels m locals returns labels) z (I32 ∷ before) (call f k) = ok_call before f helper_type there (record { typed = ty }) in
      (ok_fetch C m locals off returns e height room own (subst (λ (u : ValType). Ok (at_labels m locals returns labels) z (u ∷ before) (call f k)) (sym place) called)).typed;
  short = λ few k.
      let x = len_fetched C few e height (call f k) room in
      let y = len_call f k in
      omega (arith, x, y);
}
