-- Pairs of rows, by where they begin.
use Rattle.std.proofs.Common.{◌≡◌, ℕ, zero, suc, ◌+◌, ◌-◌, ◌<◌, ◌≤◌, Bool, true, false, cond, eqb, List, [], ◌∷◌, ◌++◌, length, Option, Some, None, refl, sym, ap, subst, ◌∙◌, arith, length-append}
use Rattle.std.specs.Prelude.{IfSome, Result, Ok, Err, OnOk}
use Rattle.std.specs.Ordering.{nat_cmp, is_eq}
use Rattle.std.proofs.lemmas.Bool.{eqb-true}
use Rattle.pm_text.proofs.Lists.{is_eq_at}
use Rattle.wasm_bytes.specs.declared.faults.ItemFault.TheVariants as faults
use Rattle.wasm_bytes.specs.Place.{Place, Read}
use Rattle.wasm_bytes.specs.Reading.{◌>>=◌}
use Rattle.wasm_bytes.proofs.Loops.{first}
use Rattle.dwarf_bytes.specs.Items.{ended_from, ended_item}
use Rattle.dwarf_bytes.proofs.Loops.{ended_on, ended_fails, ended_done}
use Rattle.dwarf_abbrev.specs.calls.Shared.{list_of}
use Rattle.dwarf_abbrev.proofs.LinkLaws.{list_front, list_last}
use Rattle.dwarf_info.specs.declared.form.Slot.{Slot}
use Rattle.dwarf_info.specs.declared.known.PairsAt.{PairsAt}
use Rattle.dwarf_info.specs.declared.known.PairsAt.TheVariants.{Listed, Fault}
use Rattle.dwarf_info.specs.calls.Pairs.{Pair, IsTold, IsRight, Knows, IsInFront}

abbrev pub place : List ℕ → ℕ → Place
place section at = record { block = section; at = at }

pub on_ok : {A E P Q : Type 0} (r : Result A E) → (P → Q) → OnOk r P → OnOk r Q
on_ok (Ok x) f h = f h
on_ok (Err e) f h = tt

-- ---- one offset more

pub knows_at : (pair : Pair) (section : List ℕ) (lists : List (List Slot)) (before after : ℕ → Option PairsAt) (at : ℕ) (known : PairsAt) → ((q : ℕ) → after q ≡ cond (is_eq (nat_cmp at q)) (Some known) (before q))
    → Knows pair section lists before → IsRight pair section lists at known → Knows pair section lists after
knows_at pair section lists before after at known updates knows right q = by (eqb at q) refl
  where
    by : (b : Bool) → eqb at q ≡ b → IfSome (after q) (IsRight pair section lists q)
    by true tie =
        let is : after q ≡ Some known = updates q ∙ ap (λ (b : Bool). cond b (Some known) (before q)) (is_eq_at at q ∙ tie) in
        subst (λ (o : Option PairsAt). IfSome o (IsRight pair section lists q)) (sym is) (subst (λ (n : ℕ). IsRight pair section lists n known) (eqb-true at q tie) right)
    by false tie =
        let is : after q ≡ before q = updates q ∙ ap (λ (b : Bool). cond b (Some known) (before q)) (is_eq_at at q ∙ tie) in
        subst (λ (o : Option PairsAt). IfSome o (IsRight pair section lists q)) (sym is) (knows q)

-- ---- one list more

module _ (pair : Pair) (section : List ℕ) (before after : List (List Slot)) (made : List Slot) (more : after ≡ before ++ made ∷ []) where
  right_on : (at : ℕ) (known : PairsAt) → IsRight pair section before at known → IsRight pair section after at known
  right_on at (Listed list end) h =
      let same : list_of after list ≡ list_of before list = ap (λ (ls : List (List Slot)). list_of ls list) more ∙ list_front before (made ∷ []) list h.1.0 in (
        λ n room. h.0 n room ∙ ap (λ (xs : List Slot). Ok (xs, place section end)) (sym same),
        (omega (arith, h.1.0, ap length more, length-append before (made ∷ [])), h.1.1, h.1.2),
      )
  right_on at (Fault fault) h = h

  right_if : (at : ℕ) (o : Option PairsAt) → IfSome o (IsRight pair section before at) → IfSome o (IsRight pair section after at)
  right_if at None h = tt
  right_if at (Some known) h = right_on at known h

  pub knows_more : (known : ℕ → Option PairsAt) → Knows pair section before known → Knows pair section after known
  knows_more known knows q = right_if q (known q) (knows q)

-- ---- a pair in front of those of another offset

module _ (pair : Pair) (section : List ℕ) (at : ℕ) (slot : Slot) (next : ℕ) (front : IsInFront pair section at slot next) where
  told_on : (read : Read (List Slot)) → IsTold pair section next read → IsTold pair section at (read >>= λ ys. Ok (slot ∷ ys.0, ys.1))
  told_on read h zero room = absurd (omega (arith, room, front.inside))
  told_on read h (suc n) room = front.reads n ∙ ap (λ (r : Read (List Slot)). r >>= λ ys. Ok (slot ∷ ys.0, ys.1)) (h n (omega (arith, room, front.moves, front.inside)))

  pub fault_in_front : (lists : List (List Slot)) (fault : ℕ) → IsRight pair section lists next (Fault fault) → IsRight pair section lists at (Fault fault)
  fault_in_front lists fault h = (told_on (Err fault) h.0, tt)

  pub list_in_front : (before after : List (List Slot)) (list longer end : ℕ) → IsRight pair section before next (Listed list end) → after ≡ before ++ (slot ∷ list_of before list) ∷ [] → longer ≡ length before + 1
      → IsRight pair section after at (Listed longer end)
  list_in_front before after list longer end h more number =
      let made = slot ∷ list_of before list in
      let is : list_of after longer ≡ made = ap (λ (ls : List (List Slot)). list_of ls longer) more ∙ list_last before made longer number in (
        λ n room. told_on (Ok (list_of before list, place section end)) h.0 n room ∙ ap (λ (xs : List Slot). Ok (xs, place section end)) (sym is),
        (omega (arith, number, ap length more, length-append before (made ∷ [])), omega (arith, h.1.1, front.moves), h.1.2),
      )

-- ---- pairs that are read

module _ (pair : Pair) (section : List ℕ) (at next : ℕ) (p q : Place) (here : p ≡ place section at) (behind : q ≡ place section next) where
  pub pair_in_front : (slot : Slot) → at ≤ length section → at < next → pair p ≡ Ok (Some slot, q) → IsInFront pair section at slot next
  pair_in_front slot inside moves e = record {
    inside = inside;
    moves = moves;
    reads = λ n. ap (λ (x : Place). ended_from pair (suc n) x) (sym here) ∙ ended_on pair n p q slot e ∙ ap (λ (x : Place). ended_from pair n x >>= first slot) behind;
  }

  end_told : at ≤ length section → pair p ≡ Ok (None, q) → IsTold pair section at (Ok ([], place section next))
  end_told inside e zero room = absurd (omega (arith, room, inside))
  end_told inside e (suc n) room = ap (λ (x : Place). ended_from pair (suc n) x) (sym here) ∙ ended_done pair n p q e ∙ ap (λ (x : Place). Ok ([], x)) behind

  pub end_right : (lists : List (List Slot)) → at ≤ next → next ≤ length section → pair p ≡ Ok (None, q) → IsRight pair section lists at (Listed 0 next)
  end_right lists moves inside e = (end_told (omega (arith, moves, inside)) e, (omega arith, moves, inside))

module _ (pair : Pair) (section : List ℕ) (at : ℕ) (p : Place) (here : p ≡ place section at) (fault : ℕ) where
  fault_told : at ≤ length section → pair p ≡ Err fault → IsTold pair section at (Err fault)
  fault_told inside e zero room = absurd (omega (arith, room, inside))
  fault_told inside e (suc n) room = ap (λ (x : Place). ended_from pair (suc n) x) (sym here) ∙ ended_fails pair n p (faults.At fault) e

  pub fault_right : (lists : List (List Slot)) → at ≤ length section → pair p ≡ Err fault → IsRight pair section lists at (Fault fault)
  fault_right lists inside e = (fault_told inside e, tt)

-- what is told is what reading the list gives
pub ended_told : (pair : Pair) (section : List ℕ) (at : ℕ) (p : Place) → p ≡ place section at → (read : Read (List Slot)) → IsTold pair section at read → ended_item pair p ≡ read
unfolding ended_item
ended_told pair section at p here read told = ap (λ (x : Place). ended_from pair (length x.block + 1 - x.at) x) here ∙ told (length section + 1 - at) (omega arith)
