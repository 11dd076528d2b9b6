-- The turns of the loop over the operators.
use Rattle.std.proofs.Common.{◌≡◌, ℕ, zero, suc, ◌-◌, ◌<◌, ◌≤◌, Bool, true, false, cond, List, [], ◌∷◌, length, Some, None, Result, Ok, Err, refl, sym, ap, ◌∙◌, inl, inr, arith}
use Rattle.wasm_bytes.specs.Place.{Place, Read}
use Rattle.std.specs.Prelude.{◌==◌}
use Rattle.std.proofs.lemmas.Bool.{cases_lt}
use Rattle.std.proofs.lemmas.Option.{slice_get_past}
use Rattle.wasm_bytes.specs.Reading.{byte_of, byte_item}
use Rattle.wasm_bytes.specs.Laws.{got}
use Rattle.dwarf_expr.specs.declared.answer.Base.{Base}
use Rattle.dwarf_expr.specs.declared.answer.Eval.{Eval}
use Rattle.dwarf_expr.specs.declared.answer.PiecePlace.{PiecePlace}
use Rattle.dwarf_expr.specs.declared.operators.Begun.{Begun}
use Rattle.dwarf_expr.specs.declared.operators.Begun.TheVariants.{Known, Cut, Foreign}
use Rattle.dwarf_expr.specs.declared.operators.PlacedOperator.{PlacedOperator}
use Rattle.dwarf_expr.specs.declared.progress.Part.TheVariants.{Empty}
use Rattle.dwarf_expr.specs.declared.progress.Progress.{Progress}
use Rattle.dwarf_expr.specs.View.{View}
use Rattle.dwarf_expr.specs.Operators.{behind}
use Rattle.dwarf_expr.specs.Decode.{placed, others_behind, begun_at, with_others, from_opcode, operators_from}
use Rattle.dwarf_expr.specs.Meaning.{◌>>=◌, is_piece, piece_of, added}
use Rattle.dwarf_expr.specs.inner.Steps.{Begins, IfKnown, IsNext, is_end, piece_given_by, progress, stepped, closed, advanced, completed, continued}

-- ---- reading an operator

abbrev failed_at : ℕ → Read ℕ
failed_at at = Err at

with_begun : (at opcode : ℕ) (begun : Begun) (after : Place) (x : Begun × Place) (more : Place → List PlacedOperator) → Begins begun after x
    → with_others at opcode x more ≡ placed at opcode begun ∷ others_behind begun (more after)
with_begun at opcode (Known op) after x more e = ap (λ (y : Begun × Place). with_others at opcode y more) e
with_begun at opcode Cut after x more e = ap (λ (y : Begun). placed at opcode y ∷ others_behind y (more x.1)) e
with_begun at opcode Foreign after x more e = ap (λ (y : Begun). placed at opcode y ∷ others_behind y (more x.1)) e

-- an opcode is there
pub is_next : (p q after : Place) (opcode : ℕ) (begun : Begun) → byte_item p ≡ got opcode q → Begins begun after (begun_at q (behind opcode)) → IsNext (Some (placed p.at opcode begun)) after p
unfolding operators_from
is_next p q after opcode begun e b n =
    ap (λ (r : Read ℕ). from_opcode p.at r (λ q. operators_from n q)) e
    ∙ with_begun p.at opcode begun after (begun_at q (behind opcode)) (λ q. operators_from n q) b

pub none_next : (p after : Place) (at : ℕ) → byte_item p ≡ failed_at at → IsNext None after p
unfolding operators_from
none_next p after at e n = ap (λ (r : Read ℕ). from_opcode p.at r (λ q. operators_from n q)) e

-- none is there, whatever is asked for
pub none_left : (p after : Place) (n : ℕ) → IsNext None after p → operators_from n p ≡ []
unfolding operators_from
none_left p after zero e = refl
none_left p after (suc n) e = e n

pub ends_there : (p : Place) (at n : ℕ) → byte_item p ≡ failed_at at → true ≡ is_end (operators_from n p)
ends_there p at n e = ap is_end (sym (none_left p p n (none_next p p at e)))

-- A byte that is read is there.
pub byte_inside : (p q : Place) (b : ℕ) → byte_item p ≡ got b q → p.at < length p.block
unfolding byte_item
byte_inside p q b e = elim (cases_lt p.at (length p.block)) [
  | inl lt ↦ lt
  | inr le ↦ let none : failed_at p.at ≡ got b q = sym (ap (byte_of p) (slice_get_past p.block p.at le)) ∙ e in absurd cc
]

-- by the opcode
piece_there : (p q : Place) (opcode n : ℕ) → byte_item p ≡ got opcode q → is_piece (placed p.at opcode Cut) ≡ is_end (operators_from (suc n) p)
unfolding operators_from
piece_there p q opcode n e = sym (ap (λ (r : Read ℕ). is_end (from_opcode p.at r (λ q. operators_from n q))) e)

pub opcode_there : (p q : Place) (opcode n : ℕ) → byte_item p ≡ got opcode q → length p.block - p.at ≤ n → (opcode == 0x93) ≡ is_end (operators_from n p)
opcode_there p q opcode zero e left = let inside = byte_inside p q opcode e in absurd (omega (arith, inside, left))
opcode_there p q opcode (suc n) e left = piece_there p q opcode n e

-- ---- a turn

-- One that is not known fails, whatever stands behind it.
same_last : (v : View) (b : Base) (at opcode : ℕ) (begun : Begun) (xs : List PlacedOperator) (is_last : Bool) (s : Progress) → IfKnown begun (is_last ≡ is_end xs)
    → advanced v b (placed at opcode begun) (is_end (others_behind begun xs)) s ≡ advanced v b (placed at opcode begun) is_last s
unfolding advanced stepped
same_last v b at opcode (Known op) xs is_last s e = ap (λ (t : Bool). advanced v b (placed at opcode (Known op)) t s) (sym e)
same_last v b at opcode Cut xs is_last s e = refl
same_last v b at opcode Foreign xs is_last s e = refl

abbrev failed : {A : Type 0} → Eval → Result A Eval
failed e = Err e

abbrev went_on : Progress → Result Progress Eval
went_on s = Ok s

-- the operators from there on, of which this is the first
turn : (v : View) (b : Base) (end n : ℕ) (p after : Place) (x : PlacedOperator) (is_last : Bool) (s : Progress) → IsNext (Some x) after p → IfKnown x.begun (is_last ≡ is_end (operators_from n after))
    → continued v b end (operators_from (suc n) p) s ≡ (advanced v b x is_last s >>= λ t. continued v b end (others_behind x.begun (operators_from n after)) t)
unfolding continued
turn v b end n p after x is_last s next last =
    ap (λ (xs : List PlacedOperator). continued v b end xs s) (next n)
    ∙ ap (λ (r : Result Progress Eval). r >>= λ t. continued v b end (others_behind x.begun (operators_from n after)) t) (same_last v b x.at x.opcode x.begun (operators_from n after) is_last s last)

pub turn_fails : (v : View) (b : Base) (end n : ℕ) (p after : Place) (x : PlacedOperator) (is_last : Bool) (s : Progress) (e : Eval) → IsNext (Some x) after p → IfKnown x.begun (is_last ≡ is_end (operators_from n after))
    → advanced v b x is_last s ≡ failed e → continued v b end (operators_from (suc n) p) s ≡ failed e
turn_fails v b end n p after x is_last s e next last h =
    turn v b end n p after x is_last s next last
    ∙ ap (λ (r : Result Progress Eval). r >>= λ t. continued v b end (others_behind x.begun (operators_from n after)) t) h

-- What is not known makes nothing.
no_piece : (at opcode : ℕ) (begun : Begun) (p t : Progress) → IfKnown begun ⊥ → closed (placed at opcode begun) p ≡ went_on t → ⊥
unfolding closed
no_piece at opcode begun p t none h = by_place begun (piece_given_by at p.part p.stack) none h where
  by_place : (c : Begun) (r : Result PiecePlace Eval) → IfKnown c ⊥ → (piece_of c at r >>= λ piece. added (placed at opcode begun) p.pieces piece >>= λ more. went_on (progress more Empty [])) ≡ went_on t → ⊥
  by_place (Known o) r none h = none
  by_place Cut (Ok y) none h = cc
  by_place Cut (Err e) none h = cc
  by_place Foreign (Ok y) none h = cc
  by_place Foreign (Err e) none h = cc

no_step : (v : View) (b : Base) (at opcode : ℕ) (begun : Begun) (is_last : Bool) (p t : Progress) → IfKnown begun ⊥ → stepped v b (placed at opcode begun) is_last p ≡ went_on t → ⊥
unfolding stepped
no_step v b at opcode (Known o) is_last p t none h = none
no_step v b at opcode Cut is_last p t none h = cc
no_step v b at opcode Foreign is_last p t none h = cc

not_advanced : (v : View) (b : Base) (at opcode : ℕ) (begun : Begun) (is_last : Bool) (p t : Progress) → IfKnown begun ⊥ → advanced v b (placed at opcode begun) is_last p ≡ went_on t → ⊥
unfolding advanced
not_advanced v b at opcode begun is_last p t none h = by_kind (is_piece (placed at opcode begun)) h where
  by_kind : (k : Bool) → cond k (closed (placed at opcode begun) p) (stepped v b (placed at opcode begun) is_last p) ≡ went_on t → ⊥
  by_kind true h = no_piece at opcode begun p t none h
  by_kind false h = no_step v b at opcode begun is_last p t none h

-- what holds where it is known
pub if_advanced : (v : View) (b : Base) (x : PlacedOperator) (is_last : Bool) (p t : Progress) (P : Type 0) → advanced v b x is_last p ≡ went_on t → IfKnown x.begun P → P
if_advanced v b x is_last p t P h = by_begun x.begun h where
  by_begun : (c : Begun) → advanced v b (placed x.at x.opcode c) is_last p ≡ went_on t → IfKnown c P → P
  by_begun (Known o) h holds = holds
  by_begun Cut h holds = absurd (not_advanced v b x.at x.opcode Cut is_last p t tt h)
  by_begun Foreign h holds = absurd (not_advanced v b x.at x.opcode Foreign is_last p t tt h)

others_are : (begun : Begun) (xs : List PlacedOperator) → IfKnown begun (others_behind begun xs ≡ xs)
others_are (Known o) xs = refl
others_are Cut xs = tt
others_are Foreign xs = tt

pub turn_on : (v : View) (b : Base) (end n : ℕ) (p after : Place) (x : PlacedOperator) (is_last : Bool) (s t : Progress) → IsNext (Some x) after p → IfKnown x.begun (is_last ≡ is_end (operators_from n after))
    → advanced v b x is_last s ≡ went_on t → continued v b end (operators_from (suc n) p) s ≡ continued v b end (operators_from n after) t
turn_on v b end n p after x is_last s t next last h =
    turn v b end n p after x is_last s next last
    ∙ ap (λ (r : Result Progress Eval). r >>= λ u. continued v b end (others_behind x.begun (operators_from n after)) u) h
    ∙ ap (λ (xs : List PlacedOperator). continued v b end xs t) (if_advanced v b x is_last s t (others_behind x.begun (operators_from n after) ≡ operators_from n after) h (others_are x.begun (operators_from n after)))

-- behind the last operator
pub turn_ends : (v : View) (b : Base) (end n : ℕ) (p after : Place) (s : Progress) → IsNext None after p → continued v b end (operators_from n p) s ≡ completed end s.pieces s.part s.stack
unfolding continued
turn_ends v b end n p after s next = ap (λ (xs : List PlacedOperator). continued v b end xs s) (none_left p after n next)

-- ---- for the loop

pub if_known : (begun : Begun) (P Q : Type 0) → (P → Q) → IfKnown begun P → IfKnown begun Q
if_known (Known o) P Q f holds = f holds
if_known Cut P Q f holds = tt
if_known Foreign P Q f holds = tt
