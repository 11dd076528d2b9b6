-- What passed tests say.
use Rattle.std.proofs.Common.{◌≡◌, ℕ, ◌+◌, ◌≤◌, refl, sym, ap, subst, ◌∙◌, arith, Option, Some, None}
use Rattle.std.specs.Prelude.{Bool, true, false, ◌==◌, if◌then◌else◌}
use Rattle.std.proofs.lemmas.Bool.{leb-true, eqb-true, and_parts}
use Rattle.host_collector.specs.declared.progress.Progress.{Progress}
use Rattle.host_collector.specs.declared.progress.Progress.TheVariants.{First, Later, Whole}
use Rattle.wasm_syntax.specs.declared.host.CollectorCall.{CollectorCall}
use Rattle.wasm_syntax.specs.declared.host.CollectorCall.TheVariants.{ValueI32, ValueI64, Frame}
use Rattle.host_collector.specs.inner.Progress.{values_in, missing, with_value, with_first, with_later, with_last, with_frame, with_call, if_room, stepped}

if_some : {A : Type 0} (b : Bool) (x y : A) → (if b then Some x else None) ≡ Some y → (b ≡ true) × (x ≡ y)
if_some true x y e = (refl, cc)
if_some false x y e = absurd (cc)

-- the first entry
pub record FirstPasses (values kind locals : ℕ) (q : Progress) : Type 0 where
  pub low : 1 ≤ kind
  pub high : kind ≤ 7
  pub there : locals ≤ values
  pub gives : Later kind 0 ≡ q

pub first_passes : (values kind locals : ℕ) (q : Progress) → with_first values kind locals ≡ Some q → FirstPasses values kind locals q
first_passes values kind locals q e =
    let passed = if_some _ _ q e in
    let a = and_parts _ _ passed.0 in
    let b = and_parts _ _ a.1 in
    record { low = leb-true 1 kind a.0; high = leb-true kind 7 b.0; there = leb-true locals values b.1; gives = passed.1 }

-- a later entry
pub record LaterPasses (first values locals : ℕ) (q : Progress) : Type 0 where
  pub there : locals ≤ values
  pub gives : Later first 0 ≡ q

pub later_passes : (first values locals : ℕ) (q : Progress) → with_later first values locals ≡ Some q → LaterPasses first values locals q
later_passes first values locals q e =
    let passed = if_some _ _ q e in
    record { there = leb-true locals values passed.0; gives = passed.1 }

-- the last call
pub record LastPasses (first values function offset locals : ℕ) (q : Progress) : Type 0 where
  pub no_function : function ≡ 0
  pub no_offset : offset ≡ 0
  pub all : locals ≡ values
  pub gives : Whole first ≡ q

pub last_passes : (first values function offset locals : ℕ) (q : Progress) → with_last first values function offset locals ≡ Some q → LastPasses first values function offset locals q
last_passes first values function offset locals q e =
    let passed = if_some _ _ q e in
    let a = and_parts _ _ passed.0 in
    let b = and_parts _ _ a.1 in
    record { no_function = eqb-true function 0 a.0; no_offset = eqb-true offset 0 b.0; all = eqb-true locals values b.1; gives = passed.1 }

-- there is room
pub record HasRoom (count : ℕ) (o : Option Progress) (q : Progress) : Type 0 where
  pub is : o ≡ Some q
  pub room : count + missing q ≤ 134217728

pub room_passes : (count : ℕ) (o : Option Progress) (q : Progress) → if_room count o ≡ Some q → HasRoom count o q
room_passes count None q e = absurd (cc)
room_passes count (Some p) q e =
    let passed = if_some _ _ q e in
    let low : count + missing p ≤ 134217728 = leb-true (count + missing p) 134217728 passed.0 in
    record { is = ap Some passed.1; room = subst (λ (r : Progress). count + missing r ≤ 134217728) passed.1 low }

-- ---- how many values there are

values_behind : (p q : Progress) → with_value p ≡ Some q → values_in q ≤ values_in p + 1
values_behind (First n) q e =
    let same : First (n + 1) ≡ q = cc in
    subst (λ (r : Progress). values_in r ≤ n + 1) same (omega arith)
values_behind (Later kind n) q e =
    let same : Later kind (n + 1) ≡ q = cc in
    subst (λ (r : Progress). values_in r ≤ n + 1) same (omega arith)
values_behind (Whole kind) q e = absurd (cc)

none_left : (p q : Progress) → values_in p ≡ 0 → p ≡ q → values_in q ≡ 0
none_left p q zero same = sym (ap values_in same) ∙ zero

closed_values : (first n : ℕ) (q : Progress) (kind function offset locals : ℕ) (zero last : Bool) → (if zero then with_later first n locals else (if last then with_last first n function offset locals else None)) ≡ Some q → values_in q ≡ 0
closed_values first n q kind function offset locals true last e = none_left _ q refl (later_passes first n locals q e).gives
closed_values first n q kind function offset locals false true e = none_left _ q refl (last_passes first n function offset locals q e).gives
closed_values first n q kind function offset locals false false e = absurd (cc)

frame_values : (p q : Progress) (kind function offset locals : ℕ) → with_frame p kind function offset locals ≡ Some q → values_in q ≡ 0
frame_values (First n) q kind function offset locals e = none_left _ q refl (first_passes n kind locals q e).gives
frame_values (Later first n) q kind function offset locals e = closed_values first n q kind function offset locals (kind == 0) (kind == 255) e
frame_values (Whole first) q kind function offset locals e = absurd (cc)

call_values : (p q : Progress) (c : CollectorCall) → with_call p c ≡ Some q → values_in q ≤ values_in p + 1
call_values p q (ValueI32 n) e = values_behind p q e
call_values p q (ValueI64 n) e = values_behind p q e
call_values p q (Frame kind function offset locals) e = let none = frame_values p q kind function offset locals e in omega (arith, none)

-- so many calls hold no more values, and leave room
pub record Fits (count : ℕ) (p : Progress) : Type 0 where
  pub values : values_in p ≤ count
  pub room : count + missing p ≤ 134217728

pub still_fits : (count : ℕ) (p q : Progress) (c : CollectorCall) → Fits count p → stepped count p c ≡ Some q → Fits (count + 1) q
still_fits count p q c fits e =
    let passed = room_passes (count + 1) (with_call p c) q e in
    let more = call_values p q c passed.is in
    record { values = omega (arith, more, fits.values); room = passed.room }
