-- What is found of derivations along the flat code of a body is what the definitions say of its nodes.
use Rattle.std.proofs.Common.{◌≡◌, ℕ, zero, suc, ◌+◌, ◌/◌, ◌<◌, ◌≤◌, ◌==◌, ◌&&◌, ◌||◌, List, [], ◌∷◌, ◌++◌, length, drop, take, Option, Some, None, Bool, true, false, refl, sym, ap, ap₂, ◌∙◌, arith, append_assoc, slice_get, get_or}
use Rattle.std.proofs.lemmas.List.{append-nil, take-append-le, take_all}
use Rattle.std.proofs.lemmas.Bool.{eqb-true, ltb-false}
use Rattle.std.specs.Prelude.{cond, nat_lt, nat_le, is_some}
use Rattle.std.specs.Ordering.{nat_cmp}
use Rattle.std.specs.BTreeSet as sets
use Rattle.std.specs.BTreeMap.{BTreeMap, Updates}
use Rattle.wasm_syntax.specs.declared.value.ValType.{ValType}
use Rattle.wasm_syntax.specs.declared.instruction.Op.{Op}
use Rattle.wasm_syntax.specs.declared.instruction.Basic.{Basic}
use Rattle.wasm_syntax.specs.declared.instruction.Basic.TheVariants.{Nop, Drop, Select, LocalGet, LocalSet, LocalTee, GlobalGet, GlobalSet, Load, Store, MemorySize, MemoryGrow, MemoryCopy, MemoryFill, Const, Eqz, Unary, Compare, Binary, Convert, Extend32, Extend64}
use Rattle.wasm_syntax.specs.Numbers.{same_type}
use Rattle.wasm_syntax.specs.Tree.{Tree, Nodes, stop, basic, jump, block, loop, choose, Item, Else, End, Placed, placed, write, IsTree, Writes, code_of, item_of}
use Rattle.rewrite_bodies.specs.calls.Slots.{Derivation, local_written}
use Rattle.rewrite_bodies.specs.calls.Facts.{is_local, among}
use Rattle.rewrite_bodies.specs.calls.Derived.{Trail, Nowhere, One, Two, Worked, trail_behind, found_at, can_leave, with_written, none_if, recent_behind, one_if, places, has_type, may_derive, derived_from, derived_in}
use Rattle.operand_spill.specs.inner.Exposing.{held}
use Rattle.operand_spill.specs.inner.Deriving.{often, more_often, is_once, at_places, written_by, times_along, Candidate, candidate, may, fits_since, Here, here, nothing, none_where, with_local, passed, found_if, found_by, found_along, where_room, listed}
use Rattle.operand_spill.proofs.Exposings.{begins_with, nothing_left, at_key, marks_updated}

-- ---- how often a local is written

more_at : (b : Bool) (n : ℕ) → more_often b (at_places n) ≡ at_places (one_if b + n)
more_at false n = let e : n ≡ 0 + n = omega arith in ap at_places e
more_at true n = let e : suc n ≡ 1 + n = omega arith in up n ∙ ap at_places e
  where
    up : (n : ℕ) → more_often true (at_places n) ≡ at_places (suc n)
    up zero = refl
    up (suc zero) = refl
    up (suc (suc n)) = refl

module _ (x : ℕ) where
  -- at how many places these write it
  abbrev places_along : List Placed → ℕ
  places_along [] = 0
  places_along (p ∷ code) = one_if (is_local (written_by p.code) x) + places_along code

  along : (nodes : Nodes) (more : List Placed) → IsTree nodes → places_along (write nodes more) ≡ places nodes x + places_along more
  along stop more it = omega arith
  along (basic o i rest) more it = omega (arith, along rest more it)
  along (jump o j rest) more it = omega (arith, along rest more it)
  along (block o t inner end rest) more it = omega (arith, along inner (placed end End ∷ write rest more) it.0, along rest more it.1)
  along (loop o t inner end rest) more it = omega (arith, along inner (placed end End ∷ write rest more) it.0, along rest more it.1)
  along (choose o t a None b end rest) more it =
      let none : places b x ≡ 0 = ap (λ n. places n x) it.1 in
      let same : places_along (write a (write b (placed end End ∷ write rest more))) ≡ places_along (write a (placed end End ∷ write rest more)) = ap (λ n. places_along (write a (write n (placed end End ∷ write rest more)))) it.1 in
      omega (arith, none, same, along a (placed end End ∷ write rest more) it.0, along rest more it.3)
  along (choose o t a (Some els) b end rest) more it =
      omega (arith, along a (placed els Else ∷ write b (placed end End ∷ write rest more)) it.0, along b (placed end End ∷ write rest more) it.2, along rest more it.3)

  counted : (code : List Placed) (n : ℕ) → times_along code x (at_places n) ≡ at_places (places_along code + n)
  counted [] n = let e : n ≡ 0 + n = omega arith in ap at_places e
  counted (p ∷ code) n =
      let b = is_local (written_by p.code) x in
      let e : places_along code + (one_if b + n) ≡ (one_if b + places_along code) + n = omega arith in
      ap (times_along code x) (more_at b n) ∙ counted code (one_if b + n) ∙ ap at_places e

  pub times_begin : (targets : List ℕ) (ops : List Op) (tree : Tree) → Writes targets ops tree → times_along (code_of targets ops) x None ≡ at_places (places tree.nodes x)
  times_begin targets ops tree w =
      let e : places_along (write tree.nodes (placed tree.end End ∷ [])) + 0 ≡ places tree.nodes x = omega (arith, along tree.nodes (placed tree.end End ∷ []) w.arms) in
      ap (λ code. times_along code x None) w.out ∙ counted (write tree.nodes (placed tree.end End ∷ [])) 0 ∙ ap at_places e

  pub times_turn : (targets : List ℕ) (ops : List Op) (pc : ℕ) (o : Op) (b b' all_ : Option Bool) → slice_get ops pc ≡ Some o → b' ≡ more_often (is_local (written_by (item_of targets o.code)) x) b →
      times_along (drop pc (code_of targets ops)) x b ≡ all_ → times_along (drop (pc + 1) (code_of targets ops)) x b' ≡ all_
  times_turn targets ops pc o b b' all_ at found h =
      let one : pc + 1 ≡ suc pc = omega arith in
      ap₂ (λ (n : ℕ) (c : Option Bool). times_along (drop n (code_of targets ops)) x c) one found
      ∙ sym (ap (λ code. times_along code x b) (begins_with targets ops pc o at)) ∙ h

  pub times_end : (targets : List ℕ) (ops : List Op) (pc : ℕ) (b all_ : Option Bool) → length ops ≤ pc → times_along (drop pc (code_of targets ops)) x b ≡ all_ → b ≡ all_
  times_end targets ops pc b all_ le h = sym (ap (λ code. times_along code x b) (nothing_left targets ops pc le)) ∙ h

-- a map with one more
some_again : (o : Option Bool) (again : Bool) → again ≡ is_some o → Some again ≡ more_often true o
some_again None again e = ap Some e
some_again (Some b) again e = ap Some e

at_by : (m n : BTreeMap ℕ Bool) (k x : ℕ) (again b : Bool) → (k == x) ≡ b → again ≡ is_some (often m k) → cond b (Some again) (often m x) ≡ more_often b (often m x)
at_by m n k x again true e is = some_again (often m x) again (is ∙ ap (λ y. is_some (often m y)) (eqb-true k x e))
at_by m n k x again false e is = refl

pub times_updated : (m n : BTreeMap ℕ Bool) (k x : ℕ) (again : Bool) → again ≡ is_some (often m k) → Updates nat_cmp m n k (Some again) → often n x ≡ more_often (k == x) (often m x)
times_updated m n k x again is u = u.0 x ∙ ap (λ b. cond b (Some again) (often m x)) (at_key k x) ∙ at_by m n k x again (k == x) refl is

once_at : (n : ℕ) → is_once (at_places n) ≡ (n == 1)
once_at zero = refl
once_at (suc zero) = refl
once_at (suc (suc n)) = other (suc (suc n) == 1) refl
  where
    other : (b : Bool) → (suc (suc n) == 1) ≡ b → false ≡ b
    other true e = absurd (let z : suc (suc n) ≡ 1 = eqb-true (suc (suc n)) 1 e in omega (arith, z))
    other false e = refl

-- ---- locals that were written

or_swap : (a b : Bool) → (a || b) ≡ (b || a)
or_swap true true = refl
or_swap true false = refl
or_swap false true = refl
or_swap false false = refl

pub local_added : (m n : sets.BTreeSet ℕ) (k : ℕ) → sets.Updates nat_cmp m n k true → held n ≡ with_local (Some k) (held m)
local_added m n k u = λ i x. (marks_updated m n k x u ∙ or_swap (held m x) (k == x)) i

-- ---- types of locals

pub type_there : (locals : List ValType) (x : ℕ) (t u : ValType) → x < length locals → u ≡ get_or locals x u → has_type locals x t ≡ same_type u t
type_there [] x t u lt e = absurd (omega (arith, lt))
type_there (v ∷ locals) zero t u lt e = ap (λ w. same_type w t) (sym e)
type_there (v ∷ locals) (suc x) t u lt e = type_there locals x t u (omega (arith, lt)) e

pub type_past : (locals : List ValType) (x : ℕ) (t : ValType) → length locals ≤ x → has_type locals x t ≡ false
type_past [] x t le = refl
type_past (v ∷ locals) zero t le = absurd (omega (arith, le))
type_past (v ∷ locals) (suc x) t le = type_past locals x t (omega (arith, le))

-- ---- along the code

recent_step : (w : Option ℕ) (b : Bool) (recent : List ℕ) → with_local w (none_where b (λ x. among x recent)) ≡ (λ x. among x (with_written w (none_if b recent)))
recent_step None true recent = refl
recent_step None false recent = refl
recent_step (Some y) true recent = refl
recent_step (Some y) false recent = refl

found_same : (c : Candidate) (recent : List ℕ) (t : Trail) (i : Basic) → found_if (fits_since c (λ x. among x recent)) t i ≡ found_at (may c) recent t i
found_same c recent Nowhere i = refl
found_same c recent (One y) i = refl
found_same c recent (Two x y) i = refl
found_same c recent (Worked j x y) Nop = refl
found_same c recent (Worked j x y) Drop = refl
found_same c recent (Worked j x y) Select = refl
found_same c recent (Worked j x y) (LocalGet p) = refl
found_same c recent (Worked j x y) (LocalSet p) = refl
found_same c recent (Worked j x y) (LocalTee p) = refl
found_same c recent (Worked j x y) (GlobalGet p) = refl
found_same c recent (Worked j x y) (GlobalSet p) = refl
found_same c recent (Worked j x y) (Load p q r) = refl
found_same c recent (Worked j x y) (Store p q r) = refl
found_same c recent (Worked j x y) MemorySize = refl
found_same c recent (Worked j x y) MemoryGrow = refl
found_same c recent (Worked j x y) MemoryCopy = refl
found_same c recent (Worked j x y) MemoryFill = refl
found_same c recent (Worked j x y) (Const p) = refl
found_same c recent (Worked j x y) (Eqz p) = refl
found_same c recent (Worked j x y) (Unary p q) = refl
found_same c recent (Worked j x y) (Compare p q) = refl
found_same c recent (Worked j x y) (Binary p q) = refl
found_same c recent (Worked j x y) (Convert p) = refl
found_same c recent (Worked j x y) (Extend32 p) = refl
found_same c recent (Worked j x y) (Extend64 p) = refl

-- what stands behind a list, `else` or `end`, finds nothing, and nothing is known behind it
abbrev Quiet : Item → Type 0
Quiet e = (c : Candidate) (os : List ℕ) (w : Here) (at : ℕ) → (found_by c w e ≡ []) × (passed os w at e ≡ nothing)

quiet_end : Quiet End
quiet_end c os w at = (refl, refl)

quiet_else : Quiet Else
quiet_else c os w at = (refl, refl)

module _ (c : Candidate) (os : List ℕ) where
  abbrev since : List ℕ → Trail → Here
  since recent t = here (λ x. among x recent) t

  two_parts : (a b : List Derivation) (w : Here) (code more : List Placed) → found_along c os w code ≡ b ++ found_along c os nothing more → a ++ found_along c os w code ≡ (a ++ b) ++ found_along c os nothing more
  two_parts a b w code more h = ap (λ z. a ++ z) h ∙ sym (append_assoc a b (found_along c os nothing more))

  gives : (recent : List ℕ) (t : Trail) (nodes : Nodes) (e : Item) (at : ℕ) (more : List Placed) → IsTree nodes → Quiet e →
      found_along c os (since recent t) (write nodes (placed at e ∷ more)) ≡ derived_from (may c) os recent t nodes ++ found_along c os nothing more
  gives recent t stop e at more it q =
      let z = q c os (since recent t) at in ap₂ (λ (ds : List Derivation) (w : Here). ds ++ found_along c os w more) z.0 z.1
  gives recent t (basic o i rest) e at more it q =
      let code = write rest (placed at e ∷ more) in
      let behind = recent_behind os recent o i in
      ap₂ (λ (ds : List Derivation) (these : ℕ → Bool). ds ++ found_along c os (here these (trail_behind t i)) code) (found_same c recent t i) (recent_step (local_written i) (can_leave os o i) recent)
      ∙ two_parts (found_at (may c) recent t i) (derived_from (may c) os behind (trail_behind t i) rest) (since behind (trail_behind t i)) code more (gives behind (trail_behind t i) rest e at more it q)
  gives recent t (jump o j rest) e at more it q = gives [] Nowhere rest e at more it q
  gives recent t (block o r inner end rest) e at more it q =
      let a = derived_from (may c) os [] Nowhere inner in
      gives [] Nowhere inner End end (write rest (placed at e ∷ more)) it.0 quiet_end
      ∙ two_parts a (derived_from (may c) os [] Nowhere rest) nothing (write rest (placed at e ∷ more)) more (gives [] Nowhere rest e at more it.1 q)
  gives recent t (loop o r inner end rest) e at more it q =
      let a = derived_from (may c) os [] Nowhere inner in
      gives [] Nowhere inner End end (write rest (placed at e ∷ more)) it.0 quiet_end
      ∙ two_parts a (derived_from (may c) os [] Nowhere rest) nothing (write rest (placed at e ∷ more)) more (gives [] Nowhere rest e at more it.1 q)
  gives recent t (choose o r a None b end rest) e at more it q =
      let d = derived_from (may c) os [] Nowhere a in
      let f = derived_from (may c) os [] Nowhere rest in
      ap (λ n. found_along c os nothing (write a (write n (placed end End ∷ write rest (placed at e ∷ more))))) it.1
      ∙ gives [] Nowhere a End end (write rest (placed at e ∷ more)) it.0 quiet_end
      ∙ two_parts d f nothing (write rest (placed at e ∷ more)) more (gives [] Nowhere rest e at more it.3 q)
      ∙ ap (λ n. (d ++ (derived_from (may c) os [] Nowhere n ++ f)) ++ found_along c os nothing more) (sym it.1)
  gives recent t (choose o r a (Some els) b end rest) e at more it q =
      let d = derived_from (may c) os [] Nowhere a in
      let f = derived_from (may c) os [] Nowhere b in
      let g = derived_from (may c) os [] Nowhere rest in
      let tail = write rest (placed at e ∷ more) in
      gives [] Nowhere a Else els (write b (placed end End ∷ tail)) it.0 quiet_else
      ∙ two_parts d (f ++ g) nothing (write b (placed end End ∷ tail)) more
      (gives [] Nowhere b End end tail it.2 quiet_end ∙ two_parts f g nothing tail more (gives [] Nowhere rest e at more it.3 q))

  pub found_begin : (targets : List ℕ) (ops : List Op) (tree : Tree) → Writes targets ops tree → found_along c os nothing (code_of targets ops) ≡ derived_from (may c) os [] Nowhere tree.nodes
  found_begin targets ops tree w =
      ap (found_along c os nothing) w.out ∙ gives [] Nowhere tree.nodes End tree.end [] w.arms quiet_end ∙ append-nil (derived_from (may c) os [] Nowhere tree.nodes)

-- ---- along the loop

abbrev pub Left : ℕ → Candidate → List ℕ → List Derivation → Here → List Placed → List Derivation → Type 0
Left most c os kept w code all_ = take most (kept ++ found_along c os w code) ≡ all_

own_may : (parameters : ℕ) (locals : List ValType) (times : BTreeMap ℕ Bool) (nodes : Nodes) → ((x : ℕ) → often times x ≡ at_places (places nodes x)) → may (candidate parameters locals times) ≡ may_derive parameters locals nodes
own_may parameters locals times nodes h = λ i x t. (ap (λ b. nat_le parameters x && (has_type locals x t && b)) (ap is_once (h x) ∙ once_at (places nodes x))) i

pub derived_begin : (parameters : ℕ) (locals : List ValType) (times : BTreeMap ℕ Bool) (os targets : List ℕ) (ops : List Op) (tree : Tree) → Writes targets ops tree →
    ((x : ℕ) → often times x ≡ at_places (places tree.nodes x)) → Left (length locals / 3) (candidate parameters locals times) os [] nothing (code_of targets ops) (derived_in parameters locals os tree.nodes)
derived_begin parameters locals times os targets ops tree w h =
    ap (take (length locals / 3)) (found_begin (candidate parameters locals times) os targets ops tree w ∙ ap (λ m. derived_from m os [] Nowhere tree.nodes) (own_may parameters locals times tree.nodes h))

kept_one : (most : ℕ) (kept : List Derivation) (o : Option Derivation) (b : Bool) (rest : List Derivation) → b ≡ nat_lt (length kept) most → take most (where_room b kept o ++ rest) ≡ take most (kept ++ (listed o ++ rest))
kept_one most kept None b rest e = refl
kept_one most kept (Some d) true rest e = ap (take most) (append_assoc kept (d ∷ []) rest)
kept_one most kept (Some d) false rest e =
    let le : most ≤ length kept = omega (arith, full (nat_lt (length kept) most) refl e) in take-append-le most kept rest le ∙ sym (take-append-le most kept (d ∷ rest) le)
  where
    full : (b : Bool) → nat_lt (length kept) most ≡ b → false ≡ b → most ≤ length kept
    full true l f = absurd (cc)
    full false l f = omega (arith, ltb-false (length kept) most l)

pub derived_turn : (most : ℕ) (c : Candidate) (os targets : List ℕ) (ops : List Op) (pc : ℕ) (o : Op) (w w' : Here) (kept kept' : List Derivation) (n : ℕ) (found : Option Derivation) (all_ : List Derivation) → slice_get ops pc ≡ Some o →
    w' ≡ passed os w o.at (item_of targets o.code) → n ≡ length kept → kept' ≡ where_room (nat_lt n most) kept found → listed found ≡ found_by c w (item_of targets o.code) →
    Left most c os kept w (drop pc (code_of targets ops)) all_ → Left most c os kept' w' (drop (pc + 1) (code_of targets ops)) all_
derived_turn most c os targets ops pc o w w' kept kept' n found all_ at went many keeps is h =
    let one : pc + 1 ≡ suc pc = omega arith in
    let rest = found_along c os (passed os w o.at (item_of targets o.code)) (drop (suc pc) (code_of targets ops)) in
    ap (λ k. take most (kept' ++ found_along c os w' (drop k (code_of targets ops)))) one
    ∙ ap₂ (λ (v : Here) (ds : List Derivation). take most (ds ++ found_along c os v (drop (suc pc) (code_of targets ops)))) went keeps
    ∙ kept_one most kept found (nat_lt n most) rest (ap (λ k. nat_lt k most) many)
    ∙ ap (λ ds. take most (kept ++ (ds ++ rest))) is
    ∙ sym (ap (λ code. take most (kept ++ found_along c os w code)) (begins_with targets ops pc o at)) ∙ h

pub derived_end : (most : ℕ) (c : Candidate) (os targets : List ℕ) (ops : List Op) (pc : ℕ) (w : Here) (kept all_ : List Derivation) → length ops ≤ pc → length kept ≤ most →
    Left most c os kept w (drop pc (code_of targets ops)) all_ → kept ≡ all_
derived_end most c os targets ops pc w kept all_ le few h =
    sym (ap (λ code. take most (kept ++ found_along c os w code)) (nothing_left targets ops pc le) ∙ ap (take most) (append-nil kept) ∙ take_all most kept few) ∙ h
