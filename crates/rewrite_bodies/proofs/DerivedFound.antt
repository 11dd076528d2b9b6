-- Where derivations are found, and that the code keeps what they say. The locals of one that is found in some nodes are written there, or in the run
-- of instructions right before, and nowhere else, since they are written at one place each; so the nodes that others are found in don't change them.
use Rattle.std.proofs.Common.{◌≡◌, ◌≢◌, ℕ, zero, suc, ◌+◌, ◌/◌, ◌≤◌, ◌==◌, ◌&&◌, ◌||◌, not, nat_le, List, [], ◌∷◌, ◌++◌, length, take, slice_get, Option, Some, None, Bool, true, false, refl, sym, ap, ◌∙◌, subst, arith, ◌⊎◌, inl, inr, leb-true}
use Rattle.std.proofs.lemmas.Bool.{eq-eqb, eqb-true, and_parts}
use Rattle.std.specs.List.{AllByRecursion}
use Rattle.wasm_syntax.specs.declared.value.ValType.{ValType}
use Rattle.wasm_syntax.specs.declared.instruction.Basic.{Basic}
use Rattle.wasm_syntax.specs.declared.instruction.Basic.TheVariants.{LocalGet, LocalSet}
use Rattle.wasm_syntax.specs.declared.module.ModuleParts.{ModuleParts as Module}
use Rattle.wasm_syntax.specs.Module.{type_at}
use Rattle.wasm_syntax.specs.Tree.{Nodes, stop, basic, jump, block, loop, choose}
use Rattle.wasm_syntax.proofs.Types.{same_type_is}
use Rattle.rewrite_bodies.specs.calls.Slots.{Derivation, local_written}
use Rattle.rewrite_bodies.specs.calls.Facts.{is_local, among, exposed_in}
use Rattle.rewrite_bodies.specs.calls.Derived.{derives, taken_type, given_type, Trail, Nowhere, One, Two, Worked, trail_behind, worked_if, one_if, places, has_type, may_derive, fits, one_found, found_at, can_leave, with_written, none_if, recent_behind, derived_from, count_of, derived_for, ahead, ahead_unless, Keeps, Keeping}
use Rattle.rewrite_bodies.proofs.FactLaws.{or_left, or_right, same_number}

-- ---- which they are

pub data In (d : Derivation) : List Derivation → Type 0 where
  here : {ds : List Derivation} → In d (d ∷ ds)
  there : {e : Derivation} {ds : List Derivation} → In d ds → In d (e ∷ ds)

pub all_in : (P : Derivation → Type 0) (ds : List Derivation) → ((d : Derivation) → In d ds → P d) → AllByRecursion P ds
all_in P [] h = tt
all_in P (d ∷ ds) h = (h d here, all_in P ds (λ e i. h e (there i)))

none_in : (d : Derivation) → In d [] → ⊥
none_in d h = elim h [ ]

in_parts : (d : Derivation) (xs ys : List Derivation) → In d (xs ++ ys) → In d xs ⊎ In d ys
in_parts d [] ys h = inr h
in_parts d (x ∷ xs) ys here = inl here
in_parts d (x ∷ xs) ys (there h) = later (in_parts d xs ys h)
  where
    later : In d xs ⊎ In d ys → In d (x ∷ xs) ⊎ In d ys
    later (inl a) = inl (there a)
    later (inr b) = inr b

pub in_take : (d : Derivation) (k : ℕ) (xs : List Derivation) → In d (take k xs) → In d xs
in_take d zero xs h = absurd (none_in d h)
in_take d (suc k) [] h = absurd (none_in d h)
in_take d (suc k) (x ∷ xs) here = here
in_take d (suc k) (x ∷ xs) (there h) = there (in_take d k xs h)

in_one : (d e : Derivation) (b : Bool) → In d (one_found b e) → (b ≡ true) × (d ≡ e)
in_one d e true here = (refl, refl)
in_one d e true (there h) = absurd (none_in d h)
in_one d e false h = absurd (none_in d h)

apart : (a b : ℕ) → not (a == b) ≡ true → a ≢ b
apart a b h = λ e. absurd (let k : (a == b) ≡ true = eq-eqb a b e in cc)

module _ (may : ℕ → ValType → Bool) where
  -- what one has that is found at an instruction
  record Found (recent : List ℕ) (t : Trail) (i : Basic) (d : Derivation) : Type 0 where
    pub set : i ≡ LocalSet d.made
    pub trail : t ≡ Worked d.instruction d.left d.right
    pub left : may d.left (taken_type d.instruction) ≡ true
    pub right : may d.right (taken_type d.instruction) ≡ true
    pub made : may d.made (given_type d.instruction) ≡ true
    pub near_left : among d.left recent ≡ true
    pub near_right : among d.right recent ≡ true
    pub apart_left : d.left ≢ d.made
    pub apart_right : d.right ≢ d.made

  found_fits : (recent : List ℕ) (t : Trail) (i : Basic) (d : Derivation) → i ≡ LocalSet d.made → t ≡ Worked d.instruction d.left d.right → fits may recent d ≡ true → Found recent t i d
  found_fits recent t i d e k h =
      let m = may d.made (given_type d.instruction) in
      let a = not (d.left == d.made) in
      let b = not (d.right == d.made) in
      let l = may d.left (taken_type d.instruction) in
      let r = may d.right (taken_type d.instruction) in
      let x = among d.left recent in
      let y = among d.right recent in
      let p = and_parts (m && (a && b)) ((l && x) && (r && y)) h in
      let q = and_parts m (a && b) p.0 in
      let u = and_parts a b q.1 in
      let v = and_parts (l && x) (r && y) p.1 in
      let z = and_parts l x v.0 in
      let w = and_parts r y v.1 in
      record {
        set = e;
        trail = k;
        left = z.0;
        right = w.0;
        made = q.0;
        near_left = z.1;
        near_right = w.1;
        apart_left = apart d.left d.made u.0;
        apart_right = apart d.right d.made u.1;
      }

  found_one : (recent : List ℕ) (i : Basic) (x y m : ℕ) (d : Derivation) → In d (found_at may recent (Worked i x y) (LocalSet m)) → Found recent (Worked i x y) (LocalSet m) d
  found_one recent i x y m d h =
      let e : Derivation = record { made = m; instruction = i; left = x; right = y } in
      let z = in_one d e (fits may recent e) h in
      found_fits recent (Worked i x y) (LocalSet m) d (ap (λ q. LocalSet q.made) (sym z.1)) (ap (λ q. Worked q.instruction q.left q.right) (sym z.1)) (ap (fits may recent) z.1 ∙ z.0)

  found : (recent : List ℕ) (t : Trail) (i : Basic) (d : Derivation) → In d (found_at may recent t i) → Found recent t i d
  found recent (Worked i x y) (LocalSet m) d h = found_one recent i x y m d h
  found recent t i d h = absurd (none_in d h)

  -- what each of them has
  pub record Fits (d : Derivation) : Type 0 where
    pub left : may d.left (taken_type d.instruction) ≡ true
    pub right : may d.right (taken_type d.instruction) ≡ true
    pub made : may d.made (given_type d.instruction) ≡ true
    pub derives : derives d.instruction ≡ true

  abbrev Sane : Trail → Type 0
  Sane (Worked i x y) = derives i ≡ true
  Sane t = Unit {0}

  sane_if : (b : Bool) (i : Basic) (x y : ℕ) → derives i ≡ b → Sane (worked_if b i x y)
  sane_if true i x y e = e
  sane_if false i x y e = tt

  sane : (t : Trail) (i : Basic) → Sane t → Sane (trail_behind t i)
  sane (Two x y) (LocalGet z) s = tt
  sane (Two x y) i s = sane_if (derives i) i x y refl
  sane (One y) (LocalGet z) s = tt
  sane (One y) i s = tt
  sane Nowhere (LocalGet z) s = tt
  sane Nowhere i s = tt
  sane (Worked j x y) (LocalGet z) s = tt
  sane (Worked j x y) i s = tt

  fits_of : (recent : List ℕ) (t : Trail) (i : Basic) (d : Derivation) → Sane t → Found recent t i d → Fits d
  fits_of recent t i d s h = record { left = h.left; right = h.right; made = h.made; derives = subst Sane h.trail s }

  module _ (os : List ℕ) where
    pub all_fit : (nodes : Nodes) (recent : List ℕ) (t : Trail) (d : Derivation) → Sane t → In d (derived_from may os recent t nodes) → Fits d
    all_fit stop recent t d s h = absurd (none_in d h)
    all_fit (basic o i rest) recent t d s h =
        elim (in_parts d (found_at may recent t i) (derived_from may os (recent_behind os recent o i) (trail_behind t i) rest) h) [
          | inl a ↦ fits_of recent t i d s (found recent t i d a)
          | inr b ↦ all_fit rest (recent_behind os recent o i) (trail_behind t i) d (sane t i s) b
        ]
    all_fit (jump o j rest) recent t d s h = all_fit rest [] Nowhere d tt h
    all_fit (block o r inner end rest) recent t d s h =
        elim (in_parts d (derived_from may os [] Nowhere inner) (derived_from may os [] Nowhere rest) h) [ inl a ↦ all_fit inner [] Nowhere d tt a | inr b ↦ all_fit rest [] Nowhere d tt b ]
    all_fit (loop o r inner end rest) recent t d s h =
        elim (in_parts d (derived_from may os [] Nowhere inner) (derived_from may os [] Nowhere rest) h) [ inl a ↦ all_fit inner [] Nowhere d tt a | inr b ↦ all_fit rest [] Nowhere d tt b ]
    all_fit (choose o r x else_at y end rest) recent t d s h =
        elim (in_parts d (derived_from may os [] Nowhere x) (derived_from may os [] Nowhere y ++ derived_from may os [] Nowhere rest) h) [
          | inl a ↦ all_fit x [] Nowhere d tt a
          | inr b ↦ elim (in_parts d (derived_from may os [] Nowhere y) (derived_from may os [] Nowhere rest) b) [ inl k ↦ all_fit y [] Nowhere d tt k | inr k ↦ all_fit rest [] Nowhere d tt k ]
        ]

-- ---- those of a function

type_has : (locals : List ValType) (x : ℕ) (t : ValType) → has_type locals x t ≡ true → slice_get locals x ≡ Some t
type_has [] x t h = absurd (cc)
type_has (u ∷ us) zero t h = ap Some (same_type_is u t h)
type_has (u ∷ us) (suc x) t h = type_has us x t h

pub all_for : (m : Module) (f : ℕ) (locals : List ValType) (nodes : Nodes) (P : Derivation → Type 0) → ((d : Derivation) → Fits (may_derive (count_of (type_at m f)) locals nodes) d → P d) → AllByRecursion P (derived_for m f locals nodes)
all_for m f locals nodes P h =
    let may = may_derive (count_of (type_at m f)) locals nodes in
    let os = exposed_in m.memories nodes in
    let ds = derived_from may os [] Nowhere nodes in
    let most = length locals / 3 in all_in P (take most ds) (λ d i. h d (all_fit may os nodes [] Nowhere d tt (in_take d most ds i)))

pub record May (parameters : ℕ) (locals : List ValType) (nodes : Nodes) (x : ℕ) (t : ValType) : Type 0 where
  pub declared : parameters ≤ x
  pub typed : slice_get locals x ≡ Some t
  pub one_place : places nodes x ≡ 1

pub may_parts : (parameters : ℕ) (locals : List ValType) (nodes : Nodes) (x : ℕ) (t : ValType) → may_derive parameters locals nodes x t ≡ true → May parameters locals nodes x t
may_parts parameters locals nodes x t h =
    let a = nat_le parameters x in
    let b = has_type locals x t in
    let c = places nodes x == 1 in
    let p = and_parts a (b && c) h in
    let q = and_parts b c p.1 in record { declared = leb-true parameters x p.0; typed = type_has locals x t q.0; one_place = eqb-true (places nodes x) 1 q.1 }

-- ---- what they say is kept

-- 1 where the local was written since the frame could be left
abbrev pub before : List ℕ → ℕ → ℕ
before recent x = one_if (among x recent)

before_behind : (x : ℕ) (o : Option ℕ) (b : Bool) (recent : List ℕ) → before (with_written o (none_if b recent)) x ≤ one_if (is_local o x) + before recent x
before_behind x None true recent = omega arith
before_behind x None false recent = omega arith
before_behind x (Some y) b recent = one_of (y == x) b
  where
    one_of : (p b : Bool) → one_if (p || among x (none_if b recent)) ≤ one_if p + before recent x
    one_of true b = omega arith
    one_of false true = omega arith
    one_of false false = omega arith

-- where the frame can be left, at most by this instruction
before_left : (x : ℕ) (o : Option ℕ) (recent : List ℕ) → before (with_written o (none_if true recent)) x ≤ one_if (is_local o x)
before_left x None recent = omega arith
before_left x (Some y) recent = one_of (y == x)
  where
    one_of : (p : Bool) → one_if (p || false) ≤ one_if p
    one_of true = omega arith
    one_of false = omega arith

one_true : (b : Bool) → b ≡ true → one_if b ≡ 1
one_true b e = ap one_if e

set_writes : (i : Basic) (x : ℕ) → i ≡ LocalSet x → is_local (local_written i) x ≡ true
set_writes i x e = subst (λ z. is_local (local_written z) x ≡ true) (sym e) (same_number x)

set_only : (i : Basic) (m x : ℕ) → i ≡ LocalSet m → is_local (local_written i) x ≡ true → m ≡ x
set_only i m x e h = eqb-true m x (subst (λ z. is_local (local_written z) x ≡ true) e h)

set_ahead : (os : List ℕ) (o : ℕ) (i : Basic) (rest : Nodes) (m : ℕ) → i ≡ LocalSet m → ahead os (basic o i rest) m ≡ true
set_ahead os o i rest m e = subst (λ z. ahead os (basic o z rest) m ≡ true) (sym e) (or_left (m == m) (ahead os rest m) (same_number m))

-- of nodes that write each local at so many places: they write those of a derivation; each of them at most once, with what was written before; none
record Touched (p : ℕ → ℕ) (d : Derivation) : Type 0 where
  pub left : 1 ≤ p d.left
  pub right : 1 ≤ p d.right
  pub made : 1 ≤ p d.made

pub record Once (recent : List ℕ) (p : ℕ → ℕ) (d : Derivation) : Type 0 where
  pub left : before recent d.left + p d.left ≤ 1
  pub right : before recent d.right + p d.right ≤ 1
  pub made : p d.made ≤ 1

pub record Untouched (p : ℕ → ℕ) (d : Derivation) : Type 0 where
  pub left : p d.left ≡ 0
  pub right : p d.right ≡ 0
  pub made : p d.made ≡ 0

abbrev pub Kept : List ℕ → (ℕ → ℕ) → List Derivation → Derivation → Type 0
Kept recent p ds d = (Once recent p d × In d ds) ⊎ Untouched p d

parted : (p q : ℕ → ℕ) (xs ys : List Derivation) (recent : List ℕ) (d : Derivation) → (In d xs → Touched p d) → (In d ys → Touched q d) → Kept recent (λ x. p x + q x) (xs ++ ys) d → Kept [] p xs d × Kept [] q ys d
parted p q xs ys recent d f g (inr u) =
    (inr (record { left = omega (arith, u.left); right = omega (arith, u.right); made = omega (arith, u.made) }), inr (record { left = omega (arith, u.left); right = omega (arith, u.right); made = omega (arith, u.made) }))
parted p q xs ys recent d f g (inl k) = by_part (in_parts d xs ys k.1)
  where
    by_part : In d xs ⊎ In d ys → Kept [] p xs d × Kept [] q ys d
    by_part (inl h) =
        let z = f h in (
          inl (record { left = omega (arith, k.0.left); right = omega (arith, k.0.right); made = omega (arith, k.0.made) }, h),
          inr (record { left = omega (arith, k.0.left, z.left); right = omega (arith, k.0.right, z.right); made = omega (arith, k.0.made, z.made) }),
        )
    by_part (inr h) =
        let z = g h in (
          inr (record { left = omega (arith, k.0.left, z.left); right = omega (arith, k.0.right, z.right); made = omega (arith, k.0.made, z.made) }),
          inl (record { left = omega (arith, k.0.left); right = omega (arith, k.0.right); made = omega (arith, k.0.made) }, h),
        )

touched_either : (p q : ℕ → ℕ) (xs ys : List Derivation) (d : Derivation) → (In d xs → Touched p d) → (In d ys → Touched q d) → In d (xs ++ ys) → Touched (λ x. p x + q x) d
touched_either p q xs ys d f g h = by_part (in_parts d xs ys h)
  where
    by_part : In d xs ⊎ In d ys → Touched (λ x. p x + q x) d
    by_part (inl h) = let z = f h in record { left = omega (arith, z.left); right = omega (arith, z.right); made = omega (arith, z.made) }
    by_part (inr h) = let z = g h in record { left = omega (arith, z.left); right = omega (arith, z.right); made = omega (arith, z.made) }

-- without what was written before
forgotten : (p : ℕ → ℕ) (xs : List Derivation) (recent : List ℕ) (d : Derivation) → Kept recent p xs d → Kept [] p xs d
forgotten p xs recent d (inr u) = inr u
forgotten p xs recent d (inl k) = inl (record { left = omega (arith, k.0.left); right = omega (arith, k.0.right); made = k.0.made }, k.1)

module _ (may : ℕ → ValType → Bool) (os : List ℕ) where
  abbrev pub These : List ℕ → Trail → Nodes → List Derivation
  These recent t nodes = derived_from may os recent t nodes

  -- a derivation and one of its locals
  module _ (d : Derivation) (x : ℕ) where
    -- it is written in the nodes in which the derivation is found, or was so far
    module _ (so_far : List ℕ → ℕ)
        (none : so_far [] ≡ 0)
        (grows : (recent : List ℕ) (o : ℕ) (i : Basic) → so_far (recent_behind os recent o i) ≤ one_if (is_local (local_written i) x) + so_far recent)
        (now : (recent : List ℕ) (t : Trail) (i : Basic) → Found may recent t i d → 1 ≤ so_far recent + one_if (is_local (local_written i) x)) where
      touched : (nodes : Nodes) (recent : List ℕ) (t : Trail) → In d (These recent t nodes) → 1 ≤ so_far recent + places nodes x
      touched stop recent t h = absurd (none_in d h)
      touched (basic o i rest) recent t h =
          elim (in_parts d (found_at may recent t i) (These (recent_behind os recent o i) (trail_behind t i) rest) h) [
            | inl a ↦ omega (arith, now recent t i (found may recent t i d a))
            | inr b ↦ omega (arith, touched rest (recent_behind os recent o i) (trail_behind t i) b, grows recent o i)
          ]
      touched (jump o j rest) recent t h = omega (arith, none, touched rest [] Nowhere h)
      touched (block o r inner end rest) recent t h =
          elim (in_parts d (These [] Nowhere inner) (These [] Nowhere rest) h) [ inl a ↦ omega (arith, none, touched inner [] Nowhere a) | inr b ↦ omega (arith, none, touched rest [] Nowhere b) ]
      touched (loop o r inner end rest) recent t h =
          elim (in_parts d (These [] Nowhere inner) (These [] Nowhere rest) h) [ inl a ↦ omega (arith, none, touched inner [] Nowhere a) | inr b ↦ omega (arith, none, touched rest [] Nowhere b) ]
      touched (choose o r y else_at z end rest) recent t h =
          elim (in_parts d (These [] Nowhere y) (These [] Nowhere z ++ These [] Nowhere rest) h) [
            | inl a ↦ omega (arith, none, touched y [] Nowhere a)
            | inr b ↦ elim (in_parts d (These [] Nowhere z) (These [] Nowhere rest) b) [ inl k ↦ omega (arith, none, touched z [] Nowhere k) | inr k ↦ omega (arith, none, touched rest [] Nowhere k) ]
          ]

    -- one on whose value it is worked out
    module _ (near : (recent : List ℕ) (t : Trail) (i : Basic) → Found may recent t i d → among x recent ≡ true) where
      operand_touched : (nodes : Nodes) (recent : List ℕ) (t : Trail) → In d (These recent t nodes) → 1 ≤ before recent x + places nodes x
      operand_touched = touched (λ recent. before recent x) refl (λ recent o i. before_behind x (local_written i) (can_leave os o i) recent) now
        where
          now : (recent : List ℕ) (t : Trail) (i : Basic) → Found may recent t i d → 1 ≤ before recent x + one_if (is_local (local_written i) x)
          now recent t i h = omega (arith, one_true (among x recent) (near recent t i h))

      -- where none of these nodes writes it, the derivation's own is written before the frame can be left
      soon : (nodes : Nodes) (recent : List ℕ) (t : Trail) → In d (These recent t nodes) → places nodes x ≡ 0 → ahead os nodes d.made ≡ true
      soon stop recent t h n = absurd (none_in d h)
      soon (basic o i rest) recent t h n =
          elim (in_parts d (found_at may recent t i) (These (recent_behind os recent o i) (trail_behind t i) rest) h) [
            | inl a ↦ set_ahead os o i rest d.made (found may recent t i d a).set
            | inr b ↦ past (can_leave os o i) (operand_touched rest (recent_behind os recent o i) (trail_behind t i) b) (soon rest (recent_behind os recent o i) (trail_behind t i) b (omega arith))
          ]
        where
          past : (b : Bool) → 1 ≤ before (with_written (local_written i) (none_if b recent)) x + places rest x → ahead os rest d.made ≡ true → ahead_unless b (is_local (local_written i) d.made || ahead os rest d.made) ≡ true
          past true k e = absurd (omega (arith, before_left x (local_written i) recent))
          past false k e = or_right (is_local (local_written i) d.made) (ahead os rest d.made) e
      soon (jump o j rest) recent t h n = absurd (omega (arith, operand_touched rest [] Nowhere h))
      soon (block o r inner end rest) recent t h n = absurd (omega (arith, operand_touched (block o r inner end rest) [] t h))
      soon (loop o r inner end rest) recent t h n = absurd (omega (arith, operand_touched (loop o r inner end rest) [] t h))
      soon (choose o r y else_at z end rest) recent t h n = absurd (omega (arith, operand_touched (choose o r y else_at z end rest) [] t h))

  made_touched : (d : Derivation) (nodes : Nodes) (recent : List ℕ) (t : Trail) → In d (These recent t nodes) → 1 ≤ places nodes d.made
  made_touched d nodes recent t h = omega (arith, touched d d.made (λ recent. 0) refl (λ recent o i. omega arith) now nodes recent t h)
    where
      now : (recent : List ℕ) (t : Trail) (i : Basic) → Found may recent t i d → 1 ≤ 0 + one_if (is_local (local_written i) d.made)
      now recent t i h = omega (arith, one_true (is_local (local_written i) d.made) (set_writes i d.made h.set))

  all_touched : (d : Derivation) (nodes : Nodes) → In d (These [] Nowhere nodes) → Touched (places nodes) d
  all_touched d nodes h =
      record {
        left = omega (arith, operand_touched d d.left (λ recent t i f. f.near_left) nodes [] Nowhere h);
        right = omega (arith, operand_touched d d.right (λ recent t i f. f.near_right) nodes [] Nowhere h);
        made = made_touched d nodes [] Nowhere h;
      }

  module _ (o : ℕ) (i : Basic) (rest : Nodes) (recent : List ℕ) (t : Trail) (d : Derivation) where
    abbrev Here : Type 0
    Here = Kept recent (places (basic o i rest)) (These recent t (basic o i rest)) d

    abbrev Behind : Type 0
    Behind = Kept (recent_behind os recent o i) (places rest) (These (recent_behind os recent o i) (trail_behind t i) rest) d

    keeps_found : Found may recent t i d → Keeps os t i rest d
    keeps_found f =
        record {
          left = λ w. absurd (f.apart_left (sym (set_only i d.made d.left f.set w)));
          right = λ w. absurd (f.apart_right (sym (set_only i d.made d.right f.set w)));
          made = λ w. (f.set, f.trail, f.apart_left, f.apart_right);
        }

    keeps_later : Once recent (places (basic o i rest)) d → In d (These (recent_behind os recent o i) (trail_behind t i) rest) → Keeps os t i rest d
    keeps_later k h =
        let at = recent_behind os recent o i in
        let u = trail_behind t i in
        record {
          left = λ w. soon d d.left (λ recent t i f. f.near_left) rest at u h (omega (arith, k.left, one_true (is_local (local_written i) d.left) w));
          right = λ w. soon d d.right (λ recent t i f. f.near_right) rest at u h (omega (arith, k.right, one_true (is_local (local_written i) d.right) w));
          made = λ w. absurd (omega (arith, k.made, one_true (is_local (local_written i) d.made) w, made_touched d rest at u h));
        }

    keeps_untouched : Untouched (places (basic o i rest)) d → Keeps os t i rest d
    keeps_untouched k =
        record {
          left = λ w. absurd (omega (arith, k.left, one_true (is_local (local_written i) d.left) w));
          right = λ w. absurd (omega (arith, k.right, one_true (is_local (local_written i) d.right) w));
          made = λ w. absurd (omega (arith, k.made, one_true (is_local (local_written i) d.made) w));
        }

    keeps : Here → Keeps os t i rest d
    keeps (inr k) = keeps_untouched k
    keeps (inl k) =
        elim (in_parts d (found_at may recent t i) (These (recent_behind os recent o i) (trail_behind t i) rest) k.1) [ inl a ↦ keeps_found (found may recent t i d a) | inr b ↦ keeps_later k.0 b ]

    behind_found : Once recent (places (basic o i rest)) d → Found may recent t i d → Untouched (places rest) d
    behind_found k f =
        record {
          left = omega (arith, k.left, one_true (among d.left recent) f.near_left);
          right = omega (arith, k.right, one_true (among d.right recent) f.near_right);
          made = omega (arith, k.made, one_true (is_local (local_written i) d.made) (set_writes i d.made f.set));
        }

    behind_later : Once recent (places (basic o i rest)) d → Once (recent_behind os recent o i) (places rest) d
    behind_later k =
        record {
          left = omega (arith, k.left, before_behind d.left (local_written i) (can_leave os o i) recent);
          right = omega (arith, k.right, before_behind d.right (local_written i) (can_leave os o i) recent);
          made = omega (arith, k.made);
        }

    kept_behind : Here → Behind
    kept_behind (inr k) = inr (record { left = omega (arith, k.left); right = omega (arith, k.right); made = omega (arith, k.made) })
    kept_behind (inl k) =
        elim (in_parts d (found_at may recent t i) (These (recent_behind os recent o i) (trail_behind t i) rest) k.1)
        [ inl a ↦ inr (behind_found k.0 (found may recent t i d a)) | inr b ↦ inl (behind_later k.0, b) ]

  abbrev pub AllKept : List Derivation → List ℕ → (ℕ → ℕ) → List Derivation → Type 0
  AllKept ds recent p xs = (d : Derivation) → In d ds → Kept recent p xs d

  kept_parts : (nodes : Nodes) (q : ℕ → ℕ) (ys ds : List Derivation) (recent : List ℕ) → ((d : Derivation) → In d ys → Touched q d) → AllKept ds recent (λ x. places nodes x + q x) (These [] Nowhere nodes ++ ys) → AllKept ds [] (places nodes) (These [] Nowhere nodes) × AllKept ds [] q ys
  kept_parts nodes q ys ds recent f h = (λ d i. (each d i).0, λ d i. (each d i).1)
    where
      each : (d : Derivation) → In d ds → Kept [] (places nodes) (These [] Nowhere nodes) d × Kept [] q ys d
      each d i = parted (places nodes) q (These [] Nowhere nodes) ys recent d (all_touched d nodes) (f d) (h d i)

  pub keeping : (ds : List Derivation) (nodes : Nodes) (recent : List ℕ) (t : Trail) → AllKept ds recent (places nodes) (These recent t nodes) → Keeping os ds t nodes
  keeping ds stop recent t h = tt
  keeping ds (basic o i rest) recent t h =
      (all_in (Keeps os t i rest) ds (λ d k. keeps o i rest recent t d (h d k)), keeping ds rest (recent_behind os recent o i) (trail_behind t i) (λ d k. kept_behind o i rest recent t d (h d k)))
  keeping ds (jump o j rest) recent t h = keeping ds rest [] Nowhere (λ d k. forgotten (places rest) (These [] Nowhere rest) recent d (h d k))
  keeping ds (block o r inner end rest) recent t h =
      let k = kept_parts inner (places rest) (These [] Nowhere rest) ds recent (λ d. all_touched d rest) h in (keeping ds inner [] Nowhere k.0, keeping ds rest [] Nowhere k.1)
  keeping ds (loop o r inner end rest) recent t h =
      let k = kept_parts inner (places rest) (These [] Nowhere rest) ds recent (λ d. all_touched d rest) h in (keeping ds inner [] Nowhere k.0, keeping ds rest [] Nowhere k.1)
  keeping ds (choose o r a else_at b end rest) recent t h =
      let ys = These [] Nowhere b in
      let zs = These [] Nowhere rest in
      let both : (d : Derivation) → In d (ys ++ zs) → Touched (λ x. places b x + places rest x) d = λ d. touched_either (places b) (places rest) ys zs d (all_touched d b) (all_touched d rest) in
      let k = kept_parts a (λ x. places b x + places rest x) (ys ++ zs) ds recent both h in
      let l = kept_parts b (places rest) zs ds [] (λ d. all_touched d rest) k.1 in
      (keeping ds a [] Nowhere k.0, keeping ds b [] Nowhere l.0, keeping ds rest [] Nowhere l.1)

-- in a whole function
pub once_first : (m : Module) (f : ℕ) (locals : List ValType) (nodes : Nodes) (d : Derivation) → Fits (may_derive (count_of (type_at m f)) locals nodes) d → Once [] (places nodes) d
once_first m f locals nodes d h = record { left = omega (arith, at d.left (taken_type d.instruction) h.left); right = omega (arith, at d.right (taken_type d.instruction) h.right); made = omega (arith, at d.made (given_type d.instruction) h.made) }
  where
    at : (x : ℕ) (t : ValType) → may_derive (count_of (type_at m f)) locals nodes x t ≡ true → places nodes x ≡ 1
    at x t k = (may_parts (count_of (type_at m f)) locals nodes x t k).one_place
