-- Operands that are copies of locals: they go to their slots before their local is written, and before a block.
use Rattle.std.proofs.Common.{◌≡◌, ℕ, suc, ◌+◌, ◌*◌, ◌<◌, ◌≤◌, ◌==◌, ◌≢◌, List, [], ◌∷◌, ◌++◌, length, Option, Some, None, Bool, true, false, refl, sym, ap, ◌∙◌, subst, arith, ◌⊎◌, inl, inr, length-append, slice_get, slice_set}
use Rattle.std.proofs.lemmas.List.{length-map, map-append}
use Rattle.std.proofs.lemmas.Bool.{eqb-false}
use Rattle.wasm_syntax.specs.declared.value.ValType.{ValType}
use Rattle.wasm_syntax.specs.declared.value.Value.{Value}
use Rattle.wasm_syntax.specs.declared.instruction.Basic.{Basic}
use Rattle.wasm_syntax.specs.declared.instruction.Basic.TheVariants.{LocalGet}
use Rattle.wasm_syntax.specs.Numbers.{types}
use Rattle.wasm_syntax.specs.Tree.{Nodes, basic}
use Rattle.wasm_syntax.specs.Host.{World}
use Rattle.wasm_syntax.specs.declared.host.CollectorCall.{CollectorCall}
use Rattle.wasm_syntax.specs.Machine.{Label, Engine}
use Rattle.rewrite_bodies.specs.calls.Slots.{Place, Spilled, Known, Copied, Ctx, slot, added, pushed, uncopied, without, under, freed, freed_at, local_written, length_at}
use Rattle.rewrite_bodies.specs.calls.Pieces.{set, spill_one, spill}
use Rattle.rewrite_bodies.specs.calls.Agreement.{One, Holds, awaits, pending, joined, FitsLabels}
use Rattle.rewrite_bodies.specs.calls.Steps.{To, Shell, st}
use Rattle.rewrite_bodies.proofs.Run.{get_own, slice_get-put_same, slice_get-put_other, types-slice_set, added_at, apart, still, weaken, seq, get_to, added_set, length_no_slot}

-- ---- places without copies

abbrev pub Fixed : List Place → Type 0
Fixed [] = Unit {0}
Fixed (Spilled t ∷ es) = Fixed es
Fixed (Known v ∷ es) = Fixed es
Fixed (Copied t x ∷ es) = ⊥

pub fixed_without : (these : ℕ → Bool) (js : List Place) → Fixed js → without these js ≡ js
fixed_without these [] f = refl
fixed_without these (Spilled t ∷ js) f = ap (λ (z : List Place). Spilled t ∷ z) (fixed_without these js f)
fixed_without these (Known v ∷ js) f = ap (λ (z : List Place). Known v ∷ z) (fixed_without these js f)
fixed_without these (Copied t x ∷ js) f = absurd f

pub fixed_spill : (C : Ctx) (these : ℕ → Bool) (js : List Place) (k : Nodes) → Fixed js → spill C these js k ≡ k
fixed_spill C these [] k f = refl
fixed_spill C these (Spilled t ∷ js) k f = fixed_spill C these js k f
fixed_spill C these (Known v ∷ js) k f = fixed_spill C these js k f
fixed_spill C these (Copied t x ∷ js) k f = absurd f

pub fixed_under : (es : List Place) → Fixed (under es)
fixed_under [] = tt
fixed_under (Spilled t ∷ es) = fixed_under es
fixed_under (Known v ∷ es) = fixed_under es
fixed_under (Copied t x ∷ es) = fixed_under es

fixed_append : (e js : List Place) → Fixed e → Fixed js → Fixed (e ++ js)
fixed_append [] js f g = g
fixed_append (Spilled t ∷ e) js f g = fixed_append e js f g
fixed_append (Known v ∷ e) js f g = fixed_append e js f g
fixed_append (Copied t x ∷ e) js f g = absurd f

holds_fixed : (C : Ctx) (ex : List Value) (js e : List Place) (ops : List Value) → Holds C [] ex js ops e → Fixed e
holds_fixed C ex js [] [] h = tt
holds_fixed C ex js [] (v ∷ ops) h = absurd h
holds_fixed C ex js (e ∷ es) [] h = absurd h
holds_fixed C ex js (Spilled t ∷ es) (v ∷ ops) h = holds_fixed C ex js es ops h.1
holds_fixed C ex js (Known w ∷ es) (v ∷ ops) h = holds_fixed C ex js es ops h.1
holds_fixed C ex js (Copied t x ∷ es) (v ∷ ops) h = absurd (let n : slice_get [] x ≡ Some v = h.0.0 in cc)

-- outside of the innermost label there are none
pub labels_fixed : (C : Ctx) (ex : List Value) (a : Option ValType) (Ls : List Label) (ss : List (List Place)) → FitsLabels C [] ex a Ls ss → Fixed (joined ss)
labels_fixed C ex a [] [] h = tt
labels_fixed C ex a [] (_ ∷ _) h = absurd h
labels_fixed C ex a (L ∷ Ls) [] h = absurd h
labels_fixed C ex a (L ∷ Ls) (e ∷ ss) h =
    fixed_append e (joined ss) (holds_fixed C ex (joined ss) e L.operands h.0) (labels_fixed C ex (awaits (pending L.kind)) Ls ss h.4)

holds_any : (C : Ctx) (l ex : List Value) (js e : List Place) (ops : List Value) → Holds C [] ex js ops e → Holds C l ex js ops e
holds_any C l ex js [] [] h = tt
holds_any C l ex js [] (v ∷ ops) h = absurd h
holds_any C l ex js (e ∷ es) [] h = absurd h
holds_any C l ex js (Spilled t ∷ es) (v ∷ ops) h = (h.0, holds_any C l ex js es ops h.1)
holds_any C l ex js (Known w ∷ es) (v ∷ ops) h = (h.0, holds_any C l ex js es ops h.1)
holds_any C l ex js (Copied t x ∷ es) (v ∷ ops) h = absurd (let n : slice_get [] x ≡ Some v = h.0.0 in cc)

pub fits_any : (C : Ctx) (l ex : List Value) (a : Option ValType) (Ls : List Label) (ss : List (List Place)) → FitsLabels C [] ex a Ls ss → FitsLabels C l ex a Ls ss
fits_any C l ex a [] [] h = tt
fits_any C l ex a [] (_ ∷ _) h = absurd h
fits_any C l ex a (L ∷ Ls) [] h = absurd h
fits_any C l ex a (L ∷ Ls) (e ∷ ss) h = (holds_any C l ex (joined ss) e L.operands h.0, h.1, h.2, h.3, h.4)

pub fixed_holds : (C : Ctx) (l ex : List Value) (js e : List Place) (ops : List Value) → Fixed e → Holds C l ex js ops e → Holds C [] ex js ops e
fixed_holds C l ex js [] [] f h = tt
fixed_holds C l ex js [] (v ∷ ops) f h = absurd h
fixed_holds C l ex js (e ∷ es) [] f h = absurd h
fixed_holds C l ex js (Spilled t ∷ es) (v ∷ ops) f h = (h.0, fixed_holds C l ex js es ops f h.1)
fixed_holds C l ex js (Known w ∷ es) (v ∷ ops) f h = (h.0, fixed_holds C l ex js es ops f h.1)
fixed_holds C l ex js (Copied t x ∷ es) (v ∷ ops) f h = absurd f

pub without_append : (these : ℕ → Bool) (e js : List Place) → Fixed js → without these (e ++ js) ≡ without these e ++ js
without_append these e js f = map-append (uncopied these) e js ∙ ap (λ (z : List Place). without these e ++ z) (fixed_without these js f)

pub freed_append : (i : Basic) (e js : List Place) → Fixed js → freed i (e ++ js) ≡ freed i e ++ js
freed_append i e js f = by_local (local_written i)
  where
    by_local : (o : Option ℕ) → freed_at o (e ++ js) ≡ freed_at o e ++ js
    by_local None = refl
    by_local (Some x) = without_append (λ y. x == y) e js f

pub pushed_append : (p : Option Place) (e js : List Place) → pushed p (e ++ js) ≡ pushed p e ++ js
pushed_append None e js = refl
pushed_append (Some q) e js = refl

pub without_length : (these : ℕ → Bool) (es : List Place) → length (without these es) ≡ length es
without_length these es = length-map es (uncopied these)

-- ---- added locals whose slots are the same but at these heights, and whose length of the memory is the same

abbrev pub Within : Ctx → ℕ → ℕ → List Value → List Value → Type 0
Within C low high ex ex' =
    ((t : ValType) (h : ℕ) → (h < low) ⊎ ((high ≤ h) × (h ≤ C.slots)) → slice_get ex' (slot C.slots t h) ≡ slice_get ex (slot C.slots t h))
    × (slice_get ex' (length_at C) ≡ slice_get ex (length_at C))

none_within : (C : Ctx) (low high : ℕ) (ex : List Value) → Within C low high ex ex
none_within C low high ex = ((λ t k d. refl), refl)

one_within : (C : Ctx) (l ex ex' : List Value) (low high h : ℕ) (e : Place) (v : Value) → Within C low high ex ex' → (h < low) ⊎ ((high ≤ h) × (h ≤ C.slots)) → One C l ex h e v → One C l ex' h e v
one_within C l ex ex' low high h (Spilled t) v w d o = (w.0 t h d ∙ o.0, o.1)
one_within C l ex ex' low high h (Known u) v w d o = o
one_within C l ex ex' low high h (Copied t x) v w d o = o

holds_within : (C : Ctx) (l ex ex' : List Value) (low high : ℕ) (js es : List Place) (ops : List Value) → Within C low high ex ex' → length (es ++ js) ≤ low → Holds C l ex js ops es → Holds C l ex' js ops es
holds_within C l ex ex' low high js [] [] w le h = tt
holds_within C l ex ex' low high js [] (v ∷ ops) w le h = absurd h
holds_within C l ex ex' low high js (e ∷ es) [] w le h = absurd h
holds_within C l ex ex' low high js (e ∷ es) (v ∷ ops) w le h =
    (one_within C l ex ex' low high (length (es ++ js)) e v w (inl (omega (arith, le))) h.0, holds_within C l ex ex' low high js es ops w (omega (arith, le)) h.1)

pub fits_within : (C : Ctx) (l ex ex' : List Value) (low high : ℕ) (a : Option ValType) (Ls : List Label) (ss : List (List Place)) → Within C low high ex ex' → length (joined ss) ≤ low → FitsLabels C l ex a Ls ss → FitsLabels C l ex' a Ls ss
fits_within C l ex ex' low high a [] [] w le h = tt
fits_within C l ex ex' low high a [] (_ ∷ _) w le h = absurd h
fits_within C l ex ex' low high a (L ∷ Ls) [] w le h = absurd h
fits_within C l ex ex' low high a (L ∷ Ls) (e ∷ ss) w le h = (
  holds_within C l ex ex' low high (joined ss) e L.operands w le h.0,
  h.1,
  h.2,
  h.3,
  fits_within C [] ex ex' low high (awaits (pending L.kind)) Ls ss w (omega (arith, le, length-append e (joined ss))) h.4,
)

-- ---- copies go to their slots

module _ (M : Engine) (C : Ctx) (l : List Value) (size : length C.locals ≡ length l) where
  abbrev SpilledOne : Shell → List Value → World → List CollectorCall → List Value → (ℕ → Bool) → Place → ℕ → Value → Nodes → Type 0
  SpilledOne X s g co ex these e h v k =
      (ex' : List Value) × (types ex' ≡ types ex) × Within C h (suc h) ex ex' × One C l ex' h (uncopied these e) v × To M 0 2 (st X (l ++ ex) s (spill_one C these e h k) g co) (st X (l ++ ex') s k g co)

  put_within : (ex : List Value) (t : ValType) (h : ℕ) (v : Value) → h ≤ C.slots → Within C h (suc h) ex (slice_set ex (slot C.slots t h) v)
  put_within ex t h v le = (slots_stay, slice_get-put_other ex (length_at C) (slot C.slots t h) v (length_no_slot C h t le))
    where
      slots_stay : (u : ValType) (k : ℕ) → (k < h) ⊎ ((suc h ≤ k) × (k ≤ C.slots)) → slice_get (slice_set ex (slot C.slots t h) v) (slot C.slots u k) ≡ slice_get ex (slot C.slots u k)
      slots_stay u k (inl lt) = slice_get-put_other ex (slot C.slots u k) (slot C.slots t h) v (apart C u t k h lt le)
      slots_stay u k (inr d) = slice_get-put_other ex (slot C.slots u k) (slot C.slots t h) v (λ e. apart C t u h k d.0 d.1 (sym e))

  copy_to : (X : Shell) (s : List Value) (g : World) (co : List CollectorCall) (ex : List Value) (these : ℕ → Bool) (t : ValType) (x h : ℕ) (v : Value) (k : Nodes) (q : Bool) → these x ≡ q → types ex ≡ added C.slots → h ≤ C.slots → One C l ex h (Copied t x) v → SpilledOne X s g co ex these (Copied t x) h v k
  copy_to X s g co ex these t x h v k false e ty le o = rw e (ex, refl, none_within C h (suc h) ex, o, weaken M (still M _) (omega arith) (omega arith))
  copy_to X s g co ex these t x h v k true e ty le o =
      let at : slice_get (types ex) (slot C.slots t h) ≡ Some t = rw ty (added_at C.slots h t le) in
      let s1 : To M 1 1 (st X (l ++ ex) s (basic 0 (LocalGet x) (set C (slot C.slots t h) k)) g co) (st X (l ++ ex) (v ∷ s) (set C (slot C.slots t h) k) g co) = get_to M x v (get_own l ex x v o.0) in
      let s2 : To M 1 1 (st X (l ++ ex) (v ∷ s) (set C (slot C.slots t h) k) g co) (st X (l ++ slice_set ex (slot C.slots t h) v) s k g co) = added_set M C l size ex (slot C.slots t h) t v at o.1 in
      rw e (slice_set ex (slot C.slots t h) v, types-slice_set ex (slot C.slots t h) t v at o.1, put_within ex t h v le, (slice_get-put_same ex (slot C.slots t h) t v at, o.1), weaken M (seq M s1 s2) (omega arith) (omega arith))

  one_to : (X : Shell) (s : List Value) (g : World) (co : List CollectorCall) (ex : List Value) (these : ℕ → Bool) (e : Place) (h : ℕ) (v : Value) (k : Nodes) → types ex ≡ added C.slots → h ≤ C.slots → One C l ex h e v → SpilledOne X s g co ex these e h v k
  one_to X s g co ex these (Spilled t) h v k ty le o = (ex, refl, none_within C h (suc h) ex, o, weaken M (still M _) (omega arith) (omega arith))
  one_to X s g co ex these (Known w) h v k ty le o = (ex, refl, none_within C h (suc h) ex, o, weaken M (still M _) (omega arith) (omega arith))
  one_to X s g co ex these (Copied t x) h v k ty le o = copy_to X s g co ex these t x h v k (these x) refl ty le o

  -- those of the innermost label, over places without copies
  pub spill_to : (X : Shell) (s : List Value) (g : World) (co : List CollectorCall) (ex : List Value) (these : ℕ → Bool) (js e : List Place) (ops : List Value) (k : Nodes) → types ex ≡ added C.slots → length (e ++ js) ≤ C.slots → Fixed js → Holds C l ex js ops e →
      (ex' : List Value) × (types ex' ≡ types ex) × Within C (length js) (length (e ++ js)) ex ex' × Holds C l ex' js ops (without these e) × To M 0 (2 * length e) (st X (l ++ ex) s (spill C these (e ++ js) k) g co) (st X (l ++ ex') s k g co)
  spill_to X s g co ex these js [] [] k ty le f h = (ex, refl, none_within C (length js) (length js) ex, tt, rw (fixed_spill C these js k f) (weaken M (still M _) (omega arith) (omega arith)))
  spill_to X s g co ex these js [] (v ∷ ops) k ty le f h = absurd h
  spill_to X s g co ex these js (e ∷ es) [] k ty le f h = absurd h
  spill_to X s g co ex these js (e ∷ es) (v ∷ ops) k ty le f h =
      let n = length (es ++ js) in
      let a = spill_to X s g co ex these js es ops (spill_one C these e n k) ty (omega (arith, le)) f h.1 in
      let ex1 = a.0 in
      let here : n ≤ n = omega arith in
      let top : n ≤ C.slots = omega (arith, le) in
      let o1 : One C l ex1 n e v = one_within C l ex ex1 (length js) n n e v a.2 (inr (here, top)) h.0 in
      let b = one_to X s g co ex1 these e n v k (a.1 ∙ ty) (omega (arith, le)) o1 in
      let ex2 = b.0 in
      let lo : length js ≤ n = omega (arith, length-append es js) in
      let same : length (without these es ++ js) ≡ n = length-append (without these es) js ∙ ap (λ (z : ℕ). z + length js) (without_length these es) ∙ sym (length-append es js) in
      let o2 : One C l ex2 (length (without these es ++ js)) (uncopied these e) v = subst (λ (z : ℕ). One C l ex2 z (uncopied these e) v) (sym same) b.3 in
      let h2 : Holds C l ex2 js ops (without these es) = holds_within C l ex1 ex2 n (suc n) js (without these es) ops b.2 (omega (arith, same)) a.3 in
      let w : Within C (length js) (suc n) ex ex2 = ((λ u i d. b.2.0 u i (wider (length js) n i lo d) ∙ a.2.0 u i (narrower (length js) n i d)), b.2.1 ∙ a.2.1) in
      (ex2, b.1 ∙ a.1, w, (o2, h2), weaken M (seq M a.4 b.4) (omega arith) (omega arith))
    where
      wider : (m n i : ℕ) → m ≤ n → (i < m) ⊎ ((suc n ≤ i) × (i ≤ C.slots)) → (i < n) ⊎ ((suc n ≤ i) × (i ≤ C.slots))
      wider m n i le (inl d) = inl (omega (arith, d, le))
      wider m n i le (inr d) = inr d

      narrower : (m n i : ℕ) → (i < m) ⊎ ((suc n ≤ i) × (i ≤ C.slots)) → (i < m) ⊎ ((n ≤ i) × (i ≤ C.slots))
      narrower m n i (inl d) = inl d
      narrower m n i (inr d) = inr (omega (arith, d.0), d.1)

-- ---- a local is written

-- copies of others stay
pub holds_set : (C : Ctx) (l ex : List Value) (js e : List Place) (ops : List Value) (x : ℕ) (w : Value) → Holds C l ex js ops (without (λ y. x == y) e) → Holds C (slice_set l x w) ex js ops (without (λ y. x == y) e)
holds_set C l ex js [] [] x w h = tt
holds_set C l ex js [] (v ∷ ops) x w h = absurd h
holds_set C l ex js (e ∷ es) [] x w h = absurd h
holds_set C l ex js (Spilled t ∷ es) (v ∷ ops) x w h = (h.0, holds_set C l ex js es ops x w h.1)
holds_set C l ex js (Known u ∷ es) (v ∷ ops) x w h = (h.0, holds_set C l ex js es ops x w h.1)
holds_set C l ex js (Copied t y ∷ es) (v ∷ ops) x w h = by_test (x == y) refl h (holds_set C l ex js es ops x w)
  where
    by_test : (q : Bool) → (x == y) ≡ q → Holds C l ex js (v ∷ ops) (without (λ y. x == y) (Copied t y ∷ es)) → (Holds C l ex js ops (without (λ y. x == y) es) → Holds C (slice_set l x w) ex js ops (without (λ y. x == y) es)) → Holds C (slice_set l x w) ex js (v ∷ ops) (without (λ y. x == y) (Copied t y ∷ es))
    by_test true e h ih = rw e (let z = rw e at h in (z.0, ih z.1))
    by_test false e h ih =
        let ne : y ≢ x = λ s. eqb-false x y e (sym s) in
        rw e (let z = rw e at h in ((slice_get-put_other l y x w ne ∙ z.0.0, z.0.1), ih z.1))
