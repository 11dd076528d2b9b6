-- A map of places stays one where a name is kept behind the others.
use Rattle.std.proofs.Common.{◌≡◌, ℕ, ◌+◌, ◌<◌, Bool, true, false, cond, eqb, List, [], ◌∷◌, ◌++◌, length, Option, Some, None, refl, sym, ap, subst, ◌∙◌, inl, inr, arith, length-append}
use Rattle.std.specs.Prelude.{nat_eq, slice_get, option_map, option_and_then, IfSome, is_some, if◌then◌else◌}
use Rattle.std.specs.Option.{option_or}
use Rattle.std.specs.Ordering.{nat_cmp, is_eq}
use Rattle.std.proofs.lemmas.Bool.{eqb-true, eq-eqb}
use Rattle.std.proofs.lemmas.Bool.Decides.{eqb_tells}
use Rattle.std.proofs.lemmas.Option.{slice_get_cases}
use Rattle.pm_text.proofs.Lists.{get_front, get_last, is_eq_at}
use Rattle.wasm_decode.specs.Names.{Named, name_of, with_name}
use Rattle.wasm_decode.specs.inner.NamePlaces.{ArePlaced, title}

pub none_placed : (place : ℕ → Option ℕ) → ((i : ℕ) → place i ≡ None) → ArePlaced [] place
none_placed place h i = rw (h i) (refl, tt)

behind : (names more : List Named) (i : ℕ) → name_of (names ++ more) i ≡ option_or (name_of names i) (name_of more i)
behind [] more i = refl
behind (n ∷ names) more i = by (nat_eq i n.0) (behind names more i) where
  by : (b : Bool) → name_of (names ++ more) i ≡ option_or (name_of names i) (name_of more i) → cond b (Some n.1) (name_of (names ++ more) i) ≡ option_or (cond b (Some n.1) (name_of names i)) (name_of more i)
  by true rest = refl
  by false rest = rest

-- the index i where another name is kept
grown : (names : List Named) (x : Named) (i : ℕ) (o : Option ℕ) → option_map title (option_and_then (slice_get names) o) ≡ name_of names i → IfSome o (λ k. k < length names) → (o ≡ None → nat_eq i x.0 ≡ false)
    → (option_map title (option_and_then (slice_get (names ++ x ∷ [])) o) ≡ name_of (names ++ x ∷ []) i) × IfSome o (λ k. k < length (names ++ x ∷ []))
grown names x i None e inside other =
    let last : name_of (x ∷ []) i ≡ None = rw (other refl) refl in
    (sym (behind names (x ∷ []) i ∙ ap (λ o. option_or o (name_of (x ∷ []) i)) (sym e) ∙ last), tt)
grown names x i (Some k) e inside other = elim (slice_get_cases names k).1 [
  | inl s ↦
      let here : Some (title s.0) ≡ name_of names i = ap (option_map title) (sym s.2) ∙ e in
      let all = behind names (x ∷ []) i ∙ ap (λ o. option_or o (name_of (x ∷ []) i)) (sym here) in
      (ap (option_map title) (get_front names (x ∷ []) k s.0 s.2) ∙ sym all, omega (arith, inside, length-append names (x ∷ [])))
  | inr s ↦ absurd (omega (arith, inside, s.0))
]

by_index : (names : List Named) (x : Named) (place after : ℕ → Option ℕ) → ArePlaced names place → place x.0 ≡ None
    → ((q : ℕ) → after q ≡ cond (nat_eq q x.0) (Some (length names)) (place q)) → (i : ℕ) (b : Bool) → nat_eq i x.0 ≡ b
    → (option_map title (option_and_then (slice_get (names ++ x ∷ [])) (after i)) ≡ name_of (names ++ x ∷ []) i) × IfSome (after i) (λ k. k < length (names ++ x ∷ []))
by_index names x place after p new update i true tie =
    let is : after i ≡ Some (length names) = update i ∙ rw tie refl in
    let absent : place i ≡ None = ap place (eqb-true i x.0 tie) ∙ new in
    let nothing : None ≡ name_of names i = rw absent at (p i).0 in
    let last : name_of (x ∷ []) i ≡ Some x.1 = rw tie refl in
    let all = behind names (x ∷ []) i ∙ ap (λ o. option_or o (name_of (x ∷ []) i)) (sym nothing) ∙ last in
    rw is (ap (option_map title) (get_last names x) ∙ sym all, omega (arith, length-append names (x ∷ [])))
by_index names x place after p new update i false tie =
    let is : after i ≡ place i = update i ∙ rw tie refl in
    rw is (grown names x i (place i) (p i).0 (p i).1 (λ e. tie))

some_there : (o : Option ℕ) → is_some o ≡ true → (known : ℕ) × (o ≡ Some known)
some_there (Some known) e = (known, refl)
some_there None e = absurd cc

none_there : (o : Option ℕ) → is_some o ≡ false → o ≡ None
none_there (Some known) e = absurd cc
none_there None e = refl

-- ---- what is kept

tied : (a b : ℕ) → eqb a b ≡ eqb b a
tied a b = elim (eqb_tells a b) [
  | inl t ↦ t.0 ∙ sym (eq-eqb b a (sym t.1))
  | inr t ↦ elim (eqb_tells b a) [ inl u ↦ absurd (t.1 (sym u.1)) | inr u ↦ t.0 ∙ sym u.0 ]
]

updated : (names : List Named) (x : Named) (place after : ℕ → Option ℕ) → ((q : ℕ) → after q ≡ cond (is_eq (nat_cmp x.0 q)) (Some (length names)) (place q)) → (q : ℕ) → after q ≡ cond (nat_eq q x.0) (Some (length names)) (place q)
updated names x place after update q = update q ∙ ap (λ (b : Bool). cond b (Some (length names)) (place q)) (is_eq_at x.0 q ∙ tied x.0 q)

-- places behind a name that is kept, and what then are the names
abbrev pub Kept : List Named → Named → (ℕ → Option ℕ) → Type 0
Kept names x after = ArePlaced (names ++ x ∷ []) after × (names ++ x ∷ [] ≡ with_name names x)

-- a name whose index has none yet
pub new_kept : (names : List Named) (x : Named) (place after : ℕ → Option ℕ) → ArePlaced names place → is_some (place x.0) ≡ false
    → ((q : ℕ) → after q ≡ cond (is_eq (nat_cmp x.0 q)) (Some (length names)) (place q)) → Kept names x after
new_kept names x place after p absent update =
    let none = none_there (place x.0) absent in
    let nothing : name_of names x.0 ≡ None = sym (p x.0).0 ∙ ap (λ o. option_map title (option_and_then (slice_get names) o)) none in
    ((λ i. by_index names x place after p none (updated names x place after update) i (nat_eq i x.0) refl), sym (ap (λ o. if is_some o then names else names ++ x ∷ []) nothing))

-- a name whose index has one
pub old_kept : (names : List Named) (x : Named) (place : ℕ → Option ℕ) → ArePlaced names place → is_some (place x.0) ≡ true → names ≡ with_name names x
old_kept names x place p there =
    let s = some_there (place x.0) there in
    let at = p x.0 in
    let inside : s.0 < length names = subst (λ o. IfSome o (λ k. k < length names)) s.1 at.1 in
    let is : option_map title (slice_get names s.0) ≡ name_of names x.0 = ap (λ o. option_map title (option_and_then (slice_get names) o)) (sym s.1) ∙ at.0 in
    elim (slice_get_cases names s.0).1 [
      | inl w ↦ sym (ap (λ o. if is_some o then names else names ++ x ∷ []) (sym is ∙ ap (option_map title) w.2))
      | inr w ↦ absurd (omega (arith, inside, w.0))
    ]
