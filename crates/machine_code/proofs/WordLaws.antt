-- Function types are the same by structure where their words are, and so where their numbers are.
use Rattle.std.proofs.Common.{◌≡◌, ℕ, List, [], ◌∷◌, ◌++◌, map, reverse, refl, sym, ap, ◌∙◌, arith}
use Rattle.std.proofs.lemmas.List.{reverse-append, reverse-reverse, append-nil}
use Rattle.std.proofs.lemmas.Bool.Decides.{nat_tests}
use Rattle.std.specs.Prelude.{Bool, true, false, ◌&&◌, ◌==◌, Some}
use Rattle.wasm_syntax.specs.declared.value.ValType.{ValType}
use Rattle.wasm_syntax.specs.declared.value.ValType.TheVariants as types
use Rattle.wasm_syntax.specs.declared.parts.FuncType.{FuncType}
use Rattle.wasm_syntax.specs.Module.{same_types, same_functype}
use Rattle.machine_code.specs.declared.tree.Letter.{Letter}
use Rattle.machine_code.specs.declared.tree.Letter.TheVariants.{I32, I64, Arrow}
use Rattle.machine_code.specs.declared.tree.Node.{Node}
use Rattle.machine_code.specs.inner.Tree.{letter_of, word, reaches, IsTree}
use Rattle.machine_code.proofs.TreeLaws.{one_word, map_append}
use Rattle.std.proofs.lemmas.Bool.{and_parts}
use Rattle.wasm_syntax.proofs.Types.{same_types_are, same_types_refl}

-- ---- words

one_letter : (t u : ValType) → letter_of t ≡ letter_of u → t ≡ u
one_letter types.I32 types.I32 e = refl
one_letter types.I32 types.I64 e = absurd (cc)
one_letter types.I64 types.I32 e = absurd (cc)
one_letter types.I64 types.I64 e = refl

no_arrow : (t : ValType) → Arrow ≡ letter_of t → ⊥
no_arrow types.I32 e = cc
no_arrow types.I64 e = cc

-- up to the arrow, and behind it
split : (r s : List ValType) (x y : List Letter) → map letter_of r ++ Arrow ∷ x ≡ map letter_of s ++ Arrow ∷ y → (r ≡ s) × (x ≡ y)
split [] [] x y e = let q : x ≡ y = cc in (refl, q)
split [] (u ∷ s) x y e = let q : Arrow ≡ letter_of u = cc in absurd (no_arrow u q)
split (t ∷ r) [] x y e = let q : Arrow ≡ letter_of t = cc in absurd (no_arrow t q)
split (t ∷ r) (u ∷ s) x y e =
    let head : letter_of t ≡ letter_of u = cc in
    let tail : map letter_of r ++ Arrow ∷ x ≡ map letter_of s ++ Arrow ∷ y = cc in
    let q = split r s x y tail in
    (ap (λ z. z ∷ r) (one_letter t u head) ∙ ap (λ z. u ∷ z) q.0, q.1)

one_list : (r s : List ValType) → map letter_of r ≡ map letter_of s → r ≡ s
one_list r s e = (split r s [] [] (ap (λ l. l ++ Arrow ∷ []) e)).0

turned : (r : List ValType) → reverse (map letter_of r) ≡ map letter_of (reverse r)
turned [] = refl
turned (t ∷ r) = reverse-append (letter_of t ∷ []) (map letter_of r) ∙ ap (λ l. l ++ letter_of t ∷ []) (turned r) ∙ sym (map_append (reverse r) (t ∷ [])) ∙ ap (map letter_of) (sym (reverse-append (t ∷ []) r))

reverse_one : {A : Type 0} (r s : List A) → reverse r ≡ reverse s → r ≡ s
reverse_one r s e = sym (reverse-reverse r) ∙ ap reverse e ∙ reverse-reverse s

word_is : (t : FuncType) → word t ≡ map letter_of (reverse t.results) ++ Arrow ∷ map letter_of (reverse t.params)
word_is t = ap (λ l. l ++ (Arrow ∷ (reverse (map letter_of t.params) ++ []))) (turned t.results) ∙ ap (λ l. map letter_of (reverse t.results) ++ Arrow ∷ l) (append-nil (reverse (map letter_of t.params)) ∙ turned t.params)

pub one_type : (a b : FuncType) → word a ≡ word b → (a.params ≡ b.params) × (a.results ≡ b.results)
one_type a b e =
    let q = split (reverse a.results) (reverse b.results) (map letter_of (reverse a.params)) (map letter_of (reverse b.params)) (sym (word_is a) ∙ e ∙ word_is b) in
    (reverse_one a.params b.params (one_list (reverse a.params) (reverse b.params) q.1), reverse_one a.results b.results q.0)

same_word : (a b : FuncType) → a.params ≡ b.params → a.results ≡ b.results → word a ≡ word b
same_word a b p r = ap (λ l. reverse (map letter_of l) ++ (Arrow ∷ (reverse (map letter_of a.params) ++ []))) r ∙ ap (λ l. reverse (map letter_of b.results) ++ (Arrow ∷ (reverse (map letter_of l) ++ []))) p

-- ---- the test by structure

types_refl : (a b : FuncType) → a.params ≡ b.params → a.results ≡ b.results → same_functype a b ≡ true
types_refl a b p r = ap (λ l. same_types a.params l && same_types a.results b.results) (sym p) ∙ ap (λ l. same_types a.params a.params && same_types a.results l) (sym r) ∙ ap (λ z. z && same_types a.results a.results) (same_types_refl a.params) ∙ same_types_refl a.results

-- two numbers are the same exactly for types that are the same
pub same_number : (ns : List Node) → IsTree ns → (a b : FuncType) (k l : ℕ) → reaches ns (word a) ≡ Some k → reaches ns (word b) ≡ Some l → same_functype a b ≡ (k == l)
same_number ns t a b k l e f = by_test (same_functype a b) refl
  where
    by_test : (z : Bool) → same_functype a b ≡ z → same_functype a b ≡ (k == l)
    by_test true q =
        let p = and_parts (same_types a.params b.params) (same_types a.results b.results) q in
        let w : word a ≡ word b = same_word a b (same_types_are a.params b.params p.0) (same_types_are a.results b.results p.1) in
        let s : Some k ≡ Some l = sym e ∙ ap (reaches ns) w ∙ f in
        let same : k ≡ l = cc in
        let yes : (k == l) ≡ true = grind (arith, nat_tests) in
        q ∙ sym yes
    by_test false q =
        let differ : k ≡ l → ⊥ = λ s. other s in
        let no : (k == l) ≡ false = grind (arith, nat_tests) in
        q ∙ sym no
      where
        other : k ≡ l → ⊥
        other s =
            let w : word a ≡ word b = one_word ns t (word a) (word b) l (e ∙ ap Some s) f in
            let p = one_type a b w in
            let c : true ≡ false = sym (types_refl a b p.0 p.1) ∙ q in cc
