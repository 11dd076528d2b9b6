-- A tree of words grows by a node, and tells words apart.
use Rattle.std.proofs.Common.{◌≡◌, ℕ, zero, suc, ◌+◌, ◌<◌, List, [], ◌∷◌, ◌++◌, map, reverse, length, take, get_or, refl, sym, ap, ◌∙◌, inl, inr, ⊎_elim, add-one, arith, length-append}
use Rattle.std.proofs.lemmas.List.{reverse-append}
use Rattle.std.proofs.Math.Seq.{take-suc}
use Rattle.wasm_syntax.specs.declared.value.ValType.{ValType}
use Rattle.std.specs.Prelude.{◌⊎◌, Option, Some, None, slice_set}
use Rattle.wasm_syntax.specs.Module.{option_then}
use Rattle.machine_code.specs.declared.tree.Letter.{Letter}
use Rattle.machine_code.specs.declared.tree.Letter.TheVariants.{I32, I64, Arrow}
use Rattle.machine_code.specs.declared.tree.Node.{Node}
use Rattle.machine_code.specs.inner.Tree.{empty, edge, with_edge, next, reaches, IsTree, Extends, letter_of}
use Rattle.pm_text.proofs.Lists.{some_is}

-- ---- an edge is put in

abbrev put_edge : List Node → ℕ → Letter → ℕ → List Node
put_edge [] at a k = []
put_edge (n ∷ ns) zero a k = with_edge n a k ∷ ns
put_edge (n ∷ ns) (suc at) a k = n ∷ put_edge ns at a k

pub next_is : (ns : List Node) (at : ℕ) (a : Letter) (d : Node) → at < length ns → edge (get_or ns at d) a ≡ next ns at a
next_is [] at a d lt = absurd (omega arith)
next_is (n ∷ ns) zero a d lt = refl
next_is (n ∷ ns) (suc at) a d lt = next_is ns at a d (omega arith)

put_is : (ns : List Node) (at : ℕ) (a : Letter) (k : ℕ) (d : Node) → at < length ns → slice_set ns at (with_edge (get_or ns at d) a k) ≡ put_edge ns at a k
put_is [] at a k d lt = absurd (omega arith)
put_is (n ∷ ns) zero a k d lt = refl
put_is (n ∷ ns) (suc at) a k d lt = ap (λ l. n ∷ l) (put_is ns at a k d (omega arith))

put_length : (ns : List Node) (at : ℕ) (a : Letter) (k : ℕ) → length (put_edge ns at a k) ≡ length ns
put_length [] at a k = refl
put_length (n ∷ ns) zero a k = refl
put_length (n ∷ ns) (suc at) a k = ap suc (put_length ns at a k)

edge_same : (n : Node) (a : Letter) (k : ℕ) → edge (with_edge n a k) a ≡ Some k
edge_same n I32 k = refl
edge_same n I64 k = refl
edge_same n Arrow k = refl

next_same : (ns : List Node) (at : ℕ) (a : Letter) (k : ℕ) → at < length ns → next (put_edge ns at a k) at a ≡ Some k
next_same [] at a k lt = absurd (omega arith)
next_same (n ∷ ns) zero a k lt = edge_same n a k
next_same (n ∷ ns) (suc at) a k lt = next_same ns at a k (omega arith)

-- an edge then is the new one, or was there
edge_or : (n : Node) (a b : Letter) (k j : ℕ) → edge (with_edge n a k) b ≡ Some j → ((b ≡ a) × (j ≡ k)) ⊎ (edge n b ≡ Some j)
edge_or n I32 I32 k j e = inl (refl, sym (some_is e))
edge_or n I32 I64 k j e = inr e
edge_or n I32 Arrow k j e = inr e
edge_or n I64 I32 k j e = inr e
edge_or n I64 I64 k j e = inl (refl, sym (some_is e))
edge_or n I64 Arrow k j e = inr e
edge_or n Arrow I32 k j e = inr e
edge_or n Arrow I64 k j e = inr e
edge_or n Arrow Arrow k j e = inl (refl, sym (some_is e))

next_or : (ns : List Node) (at : ℕ) (a : Letter) (k i : ℕ) (b : Letter) (j : ℕ) → next (put_edge ns at a k) i b ≡ Some j → ((i ≡ at) × (b ≡ a) × (j ≡ k)) ⊎ (next ns i b ≡ Some j)
next_or [] at a k i b j e = inr e
next_or (n ∷ ns) zero a k zero b j e = ⊎_elim (λ q. inl (refl, q.0, q.1)) (λ q. inr q) (edge_or n a b k j e)
next_or (n ∷ ns) zero a k (suc i) b j e = inr e
next_or (n ∷ ns) (suc at) a k zero b j e = inr e
next_or (n ∷ ns) (suc at) a k (suc i) b j e = ⊎_elim (λ q. inl (ap suc q.0, q.1, q.2)) (λ q. inr q) (next_or ns at a k i b j e)

-- where there was no edge, those that were there are kept
edge_kept : (n : Node) (a b : Letter) (k j : ℕ) → edge n a ≡ None → edge n b ≡ Some j → edge (with_edge n a k) b ≡ Some j
edge_kept n I32 I32 k j q e = absurd (none_some (sym q ∙ e))
  where
    none_some : None ≡ Some j → ⊥
    none_some z = cc
edge_kept n I32 I64 k j q e = e
edge_kept n I32 Arrow k j q e = e
edge_kept n I64 I32 k j q e = e
edge_kept n I64 I64 k j q e = absurd (none_some (sym q ∙ e))
  where
    none_some : None ≡ Some j → ⊥
    none_some z = cc
edge_kept n I64 Arrow k j q e = e
edge_kept n Arrow I32 k j q e = e
edge_kept n Arrow I64 k j q e = e
edge_kept n Arrow Arrow k j q e = absurd (none_some (sym q ∙ e))
  where
    none_some : None ≡ Some j → ⊥
    none_some z = cc

next_kept : (ns : List Node) (at : ℕ) (a : Letter) (k i : ℕ) (b : Letter) (j : ℕ) → next ns at a ≡ None → next ns i b ≡ Some j → next (put_edge ns at a k) i b ≡ Some j
next_kept [] at a k i b j q e = e
next_kept (n ∷ ns) zero a k zero b j q e = edge_kept n a b k j q e
next_kept (n ∷ ns) zero a k (suc i) b j q e = e
next_kept (n ∷ ns) (suc at) a k zero b j q e = e
next_kept (n ∷ ns) (suc at) a k (suc i) b j q e = next_kept ns at a k i b j q e

-- ---- a node without edges is added

empty_edge : (a : Letter) → edge empty a ≡ None
empty_edge I32 = refl
empty_edge I64 = refl
empty_edge Arrow = refl

pub next_more : (ns : List Node) (i : ℕ) (b : Letter) → next (ns ++ empty ∷ []) i b ≡ next ns i b
next_more [] zero b = empty_edge b
next_more [] (suc i) b = refl
next_more (n ∷ ns) zero b = refl
next_more (n ∷ ns) (suc i) b = next_more ns i b

pub tree_more : (ns : List Node) → IsTree ns → IsTree (ns ++ empty ∷ [])
tree_more ns t = record {
  root = omega (arith, t.root, length-append ns (empty ∷ []));
  later = λ i a k e. let l = t.later i a k (sym (next_more ns i a) ∙ e) in (l.0, omega (arith, l.1, length-append ns (empty ∷ [])));
  one = λ i j a b k e f. t.one i j a b k (sym (next_more ns i a) ∙ e) (sym (next_more ns j b) ∙ f);
}

pub extends_more : (ns : List Node) → Extends ns (ns ++ empty ∷ [])
extends_more ns i a k e = next_more ns i a ∙ e

-- ---- both

pub tree_first : IsTree (empty ∷ [])
tree_first = record { root = omega arith; later = λ i a k e. absurd (none i a k e); one = λ i j a b k e f. absurd (none i a k e) }
  where
    none : (i : ℕ) (a : Letter) (k : ℕ) → next (empty ∷ []) i a ≡ Some k → ⊥
    none zero I32 k e = cc
    none zero I64 k e = cc
    none zero Arrow k e = cc
    none (suc i) a k e = cc

get_more : (ns : List Node) (at : ℕ) (d : Node) → at < length ns → get_or (ns ++ empty ∷ []) at d ≡ get_or ns at d
get_more [] at d lt = absurd (omega arith)
get_more (n ∷ ns) zero d lt = refl
get_more (n ∷ ns) (suc at) d lt = get_more ns at d (omega arith)

module _ (ns : List Node) (t : IsTree ns) (at : ℕ) (a : Letter) (node : Node) (node_is : node ≡ get_or ns at node) (lt : at < length ns) (none : next ns at a ≡ None) where
  abbrev pub grown : List Node
  grown = slice_set (ns ++ empty ∷ []) at (with_edge node a (length ns))

  within : at < length (ns ++ empty ∷ [])
  within = omega (arith, lt, length-append ns (empty ∷ []))

  grown_is : grown ≡ put_edge (ns ++ empty ∷ []) at a (length ns)
  grown_is = ap (λ n. slice_set (ns ++ empty ∷ []) at (with_edge n a (length ns))) (node_is ∙ sym (get_more ns at node lt)) ∙ put_is (ns ++ empty ∷ []) at a (length ns) node within

  count : length grown ≡ suc (length ns)
  count = ap length grown_is ∙ put_length (ns ++ empty ∷ []) at a (length ns) ∙ (let e : length (ns ++ empty ∷ []) ≡ suc (length ns) = omega (arith, length-append ns (empty ∷ [])) in e)

  was : (i : ℕ) (b : Letter) (j : ℕ) → next grown i b ≡ Some j → ((i ≡ at) × (b ≡ a) × (j ≡ length ns)) ⊎ (next ns i b ≡ Some j)
  was i b j e = ⊎_elim (λ q. inl q) (λ q. inr (sym (next_more ns i b) ∙ q)) (next_or (ns ++ empty ∷ []) at a (length ns) i b j (ap (λ l. next l i b) (sym grown_is) ∙ e))

  pub extends_grown : Extends ns grown
  extends_grown i b j e = ap (λ l. next l i b) grown_is ∙ next_kept (ns ++ empty ∷ []) at a (length ns) i b j (next_more ns at a ∙ none) (next_more ns i b ∙ e)

  pub new_edge : next grown at a ≡ Some (length ns)
  new_edge = ap (λ l. next l at a) grown_is ∙ next_same (ns ++ empty ∷ []) at a (length ns) within

  pub new_within : length ns < length grown
  new_within = omega (arith, count)

  pub tree_grown : IsTree grown
  tree_grown = record {
    root = omega (arith, count);
    later = λ i b k e. ⊎_elim
        (λ q. (omega (arith, lt, q.0, q.2), omega (arith, count, q.2)))
        (λ q. let l = t.later i b k q in (l.0, omega (arith, count, l.1)))
        (was i b k e);
    one = λ i j b c k e f. ⊎_elim
        (λ q. ⊎_elim
        (λ r. (q.0 ∙ sym r.0, q.1 ∙ sym r.1))
        (λ r. let l = t.later j c k r in absurd (omega (arith, l.1, q.2)))
        (was j c k f))
        (λ q. ⊎_elim
        (λ r. let l = t.later i b k q in absurd (omega (arith, l.1, r.2)))
        (λ r. t.one i j b c k q r)
        (was j c k f))
        (was i b k e);
  }

-- ---- words

pub reaches_kept : (old new : List Node) → Extends old new → (w : List Letter) (k : ℕ) → reaches old w ≡ Some k → reaches new w ≡ Some k
reaches_kept old new x [] k e = e
reaches_kept old new x (a ∷ w) k e = by_front (reaches_kept old new x w) (reaches old w) refl e
  where
    by_front : ((k : ℕ) → reaches old w ≡ Some k → reaches new w ≡ Some k) → (o : Option ℕ) → reaches old w ≡ o → option_then o (λ at. next old at a) ≡ Some k → option_then (reaches new w) (λ at. next new at a) ≡ Some k
    by_front ih None q e = absurd (no e)
      where
        no : None ≡ Some k → ⊥
        no z = cc
    by_front ih (Some at) q e = ap (λ o. option_then o (λ at. next new at a)) (ih at q) ∙ x at a k e

pub goes : (ns : List Node) (w : List Letter) (at : ℕ) (a : Letter) (k : ℕ) → reaches ns w ≡ Some at → next ns at a ≡ Some k → reaches ns (a ∷ w) ≡ Some k
goes ns w at a k e q = ap (λ o. option_then o (λ at. next ns at a)) e ∙ q

-- the last edge of a word
pub record Last (ns : List Node) (a : Letter) (w : List Letter) (k : ℕ) : Type 0 where
  pub at : ℕ
  pub front : reaches ns w ≡ Some at
  pub edge_is : next ns at a ≡ Some k

last : (ns : List Node) (a : Letter) (w : List Letter) (k : ℕ) → reaches ns (a ∷ w) ≡ Some k → Last ns a w k
last ns a w k e = by_front (reaches ns w) refl e
  where
    by_front : (o : Option ℕ) → reaches ns w ≡ o → option_then o (λ at. next ns at a) ≡ Some k → Last ns a w k
    by_front None q e = absurd (no e)
      where
        no : None ≡ Some k → ⊥
        no z = cc
    by_front (Some at) q e = record { at = at; front = q; edge_is = e }

-- a node is the end of one word
pub one_word : (ns : List Node) → IsTree ns → (u v : List Letter) (k : ℕ) → reaches ns u ≡ Some k → reaches ns v ≡ Some k → u ≡ v
one_word ns t [] [] k e f = refl
one_word ns t [] (b ∷ v) k e f = let l = last ns b v k f in let n = t.later l.at b k l.edge_is in let z : 0 ≡ k = some_is e in absurd (omega (arith, n.0))
one_word ns t (a ∷ u) [] k e f = let l = last ns a u k e in let n = t.later l.at a k l.edge_is in let z : 0 ≡ k = some_is f in absurd (omega (arith, n.0))
one_word ns t (a ∷ u) (b ∷ v) k e f =
    let l = last ns a u k e in
    let m = last ns b v k f in
    let s = t.one l.at m.at a b k l.edge_is m.edge_is in
    let rest : u ≡ v = one_word ns t u v l.at l.front (m.front ∙ ap Some (sym s.0)) in
    ap (λ c. c ∷ u) s.1 ∙ ap (λ w. b ∷ w) rest

pub extends_both : (a b c : List Node) → Extends a b → Extends b c → Extends a c
extends_both a b c x y i s k e = y i s k (x i s k e)

pub map_append : (a b : List ValType) → map letter_of (a ++ b) ≡ map letter_of a ++ map letter_of b
map_append [] b = refl
map_append (t ∷ a) b = ap (λ l. letter_of t ∷ l) (map_append a b)

-- one letter more
pub letters_more : (types : List ValType) (i : ℕ) (d : ValType) (w : List Letter) → i < length types → reverse (map letter_of (take (i + 1) types)) ++ w ≡ letter_of (get_or types i d) ∷ (reverse (map letter_of (take i types)) ++ w)
letters_more types i d w lt =
    let t = get_or types i d in
    let taken : take (i + 1) types ≡ take i types ++ t ∷ [] = ap (λ m. take m types) (add-one i) ∙ take-suc types i d lt in
    ap (λ l. reverse (map letter_of l) ++ w) taken ∙ ap (λ l. reverse l ++ w) (map_append (take i types) (t ∷ [])) ∙ ap (λ l. l ++ w) (reverse-append (map letter_of (take i types)) (letter_of t ∷ []))
