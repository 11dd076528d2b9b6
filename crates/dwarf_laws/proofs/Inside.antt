-- In the list that a tree writes out the entries in an entry, which are those behind it that are deeper up to the first that is not,
-- are its children, written out.
use Rattle.std.proofs.Common.{◌≡◌, ℕ, suc, ◌+◌, ◌≤◌, ◌<◌, Bool, true, false, List, [], ◌∷◌, ◌++◌, refl, sym, ap, ◌∙◌, append_assoc, arith}
use Rattle.std.specs.Prelude.{take_while, filter, nat_lt, ◌==◌}
use Rattle.std.specs.List.{prefix_len}
use Rattle.std.proofs.lemmas.Bool.{lt-ltb, le-ltb, ne_eqb}
use Rattle.std.proofs.lemmas.List.{append-nil}
use Rattle.std.proofs.lemmas.List.Elements.{filter-append}
use Rattle.dwarf_info.specs.declared.entry.Entry.{Entry}
use Rattle.dwarf_info.specs.calls.Trees.{Siblings, none, entry, Tree, written_at, written}
use Rattle.dwarf_laws.specs.calls.Inside.{deeper, insides, nodes_at, nodes, siblings_at}
use Rattle.pm_text.proofs.Lists.{take_first}

-- ---- what is taken in front

taken_first : (p : Entry → Bool) (e : Entry) (es : List Entry) → p e ≡ true → take_while p (e ∷ es) ≡ e ∷ take_while p es
taken_first p e es t = rw t (take_first (prefix_len p es) e es)

none_taken : (p : Entry → Bool) (e : Entry) (es : List Entry) → p e ≡ false → take_while p (e ∷ es) ≡ []
none_taken p e es f = rw f refl

deeper_written : (d k : ℕ) → d < k → (ts : Siblings) (more : List Entry) → deeper d (written_at k ts ++ more) ≡ written_at k ts ++ deeper d more
deeper_written d k less none more = refl
deeper_written d k less (entry at tag attributes children rest) more =
    let e : Entry = record { at = at; depth = k; tag = tag; attributes = attributes } in
    let inner : List Entry = written_at (suc k) children in
    let others : List Entry = written_at k rest in
    taken_first (λ x. nat_lt d x.depth) e ((inner ++ others) ++ more) (lt-ltb d k less)
    ∙ ap (λ (xs : List Entry). e ∷ deeper d xs) (append_assoc inner others more)
    ∙ ap (λ (xs : List Entry). e ∷ xs) (deeper_written d (suc k) (omega (arith, less)) children (others ++ more))
    ∙ ap (λ (xs : List Entry). e ∷ inner ++ xs) (deeper_written d k less rest more)
    ∙ ap (λ (xs : List Entry). e ∷ xs) (sym (append_assoc inner others (deeper d more)))

-- ---- each entry

-- It is empty, or begins with an entry that is no deeper.
abbrev Leaves : ℕ → List Entry → Type 0
Leaves d [] = Unit {0}
Leaves d (e ∷ es) = e.depth ≤ d

leaves_none : (d : ℕ) (more : List Entry) → Leaves d more → deeper d more ≡ []
leaves_none d [] l = refl
leaves_none d (e ∷ es) l = none_taken (λ x. nat_lt d x.depth) e es (le-ltb d e.depth l)

leaves_more : (d : ℕ) (more : List Entry) → Leaves d more → Leaves (suc d) more
leaves_more d [] l = tt
leaves_more d (e ∷ es) l = omega (arith, l)

leaves_written : (d : ℕ) (ts : Siblings) (more : List Entry) → Leaves d more → Leaves (suc d) (written_at (suc d) ts ++ more)
leaves_written d none more l = leaves_more d more l
leaves_written d (entry at tag attributes children rest) more l = omega arith

insides_written_at : (d : ℕ) (ts : Siblings) (more : List Entry) → Leaves d more → insides (written_at (suc d) ts ++ more) ≡ nodes_at (suc d) ts ++ insides more
insides_written_at d none more l = refl
insides_written_at d (entry at tag attributes children rest) more l =
    let e : Entry = record { at = at; depth = suc d; tag = tag; attributes = attributes } in
    let inner : List Entry = written_at (suc (suc d)) children in
    let others : List Entry = written_at (suc d) rest in
    let behind : Leaves (suc d) (others ++ more) = leaves_written d rest more l in
    let mine : deeper (suc d) (inner ++ (others ++ more)) ≡ inner =
    deeper_written (suc d) (suc (suc d)) (omega arith) children (others ++ more)
    ∙ ap (λ (xs : List Entry). inner ++ xs) (leaves_none (suc d) (others ++ more) behind) ∙ append-nil inner in
    ap (λ (xs : List Entry). (e, deeper (suc d) xs) ∷ insides xs) (append_assoc inner others more)
    ∙ ap (λ (xs : List Entry). (e, xs) ∷ insides (inner ++ (others ++ more))) mine
    ∙ ap (λ (xs : List (Entry × List Entry)). (e, inner) ∷ xs)
    (insides_written_at (suc d) children (others ++ more) behind
    ∙ ap (λ (xs : List (Entry × List Entry)). nodes_at (suc (suc d)) children ++ xs) (insides_written_at d rest more l)
    ∙ sym (append_assoc (nodes_at (suc (suc d)) children) (nodes_at (suc d) rest) (insides more)))

pub insides_written : (t : Tree) → insides (written t) ≡ nodes t
insides_written t =
    let e : Entry = record { at = t.at; depth = 0; tag = t.tag; attributes = t.attributes } in
    let inner : List Entry = written_at 1 t.children in
    let mine : deeper 0 inner ≡ inner =
    ap (deeper 0) (sym (append-nil inner)) ∙ deeper_written 0 1 (omega arith) t.children [] ∙ append-nil inner in
    let those : insides inner ≡ nodes_at 1 t.children =
    ap insides (sym (append-nil inner)) ∙ insides_written_at 0 t.children [] tt ∙ append-nil (nodes_at 1 t.children) in
    ap (λ (xs : List Entry). (e, xs) ∷ insides inner) mine ∙ ap (λ (xs : List (Entry × List Entry)). (e, inner) ∷ xs) those

-- ---- children

not_kept : (p : Entry → Bool) (e : Entry) (es : List Entry) → p e ≡ false → filter p (e ∷ es) ≡ filter p es
not_kept p e es f = rw f refl

kept : (p : Entry → Bool) (e : Entry) (es : List Entry) → p e ≡ true → filter p (e ∷ es) ≡ e ∷ filter p es
kept p e es t = rw t refl

none_deep : (d k : ℕ) → d < k → (ts : Siblings) → filter (λ e. e.depth == d) (written_at k ts) ≡ []
none_deep d k less none = refl
none_deep d k less (entry at tag attributes children rest) =
    let e : Entry = record { at = at; depth = k; tag = tag; attributes = attributes } in
    let inner : List Entry = written_at (suc k) children in
    not_kept (λ x. x.depth == d) e (inner ++ written_at k rest) (ne_eqb k d (λ same. omega (arith, less, same)))
    ∙ filter-append (λ x. x.depth == d) inner (written_at k rest)
    ∙ ap (λ (xs : List Entry). xs ++ filter (λ x. x.depth == d) (written_at k rest)) (none_deep d (suc k) (omega (arith, less)) children)
    ∙ none_deep d k less rest

-- Of siblings written out those at their own depth are the siblings.
pub siblings_written : (d : ℕ) (ts : Siblings) → filter (λ e. e.depth == d) (written_at d ts) ≡ siblings_at d ts
siblings_written d none = refl
siblings_written d (entry at tag attributes children rest) =
    let e : Entry = record { at = at; depth = d; tag = tag; attributes = attributes } in
    let inner : List Entry = written_at (suc d) children in
    let own : (d == d) ≡ true = grind arith in
    kept (λ x. x.depth == d) e (inner ++ written_at d rest) own
    ∙ ap (λ (xs : List Entry). e ∷ xs) (filter-append (λ x. x.depth == d) inner (written_at d rest)
    ∙ ap (λ (xs : List Entry). xs ++ filter (λ x. x.depth == d) (written_at d rest)) (none_deep d (suc d) (omega arith) children)
    ∙ siblings_written d rest)
