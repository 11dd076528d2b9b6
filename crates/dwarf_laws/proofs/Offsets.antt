-- The offsets of entries ascend through a section, so that at most one entry stands at each.
use Rattle.std.proofs.Common.{◌≡◌, ℕ, zero, suc, ◌+◌, ◌≤◌, ◌<◌, Bool, true, false, List, [], ◌∷◌, ◌++◌, length, get_or, refl, sym, ap, subst, ◌∙◌, inl, inr, arith, length-append}
use Rattle.std.specs.Prelude.{map, flat_map, codes}
use Rattle.std.proofs.lemmas.List.{map-append}
use Rattle.dwarf_abbrev.proofs.Exact.{u64_takes}
use Rattle.dwarf_info.specs.declared.entry.Attribute.{Attribute}
use Rattle.dwarf_info.specs.declared.entry.Entry.{Entry}
use Rattle.dwarf_info.specs.declared.entry.Unit.{Unit as UnitTree}
use Rattle.dwarf_info.specs.declared.entry.UnitAnswer.{UnitAnswer}
use Rattle.dwarf_info.specs.declared.entry.UnitAnswer.TheVariants.{Tree as TreeOf, Unreadable}
use Rattle.dwarf_info.specs.Sections.{SectionBytes, SectionBytes5, without5}
use Rattle.dwarf_info.specs.Values.{Context}
use Rattle.dwarf_info.specs.calls.Trees.{Siblings, none, entry, Tree, written_at, written}
use Rattle.dwarf_info.specs.Units.{context, entries_in, offsets_of, settled_entry, settled_answer}
use Rattle.dwarf_info.specs.calls.Grammar.{Grammars, children_if, entry_with, siblings, tree, unit, answer, answers, IsUnits}
use Rattle.dwarf_info.specs.calls.Grammar4.{grammars4, IsUnits4}
use Rattle.dwarf5_info.specs.calls.Grammar5.{grammars5, IsUnits5}

-- Each is past the one before it, and all are from low on and below high.
abbrev Ascend : ℕ → List ℕ → ℕ → Type 0
Ascend low [] high = low ≤ high
Ascend low (x ∷ xs) high = (low ≤ x) × Ascend (suc x) xs high

ascend_from : (low next : ℕ) (xs : List ℕ) (high : ℕ) → low ≤ next → Ascend next xs high → Ascend low xs high
ascend_from low next [] high le a = omega (arith, le, a)
ascend_from low next (x ∷ xs) high le a = (omega (arith, le, a.0), a.1)

ascend_to : (low : ℕ) (xs : List ℕ) (high more : ℕ) → Ascend low xs high → high ≤ more → Ascend low xs more
ascend_to low [] high more a le = omega (arith, le, a)
ascend_to low (x ∷ xs) high more a le = (a.0, ascend_to (suc x) xs high more a.1 le)

ascend_join : (low : ℕ) (xs : List ℕ) (middle : ℕ) (ys : List ℕ) (high : ℕ) → Ascend low xs middle → Ascend middle ys high → Ascend low (xs ++ ys) high
ascend_join low [] middle ys high a b = ascend_from low middle ys high a b
ascend_join low (x ∷ xs) middle ys high a b = (a.0, ascend_join (suc x) xs middle ys high a.1 b)

ascend_above : (low : ℕ) (xs : List ℕ) (high i : ℕ) → Ascend low xs high → i < length xs → low ≤ get_or xs i 0
ascend_above low [] high i a room = absurd (omega (arith, room))
ascend_above low (x ∷ xs) high zero a room = a.0
ascend_above low (x ∷ xs) high (suc i) a room = omega (arith, a.0, ascend_above (suc x) xs high i a.1 (omega (arith, room)))

ascend_apart : (low : ℕ) (xs : List ℕ) (high i j : ℕ) → Ascend low xs high → i < j → j < length xs → get_or xs i 0 < get_or xs j 0
ascend_apart low [] high i j a less room = absurd (omega (arith, room))
ascend_apart low (x ∷ xs) high i zero a less room = absurd (omega (arith, less))
ascend_apart low (x ∷ xs) high zero (suc j) a less room = omega (arith, ascend_above (suc x) xs high j a.1 (omega (arith, room)))
ascend_apart low (x ∷ xs) high (suc i) (suc j) a less room = ascend_apart (suc x) xs high i j a.1 (omega (arith, less)) (omega (arith, room))

-- ---- a tree

abbrev offsets : List Entry → List ℕ
offsets = map (λ e. e.at)

-- from an offset on, as many as the bytes
abbrev Cover : List Entry → ℕ → List ℕ → Type 0
Cover es at bytes = Ascend at (offsets es) (at + length bytes)

cover_join : (es fs : List Entry) (at : ℕ) (front rest bytes : List ℕ) → Cover es at front → Cover fs (at + length front) rest → bytes ≡ front ++ rest → Cover (es ++ fs) at bytes
cover_join es fs at front rest bytes a b parts =
    let high : (at + length front) + length rest ≡ at + length bytes = omega (arith, ap length parts, length-append front rest) in
    let both = ascend_join at (offsets es) (at + length front) (offsets fs) ((at + length front) + length rest) a b in
    let moved = subst (λ (n : ℕ). Ascend at (offsets es ++ offsets fs) n) high both in
    subst (λ (xs : List ℕ). Ascend at xs (at + length bytes)) (sym (map-append (λ e. e.at) es fs)) moved

children_cover : (c : Context) (d : ℕ) (children : Siblings) → ((o : ℕ) (inner : List ℕ) → siblings c children o inner → Cover (written_at d children) o inner)
    → (b : Bool) (at : ℕ) (bytes : List ℕ) → children_if b children (siblings c children) at bytes → Cover (written_at d children) at bytes
children_cover c d children inside true at bytes i =
    ascend_to at (offsets (written_at d children)) (at + length i.0) (at + length bytes) (inside at i.0 i.2) (omega (arith, ap length i.4, length-append i.0 i.1))
children_cover c d children inside false at bytes i =
    let empty : Cover (written_at d none) at bytes = omega arith in
    subst (λ (t : Siblings). Cover (written_at d t) at bytes) (sym i.0) empty

entry_cover : (c : Context) (d at tag : ℕ) (attributes : List Attribute) (children : Siblings)
    → ((o : ℕ) (inner : List ℕ) → siblings c children o inner → Cover (written_at (suc d) children) o inner)
    → (o : ℕ) (bytes : List ℕ) → entry_with c at tag attributes children (siblings c children) o bytes
    → Cover (record { at = at; depth = d; tag = tag; attributes = attributes } ∷ written_at (suc d) children) o bytes
entry_cover c d at tag attributes children inside o bytes i =
    let j = i.6 in
    let k = j.3 in
    let start : ℕ = (o + length j.0) + length k.0 in
    let some : 0 < length j.0 = u64_takes i.0 o j.0 j.2 in
    let those = children_cover c (suc d) children inside i.1.children start k.1 k.3 in
    let high : start + length k.1 ≤ o + length bytes = omega (arith, ap length j.4, ap length k.4, length-append j.0 j.1, length-append k.0 k.1) in
    let low : suc at ≤ start = omega (arith, i.2, some) in
    let deeper = offsets (written_at (suc d) children) in
    (omega (arith, i.2), ascend_from (suc at) start deeper (o + length bytes) low (ascend_to start deeper (start + length k.1) (o + length bytes) those high))

siblings_cover : (c : Context) (d : ℕ) (ts : Siblings) (at : ℕ) (bytes : List ℕ) → siblings c ts at bytes → Cover (written_at d ts) at bytes
siblings_cover c d none at bytes i = omega arith
siblings_cover c d (entry o tag attributes children rest) at bytes i =
    let e = entry_cover c d o tag attributes children (λ k inner s. siblings_cover c (suc d) children k inner s) at i.0 i.2 in
    let others = siblings_cover c d rest (at + length i.0) i.1 i.3 in
    cover_join (record { at = o; depth = d; tag = tag; attributes = attributes } ∷ written_at (suc d) children) (written_at d rest) at i.0 i.1 bytes e others i.4

tree_cover : (c : Context) (t : Tree) (at : ℕ) (bytes : List ℕ) → tree c t at bytes → Cover (written t) at bytes
tree_cover c t at bytes i = entry_cover c 0 t.at t.tag t.attributes t.children (λ k inner s. siblings_cover c 1 t.children k inner s) at bytes i

-- ---- units

-- a part of the bytes
cover_part : (es : List Entry) (at before : ℕ) (inner : List ℕ) (high : ℕ) → Cover es (at + before) inner → (at + before) + length inner ≤ high → Ascend at (offsets es) high
cover_part es at before inner high a le =
    ascend_from at (at + before) (offsets es) high (omega arith) (ascend_to (at + before) (offsets es) ((at + before) + length inner) high a le)

unit_cover : (s : SectionBytes5) (g : Grammars) (u : UnitTree) (at : ℕ) (bytes : List ℕ) → unit s g u at bytes → Cover u.entries at bytes
unit_cover s g u at bytes c =
    let i = c.3 in
    let n = i.3 in
    let b = n.3 in
    let j = b.6 in
    let k = j.3 in
    let before : ℕ = (length i.0 + length n.0) + length j.0 in
    let start : ((at + length i.0) + length n.0) + length j.0 ≡ at + before = omega arith in
    let there = tree_cover (context s c.0 u.at b.1 (c.0.index s b.2.attributes)) b.3 (((at + length i.0) + length n.0) + length j.0) k.0 k.2.1 in
    let moved = subst (λ (o : ℕ). Cover (written b.3) o k.0) start there in
    let high : (at + before) + length k.0 ≤ at + length bytes =
    omega (arith, ap length i.4, ap length n.4, ap length j.4, ap length k.4, length-append i.0 i.1, length-append n.0 n.1, length-append j.0 j.1, length-append k.0 k.1) in
    subst (λ (es : List Entry). Cover es at bytes) (sym b.5) (cover_part (written b.3) at before k.0 (at + length bytes) moved high)

answer_cover : (s : SectionBytes5) (g : Grammars) (a : UnitAnswer) (at : ℕ) (bytes : List ℕ) → answer s g a at bytes → Cover (entries_in a) at bytes
answer_cover s g (TreeOf u) at bytes i = unit_cover s g u at bytes i
answer_cover s g (Unreadable section o) at bytes i = omega arith

answers_cover : (s : SectionBytes5) (g : Grammars) (us : List UnitAnswer) (at : ℕ) (bytes : List ℕ) → answers s g us at bytes → Ascend at (offsets_of us) (at + length bytes)
answers_cover s g [] at bytes i = omega arith
answers_cover s g (a ∷ more) at bytes (inl i) =
    cover_join (entries_in a) (flat_map entries_in more) at i.0 i.1 bytes (answer_cover s g a at i.0 i.2) (answers_cover s g more (at + length i.0) i.1 i.3) i.4
answers_cover s g (a ∷ more) at bytes (inr i) =
    let empty : Ascend at (offsets_of (Unreadable (codes ".debug_info") at ∷ [])) (at + length bytes) = omega arith in
    subst (λ (x : UnitAnswer). Ascend at (offsets_of (x ∷ more)) (at + length bytes)) (sym i.0)
    (subst (λ (xs : List UnitAnswer). Ascend at (offsets_of (Unreadable (codes ".debug_info") at ∷ xs)) (at + length bytes)) (sym i.1) empty)

-- ---- settling moves no entry

entries_kept : (os : List ℕ) (es : List Entry) → offsets (map (settled_entry os) es) ≡ offsets es
entries_kept os [] = refl
entries_kept os (e ∷ es) = ap (λ (xs : List ℕ). e.at ∷ xs) (entries_kept os es)

answer_kept : (os : List ℕ) (a : UnitAnswer) → offsets (entries_in (settled_answer os a)) ≡ offsets (entries_in a)
answer_kept os (TreeOf u) = entries_kept os u.entries
answer_kept os (Unreadable section at) = refl

offsets_kept : (os : List ℕ) (us : List UnitAnswer) → offsets_of (map (settled_answer os) us) ≡ offsets_of us
offsets_kept os [] = refl
offsets_kept os (a ∷ more) =
    map-append (λ e. e.at) (entries_in (settled_answer os a)) (flat_map entries_in (map (settled_answer os) more))
    ∙ ap (λ (xs : List ℕ). xs ++ offsets_of (map (settled_answer os) more)) (answer_kept os a)
    ∙ ap (λ (xs : List ℕ). offsets (entries_in a) ++ xs) (offsets_kept os more)
    ∙ sym (map-append (λ e. e.at) (entries_in a) (flat_map entries_in more))

-- The offsets of all entries of the units that a section spells ascend, and stand inside it.
units_ascend : (s : SectionBytes5) (g : Grammars) (us : List UnitAnswer) → IsUnits s g us → Ascend 0 (offsets_of us) (length s.base.info)
units_ascend s g us i =
    let same : offsets_of us ≡ offsets_of i.0 = ap offsets_of i.2 ∙ offsets_kept (offsets_of i.0) i.0 in
    let there : Ascend 0 (offsets_of i.0) (0 + length s.base.info) = answers_cover s g i.0 0 s.base.info i.1 in
    ascend_to 0 (offsets_of us) (0 + length s.base.info) (length s.base.info) (subst (λ (xs : List ℕ). Ascend 0 xs (0 + length s.base.info)) (sym same) there) (omega arith)

ascend_bounds : (low : ℕ) (xs : List ℕ) (high : ℕ) → Ascend low xs high → low ≤ high
ascend_bounds low [] high a = a
ascend_bounds low (x ∷ xs) high a = omega (arith, a.0, ascend_bounds (suc x) xs high a.1)

ascend_below : (low : ℕ) (xs : List ℕ) (high i : ℕ) → Ascend low xs high → i < length xs → get_or xs i 0 < high
ascend_below low [] high i a room = absurd (omega (arith, room))
ascend_below low (x ∷ xs) high zero a room = ascend_bounds (suc x) xs high a.1
ascend_below low (x ∷ xs) high (suc i) a room = ascend_below (suc x) xs high i a.1 (omega (arith, room))

pub entries_inside : (s : SectionBytes) (us : List UnitAnswer) (i : ℕ) → IsUnits4 s us → i < length (offsets_of us) → get_or (offsets_of us) i 0 < length s.info
entries_inside s us i units room = ascend_below 0 (offsets_of us) (length s.info) i (units_ascend (without5 s) grammars4 us units) room

pub entries_apart : (s : SectionBytes) (us : List UnitAnswer) (i j : ℕ) → IsUnits4 s us → i < j → j < length (offsets_of us) → get_or (offsets_of us) i 0 < get_or (offsets_of us) j 0
entries_apart s us i j units less room = ascend_apart 0 (offsets_of us) (length s.info) i j (units_ascend (without5 s) grammars4 us units) less room

pub entries_inside5 : (s : SectionBytes5) (us : List UnitAnswer) (i : ℕ) → IsUnits5 s us → i < length (offsets_of us) → get_or (offsets_of us) i 0 < length s.base.info
entries_inside5 s us i units room = ascend_below 0 (offsets_of us) (length s.base.info) i (units_ascend s grammars5 us units) room

pub entries_apart5 : (s : SectionBytes5) (us : List UnitAnswer) (i j : ℕ) → IsUnits5 s us → i < j → j < length (offsets_of us) → get_or (offsets_of us) i 0 < get_or (offsets_of us) j 0
entries_apart5 s us i j units less room = ascend_apart 0 (offsets_of us) (length s.base.info) i j (units_ascend s grammars5 us units) less room
