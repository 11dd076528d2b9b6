-- A tree whose root gives the bases of its indices is read exactly as it is spelled: the root is read twice, by two contexts that
-- differ in what an index stands for, and the same bytes spell a tree by both.
use Rattle.std.proofs.Common.{◌≡◌, ℕ, ◌+◌, Bool, true, false, List, [], ◌∷◌, ◌++◌, length, Option, refl, sym, ap, subst, ◌∙◌, inr, append_assoc}
use Rattle.wasm_bytes.specs.Place.{Place, Read}
use Rattle.wasm_bytes.specs.Reading.{◌>>=◌}
use Rattle.wasm_bytes.specs.Laws.{IsBytes, place, got, Took, IsExact}
use Rattle.wasm_bytes.proofs.Places.{got_is, bind_ok}
use Rattle.dwarf_bytes.specs.calls.Spelled.{each}
use Rattle.dwarf_info.specs.declared.form.NumberForm.{NumberForm}
use Rattle.dwarf_info.specs.declared.form.IndexTable.{IndexTable}
use Rattle.dwarf_info.specs.declared.form.Meaning.{Meaning}
use Rattle.dwarf_info.specs.declared.form.Meaning.TheVariants as means
use Rattle.dwarf_info.specs.declared.form.Form.{Form}
use Rattle.dwarf_info.specs.declared.form.Form.TheVariants as form
use Rattle.dwarf_info.specs.declared.form.Slot.{Slot}
use Rattle.dwarf_info.specs.declared.form.Shape.{Shape}
use Rattle.dwarf_info.specs.declared.entry.AttrValue.{AttrValue}
use Rattle.dwarf_info.specs.declared.entry.AttrValue.TheVariants as value
use Rattle.dwarf_info.specs.declared.entry.Attribute.{Attribute}
use Rattle.dwarf_info.specs.declared.entry.Entry.{Entry}
use Rattle.dwarf_info.specs.declared.growing.Growing.{Growing}
use Rattle.dwarf_info.specs.Sections.{SectionBytes5}
use Rattle.dwarf_info.specs.Values.{Context}
use Rattle.dwarf_info.specs.Entries.{seed, with_entry, step_item, entries_item, root_attributes}
use Rattle.dwarf_info.specs.calls.Trees.{Siblings, none, entry, Tree, written}
use Rattle.dwarf_info.specs.Units.{Version, context, unsettled, rooted_item}
use Rattle.dwarf_info.specs.calls.Grammar.{plain, named, value_in, attribute, children_if, entry_with, siblings, tree, both}
use Rattle.dwarf_info.proofs.StepLaws.{Enters, step, step_exact}
use Rattle.dwarf_info.proofs.TreeLaws.{entries, entries_exact}

-- ---- what is spelled is spelled too where no index is looked up

abbrev Index : Type 0
Index = IndexTable → ℕ → Option AttrValue

number_bare : (s : SectionBytes5) (v : Version) (origin : ℕ) (table : List Shape) (index : Index) (w : NumberForm) (m : Meaning) (x : AttrValue) (at : ℕ) (bytes : List ℕ)
    → plain (context s v origin table index) (form.Number w m) x at bytes → (y : AttrValue) × plain (context s v origin table unsettled) (form.Number w m) y at bytes
number_bare s v origin table index w means.Address x at bytes i = (x, i)
number_bare s v origin table index w means.Constant x at bytes i = (x, i)
number_bare s v origin table index w means.Flag x at bytes i = (x, i)
number_bare s v origin table index w means.Offset x at bytes i = (x, i)
number_bare s v origin table index w (means.TextIn section) x at bytes i = (x, i)
number_bare s v origin table index w means.InUnit x at bytes i = (x, i)
number_bare s v origin table index w means.InSection x at bytes i = (x, i)
number_bare s v origin table index w (means.IndexOf entries) x at bytes i = (value.Other, (i.0, refl, i.2))

plain_bare : (s : SectionBytes5) (v : Version) (origin : ℕ) (table : List Shape) (index : Index) (f : Form) (x : AttrValue) (at : ℕ) (bytes : List ℕ)
    → plain (context s v origin table index) f x at bytes → (y : AttrValue) × plain (context s v origin table unsettled) f y at bytes
plain_bare s v origin table index (form.Number w m) x at bytes i = number_bare s v origin table index w m x at bytes i
plain_bare s v origin table index (form.Block w) x at bytes i = (x, i)
plain_bare s v origin table index form.Text x at bytes i = (x, i)
plain_bare s v origin table index form.Signed x at bytes i = (x, i)
plain_bare s v origin table index form.Present x at bytes i = (x, i)
plain_bare s v origin table index (form.Skipped n) x at bytes i = (x, i)
plain_bare s v origin table index (form.Implicit z) x at bytes i = (x, i)
plain_bare s v origin table index form.Indirect x at bytes i = absurd i

named_bare : (s : SectionBytes5) (v : Version) (origin : ℕ) (table : List Shape) (index : Index) (x : AttrValue) (at : ℕ) (bytes : List ℕ)
    → named (context s v origin table index) x at bytes → (y : AttrValue) × named (context s v origin table unsettled) y at bytes
named_bare s v origin table index x at bytes i =
    let j = i.3 in
    let y = plain_bare s v origin table index i.1 x (at + length j.0) j.1 j.3 in
    (y.0, (i.0, i.1, i.2, (j.0, j.1, j.2, y.1, j.4)))

value_bare : (s : SectionBytes5) (v : Version) (origin : ℕ) (table : List Shape) (index : Index) (f : Form) (x : AttrValue) (at : ℕ) (bytes : List ℕ)
    → value_in (context s v origin table index) f x at bytes → (y : AttrValue) × value_in (context s v origin table unsettled) f y at bytes
value_bare s v origin table index form.Indirect x at bytes i = named_bare s v origin table index x at bytes i
value_bare s v origin table index (form.Number w m) x at bytes i = plain_bare s v origin table index (form.Number w m) x at bytes i
value_bare s v origin table index (form.Block w) x at bytes i = plain_bare s v origin table index (form.Block w) x at bytes i
value_bare s v origin table index form.Text x at bytes i = plain_bare s v origin table index form.Text x at bytes i
value_bare s v origin table index form.Signed x at bytes i = plain_bare s v origin table index form.Signed x at bytes i
value_bare s v origin table index form.Present x at bytes i = plain_bare s v origin table index form.Present x at bytes i
value_bare s v origin table index (form.Skipped n) x at bytes i = plain_bare s v origin table index (form.Skipped n) x at bytes i
value_bare s v origin table index (form.Implicit z) x at bytes i = plain_bare s v origin table index (form.Implicit z) x at bytes i

each_bare : (s : SectionBytes5) (v : Version) (origin : ℕ) (table : List Shape) (index : Index) (slots : List Slot) (xs : List Attribute) (at : ℕ) (bytes : List ℕ)
    → each (attribute (context s v origin table index)) slots xs at bytes → (ys : List Attribute) × each (attribute (context s v origin table unsettled)) slots ys at bytes
each_bare s v origin table index [] [] at bytes i = ([], i)
each_bare s v origin table index [] (x ∷ xs) at bytes i = absurd i
each_bare s v origin table index (o ∷ slots) [] at bytes i = absurd i
each_bare s v origin table index (o ∷ slots) (x ∷ xs) at bytes i =
    let a = i.2 in
    let y = value_bare s v origin table index a.0 x.value at i.0 a.3 in
    let ys = each_bare s v origin table index slots xs (at + length i.0) i.1 i.3 in
    let first : Attribute = record { name = x.name; value = y.0 } in
    (first ∷ ys.0, (i.0, i.1, (a.0, a.1, a.2, y.1), ys.1, i.4))

-- an entry and its children, where its children are spelled so too
children_bare : (s : SectionBytes5) (v : Version) (origin : ℕ) (table : List Shape) (index : Index) (b : Bool) (children : Siblings)
    → ((o : ℕ) (inner : List ℕ) → siblings (context s v origin table index) children o inner → (ts : Siblings) × siblings (context s v origin table unsettled) ts o inner)
    → (at : ℕ) (bytes : List ℕ) → children_if b children (siblings (context s v origin table index) children) at bytes
    → (ts : Siblings) × children_if b ts (siblings (context s v origin table unsettled) ts) at bytes
children_bare s v origin table index true children inside at bytes i =
    let ts = inside at i.0 i.2 in
    (ts.0, (i.0, i.1, ts.1, i.3, i.4))
children_bare s v origin table index false children inside at bytes i = (none, (refl, i.1))

entry_bare : (s : SectionBytes5) (v : Version) (origin : ℕ) (table : List Shape) (index : Index) (at tag : ℕ) (attributes : List Attribute) (children : Siblings)
    → ((o : ℕ) (inner : List ℕ) → siblings (context s v origin table index) children o inner → (ts : Siblings) × siblings (context s v origin table unsettled) ts o inner)
    → (o : ℕ) (bytes : List ℕ) → entry_with (context s v origin table index) at tag attributes children (siblings (context s v origin table index) children) o bytes
    → (xs : List Attribute) × (ts : Siblings) × entry_with (context s v origin table unsettled) at tag xs ts (siblings (context s v origin table unsettled) ts) o bytes
entry_bare s v origin table index at tag attributes children inside o bytes i =
    let j = i.6 in
    let k = j.3 in
    let xs = each_bare s v origin table index i.1.slots attributes (o + length j.0) k.0 k.2 in
    let ts = children_bare s v origin table index i.1.children children inside ((o + length j.0) + length k.0) k.1 k.3 in
    (xs.0, ts.0, (i.0, i.1, i.2, i.3, i.4, i.5, (j.0, j.1, j.2, (k.0, k.1, xs.1, ts.1, k.4), j.4)))

siblings_bare : (s : SectionBytes5) (v : Version) (origin : ℕ) (table : List Shape) (index : Index) (ts : Siblings) (at : ℕ) (bytes : List ℕ)
    → siblings (context s v origin table index) ts at bytes → (us : Siblings) × siblings (context s v origin table unsettled) us at bytes
siblings_bare s v origin table index none at bytes i = (none, i)
siblings_bare s v origin table index (entry o tag attributes children rest) at bytes i =
    let e = entry_bare s v origin table index o tag attributes children (λ k inner j. siblings_bare s v origin table index children k inner j) at i.0 i.2 in
    let others = siblings_bare s v origin table index rest (at + length i.0) i.1 i.3 in
    (entry o tag e.0 e.1 others.0, (i.0, i.1, e.2, others.1, i.4))

tree_bare : (s : SectionBytes5) (v : Version) (origin : ℕ) (table : List Shape) (index : Index) (t : Tree) (at : ℕ) (bytes : List ℕ)
    → tree (context s v origin table index) t at bytes → (u : Tree) × tree (context s v origin table unsettled) u at bytes
tree_bare s v origin table index t at bytes i =
    let e = entry_bare s v origin table index t.at t.tag t.attributes t.children (λ k inner j. siblings_bare s v origin table index t.children k inner j) at bytes i in
    (record { at = t.at; tag = t.tag; attributes = e.0; children = e.1 }, e.2)

-- ---- the root

-- the first step of a tree makes its root
record Rooted (c : Context) (t : Tree) (at : ℕ) (bytes : List ℕ) : Type 0 where
  next : Growing
  front : List ℕ
  rest : List ℕ
  steps : step c seed next at front
  parts : bytes ≡ front ++ rest
  attributes : root_attributes next.entries ≡ t.attributes

tree_rooted : (c : Context) (t : Tree) (at : ℕ) (bytes : List ℕ) → tree c t at bytes → Rooted c t at bytes
tree_rooted c t at bytes i =
    let j = i.6 in
    let k = j.3 in
    let next : Growing = with_entry seed at i.1 t.attributes in
    let enters : Enters c seed next at (j.0 ++ k.0) = record { code = i.0; shape = i.1; attributes = t.attributes; other = i.3; found = i.4; now = refl; spelled = (j.0, k.0, j.2, k.2, refl) } in
    record {
      next = next;
      front = j.0 ++ k.0;
      rest = k.1;
      steps = inr enters;
      parts = j.4 ∙ ap (λ (r : List ℕ). j.0 ++ r) k.4 ∙ sym (append_assoc j.0 k.0 k.1);
      attributes = refl;
    }

-- What the first step reads is the root.
root_read : (c : Context) (t : Tree) (before front rest : List ℕ) (r : Rooted c t (length before) front)
    → step_item c seed (place before (front ++ rest)) ≡ got r.next (place (before ++ r.front) (r.rest ++ rest))
root_read c t before front rest r =
    let all : front ++ rest ≡ r.front ++ (r.rest ++ rest) = ap (λ (f : List ℕ). f ++ rest) r.parts ∙ append_assoc r.front r.rest rest in
    ap (λ (w : List ℕ). step_item c seed (place before w)) all ∙ (step_exact c seed).again before r.front (r.rest ++ rest) r.next r.steps

-- ---- both

-- the entries that a tree writes out, where its root gives what indices stand for
abbrev pub rooted : SectionBytes5 → Version → ℕ → List Shape → List Entry → ℕ → List ℕ → Type 0
rooted s v origin table es at bytes =
    (bare : Tree) × (t : Tree) × (es ≡ written t)
    × both (tree (context s v origin table unsettled) bare) (tree (context s v origin table (v.index s bare.attributes)) t) at bytes

rooted_made : (s : SectionBytes5) (v : Version) (origin : ℕ) (table : List Shape) (es : List Entry) (before front rest : List ℕ) (h : Growing) (q : Place)
    → step_item (context s v origin table unsettled) seed (place before (front ++ rest)) ≡ got h q
    → entries (context s v origin table (v.index s (root_attributes h.entries))) es (length before) front → rooted s v origin table es (length before) front
rooted_made s v origin table es before front rest h q read i =
    let c : Context = context s v origin table unsettled in
    let u = tree_bare s v origin table (v.index s (root_attributes h.entries)) i.0 (length before) front i.2 in
    let r = tree_rooted c u.0 (length before) front u.1 in
    let both_read : got h q ≡ got r.next (place (before ++ r.front) (r.rest ++ rest)) = sym read ∙ root_read c u.0 before front rest r in
    let same : h ≡ r.next = (got_is h r.next q (place (before ++ r.front) (r.rest ++ rest)) both_read).0 in
    let attributes : root_attributes h.entries ≡ u.0.attributes = ap (λ (g : Growing). root_attributes g.entries) same ∙ r.attributes in
    (u.0, i.0, i.1, (u.1, subst (λ (xs : List Attribute). tree (context s v origin table (v.index s xs)) i.0 (length before) front) attributes i.2))

rooted_sound : (s : SectionBytes5) (v : Version) (origin : ℕ) (table : List Shape) (before after : List ℕ) (es : List Entry) (q : Place) → IsBytes after
    → rooted_item s v origin table (place before after) ≡ got es q → Took (rooted s v origin table) before after es q
rooted_sound s v origin table before after es q fits read =
    let c : List Attribute → Context = λ xs. context s v origin table (v.index s xs) in
    let a = bind_ok (step_item (context s v origin table unsettled) seed (place before after)) (λ root. entries_item (c (root_attributes root.0.entries)) (place before after)) es q read in
    let t = (entries_exact (c (root_attributes a.0.entries))).sound before after es q fits a.3 in
    let here : step_item (context s v origin table unsettled) seed (place before (t.front ++ t.rest)) ≡ got a.0 a.1 =
    ap (λ (w : List ℕ). step_item (context s v origin table unsettled) seed (place before w)) (sym t.parts) ∙ a.2 in
    record { front = t.front; rest = t.rest; is = rooted_made s v origin table es before t.front t.rest a.0 a.1 here t.is; parts = t.parts; behind = t.behind; bytes = t.bytes }

rooted_again : (s : SectionBytes5) (v : Version) (origin : ℕ) (table : List Shape) (before front rest : List ℕ) (es : List Entry)
    → rooted s v origin table es (length before) front → rooted_item s v origin table (place before (front ++ rest)) ≡ got es (place (before ++ front) rest)
rooted_again s v origin table before front rest es i =
    let c : List Attribute → Context = λ xs. context s v origin table (v.index s xs) in
    let p : Place = place before (front ++ rest) in
    let r = tree_rooted (context s v origin table unsettled) i.0 (length before) front i.3.0 in
    let one = root_read (context s v origin table unsettled) i.0 before front rest r in
    let two = (entries_exact (c i.0.attributes)).again before front rest es (i.1, i.2, i.3.1) in
    ap (λ (x : Read Growing). x >>= λ root. entries_item (c (root_attributes root.0.entries)) p) one
    ∙ ap (λ (xs : List Attribute). entries_item (c xs) p) r.attributes ∙ two

pub rooted_exact : (s : SectionBytes5) (v : Version) (origin : ℕ) (table : List Shape) → IsExact (rooted s v origin table) (rooted_item s v origin table)
rooted_exact s v origin table = record { sound = rooted_sound s v origin table; again = rooted_again s v origin table }
