-- A list of entries is read exactly where the bytes spell a tree that it writes out.
use Rattle.std.proofs.Common.{◌≡◌, ℕ, zero, suc, ◌+◌, ◌≤◌, ◌<◌, Bool, true, false, List, [], ◌∷◌, ◌++◌, length, refl, sym, ap, subst, ◌∙◌, inl, inr, append_assoc, arith, length-append}
use Rattle.std.specs.Prelude.{if◌then◌else◌, nat_lt, ◌==◌}
use Rattle.std.proofs.lemmas.Bool.{ne_eqb, lt-ltb}
use Rattle.std.proofs.lemmas.List.{append-nil}
use Rattle.wasm_bytes.specs.Reading.{mapped, steps_until_done}
use Rattle.wasm_bytes.specs.calls.Spelling.{image, steps, some_steps, due, steps_to_done, u64}
use Rattle.wasm_bytes.specs.Laws.{IsExact}
use Rattle.wasm_bytes.proofs.Exact.{same_exact, image_exact}
use Rattle.dwarf_info.specs.declared.form.Shape.{Shape}
use Rattle.dwarf_info.specs.declared.entry.Attribute.{Attribute}
use Rattle.dwarf_info.specs.declared.entry.Entry.{Entry}
use Rattle.dwarf_info.specs.declared.growing.Growing.{Growing}
use Rattle.dwarf_info.specs.Values.{Context}
use Rattle.dwarf_info.specs.Entries.{seed, with_entry, step_item, is_whole, entries_read, entries_item}
use Rattle.dwarf_info.specs.calls.Trees.{Siblings, none, entry, Tree, written_at, written}
use Rattle.dwarf_info.specs.calls.Grammar.{children_if, entry_with, siblings, tree}
use Rattle.dwarf_info.proofs.StepLaws.{Closes, Enters, step, steps_exact}
use Rattle.std.proofs.Math.Bool.{and-false}

-- the entries so far, in so many open lists of children
abbrev state : List Entry → ℕ → Growing
state entries depth = record { entries = entries; depth = depth }

abbrev one : ℕ → ℕ → ℕ → List Attribute → Entry
one depth at tag attributes = record { at = at; depth = depth; tag = tag; attributes = attributes }

-- a step where the tree is not whole
abbrev goes : Context → Growing → Growing → ℕ → List ℕ → Type 0
goes c = due is_whole (step c)

abbrev runs : Context → Growing → Growing → ℕ → List ℕ → Type 0
runs c = some_steps (goes c)

-- ---- steps one after the other

joined : {S : Type 0} (T : S → S → ℕ → List ℕ → Type 0) (m n : ℕ) (s t u : S) (at : ℕ) (front rest bytes : List ℕ)
    → steps T m s t at front → steps T n t u (at + length front) rest → bytes ≡ front ++ rest → some_steps T s u at bytes
joined {S} T zero n s t u at front rest bytes a b parts =
    let offset : at + length front ≡ at = omega (arith, ap length a.1) in
    let same : bytes ≡ rest = parts ∙ ap (λ (f : List ℕ). f ++ rest) a.1 in
    let here = subst (λ (k : ℕ). steps T n t u k rest) offset b in
    let from = subst (λ (x : S). steps T n x u at rest) a.0 here in
    (n, subst (λ (r : List ℕ). steps T n s u at r) (sym same) from)
joined T (suc m) n s t u at front rest bytes a b parts =
    let i = a.1 in
    let offset : at + length front ≡ (at + length i.0) + length i.1 = omega (arith, ap length i.4, length-append i.0 i.1) in
    let here = subst (λ (k : ℕ). steps T n t u k rest) offset b in
    let more = joined T m n a.0 t u (at + length i.0) i.1 rest (i.1 ++ rest) i.3 here refl in
    let all : bytes ≡ i.0 ++ (i.1 ++ rest) = parts ∙ ap (λ (f : List ℕ). f ++ rest) i.4 ∙ append_assoc i.0 i.1 rest in
    (suc more.0, (a.0, (i.0, i.1 ++ rest, i.2, more.1, all)))

then_runs : (c : Context) (s t u : Growing) (at : ℕ) (front rest bytes : List ℕ) → runs c s t at front → runs c t u (at + length front) rest → bytes ≡ front ++ rest → runs c s u at bytes
then_runs c s t u at front rest bytes a b parts = joined (goes c) a.0 b.0 s t u at front rest bytes a.1 b.1 parts

one_run : (c : Context) (s t : Growing) (at : ℕ) (bytes : List ℕ) → is_whole s ≡ false → step c s t at bytes → runs c s t at bytes
one_run c s t at bytes due is = (1, (t, (bytes, [], (due, is), (refl, refl), sym (append-nil bytes))))

-- ---- whether the tree is whole

not_whole : (es : List Entry) (d : ℕ) → is_whole (state es (suc d)) ≡ false
not_whole es d =
    let open_list : (suc d == 0) ≡ false = ne_eqb (suc d) 0 (λ e. omega (arith, e)) in
    rw open_list (and-false (nat_lt 0 (length es)))

now_whole : (e : Entry) (es : List Entry) → is_whole (state (e ∷ es) 0) ≡ true
now_whole e es = rw (lt-ltb 0 (length (e ∷ es)) (omega arith)) refl

never_both : (b : Bool) → b ≡ true → b ≡ false → ⊥
never_both true t f = absurd cc
never_both false t f = absurd cc

-- ---- what is spelled makes steps

state_is : (es fs : List Entry) (d : ℕ) → es ≡ fs → state es d ≡ state fs d
state_is es fs d e = ap (λ (xs : List Entry). state xs d) e

entered_is : (es : List Entry) (d at tag : ℕ) (shape : Shape) (attributes : List Attribute) (b : Bool) → shape.children ≡ b → tag ≡ shape.tag
    → with_entry (state es d) at shape attributes ≡ state (es ++ one d at tag attributes ∷ []) (if b then suc d else d)
entered_is es d at tag shape attributes b children tags =
    ap (λ (t : ℕ). state (es ++ one d at t attributes ∷ []) (if shape.children then suc d else d)) (sym tags)
    ∙ ap (λ (x : Bool). state (es ++ one d at tag attributes ∷ []) (if x then suc d else d)) children

children_run : (c : Context) (fs : List Entry) (d : ℕ) (children : Siblings)
    → ((es : List Entry) (o : ℕ) (inner : List ℕ) → siblings c children o inner → runs c (state es (suc d)) (state (es ++ written_at (suc d) children) (suc d)) o inner)
    → (b : Bool) (at : ℕ) (bytes : List ℕ) → children_if b children (siblings c children) at bytes
    → runs c (state fs (if b then suc d else d)) (state (fs ++ written_at (suc d) children) d) at bytes
children_run c fs d children more true at bytes s =
    let inside : List Entry = fs ++ written_at (suc d) children in
    let closes : Closes (state inside (suc d)) (state inside d) s.1 = record { depth = d; was = refl; now = refl; null = s.3 } in
    then_runs c (state fs (suc d)) (state inside (suc d)) (state inside d) at s.0 s.1 bytes (more fs at s.0 s.2)
    (one_run c (state inside (suc d)) (state inside d) (at + length s.0) s.1 (not_whole inside d) (inl closes)) s.4
children_run c fs d children more false at bytes s =
    let empty : fs ++ written_at (suc d) children ≡ fs = ap (λ (t : Siblings). fs ++ written_at (suc d) t) s.0 ∙ append-nil fs in
    (0, (state_is (fs ++ written_at (suc d) children) fs d empty, s.1))

entry_runs : (c : Context) (es : List Entry) (d at tag : ℕ) (attributes : List Attribute) (children : Siblings) (o : ℕ) (bytes : List ℕ) → is_whole (state es d) ≡ false
    → ((fs : List Entry) (k : ℕ) (inner : List ℕ) → siblings c children k inner → runs c (state fs (suc d)) (state (fs ++ written_at (suc d) children) (suc d)) k inner)
    → entry_with c at tag attributes children (siblings c children) o bytes → runs c (state es d) (state (es ++ one d at tag attributes ∷ written_at (suc d) children) d) o bytes
entry_runs c es d at tag attributes children o bytes due more s =
    let i = s.6 in
    let j = i.3 in
    let shape : Shape = s.1 in
    let head : List ℕ = i.0 ++ j.0 in
    let fs : List Entry = es ++ one d at tag attributes ∷ [] in
    let next : Growing = state fs (if shape.children then suc d else d) in
    let now : with_entry (state es d) o shape attributes ≡ next =
    ap (λ (k : ℕ). with_entry (state es d) k shape attributes) (sym s.2) ∙ entered_is es d at tag shape attributes shape.children refl s.5 in
    let enters : Enters c (state es d) next o head = record { code = s.0; shape = shape; attributes = attributes; other = s.3; found = s.4; now = now; spelled = (i.0, j.0, i.2, j.2, refl) } in
    let offset : (o + length i.0) + length j.0 ≡ o + length head = omega (arith, length-append i.0 j.0) in
    let inner = subst (λ (k : ℕ). children_if shape.children children (siblings c children) k j.1) offset j.3 in
    let parts : bytes ≡ head ++ j.1 = i.4 ∙ ap (λ (r : List ℕ). i.0 ++ r) j.4 ∙ sym (append_assoc i.0 j.0 j.1) in
    let all : runs c (state es d) (state (fs ++ written_at (suc d) children) d) o bytes =
    then_runs c (state es d) next (state (fs ++ written_at (suc d) children) d) o head j.1 bytes
    (one_run c (state es d) next o head due (inr enters))
    (children_run c fs d children more shape.children (o + length head) j.1 inner) parts in
    subst (λ (xs : List Entry). runs c (state es d) (state xs d) o bytes) (append_assoc es (one d at tag attributes ∷ []) (written_at (suc d) children)) all

siblings_run : (c : Context) (ts : Siblings) (es : List Entry) (d at : ℕ) (bytes : List ℕ) → siblings c ts at bytes → runs c (state es (suc d)) (state (es ++ written_at (suc d) ts) (suc d)) at bytes
siblings_run c none es d at bytes s = (0, (state_is (es ++ []) es (suc d) (append-nil es), s))
siblings_run c (entry o tag attributes children rest) es d at bytes s =
    let fs : List Entry = es ++ one (suc d) o tag attributes ∷ written_at (suc (suc d)) children in
    let first = entry_runs c es (suc d) o tag attributes children at s.0 (not_whole es d) (λ xs k inner t. siblings_run c children xs (suc d) k inner t) s.2 in
    let others = siblings_run c rest fs d (at + length s.0) s.1 s.3 in
    let all = then_runs c (state es (suc d)) (state fs (suc d)) (state (fs ++ written_at (suc d) rest) (suc d)) at s.0 s.1 bytes first others s.4 in
    subst (λ (xs : List Entry). runs c (state es (suc d)) (state xs (suc d)) at bytes)
    (append_assoc es (one (suc d) o tag attributes ∷ written_at (suc (suc d)) children) (written_at (suc d) rest)) all

tree_runs : (c : Context) (t : Tree) (at : ℕ) (bytes : List ℕ) → tree c t at bytes → runs c seed (state (written t) 0) at bytes
tree_runs c t at bytes s = entry_runs c [] 0 t.at t.tag t.attributes t.children at bytes refl (λ xs k inner i. siblings_run c t.children xs 0 k inner i) s

-- ---- steps spell a tree

-- siblings and the end of their list, and fewer steps behind it
record Ends (c : Context) (n : ℕ) (es : List Entry) (d : ℕ) (g : Growing) (at : ℕ) (bytes : List ℕ) : Type 0 where
  children : Siblings
  left : ℕ
  front : List ℕ
  null : List ℕ
  rest : List ℕ
  fewer : left < n
  spelled : siblings c children at front
  ended : u64 0 0 null
  more : steps (goes c) left (state (es ++ written_at (suc d) children) d) g (at + length (front ++ null)) rest
  parts : bytes ≡ (front ++ null) ++ rest

-- an entry with its children, and the steps behind it
record Stands (c : Context) (n : ℕ) (es : List Entry) (d : ℕ) (g : Growing) (at : ℕ) (bytes : List ℕ) : Type 0 where
  tag : ℕ
  attributes : List Attribute
  children : Siblings
  left : ℕ
  front : List ℕ
  rest : List ℕ
  fewer : left ≤ n
  spelled : entry_with c at tag attributes children (siblings c children) at front
  more : steps (goes c) left (state (es ++ one d at tag attributes ∷ written_at (suc d) children) d) g (at + length front) rest
  parts : bytes ≡ front ++ rest

-- an entry whose children are spelled so
with_children : (c : Context) (g h : Growing) (at : ℕ) (front inner bytes : List ℕ) (e : Enters c g h at front) (children : Siblings)
    → children_if e.shape.children children (siblings c children) (at + length front) inner → bytes ≡ front ++ inner
    → entry_with c at e.shape.tag e.attributes children (siblings c children) at bytes
with_children c g h at front inner bytes e children s parts =
    let i = e.spelled in
    let offset : at + length front ≡ (at + length i.0) + length i.1 = omega (arith, ap length i.4, length-append i.0 i.1) in
    let here = subst (λ (k : ℕ). children_if e.shape.children children (siblings c children) k inner) offset s in
    let all : bytes ≡ i.0 ++ (i.1 ++ inner) = parts ∙ ap (λ (f : List ℕ). f ++ inner) i.4 ∙ append_assoc i.0 i.1 inner in
    (e.code, e.shape, refl, e.other, e.found, refl, (i.0, i.1 ++ inner, i.2, (i.1, inner, i.3, here, refl), all))

entry_stands : (c : Context) (n : ℕ) (es : List Entry) (d : ℕ) (g next : Growing) (at : ℕ) (front rest bytes : List ℕ)
    → ((fs : List Entry) (o : ℕ) (inner : List ℕ) → steps (goes c) n (state fs (suc d)) g o inner → Ends c n fs d g o inner)
    → (e : Enters c (state es d) next at front) (b : Bool) → e.shape.children ≡ b
    → steps (goes c) n next g (at + length front) rest → bytes ≡ front ++ rest → Stands c n es d g at bytes
entry_stands c n es d g next at front rest bytes inside e true flag is parts =
    let fs : List Entry = es ++ one d at e.shape.tag e.attributes ∷ [] in
    let same : next ≡ state fs (suc d) = sym e.now ∙ entered_is es d at e.shape.tag e.shape e.attributes true flag refl in
    let i = inside fs (at + length front) rest (subst (λ (x : Growing). steps (goes c) n x g (at + length front) rest) same is) in
    let inner : List ℕ = i.front ++ i.null in
    let s : children_if true i.children (siblings c i.children) (at + length front) inner = (i.front, i.null, i.spelled, i.ended, refl) in
    let flagged = subst (λ (x : Bool). children_if x i.children (siblings c i.children) (at + length front) inner) (sym flag) s in
    let offset : (at + length front) + length inner ≡ at + length (front ++ inner) = omega (arith, length-append front inner) in
    let moved = subst (λ (k : ℕ). steps (goes c) i.left (state (fs ++ written_at (suc d) i.children) d) g k i.rest) offset i.more in
    record {
      tag = e.shape.tag;
      attributes = e.attributes;
      children = i.children;
      left = i.left;
      front = front ++ inner;
      rest = i.rest;
      fewer = omega (arith, i.fewer);
      spelled = with_children c (state es d) next at front inner (front ++ inner) e i.children flagged refl;
      more = subst (λ (xs : List Entry). steps (goes c) i.left (state xs d) g (at + length (front ++ inner)) i.rest)
          (append_assoc es (one d at e.shape.tag e.attributes ∷ []) (written_at (suc d) i.children)) moved;
      parts = parts ∙ ap (λ (r : List ℕ). front ++ r) i.parts ∙ sym (append_assoc front inner i.rest);
    }
entry_stands c n es d g next at front rest bytes inside e false flag is parts =
    let fs : List Entry = es ++ one d at e.shape.tag e.attributes ∷ [] in
    let same : next ≡ state fs d = sym e.now ∙ entered_is es d at e.shape.tag e.shape e.attributes false flag refl in
    let s : children_if false none (siblings c none) (at + length front) [] = (refl, refl) in
    let flagged = subst (λ (x : Bool). children_if x none (siblings c none) (at + length front) []) (sym flag) s in
    record {
      tag = e.shape.tag;
      attributes = e.attributes;
      children = none;
      left = n;
      front = front;
      rest = rest;
      fewer = omega arith;
      spelled = with_children c (state es d) next at front [] front e none flagged (sym (append-nil front));
      more = subst (λ (x : Growing). steps (goes c) n x g (at + length front) rest) same is;
      parts = parts;
    }

closes_here : (c : Context) (n : ℕ) (es : List Entry) (d : ℕ) (g next : Growing) (at : ℕ) (front rest bytes : List ℕ)
    → Closes (state es (suc d)) next front → steps (goes c) n next g (at + length front) rest → bytes ≡ front ++ rest → Ends c (suc n) es d g at bytes
closes_here c n es d g next at front rest bytes e is parts =
    let depth : e.depth ≡ d = omega (arith, e.was) in
    let same : next ≡ state (es ++ []) d = sym e.now ∙ ap (λ (k : ℕ). state es k) depth ∙ ap (λ (xs : List Entry). state xs d) (sym (append-nil es)) in
    record {
      children = none;
      left = n;
      front = [];
      null = front;
      rest = rest;
      fewer = omega arith;
      spelled = refl;
      ended = e.null;
      more = subst (λ (x : Growing). steps (goes c) n x g (at + length front) rest) same is;
      parts = parts;
    }

-- one entry more in front of the siblings
one_before : (c : Context) (n : ℕ) (es : List Entry) (d : ℕ) (g : Growing) (at : ℕ) (bytes : List ℕ) (x : Stands c n es (suc d) g at bytes)
    → Ends c x.left (es ++ one (suc d) at x.tag x.attributes ∷ written_at (suc (suc d)) x.children) d g (at + length x.front) x.rest → Ends c (suc n) es d g at bytes
one_before c n es d g at bytes x i =
    let parts : bytes ≡ (x.front ++ (i.front ++ i.null)) ++ i.rest = x.parts ∙ ap (λ (r : List ℕ). x.front ++ r) i.parts ∙ sym (append_assoc x.front (i.front ++ i.null) i.rest) in
    let turn : (x.front ++ i.front) ++ i.null ≡ x.front ++ (i.front ++ i.null) = append_assoc x.front i.front i.null in
    let fs : List Entry = one (suc d) at x.tag x.attributes ∷ written_at (suc (suc d)) x.children in
    let offset : (at + length x.front) + length (i.front ++ i.null) ≡ at + length ((x.front ++ i.front) ++ i.null) = omega (arith, ap length turn, length-append x.front (i.front ++ i.null)) in
    let moved = subst (λ (k : ℕ). steps (goes c) i.left (state ((es ++ fs) ++ written_at (suc d) i.children) d) g k i.rest) offset i.more in
    record {
      children = entry at x.tag x.attributes x.children i.children;
      left = i.left;
      front = x.front ++ i.front;
      null = i.null;
      rest = i.rest;
      fewer = omega (arith, i.fewer, x.fewer);
      spelled = (x.front, i.front, x.spelled, i.spelled, refl);
      ended = i.ended;
      more = subst (λ (xs : List Entry). steps (goes c) i.left (state xs d) g (at + length ((x.front ++ i.front) ++ i.null)) i.rest) (append_assoc es fs (written_at (suc d) i.children)) moved;
      parts = parts ∙ ap (λ (r : List ℕ). r ++ i.rest) (sym turn);
    }

by_step : (c : Context) (n : ℕ) (g : Growing) → ((m : ℕ) → m ≤ n → (fs : List Entry) (k o : ℕ) (inner : List ℕ) → steps (goes c) m (state fs (suc k)) g o inner → Ends c m fs k g o inner)
    → (es : List Entry) (d : ℕ) (next : Growing) (at : ℕ) (front rest bytes : List ℕ)
    → step c (state es (suc d)) next at front → steps (goes c) n next g (at + length front) rest → bytes ≡ front ++ rest → Ends c (suc n) es d g at bytes
by_step c n g inside es d next at front rest bytes (inl e) is parts = closes_here c n es d g next at front rest bytes e is parts
by_step c n g inside es d next at front rest bytes (inr e) is parts =
    let x = entry_stands c n es (suc d) g next at front rest bytes (λ fs o inner. inside n (omega arith) fs (suc d) o inner) e e.shape.children refl is parts in
    one_before c n es d g at bytes x
    (inside x.left x.fewer (es ++ one (suc d) at x.tag x.attributes ∷ written_at (suc (suc d)) x.children) d (at + length x.front) x.rest x.more)

ends : (fuel : ℕ) (c : Context) (g : Growing) → is_whole g ≡ true → (n : ℕ) → n ≤ fuel → (es : List Entry) (d at : ℕ) (bytes : List ℕ)
    → steps (goes c) n (state es (suc d)) g at bytes → Ends c n es d g at bytes
ends fuel c g whole zero room es d at bytes is =
    absurd (never_both (is_whole g) whole (ap is_whole is.0 ∙ not_whole es d))
ends zero c g whole (suc n) room es d at bytes is = absurd (omega (arith, room))
ends (suc fuel) c g whole (suc n) room es d at bytes is =
    let i = is.1 in
    by_step c n g (λ m le fs k o inner. ends fuel c g whole m (omega (arith, le, room)) fs k o inner) es d is.0 at i.0 i.1 bytes i.2.1 i.3 i.4

-- a whole tree and nothing behind it
record Whole (c : Context) (g : Growing) (at : ℕ) (bytes : List ℕ) : Type 0 where
  tree_of : Tree
  same : g.entries ≡ written tree_of
  spelled : tree c tree_of at bytes

none_behind : (c : Context) (n : ℕ) (g h : Growing) (at : ℕ) (bytes : List ℕ) → is_whole g ≡ true → steps (goes c) n g h at bytes → (h ≡ g) × (bytes ≡ [])
none_behind c zero g h at bytes whole is = is
none_behind c (suc n) g h at bytes whole is = absurd (never_both (is_whole g) whole is.1.2.0)

stands_alone : (c : Context) (n : ℕ) (g : Growing) (at : ℕ) (bytes : List ℕ) → Stands c n [] 0 g at bytes → Whole c g at bytes
stands_alone c n g at bytes x =
    let t : Tree = record { at = at; tag = x.tag; attributes = x.attributes; children = x.children } in
    let last = none_behind c x.left (state (written t) 0) g (at + length x.front) x.rest (now_whole (one 0 at x.tag x.attributes) (written_at 1 x.children)) x.more in
    let all : bytes ≡ x.front = x.parts ∙ ap (λ (r : List ℕ). x.front ++ r) last.1 ∙ append-nil x.front in
    record { tree_of = t; same = ap (λ (s : Growing). s.entries) last.0; spelled = subst (λ (b : List ℕ). tree c t at b) (sym all) x.spelled }

by_root : (c : Context) (n : ℕ) (g next : Growing) → is_whole g ≡ true → (at : ℕ) (front rest bytes : List ℕ)
    → step c seed next at front → steps (goes c) n next g (at + length front) rest → bytes ≡ front ++ rest → Whole c g at bytes
by_root c n g next whole at front rest bytes (inl e) is parts = absurd (let none : 0 ≡ suc e.depth = e.was in omega (arith, none))
by_root c n g next whole at front rest bytes (inr e) is parts =
    stands_alone c n g at bytes
    (entry_stands c n [] 0 g next at front rest bytes (λ fs o inner. ends n c g whole n (omega arith) fs 0 o inner) e e.shape.children refl is parts)

root_first : (c : Context) (n : ℕ) (g : Growing) (at : ℕ) (bytes : List ℕ) → is_whole g ≡ true → steps (goes c) n seed g at bytes → Whole c g at bytes
root_first c zero g at bytes whole is = absurd (never_both (is_whole g) whole (ap is_whole is.0))
root_first c (suc n) g at bytes whole is = let i = is.1 in by_root c n g is.0 whole at i.0 i.1 bytes i.2.1 i.3 i.4

-- ---- both

-- the entries that a tree writes out
abbrev pub entries : Context → List Entry → ℕ → List ℕ → Type 0
entries c es at bytes = (t : Tree) × (es ≡ written t) × tree c t at bytes

entries_made : (c : Context) (es : List Entry) (at : ℕ) (bytes : List ℕ) → image entries_read (steps_to_done is_whole (step c) seed) es at bytes → entries c es at bytes
entries_made c es at bytes s =
    let w = root_first c s.2.1.0 s.0 at bytes s.2.0 s.2.1.1 in
    (w.tree_of, sym s.1 ∙ w.same, w.spelled)

entries_parts : (c : Context) (es : List Entry) (at : ℕ) (bytes : List ℕ) → entries c es at bytes → image entries_read (steps_to_done is_whole (step c) seed) es at bytes
entries_parts c es at bytes s =
    (state (written s.0) 0, sym s.1, (now_whole (one 0 s.0.at s.0.tag s.0.attributes) (written_at 1 s.0.children), tree_runs c s.0 at bytes s.2))

pub entries_exact : (c : Context) → IsExact (entries c) (entries_item c)
unfolding entries_item
entries_exact c = same_exact (image entries_read (steps_to_done is_whole (step c) seed)) (entries c) (mapped entries_read (steps_until_done is_whole (step_item c) seed))
    (entries_made c) (entries_parts c)
    (image_exact (steps_to_done is_whole (step c) seed) entries_read (steps_until_done is_whole (step_item c) seed) (steps_exact c))
