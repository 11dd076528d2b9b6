-- A step of the reading of a tree reads the end of a list of children, or an entry.
use Rattle.std.proofs.Common.{◌≡◌, ℕ, zero, suc, ◌+◌, ◌⊎◌, Bool, true, false, List, [], ◌++◌, length, Option, Some, None, refl, sym, ap, subst, ◌∙◌, inl, inr, arith}
use Rattle.std.specs.Prelude.{if◌then◌else◌, ◌==◌, option_map}
use Rattle.std.proofs.lemmas.Bool.{eqb-true, eqb-false, ne_eqb}
use Rattle.std.proofs.lemmas.List.{append-nil}
use Rattle.wasm_bytes.specs.Reading.{◌▷◌, here_item, steps_until_done, u64_item}
use Rattle.wasm_bytes.specs.calls.Spelling.{◌&◌, leads, image, only, here, steps_to_done, u64}
use Rattle.wasm_bytes.specs.Laws.{IsExact, TakesBytes}
use Rattle.wasm_bytes.proofs.Exact.{same_exact, leads_exact, image_exact, done_exact, here_exact}
use Rattle.wasm_bytes.proofs.UntilDone.{until_done_exact}
use Rattle.wasm_bytes.proofs.ExactItems.{u64_exact}
use Rattle.dwarf_bytes.specs.Items.{item_or_none}
use Rattle.dwarf_bytes.specs.calls.Spelled.{never, each}
use Rattle.dwarf_abbrev.proofs.Exact.{u64_takes}
use Rattle.dwarf_info.specs.declared.form.Shape.{Shape}
use Rattle.dwarf_info.specs.declared.entry.Attribute.{Attribute}
use Rattle.dwarf_info.specs.declared.entry.Entry.{Entry}
use Rattle.dwarf_info.specs.declared.growing.Growing.{Growing}
use Rattle.dwarf_info.specs.Values.{Context, attributes_item}
use Rattle.dwarf_info.specs.Entries.{shape_of, seed, with_entry, shape_item, closing_item, code_item, step_item, is_whole}
use Rattle.dwarf_info.specs.calls.Grammar.{attribute}
use Rattle.dwarf_info.proofs.ValueLaws.{never_exact, attributes_exact}
use Rattle.wasm_bytes.proofs.Takes.{front_takes}

-- the end of the innermost list of children
pub record Closes (g h : Growing) (bytes : List ℕ) : Type 0 where
  pub depth : ℕ
  pub was : g.depth ≡ suc depth
  pub now : (let left : Growing = record { entries = g.entries; depth = depth } in left ≡ h)
  pub null : u64 0 0 bytes

-- an entry, which stands at that offset
pub record Enters (c : Context) (g h : Growing) (at : ℕ) (bytes : List ℕ) : Type 0 where
  pub code : ℕ
  pub shape : Shape
  pub attributes : List Attribute
  pub other : code ≡ 0 → ⊥
  pub found : shape_of c.table code ≡ Some shape
  pub now : with_entry g at shape attributes ≡ h
  pub spelled : (u64 code & each (attribute c) shape.slots attributes) at bytes

abbrev pub step : Context → Growing → Growing → ℕ → List ℕ → Type 0
step c g h at bytes = Closes g h bytes ⊎ Enters c g h at bytes

-- ---- what stands behind a code

abbrev closes_at : List Entry → ℕ → Growing → ℕ → List ℕ → Type 0
closes_at entries zero = never
closes_at entries (suc depth) = only (record { entries = entries; depth = depth })

closes_exact : (entries : List Entry) (depth : ℕ) → IsExact (closes_at entries depth) (closing_item entries depth)
closes_exact entries zero = never_exact
closes_exact entries (suc depth) = done_exact (record { entries = entries; depth = depth })

abbrev shaped : Context → Growing → ℕ → Option Shape → Growing → ℕ → List ℕ → Type 0
shaped c g at (Some shape) = image (with_entry g at shape) (each (attribute c) shape.slots)
shaped c g at None = never

shaped_exact : (c : Context) (g : Growing) (at : ℕ) (o : Option Shape) → IsExact (shaped c g at o) (item_or_none (option_map (shape_item c g at) o))
shaped_exact c g at (Some shape) = image_exact (each (attribute c) shape.slots) (with_entry g at shape) (attributes_item c shape.slots) (attributes_exact c shape.slots)
shaped_exact c g at None = never_exact

abbrev coded : Context → Growing → ℕ → Bool → ℕ → Growing → ℕ → List ℕ → Type 0
coded c g at true code = closes_at g.entries g.depth
coded c g at false code = shaped c g at (shape_of c.table code)

coded_exact : (c : Context) (g : Growing) (at : ℕ) (b : Bool) (code : ℕ)
    → IsExact (coded c g at b code) (if b then closing_item g.entries g.depth else item_or_none (option_map (shape_item c g at) (shape_of c.table code)))
coded_exact c g at true code = closes_exact g.entries g.depth
coded_exact c g at false code = shaped_exact c g at (shape_of c.table code)

-- a code at an offset, and what stands behind it
abbrev at_offset : Context → Growing → ℕ → Growing → ℕ → List ℕ → Type 0
at_offset c g at = leads u64 (λ code. coded c g at (code == 0) code)

at_offset_exact : (c : Context) (g : Growing) (at : ℕ) → IsExact (at_offset c g at) (u64_item ▷ code_item c g at)
at_offset_exact c g at = leads_exact u64 (λ code. coded c g at (code == 0) code) u64_item (code_item c g at) u64_exact (λ code. coded_exact c g at (code == 0) code)

-- ---- a step

closes_made : (entries : List Entry) (depth : ℕ) (g h : Growing) → g.entries ≡ entries → g.depth ≡ depth → (at : ℕ) (front rest bytes : List ℕ)
    → u64 0 0 front → closes_at entries depth h at rest → bytes ≡ front ++ rest → Closes g h bytes
closes_made entries zero g h e d at front rest bytes s t parts = absurd t
closes_made entries (suc depth) g h e d at front rest bytes s t parts = record {
  depth = depth;
  was = d;
  now = ap (λ (es : List Entry). let left : Growing = record { entries = es; depth = depth } in left) e ∙ sym t.0;
  null = subst (λ (b : List ℕ). u64 0 0 b) (sym (parts ∙ ap (λ (r : List ℕ). front ++ r) t.1 ∙ append-nil front)) s;
}

shaped_made : (c : Context) (g h : Growing) (at code : ℕ) (o : Option Shape) → shape_of c.table code ≡ o → (code ≡ 0 → ⊥) → (front rest bytes : List ℕ)
    → u64 code at front → shaped c g at o h (at + length front) rest → bytes ≡ front ++ rest → Enters c g h at bytes
shaped_made c g h at code (Some shape) e other front rest bytes s t parts = record {
  code = code;
  shape = shape;
  attributes = t.0;
  other = other;
  found = e;
  now = t.1;
  spelled = (front, rest, s, t.2, parts);
}
shaped_made c g h at code None e other front rest bytes s t parts = absurd t

coded_made : (c : Context) (g h : Growing) (at code : ℕ) (b : Bool) → (code == 0) ≡ b → (front rest bytes : List ℕ)
    → u64 code at front → coded c g at b code h (at + length front) rest → bytes ≡ front ++ rest → step c g h at bytes
coded_made c g h at code true e front rest bytes s t parts =
    let null : u64 0 0 front = subst (λ (n : ℕ). u64 n at front) (eqb-true code 0 e) s in
    inl (closes_made g.entries g.depth g h refl refl (at + length front) front rest bytes null t parts)
coded_made c g h at code false e front rest bytes s t parts = inr (shaped_made c g h at code (shape_of c.table code) refl (eqb-false code 0 e) front rest bytes s t parts)

-- what stands where the item stands
at_here : (c : Context) (g h : Growing) (at : ℕ) (bytes : List ℕ) → leads here (at_offset c g) h at bytes → at_offset c g at h at bytes
at_here c g h at bytes s =
    let none : s.1.0 ≡ [] = s.1.2.1 in
    let same : s.1.1 ≡ bytes = sym (s.1.4 ∙ ap (λ (r : List ℕ). r ++ s.1.1) none) in
    let offset : at + length s.1.0 ≡ at = omega (arith, ap length none) in
    let moved : at_offset c g s.0 h at s.1.1 = subst (λ (n : ℕ). at_offset c g s.0 h n s.1.1) offset s.1.3 in
    let placed : at_offset c g at h at s.1.1 = subst (λ (n : ℕ). at_offset c g n h at s.1.1) s.1.2.0 moved in
    subst (λ (b : List ℕ). at_offset c g at h at b) same placed

step_made : (c : Context) (g h : Growing) (at : ℕ) (bytes : List ℕ) → leads here (at_offset c g) h at bytes → step c g h at bytes
step_made c g h at bytes s =
    let t = at_here c g h at bytes s in
    coded_made c g h at t.0 (t.0 == 0) refl t.1.0 t.1.1 bytes t.1.2 t.1.3 t.1.4

closed_behind : (g h : Growing) (depth : ℕ) → g.depth ≡ suc depth → (let left : Growing = record { entries = g.entries; depth = depth } in left ≡ h) → (at : ℕ) → closes_at g.entries g.depth h at []
closed_behind g h depth was now at = subst (λ (n : ℕ). closes_at g.entries n h at []) (sym was) (sym now, refl)

step_parts : (c : Context) (g h : Growing) (at : ℕ) (bytes : List ℕ) → step c g h at bytes → at_offset c g at h at bytes
step_parts c g h at bytes (inl s) =
    (0, (bytes, [], s.null, closed_behind g h s.depth s.was s.now (at + length bytes), sym (append-nil bytes)))
step_parts c g h at bytes (inr s) =
    let n : ℕ = at + length s.spelled.0 in
    let shape_there : shaped c g at (Some s.shape) h n s.spelled.1 = (s.attributes, s.now, s.spelled.3) in
    let found = subst (λ (o : Option Shape). shaped c g at o h n s.spelled.1) (sym s.found) shape_there in
    let tail = subst (λ (b : Bool). coded c g at b s.code h n s.spelled.1) (sym (ne_eqb s.code 0 s.other)) found in
    (s.code, (s.spelled.0, s.spelled.1, s.spelled.2, tail, s.spelled.4))

-- behind no bytes the offset is the same
from_here : (c : Context) (g h : Growing) (at : ℕ) (bytes : List ℕ) → at_offset c g at h at bytes → leads here (at_offset c g) h at bytes
from_here c g h at bytes s =
    let offset : at ≡ at + 0 = omega arith in
    let moved : at_offset c g at h (at + 0) bytes = subst (λ (n : ℕ). at_offset c g at h n bytes) offset s in
    (at, ([], bytes, (refl, refl), moved, refl))

pub step_exact : (c : Context) (g : Growing) → IsExact (step c g) (step_item c g)
unfolding step_item
step_exact c g = same_exact (leads here (at_offset c g)) (step c g) _
    (λ h at bytes s. step_made c g h at bytes s)
    (λ h at bytes s. from_here c g h at bytes (step_parts c g h at bytes s))
    (leads_exact here (at_offset c g) here_item (λ at. u64_item ▷ code_item c g at) here_exact (λ at. at_offset_exact c g at))

pub step_takes : (c : Context) (g : Growing) → TakesBytes (step c g)
step_takes c g h at bytes (inl s) = u64_takes 0 0 bytes s.null
step_takes c g h at bytes (inr s) = front_takes s.spelled.0 s.spelled.1 bytes s.spelled.4 (u64_takes s.code at s.spelled.0 s.spelled.2)

-- Reading makes the steps to the first state in which the tree is whole.
pub steps_exact : (c : Context) → IsExact (steps_to_done is_whole (step c) seed) (steps_until_done is_whole (step_item c) seed)
steps_exact c = until_done_exact is_whole (step c) (step_item c) (step_exact c) (step_takes c) seed
