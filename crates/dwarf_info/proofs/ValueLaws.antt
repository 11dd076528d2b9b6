-- The values of attributes are read exactly as they are spelled, for each form.
use Rattle.std.proofs.Common.{◌≡◌, ℕ, ◌+◌, List, ◌++◌, length, Option, Some, None, refl, sym, ap, subst}
use Rattle.std.specs.Prelude.{true, option_map}
use Rattle.wasm_bytes.specs.Reading.{◌▷◌, run_item, s64_item, u64_item}
use Rattle.wasm_bytes.specs.calls.Spelling.{leads, image, run, u64, s64}
use Rattle.wasm_bytes.specs.Laws.{IsExact}
use Rattle.wasm_bytes.proofs.Exact.{same_exact, leads_exact, image_exact, done_exact}
use Rattle.wasm_bytes.proofs.ExactItems.{run_exact, u64_exact, s64_exact}
use Rattle.dwarf_bytes.specs.Items.{no_item, item_or_none, text_item}
use Rattle.dwarf_bytes.specs.calls.Spelled.{never, each}
use Rattle.dwarf_bytes.specs.calls.Spelled.{ended_text}
use Rattle.dwarf_bytes.proofs.Lists.{meaning_exact, each_exact}
use Rattle.dwarf_bytes.proofs.Exact.{number_exact}
use Rattle.dwarf_bytes.proofs.Exact.{text_exact}
use Rattle.dwarf_info.specs.declared.form.NumberForm.{NumberForm}
use Rattle.dwarf_info.specs.declared.form.NumberForm.TheVariants.{Bytes, Leb}
use Rattle.dwarf_info.specs.declared.form.Form.{Form}
use Rattle.dwarf_info.specs.declared.form.Form.TheVariants as form
use Rattle.dwarf_info.specs.declared.form.Slot.{Slot}
use Rattle.dwarf_info.specs.declared.entry.AttrValue.{AttrValue}
use Rattle.dwarf_info.specs.declared.entry.AttrValue.TheVariants as value
use Rattle.dwarf_info.specs.declared.entry.Attribute.{Attribute}
use Rattle.dwarf_info.specs.Forms.{form_of}
use Rattle.dwarf_info.specs.Values.{Context, meant, width_item, plain_item, named_item, value_item, attribute_of, slot_item, attributes_item}
use Rattle.dwarf_info.specs.calls.Grammar.{width, block, plain, named, value_in, attribute}

width_exact : (w : NumberForm) → IsExact (width w) (width_item w)
width_exact (Bytes n) = number_exact n
width_exact Leb = u64_exact

block_exact : (w : NumberForm) → IsExact (block w) (width_item w ▷ run_item)
block_exact w = same_exact (leads (width w) run) (block w) (width_item w ▷ run_item)
    (λ bytes at front s. (s.1.0, s.1.1, subst (λ (n : ℕ). width w n at s.1.0) (sym s.1.3.1) s.1.2, s.1.3.0, s.1.4))
    (λ bytes at front s. (length bytes, (s.0, s.1, s.2, (s.3, refl), s.4)))
    (leads_exact (width w) run (width_item w) run_item (width_exact w) run_exact)

pub never_exact : {A : Type 0} → IsExact {A = A} never no_item
never_exact = record { sound = λ before after x q fits read. absurd cc; again = λ before front rest x s. absurd s }

pub plain_exact : (c : Context) (f : Form) → IsExact (plain c f) (plain_item c f)
unfolding plain_item
plain_exact c (form.Number w m) = meaning_exact (meant c m) (width w) (width_item w) (width_exact w)
plain_exact c (form.Block w) = image_exact (block w) value.Block (width_item w ▷ run_item) (block_exact w)
plain_exact c form.Text = image_exact ended_text value.Text text_item text_exact
plain_exact c form.Signed = image_exact s64 value.Signed s64_item s64_exact
plain_exact c form.Present = done_exact (value.Flag true)
plain_exact c (form.Skipped n) = image_exact (run n) (λ bytes. value.Other) (run_item n) (run_exact n)
plain_exact c (form.Implicit z) = done_exact (value.Signed z)
plain_exact c form.Indirect = never_exact

-- what a form that is named spells, where it is one
abbrev plain_if : Context → Option Form → AttrValue → ℕ → List ℕ → Type 0
plain_if c (Some f) = plain c f
plain_if c None = never

plain_if_exact : (c : Context) (o : Option Form) → IsExact (plain_if c o) (item_or_none (option_map (plain_item c) o))
plain_if_exact c (Some f) = plain_exact c f
plain_if_exact c None = never_exact

named_made : (c : Context) (v : AttrValue) (code : ℕ) (o : Option Form) → form_of c.rows code ≡ o → (at : ℕ) (front rest bytes : List ℕ)
    → u64 code at front → plain_if c o v (at + length front) rest → bytes ≡ front ++ rest → named c v at bytes
named_made c v code (Some f) e at front rest bytes s t parts = (code, f, e, (front, rest, s, t, parts))
named_made c v code None e at front rest bytes s t parts = absurd t

pub named_exact : (c : Context) → IsExact (named c) (named_item c)
unfolding named_item
named_exact c = same_exact (leads u64 (λ code. plain_if c (form_of c.rows code))) (named c) _
    (λ v at bytes s. named_made c v s.0 (form_of c.rows s.0) refl at s.1.0 s.1.1 bytes s.1.2 s.1.3 s.1.4)
    (λ v at bytes s. (s.0, (s.3.0, s.3.1, s.3.2, subst (λ (o : Option Form). plain_if c o v (at + length s.3.0) s.3.1) (sym s.2) s.3.3, s.3.4)))
    (leads_exact u64 (λ code. plain_if c (form_of c.rows code)) u64_item (λ code. item_or_none (option_map (plain_item c) (form_of c.rows code))) u64_exact (λ code. plain_if_exact c (form_of c.rows code)))

pub value_exact : (c : Context) (f : Form) → IsExact (value_in c f) (value_item c f)
value_exact c form.Indirect = named_exact c
value_exact c (form.Number w m) = plain_exact c (form.Number w m)
value_exact c (form.Block w) = plain_exact c (form.Block w)
value_exact c form.Text = plain_exact c form.Text
value_exact c form.Signed = plain_exact c form.Signed
value_exact c form.Present = plain_exact c form.Present
value_exact c (form.Skipped n) = plain_exact c (form.Skipped n)
value_exact c (form.Implicit z) = plain_exact c (form.Implicit z)

-- ---- attributes

abbrev value_if : Context → Option Form → AttrValue → ℕ → List ℕ → Type 0
value_if c (Some f) = value_in c f
value_if c None = never

value_if_exact : (c : Context) (o : Option Form) → IsExact (value_if c o) (item_or_none (option_map (value_item c) o))
value_if_exact c (Some f) = value_exact c f
value_if_exact c None = never_exact

slot_made : (c : Context) (s : Slot) (o : Option Form) → s.form ≡ o → (v : AttrValue) (a : Attribute) (at : ℕ) (bytes : List ℕ) → attribute_of s v ≡ a → value_if c o v at bytes → attribute c s a at bytes
slot_made c s (Some f) e v a at bytes same t =
    let here : attribute c s (attribute_of s v) at bytes = (f, e, refl, t) in
    subst (λ (b : Attribute). attribute c s b at bytes) same here
slot_made c s None e v a at bytes same t = absurd t

pub slot_exact : (c : Context) (s : Slot) → IsExact (attribute c s) (slot_item c s)
unfolding slot_item
slot_exact c s = same_exact (image (attribute_of s) (value_if c s.form)) (attribute c s) _
    (λ a at bytes t. slot_made c s s.form refl t.0 a at bytes t.1 t.2)
    (λ a at bytes t.
    let same : attribute_of s a.value ≡ a = ap (λ (n : ℕ). let b : Attribute = record { name = n; value = a.value } in b) (sym t.2) in
    (a.value, same, subst (λ (o : Option Form). value_if c o a.value at bytes) (sym t.1) t.3))
    (image_exact (value_if c s.form) (attribute_of s) (item_or_none (option_map (value_item c) s.form)) (value_if_exact c s.form))

-- the attributes of an entry
pub attributes_exact : (c : Context) (slots : List Slot) → IsExact (each (attribute c) slots) (attributes_item c slots)
unfolding attributes_item
attributes_exact c slots = each_exact (attribute c) (slot_item c) (slot_exact c) slots
