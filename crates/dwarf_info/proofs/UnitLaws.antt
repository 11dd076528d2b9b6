-- What stands in the block of a length is read as a unit exactly where the bytes spell one, for each version.
use Rattle.std.proofs.Common.{◌≡◌, ℕ, ◌+◌, ◌≤◌, ◌<◌, true, List, ◌++◌, length, take, drop, Option, Some, None, refl, sym, ap, subst, ◌∙◌, inl, inr, append_assoc, arith}
use Rattle.std.specs.Prelude.{option_map}
use Rattle.std.specs.List.{list_all}
use Rattle.std.proofs.lemmas.Bool.{cases_lt}
use Rattle.std.proofs.lemmas.List.{take-append-drop, length-take}
use Rattle.wasm_bytes.specs.Place.{Place, Read}
use Rattle.wasm_bytes.specs.Reading.{mapped, rest_item}
use Rattle.wasm_bytes.specs.calls.Spelling.{◌&◌, leads, image, passing, text}
use Rattle.wasm_bytes.specs.Laws.{IsBytes, place, got, IsExact, IsTail}
use Rattle.wasm_bytes.proofs.Places.{IsBytes-rest, place_is}
use Rattle.wasm_bytes.proofs.Exact.{leads_exact, image_exact}
use Rattle.wasm_bytes.proofs.ExactBlocks.{leads_tail, same_tail, image_tail, checked_tail, rest_tail}
use Rattle.dwarf_bytes.specs.Items.{item_or_none, number_item, read_at, is_zero}
use Rattle.dwarf_bytes.specs.calls.Spelled.{never, number, StandsAt}
use Rattle.dwarf_bytes.proofs.Exact.{number_exact}
use Rattle.dwarf_info.specs.declared.form.Shape.{Shape}
use Rattle.dwarf_info.specs.declared.entry.Unit.{Unit as UnitTree}
use Rattle.dwarf_info.specs.Sections.{SectionBytes5}
use Rattle.dwarf_info.specs.calls.Trees.{Tree, written}
use Rattle.dwarf_info.specs.Units.{Version, context, unsettled, rooted_item, padding_item, unit_of, body_item, unit_item, whole_unit}
use Rattle.dwarf_info.specs.calls.Grammar.{tree, both, Grammars, body}
use Rattle.dwarf_info.proofs.ValueLaws.{never_exact}
use Rattle.dwarf_info.proofs.RootedLaws.{rooted, rooted_exact}
use Rattle.dwarf_bytes.proofs.Standing.{read_ok, stands_read}

-- ---- what stands at an offset of another section

-- an offset inside a section, as a place between the bytes before and those behind it
section_place : (section : List ℕ) (at : ℕ) → at ≤ length section → (let p : Place = record { block = section; at = at } in p ≡ place (take at section) (drop at section))
section_place section at inside =
    place_is section (take at section ++ drop at section) at (length (take at section)) (sym (take-append-drop at section)) (omega (arith, inside, length-take at section))

stands : {A : Type 0} (S : A → ℕ → List ℕ → Type 0) (f : Place → Read A) → IsExact S f → (section : List ℕ) (at : ℕ) → IsBytes section → at ≤ length section → (x : A) → read_at f section at ≡ Some x → StandsAt S x section at
stands S f e section at fits inside x read =
    let r = read_ok (f (record { block = section; at = at })) x read in
    let here : f (place (take at section) (drop at section)) ≡ got x r.0 = ap f (sym (section_place section at inside)) ∙ r.1 in
    let behind : IsBytes (drop at section) = IsBytes-rest (take at section) (drop at section) (subst IsBytes (sym (take-append-drop at section)) fits) in
    let t = e.sound (take at section) (drop at section) x r.0 behind here in
    let offset : length (take at section) ≡ at = omega (arith, inside, length-take at section) in
    (t.front, t.rest, inside, t.parts, subst (λ (n : ℕ). S x n t.front) offset t.is)

-- A reader that has no reading past the end of a section reads at an offset what stands there.
pub stands_there : {A : Type 0} (S : A → ℕ → List ℕ → Type 0) (f : Place → Read A) → IsExact S f → ((section : List ℕ) (at : ℕ) → length section < at → read_at f section at ≡ None)
    → (section : List ℕ) (at : ℕ) → IsBytes section → (x : A) → read_at f section at ≡ Some x → StandsAt S x section at
stands_there {A} S f e past section at fits x read = elim (cases_lt (length section) at) [
  | inl lt ↦ absurd (let none : None ≡ Some x = sym (past section at lt) ∙ read in cc)
  | inr le ↦ stands S f e section at fits le x read
]

-- ---- versions

-- what a version says of headers and abbreviations is read exactly as it is spelled
pub record IsVersionExact (header : ℕ → ℕ → List ℕ → Type 0) (shapes : List Shape → ℕ → List ℕ → Type 0) (v : Version) : Type 0 where
  pub header_exact : IsExact header v.header
  pub shapes_exact : IsExact shapes v.shapes
  pub shapes_inside : (section : List ℕ) (at : ℕ) → length section < at → read_at v.shapes section at ≡ None

abbrev pub AreExact : Grammars → Type 0
AreExact g = (version : ℕ) (v : Version) → g.versions version ≡ Some v → IsVersionExact (g.header version) (g.shapes version) v

-- ---- a unit behind its length

-- entries by a table of abbreviations, where there is one
abbrev tabled : SectionBytes5 → ℕ → ℕ → Version → Option (List Shape) → UnitTree → ℕ → List ℕ → Type 0
tabled s origin version v (Some table) = image (unit_of origin version) (rooted s v origin table)
tabled s origin version v None = never

tabled_exact : (s : SectionBytes5) (origin version : ℕ) (v : Version) (o : Option (List Shape))
    → IsExact (tabled s origin version v o) (item_or_none (option_map (λ table. mapped (unit_of origin version) (rooted_item s v origin table)) o))
tabled_exact s origin version v (Some table) = image_exact (rooted s v origin table) (unit_of origin version) (rooted_item s v origin table) (rooted_exact s v origin table)
tabled_exact s origin version v None = never_exact

-- a header and entries
abbrev headed : SectionBytes5 → (ℕ → ℕ → List ℕ → Type 0) → ℕ → ℕ → Version → UnitTree → ℕ → List ℕ → Type 0
headed s header origin version v = leads header (λ offset. tabled s origin version v (read_at v.shapes s.base.abbreviations offset))

headed_exact : (s : SectionBytes5) (header : ℕ → ℕ → List ℕ → Type 0) (origin version : ℕ) (v : Version) → IsExact header v.header → IsExact (headed s header origin version v) (body_item s origin version v)
headed_exact s header origin version v e = leads_exact header (λ offset. tabled s origin version v (read_at v.shapes s.base.abbreviations offset)) v.header _ e
    (λ offset. tabled_exact s origin version v (read_at v.shapes s.base.abbreviations offset))

-- what stands behind the version, where it is one that is read
abbrev versioned : SectionBytes5 → Grammars → ℕ → ℕ → Option Version → UnitTree → ℕ → List ℕ → Type 0
versioned s g origin version (Some v) = headed s (g.header version) origin version v
versioned s g origin version None = never

versioned_exact : (s : SectionBytes5) (g : Grammars) → AreExact g → (origin version : ℕ) (o : Option Version) → g.versions version ≡ o
    → IsExact (versioned s g origin version o) (item_or_none (option_map (body_item s origin version) o))
versioned_exact s g h origin version (Some v) e = headed_exact s (g.header version) origin version v (h version v e).header_exact
versioned_exact s g h origin version None e = never_exact

abbrev numbered : SectionBytes5 → Grammars → ℕ → UnitTree → ℕ → List ℕ → Type 0
numbered s g origin = leads (number 2) (λ version. versioned s g origin version (g.versions version))

numbered_exact : (s : SectionBytes5) (g : Grammars) → AreExact g → (origin : ℕ) → IsExact (numbered s g origin) (unit_item s g.versions origin)
unfolding unit_item
numbered_exact s g h origin = leads_exact (number 2) (λ version. versioned s g origin version (g.versions version)) (number_item 2) _ (number_exact 2)
    (λ version. versioned_exact s g h origin version (g.versions version) refl)

padding_tail : IsTail (passing (list_all is_zero) text) padding_item
unfolding padding_item
padding_tail = checked_tail (list_all is_zero) text rest_item rest_tail

-- a unit and zeros up to the end
abbrev padded : SectionBytes5 → Grammars → ℕ → UnitTree → ℕ → List ℕ → Type 0
padded s g origin = leads (numbered s g origin) (λ u. image (λ zeros. u) (passing (list_all is_zero) text))

padded_tail : (s : SectionBytes5) (g : Grammars) → AreExact g → (origin : ℕ) → IsTail (padded s g origin) (whole_unit s g.versions origin)
unfolding whole_unit
padded_tail s g h origin = leads_tail (numbered s g origin) (λ u. image (λ zeros. u) (passing (list_all is_zero) text)) (unit_item s g.versions origin) (λ u. mapped (λ zeros. u) padding_item)
    (numbered_exact s g h origin) (λ u. image_tail (passing (list_all is_zero) text) (λ zeros. u) padding_item padding_tail)

-- ---- as the language says it

-- what the block of a unit at that offset spells
abbrev pub contents : SectionBytes5 → Grammars → ℕ → UnitTree → ℕ → List ℕ → Type 0
contents s g origin u at bytes = (v : Version) × (g.versions u.version ≡ Some v) × (u.at ≡ origin) × (number 2 u.version & body s g v u) at bytes

-- the parts of a unit, each with the bytes that spell it
record Parts (s : SectionBytes5) (g : Grammars) (origin : ℕ) (u : UnitTree) (at : ℕ) (bytes : List ℕ) : Type 0 where
  v : Version
  is : g.versions u.version ≡ Some v
  origins : u.at ≡ origin
  offset : ℕ
  table : List Shape
  bare : Tree
  full : Tree
  stands : StandsAt (g.shapes u.version) table s.base.abbreviations offset
  entries : u.entries ≡ written full
  first : List ℕ
  second : List ℕ
  third : List ℕ
  fourth : List ℕ
  version_is : number 2 u.version at first
  header_is : g.header u.version offset (at + length first) second
  trees : both (tree (context s v u.at table unsettled) bare) (tree (context s v u.at table (v.index s bare.attributes)) full) ((at + length first) + length second) third
  padding : list_all is_zero fourth ≡ true
  parts : bytes ≡ first ++ (second ++ (third ++ fourth))

contents_from : (s : SectionBytes5) (g : Grammars) (origin : ℕ) (u : UnitTree) (at : ℕ) (bytes : List ℕ) → Parts s g origin u at bytes → contents s g origin u at bytes
contents_from s g origin u at bytes p = (
  p.v,
  p.is,
  p.origins,
  (
    p.first,
    p.second ++ (p.third ++ p.fourth),
    p.version_is,
    (
      p.offset,
      p.table,
      p.bare,
      p.full,
      p.stands,
      p.entries,
      (p.second, p.third ++ p.fourth, p.header_is, (p.third, p.fourth, p.trees, p.padding, refl), refl),
    ),
    p.parts,
  ),
)

parts_from : (s : SectionBytes5) (g : Grammars) (origin : ℕ) (u : UnitTree) (at : ℕ) (bytes : List ℕ) → contents s g origin u at bytes → Parts s g origin u at bytes
parts_from s g origin u at bytes c =
    let i = c.3 in
    let b = i.3 in
    let j = b.6 in
    let k = j.3 in
    record {
      v = c.0;
      is = c.1;
      origins = c.2;
      offset = b.0;
      table = b.1;
      bare = b.2;
      full = b.3;
      stands = b.4;
      entries = b.5;
      first = i.0;
      second = j.0;
      third = k.0;
      fourth = k.1;
      version_is = i.2;
      header_is = j.2;
      trees = k.2;
      padding = k.3;
      parts = i.4 ∙ ap (λ (r : List ℕ). i.0 ++ r) (j.4 ∙ ap (λ (r : List ℕ). j.0 ++ r) k.4);
    }

-- what was read makes the parts
table_parts : (s : SectionBytes5) (g : Grammars) → AreExact g → IsBytes s.base.abbreviations → (origin version : ℕ) (v : Version) → g.versions version ≡ Some v
    → (u : UnitTree) (at offset : ℕ) (first second third fourth bytes : List ℕ) → number 2 version at first → g.header version offset (at + length first) second
    → (o : Option (List Shape)) → read_at v.shapes s.base.abbreviations offset ≡ o → tabled s origin version v o u ((at + length first) + length second) third
    → list_all is_zero fourth ≡ true → bytes ≡ first ++ (second ++ (third ++ fourth)) → Parts s g origin u at bytes
table_parts s g h fits origin version v is u at offset first second third fourth bytes numbers header (Some table) read i padding parts =
    let e = h version v is in
    let there = stands_there (g.shapes version) v.shapes e.shapes_exact e.shapes_inside s.base.abbreviations offset fits table read in
    let r = i.2 in
    let made : Parts s g origin (unit_of origin version i.0) at bytes = record {
      v = v;
      is = is;
      origins = refl;
      offset = offset;
      table = table;
      bare = r.0;
      full = r.1;
      stands = there;
      entries = r.2;
      first = first;
      second = second;
      third = third;
      fourth = fourth;
      version_is = numbers;
      header_is = header;
      trees = r.3;
      padding = padding;
      parts = parts;
    } in
    subst (λ (w : UnitTree). Parts s g origin w at bytes) i.1 made
table_parts s g h fits origin version v is u at offset first second third fourth bytes numbers header None read i padding parts = absurd i

version_parts : (s : SectionBytes5) (g : Grammars) → AreExact g → IsBytes s.base.abbreviations → (origin version : ℕ) (o : Option Version) → g.versions version ≡ o
    → (u : UnitTree) (at : ℕ) (first inner fourth bytes : List ℕ) → number 2 version at first → versioned s g origin version o u (at + length first) inner
    → list_all is_zero fourth ≡ true → bytes ≡ (first ++ inner) ++ fourth → Parts s g origin u at bytes
version_parts s g h fits origin version (Some v) is u at first inner fourth bytes numbers i padding parts =
    let j = i.1 in
    let all : bytes ≡ first ++ (j.0 ++ (j.1 ++ fourth)) =
    parts ∙ append_assoc first inner fourth ∙ ap (λ (r : List ℕ). first ++ r) (ap (λ (r : List ℕ). r ++ fourth) j.4 ∙ append_assoc j.0 j.1 fourth) in
    table_parts s g h fits origin version v is u at i.0 first j.0 j.1 fourth bytes numbers j.2 (read_at v.shapes s.base.abbreviations i.0) refl j.3 padding all
version_parts s g h fits origin version None is u at first inner fourth bytes numbers i padding parts = absurd i

contents_made : (s : SectionBytes5) (g : Grammars) → AreExact g → IsBytes s.base.abbreviations → (origin : ℕ) (u : UnitTree) (at : ℕ) (bytes : List ℕ) → padded s g origin u at bytes → contents s g origin u at bytes
contents_made s g h fits origin u at bytes p =
    let i = p.1 in
    let z = i.3 in
    let n = i.2 in
    let j = n.1 in
    let tail : bytes ≡ (j.0 ++ j.1) ++ z.0 = i.4 ∙ ap (λ (r : List ℕ). r ++ i.1) j.4 ∙ ap (λ (r : List ℕ). (j.0 ++ j.1) ++ r) z.2.1 in
    let made = version_parts s g h fits origin n.0 (g.versions n.0) refl p.0 at j.0 j.1 z.0 bytes j.2 j.3 z.2.0 tail in
    subst (λ (w : UnitTree). contents s g origin w at bytes) z.1 (contents_from s g origin p.0 at bytes made)

-- the parts are read
padded_from : (s : SectionBytes5) (g : Grammars) → AreExact g → (u : UnitTree) (at : ℕ) (bytes : List ℕ) → Parts s g u.at u at bytes → padded s g u.at u at bytes
padded_from s g h u at bytes p =
    let e = h u.version p.v p.is in
    let read : read_at p.v.shapes s.base.abbreviations p.offset ≡ Some p.table = stands_read (g.shapes u.version) p.v.shapes e.shapes_exact s.base.abbreviations p.offset p.table p.stands in
    let o : ℕ = (at + length p.first) + length p.second in
    let entries : tabled s u.at u.version p.v (Some p.table) u o p.third = (u.entries, refl, (p.bare, p.full, p.entries, p.trees)) in
    let there : tabled s u.at u.version p.v (read_at p.v.shapes s.base.abbreviations p.offset) u o p.third =
    subst (λ (x : Option (List Shape)). tabled s u.at u.version p.v x u o p.third) (sym read) entries in
    let header : headed s (g.header u.version) u.at u.version p.v u (at + length p.first) (p.second ++ p.third) = (p.offset, (p.second, p.third, p.header_is, there, refl)) in
    let version : versioned s g u.at u.version (g.versions u.version) u (at + length p.first) (p.second ++ p.third) =
    subst (λ (x : Option Version). versioned s g u.at u.version x u (at + length p.first) (p.second ++ p.third)) (sym p.is) header in
    let turn : p.second ++ (p.third ++ p.fourth) ≡ (p.second ++ p.third) ++ p.fourth = sym (append_assoc p.second p.third p.fourth) in
    let all : bytes ≡ (p.first ++ (p.second ++ p.third)) ++ p.fourth =
    p.parts ∙ ap (λ (r : List ℕ). p.first ++ r) turn ∙ sym (append_assoc p.first (p.second ++ p.third) p.fourth) in
    (u, (p.first ++ (p.second ++ p.third), p.fourth, (u.version, (p.first, p.second ++ p.third, p.version_is, version, refl)), (p.fourth, refl, (p.padding, refl)), all))

contents_parts : (s : SectionBytes5) (g : Grammars) → AreExact g → (origin : ℕ) (u : UnitTree) (at : ℕ) (bytes : List ℕ) → contents s g origin u at bytes → padded s g origin u at bytes
contents_parts s g h origin u at bytes c =
    let same : u.at ≡ origin = c.2 in
    let own : contents s g u.at u at bytes = (c.0, c.1, refl, c.3) in
    subst (λ (o : ℕ). padded s g o u at bytes) same (padded_from s g h u at bytes (parts_from s g u.at u at bytes own))

-- What is left behind the length of a unit at that offset is read as that unit exactly where it spells it.
pub unit_tail : (s : SectionBytes5) (g : Grammars) → AreExact g → IsBytes s.base.abbreviations → (origin : ℕ) → IsTail (contents s g origin) (whole_unit s g.versions origin)
unit_tail s g h fits origin = same_tail (padded s g origin) (contents s g origin) (whole_unit s g.versions origin)
    (contents_made s g h fits origin) (contents_parts s g h origin) (padded_tail s g h origin)
