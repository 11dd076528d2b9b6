-- The frame of a section, by the offsets of its parts.
use Rattle.std.proofs.Common.{◌≡◌, ℕ, ◌+◌, ◌-◌, ◌≤◌, ◌<◌, ◌↔◌, true, List, [], ◌∷◌, ◌++◌, length, take, drop, Some, None, Ok, Err, refl, sym, ap, subst, ◌∙◌, inl, inr, append_assoc, arith, length-append, length-drop}
use Rattle.std.specs.List.{slice_range}
use Rattle.std.proofs.lemmas.Bool.{leb-true, le-leb}
use Rattle.std.proofs.lemmas.List.{take_at, take-append-drop, length-take}
use Rattle.std.proofs.lemmas.List.Folds.{drop_split}
use Rattle.std.proofs.Math.Seq.{drop-append_seam}
use Rattle.wasm_leb.specs.calls.Numbers.{IsUnsigned}
use Rattle.wasm_bytes.specs.declared.sections.SectionFrame.{SectionFrame}
use Rattle.wasm_bytes.specs.Place.{Place, Read}
use Rattle.wasm_bytes.specs.Reading.{◌>>=◌, one_of_item, block_item, value_of}
use Rattle.wasm_bytes.specs.calls.Spelling.{byte, one_of}
use Rattle.wasm_bytes.specs.Laws.{IsBytes, place, got, failed}
use Rattle.wasm_bytes.specs.calls.Sections.{is_section_id, frame_of, section_frame_item, section_of, IsIdAt, IsSizeAt, IsSectionAt, NoSectionAt}
use Rattle.wasm_bytes.proofs.Places.{IsBytes-rest, byte_here, got_is, bind_ok}
use Rattle.wasm_bytes.proofs.Exact.{first_took}
use Rattle.wasm_bytes.proofs.ExactItems.{one_of_exact}
use Rattle.wasm_bytes.proofs.ExactBlocks.{block_sound, block_again}
use Rattle.wasm_bytes.proofs.Stops.{first_fails, one_of_stops_at}
use Rattle.wasm_bytes.proofs.StopsBlocks.{block_stops_at}

-- ---- the id

id_here : (before rest : List ℕ) (id : ℕ) → id ≤ 11 → IsIdAt (before ++ id ∷ rest) (length before) id
id_here before rest id le = (byte_here before (id ∷ rest), le)

id_parts : (before after : List ℕ) (id : ℕ) → IsIdAt (before ++ after) (length before) id → (rest : List ℕ) × (after ≡ id ∷ rest)
id_parts before [] id is = let none : None ≡ Some id = sym (byte_here before []) ∙ is.0 in absurd cc
id_parts before (b ∷ bs) id is = let same : Some b ≡ Some id = sym (byte_here before (b ∷ bs)) ∙ is.0 in (bs, (let e : b ≡ id = cc in ap (λ (t : ℕ). t ∷ bs) e))

-- ---- the size and the contents

pub range_of : (before front rest : List ℕ) (n : ℕ) → n ≡ length before + length front → slice_range (before ++ (front ++ rest)) (length before) n ≡ front
range_of before front rest n e =
    let size : n - length before ≡ length front = omega (arith, e) in
    rw (size, drop-append_seam before (front ++ rest)) (take_at front rest (length front) refl)

size_not_empty : (size : List ℕ) (n : ℕ) → IsUnsigned 32 size n → 0 < length size
size_not_empty [] n s = absurd s
size_not_empty (b ∷ bs) n s = omega arith

size_here : (before size contents rest : List ℕ) (from to : ℕ) → IsUnsigned 32 size (length contents) → from ≡ length before + length size → to ≡ from + length contents → IsSizeAt (before ++ (size ++ (contents ++ rest))) (length before) from to
size_here before size contents rest from to is e f =
    let len : to - from ≡ length contents = omega (arith, f) in
    let inside : to ≤ length (before ++ (size ++ (contents ++ rest))) = omega (arith, e, f, length-append before (size ++ (contents ++ rest)), length-append size (contents ++ rest), length-append contents rest) in
    let some = size_not_empty size (length contents) is in
    (omega (arith, e, some), omega (arith, f), inside, rw (range_of before size (contents ++ rest) from e, len) is)

-- what a size stands before
record Sized (before after : List ℕ) (from to : ℕ) : Type 0 where
  pub size : List ℕ
  pub contents : List ℕ
  pub rest : List ℕ
  pub parts : after ≡ size ++ (contents ++ rest)
  pub is : IsUnsigned 32 size (length contents)
  pub begins : from ≡ length before + length size
  pub ends : to ≡ from + length contents

size_parts : (before after : List ℕ) (from to : ℕ) → IsSizeAt (before ++ after) (length before) from to → Sized before after from to
size_parts before after from to s =
    let bytes = before ++ after in
    let at = length before in
    let contents = slice_range bytes from to in
    let len : length contents ≡ to - from = omega (arith, length-take (to - from) (drop from bytes), length-drop from bytes, s.1, s.2) in
    let size_len : length (slice_range bytes at from) ≡ from - at = omega (arith, length-take (from - at) (drop at bytes), length-drop at bytes, s.0, s.1, s.2) in
    record {
      size = slice_range bytes at from;
      contents = contents;
      rest = drop to bytes;
      parts = sym (drop-append_seam before after) ∙ drop_split bytes at from (omega (arith, s.0)) ∙ ap (λ (t : List ℕ). slice_range bytes at from ++ t) (drop_split bytes from to s.1);
      is = rw len s.3;
      begins = omega (arith, size_len, s.0);
      ends = omega (arith, len, s.1);
    }

-- ---- the section

-- the frame of a section whose parts are these
abbrev frame_with : (before size contents : List ℕ) → ℕ → SectionFrame
frame_with before size contents id = record { id = id; at = length before + 1 + length size; «end» = length before + 1 + length size + length contents }

section_here : (before size contents rest : List ℕ) (id : ℕ) → id ≤ 11 → IsUnsigned 32 size (length contents) → IsSectionAt (before ++ id ∷ (size ++ (contents ++ rest))) (length before) (frame_with before size contents id)
section_here before size contents rest id small is =
    let start : length (before ++ id ∷ []) ≡ length before + 1 = length-append before (id ∷ []) in
    let from = length before + 1 + length size in
    let to = from + length contents in
    let here = size_here (before ++ id ∷ []) size contents rest from to is (omega (arith, start)) refl in
    let moved = subst (λ (t : List ℕ). IsSizeAt t (length (before ++ id ∷ [])) from to) (append_assoc before (id ∷ []) (size ++ (contents ++ rest))) here in
    (id_here before (size ++ (contents ++ rest)) id small, subst (λ (n : ℕ). IsSizeAt (before ++ id ∷ (size ++ (contents ++ rest))) n from to) start moved)

-- what the block behind an id is, where its place is known
block_frame : (before front size contents : List ℕ) (id : ℕ) (inner outer : Place) → front ≡ id ∷ [] → inner ≡ place ((before ++ front) ++ size) contents → (frame_of id (inner, outer)).0 ≡ frame_with before size contents id
block_frame before front size contents id inner outer byte is =
    let at : length ((before ++ front) ++ size) ≡ length before + 1 + length size = omega (arith, length-append (before ++ front) size, length-append before front, ap length byte) in
    let end : length (((before ++ front) ++ size) ++ contents) ≡ length before + 1 + length size + length contents = omega (arith, at, length-append ((before ++ front) ++ size) contents) in
    rw (is, end, at) refl

found_parts : (before after front behind size contents rest : List ℕ) (id : ℕ) (s : SectionFrame) (inner outer q : Place) → (is_section_id id ≡ true) × (front ≡ id ∷ []) → after ≡ front ++ behind → behind ≡ size ++ (contents ++ rest)
    → IsUnsigned 32 size (length contents) → inner ≡ place ((before ++ front) ++ size) contents → got (frame_of id (inner, outer)).0 outer ≡ got s q → IsSectionAt (before ++ after) (length before) s
found_parts before after front behind size contents rest id s inner outer q first e f is at read =
    let frame = sym (block_frame before front size contents id inner outer first.1 at) ∙ (got_is (frame_of id (inner, outer)).0 s outer q read).0 in
    let bytes : after ≡ id ∷ (size ++ (contents ++ rest)) = e ∙ ap (λ (t : List ℕ). t ++ behind) first.1 ∙ ap (λ (t : List ℕ). id ∷ t) f in
    let here = section_here before size contents rest id (leb-true id 11 first.0) is in
    subst (λ (t : List ℕ). IsSectionAt (before ++ t) (length before) s) (sym bytes) (subst (λ (w : SectionFrame). IsSectionAt (before ++ id ∷ (size ++ (contents ++ rest))) (length before) w) frame here)

found : (before after : List ℕ) (s : SectionFrame) (q : Place) → IsBytes after → section_frame_item (place before after) ≡ got s q → IsSectionAt (before ++ after) (length before) s
unfolding section_frame_item
found before after s q fits read =
    let a = first_took (one_of is_section_id) (one_of_item is_section_id) (one_of_exact is_section_id) before after (λ id. block_item id.1 >>= λ block. Ok (frame_of id.0 block)) s q fits read in
    let b = bind_ok (block_item (place (before ++ a.1) a.2)) (λ block. Ok (frame_of a.0 block)) s q a.6 in
    let o = block_sound (before ++ a.1) a.2 b.0 b.1 a.5 b.2 in
    found_parts before after a.1 a.2 o.size o.contents o.rest a.0 s b.0 b.1 q a.3 a.4 o.parts o.is o.front b.3

read : (before after : List ℕ) (s : SectionFrame) → IsSectionAt (before ++ after) (length before) s → value_of (section_frame_item (place before after)) ≡ Ok s
unfolding section_frame_item
read before after s is =
    let id = id_parts before after s.id is.0 in
    let all : before ++ after ≡ (before ++ s.id ∷ []) ++ id.0 = ap (λ (t : List ℕ). before ++ t) id.1 ∙ sym (append_assoc before (s.id ∷ []) id.0) in
    let start : length before + 1 ≡ length (before ++ s.id ∷ []) = sym (length-append before (s.id ∷ [])) in
    let moved = subst (λ (t : List ℕ). IsSizeAt t (length before + 1) s.at s.«end») all is.1 in
    let z = size_parts (before ++ s.id ∷ []) id.0 s.at s.«end» (subst (λ (n : ℕ). IsSizeAt ((before ++ s.id ∷ []) ++ id.0) n s.at s.«end») start moved) in
    let one = (one_of_exact is_section_id).again before (s.id ∷ []) id.0 s.id (le-leb s.id 11 is.0.1, refl) in
    let two = block_again (before ++ s.id ∷ []) z.size z.contents z.rest z.is in
    let at : length ((before ++ s.id ∷ []) ++ z.size) ≡ s.at = length-append (before ++ s.id ∷ []) z.size ∙ sym z.begins in
    let «end» : length (((before ++ s.id ∷ []) ++ z.size) ++ z.contents) ≡ s.«end» = length-append ((before ++ s.id ∷ []) ++ z.size) z.contents ∙ ap (λ (n : ℕ). n + length z.contents) at ∙ sym z.ends in
    rw (id.1, one, z.parts, two, «end», at) refl

-- ---- no section

stopped : (before after : List ℕ) (o : ℕ) → IsBytes after → section_frame_item (place before after) ≡ failed o → NoSectionAt (before ++ after) (length before) o
unfolding section_frame_item
stopped before after o fits read = elim (first_fails (one_of is_section_id) (one_of_item is_section_id) (one_of_exact is_section_id) before after (λ id. block_item id.1 >>= λ block. Ok (frame_of id.0 block)) o fits read) [
  | inl r ↦
      let n = (one_of_stops_at is_section_id).only before after o fits r in
      inl (n.0, λ id is. let p = id_parts before after id is in n.1 id (id ∷ []) p.0 (le-leb id 11 is.1, refl) p.1)
  | inr r ↦ inr (no_size before after r.1 r.2 r.0 o r.3.0 r.3.1 r.4 r.5 (block_fails (block_item (place (before ++ r.1) r.2)) r.0 o r.6))
] where
  block_fails : (b : Read Place) (id o : ℕ) → (b >>= λ block. Ok (frame_of id block)) ≡ failed o → b ≡ failed o
  block_fails (Ok x) id o e = absurd cc
  block_fails (Err u) id o e = let same : u ≡ o = cc in ap failed same

  no_size : (before after front rest : List ℕ) (id o : ℕ) → is_section_id id ≡ true → front ≡ id ∷ [] → after ≡ front ++ rest → IsBytes rest → block_item (place (before ++ front) rest) ≡ failed o
      → (o ≡ length before + 1) × (id : ℕ) × IsIdAt (before ++ after) (length before) id × ((from to : ℕ) → IsSizeAt (before ++ after) (length before + 1) from to → ⊥)
  no_size before after front rest id o small byte parts fits fails =
      let n = block_stops_at.only (before ++ front) rest o fits fails in
      let start : length (before ++ front) ≡ length before + 1 = length-append before front ∙ ap (λ (t : List ℕ). length before + length t) byte in
      let all : before ++ after ≡ (before ++ front) ++ rest = ap (λ (t : List ℕ). before ++ t) parts ∙ sym (append_assoc before front rest) in
      let here : after ≡ id ∷ rest = parts ∙ ap (λ (t : List ℕ). t ++ rest) byte in (
        n.0 ∙ start,
        id,
        subst (λ (t : List ℕ). IsIdAt (before ++ t) (length before) id) (sym here) (id_here before rest id (leb-true id 11 small)),
        λ from to s.
            let moved = subst (λ (t : List ℕ). IsSizeAt t (length before + 1) from to) all s in
            let z = size_parts (before ++ front) rest from to (subst (λ (k : ℕ). IsSizeAt ((before ++ front) ++ rest) k from to) (sym start) moved) in
            n.1 z.size z.contents z.rest z.is z.parts,
      )

stops : (before after : List ℕ) (o : ℕ) → IsBytes after → NoSectionAt (before ++ after) (length before) o → value_of (section_frame_item (place before after)) ≡ Err o
unfolding section_frame_item
stops before after o fits none = elim none [
  | inl n ↦
      let fails = (one_of_stops_at is_section_id).again before after o fits (n.0, λ id front rest is parts. n.1 id (subst (λ (t : List ℕ). IsIdAt (before ++ t) (length before) id) (sym (parts ∙ ap (λ (t : List ℕ). t ++ rest) is.1)) (id_here before rest id (leb-true id 11 is.0)))) in
      rw fails refl
  | inr n ↦
      let id = id_parts before after n.1 n.2 in
      let bytes : IsBytes id.0 = IsBytes-rest (n.1 ∷ []) id.0 (subst IsBytes id.1 fits) in
      let start : length (before ++ n.1 ∷ []) ≡ length before + 1 = length-append before (n.1 ∷ []) in
      let all : before ++ after ≡ (before ++ n.1 ∷ []) ++ id.0 = ap (λ (t : List ℕ). before ++ t) id.1 ∙ sym (append_assoc before (n.1 ∷ []) id.0) in
      let one = (one_of_exact is_section_id).again before (n.1 ∷ []) id.0 n.1 (le-leb n.1 11 n.2.1, refl) in
      let fails = block_stops_at.again (before ++ n.1 ∷ []) id.0 o bytes (
        n.0 ∙ sym start,
        λ size inner rest s parts.
            let from = length (before ++ n.1 ∷ []) + length size in
            let to = from + length inner in
            let z = size_here (before ++ n.1 ∷ []) size inner rest from to s refl refl in
            let here = subst (λ (t : List ℕ). IsSizeAt ((before ++ n.1 ∷ []) ++ t) (length (before ++ n.1 ∷ [])) from to) (sym parts) z in
            let moved = subst (λ (k : ℕ). IsSizeAt ((before ++ n.1 ∷ []) ++ id.0) k from to) start here in
            n.3 from to (subst (λ (t : List ℕ). IsSizeAt t (length before + 1) from to) (sym all) moved),
      ) in
      rw (id.1, one, fails) refl
]

-- ---- at an offset of an input

-- what holds between any bytes before and behind holds at each offset
pub each_offset : (P : List ℕ → ℕ → Type 0) → ((before after : List ℕ) → P (before ++ after) (length before)) → (bytes : List ℕ) (at : ℕ) → at ≤ length bytes → P bytes at
each_offset P h bytes at inside =
    let len : length (take at bytes) ≡ at = omega (arith, length-take at bytes) in
    subst (λ (n : ℕ). P bytes n) len (subst (λ (t : List ℕ). P t (length (take at bytes))) (take-append-drop at bytes) (h (take at bytes) (drop at bytes)))

value_ok : (r : Read SectionFrame) (s : SectionFrame) → value_of r ≡ Ok s → (q : Place) × (r ≡ got s q)
value_ok (Ok y) s e = let same : y.0 ≡ s = cc in (y.1, ap (λ (z : SectionFrame). got z y.1) same)
value_ok (Err o) s e = absurd cc

value_err : (r : Read SectionFrame) (o : ℕ) → value_of r ≡ Err o → r ≡ failed o
value_err (Ok y) o e = absurd cc
value_err (Err u) o e = let same : u ≡ o = cc in ap failed same

pub section_found : (bytes : List ℕ) (at : ℕ) → at ≤ length bytes → IsBytes bytes → (s : SectionFrame) → (section_of bytes at ≡ Ok s) ↔ IsSectionAt bytes at s
unfolding section_of
section_found = each_offset (λ bytes at. IsBytes bytes → (s : SectionFrame) → (value_of (section_frame_item (record { block = bytes; at = at })) ≡ Ok s) ↔ IsSectionAt bytes at s)
    (λ before after fits s. (λ e. let v = value_ok (section_frame_item (place before after)) s e in found before after s v.0 (IsBytes-rest before after fits) v.1, λ is. read before after s is))

pub section_stopped : (bytes : List ℕ) (at : ℕ) → at ≤ length bytes → IsBytes bytes → (o : ℕ) → (section_of bytes at ≡ Err o) ↔ NoSectionAt bytes at o
unfolding section_of
section_stopped = each_offset (λ bytes at. IsBytes bytes → (o : ℕ) → (value_of (section_frame_item (record { block = bytes; at = at })) ≡ Err o) ↔ NoSectionAt bytes at o)
    (λ before after fits o. (λ e. stopped before after o (IsBytes-rest before after fits) (value_err (section_frame_item (place before after)) o e), λ none. stops before after o (IsBytes-rest before after fits) none))
