-- Reading a block stops at its size, at an item in it, or at the first byte left over.
use Rattle.std.proofs.Common.{◌≡◌, ℕ, ◌+◌, ◌-◌, ◌<◌, Bool, eqb, leb, List, [], ◌∷◌, ◌++◌, length, Ok, Err, refl, sym, ap, subst, ◌∙◌, inl, inr, arith, length-append}
use Rattle.wasm_bytes.specs.Place.{Place, Read}
use Rattle.wasm_bytes.specs.Reading.{◌>>=◌, ◌⊗◌, mapped, u32_item, if_inside, block_item, end_item, rest_item, complete, if_complete, closed, within, value_of, whole, fixed_item, named_item, section_item}
use Rattle.wasm_bytes.specs.calls.Spelling.{always, byte}
use Rattle.wasm_bytes.specs.calls.Stopping.{never, unread, either, incomplete, left_over, closed_stops, no_block, sized_stops, section_stops}
use Rattle.wasm_bytes.specs.Laws.{IsBytes, place, got, failed, IsExact, IsTail, StopsAt, FailsAtFront}
use Rattle.wasm_bytes.proofs.Places.{IsBytes-rest, IsBytes-front, bind_err, reading}
use Rattle.wasm_bytes.proofs.ExactItems.{fixed_exact}
use Rattle.wasm_bytes.proofs.ExactBlocks.{end_ok, end_here, none_left, block_sound, block_again}
use Rattle.wasm_bytes.proofs.Stops.{u32_front, made_err, fixed_stops_at, leads_stops_at, then_stops_at, mapped_stops_at}
use Rattle.wasm_leb.proofs.Tools.{chosen}

-- ---- the end of a block

end_front : FailsAtFront end_item
unfolding end_item
end_front p o e = elim (chosen (eqb p.at (length p.block)) _ _ (failed o) e) [
  | inl c ↦ absurd cc
  | inr c ↦ cc
]

some_left : (before after : List ℕ) (o : ℕ) → end_item (place before after) ≡ failed o → 0 < length after
some_left before [] o e = let none : got tt (place before []) ≡ failed o = sym (end_here before) ∙ e in absurd cc
some_left before (b ∷ bs) o e = omega arith

pub end_stops_at : StopsAt left_over end_item
end_stops_at = record {
  only = λ before after o fits read. (end_front (place before after) o read, some_left before after o read);
  again = λ before after o fits stops. elim (reading (end_item (place before after))) [
    | inl r ↦
        let none = none_left before after (end_ok (place before after) r.1 r.0 r.2).0 in
        absurd (let some : 0 < length after = stops.1 in omega (arith, some, ap length none))
    | inr r ↦ r.1 ∙ ap failed (end_front (place before after) r.0 r.1 ∙ sym stops.0)
  ];
}

pub closed_stops_at : {A : Type 0} (S : A → ℕ → List ℕ → Type 0) (s : ℕ → List ℕ → ℕ → Type 0) (f : Place → Read A) → IsExact S f → StopsAt s f → StopsAt (closed_stops S s) (closed f)
closed_stops_at {A} S s f e h = leads_stops_at S s (λ x. left_over) f (λ x. mapped (λ u. x) end_item) e h (λ x. mapped_stops_at (λ u. x) left_over end_item end_stops_at)

-- What goes on to the end has nothing left over.
pub closed_tail_stops_at : {A : Type 0} (S : A → ℕ → List ℕ → Type 0) (s : ℕ → List ℕ → ℕ → Type 0) (f : Place → Read A) → IsTail S f → StopsAt s f → StopsAt s (closed f)
closed_tail_stops_at S s f e h = record {
  only = λ before after o fits read. elim (bind_err (f (place before after)) (λ x. end_item x.1 >>= λ u. Ok (x.0, u.1)) o read) [
    | inl r ↦ h.only before after o fits r
    | inr r ↦
        let t = e.sound before after r.0 r.1 fits r.2 in
        let end : end_item r.1 ≡ got tt (place (before ++ after) []) = ap end_item t.1 ∙ end_here (before ++ after) in
        let ends : end_item r.1 ≡ failed o = made_err (λ u. r.0) (end_item r.1) o r.3 in
        let both : got tt (place (before ++ after) []) ≡ failed o = sym end ∙ ends in
        absurd cc
  ];
  again = λ before after o fits stops. rw (h.again before after o fits stops) refl;
}

-- What goes on to the end can lack something there.
pub complete_stops_at : {A : Type 0} (test : A → Bool) (S : A → ℕ → List ℕ → Type 0) (s : ℕ → List ℕ → ℕ → Type 0) (f : Place → Read A) → IsTail S f → StopsAt s f → StopsAt (either s (incomplete test S)) (complete test f)
complete_stops_at test S s f e h = record {
  only = λ before after o fits read. elim (bind_err (f (place before after)) (if_complete test) o read) [
    | inl r ↦ inl (h.only before after o fits r)
    | inr r ↦ elim (chosen (test r.0) _ _ (failed o) r.3) [
      | inl c ↦ absurd cc
      | inr c ↦
          let t = e.sound before after r.0 r.1 fits r.2 in
          let at : r.1.at ≡ o = cc in
          let end : o ≡ length before + length after = sym at ∙ ap (λ (p : Place). p.at) t.1 ∙ length-append before after in
          inr (end, r.0, t.0, c.0)
    ]
  ];
  again = λ before after o fits stops. elim stops [
    | inl n ↦ rw (h.again before after o fits n) refl
    | inr n ↦
        let one = e.again before after n.1 n.2 in
        rw (one, n.3) (ap failed (length-append before after ∙ sym n.0))
  ];
}

pub rest_stops_at : StopsAt never rest_item
unfolding rest_item
rest_stops_at = record { only = λ before after o fits read. absurd cc; again = λ before after o fits stops. absurd stops }

-- ---- a block

block_front : FailsAtFront block_item
unfolding block_item
block_front p o e = elim (bind_err (u32_item p) (if_inside p.at) o e) [
  | inl r ↦ u32_front p o r
  | inr r ↦ elim (chosen (leb r.0 (length r.1.block - r.1.at)) _ _ (failed o) r.3) [
    | inl c ↦ absurd cc
    | inr c ↦ cc
  ]
]

pub block_stops_at : StopsAt no_block block_item
block_stops_at = record {
  only = λ before after o fits read. (
    block_front (place before after) o read,
    λ size inner rest s parts.
        let ok = ap (λ (t : List ℕ). block_item (place before t)) parts ∙ block_again before size inner rest s in
        let both : failed o ≡ got (place (before ++ size) inner) (place (before ++ (size ++ inner)) rest) = sym read ∙ ok in
        cc,
  );
  again = λ before after o fits stops. elim (reading (block_item (place before after))) [
    | inl r ↦ let t = block_sound before after r.0 r.1 fits r.2 in absurd (stops.1 t.size t.contents t.rest t.is t.parts)
    | inr r ↦ r.1 ∙ ap failed (block_front (place before after) r.0 r.1 ∙ sym stops.0)
  ];
}

pub within_stops_at : {A : Type 0} (s : ℕ → List ℕ → ℕ → Type 0) (f : Place → Read A) → StopsAt s (closed f) → StopsAt (sized_stops s) (within f)
within_stops_at {A} s f h = record {
  only = λ before after o fits read. elim (bind_err (block_item (place before after)) (λ b. closed f b.0 >>= λ x. Ok (x.0, b.1)) o read) [
    | inl r ↦ inl (block_stops_at.only before after o fits r)
    | inr r ↦
        let t = block_sound before after r.0 r.1 fits r.2 in
        let inside : closed f r.0 ≡ failed o = stopped (closed f r.0) r.1 o r.3 in
        let stops = h.only (before ++ t.size) t.contents o (IsBytes-front t.contents t.rest t.bytes) (ap (closed f) (sym t.front) ∙ inside) in
        inr (t.size, t.contents, t.rest, t.is, t.parts, subst (λ (n : ℕ). s n t.contents o) (length-append before t.size) stops)
  ];
  again = λ before after o fits stops. elim stops [
    | inl n ↦ rw (block_stops_at.again before after o fits n) refl
    | inr i ↦
        let one = block_again before i.0 i.1 i.2 i.3 in
        let bytes : IsBytes i.1 = IsBytes-front i.1 i.2 (IsBytes-rest i.0 (i.1 ++ i.2) (subst IsBytes i.4 fits)) in
        let here = subst (λ (n : ℕ). s n i.1 o) (sym (length-append before i.0)) i.5 in
        let two = h.again (before ++ i.0) i.1 o bytes here in
        rw (i.4, one, two) refl
  ];
} where
  stopped : (r : Read A) (outer : Place) (o : ℕ) → (r >>= λ x. Ok (x.0, outer)) ≡ failed o → r ≡ failed o
  stopped (Ok x) outer o e = absurd cc
  stopped (Err u) outer o e = let same : u ≡ o = cc in ap failed same

-- a custom section of a name, of whose name and contents it is known where they stop
pub section_stops_at : {A : Type 0} (title : List ℕ) (s : ℕ → List ℕ → ℕ → Type 0) (f : Place → Read A) → StopsAt s (closed (mapped (λ x. x.1) (named_item title ⊗ f))) → StopsAt (section_stops s) (section_item title f)
unfolding section_item
section_stops_at title s f h =
    mapped_stops_at (λ x. x.1) (section_stops s) (fixed_item 0x00 ⊗ within (mapped (λ x. x.1) (named_item title ⊗ f)))
    (then_stops_at (always (byte 0x00)) (unread (always (byte 0x00))) (sized_stops s) (fixed_item 0x00) (within (mapped (λ x. x.1) (named_item title ⊗ f))) (fixed_exact 0x00) (fixed_stops_at 0x00)
    (within_stops_at s (mapped (λ x. x.1) (named_item title ⊗ f)) h))

-- ---- a whole input

value_err : {A : Type 0} (r : Read A) (o : ℕ) → value_of r ≡ Err o → r ≡ failed o
value_err (Ok x) o e = absurd cc
value_err (Err u) o e = let same : u ≡ o = cc in ap failed same

pub whole_stops : {A : Type 0} (s : ℕ → List ℕ → ℕ → Type 0) (f : Place → Read A) → StopsAt s (closed f) → (bytes : List ℕ) (o : ℕ) → IsBytes bytes → whole f bytes ≡ Err o → s 0 bytes o
whole_stops s f h bytes o fits read = h.only [] bytes o fits (value_err (closed f (place [] bytes)) o read)

pub whole_stopped : {A : Type 0} (s : ℕ → List ℕ → ℕ → Type 0) (f : Place → Read A) → StopsAt s (closed f) → (bytes : List ℕ) (o : ℕ) → IsBytes bytes → s 0 bytes o → whole f bytes ≡ Err o
whole_stopped s f h bytes o fits stops = rw (h.again [] bytes o fits stops) refl
