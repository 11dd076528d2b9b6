-- What stands at the front of a block is read exactly as it is spelled.
use Rattle.std.proofs.Common.{◌≡◌, ℕ, ◌+◌, List, ◌++◌, length, Ok, refl, sym, ap, subst, ◌∙◌, append_assoc, length-append}
use Rattle.wasm_bytes.specs.Place.{Place, Read}
use Rattle.wasm_bytes.specs.Reading.{◌>>=◌}
use Rattle.wasm_bytes.specs.calls.Spelling.{◌&◌, any}
use Rattle.wasm_bytes.specs.Laws.{place, got, Took, IsExact}
use Rattle.wasm_bytes.proofs.Places.{IsBytes-rest, IsBytes-front, bind_ok, took_is}
use Rattle.dwarf_bytes.specs.Items.{block_by}
use Rattle.dwarf_bytes.specs.calls.Spelled.{sized_by}
use Rattle.dwarf_bytes.proofs.Exact.{block_sound, block_again}

-- a block, and what stands at its front; what stands behind that is passed over
pub front_block_exact : {A : Type 0} (S : ℕ → ℕ → List ℕ → Type 0) (f : Place → Read ℕ) → IsExact S f → (T : A → ℕ → List ℕ → Type 0) (g : Place → Read A) → IsExact T g
    → IsExact (λ x. sized_by S (λ n. T x & any)) (λ p. block_by f p >>= λ b. g b.0 >>= λ x. Ok (x.0, b.1))
front_block_exact {A} S f h T g e = record {
  sound = λ before after x q fits read.
      let a = bind_ok (block_by f (place before after)) (λ b. g b.0 >>= λ x. Ok (x.0, b.1)) x q read in
      let o = block_sound S f h before after a.0 a.1 fits a.2 in
      let b = bind_ok (g a.0) (λ y. got y.0 a.1) x q a.3 in
      let at_front : g (place (before ++ o.size) o.contents) ≡ got b.0 b.1 = subst (λ (p : Place). g p ≡ got b.0 b.1) o.front b.2 in
      let t = e.sound (before ++ o.size) o.contents b.0 b.1 (IsBytes-front o.contents o.rest o.bytes) at_front in
      let is : T b.0 (length before + length o.size) t.front = subst (λ (n : ℕ). T b.0 n t.front) (length-append before o.size) t.is in
      let all : Took (λ y. sized_by S (λ n. T y & any)) before after b.0 a.1 = record {
        front = o.size ++ o.contents;
        rest = o.rest;
        is = (o.size, o.contents, o.is, (t.front, t.rest, is, tt, t.parts), refl);
        parts = o.parts ∙ sym (append_assoc o.size o.contents o.rest);
        behind = o.behind;
        bytes = IsBytes-rest o.contents o.rest o.bytes;
      } in
      took_is (λ y. sized_by S (λ n. T y & any)) before after b.0 x a.1 q b.3 all;
  again = λ before front rest x s.
      let one = block_again S f h before s.0 s.1 rest s.2 in
      let i = s.3 in
      let here : T x (length (before ++ s.0)) i.0 = subst (λ (n : ℕ). T x n i.0) (sym (length-append before s.0)) i.2 in
      let two : g (place (before ++ s.0) s.1) ≡ got x (place ((before ++ s.0) ++ i.0) i.1) = ap (λ (t : List ℕ). g (place (before ++ s.0) t)) i.4 ∙ e.again (before ++ s.0) i.0 i.1 x here in
      rw (s.4, append_assoc s.0 s.1 rest, one, two) refl;
}
