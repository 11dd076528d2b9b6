-- What is spelled is sized.
use Rattle.std.proofs.Common.{◌≡◌, ℕ, zero, suc, ◌+◌, ◌≤◌, List, length, Ok, refl, sym, ap, subst, ◌∙◌, inl, inr, arith, length-append}
use Rattle.wasm_leb.specs.Writing.{unsigned_bytes}
use Rattle.wasm_syntax.specs.declared.quantity.Quantity.TheVariants.{ModuleBytes}
use Rattle.wasm_syntax.specs.declared.module.ModuleParts.{ModuleParts}
use Rattle.wasm_syntax.specs.Quantity.{greatest}
use Rattle.wasm_bytes.specs.Laws.{IsBytes}
use Rattle.wasm_bytes.specs.calls.Spelling.{steps}
use Rattle.wasm_format.proofs.Shortest.{number_least}
use Rattle.wasm_format.specs.declared.module.SpelledModule.{SpelledModule}
use Rattle.wasm_format.specs.Sections.{measured, no_parts, no_sections, with_custom}
use Rattle.wasm_format.specs.calls.Grammar.{section_entry, module_file}
use Rattle.wasm_decode.specs.Decode.{module_of, module_from}
use Rattle.wasm_decode.specs.calls.Meaning.{IsModuleOf}
use Rattle.wasm_decode.proofs.Meanings.{found_exactly}
use Rattle.wasm_encode.specs.Encoding.{encoding}
use Rattle.wasm_format_laws.specs.calls.Sized.{CodeSized, code_length, Sized}
use Rattle.wasm_format_laws.proofs.Sections.{Adds, lengths, contents_add}

-- ---- sections

-- One state of reading comes behind another one, by sections of so many bytes: the length without custom sections grows by at
-- most these, and by no less than what is written of them and what their instructions take up.
record Grows (s t : SpelledModule) (n : ℕ) : Type 0 where
  pub plain : t.parts.plain_bytes ≤ s.parts.plain_bytes + n
  pub written : length (encoding (module_of t)) + s.parts.plain_bytes ≤ length (encoding (module_of s)) + t.parts.plain_bytes
  pub each : CodeSized (module_of s) → CodeSized (module_of t)
  pub code : code_length (module_of t) + s.parts.plain_bytes ≤ code_length (module_of s) + t.parts.plain_bytes

grows_none : (s : SpelledModule) → Grows s s 0
grows_none s = record { plain = omega arith; written = omega arith; each = λ e. e; code = omega arith }

grows_more : (s t u : SpelledModule) (m n : ℕ) → Grows s t m → Grows t u n → Grows s u (m + n)
grows_more s t u m n g h = record {
  plain = omega (arith, g.plain, h.plain);
  written = omega (arith, g.written, h.written);
  each = λ e. h.each (g.each e);
  code = omega (arith, g.code, h.code);
}

-- a custom section
custom_grows : (s : SpelledModule) (x : List ℕ × (ℕ × List ℕ)) (n : ℕ) → Grows s (with_custom s x) n
unfolding module_of
custom_grows s x n = record {
  plain = omega arith;
  written = omega (arith, lengths (module_of s), lengths (module_of (with_custom s x)));
  each = λ e. record { globals = e.globals; elements = e.elements; bodies = e.bodies; segments = e.segments };
  code = omega arith;
}

-- any other one, with its id and its size
measured_grows : (s t : SpelledModule) (from to n k : ℕ) → Adds s t n → length (unsigned_bytes n) ≤ k → to ≡ from + (1 + (k + n)) → Grows s (measured from (t, to)) (1 + (k + n))
unfolding module_of
measured_grows s t from to n k a size end =
    let u = measured from (t, to) in
    let equal : length (encoding (module_of u)) ≡ length (encoding (module_of t)) = omega (arith, lengths (module_of t), lengths (module_of u)) in
    record {
      plain = omega (arith, a.plain, end);
      written = omega (arith, equal, a.plain, a.written, size, end);
      each = λ e. let f = a.each e in record { globals = f.globals; elements = f.elements; bodies = f.bodies; segments = f.segments };
      code = omega (arith, a.plain, a.code, end);
    }

section_grows : (s t : SpelledModule) (at : ℕ) (bytes : List ℕ) → section_entry s t at bytes → Grows s t (length bytes)
section_grows s t at bytes e =
    let b = e.1 in
    let id = e.0 in
    let whole : length bytes ≡ 1 + length b.1 = omega (arith, ap length b.2, ap length b.4, length-append b.0 b.1) in
    elim b.3 [
      | inl p ↦
          let c = p.1.3 in
          subst (λ (u : SpelledModule). Grows s u (length bytes)) c.1 (custom_grows s c.0 (length bytes))
      | inr q ↦ elim q.1 [
        | inl p ↦
            let i = p.1 in
            let x = i.0 in
            let two = i.2 in
            let z = two.2 in
            let size = z.0 in
            let inner = z.1 in
            let n = length inner in
            let adds = contents_add s id x.0 _ inner z.3 in
            let rest : length b.1 ≡ length size + n = omega (arith, ap length z.4, length-append size inner, ap length two.3.1, ap length two.4, length-append two.0 two.1) in
            let end : x.1 ≡ at + (1 + (length size + n)) = omega (arith, two.3.0, ap length b.2, ap length z.4, length-append size inner) in
            let grown = measured_grows s x.0 at x.1 n (length size) adds (number_least n size z.2) end in
            let all : 1 + (length size + n) ≡ length bytes = omega (arith, whole, rest) in
            subst (λ (u : SpelledModule). Grows s u (length bytes)) i.1 (subst (λ (k : ℕ). Grows s (measured at x) k) all grown)
        | inr p ↦ absurd p.1
      ]
    ]

sections_grow : (n : ℕ) (s t : SpelledModule) (at : ℕ) (bytes : List ℕ) → steps section_entry n s t at bytes → Grows s t (length bytes)
sections_grow zero s t at bytes e =
    subst (λ (u : SpelledModule). Grows s u (length bytes)) (sym e.0) (subst (λ (k : ℕ). Grows s s k) (sym (ap length e.1)) (grows_none s))
sections_grow (suc n) s t at bytes e =
    let b = e.1 in
    let one = section_grows s e.0 at b.0 b.2 in
    let rest = sections_grow n e.0 t (at + length b.0) b.1 b.3 in
    let all : length b.0 + length b.1 ≡ length bytes = sym (ap length b.4 ∙ length-append b.0 b.1) in
    subst (λ (k : ℕ). Grows s t k) all (grows_more s e.0 t (length b.0) (length b.1) one rest)

-- ---- a module

-- the header alone
record Begins (s : SpelledModule) : Type 0 where
  pub plain : s.parts.plain_bytes ≡ 8
  pub written : length (encoding (module_of s)) ≡ 8
  pub each : CodeSized (module_of s)
  pub code : code_length (module_of s) ≡ 0

header_begins : Begins no_sections
unfolding no_sections no_parts module_of
header_begins = record {
  plain = refl;
  written = omega (arith, lengths (module_of no_sections));
  each = record { globals = tt; elements = tt; bodies = tt; segments = tt };
  code = refl;
}

sized_module : (s : SpelledModule) (bytes : List ℕ) → length bytes ≤ greatest ModuleBytes → module_file s 0 bytes → Sized (module_of s)
unfolding module_of
sized_module s bytes short file =
    let b = file.1 in
    let begins = header_begins in
    let grown = sections_grow b.3.0 no_sections s _ b.1 b.3.1 in
    let whole : length bytes ≡ 8 + length b.1 = omega (arith, ap length b.2, ap length b.4, length-append b.0 b.1) in
    record {
      within_limit = omega (arith, short, whole, begins.plain, grown.plain);
      no_shorter = omega (arith, begins.plain, begins.written, grown.written);
      ops = grown.each begins.each;
      code = omega (arith, begins.plain, begins.code, grown.code);
    }

pub spelled : (bytes : List ℕ) (m : ModuleParts) → IsModuleOf bytes m → Sized m
spelled bytes m h = subst Sized h.4 (sized_module h.0 bytes h.1.0 h.1.1)

pub decoded : (bytes : List ℕ) (m : ModuleParts) → IsBytes bytes → module_from bytes ≡ Ok m → Sized m
decoded bytes m fits e = spelled bytes m ((found_exactly bytes (Ok m) fits (sym e) m).only refl)
