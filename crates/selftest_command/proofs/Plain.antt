-- A decoded module is no longer than its bytes, without custom sections.
use Rattle.std.proofs.Common.{◌≡◌, ℕ, zero, suc, ◌+◌, ◌≤◌, List, length, Ok, refl, sym, ap, subst, inl, inr, arith, length-append}
use Rattle.wasm_syntax.specs.declared.module.ModuleParts.{ModuleParts}
use Rattle.wasm_bytes.specs.Laws.{IsBytes}
use Rattle.wasm_bytes.specs.calls.Spelling.{steps}
use Rattle.wasm_format.specs.declared.module.SpelledModule.{SpelledModule}
use Rattle.wasm_format.specs.Sections.{measured, no_parts, no_sections, with_custom}
use Rattle.wasm_format.specs.calls.Grammar.{section_entry, module_file}
use Rattle.wasm_decode.specs.Decode.{module_of, module_from}
use Rattle.wasm_decode.specs.calls.Meaning.{IsModuleOf}
use Rattle.wasm_decode.proofs.Meanings.{found_exactly}
use Rattle.wasm_format_laws.proofs.Sections.{contents_add}

abbrev Rises : SpelledModule → SpelledModule → ℕ → Type 0
Rises s t n = t.parts.plain_bytes ≤ s.parts.plain_bytes + n

section_rises : (s t : SpelledModule) (at : ℕ) (bytes : List ℕ) → section_entry s t at bytes → Rises s t (length bytes)
section_rises s t at bytes e =
    let b = e.1 in
    let id = e.0 in
    let whole : length bytes ≡ 1 + length b.1 = omega (arith, ap length b.2, ap length b.4, length-append b.0 b.1) in
    elim b.3 [
      | inl p ↦
          let c = p.1.3 in
          let same : Rises s (with_custom s c.0) (length bytes) = omega arith in
          subst (λ (u : SpelledModule). Rises s u (length bytes)) c.1 same
      | inr q ↦ elim q.1 [
        | inl p ↦
            let i = p.1 in
            let x = i.0 in
            let two = i.2 in
            let z = two.2 in
            let size = z.0 in
            let inner = z.1 in
            let n = length inner in
            let adds = contents_add s id x.0 _ inner z.3 in
            let rest : length b.1 ≡ length size + n = omega (arith, ap length z.4, length-append size inner, ap length two.3.1, ap length two.4, length-append two.0 two.1) in
            let end : x.1 ≡ at + (1 + (length size + n)) = omega (arith, two.3.0, ap length b.2, ap length z.4, length-append size inner) in
            let more : Rises s (measured at x) (length bytes) = omega (arith, adds.plain, end, whole, rest) in
            subst (λ (u : SpelledModule). Rises s u (length bytes)) i.1 more
        | inr p ↦ absurd p.1
      ]
    ]

sections_rise : (n : ℕ) (s t : SpelledModule) (at : ℕ) (bytes : List ℕ) → steps section_entry n s t at bytes → Rises s t (length bytes)
sections_rise zero s t at bytes e = subst (λ (u : SpelledModule). Rises s u (length bytes)) (sym e.0) (omega arith)
sections_rise (suc n) s t at bytes e =
    let b = e.1 in
    let one = section_rises s e.0 at b.0 b.2 in
    let rest = sections_rise n e.0 t (at + length b.0) b.1 b.3 in
    omega (arith, one, rest, ap length b.4, length-append b.0 b.1)

module_rises : (s : SpelledModule) (bytes : List ℕ) → module_file s 0 bytes → (module_of s).plain_bytes ≤ length bytes
unfolding module_of no_sections no_parts
module_rises s bytes file =
    let b = file.1 in
    let grown = sections_rise b.3.0 no_sections s _ b.1 b.3.1 in
    omega (arith, grown, ap length b.2, ap length b.4, length-append b.0 b.1)

pub plain_few : (bytes : List ℕ) (m : ModuleParts) → IsBytes bytes → module_from bytes ≡ Ok m → m.plain_bytes ≤ length bytes
plain_few bytes m fits e =
    let h : IsModuleOf bytes m = (found_exactly bytes (Ok m) fits (sym e) m).only refl in
    subst (λ (x : ModuleParts). x.plain_bytes ≤ length bytes) h.4 (module_rises h.0 bytes h.1.1)
