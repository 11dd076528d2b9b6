-- What bytes spell has small offsets: expressions, bodies and modules.
use Rattle.std.proofs.Common.{◌≡◌, ℕ, zero, suc, ◌+◌, ◌-◌, List, [], ◌∷◌, length, Ok, refl, sym, subst, inl, inr}
use Rattle.std.specs.List.{AllByRecursion}
use Rattle.wasm_syntax.specs.declared.instruction.Op.{Op}
use Rattle.wasm_syntax.specs.declared.parts.Body.{Body}
use Rattle.wasm_syntax.specs.declared.module.ModuleParts.{ModuleParts}
use Rattle.wasm_bytes.specs.Laws.{IsBytes}
use Rattle.wasm_bytes.specs.calls.Spelling.{pair, passing, here, steps, due}
use Rattle.wasm_format.specs.Spelled.{Spelled}
use Rattle.wasm_format.specs.calls.InstructionGrammar.{instruction}
use Rattle.wasm_format.specs.declared.expression.Expression.{Expression}
use Rattle.wasm_bytes.specs.declared.noted.Noted.{Noted}
use Rattle.wasm_format.specs.declared.module.SpelledModule.{SpelledModule}
use Rattle.wasm_format.specs.calls.Choices.{first_and}
use Rattle.wasm_format.specs.Expressions.{instr_of, may_stand, no_code, with_instr, is_closed}
use Rattle.wasm_format.specs.Sections.{no_parts, no_sections}
use Rattle.wasm_format.specs.calls.Grammar.{instr_entry, expression_entries, code_contents, code, contents, section_entry, module_file}
use Rattle.wasm_decode.specs.Decode.{module_of, module_from}
use Rattle.wasm_decode.specs.calls.Meaning.{IsModuleOf}
use Rattle.wasm_decode.proofs.Meanings.{found_exactly}
use Rattle.wasm_laws.proofs.Lists.{all_append}
use Rattle.wasm_format_laws.proofs.Measures.{noted_each}
use Rattle.rewrite_modules.specs.Instrumentable.{SmallInstr}
use Rattle.rewrite_promise.specs.calls.Light.{SmallOffsets}
use Rattle.rewrite_promise.proofs.Forms.{instruction_small, code_small}

-- ---- expressions

abbrev SmallOps : List Op → Type 0
SmallOps ops = AllByRecursion (λ o. SmallInstr o.code) ops

-- what an instruction is, with its opcode and the offset behind it
abbrev Read : Type 0
Read = ℕ × ((ℕ × Spelled) × ℕ)

entry_small : (e : Expression) (x : Read) (at : ℕ) (front : List ℕ) → pair here (pair (passing (λ y. may_stand e.blocks (instr_of y)) (first_and (instruction (length e.targets)))) here) x at front → SmallInstr (instr_of x.1.0)
entry_small e x at front s =
    let r = s.3 in
    let i = r.2.1 in
    code_small x.1.0.0 x.1.0.1.code (instruction_small (length e.targets) (at + length s.0) x.1.0.1 r.0 i.1)

reached : (n : ℕ) (e t : Expression) (at : ℕ) (bytes : List ℕ) → steps (due is_closed instr_entry) n e t at bytes → SmallOps e.ops → SmallOps t.ops
reached zero e t at bytes s h = subst (λ (x : Expression). SmallOps x.ops) (sym s.0) h
reached (suc n) e t at bytes s h =
    let one = s.1.2 in
    let entry = one.1 in
    let x = entry.0 in
    let same : s.0 ≡ with_instr e x = sym entry.1 in
    let rest = subst (λ (y : Expression). steps (due is_closed instr_entry) n y t (at + length s.1.0) s.1.1) same s.1.3 in
    let op : Op = record { at = x.0 - e.origin; len = x.1.1 - x.0; code = instr_of x.1.0 } in
    reached n (with_instr e x) t (at + length s.1.0) s.1.1 rest (all_append (λ o. SmallInstr o.code) e.ops (op ∷ []) h (entry_small e x at s.1.0 entry.2, tt))

entries_small : (origin : ℕ) (e : Expression) (at : ℕ) (bytes : List ℕ) → expression_entries origin e at bytes → SmallOps e.ops
entries_small origin e at bytes s = reached s.1.0 (no_code origin) e at bytes s.1.1 tt

-- ---- bodies

contents_small : (origin : ℕ) (b : Noted Body) (at : ℕ) (bytes : List ℕ) → code_contents origin b at bytes → SmallOps b.value.ops
contents_small origin b at bytes s =
    let i = s.1.3 in
    subst (λ (y : Noted Body). SmallOps y.value.ops) i.1 (entries_small at i.0 _ s.1.1 i.2)

body_small : (origin : ℕ) (b : Noted Body) (at : ℕ) (bytes : List ℕ) → code origin b at bytes → SmallOps b.value.ops
body_small origin b at bytes s = contents_small origin b (at + length s.0) s.1 s.3

-- ---- modules

abbrev SmallParts : SpelledModule → Type 0
SmallParts s = AllByRecursion (λ b. SmallOps b.ops) s.parts.bodies

section_contents : (s : SpelledModule) (id : ℕ) (t : SpelledModule) (at : ℕ) (inner : List ℕ) → contents s id t at inner → SmallParts s → SmallParts t
section_contents s id t at inner c h =
    let to = λ (u : SpelledModule) (e : u ≡ t) (k : SmallParts u). subst SmallParts e k in
    elim c [
      | inl p ↦ let i = p.1 in to _ i.1 h
      | inr c ↦ elim c.1 [
        | inl p ↦ let i = p.1 in to _ i.1 h
        | inr c ↦ elim c.1 [
          | inl p ↦ let i = p.1 in to _ i.1 h
          | inr c ↦ elim c.1 [
            | inl p ↦ let i = p.1 in to _ i.1 h
            | inr c ↦ elim c.1 [
              | inl p ↦ let i = p.1 in to _ i.1 h
              | inr c ↦ elim c.1 [
                | inl p ↦ let i = p.1 in to _ i.1 h
                | inr c ↦ elim c.1 [
                  | inl p ↦ let i = p.1 in to _ i.1 h
                  | inr c ↦ elim c.1 [
                    | inl p ↦ let i = p.1 in to _ i.1 h
                    | inr c ↦ elim c.1 [
                      | inl p ↦ let i = p.1 in to _ i.1 h
                      | inr c ↦ elim c.1 [
                        | inl p ↦ let i = p.1 in let b = i.2 in to _ i.1 (noted_each (code at) (λ b. SmallOps b.ops) (body_small at) i.0 at inner (b.0, b.1, b.2.1))
                        | inr p ↦ let i = p.1 in to _ i.1 h
                      ]
                    ]
                  ]
                ]
              ]
            ]
          ]
        ]
      ]
    ]

section_small : (s t : SpelledModule) (at : ℕ) (bytes : List ℕ) → section_entry s t at bytes → SmallParts s → SmallParts t
section_small s t at bytes e h =
    elim e.1.3 [
      | inl p ↦ subst SmallParts p.1.3.1 h
      | inr q ↦ elim q.1 [
        | inl p ↦
            let i = p.1 in
            let x = i.0 in
            let z = i.2.2 in
            subst SmallParts i.1 (section_contents s e.0 x.0 _ z.1 z.3 h)
        | inr p ↦ absurd p.1
      ]
    ]

sections_small : (n : ℕ) (s t : SpelledModule) (at : ℕ) (bytes : List ℕ) → steps section_entry n s t at bytes → SmallParts s → SmallParts t
sections_small zero s t at bytes e h = subst SmallParts (sym e.0) h
sections_small (suc n) s t at bytes e h =
    let b = e.1 in
    sections_small n e.0 t (at + length b.0) b.1 b.3 (section_small s e.0 at b.0 b.2 h)

none_small : SmallParts no_sections
unfolding no_sections no_parts
none_small = tt

module_small : (s : SpelledModule) (bytes : List ℕ) → module_file s 0 bytes → SmallOffsets (module_of s)
unfolding module_of
module_small s bytes file = sections_small file.1.3.0 no_sections s _ file.1.1 file.1.3.1 none_small

pub spelled : (bytes : List ℕ) (m : ModuleParts) → IsModuleOf bytes m → SmallOffsets m
spelled bytes m h = subst SmallOffsets h.4 (module_small h.0 bytes h.1.1)

pub decoded : (bytes : List ℕ) (m : ModuleParts) → IsBytes bytes → module_from bytes ≡ Ok m → SmallOffsets m
decoded bytes m fits e = spelled bytes m ((found_exactly bytes (Ok m) fits (sym e) m).only refl)
