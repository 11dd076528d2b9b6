-- What bytes spell is in ranges: expressions, bodies, globals and modules. No instruction stands behind the last byte.
use Rattle.std.proofs.Common.{◌≡◌, ℕ, zero, suc, ◌+◌, ◌-◌, ◌<◌, ◌≤◌, ◌^◌, List, [], ◌∷◌, length, Option, Some, None, Ok, refl, sym, ap, subst, inl, inr, arith, length-append}
use Rattle.std.specs.List.{AllByRecursion}
use Rattle.wasm_syntax.specs.declared.quantity.Quantity.TheVariants.{ModuleBytes}
use Rattle.wasm_syntax.specs.declared.value.Value.{Value}
use Rattle.wasm_syntax.specs.declared.instruction.Basic.{Basic}
use Rattle.wasm_syntax.specs.declared.instruction.Basic.TheVariants as basics
use Rattle.wasm_syntax.specs.declared.instruction.Instr.{Instr}
use Rattle.wasm_syntax.specs.declared.instruction.Instr.TheVariants as instr
use Rattle.wasm_syntax.specs.declared.instruction.Op.{Op}
use Rattle.wasm_syntax.specs.declared.parts.Body.{Body}
use Rattle.wasm_syntax.specs.declared.parts.Global.{Global}
use Rattle.wasm_syntax.specs.declared.module.ModuleParts.{ModuleParts}
use Rattle.wasm_syntax.specs.Quantity.{greatest}
use Rattle.wasm_syntax.specs.Numbers.{IsValue}
use Rattle.wasm_syntax.specs.Module.{const_code, const_value}
use Rattle.wasm_bytes.specs.Laws.{IsBytes}
use Rattle.wasm_bytes.specs.calls.Spelling.{pair, passing, here, items, vector, steps, due}
use Rattle.wasm_format.specs.Spelled.{Spelled}
use Rattle.wasm_format.specs.calls.InstructionGrammar.{instruction}
use Rattle.wasm_format.specs.declared.expression.Expression.{Expression}
use Rattle.wasm_bytes.specs.declared.noted.Noted.{Noted}
use Rattle.wasm_format.specs.declared.module.SpelledModule.{SpelledModule}
use Rattle.wasm_format.specs.calls.Choices.{first_and}
use Rattle.wasm_format.specs.Expressions.{instr_of, may_stand, no_code, with_instr, is_closed}
use Rattle.wasm_format.specs.Sections.{no_parts, no_sections}
use Rattle.wasm_format.specs.calls.Grammar.{instr_entry, expression_entries, expression, code_contents, code, global_entry, noted_vector, contents, section_entry, module_file}
use Rattle.wasm_decode.specs.Decode.{module_of, module_from}
use Rattle.wasm_decode.specs.calls.Meaning.{IsModuleOf}
use Rattle.wasm_decode.proofs.Meanings.{found_exactly}
use Rattle.wasm_laws.proofs.Lists.{all_map, all_append}
use Rattle.wasm_format_laws.proofs.Measures.{values_of}
use Rattle.accept_laws.specs.calls.Ranges.{InRanges}
use Rattle.accept_laws.proofs.Forms.{InstrFine, instruction_fine, code_fine}

-- ---- lists of what is spelled

-- What is spelled up to this offset has the property.
abbrev EachIn : {A : Type 0} → ℕ → (A → ℕ → List ℕ → Type 0) → (A → Type 0) → Type 0
EachIn {A} last S P = (x : A) (at : ℕ) (bytes : List ℕ) → S x at bytes → at + length bytes ≤ last → P x

items_in : {A : Type 0} (last : ℕ) (S : A → ℕ → List ℕ → Type 0) (P : A → Type 0) → EachIn last S P → EachIn last (items S) (AllByRecursion P)
items_in last S P h [] at bytes s le = tt
items_in last S P h (x ∷ xs) at bytes s le =
    let whole : length bytes ≡ length s.0 + length s.1 = omega (arith, ap length s.4, length-append s.0 s.1) in
    (h x at s.0 s.2 (omega (arith, le, whole)), items_in last S P h xs (at + length s.0) s.1 s.3 (omega (arith, le, whole)))

vector_in : {A : Type 0} (last : ℕ) (S : A → ℕ → List ℕ → Type 0) (P : A → Type 0) → EachIn last S P → EachIn last (vector S) (AllByRecursion P)
vector_in last S P h xs at bytes s le = items_in last S P h xs (at + length s.0) s.1 s.3 (omega (arith, le, ap length s.4, length-append s.0 s.1))

noted_in : {A : Type 0} (last : ℕ) (S : Noted A → ℕ → List ℕ → Type 0) (P : A → Type 0) → EachIn last S (λ x. P x.value) → EachIn last (noted_vector S) (λ ys. AllByRecursion P ys.value)
noted_in {A} last S P h ys at bytes s le =
    subst (AllByRecursion P) (sym (values_of s.0 ys s.1)) (all_map P (λ (x : Noted A). x.value) s.0 (vector_in last S (λ (x : Noted A). P x.value) h s.0 at bytes s.2 le))

-- ---- expressions

abbrev OpFine : ℕ → Op → Type 0
OpFine last o = (o.at ≤ last) × InstrFine o.code

abbrev OpsFine : ℕ → List Op → Type 0
OpsFine last ops = AllByRecursion (OpFine last) ops

-- what an instruction is, with its opcode and the offset behind it
abbrev Read : Type 0
Read = ℕ × ((ℕ × Spelled) × ℕ)

abbrev op_of : Expression → Read → Op
op_of e x = record { at = x.0 - e.origin; len = x.1.1 - x.0; code = instr_of x.1.0 }

entry_fine : (last : ℕ) (e : Expression) (x : Read) (at : ℕ) (front : List ℕ) → pair here (pair (passing (λ y. may_stand e.blocks (instr_of y)) (first_and (instruction (length e.targets)))) here) x at front → at ≤ last → OpFine last (op_of e x)
entry_fine last e x at front s le =
    let r = s.3 in
    let i = r.2.1 in
    (omega (arith, le, s.2.0), code_fine x.1.0.0 x.1.0.1.code (instruction_fine (length e.targets) (at + length s.0) x.1.0.1 r.0 i.1))

reached : (last n : ℕ) (e t : Expression) (at : ℕ) (bytes : List ℕ) → steps (due is_closed instr_entry) n e t at bytes → at + length bytes ≤ last → OpsFine last e.ops → OpsFine last t.ops
reached last zero e t at bytes s le h = subst (λ (x : Expression). OpsFine last x.ops) (sym s.0) h
reached last (suc n) e t at bytes s le h =
    let one = s.1.2 in
    let entry = one.1 in
    let x = entry.0 in
    let same : s.0 ≡ with_instr e x = sym entry.1 in
    let whole : length bytes ≡ length s.1.0 + length s.1.1 = omega (arith, ap length s.1.4, length-append s.1.0 s.1.1) in
    let rest = subst (λ (y : Expression). steps (due is_closed instr_entry) n y t (at + length s.1.0) s.1.1) same s.1.3 in
    reached last n (with_instr e x) t (at + length s.1.0) s.1.1 rest (omega (arith, le, whole))
    (all_append (OpFine last) e.ops (op_of e x ∷ []) h (entry_fine last e x at s.1.0 entry.2 (omega (arith, le)), tt))

entries_fine : (last origin : ℕ) (e : Expression) (at : ℕ) (bytes : List ℕ) → expression_entries origin e at bytes → at + length bytes ≤ last → OpsFine last e.ops
entries_fine last origin e at bytes s le = reached last s.1.0 (no_code origin) e at bytes s.1.1 le tt

expression_fine : (last : ℕ) (b : Noted Body) (at : ℕ) (bytes : List ℕ) → expression b at bytes → at + length bytes ≤ last → OpsFine last b.value.ops
expression_fine last b at bytes s le = subst (λ (y : Noted Body). OpsFine last y.value.ops) s.1 (entries_fine last at s.0 at bytes s.2 le)

-- ---- globals and bodies

global_fine : (last : ℕ) (g : Noted Global) (at : ℕ) (bytes : List ℕ) → global_entry g at bytes → at + length bytes ≤ last → OpsFine last g.value.init.ops
global_fine last g at bytes s le =
    let p = s.2 in
    let whole : length bytes ≡ length p.0 + length p.1 = omega (arith, ap length p.4, length-append p.0 p.1) in
    subst (λ (y : Noted Global). OpsFine last y.value.init.ops) s.1 (expression_fine last s.0.1 (at + length p.0) p.1 p.3 (omega (arith, le, whole)))

contents_fine : (last origin : ℕ) (b : Noted Body) (at : ℕ) (bytes : List ℕ) → code_contents origin b at bytes → at + length bytes ≤ last → OpsFine last b.value.ops
contents_fine last origin b at bytes s le =
    let p = s.1 in
    let i = p.3 in
    let whole : length bytes ≡ length p.0 + length p.1 = omega (arith, ap length p.4, length-append p.0 p.1) in
    subst (λ (y : Noted Body). OpsFine last y.value.ops) i.1 (entries_fine last at i.0 (at + length p.0) p.1 i.2 (omega (arith, le, whole)))

body_fine : (last origin : ℕ) (b : Noted Body) (at : ℕ) (bytes : List ℕ) → code origin b at bytes → at + length bytes ≤ last → OpsFine last b.value.ops
body_fine last origin b at bytes s le =
    let whole : length bytes ≡ length s.0 + length s.1 = omega (arith, ap length s.4, length-append s.0 s.1) in
    contents_fine last origin b (at + length s.0) s.1 s.3 (omega (arith, le, whole))

-- ---- modules

record PartsFine (last : ℕ) (s : SpelledModule) : Type 0 where
  pub bodies : AllByRecursion (λ b. OpsFine last b.ops) s.parts.bodies
  pub globals : AllByRecursion (λ g. OpsFine last g.init.ops) s.parts.globals

-- the same of a state with the same bodies and globals
kept : (last : ℕ) (s t : SpelledModule) → t.parts.bodies ≡ s.parts.bodies → t.parts.globals ≡ s.parts.globals → PartsFine last s → PartsFine last t
kept last s t b g h = record {
  bodies = subst (AllByRecursion (λ b. OpsFine last b.ops)) (sym b) h.bodies;
  globals = subst (AllByRecursion (λ g. OpsFine last g.init.ops)) (sym g) h.globals;
}

section_contents : (last : ℕ) (s : SpelledModule) (id : ℕ) (t : SpelledModule) (at : ℕ) (inner : List ℕ) → contents s id t at inner → at + length inner ≤ last → PartsFine last s → PartsFine last t
section_contents last s id t at inner c le h =
    let to = λ (u : SpelledModule) (e : u ≡ t) (b : u.parts.bodies ≡ s.parts.bodies) (g : u.parts.globals ≡ s.parts.globals). subst (PartsFine last) e (kept last s u b g h) in
    elim c [
      | inl p ↦ let i = p.1 in to _ i.1 refl refl
      | inr c ↦ elim c.1 [
        | inl p ↦ let i = p.1 in to _ i.1 refl refl
        | inr c ↦ elim c.1 [
          | inl p ↦ let i = p.1 in to _ i.1 refl refl
          | inr c ↦ elim c.1 [
            | inl p ↦ let i = p.1 in to _ i.1 refl refl
            | inr c ↦ elim c.1 [
              | inl p ↦ let i = p.1 in to _ i.1 refl refl
              | inr c ↦ elim c.1 [
                | inl p ↦
                    let i = p.1 in
                    let made : PartsFine last _ = record { bodies = h.bodies; globals = noted_in last global_entry (λ g. OpsFine last g.init.ops) (global_fine last) i.0 at inner i.2 le } in
                    subst (PartsFine last) i.1 made
                | inr c ↦ elim c.1 [
                  | inl p ↦ let i = p.1 in to _ i.1 refl refl
                  | inr c ↦ elim c.1 [
                    | inl p ↦ let i = p.1 in to _ i.1 refl refl
                    | inr c ↦ elim c.1 [
                      | inl p ↦ let i = p.1 in to _ i.1 refl refl
                      | inr c ↦ elim c.1 [
                        | inl p ↦
                            let i = p.1 in
                            let b = i.2 in
                            let made : PartsFine last _ = record { bodies = noted_in last (code at) (λ b. OpsFine last b.ops) (body_fine last at) i.0 at inner (b.0, b.1, b.2.1) le; globals = h.globals } in
                            subst (PartsFine last) i.1 made
                        | inr p ↦ let i = p.1 in to _ i.1 refl refl
                      ]
                    ]
                  ]
                ]
              ]
            ]
          ]
        ]
      ]
    ]

section_fine : (last : ℕ) (s t : SpelledModule) (at : ℕ) (bytes : List ℕ) → section_entry s t at bytes → at + length bytes ≤ last → PartsFine last s → PartsFine last t
section_fine last s t at bytes e le h =
    let b = e.1 in
    let whole : length bytes ≡ length b.0 + length b.1 = omega (arith, ap length b.4, length-append b.0 b.1) in
    elim b.3 [
      | inl p ↦ let c = p.1.3 in subst (PartsFine last) c.1 (record { bodies = h.bodies; globals = h.globals })
      | inr q ↦ elim q.1 [
        | inl p ↦
            let i = p.1 in
            let x = i.0 in
            let two = i.2 in
            let z = two.2 in
            let rest : length b.1 ≡ length z.0 + length z.1 + length two.1 = omega (arith, ap length two.4, length-append two.0 two.1, ap length z.4, length-append z.0 z.1) in
            let k = section_contents last s e.0 x.0 (at + length b.0 + length z.0) z.1 z.3 (omega (arith, le, whole, rest)) h in
            subst (PartsFine last) i.1 (record { bodies = k.bodies; globals = k.globals })
        | inr p ↦ absurd p.1
      ]
    ]

sections_fine : (last n : ℕ) (s t : SpelledModule) (at : ℕ) (bytes : List ℕ) → steps section_entry n s t at bytes → at + length bytes ≤ last → PartsFine last s → PartsFine last t
sections_fine last zero s t at bytes e le h = subst (PartsFine last) (sym e.0) h
sections_fine last (suc n) s t at bytes e le h =
    let b = e.1 in
    let whole : length bytes ≡ length b.0 + length b.1 = omega (arith, ap length b.4, length-append b.0 b.1) in
    sections_fine last n e.0 t (at + length b.0) b.1 b.3 (omega (arith, le, whole)) (section_fine last s e.0 at b.0 b.2 (omega (arith, le, whole)) h)

none_fine : (last : ℕ) → PartsFine last no_sections
unfolding no_sections no_parts
none_fine last = record { bodies = tt; globals = tt }

-- ---- what a dump shows of them

abbrev ConstantIn : Option Value → Type 0
ConstantIn None = Unit {0}
ConstantIn (Some v) = IsValue v

basic_in : (i : Basic) → InstrFine (instr.Basic i) → ConstantIn (const_code [] (instr.Basic i))
basic_in (basics.Const v) h = h
basic_in (basics.GlobalGet x) h = tt
basic_in i h = tt

code_in : (i : Instr) → InstrFine i → ConstantIn (const_code [] i)
code_in (instr.Basic i) h = basic_in i h
code_in i h = tt

value_in : (ops : List Op) (last : ℕ) → OpsFine last ops → ConstantIn (const_value [] ops)
value_in [] last h = tt
value_in (o ∷ os) last h = code_in o.code h.0.1

offsets_in : (last : ℕ) (ops : List Op) → last ≤ greatest ModuleBytes → OpsFine last ops → AllByRecursion (λ o. o.at < 2 ^ 32) ops
offsets_in last [] le h = tt
offsets_in last (o ∷ os) le h = (omega (arith, le, h.0.0), offsets_in last os le h.1)

all_offsets : (last : ℕ) (bodies : List Body) → last ≤ greatest ModuleBytes → AllByRecursion (λ b. OpsFine last b.ops) bodies → AllByRecursion (λ b. AllByRecursion (λ o. o.at < 2 ^ 32) b.ops) bodies
all_offsets last [] le h = tt
all_offsets last (b ∷ bs) le h = (offsets_in last b.ops le h.0, all_offsets last bs le h.1)

all_globals : (last : ℕ) (gs : List Global) → AllByRecursion (λ g. OpsFine last g.init.ops) gs → AllByRecursion (λ g. (v : Value) → const_value [] g.init.ops ≡ Some v → IsValue v) gs
all_globals last [] h = tt
all_globals last (g ∷ gs) h = (λ v e. subst ConstantIn e (value_in g.init.ops last h.0), all_globals last gs h.1)

module_in : (s : SpelledModule) (bytes : List ℕ) → length bytes ≤ greatest ModuleBytes → module_file s 0 bytes → InRanges (module_of s)
unfolding module_of
module_in s bytes short file =
    let b = file.1 in
    let whole : length bytes ≡ length b.0 + length b.1 = omega (arith, ap length b.4, length-append b.0 b.1) in
    let h = sections_fine (length bytes) b.3.0 no_sections s (0 + length b.0) b.1 b.3.1 (omega (arith, whole)) (none_fine (length bytes)) in
    record { offsets = all_offsets (length bytes) s.parts.bodies short h.bodies; globals = all_globals (length bytes) s.parts.globals h.globals }

pub spelled : (bytes : List ℕ) (m : ModuleParts) → IsModuleOf bytes m → InRanges m
spelled bytes m h = subst InRanges h.4 (module_in h.0 bytes h.1.0 h.1.1)

pub decoded : (bytes : List ℕ) (m : ModuleParts) → IsBytes bytes → module_from bytes ≡ Ok m → InRanges m
decoded bytes m fits e = spelled bytes m ((found_exactly bytes (Ok m) fits (sym e) m).only refl)
