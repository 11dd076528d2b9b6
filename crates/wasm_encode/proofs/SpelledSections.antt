-- What is written of sections spells them, one after the other.
use Rattle.std.proofs.Common.{◌≡◌, ℕ, zero, suc, ◌+◌, ◌<◌, ◌≤◌, ◌^◌, true, false, eqb, leb, List, [], ◌∷◌, ◌++◌, length, None, refl, sym, ap, subst, inl, inr, ◌∙◌, append_assoc, arith, length-append}
use Rattle.std.proofs.lemmas.List.{append-nil}
use Rattle.std.proofs.lemmas.Bool.{lt-ltb}
use Rattle.wasm_leb.specs.Writing.{unsigned_bytes}
use Rattle.wasm_syntax.specs.declared.module.ModuleParts.{ModuleParts}
use Rattle.wasm_syntax.specs.SameCode.{code_alone}
use Rattle.wasm_bytes.specs.calls.Spelling.{sized, steps, some_steps}
use Rattle.wasm_format.specs.declared.module.Imported.{Imported}
use Rattle.wasm_format.specs.declared.module.SpelledModule.{SpelledModule}
use Rattle.wasm_format.specs.Sections.{may_follow, measured}
use Rattle.wasm_format.specs.calls.Grammar.{contents, section_tail, section_entry}
use Rattle.wasm_encode.specs.Encoding.{sized_bytes, section_bytes, vector_bytes, vector_section}
use Rattle.wasm_encode.proofs.Spellings.{sized_spelled}
use Rattle.wasm_encode.proofs.SpelledTypes.{tagged_spelled}

-- What sections up to that id say: these imports, and these parts but for places and lengths.
pub record Says (s : SpelledModule) (last : ℕ) (imports : List Imported) (parts : ModuleParts) : Type 0 where
  pub ids : s.last ≤ last
  pub no_float : s.float ≡ None
  pub imported : s.imports ≡ imports
  pub code : code_alone s.parts ≡ parts

-- Bytes spell sections that add what is needed.
pub record Adds (s : SpelledModule) (at : ℕ) (bytes : List ℕ) (last : ℕ) (imports : List Imported) (parts : ModuleParts) : Type 0 where
  pub after : SpelledModule
  pub says : Says after last imports parts
  pub spelled : some_steps section_entry s after at bytes

-- ---- one section

follows : (last k id : ℕ) → last ≤ k → k < id → id ≤ 11 → may_follow last id ≡ true
follows last k id le lt most =
    let one = lt-ltb last id (omega arith) in
    let two : leb id 11 ≡ true = grind arith in
    rw (one, two) refl

no_custom : (id : ℕ) → 0 < id → eqb id 0 ≡ false
no_custom id lt = grind arith

-- a section between its id and the offset behind it
section_spelled : (s u : SpelledModule) (k id at : ℕ) (inner : List ℕ) → s.last ≤ k → k < id → id ≤ 11 → length inner < 2 ^ 32 → contents s id u (at + 1 + length (unsigned_bytes (length inner))) inner
    → section_entry s (measured at (u, at + 1 + length (sized_bytes inner))) at (section_bytes id inner)
section_spelled s u k id at inner le lt most short c =
    let rest = sized_bytes inner in
    let end = at + 1 + length rest in
    let t = measured at (u, end) in
    let body : sized (contents s id u) (at + 1) rest = sized_spelled (contents s id u) (at + 1) inner short c in
    tagged_spelled (section_tail s at) id t at rest
    (inr (no_custom id (omega arith), inl (follows s.last k id le lt most, ((u, end), refl, (rest, [], body, (refl, refl), sym (append-nil rest))))))

one_step : (s t : SpelledModule) (at : ℕ) (bytes : List ℕ) → section_entry s t at bytes → some_steps section_entry s t at bytes
one_step s t at bytes h = (suc zero, (t, (bytes, [], h, (refl, refl), sym (append-nil bytes))))

pub section_adds : (s u : SpelledModule) (k id at : ℕ) (inner : List ℕ) (imports : List Imported) (parts : ModuleParts) → s.last ≤ k → k < id → id ≤ 11 → length inner < 2 ^ 32
    → Says u id imports parts → contents s id u (at + 1 + length (unsigned_bytes (length inner))) inner → Adds s at (section_bytes id inner) id imports parts
section_adds s u k id at inner imports parts le lt most short says c =
    let end = at + 1 + length (sized_bytes inner) in
    let t = measured at (u, end) in
    record {
      after = t;
      says = record { ids = says.ids; no_float = says.no_float; imported = says.imported; code = says.code };
      spelled = one_step s t at (section_bytes id inner) (section_spelled s u k id at inner le lt most short c);
    }

-- ---- none, and one after the other

pub none_adds : (s : SpelledModule) (at last : ℕ) (imports : List Imported) (parts : ModuleParts) → Says s last imports parts → Adds s at [] last imports parts
none_adds s at last imports parts says = record { after = s; says = says; spelled = (zero, (refl, refl)) }

steps_then : (n : ℕ) (s t u : SpelledModule) (at behind : ℕ) (front rest : List ℕ) → behind ≡ at + length front → steps section_entry n s t at front → some_steps section_entry t u behind rest → some_steps section_entry s u at (front ++ rest)
steps_then zero s t u at behind front rest e one other =
    let here_on : behind ≡ at = omega (arith, e, ap length one.1) in
    let moved : some_steps section_entry s u at rest = subst (λ (k : ℕ). some_steps section_entry s u k rest) here_on (subst (λ (v : SpelledModule). some_steps section_entry v u behind rest) one.0 other) in
    subst (λ (f : List ℕ). some_steps section_entry s u at (f ++ rest)) (sym one.1) moved
steps_then (suc n) s t u at behind front rest e one other =
    let next = one.0 in
    let first = one.1.0 in
    let middle = one.1.1 in
    let others = steps_then n next t u (at + length first) behind middle rest (omega (arith, e, ap length one.1.4, length-append first middle)) one.1.3 other in
    (suc others.0, (next, (first, middle ++ rest, one.1.2, others.1, ap (λ (f : List ℕ). f ++ rest) one.1.4 ∙ append_assoc first middle rest)))

pub then_adds : (s : SpelledModule) (at last_one last : ℕ) (front rest : List ℕ) (imports_one imports : List Imported) (parts_one parts : ModuleParts) → Adds s at front last_one imports_one parts_one
    → ((t : SpelledModule) → Says t last_one imports_one parts_one → Adds t (at + length front) rest last imports parts) → Adds s at (front ++ rest) last imports parts
then_adds s at last_one last front rest imports_one imports parts_one parts one then =
    let other = then one.after one.says in
    record {
      after = other.after;
      says = other.says;
      spelled = steps_then one.spelled.0 s one.after other.after at (at + length front) front rest refl one.spelled.1 other.spelled;
    }

-- ---- a section that is a vector, where that has elements

pub vector_adds : {A : Type 0} (bytes : A → List ℕ) (xs : List A) (s : SpelledModule) (k id at : ℕ) (imports : List Imported) (parts : ModuleParts) → s.last ≤ k → k < id → id ≤ 11 → length (vector_section id bytes xs) < 2 ^ 32
    → (xs ≡ [] → Says s id imports parts)
    → ((here_on : ℕ) → (u : SpelledModule) × Says u id imports parts × contents s id u here_on (vector_bytes bytes xs))
    → Adds s at (vector_section id bytes xs) id imports parts
vector_adds bytes [] s k id at imports parts le lt most short empty full = none_adds s at id imports parts (empty refl)
vector_adds {A} bytes (x ∷ xs) s k id at imports parts le lt most short empty full =
    let ys : List A = x ∷ xs in
    let inner = vector_bytes bytes ys in
    let f = full (at + 1 + length (unsigned_bytes (length inner))) in
    let size : length inner < 2 ^ 32 = omega (arith, short, length-append (unsigned_bytes (length inner)) inner) in
    section_adds s f.0 k id at inner imports parts le lt most size f.1 f.2
