-- Lists that are copied with changes.
use Rattle.std.proofs.Common.{◌≡◌, ℕ, suc, ◌+◌, ◌<◌, List, [], ◌∷◌, ◌++◌, length, get_or, map, drop, false, refl, sym, ap, ap₂, ◌∙◌, arith, append_assoc, append-nil}
use Rattle.std.specs.Prelude.{◌==◌, codes}
use Rattle.std.proofs.lemmas.List.{drop_all}
use Rattle.std.proofs.Math.Seq.{drop-cons}
use Rattle.wasm_syntax.specs.declared.parts.Export.{Export}
use Rattle.wasm_syntax.specs.declared.parts.ExportKind.TheVariants as kinds
use Rattle.wasm_syntax.specs.declared.parts.Limits.{Limits}
use Rattle.wasm_syntax.specs.declared.module.ModuleParts.{ModuleParts as Module}
use Rattle.rewrite_bodies.specs.Numbering.{wraps}
use Rattle.rewrite_modules.specs.Collector.{memory_export}
use Rattle.rewrite_modules.specs.calls.Instrument.{new_index, new_exports}
use Rattle.instrument.specs.inner.Parts.{renumbered}

-- ---- exports

abbrev with_index : Export → ℕ → Export
with_index e i = record { name = e.name; kind = e.kind; index = i }

pub renumbered_more : (out : List Export) (es : List Export) (is : List ℕ) (i : ℕ) (d : Export) (n : ℕ) → i < length es → i < length is → (out ++ with_index (get_or es i d) (get_or is i n) ∷ []) ++ renumbered (drop (i + 1) es) (drop (i + 1) is) ≡ out ++ renumbered (drop i es) (drop i is)
renumbered_more out es is i d n lt few =
    let next : i + 1 ≡ suc i = omega arith in
    append_assoc out (with_index (get_or es i d) (get_or is i n) ∷ []) (renumbered (drop (i + 1) es) (drop (i + 1) is))
    ∙ ap (λ k. out ++ with_index (get_or es i d) (get_or is i n) ∷ renumbered (drop k es) (drop k is)) next
    ∙ ap₂ (λ (xs : List Export) (ks : List ℕ). out ++ renumbered xs ks) (sym (drop-cons es i d lt)) (sym (drop-cons is i n few))

pub renumbered_all : (out : List Export) (es : List Export) (is : List ℕ) (i : ℕ) → length es ≡ i → out ++ renumbered (drop i es) (drop i is) ≡ out
renumbered_all out es is i e = ap (λ (xs : List Export). out ++ renumbered xs (drop i is)) (drop_all i es (omega (arith, e))) ∙ append-nil out

pub new_indices : (m : Module) (k : ℕ) (es : List Export) → renumbered es (map (λ e. e.index) (new_exports m k es)) ≡ new_exports m k es
new_indices m k [] = refl
new_indices m k (e ∷ es) = ap (λ (rest : List Export). record { name = e.name; kind = e.kind; index = new_index m k (wraps m e) e.index } ∷ rest) (new_indices m (k + length (wraps m e)) es)

pub as_many_indices : (m : Module) (k : ℕ) (es : List Export) → length es ≡ length (map (λ e. e.index) (new_exports m k es))
as_many_indices m k [] = refl
as_many_indices m k (e ∷ es) = ap suc (as_many_indices m (k + length (wraps m e)) es)

-- the export of a memory that is there
abbrev pub exported_memory : Export
exported_memory = record { name = codes "coredump.memory"; kind = kinds.Memory; index = 0 }

pub memory_there : (ls : List Limits) → (length ls == 0) ≡ false → memory_export ls ≡ exported_memory ∷ []
memory_there [] e = absurd cc
memory_there (l ∷ ls) e = refl

-- ---- lists that grow

pub three_more : {A : Type 0} (xs x0 x1 x2 x3 : List A) (a b c a' b' c' : A) → x0 ≡ xs → x1 ≡ x0 ++ a ∷ [] → x2 ≡ x1 ++ b ∷ [] → x3 ≡ x2 ++ c ∷ [] → a ≡ a' → b ≡ b' → c ≡ c' → x3 ≡ xs ++ a' ∷ b' ∷ c' ∷ []
three_more {A} xs x0 x1 x2 x3 a b c a' b' c' e0 e1 e2 e3 ea eb ec =
    let push : List A → A → List A = λ ys y. ys ++ y ∷ [] in
    e3 ∙ ap₂ push (e2 ∙ ap₂ push (e1 ∙ ap₂ push e0 ea) eb) ec ∙ append_assoc (xs ++ a' ∷ []) (b' ∷ []) (c' ∷ []) ∙ append_assoc xs (a' ∷ []) (b' ∷ c' ∷ [])
