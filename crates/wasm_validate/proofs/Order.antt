-- From the parts of lists to the places of modules.
use Rattle.std.proofs.Common.{◌≡◌, ℕ, zero, suc, ◌+◌, ◌-◌, ◌<◌, ◌≤◌, ◌^◌, List, [], ◌∷◌, length, refl, sym, ap, subst, ◌∙◌, arith, inl, inr, ⊎_elim}
use Rattle.std.proofs.lemmas.Option.{slice_get_within}
use Rattle.std.proofs.lemmas.Bool.Decides.{nat_tests}
use Rattle.std.specs.Prelude.{Bool, true, false, nat_lt, if◌then◌else◌, Option, Some, None, slice_get, IfSome, ◌⊎◌}
use Rattle.wasm_syntax.specs.declared.place.Place.{Place}
use Rattle.wasm_syntax.specs.declared.place.Place.TheVariants.{TypeAt, ImportAt, Declaration, TableAt, MemoryAt, GlobalAt, ExportAt, Start, ElementAt, DataAt}
use Rattle.wasm_syntax.specs.declared.parts.Limits.{Limits}
use Rattle.wasm_syntax.specs.declared.module.ModuleParts.{ModuleParts as Module}
use Rattle.wasm_syntax.specs.Valid.{AtIndex, There, Fine, FirstInvalid, FuncTypeFine, ImportFine, DeclarationFine, TableFine, MemoryFine, GlobalFine, ExportFine, StartFine, ElementFine, DataFine, defined_index, kind_number, index_number}
use Rattle.wasm_validate.specs.inner.Places.{FineUpTo, FirstBad, UpTo, OneFine}
use Rattle.validate_body.proofs.Options.{none_is}
use Rattle.pm_text.proofs.Lists.{some_is}
use Rattle.wasm_syntax.proofs.Bodies.{index_of}

pub nothing_before : (m : Module) → UpTo m 0 0
nothing_before m other b = ⊎_elim (λ lt. absurd (omega arith)) (λ e. absurd (omega (arith, e.1))) b

-- one more, which is fine
pub fine_more : {A : Type 0} (xs : List A) (P : ℕ → A → Type 0) (i : ℕ) (x : A) → slice_get xs i ≡ Some x → P i x → FineUpTo xs P i → FineUpTo xs P (i + 1)
fine_more xs P i x e p f j y le h = by_place (below_or j i (omega arith))
  where
    below_or : (j i : ℕ) → j ≤ i → (j < i) ⊎ (j ≡ i)
    below_or j i le = elim_le j i le
      where
        elim_le : (j i : ℕ) → j ≤ i → (j < i) ⊎ (j ≡ i)
        elim_le zero zero le = inr refl
        elim_le zero (suc i) le = inl (omega arith)
        elim_le (suc j) zero le = absurd (omega arith)
        elim_le (suc j) (suc i) le = ⊎_elim (λ a. inl (omega (arith, a))) (λ b. inr (ap suc b)) (elim_le j i (omega arith))

    by_place : (j < i) ⊎ (j ≡ i) → P j y
    by_place o = ⊎_elim (λ a. f j y a h) (λ b. let q : x ≡ y = some_is (sym e ∙ ap (slice_get xs) (sym b) ∙ h) in subst (λ k. P k y) (sym b) (subst (λ z. P i z) q p)) o

pub fine_all : {A : Type 0} (xs : List A) (P : ℕ → A → Type 0) (i : ℕ) → length xs ≤ i → FineUpTo xs P i → AtIndex xs P
fine_all xs P i le f j x h = let w : j < length xs = slice_get_within xs j x h in f j x (omega arith) h

pub there_from : {A : Type 0} (xs : List A) (i : ℕ) (P : A → Type 0) → ((x : A) → slice_get xs i ≡ Some x → P x) → There xs i P
there_from {A} xs i P f = by_value (slice_get xs i) refl
  where
    by_value : (o : Option A) → slice_get xs i ≡ o → IfSome o P
    by_value None e = tt
    by_value (Some x) e = f x e

pub there_is : {A : Type 0} (xs : List A) (i : ℕ) (P : A → Type 0) (x : A) → slice_get xs i ≡ Some x → There xs i P → P x
there_is xs i P x e t = subst (λ o. IfSome o P) e t

-- ---- from one kind to the next

pub next_kind : (m : Module) (kind : ℕ) → UpTo m kind 0 → ((other : Place) → kind_number other ≡ kind → Fine m other) → UpTo m (kind + 1) 0
next_kind m kind u f other b = ⊎_elim (λ lt. ⊎_elim (λ a. u other (inl a)) (λ e. f other e) (below_or (kind_number other) kind (omega arith))) (λ e. absurd (omega (arith, e.1))) b
  where
    below_or : (j i : ℕ) → j ≤ i → (j < i) ⊎ (j ≡ i)
    below_or zero zero le = inr refl
    below_or zero (suc i) le = inl (omega arith)
    below_or (suc j) zero le = absurd (omega arith)
    below_or (suc j) (suc i) le = ⊎_elim (λ a. inl (omega (arith, a))) (λ b. inr (ap suc b)) (below_or j i (omega arith))

-- ---- at most one table, and one memory

pub one_only : (xs : List Limits) (P : ℕ → Limits → Type 0) (x : Limits) → ((i : ℕ) (y : Limits) → P i y → i ≡ 0) → slice_get xs 0 ≡ Some x → P 0 x → 1 < length xs → FirstBad xs P (Some 1)
one_only xs P x only e p le =
    let y = second xs le in
    ((y.0, y.1, λ f. absurd (let z : 1 ≡ 0 = only 1 y.0 f in omega arith)), first)
  where
    second : (xs : List Limits) → 1 < length xs → (y : Limits) × (slice_get xs 1 ≡ Some y)
    second [] le = absurd (omega arith)
    second (a ∷ []) le = absurd (omega arith)
    second (a ∷ b ∷ cs) le = (b, refl)

    first : FineUpTo xs P 1
    first zero z lt h = let q : x ≡ z = some_is (sym e ∙ h) in subst (λ k. P 0 k) q p
    first (suc j) z lt h = absurd (omega arith)

pub one_fine : (xs : List Limits) (P : ℕ → Limits → Type 0) (x : Limits) → slice_get xs 0 ≡ Some x → P 0 x → length xs ≤ 1 → AtIndex xs P
one_fine xs P x e p le zero z h = let q : x ≡ z = some_is (sym e ∙ h) in subst (λ k. P 0 k) q p
one_fine xs P x e p le (suc j) z h = let w : suc j < length xs = slice_get_within xs (suc j) z h in absurd (omega arith)

-- ---- types

pub types_fine : (m : Module) → UpTo m 0 0 → FirstBad m.types (λ i t. FuncTypeFine t) None → UpTo m 1 0
types_fine m u h = next_kind m 0 u same
  where
    same : (other : Place) → kind_number other ≡ 0 → Fine m other
    same (TypeAt i) e = there_from m.types i FuncTypeFine (λ x q. h i x q)
    same other e = absurd (omega arith)

pub types_bad : (m : Module) (i : ℕ) → UpTo m 0 0 → FirstBad m.types (λ i t. FuncTypeFine t) (Some i) → FirstInvalid m (TypeAt i)
types_bad m i u h = record {
  not_fine = λ f. h.0.2 (there_is m.types i FuncTypeFine h.0.0 h.0.1 f);
  earlier = λ other b. ⊎_elim (λ lt. u other (inl lt)) (λ e. same other e.0 e.1) b;
  offset = tt;
}
  where
    same : (other : Place) → kind_number other ≡ 0 → index_number other < i → Fine m other
    same (TypeAt j) e lt = there_from m.types j FuncTypeFine (λ x q. h.1 j x lt q)
    same other e lt = absurd (omega arith)

-- ---- imports

pub imports_fine : (m : Module) → UpTo m 1 0 → FirstBad m.imports (λ i x. ImportFine m x) None → UpTo m 2 0
imports_fine m u h = next_kind m 1 u same
  where
    same : (other : Place) → kind_number other ≡ 1 → Fine m other
    same (ImportAt i) e = there_from m.imports i (ImportFine m) (λ x q. h i x q)
    same other e = absurd (omega arith)

pub imports_bad : (m : Module) (i : ℕ) → UpTo m 1 0 → FirstBad m.imports (λ i x. ImportFine m x) (Some i) → FirstInvalid m (ImportAt i)
imports_bad m i u h = record {
  not_fine = λ f. h.0.2 (there_is m.imports i (ImportFine m) h.0.0 h.0.1 f);
  earlier = λ other b. ⊎_elim (λ lt. u other (inl lt)) (λ e. same other e.0 e.1) b;
  offset = tt;
}
  where
    same : (other : Place) → kind_number other ≡ 1 → index_number other < i → Fine m other
    same (ImportAt j) e lt = there_from m.imports j (ImportFine m) (λ x q. h.1 j x lt q)
    same other e lt = absurd (omega arith)

-- ---- tables

pub tables_fine : (m : Module) → UpTo m 3 0 → FirstBad m.tables (OneFine (2 ^ 32)) None → UpTo m 4 0
tables_fine m u h = next_kind m 3 u same
  where
    same : (other : Place) → kind_number other ≡ 3 → Fine m other
    same (TableAt i) e = there_from m.tables i (TableFine i) (λ x q. h i x q)
    same other e = absurd (omega arith)

pub tables_bad : (m : Module) (i : ℕ) → UpTo m 3 0 → FirstBad m.tables (OneFine (2 ^ 32)) (Some i) → FirstInvalid m (TableAt i)
tables_bad m i u h = record {
  not_fine = λ f. h.0.2 (there_is m.tables i (TableFine i) h.0.0 h.0.1 f);
  earlier = λ other b. ⊎_elim (λ lt. u other (inl lt)) (λ e. same other e.0 e.1) b;
  offset = tt;
}
  where
    same : (other : Place) → kind_number other ≡ 3 → index_number other < i → Fine m other
    same (TableAt j) e lt = there_from m.tables j (TableFine j) (λ x q. h.1 j x lt q)
    same other e lt = absurd (omega arith)

-- ---- memories

pub memories_fine : (m : Module) → UpTo m 4 0 → FirstBad m.memories (OneFine (2 ^ 16)) None → UpTo m 5 0
memories_fine m u h = next_kind m 4 u same
  where
    same : (other : Place) → kind_number other ≡ 4 → Fine m other
    same (MemoryAt i) e = there_from m.memories i (MemoryFine i) (λ x q. h i x q)
    same other e = absurd (omega arith)

pub memories_bad : (m : Module) (i : ℕ) → UpTo m 4 0 → FirstBad m.memories (OneFine (2 ^ 16)) (Some i) → FirstInvalid m (MemoryAt i)
memories_bad m i u h = record {
  not_fine = λ f. h.0.2 (there_is m.memories i (MemoryFine i) h.0.0 h.0.1 f);
  earlier = λ other b. ⊎_elim (λ lt. u other (inl lt)) (λ e. same other e.0 e.1) b;
  offset = tt;
}
  where
    same : (other : Place) → kind_number other ≡ 4 → index_number other < i → Fine m other
    same (MemoryAt j) e lt = there_from m.memories j (MemoryFine j) (λ x q. h.1 j x lt q)
    same other e lt = absurd (omega arith)

-- ---- globals

pub globals_fine : (m : Module) → UpTo m 5 0 → FirstBad m.globals (λ i g. GlobalFine g) None → UpTo m 6 0
globals_fine m u h = next_kind m 5 u same
  where
    same : (other : Place) → kind_number other ≡ 5 → Fine m other
    same (GlobalAt i) e = there_from m.globals i GlobalFine (λ x q. h i x q)
    same other e = absurd (omega arith)

pub globals_bad : (m : Module) (i : ℕ) → UpTo m 5 0 → FirstBad m.globals (λ i g. GlobalFine g) (Some i) → FirstInvalid m (GlobalAt i)
globals_bad m i u h = record {
  not_fine = λ f. h.0.2 (there_is m.globals i GlobalFine h.0.0 h.0.1 f);
  earlier = λ other b. ⊎_elim (λ lt. u other (inl lt)) (λ e. same other e.0 e.1) b;
  offset = tt;
}
  where
    same : (other : Place) → kind_number other ≡ 5 → index_number other < i → Fine m other
    same (GlobalAt j) e lt = there_from m.globals j GlobalFine (λ x q. h.1 j x lt q)
    same other e lt = absurd (omega arith)

-- ---- exports

pub exports_fine : (m : Module) → UpTo m 6 0 → FirstBad m.exports (ExportFine m) None → UpTo m 7 0
exports_fine m u h = next_kind m 6 u same
  where
    same : (other : Place) → kind_number other ≡ 6 → Fine m other
    same (ExportAt i) e = there_from m.exports i (ExportFine m i) (λ x q. h i x q)
    same other e = absurd (omega arith)

pub exports_bad : (m : Module) (i : ℕ) → UpTo m 6 0 → FirstBad m.exports (ExportFine m) (Some i) → FirstInvalid m (ExportAt i)
exports_bad m i u h = record {
  not_fine = λ f. h.0.2 (there_is m.exports i (ExportFine m i) h.0.0 h.0.1 f);
  earlier = λ other b. ⊎_elim (λ lt. u other (inl lt)) (λ e. same other e.0 e.1) b;
  offset = tt;
}
  where
    same : (other : Place) → kind_number other ≡ 6 → index_number other < i → Fine m other
    same (ExportAt j) e lt = there_from m.exports j (ExportFine m j) (λ x q. h.1 j x lt q)
    same other e lt = absurd (omega arith)

-- ---- elements

pub elements_fine : (m : Module) → UpTo m 8 0 → FirstBad m.elements (λ i e. ElementFine m e) None → UpTo m 9 0
elements_fine m u h = next_kind m 8 u same
  where
    same : (other : Place) → kind_number other ≡ 8 → Fine m other
    same (ElementAt i) e = there_from m.elements i (ElementFine m) (λ x q. h i x q)
    same other e = absurd (omega arith)

pub elements_bad : (m : Module) (i : ℕ) → UpTo m 8 0 → FirstBad m.elements (λ i e. ElementFine m e) (Some i) → FirstInvalid m (ElementAt i)
elements_bad m i u h = record {
  not_fine = λ f. h.0.2 (there_is m.elements i (ElementFine m) h.0.0 h.0.1 f);
  earlier = λ other b. ⊎_elim (λ lt. u other (inl lt)) (λ e. same other e.0 e.1) b;
  offset = tt;
}
  where
    same : (other : Place) → kind_number other ≡ 8 → index_number other < i → Fine m other
    same (ElementAt j) e lt = there_from m.elements j (ElementFine m) (λ x q. h.1 j x lt q)
    same other e lt = absurd (omega arith)

-- ---- segments

pub segments_fine : (m : Module) → UpTo m 9 0 → FirstBad m.segments (λ i s. DataFine m s) None → UpTo m 10 0
segments_fine m u h = next_kind m 9 u same
  where
    same : (other : Place) → kind_number other ≡ 9 → Fine m other
    same (DataAt i) e = there_from m.segments i (DataFine m) (λ x q. h i x q)
    same other e = absurd (omega arith)

pub segments_bad : (m : Module) (i : ℕ) → UpTo m 9 0 → FirstBad m.segments (λ i s. DataFine m s) (Some i) → FirstInvalid m (DataAt i)
segments_bad m i u h = record {
  not_fine = λ f. h.0.2 (there_is m.segments i (DataFine m) h.0.0 h.0.1 f);
  earlier = λ other b. ⊎_elim (λ lt. u other (inl lt)) (λ e. same other e.0 e.1) b;
  offset = tt;
}
  where
    same : (other : Place) → kind_number other ≡ 9 → index_number other < i → Fine m other
    same (DataAt j) e lt = there_from m.segments j (DataFine m) (λ x q. h.1 j x lt q)
    same other e lt = absurd (omega arith)

-- ---- declarations

pub index_back : (m : Module) (f i : ℕ) → defined_index m f ≡ Some i → f ≡ length m.imports + i
index_back m f i e = by_test (nat_lt f (length m.imports)) refl e
  where
    by_test : (b : Bool) → nat_lt f (length m.imports) ≡ b → (if b then None else Some (f - length m.imports)) ≡ Some i → f ≡ length m.imports + i
    by_test true t e = none_is e
    by_test false t e = let w : length m.imports ≤ f = grind (arith, nat_tests) in let q : f - length m.imports ≡ i = some_is e in omega arith

declared_fine : (m : Module) (f : ℕ) → ((i t : ℕ) → defined_index m f ≡ Some i → slice_get m.functions i ≡ Some t → DeclarationFine m t) → Fine m (Declaration f)
declared_fine m f h = by_index (defined_index m f) refl
  where
    by_index : (o : Option ℕ) → defined_index m f ≡ o → IfSome o (λ i. There m.functions i (DeclarationFine m))
    by_index None e = tt
    by_index (Some i) e = there_from m.functions i (DeclarationFine m) (λ x q. h i x e q)

pub declarations_fine : (m : Module) → UpTo m 2 0 → FirstBad m.functions (λ i t. DeclarationFine m t) None → UpTo m 3 0
declarations_fine m u h = next_kind m 2 u same
  where
    same : (other : Place) → kind_number other ≡ 2 → Fine m other
    same (Declaration f) e = declared_fine m f (λ i t d q. h i t q)
    same other e = absurd (omega arith)

pub declarations_bad : (m : Module) (i : ℕ) → UpTo m 2 0 → FirstBad m.functions (λ i t. DeclarationFine m t) (Some i) → FirstInvalid m (Declaration (length m.imports + i))
declarations_bad m i u h = record {
  not_fine = λ f.
      let t : There m.functions i (DeclarationFine m) = subst (λ o. IfSome o (λ j. There m.functions j (DeclarationFine m))) (index_of m i) f in
      h.0.2 (there_is m.functions i (DeclarationFine m) h.0.0 h.0.1 t);
  earlier = λ other b. ⊎_elim (λ lt. u other (inl lt)) (λ e. same other e.0 e.1) b;
  offset = tt;
}
  where
    same : (other : Place) → kind_number other ≡ 2 → index_number other < length m.imports + i → Fine m other
    same (Declaration f) e lt = declared_fine m f (λ j t d q. let w : f ≡ length m.imports + j = index_back m f j d in h.1 j t (omega (arith, w, lt)) q)
    same other e lt = absurd (omega arith)

-- ---- the start function

pub start_fine : (m : Module) → UpTo m 7 0 → IfSome m.start (StartFine m) → UpTo m 8 0
start_fine m u h = next_kind m 7 u same
  where
    same : (other : Place) → kind_number other ≡ 7 → Fine m other
    same Start e = h
    same other e = absurd (omega arith)

pub start_bad : (m : Module) → UpTo m 7 0 → (IfSome m.start (StartFine m) → ⊥) → FirstInvalid m Start
start_bad m u h = record {
  not_fine = h;
  earlier = λ other b. ⊎_elim (λ lt. u other (inl lt)) (λ e. same other e.0 e.1) b;
  offset = tt;
}
  where
    same : (other : Place) → kind_number other ≡ 7 → index_number other < 0 → Fine m other
    same other e lt = absurd (omega (arith, lt))

-- ---- the places before the globals, by all lists up to theirs

before_imports : (m : Module) → FirstBad m.types (λ i t. FuncTypeFine t) None → UpTo m 1 0
before_imports m = types_fine m (nothing_before m)

before_declarations : (m : Module) → FirstBad m.types (λ i t. FuncTypeFine t) None → FirstBad m.imports (λ i x. ImportFine m x) None → UpTo m 2 0
before_declarations m t x = imports_fine m (before_imports m t) x

before_tables : (m : Module) → FirstBad m.types (λ i t. FuncTypeFine t) None → FirstBad m.imports (λ i x. ImportFine m x) None → FirstBad m.functions (λ i t. DeclarationFine m t) None → UpTo m 3 0
before_tables m t x d = declarations_fine m (before_declarations m t x) d

before_memories : (m : Module) → FirstBad m.types (λ i t. FuncTypeFine t) None → FirstBad m.imports (λ i x. ImportFine m x) None → FirstBad m.functions (λ i t. DeclarationFine m t) None
    → FirstBad m.tables (OneFine (2 ^ 32)) None → UpTo m 4 0
before_memories m t x d l = tables_fine m (before_tables m t x d) l

pub first_type : (m : Module) (i : ℕ) → FirstBad m.types (λ i t. FuncTypeFine t) (Some i) → FirstInvalid m (TypeAt i)
first_type m i h = types_bad m i (nothing_before m) h

pub first_import : (m : Module) (i : ℕ) → FirstBad m.types (λ i t. FuncTypeFine t) None → FirstBad m.imports (λ i x. ImportFine m x) (Some i) → FirstInvalid m (ImportAt i)
first_import m i t h = imports_bad m i (before_imports m t) h

pub first_declaration : (m : Module) (n i : ℕ) → n ≡ length m.imports → FirstBad m.types (λ i t. FuncTypeFine t) None → FirstBad m.imports (λ i x. ImportFine m x) None
    → FirstBad m.functions (λ i t. DeclarationFine m t) (Some i) → FirstInvalid m (Declaration (n + i))
first_declaration m n i e t x h = subst (λ k. FirstInvalid m (Declaration (k + i))) (sym e) (declarations_bad m i (before_declarations m t x) h)

pub first_table : (m : Module) (i : ℕ) → FirstBad m.types (λ i t. FuncTypeFine t) None → FirstBad m.imports (λ i x. ImportFine m x) None → FirstBad m.functions (λ i t. DeclarationFine m t) None
    → FirstBad m.tables (OneFine (2 ^ 32)) (Some i) → FirstInvalid m (TableAt i)
first_table m i t x d h = tables_bad m i (before_tables m t x d) h

pub first_memory : (m : Module) (i : ℕ) → FirstBad m.types (λ i t. FuncTypeFine t) None → FirstBad m.imports (λ i x. ImportFine m x) None → FirstBad m.functions (λ i t. DeclarationFine m t) None
    → FirstBad m.tables (OneFine (2 ^ 32)) None → FirstBad m.memories (OneFine (2 ^ 16)) (Some i) → FirstInvalid m (MemoryAt i)
first_memory m i t x d l h = memories_bad m i (before_memories m t x d l) h

pub early_fine : (m : Module) → FirstBad m.types (λ i t. FuncTypeFine t) None → FirstBad m.imports (λ i x. ImportFine m x) None → FirstBad m.functions (λ i t. DeclarationFine m t) None
    → FirstBad m.tables (OneFine (2 ^ 32)) None → FirstBad m.memories (OneFine (2 ^ 16)) None → UpTo m 5 0
early_fine m t x d l h = memories_fine m (before_memories m t x d l) h

-- ---- the places from the globals up to the exports

pub first_export : (m : Module) (o : Option ℕ) (i : ℕ) → o ≡ Some i → UpTo m 5 0 → FirstBad m.globals (λ i g. GlobalFine g) None → FirstBad m.exports (ExportFine m) o → FirstInvalid m (ExportAt i)
first_export m o i e u g h = exports_bad m i (globals_fine m u g) (subst (λ o. FirstBad m.exports (ExportFine m) o) e h)

pub middle_fine : (m : Module) (o : Option ℕ) → o ≡ None → UpTo m 5 0 → FirstBad m.globals (λ i g. GlobalFine g) None → FirstBad m.exports (ExportFine m) o → UpTo m 7 0
middle_fine m o e u g h = exports_fine m (globals_fine m u g) (subst (λ o. FirstBad m.exports (ExportFine m) o) e h)

-- ---- the places behind those

pub first_element : (m : Module) (i : ℕ) → UpTo m 7 0 → IfSome m.start (StartFine m) → FirstBad m.elements (λ i e. ElementFine m e) (Some i) → FirstInvalid m (ElementAt i)
first_element m i u s h = elements_bad m i (start_fine m u s) h

pub first_segment : (m : Module) (i : ℕ) → UpTo m 7 0 → IfSome m.start (StartFine m) → FirstBad m.elements (λ i e. ElementFine m e) None → FirstBad m.segments (λ i s. DataFine m s) (Some i)
    → FirstInvalid m (DataAt i)
first_segment m i u s e h = segments_bad m i (elements_fine m (start_fine m u s) e) h

pub late_fine : (m : Module) → UpTo m 7 0 → IfSome m.start (StartFine m) → FirstBad m.elements (λ i e. ElementFine m e) None → FirstBad m.segments (λ i s. DataFine m s) None → UpTo m 10 0
late_fine m u s e h = segments_fine m (elements_fine m (start_fine m u s) e) h
