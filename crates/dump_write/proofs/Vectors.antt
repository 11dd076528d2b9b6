-- Vectors of one element, and vectors of indices.
use Rattle.std.proofs.Common.{◌≡◌, ℕ, zero, suc, ◌+◌, List, [], ◌∷◌, ◌++◌, sym, ap, ◌∙◌, arith, add-one, append_assoc}
use Rattle.std.specs.Prelude.{Some, codes}
use Rattle.std.specs.List.{flat_map, range_with_len}
use Rattle.std.proofs.lemmas.List.{flat_map_more}
use Rattle.std.proofs.lemmas.List.FromFn.{length-range_with_len}
use Rattle.wasm_leb.specs.Writing.{unsigned_bytes}
use Rattle.dump_format.specs.declared.dump.Instance.{Instance}
use Rattle.dump_write.specs.Spelled.{name_bytes, vector_bytes, module_bytes, section_bytes, custom_bytes}
use Rattle.dump_write.specs.Canonical.{instance_bytes, modules_bytes, instances_bytes, memory_section}
use Rattle.dump_write.proofs.Lists.{flat_map-one}

pub vector_one : {X : Type 0} (f : X → List ℕ) (x : X) → vector_bytes f (x ∷ []) ≡ unsigned_bytes 1 ++ f x
unfolding vector_bytes
vector_one f x = ap (λ (bs : List ℕ). unsigned_bytes 1 ++ bs) (flat_map-one f x)

-- ---- sections that hold one element

pub modules_are : (name : List ℕ) → modules_bytes name ≡ section_bytes 0 ((name_bytes (codes "coremodules") ++ unsigned_bytes 1) ++ module_bytes name)
unfolding modules_bytes custom_bytes
modules_are name =
    ap (λ (bs : List ℕ). section_bytes 0 (name_bytes (codes "coremodules") ++ bs)) (vector_one module_bytes name)
    ∙ ap (section_bytes 0) (sym (append_assoc (name_bytes (codes "coremodules")) (unsigned_bytes 1) (module_bytes name)))

pub instances_are : (i : Instance) → instances_bytes i ≡ section_bytes 0 ((name_bytes (codes "coreinstances") ++ unsigned_bytes 1) ++ instance_bytes i)
unfolding instances_bytes custom_bytes
instances_are i =
    ap (λ (bs : List ℕ). section_bytes 0 (name_bytes (codes "coreinstances") ++ bs)) (vector_one instance_bytes i)
    ∙ ap (section_bytes 0) (sym (append_assoc (name_bytes (codes "coreinstances")) (unsigned_bytes 1) (instance_bytes i)))

pub memory_is : (pages : ℕ) → memory_section (Some pages) ≡ section_bytes 5 ((unsigned_bytes 1 ++ 0x00 ∷ []) ++ unsigned_bytes pages)
unfolding memory_section
memory_is pages =
    ap (section_bytes 5) (vector_one (λ (n : ℕ). 0x00 ∷ unsigned_bytes n) pages ∙ sym (append_assoc (unsigned_bytes 1) (0x00 ∷ []) (unsigned_bytes pages)))

-- ---- indices

pub range_more : (a n : ℕ) → range_with_len a (suc n) ≡ range_with_len a n ++ (a + n) ∷ []
range_more a zero = let same : a ≡ a + 0 = omega arith in ap (λ (m : ℕ). m ∷ []) same
range_more a (suc n) =
    let same : a + 1 + n ≡ a + suc n = omega arith in
    ap (λ (xs : List ℕ). a ∷ xs) (range_more (a + 1) n ∙ ap (λ (m : ℕ). range_with_len (a + 1) n ++ m ∷ []) same)

-- one index more was written
pub index_more : (f : ℕ → List ℕ) (start before after : List ℕ) (n : ℕ) → before ≡ start ++ flat_map f (range_with_len 0 n) → after ≡ before ++ f n → after ≡ start ++ flat_map f (range_with_len 0 (n + 1))
index_more f start before after n so_far more =
    let same : 0 + n ≡ n = omega arith in
    let grown : range_with_len 0 n ++ n ∷ [] ≡ range_with_len 0 (n + 1) = ap (λ (m : ℕ). range_with_len 0 n ++ m ∷ []) (sym same) ∙ sym (range_more 0 n) ∙ ap (range_with_len 0) (sym (add-one n)) in
    more ∙ ap (λ (bs : List ℕ). bs ++ f n) so_far ∙ flat_map_more f start (range_with_len 0 n) n ∙ ap (λ (xs : List ℕ). start ++ flat_map f xs) grown

-- all indices were written behind their count
pub indices_done : (f : ℕ → List ℕ) (start counted all : List ℕ) (count n : ℕ) → counted ≡ start ++ unsigned_bytes count → all ≡ counted ++ flat_map f (range_with_len 0 n) → n ≡ count → all ≡ start ++ vector_bytes f (range_with_len 0 count)
unfolding vector_bytes
indices_done f start counted all count n counts so_far same =
    so_far ∙ ap (λ (bs : List ℕ). bs ++ flat_map f (range_with_len 0 n)) counts
    ∙ append_assoc start (unsigned_bytes count) (flat_map f (range_with_len 0 n))
    ∙ ap (λ (m : ℕ). start ++ (unsigned_bytes count ++ flat_map f (range_with_len 0 m))) same
    ∙ ap (λ (m : ℕ). start ++ (unsigned_bytes m ++ flat_map f (range_with_len 0 count))) (sym (length-range_with_len 0 count))
