-- How many wrappers stand before those of an export.
use Rattle.std.proofs.Common.{◌≡◌, ℕ, zero, suc, ◌+◌, ◌<◌, ◌≤◌, List, [], ◌∷◌, ◌++◌, length, flat_map, get_or, map, take, drop, sym, ap, ap₂, subst, ◌∙◌, append_assoc, append-nil, length-append, arith}
use Rattle.std.proofs.lemmas.List.Folds.{length-flat_map-take}
use Rattle.std.proofs.Math.Seq.{drop-cons}
use Rattle.wasm_syntax.specs.declared.parts.Export.{Export}
use Rattle.wasm_syntax.specs.declared.module.ModuleParts.{ModuleParts as Module}
use Rattle.rewrite_bodies.specs.Numbering.{wraps}
use Rattle.rewrite_modules.specs.calls.Instrument.{new_exports, new_index}

-- no more than there are in all
pub few_before : (m : Module) (es : List Export) (i : ℕ) (d : Export) → i < length es → length (flat_map (wraps m) (take i es)) ≤ length (flat_map (wraps m) es)
few_before m es i d lt = let a = length-flat_map-take (wraps m) es i d lt in omega (arith, a)

-- the front of a list with one element more
front_more : (f : Export → List ℕ) (es : List Export) (i : ℕ) (d : Export) → i < length es → flat_map f (take i es) ++ f (get_or es i d) ≡ flat_map f (take (suc i) es)
front_more f [] i d lt = absurd (omega (arith, lt))
front_more f (e ∷ es) zero d lt = sym (append-nil (f e))
front_more f (e ∷ es) (suc i) d lt = append_assoc (f e) (flat_map f (take i es)) (f (get_or es i d)) ∙ ap (λ (l : List ℕ). f e ++ l) (front_more f es i d (omega (arith, lt)))

pub wrapped_more : (m : Module) (es : List Export) (i : ℕ) (d : Export) (out : List ℕ) → es ≡ m.exports → i < length es → out ≡ flat_map (wraps m) (take i m.exports) → out ++ wraps m (get_or es i d) ≡ flat_map (wraps m) (take (i + 1) m.exports)
wrapped_more m es i d out same lt e =
    let one : suc i ≡ i + 1 = omega arith in
    let within : i < length m.exports = subst (λ (l : List Export). i < length l) same lt in
    ap (λ (o : List ℕ). o ++ wraps m (get_or es i d)) e ∙ ap (λ (l : List Export). flat_map (wraps m) (take i m.exports) ++ wraps m (get_or l i d)) same ∙ front_more (wraps m) m.exports i d within
    ∙ ap (λ n. flat_map (wraps m) (take n m.exports)) one

-- how many wrappers one export more has before it
pub count_more : (m : Module) (i : ℕ) (x : Export) → i < length m.exports → x ≡ get_or m.exports i x → length (flat_map (wraps m) (take (i + 1) m.exports)) ≡ length (flat_map (wraps m) (take i m.exports)) + length (wraps m x)
count_more m i x lt is =
    let one : i + 1 ≡ suc i = omega arith in
    ap (λ n. length (flat_map (wraps m) (take n m.exports))) one ∙ ap length (sym (front_more (wraps m) m.exports i x lt)) ∙ length-append (flat_map (wraps m) (take i m.exports)) (wraps m (get_or m.exports i x))
    ∙ ap (λ (e : Export). length (flat_map (wraps m) (take i m.exports)) + length (wraps m e)) (sym is)

-- and the index of it
pub indices_more : (m : Module) (i : ℕ) (x : Export) (out new all_ : List ℕ) → i < length m.exports → x ≡ get_or m.exports i x → new ≡ out ++ new_index m (length (flat_map (wraps m) (take i m.exports))) (wraps m x) x.index ∷ [] →
    out ++ map (λ e. e.index) (new_exports m (length (flat_map (wraps m) (take i m.exports))) (drop i m.exports)) ≡ all_ →
    new ++ map (λ e. e.index) (new_exports m (length (flat_map (wraps m) (take (i + 1) m.exports))) (drop (i + 1) m.exports)) ≡ all_
indices_more m i x out new all_ lt is d s =
    let k = length (flat_map (wraps m) (take i m.exports)) in
    let own : List ℕ = new_index m k (wraps m x) x.index ∷ [] in
    let rest = drop (suc i) m.exports in
    let one : i + 1 ≡ suc i = omega arith in
    let whole : drop i m.exports ≡ x ∷ rest = drop-cons m.exports i x lt ∙ ap (λ (e : Export). e ∷ rest) (sym is) in
    ap (λ (l : List ℕ). l ++ map (λ e. e.index) (new_exports m (length (flat_map (wraps m) (take (i + 1) m.exports))) (drop (i + 1) m.exports))) d
    ∙ ap₂ (λ (n j : ℕ). (out ++ own) ++ map (λ e. e.index) (new_exports m n (drop j m.exports))) (count_more m i x lt is) one
    ∙ append_assoc out own (map (λ e. e.index) (new_exports m (k + length (wraps m x)) rest)) ∙ ap (λ (es : List Export). out ++ map (λ e. e.index) (new_exports m k es)) (sym whole) ∙ s
