-- The locals that are worked out where a frame is left are written.
use Rattle.std.proofs.Common.{◌≡◌, ℕ, suc, ◌+◌, ◌<◌, ◌≤◌, List, [], ◌∷◌, length, drop, map, get_or, ap, subst, ◌∙◌, arith}
use Rattle.std.proofs.lemmas.List.{length-map, get_or-map, drop_all}
use Rattle.std.proofs.Math.Seq.{drop-cons}
use Rattle.wasm_syntax.specs.declared.instruction.Basic.TheVariants.{LocalGet, LocalSet}
use Rattle.wasm_syntax.specs.Tree.{Nodes, basic}
use Rattle.rewrite_bodies.specs.calls.Slots.{Derivation}
use Rattle.rewrite_bodies.specs.calls.Rewrite.{worked_out}
use Rattle.rewrite_code.specs.declared.derivation.Derivation.{Derivation as Kept}
use Rattle.rewrite_code.specs.calls.KeptDerivations.{derivation}
use Rattle.rewrite_code.specs.calls.Writing.{Written, Behind, goes, Emits}
use Rattle.rewrite_code.proofs.Pieces.{emits_then}

pub worked : (d : Derivation) {a b c e f : Written} → Emits (basic 0 (LocalGet d.left)) a b → Emits (basic 0 (LocalGet d.right)) b c → Emits (basic 0 d.instruction) c e → Emits (basic 0 (LocalSet d.made)) e f → Emits (worked_out (d ∷ [])) a f
worked d p q r s = emits_then p (emits_then q (emits_then r s))

-- what the loop has come to, where so many are written
abbrev pub Working : List Derivation → ℕ → Written → Written → Type 0
Working ds n old new = (k : Nodes) (behind : List Behind) → goes old (worked_out ds k) behind ≡ goes new (worked_out (drop n ds) k) behind

pub working_step : (ks : List Kept) (n : ℕ) (d : Kept) (old : Written) {a b : Written} → n < length ks → Working (map derivation ks) n old a → Emits (worked_out (derivation (get_or ks n d) ∷ [])) a b → Working (map derivation ks) (n + 1) old b
working_step ks n d old {a} {b} lt o p k behind =
    let ds = map derivation ks in
    let below : n < length ds = omega (arith, lt, length-map ks derivation) in
    let one : suc n ≡ n + 1 = omega arith in
    let here : get_or ds n (derivation d) ≡ derivation (get_or ks n d) = get_or-map derivation ks n d (derivation d) lt in
    o k behind
    ∙ ap (λ es. goes a (worked_out es k) behind) (drop-cons ds n (derivation d) below)
    ∙ ap (λ e. goes a (worked_out (e ∷ drop (suc n) ds) k) behind) here
    ∙ p.emitted (worked_out (drop (suc n) ds) k) behind
    ∙ ap (λ j. goes b (worked_out (drop j ds) k) behind) one

pub working_done : (ks : List Kept) (ds : List Derivation) (n : ℕ) (old : Written) {a : Written} → map derivation ks ≡ ds → length ks ≤ n → Working (map derivation ks) n old a → Emits (worked_out ds) old a
working_done ks ds n old {a} same le o =
    let none : drop n (map derivation ks) ≡ [] = drop_all n (map derivation ks) (omega (arith, le, length-map ks derivation)) in
    subst (λ es. Emits (worked_out es) old a) same (record { emitted = λ k behind. o k behind ∙ ap (λ es. goes a (worked_out es k) behind) none })
