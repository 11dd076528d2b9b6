-- The calls of entries.
use Rattle.std.proofs.Common.{◌≡◌, ℕ, ◌-◌, ◌≤◌, List, [], ◌∷◌, ◌++◌, length, map, take, drop, ap, ◌∙◌, arith, append_assoc, append-nil, length-drop}
use Rattle.std.specs.Prelude.{flat_map}
use Rattle.std.specs.List.{AllByRecursion}
use Rattle.std.proofs.lemmas.List.{take-append-drop}
use Rattle.std.proofs.lemmas.Grind.{flat_map-append}
use Rattle.wasm_syntax.specs.declared.value.Value.{Value}
use Rattle.wasm_syntax.specs.declared.host.CollectorCall.{CollectorCall}
use Rattle.wasm_syntax.specs.declared.host.CollectorCall.TheVariants.{Frame}
use Rattle.dump_write.specs.Collected.{value_call, Entry, entry_calls, HaveKind}

-- the entry of values of which the last ones are the locals
abbrev pub entry_with : ℕ → ℕ → ℕ → ℕ → List Value → Entry
entry_with kind function offset locals vs = record {
  kind = kind;
  shown = record { function = function; offset = offset; locals = drop (length vs - locals) vs; operands = take (length vs - locals) vs };
}

pub entry_is : (kind function offset locals : ℕ) (vs : List Value) → locals ≤ length vs → entry_calls (entry_with kind function offset locals vs) ≡ map value_call vs ++ Frame kind function offset locals ∷ []
entry_is kind function offset locals vs there =
    let n = length vs - locals in
    let few : length (drop n vs) ≡ locals = omega (arith, length-drop n vs) in
    ap (λ (us : List Value). map value_call us ++ Frame kind function offset (length (drop n vs)) ∷ []) (take-append-drop n vs)
    ∙ ap (λ (m : ℕ). map value_call vs ++ Frame kind function offset m ∷ []) few

-- one more entry, of kind 0
zeros_more : (es : List Entry) (e : Entry) → e.kind ≡ 0 → AllByRecursion (λ e. e.kind ≡ 0) es → AllByRecursion (λ e. e.kind ≡ 0) (es ++ e ∷ [])
zeros_more [] e zero all = (zero, tt)
zeros_more (d ∷ es) e zero all = (all.0, zeros_more es e zero all.1)

pub kinds_more : (es : List Entry) (e : Entry) (kind : ℕ) → e.kind ≡ 0 → HaveKind es kind → HaveKind (es ++ e ∷ []) kind
kinds_more [] e kind zero have = absurd have
kinds_more (d ∷ es) e kind zero have = (have.0, zeros_more es e zero have.1)

pub calls_more : (es : List Entry) (e : Entry) → flat_map entry_calls (es ++ e ∷ []) ≡ flat_map entry_calls es ++ entry_calls e
calls_more es e = flat_map-append entry_calls es (e ∷ []) ∙ ap (λ (cs : List CollectorCall). flat_map entry_calls es ++ cs) (append-nil (entry_calls e))

-- a call behind calls behind calls
pub behind : (xs ys : List CollectorCall) (c : CollectorCall) → (xs ++ ys) ++ c ∷ [] ≡ xs ++ (ys ++ c ∷ [])
behind xs ys c = append_assoc xs ys (c ∷ [])
