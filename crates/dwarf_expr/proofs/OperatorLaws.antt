-- The operators that are computed are those of the expression.
use Rattle.std.proofs.Common.{◌≡◌, ℕ, zero, suc, ◌+◌, ◌≤◌, List, [], ◌∷◌, ◌++◌, length, Option, Some, None, Ok, Err, refl, sym, ap, subst, ◌∙◌, arith, length-append}
use Rattle.std.proofs.lemmas.List.{nil_from_length}
use Rattle.wasm_bytes.specs.Place.{Place, Read}
use Rattle.wasm_bytes.specs.Reading.{byte_of, byte_item}
use Rattle.wasm_bytes.specs.Laws.{IsBytes, place, got, failed, Took}
use Rattle.wasm_bytes.proofs.Places.{IsBytes-rest, place_behind, byte_here}
use Rattle.dwarf_bytes.specs.Format.{Format, spelled, read}
use Rattle.dwarf_bytes.proofs.Formats.{format_exact}
use Rattle.dwarf_expr.specs.declared.operators.Operator.{Operator}
use Rattle.dwarf_expr.specs.declared.operators.Begun.{Begun}
use Rattle.dwarf_expr.specs.declared.operators.Begun.TheVariants.{Known, Cut, Foreign}
use Rattle.dwarf_expr.specs.declared.operators.PlacedOperator.{PlacedOperator}
use Rattle.dwarf_expr.specs.Operators.{behind}
use Rattle.dwarf_expr.specs.Decode.{IsBegun, AreOperators, placed, begun_by, begun_at, with_others, from_opcode, operators_from, operators}

-- what is claimed of at most so many operators
abbrev Claim : ℕ → Type 0
Claim n = (before after : List ℕ) → IsBytes after → length after ≤ n → AreOperators (operators_from n (place before after)) (length before) after

-- behind an operator that was read
goes_on : (n : ℕ) → Claim n → (front bs : List ℕ) (f : Format Operator) (op : Operator) (q : Place) → IsBytes bs → length bs ≤ n → Took (spelled f) front bs op q
    → (some : List ℕ) × (rest : List ℕ) × spelled f op (length front) some × (bs ≡ some ++ rest) × AreOperators (operators_from n q) (length front + length some) rest
goes_on n more front bs f op q fits short t =
    let less : length t.rest ≤ n = omega (arith, short, ap length t.parts, length-append t.front t.rest) in
    let others = more (front ++ t.front) t.rest t.bytes less in
    let here = subst (λ (p : Place). AreOperators (operators_from n p) (length (front ++ t.front)) t.rest) (sym t.behind) others in
    (t.front, t.rest, t.is, t.parts, subst (λ (k : ℕ). AreOperators (operators_from n q) k t.rest) (length-append front t.front) here)

-- by what reading gives
by_reading : (n : ℕ) → Claim n → (before bs : List ℕ) (b : ℕ) (f : Format Operator) → IsBytes bs → length bs ≤ n → behind b ≡ Some f
    → (r : Read Operator) → read f (place (before ++ b ∷ []) bs) ≡ r
    → AreOperators (with_others (length before) b (begun_by (place (before ++ b ∷ []) bs) r) (λ q. operators_from n q)) (length before) (b ∷ bs)
by_reading n more before bs b f fits short is (Ok x) e =
    let one : length (before ++ b ∷ []) ≡ length before + 1 = length-append before (b ∷ []) in
    let t = (format_exact f).sound (before ++ b ∷ []) bs x.0 x.1 fits e in
    let g = goes_on n more (before ++ b ∷ []) bs f x.0 x.1 fits short t in
    (bs, refl, refl, (f, is, g.0, g.1, subst (λ (k : ℕ). spelled f x.0 k g.0) one g.2, g.3, subst (λ (k : ℕ). AreOperators (operators_from n x.1) (k + length g.0) g.1) one g.4))
by_reading n more before bs b f fits short is (Err o) e =
    let one : length (before ++ b ∷ []) ≡ length before + 1 = length-append before (b ∷ []) in (
      bs,
      refl,
      refl,
      (
        f,
        is,
        (λ op some rest s parts.
            let again = (format_exact f).again (before ++ b ∷ []) some rest op (subst (λ (k : ℕ). spelled f op k some) (sym one) s) in
            let both : failed {A = Operator} o ≡ got op (place ((before ++ b ∷ []) ++ some) rest) = sym e ∙ ap (λ (t : List ℕ). read f (place (before ++ b ∷ []) t)) parts ∙ again in
            absurd cc),
        refl,
      ),
    )

by_format : (n : ℕ) → Claim n → (before bs : List ℕ) (b : ℕ) → IsBytes bs → length bs ≤ n → (found : Option (Format Operator)) → behind b ≡ found
    → AreOperators (with_others (length before) b (begun_at (place (before ++ b ∷ []) bs) found) (λ q. operators_from n q)) (length before) (b ∷ bs)
by_format n more before bs b fits short (Some f) is = by_reading n more before bs b f fits short is (read f (place (before ++ b ∷ []) bs)) refl
by_format n more before bs b fits short None is = (bs, refl, refl, (is, refl))

-- by what is left
by_rest : (n : ℕ) → Claim n → (before after : List ℕ) → IsBytes after → length after ≤ suc n → AreOperators (from_opcode (length before) (byte_item (place before after)) (λ q. operators_from n q)) (length before) after
unfolding byte_item
by_rest n more before [] fits short = subst (λ (o : Option ℕ). AreOperators (from_opcode (length before) (byte_of (place before []) o) (λ q. operators_from n q)) (length before) []) (sym (byte_here before [])) refl
by_rest n more before (b ∷ bs) fits short =
    let next : (let p : Place = record { block = before ++ b ∷ bs; at = length before + 1 } in p ≡ place (before ++ b ∷ []) bs) = place_behind before (b ∷ []) bs (length before + 1) refl in
    let all = by_format n more before bs b (IsBytes-rest (b ∷ []) bs fits) (omega (arith, short)) (behind b) refl in
    let here = subst (λ (p : Place). AreOperators (with_others (length before) b (begun_at p (behind b)) (λ q. operators_from n q)) (length before) (b ∷ bs)) (sym next) all in
    subst (λ (o : Option ℕ). AreOperators (from_opcode (length before) (byte_of (place before (b ∷ bs)) o) (λ q. operators_from n q)) (length before) (b ∷ bs)) (sym (byte_here before (b ∷ bs))) here

pub operators_from_are : (n : ℕ) → Claim n
unfolding operators_from
operators_from_are zero before after fits short = nil_from_length after (omega (arith, short))
operators_from_are (suc n) before after fits short = by_rest n (operators_from_are n) before after fits short

-- What is computed are the operators of the bytes.
pub operators_are : (bytes : List ℕ) → IsBytes bytes → AreOperators (operators bytes) 0 bytes
unfolding operators
operators_are bytes fits = operators_from_are (length bytes) [] bytes fits (omega arith)

-- ---- no other list is

abbrev Only : ℕ → Type 0
Only n = (xs : List PlacedOperator) (before after : List ℕ) → IsBytes after → length after ≤ n → AreOperators xs (length before) after → xs ≡ operators_from n (place before after)

-- what is listed behind an opcode, by what stands behind that
abbrev listed : ℕ → List ℕ → ℕ → List ℕ → Option (Format Operator) → List PlacedOperator
listed n before opcode bs found = with_others (length before) opcode (begun_at (place (before ++ opcode ∷ []) bs) found) (λ q. operators_from n q)

abbrev listed_read : ℕ → List ℕ → ℕ → List ℕ → Read Operator → List PlacedOperator
listed_read n before opcode bs r = with_others (length before) opcode (begun_by (place (before ++ opcode ∷ []) bs) r) (λ q. operators_from n q)

-- Nothing that stands there is spelled, so nothing is read.
cut_only : (n : ℕ) (before bs : List ℕ) (opcode : ℕ) (f : Format Operator) → IsBytes bs → ((op : Operator) (front rest : List ℕ) → spelled f op (length before + 1) front → bs ≡ front ++ rest → ⊥)
    → (r : Read Operator) → read f (place (before ++ opcode ∷ []) bs) ≡ r → placed (length before) opcode Cut ∷ [] ≡ listed_read n before opcode bs r
cut_only n before bs opcode f fits none (Ok x) e =
    let one : length (before ++ opcode ∷ []) ≡ length before + 1 = length-append before (opcode ∷ []) in
    let t = (format_exact f).sound (before ++ opcode ∷ []) bs x.0 x.1 fits e in
    absurd (none x.0 t.front t.rest (subst (λ (k : ℕ). spelled f x.0 k t.front) one t.is) t.parts)
cut_only n before bs opcode f fits none (Err o) e = refl

only_begun : (n : ℕ) → Only n → (xs : List PlacedOperator) (before bs : List ℕ) (opcode : ℕ) (begun : Begun) → IsBytes bs → length bs ≤ n → IsBegun (length before + 1) bs opcode begun (AreOperators xs) (xs ≡ [])
    → placed (length before) opcode begun ∷ xs ≡ listed n before opcode bs (behind opcode)
only_begun n more xs before bs opcode (Known op) fits short b =
    let one : length (before ++ opcode ∷ []) ≡ length before + 1 = length-append before (opcode ∷ []) in
    let again = (format_exact b.0).again (before ++ opcode ∷ []) b.2 b.3 op (subst (λ (k : ℕ). spelled b.0 op k b.2) (sym one) b.4) in
    let here : read b.0 (place (before ++ opcode ∷ []) bs) ≡ got op (place ((before ++ opcode ∷ []) ++ b.2) b.3) = ap (λ (t : List ℕ). read b.0 (place (before ++ opcode ∷ []) t)) b.5 ∙ again in
    let len : length ((before ++ opcode ∷ []) ++ b.2) ≡ length before + 1 + length b.2 = length-append (before ++ opcode ∷ []) b.2 ∙ ap (λ (k : ℕ). k + length b.2) one in
    let less : length b.3 ≤ n = omega (arith, short, ap length b.5, length-append b.2 b.3) in
    let others = more xs ((before ++ opcode ∷ []) ++ b.2) b.3 (IsBytes-rest b.2 b.3 (subst IsBytes b.5 fits)) less (subst (λ (k : ℕ). AreOperators xs k b.3) (sym len) b.6) in
    ap (λ (ys : List PlacedOperator). placed (length before) opcode (Known op) ∷ ys) others
    ∙ sym (ap (listed_read n before opcode bs) here)
    ∙ sym (ap (listed n before opcode bs) b.1)
only_begun n more xs before bs opcode Cut fits short b =
    ap (λ (ys : List PlacedOperator). placed (length before) opcode Cut ∷ ys) b.3
    ∙ cut_only n before bs opcode b.0 fits b.2 (read b.0 (place (before ++ opcode ∷ []) bs)) refl
    ∙ sym (ap (listed n before opcode bs) b.1)
only_begun n more xs before bs opcode Foreign fits short b =
    ap (λ (ys : List PlacedOperator). placed (length before) opcode Foreign ∷ ys) b.1
    ∙ sym (ap (listed n before opcode bs) b.0)

-- the operators at a place, by the byte that stands there
at_opcode : (n : ℕ) (before bs : List ℕ) (b : ℕ) → operators_from (suc n) (place before (b ∷ bs)) ≡ listed n before b bs (behind b)
unfolding operators_from byte_item
at_opcode n before bs b =
    let next : (let p : Place = record { block = before ++ b ∷ bs; at = length before + 1 } in p ≡ place (before ++ b ∷ []) bs) = place_behind before (b ∷ []) bs (length before + 1) refl in
    ap (λ (o : Option ℕ). from_opcode (length before) (byte_of (place before (b ∷ bs)) o) (λ q. operators_from n q)) (byte_here before (b ∷ bs))
    ∙ ap (λ (p : Place). with_others (length before) b (begun_at p (behind b)) (λ q. operators_from n q)) next

at_the_end : (n : ℕ) (before : List ℕ) → operators_from n (place before []) ≡ []
unfolding operators_from byte_item
at_the_end zero before = refl
at_the_end (suc n) before = ap (λ (o : Option ℕ). from_opcode (length before) (byte_of (place before []) o) (λ q. operators_from n q)) (byte_here before [])

-- an operator where it stands
placed_is : (x : PlacedOperator) (at opcode : ℕ) → x.at ≡ at → x.opcode ≡ opcode → x ≡ placed at opcode x.begun
placed_is x at opcode e f i = placed (e i) (f i) x.begun

only_first : (n : ℕ) → Only n → (x : PlacedOperator) (xs : List PlacedOperator) (before bs : List ℕ) (b : ℕ) → IsBytes (b ∷ bs) → length (b ∷ bs) ≤ suc n → AreOperators (x ∷ xs) (length before) (b ∷ bs)
    → x ∷ xs ≡ operators_from (suc n) (place before (b ∷ bs))
only_first n more x xs before bs b fits short a =
    let opcode : x.opcode ≡ b = cc in
    let rest : a.0 ≡ bs = cc in
    let begun : IsBegun (length before + 1) bs b x.begun (AreOperators xs) (xs ≡ []) = subst (λ (o : ℕ). IsBegun (length before + 1) bs o x.begun (AreOperators xs) (xs ≡ [])) opcode (subst (λ (t : List ℕ). IsBegun (length before + 1) t x.opcode x.begun (AreOperators xs) (xs ≡ [])) rest a.3) in
    ap (λ (y : PlacedOperator). y ∷ xs) (placed_is x (length before) b a.2 opcode)
    ∙ only_begun n more xs before bs b x.begun (IsBytes-rest (b ∷ []) bs fits) (omega (arith, short)) begun
    ∙ sym (at_opcode n before bs b)

only_from : (n : ℕ) → Only n
only_from n [] before [] fits short a = sym (at_the_end n before)
only_from n [] before (b ∷ bs) fits short a = absurd cc
only_from n (x ∷ xs) before [] fits short a = let e = a.1 in absurd cc
only_from zero (x ∷ xs) before (b ∷ bs) fits short a = absurd (omega (arith, short))
only_from (suc n) (x ∷ xs) before (b ∷ bs) fits short a = only_first n (only_from n) x xs before bs b fits short a

-- No other list is that of the operators of the bytes.
pub operators_only : (bytes : List ℕ) (xs : List PlacedOperator) → IsBytes bytes → AreOperators xs 0 bytes → xs ≡ operators bytes
unfolding operators
operators_only bytes xs fits a = only_from (length bytes) xs [] bytes fits (omega arith) a
