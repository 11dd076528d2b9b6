-- An expression without addresses by index is computed exactly as it is spelled.
use Rattle.std.proofs.Common.{◌≡◌, ℕ, zero, suc, ◌+◌, ◌-◌, ◌<◌, ◌≤◌, Bool, true, false, List, [], ◌∷◌, ◌++◌, length, take, drop, Option, Some, None, Result, Ok, Err, refl, sym, ap, subst, ◌∙◌, arith, length-append}
use Rattle.std.specs.Prelude.{◌==◌, if◌then◌else◌, slice_range, option_map, IfOk}
use Rattle.std.proofs.Math.Seq.{drop-append_seam, take-append_seam}
use Rattle.wasm_bytes.specs.Place.{Place, Read}
use Rattle.wasm_bytes.specs.Reading.{mapped, byte_item, u64_item}
use Rattle.wasm_bytes.specs.Laws.{IsBytes, place, got, failed, IsExact, TakesBytes}
use Rattle.wasm_bytes.specs.calls.Spelling.{byte, u64}
use Rattle.wasm_bytes.proofs.Places.{IsBytes-rest}
use Rattle.wasm_bytes.proofs.Exact.{leads_exact, image_exact}
use Rattle.wasm_bytes.proofs.ExactItems.{byte_exact, u64_exact}
use Rattle.wasm_bytes.proofs.Takes.{leads_takes, byte_takes}
use Rattle.dwarf_bytes.specs.Format.{Format, read}
use Rattle.dwarf_bytes.specs.Items.{item_or_none}
use Rattle.dwarf_bytes.proofs.Formats.{format_exact}
use Rattle.dwarf_info.specs.declared.entry.Unit.{Unit as UnitTree}
use Rattle.dwarf_info.specs.Sections.{SectionBytes5}
use Rattle.dwarf_info.proofs.ValueLaws.{never_exact}
use Rattle.dwarf_loc.specs.Addresses.{Addresses, address_of}
use Rattle.dwarf_expr.specs.declared.operators.Operator.{Operator}
use Rattle.dwarf_expr.specs.Operators.{behind}
use Rattle.dwarf5_info.specs.Lists.{is_version5, addresses_of}
use Rattle.dwarf5_info.specs.Plain.{address_behind, address_item, replaced, plain, plain_from}
use Rattle.dwarf5_info.specs.Units.{plain_of}
use Rattle.dwarf5_info.specs.calls.PlainGrammar.{known, operand, operator, NoneStands, IsPlainFrom, IsPlain, IsPlainIf, IsPlainOf}
use Rattle.dwarf5_info.proofs.Turns.{goes_on, ends}

-- ---- one operator

known_exact : (o : Option (Format Operator)) → IsExact (known o) (item_or_none (option_map read o))
known_exact (Some f) = format_exact f
known_exact None = never_exact

operand_exact : (addresses : Addresses) (b : Bool) (opcode : ℕ)
    → IsExact (operand addresses b opcode) (if b then mapped addresses u64_item else mapped (λ op. None) (item_or_none (option_map read (behind opcode))))
operand_exact addresses true opcode = image_exact u64 addresses u64_item u64_exact
operand_exact addresses false opcode = image_exact (known (behind opcode)) (λ op. None) (item_or_none (option_map read (behind opcode))) (known_exact (behind opcode))

operator_exact : (addresses : Addresses) → IsExact (operator addresses) (address_item addresses)
unfolding address_item
operator_exact addresses =
    leads_exact byte (λ opcode. operand addresses (opcode == 0xa1) opcode) byte_item (address_behind addresses) byte_exact (λ opcode. operand_exact addresses (opcode == 0xa1) opcode)

operator_takes : (addresses : Addresses) → TakesBytes (operator addresses)
operator_takes addresses = leads_takes byte (λ opcode. operand addresses (opcode == 0xa1) opcode) byte_takes

-- ---- the rest behind it

behind_all : (before after : List ℕ) → drop (length before) (before ++ after) ≡ after
behind_all before after = drop-append_seam before after

front_part : (before after front rest : List ℕ) → after ≡ front ++ rest → slice_range (before ++ after) (length before) (length (before ++ front)) ≡ front
front_part before after front rest parts =
    let count : length (before ++ front) - length before ≡ length front = omega (arith, length-append before front) in
    ap (λ n. take n (drop (length before) (before ++ after))) count ∙ ap (take (length front)) (behind_all before after ∙ parts) ∙ take-append_seam front rest

by_one : (addresses : Addresses) (n : ℕ) (before after front rest : List ℕ) (address : Option ℕ) → after ≡ front ++ rest → address_item addresses (place before after) ≡ got address (place (before ++ front) rest)
    → plain_from addresses (suc n) (place before after) ≡ replaced address front ++ plain_from addresses n (place (before ++ front) rest)
by_one addresses n before after front rest address parts here =
    goes_on addresses n (place before after) (place (before ++ front) rest) address here
    ∙ ap (λ o. replaced address o ++ plain_from addresses n (place (before ++ front) rest)) (front_part before after front rest parts)

at_zero : (addresses : Addresses) (p : Place) → plain_from addresses zero p ≡ drop p.at p.block
unfolding plain_from
at_zero addresses p = refl

none_in_nothing : (addresses : Addresses) (at : ℕ) (after : List ℕ) → length after ≤ 0 → NoneStands addresses at after
none_in_nothing addresses at after empty address front rest s parts =
    let has : 0 < length front = operator_takes addresses address at front s in
    absurd (omega (arith, has, empty, ap length parts, length-append front rest))

-- ---- what is computed is so

abbrev Claim : Addresses → ℕ → Type 0
Claim addresses n = (before after : List ℕ) → IsBytes after → length after ≤ n
    → (operators : List (Option ℕ)) × IsPlainFrom addresses operators (length before) after (plain_from addresses n (place before after))

none_read : (addresses : Addresses) (before after : List ℕ) (o : ℕ) → address_item addresses (place before after) ≡ Err o → NoneStands addresses (length before) after
none_read addresses before after o e address front rest s parts =
    let again = (operator_exact addresses).again before front rest address s in
    let both : failed {A = Option ℕ} o ≡ got address (place (before ++ front) rest) = sym e ∙ ap (λ (t : List ℕ). address_item addresses (place before t)) parts ∙ again in
    absurd cc

by_reading : (addresses : Addresses) (n : ℕ) → Claim addresses n → (before after : List ℕ) → IsBytes after → length after ≤ suc n → (r : Read (Option ℕ)) → address_item addresses (place before after) ≡ r
    → (operators : List (Option ℕ)) × IsPlainFrom addresses operators (length before) after (plain_from addresses (suc n) (place before after))
by_reading addresses n more before after fits short (Ok x) e =
    let t = (operator_exact addresses).sound before after x.0 x.1 fits e in
    let has : 0 < length t.front = operator_takes addresses x.0 (length before) t.front t.is in
    let less : length t.rest ≤ n = omega (arith, short, has, ap length t.parts, length-append t.front t.rest) in
    let others = more (before ++ t.front) t.rest t.bytes less in
    let plain_rest = plain_from addresses n (place (before ++ t.front) t.rest) in
    let here : address_item addresses (place before after) ≡ got x.0 (place (before ++ t.front) t.rest) = e ∙ ap (got x.0) t.behind in
    let whole = by_one addresses n before after t.front t.rest x.0 t.parts here in
    let behind_it : IsPlainFrom addresses others.0 (length before + length t.front) t.rest plain_rest = subst (λ (k : ℕ). IsPlainFrom addresses others.0 k t.rest plain_rest) (length-append before t.front) others.1 in
    (x.0 ∷ others.0, (t.front, t.rest, plain_rest, t.is, t.parts, whole, behind_it))
by_reading addresses n more before after fits short (Err o) e =
    ([], (none_read addresses before after o e, ends addresses (suc n) (place before after) o e ∙ behind_all before after))

is_from : (addresses : Addresses) (n : ℕ) → Claim addresses n
is_from addresses zero before after fits short = ([], (none_in_nothing addresses (length before) after short, at_zero addresses (place before after) ∙ behind_all before after))
is_from addresses (suc n) before after fits short = by_reading addresses n (is_from addresses n) before after fits short (address_item addresses (place before after)) refl

-- ---- nothing else is

abbrev Only : Addresses → ℕ → Type 0
Only addresses n = (operators : List (Option ℕ)) (before after plain : List ℕ) → IsBytes after → length after ≤ n
    → IsPlainFrom addresses operators (length before) after plain → plain ≡ plain_from addresses n (place before after)

unread_by : (addresses : Addresses) (n : ℕ) (before after : List ℕ) → IsBytes after → NoneStands addresses (length before) after → (r : Read (Option ℕ)) → address_item addresses (place before after) ≡ r
    → plain_from addresses (suc n) (place before after) ≡ after
unread_by addresses n before after fits none (Ok x) e =
    let t = (operator_exact addresses).sound before after x.0 x.1 fits e in
    absurd (none x.0 t.front t.rest t.is t.parts)
unread_by addresses n before after fits none (Err o) e = ends addresses (suc n) (place before after) o e ∙ behind_all before after

unread_from : (addresses : Addresses) (n : ℕ) (before after : List ℕ) → IsBytes after → NoneStands addresses (length before) after → plain_from addresses n (place before after) ≡ after
unread_from addresses zero before after fits none = at_zero addresses (place before after) ∙ behind_all before after
unread_from addresses (suc n) before after fits none = unread_by addresses n before after fits none (address_item addresses (place before after)) refl

only_from : (addresses : Addresses) (n : ℕ) → Only addresses n
only_from addresses n [] before after plain fits short h = h.1 ∙ sym (unread_from addresses n before after fits h.0)
only_from addresses zero (address ∷ others) before after plain fits short h = absurd (none_in_nothing addresses (length before) after short address h.0 h.1 h.3 h.4)
only_from addresses (suc n) (address ∷ others) before after plain fits short h =
    let front = h.0 in let rest = h.1 in let more = h.2 in
    let has : 0 < length front = operator_takes addresses address (length before) front h.3 in
    let less : length rest ≤ n = omega (arith, short, has, ap length h.4, length-append front rest) in
    let again = (operator_exact addresses).again before front rest address h.3 in
    let here : address_item addresses (place before after) ≡ got address (place (before ++ front) rest) = ap (λ (t : List ℕ). address_item addresses (place before t)) h.4 ∙ again in
    let others_are = only_from addresses n others (before ++ front) rest more (IsBytes-rest front rest (subst IsBytes h.4 fits)) less
    (subst (λ (k : ℕ). IsPlainFrom addresses others k rest more) (sym (length-append before front)) h.6) in
    h.5 ∙ ap (λ xs. replaced address front ++ xs) others_are ∙ sym (by_one addresses n before after front rest address h.4 here)

-- ---- the whole

plain_is : (addresses : Addresses) (bytes : List ℕ) → IsBytes bytes → IsPlain addresses bytes (plain addresses bytes)
unfolding plain
plain_is addresses bytes fits = is_from addresses (length bytes) [] bytes fits (omega arith)

plain_only : (addresses : Addresses) (bytes other : List ℕ) → IsBytes bytes → IsPlain addresses bytes other → other ≡ plain addresses bytes
unfolding plain
plain_only addresses bytes other fits is = only_from addresses (length bytes) is.0 [] bytes other fits (omega arith) is.1

is_if : (b : Bool) (addresses : Addresses) (bytes : List ℕ) → IsBytes bytes → IsPlainIf b addresses bytes (if b then plain addresses bytes else bytes)
is_if true addresses bytes fits = plain_is addresses bytes fits
is_if false addresses bytes fits = refl

only_if : (b : Bool) (addresses : Addresses) (bytes other : List ℕ) → IsBytes bytes → IsPlainIf b addresses bytes other → other ≡ (if b then plain addresses bytes else bytes)
only_if true addresses bytes other fits is = plain_only addresses bytes other fits is
only_if false addresses bytes other fits is = is

-- what was answered
pub answered_is : {E : Type 0} (s : SectionBytes5) (u : UnitTree) (expr : List ℕ) (r : Result (List ℕ) E) → IsBytes expr → IfOk r (λ bytes. bytes ≡ plain_of s u expr) → IfOk r (IsPlainOf s u expr)
answered_is s u expr (Ok bytes) fits is = subst (IsPlainOf s u expr) (sym is) (is_if (is_version5 u) (address_of (addresses_of s u)) expr fits)
answered_is s u expr (Err e) fits is = tt

pub answered_only : {E : Type 0} (s : SectionBytes5) (u : UnitTree) (expr : List ℕ) (r : Result (List ℕ) E) → IsBytes expr → IfOk r (λ bytes. bytes ≡ plain_of s u expr)
    → IfOk r (λ bytes. (other : List ℕ) → IsPlainOf s u expr other → other ≡ bytes)
answered_only s u expr (Ok bytes) fits is = λ other o. only_if (is_version5 u) (address_of (addresses_of s u)) expr other fits o ∙ sym is
answered_only s u expr (Err e) fits is = tt
