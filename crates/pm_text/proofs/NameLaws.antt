-- The bytes of a character beyond ASCII stand in a name as they are.
use Rattle.std.proofs.Common.{◌≡◌, ℕ, zero, suc, ◌≤◌, ◌<◌, Bool, true, false, cond, List, [], ◌∷◌, ◌++◌, length, get_or, refl, sym, ap, inl, inr, ◌∙◌, append_assoc, arith}
use Rattle.std.proofs.lemmas.Bool.{cases_lt}
use Rattle.std.proofs.lemmas.List.{append-nil}
use Rattle.std.proofs.lemmas.Bool.Decides.{nat_tests}
use Rattle.std.proofs.lemmas.Grind.{flat_map-append}
use Rattle.std.proofs.lemmas.Str.{inside_one, encode_ascii, encodes-append, is_utf8-from_IsUtf8, IsUtf8-from_is_utf8}
use Rattle.std.specs.List.{flat_map}
use Rattle.std.specs.Str.{IsUtf8, is_utf8}
use Rattle.std.specs.Prelude.{encode_utf8, encode_utf8_all}
use Rattle.pm_text.specs.declared.names.Marks.{Marks}
use Rattle.pm_text.specs.declared.names.Marks.TheVariants.{Bare, Quotation}
use Rattle.pm_text.specs.Names.{plain_byte, quoted_byte, outside_text, name_bytes, marked_byte}

plain_high : (b : ℕ) → 128 ≤ b → plain_byte b ≡ b ∷ []
plain_high b h = grind (arith, nat_tests)

quoted_high : (b : ℕ) → 128 ≤ b → quoted_byte b ≡ b ∷ []
quoted_high b h = grind (arith, nat_tests)

marked_high : (marks : Marks) (b : ℕ) → 128 ≤ b → marked_byte marks b ≡ b ∷ []
unfolding marked_byte
marked_high Bare b h = plain_high b h
marked_high Quotation b h = quoted_high b h

-- bytes that all stand as they are
marked_all : (marks : Marks) (bytes : List ℕ) → ((k : ℕ) → k < length bytes → 128 ≤ get_or bytes k 0) → flat_map (marked_byte marks) bytes ≡ bytes
marked_all marks [] high = refl
marked_all marks (b ∷ bytes) high =
    let first : marked_byte marks b ≡ b ∷ [] = marked_high marks b (high zero (omega arith)) in
    let others : flat_map (marked_byte marks) bytes ≡ bytes = marked_all marks bytes (λ k l. high (suc k) (omega arith)) in
    rw (first, others) refl

encoded_high : (c : ℕ) → 128 ≤ c → (k : ℕ) → k < length (encode_utf8 c) → 128 ≤ get_or (encode_utf8 c) k 0
encoded_high c h k l = elim (cases_lt (get_or (encode_utf8 c) k 0) 128) [
  | inl low ↦ let same : c ≡ get_or (encode_utf8 c) k 0 = inside_one c [] (encode_utf8 c) k (sym (append-nil _)) l low in absurd (omega arith)
  | inr high ↦ high
]

pub char_high : (marks : Marks) (c : ℕ) → 128 ≤ c → flat_map (marked_byte marks) (encode_utf8 c) ≡ encode_utf8 c
char_high marks c h = marked_all marks (encode_utf8 c) (encoded_high c h)

pub char_ascii : (marks : Marks) (c : ℕ) → c < 128 → flat_map (marked_byte marks) (encode_utf8 c) ≡ marked_byte marks c
char_ascii marks c h = rw (encode_ascii c h) (append-nil (marked_byte marks c))

-- one character more
pub text_more : (marks : Marks) (old out mid rest text : List ℕ) (cs : List ℕ) (c : ℕ) → out ≡ old ++ flat_map (marked_byte marks) (encode_utf8_all cs) → encode_utf8_all cs ++ (encode_utf8 c ++ rest) ≡ text → mid ≡ out ++ flat_map (marked_byte marks) (encode_utf8 c)
    → (mid ≡ old ++ flat_map (marked_byte marks) (encode_utf8_all (cs ++ c ∷ []))) × (encode_utf8_all (cs ++ c ∷ []) ++ rest ≡ text)
text_more marks old out mid rest text cs c so_far left pushed =
    let f = marked_byte marks in
    let all : encode_utf8_all (cs ++ c ∷ []) ≡ encode_utf8_all cs ++ encode_utf8 c = encodes-append cs (c ∷ []) ∙ ap (λ l. encode_utf8_all cs ++ l) (append-nil (encode_utf8 c)) in (
      pushed ∙ ap (λ l. l ++ flat_map f (encode_utf8 c)) so_far ∙ append_assoc old (flat_map f (encode_utf8_all cs)) (flat_map f (encode_utf8 c)) ∙ ap (λ l. old ++ l) (sym (flat_map-append f (encode_utf8_all cs) (encode_utf8 c)) ∙ ap (flat_map f) (sym all)),
      ap (λ l. l ++ rest) all ∙ append_assoc (encode_utf8_all cs) (encode_utf8 c) rest ∙ left,
    )

pub name_of_text : (byte : ℕ → List ℕ) (name : List ℕ) → IsUtf8 name → name_bytes byte name ≡ flat_map byte name
name_of_text byte name text = ap (λ b. cond b (flat_map byte name) (flat_map (outside_text byte) name)) (is_utf8-from_IsUtf8 name text)

pub not_text : (name : List ℕ) (b : Bool) → is_utf8 name ≡ b → (IsUtf8 name → ⊥) → b ≡ false
not_text name true e not = absurd (not (IsUtf8-from_is_utf8 name e))
not_text name false e not = refl

pub name_of_bytes : (byte : ℕ → List ℕ) (name : List ℕ) → (IsUtf8 name → ⊥) → name_bytes byte name ≡ flat_map (outside_text byte) name
name_of_bytes byte name not = ap (λ b. cond b (flat_map byte name) (flat_map (outside_text byte) name)) (not_text name (is_utf8 name) refl not)
