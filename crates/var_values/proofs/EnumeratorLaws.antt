-- Enumerators by the keys of their numbers.
use Rattle.std.proofs.Common.{◌≡◌, ℕ, ◌*◌, ◌^◌, Bool, List, [], ◌∷◌, cond, Option, Some, None, refl, sym, ap, ◌∙◌}
use Rattle.std.specs.Prelude.{◌==◌, ℤ, pos, negsuc, find, unsigned_abs}
use Rattle.std.specs.Int.{int_rem_euclid}
use Rattle.dwarf_info.specs.declared.entry.Entry.{Entry}
use Rattle.dwarf_info.specs.Attributes.{valued, as_number}
use Rattle.dwarf_entries.specs.Names.{at_const_value}
use Rattle.dwarf_entries.specs.Tags.{tag_enumerator}
use Rattle.dwarf_entries.specs.Standing.{Standing, children_tagged}
use Rattle.dwarf_types.specs.calls.Numbers.{number_key, is_key, has_key}
use Rattle.dwarf_types.specs.declared.enumerators.Enumerators.{Enumerators}
use Rattle.var_values.specs.Texts.{same_number, equals, has_value}

same_rests : (d a b : ℤ) → same_number (int_rem_euclid a d) (int_rem_euclid b d) ≡ (unsigned_abs (int_rem_euclid a d) == unsigned_abs (int_rem_euclid b d))
same_rests d (pos a) (pos b) = refl
same_rests d (pos a) (negsuc b) = refl
same_rests d (negsuc a) (pos b) = refl
same_rests d (negsuc a) (negsuc b) = refl

pub same_keys : (size : ℕ) (constant value : ℤ) → (number_key size constant == number_key size value) ≡ equals size value (Some constant)
same_keys size constant value = sym (same_rests (pos (2 ^ (8 * size))) constant value)

key_of_value : (size : ℕ) (value : ℤ) (constant : Option ℤ) → is_key size (number_key size value) constant ≡ equals size value constant
key_of_value size value None = refl
key_of_value size value (Some constant) = same_keys size constant value

find_alike : (P Q : Entry → Bool) → ((e : Entry) → P e ≡ Q e) → (es : List Entry) → find P es ≡ find Q es
find_alike P Q alike [] = refl
find_alike P Q alike (e ∷ es) = ap (λ (b : Bool). cond b (Some e) (find P es)) (alike e) ∙ ap (λ (o : Option Entry). cond (Q e) (Some e) o) (find_alike P Q alike es)

pub first_known : (s : Standing) (known : Enumerators) (size : ℕ) (z value : ℤ) (o : Option Entry) → z ≡ value
    → o ≡ find (has_key known.size (number_key known.size z)) (children_tagged tag_enumerator s) → known.size ≡ size → o ≡ find (has_value size value) (children_tagged tag_enumerator s)
first_known s known size z value o is found same =
    found ∙ ap (λ (x : ℤ). find (has_key known.size (number_key known.size x)) (children_tagged tag_enumerator s)) is
    ∙ ap (λ (n : ℕ). find (has_key n (number_key n value)) (children_tagged tag_enumerator s)) same
    ∙ find_alike (has_key size (number_key size value)) (has_value size value) (λ e. key_of_value size value (valued as_number at_const_value e.attributes)) (children_tagged tag_enumerator s)
