-- What a host sees in place of a function of the table.
use Rattle.std.proofs.Common.{◌≡◌, ℕ, [], ◌+◌, ◌<◌, ◌≤◌, true, false, nat_lt, if◌then◌else◌, length, sym, ap, ◌∙◌, arith, length-append}
use Rattle.wasm_syntax.specs.declared.module.ModuleParts.{ModuleParts as Module}
use Rattle.rewrite_bodies.specs.Numbering.{import_count, is_in, place_in, element_functions, table_functions, named_wrapped, table_wraps, wrapped, doubles, wrapper_base, helper_base, shown}
use Rattle.rewrite_modules.proofs.Listed.{table_has}

pub shown_import : (m : Module) (f : ℕ) → nat_lt f (import_count m) ≡ true → f ≡ shown m f
shown_import m f e = sym (ap (λ q. if q then f else wrapper_base m + (length (named_wrapped m) + place_in f (table_functions m))) e)

pub shown_defined : (m : Module) (f : ℕ) {n : ℕ} → nat_lt f (import_count m) ≡ false → n ≡ wrapper_base m + (length (named_wrapped m) + place_in f (table_functions m)) → n ≡ shown m f
shown_defined m f e is = is ∙ sym (ap (λ q. if q then f else wrapper_base m + (length (named_wrapped m) + place_in f (table_functions m))) e)

pub in_table : (m : Module) (f : ℕ) → is_in f (element_functions m) ≡ true → nat_lt f (import_count m) ≡ false → is_in f (table_functions m) ≡ true
in_table m f e low = table_has m f low e

-- its number is one of 32 bits
pub place_fits : (m : Module) (k : ℕ) → doubles m ≡ true → k < length (table_functions m) → wrapper_base m + (length (named_wrapped m) + k) < helper_base m
place_fits m k d lt =
    let own : length (table_wraps m) ≡ length (table_functions m) = ap (λ q. length (if q then table_functions m else [])) d in
    omega (arith, lt, own, length-append (named_wrapped m) (table_wraps m))
