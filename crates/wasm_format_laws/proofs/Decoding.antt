-- What spells a module with the same code is decoded as one.
use Rattle.std.proofs.Common.{◌≡◌, ℕ, suc, ◌≤◌, List, [], ◌∷◌, length, Option, None, refl, sym, ap, ◌∙◌}
use Rattle.std.specs.Prelude.{map}
use Rattle.wasm_syntax.specs.declared.quantity.Quantity.TheVariants.{ModuleBytes}
use Rattle.wasm_syntax.specs.declared.parts.Import.{Import}
use Rattle.wasm_syntax.specs.declared.module.ModuleParts.{ModuleParts}
use Rattle.wasm_syntax.specs.Quantity.{greatest}
use Rattle.wasm_syntax.specs.Module.{IsModule}
use Rattle.wasm_syntax.specs.Sizes.{WithinLimits}
use Rattle.wasm_syntax.specs.SameCode.{code_alone}
use Rattle.wasm_format.specs.declared.module.Imported.TheVariants.{Function}
use Rattle.wasm_format.specs.declared.module.SpelledModule.{SpelledModule}
use Rattle.wasm_format.proofs.ExactSections.{module_read}
use Rattle.wasm_decode.specs.declared.fault.DecodeFault.{DecodeFault}
use Rattle.wasm_decode.specs.Decode.{functions_of, other_from, first_other, module_of, too_much, at_float, at_import, refusal}
use Rattle.wasm_decode.proofs.Meanings.{read_is}
use Rattle.wasm_encode.specs.Encoding.{encoding}
use Rattle.wasm_encode.specs.calls.Fits.{FitsModule}
use Rattle.wasm_encode.specs.calls.SameModule.{SpellsSame}
use Rattle.wasm_encode.proofs.WholeModule.{spells_same}
use Rattle.wasm_format_laws.specs.calls.Laws.{DecodesSame}
use Rattle.wasm_format_laws.proofs.Limits.{same_limits, none_too_much}
use Rattle.wasm_bytes.specs.Refusals.{◌orelse◌, unless_refused}

-- ---- imports of functions alone

functions_again : (imports : List Import) → functions_of (map Function imports) ≡ imports
functions_again [] = refl
functions_again (i ∷ imports) = ap (λ (is : List Import). i ∷ is) (functions_again imports)

no_other : (index : ℕ) (imports : List Import) → other_from index (map Function imports) ≡ None
no_other index [] = refl
no_other index (i ∷ imports) = no_other (suc index) imports

-- ---- no refusal

all_none : (float other : Option ℕ) (much : Option DecodeFault) → float ≡ None → other ≡ None → much ≡ None → (at_float float orelse at_import other orelse much) ≡ None
all_none float other much a b c = rw (a, b, c) refl

not_refused : (s : SpelledModule) → s.float ≡ None → first_other s.imports ≡ None → too_much (module_of s) ≡ None → refusal s ≡ None
unfolding refusal
not_refused s a b c = all_none s.float (first_other s.imports) (too_much (module_of s)) a b c

-- ---- the module that was spelled

with_imports : (s : SpelledModule) (imports : List Import) → functions_of s.imports ≡ imports → module_of s ≡ record s.parts { imports = imports }
unfolding module_of
with_imports s imports is = ap (λ (v : List Import). let p : ModuleParts = record s.parts { imports = v } in p) is

same_code : (m : ModuleParts) (bytes : List ℕ) (same : SpellsSame m bytes) → code_alone (module_of same.read) ≡ code_alone m
same_code m bytes same = ap code_alone (with_imports same.read m.imports (ap functions_of same.imports ∙ functions_again m.imports)) ∙ same.code

within_too : (m n : ModuleParts) → WithinLimits m → code_alone n ≡ code_alone m → too_much n ≡ None
within_too m n within code = same_limits n ∙ ap too_much code ∙ sym (same_limits m) ∙ none_too_much m within

pub spelled_decodes : (m : ModuleParts) (bytes : List ℕ) → WithinLimits m → length bytes ≤ greatest ModuleBytes → SpellsSame m bytes → DecodesSame m bytes
spelled_decodes m bytes within short same =
    let s = same.read in
    let code = same_code m bytes same in
    let other : first_other s.imports ≡ None = ap first_other same.imports ∙ no_other 0 m.imports in
    let none = not_refused s same.no_float other (within_too m (module_of s) within code) in
    record {
      decoded = module_of s;
      is = read_is bytes s short (module_read bytes s same.spelled) ∙ ap (λ (r : Option DecodeFault). unless_refused r (module_of s)) none;
      code = code;
    }

pub encoding_decodes : (m : ModuleParts) → IsModule m → FitsModule m → WithinLimits m → length (encoding m) ≤ greatest ModuleBytes → DecodesSame m (encoding m)
encoding_decodes m is fits within short = spelled_decodes m (encoding m) within short (spells_same m is within fits short)
