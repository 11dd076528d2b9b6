-- Bytes that spell a module are few.
use Rattle.std.proofs.Common.{◌≡◌, ℕ, ◌≤◌, Bool, true, false, List, length, Result, Ok, Err, refl}
use Rattle.std.proofs.lemmas.Bool.{ltb-false}
use Rattle.std.specs.Prelude.{nat_lt, if◌then◌else◌}
use Rattle.wasm_syntax.specs.declared.quantity.Quantity.TheVariants.{ModuleBytes}
use Rattle.wasm_syntax.specs.declared.module.ModuleParts.{ModuleParts as Module}
use Rattle.wasm_syntax.specs.Quantity.{greatest}
use Rattle.wasm_bytes.specs.Reading.{whole}
use Rattle.wasm_format.specs.Sections.{module_item}
use Rattle.wasm_decode.specs.declared.fault.DecodeFault.{DecodeFault}
use Rattle.wasm_decode.specs.declared.fault.DecodeFault.TheVariants.{Limit}
use Rattle.wasm_decode.specs.Decode.{module_from, judged_read}

by_length : (most n : ℕ) (e : DecodeFault) (r : Result Module DecodeFault) (m : Module) (b : Bool) → nat_lt most n ≡ b → (if b then Err e else r) ≡ Ok m → n ≤ most
by_length most n e r m true q is = absurd (cc)
by_length most n e r m false q is = ltb-false most n q

pub short_bytes : (bytes : List ℕ) (m : Module) → module_from bytes ≡ Ok m → length bytes ≤ 134217728
unfolding module_from
short_bytes bytes m e = by_length (greatest ModuleBytes) (length bytes) (Limit ModuleBytes (length bytes)) (judged_read (whole module_item bytes)) m (nat_lt (greatest ModuleBytes) (length bytes)) refl e
