-- Whether a call is one of the collector depends on the types of its arguments alone.
use Rattle.std.proofs.Common.{◌≡◌, List, [], ◌∷◌, refl, sym, ap, ◌∙◌}
use Rattle.std.specs.Prelude.{Bool, true, false, ℕ, Option, Some, None, is_some, slice_get, if◌then◌else◌, bytes_eq, codes}
use Rattle.wasm_syntax.specs.declared.value.ValType.{ValType}
use Rattle.wasm_syntax.specs.declared.value.ValType.TheVariants.{I32, I64}
use Rattle.wasm_syntax.specs.declared.value.Value.{Value}
use Rattle.wasm_syntax.specs.declared.value.Value.TheVariants as values
use Rattle.wasm_syntax.specs.declared.parts.Import.{Import}
use Rattle.wasm_syntax.specs.declared.parts.FuncType.{FuncType}
use Rattle.wasm_syntax.specs.declared.host.CollectorCall.{CollectorCall}
use Rattle.wasm_syntax.specs.Numbers.{types}
use Rattle.wasm_syntax.specs.Module.{option_then}
use Rattle.wasm_syntax.specs.Host.{on_i32, on_i64, on_frame, collector_name, collector_call, if_none, collector_of}
use Rattle.wasm_syntax.specs.Machine.{Engine, host_call, result_of}
use Rattle.host_devices.specs.calls.HostSides.{told}
use Rattle.machine_hosted.specs.inner.Turns.{told_by}

-- ---- by types

abbrev i32_types : List ValType → Bool
i32_types [] = false
i32_types (I64 ∷ ts) = false
i32_types (I32 ∷ []) = true
i32_types (I32 ∷ t ∷ ts) = false

abbrev i64_types : List ValType → Bool
i64_types [] = false
i64_types (I32 ∷ ts) = false
i64_types (I64 ∷ []) = true
i64_types (I64 ∷ t ∷ ts) = false

abbrev frame_types : List ValType → Bool
frame_types [] = false
frame_types (I64 ∷ ts) = false
frame_types (I32 ∷ []) = false
frame_types (I32 ∷ I64 ∷ ts) = false
frame_types (I32 ∷ I32 ∷ []) = false
frame_types (I32 ∷ I32 ∷ I64 ∷ ts) = false
frame_types (I32 ∷ I32 ∷ I32 ∷ []) = false
frame_types (I32 ∷ I32 ∷ I32 ∷ I64 ∷ ts) = false
frame_types (I32 ∷ I32 ∷ I32 ∷ I32 ∷ []) = true
frame_types (I32 ∷ I32 ∷ I32 ∷ I32 ∷ t ∷ ts) = false

on_i32_types : (vs : List Value) → is_some (on_i32 vs) ≡ i32_types (types vs)
on_i32_types [] = refl
on_i32_types (values.I64 n ∷ vs) = refl
on_i32_types (values.I32 n ∷ []) = refl
on_i32_types (values.I32 n ∷ v ∷ vs) = refl

on_i64_types : (vs : List Value) → is_some (on_i64 vs) ≡ i64_types (types vs)
on_i64_types [] = refl
on_i64_types (values.I32 n ∷ vs) = refl
on_i64_types (values.I64 n ∷ []) = refl
on_i64_types (values.I64 n ∷ v ∷ vs) = refl

on_frame_types : (vs : List Value) → is_some (on_frame vs) ≡ frame_types (types vs)
on_frame_types [] = refl
on_frame_types (values.I64 n ∷ vs) = refl
on_frame_types (values.I32 a ∷ []) = refl
on_frame_types (values.I32 a ∷ values.I64 n ∷ vs) = refl
on_frame_types (values.I32 a ∷ values.I32 b ∷ []) = refl
on_frame_types (values.I32 a ∷ values.I32 b ∷ values.I64 n ∷ vs) = refl
on_frame_types (values.I32 a ∷ values.I32 b ∷ values.I32 c ∷ []) = refl
on_frame_types (values.I32 a ∷ values.I32 b ∷ values.I32 c ∷ values.I64 n ∷ vs) = refl
on_frame_types (values.I32 a ∷ values.I32 b ∷ values.I32 c ∷ values.I32 d ∷ []) = refl
on_frame_types (values.I32 a ∷ values.I32 b ∷ values.I32 c ∷ values.I32 d ∷ v ∷ vs) = refl

choose : (b : Bool) (x y x' y' : Option CollectorCall) → is_some x ≡ is_some x' → is_some y ≡ is_some y' → is_some (if b then x else y) ≡ is_some (if b then x' else y')
choose true x y x' y' p q = p
choose false x y x' y' p q = q

module _ (us vs : List Value) (same : types us ≡ types vs) where
  i32_same : is_some (on_i32 us) ≡ is_some (on_i32 vs)
  i32_same = on_i32_types us ∙ ap i32_types same ∙ sym (on_i32_types vs)

  i64_same : is_some (on_i64 us) ≡ is_some (on_i64 vs)
  i64_same = on_i64_types us ∙ ap i64_types same ∙ sym (on_i64_types vs)

  frame_same : is_some (on_frame us) ≡ is_some (on_frame vs)
  frame_same = on_frame_types us ∙ ap frame_types same ∙ sym (on_frame_types vs)

  name_same : (name : List ℕ) → is_some (collector_name name us) ≡ is_some (collector_name name vs)
  name_same name =
      choose (bytes_eq name (codes "value_i32")) (on_i32 us) (if bytes_eq name (codes "value_i64") then on_i64 us else if bytes_eq name (codes "frame") then on_frame us else None)
      (on_i32 vs) (if bytes_eq name (codes "value_i64") then on_i64 vs else if bytes_eq name (codes "frame") then on_frame vs else None) i32_same
      (choose (bytes_eq name (codes "value_i64")) (on_i64 us) (if bytes_eq name (codes "frame") then on_frame us else None) (on_i64 vs) (if bytes_eq name (codes "frame") then on_frame vs else None) i64_same
      (choose (bytes_eq name (codes "frame")) (on_frame us) None (on_frame vs) None frame_same refl))

  call_same : (i : Import) → is_some (collector_call i us) ≡ is_some (collector_call i vs)
  call_same i = choose (bytes_eq i.«module» (codes "coredump")) (collector_name i.name us) None (collector_name i.name vs) None (name_same i.name) refl

  found_same : (o : Option Import) → is_some (option_then o (λ i. collector_call i us)) ≡ is_some (option_then o (λ i. collector_call i vs))
  found_same None = refl
  found_same (Some i) = call_same i

  result_same : (t : Option ValType) (o : Option Import) → is_some (if_none t (option_then o (λ i. collector_call i us))) ≡ is_some (if_none t (option_then o (λ i. collector_call i vs)))
  result_same None o = found_same o
  result_same (Some t) o = refl

  pub told_types : (M : Engine) (f : ℕ) (i : Import) (type : FuncType) → is_some (told_by M (host_call f i type us)) ≡ is_some (told_by M (host_call f i type vs))
  told_types M f i type = choose M.collects (collector_of M.program.module_ (host_call f i type us)) None (collector_of M.program.module_ (host_call f i type vs)) None (result_same (result_of type) (slice_get M.program.module_.imports f)) refl

none_of : (o : Option CollectorCall) → is_some o ≡ false → o ≡ None
none_of None e = refl
none_of (Some k) e = absurd (cc)

-- what is none of the collector's calls is none with other arguments of these types
pub unheard : (M : Engine) (f : ℕ) (i : Import) (type : FuncType) (us vs : List Value) → types us ≡ types vs → told_by M (host_call f i type us) ≡ None → told_by M (host_call f i type vs) ≡ None
unheard M f i type us vs same e = none_of (told_by M (host_call f i type vs)) (sym (told_types us vs same M f i type) ∙ ap is_some e)

-- ---- by the host side

-- the host side and the definitions take the same calls for the collector's
pub told_same : (M : Engine) (collecting : Bool) (f : ℕ) (i : Import) (type : FuncType) (args : List Value) → M.collects ≡ collecting → slice_get M.program.module_.imports f ≡ Some i → told_by M (host_call f i type args) ≡ told collecting i (host_call f i type args)
told_same M collecting f i type args c e =
    ap (λ o. if M.collects then if_none (result_of type) (option_then o (λ i. collector_call i args)) else None) e
    ∙ ap (λ b. if b then if_none (result_of type) (collector_call i args) else None) c
