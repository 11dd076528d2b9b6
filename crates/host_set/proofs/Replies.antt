-- The reply of an entry.
use Rattle.std.proofs.Common.{◌≡◌, ℕ, zero, suc, ◌<◌, List, [], ◌∷◌, Option, Some, sym, ap, ◌∙◌, arith, length, get_or, subst, slice_get}
use Rattle.std.proofs.lemmas.List.{length-map}
use Rattle.std.specs.Option.{option_map}
use Rattle.wasm_syntax.specs.declared.parts.Import.{Import}
use Rattle.wasm_syntax.specs.declared.host.HostCall.{HostCall}
use Rattle.wasm_syntax.specs.declared.host.Reply.{Reply}
use Rattle.wasm_syntax.specs.declared.host.Served.{Served}
use Rattle.host_devices.specs.calls.Devices.{empty_reply}
use Rattle.host_set.specs.declared.entry.Entry.{Entry}
use Rattle.host_set.specs.declared.entry.Entry.TheVariants.{OfDevice, OfScript}
use Rattle.host_set.specs.Sets.{DeviceState, no_device}
use Rattle.host_set.specs.calls.Hosting.{no_served, served_at, all_served, IsInside, AreInside}

inside_at : (ds : List DeviceState) (replies : List Reply) (es : List Entry) (i : ℕ) (e : Entry) → AreInside ds replies es → e ≡ get_or es i e → i < length es → IsInside ds replies e
inside_at ds replies [] i e h is lt = absurd (let l : i < 0 = lt in omega arith)
inside_at ds replies (x ∷ es) zero e h is lt = let P : Entry → Type 0 = λ y. IsInside ds replies y in subst P (sym is) h.0
inside_at ds replies (x ∷ es) (suc i) e h is lt = inside_at ds replies es i e h.1 is (omega arith)

served_by : (imports : List Import) (ds : List DeviceState) (replies : List Reply) (es : List Entry) (i : ℕ) (e : Entry) → e ≡ get_or es i e → i < length es → slice_get (all_served imports ds replies es) i ≡ Some (served_at imports ds replies e)
served_by imports ds replies [] i e is lt = absurd (let l : i < 0 = lt in omega arith)
served_by imports ds replies (x ∷ es) zero e is lt = ap (λ y. Some (served_at imports ds replies y)) (sym is)
served_by imports ds replies (x ∷ es) (suc i) e is lt = served_by imports ds replies es i e is (omega arith)

below : (imports : List Import) (ds : List DeviceState) (replies : List Reply) (es : List Entry) (i : ℕ) → i < length (all_served imports ds replies es) → i < length es
below imports ds replies es i lt = rw length-map at lt

reply_of : (s : Option (List ℕ × Served)) (t : List ℕ × Served) → s ≡ Some t → option_map (λ (p : List ℕ × Served). p.1.reply) s ≡ Some t.1.reply
reply_of s t e = ap (option_map (λ (p : List ℕ × Served). p.1.reply)) e

-- an entry of a device names a place of the set and of that device's log
pub record DeviceEntry (imports : List Import) (ds : List DeviceState) (replies : List Reply) (es : List Entry) (i place at : ℕ) : Type 0 where
  pub place_below : place < length ds
  pub at_below : at < length (get_or ds place no_device).log
  pub reply : option_map (λ (p : List ℕ × Served). p.1.reply) (slice_get (all_served imports ds replies es) i) ≡ Some (get_or (get_or ds place no_device).log at no_served).reply

pub device_entry : (imports : List Import) (ds : List DeviceState) (replies : List Reply) (es : List Entry) (i : ℕ) (e : Entry) (place at : ℕ) → AreInside ds replies es → e ≡ get_or es i e → i < length (all_served imports ds replies es) → e ≡ OfDevice place at → DeviceEntry imports ds replies es i place at
device_entry imports ds replies es i e place at h is lt kind =
    let P : Entry → Type 0 = λ y. IsInside ds replies y in
    let k : IsInside ds replies (OfDevice place at) = subst P kind (inside_at ds replies es i e h is (below imports ds replies es i lt)) in
    record {
      place_below = k.0;
      at_below = k.1;
      reply = reply_of _ _ (served_by imports ds replies es i e is (below imports ds replies es i lt) ∙ ap (λ y. Some (served_at imports ds replies y)) kind);
    }

pub record ScriptEntry (imports : List Import) (ds : List DeviceState) (replies : List Reply) (es : List Entry) (i number : ℕ) : Type 0 where
  pub below : number < length replies
  pub reply : option_map (λ (p : List ℕ × Served). p.1.reply) (slice_get (all_served imports ds replies es) i) ≡ Some (get_or replies number empty_reply)

pub script_entry : (imports : List Import) (ds : List DeviceState) (replies : List Reply) (es : List Entry) (i : ℕ) (e : Entry) (call : HostCall) (number : ℕ) → AreInside ds replies es → e ≡ get_or es i e → i < length (all_served imports ds replies es) → e ≡ OfScript call number → ScriptEntry imports ds replies es i number
script_entry imports ds replies es i e call number h is lt kind =
    let P : Entry → Type 0 = λ y. IsInside ds replies y in
    record {
      below = subst P kind (inside_at ds replies es i e h is (below imports ds replies es i lt));
      reply = reply_of _ _ (served_by imports ds replies es i e is (below imports ds replies es i lt) ∙ ap (λ y. Some (served_at imports ds replies y)) kind);
    }
