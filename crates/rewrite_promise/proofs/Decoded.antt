-- What decoding gives has the premises of the rewriting.
use Rattle.std.proofs.Common.{◌≡◌, ℕ, List, length, Ok, refl, sym, subst}
use Rattle.wasm_syntax.specs.declared.module.ModuleParts.{ModuleParts as Module}
use Rattle.wasm_syntax.specs.Module.{IsModule}
use Rattle.wasm_syntax.specs.Sizes.{WithinLimits}
use Rattle.wasm_bytes.specs.Laws.{IsBytes}
use Rattle.wasm_decode.specs.Decode.{module_from}
use Rattle.wasm_decode.specs.calls.Meaning.{IsModuleOf}
use Rattle.wasm_decode.proofs.Meanings.{found_exactly}
use Rattle.wasm_decode.proofs.SoundSections.{module_sound}
use Rattle.wasm_decode.proofs.Sounds.{module_is, decoded_within}
use Rattle.wasm_format_laws.proofs.Whole.{decoded as decoded_sized}
use Rattle.rewrite_modules.specs.Instrumentable.{Instrumentable}
use Rattle.rewrite_promise.proofs.Spelled as sizes
use Rattle.rewrite_promise.specs.calls.Promise.{Accepted, AcceptedBytes}

pub spelled : (bytes : List ℕ) (m : Module) → IsBytes bytes → module_from bytes ≡ Ok m → IsModuleOf bytes m
spelled bytes m fits e = (found_exactly bytes (Ok m) fits (sym e) m).only refl

pub whole : (bytes : List ℕ) (m : Module) → IsBytes bytes → module_from bytes ≡ Ok m → IsModule m
whole bytes m fits e =
    let d = spelled bytes m fits e in
    let h = module_sound d.0 bytes d.1.1 in
    subst IsModule d.4 (module_is (length bytes) d.0 h.0 h.1)

pub limits : (bytes : List ℕ) (m : Module) → IsBytes bytes → module_from bytes ≡ Ok m → WithinLimits m
limits bytes m fits e = decoded_within bytes m (spelled bytes m fits e)

pub accepted : (bytes : List ℕ) (m : Module) → AcceptedBytes bytes m → Accepted m
accepted bytes m a = record {
  premises = record {
    whole = whole bytes m a.are_bytes a.decoded;
    valid = a.valid;
    limits_ = limits bytes m a.are_bytes a.decoded;
    small = sizes.decoded bytes m a.are_bytes a.decoded;
    no_collision = a.no_collision;
    no_export_collision = a.no_export_collision;
    lightness = a.light;
  };
  sized = decoded_sized bytes m a.are_bytes a.decoded;
}

-- whatever the trees
abbrev pub with_trees : (m : Module) → Instrumentable m → IsModule m → Instrumentable m
with_trees m x w = record {
  whole = w;
  valid = x.valid;
  limits_ = x.limits_;
  small = x.small;
  no_collision = x.no_collision;
  no_export_collision = x.no_export_collision;
  lightness = x.lightness;
}
