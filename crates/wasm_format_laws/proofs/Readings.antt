-- The grammar, the places where reading stops and the reading function say the same of each input.
use Rattle.std.proofs.Common.{◌≡◌, ℕ, List, ◌⊎◌, Result, Ok, Err, refl, sym, ◌∙◌, inl, inr}
use Rattle.wasm_bytes.specs.Reading.{whole}
use Rattle.wasm_bytes.specs.Laws.{IsBytes}
use Rattle.wasm_format.specs.declared.module.SpelledModule.{SpelledModule}
use Rattle.wasm_format.specs.Sections.{module_item}
use Rattle.wasm_format.specs.calls.Grammar.{module_file}
use Rattle.wasm_format.specs.calls.Breaking.{module_stops}
use Rattle.wasm_format.proofs.ExactSections.{module_found, module_read}
use Rattle.wasm_format.proofs.StopsSections.{module_stop, module_stopped}
use Rattle.wasm_format_laws.specs.calls.Laws.{Reads, Breaks}

abbrev Answer : Type 0
Answer = Result SpelledModule ℕ

read : SpelledModule → Answer
read s = Ok s

stopped : ℕ → Answer
stopped at = Err at

same_read : (s t : SpelledModule) → read s ≡ read t → s ≡ t
unfolding read
same_read s t e = cc

same_stop : (a b : ℕ) → stopped a ≡ stopped b → a ≡ b
unfolding stopped
same_stop a b e = cc

pub one_module : (bytes : List ℕ) (s t : SpelledModule) → module_file s 0 bytes → module_file t 0 bytes → s ≡ t
unfolding read
one_module bytes s t a b = same_read s t (sym (module_read bytes s a) ∙ module_read bytes t b)

pub one_break : (bytes : List ℕ) (a b : ℕ) → IsBytes bytes → module_stops 0 bytes a → module_stops 0 bytes b → a ≡ b
unfolding stopped
one_break bytes a b fits p q = same_stop a b (sym (module_stopped bytes a fits p) ∙ module_stopped bytes b fits q)

pub not_both : (bytes : List ℕ) → IsBytes bytes → Reads bytes → Breaks bytes → ⊥
not_both bytes fits reads breaks =
    let r = module_read bytes reads.0 reads.1 in
    let b = module_stopped bytes breaks.0 fits breaks.1 in
    absurd cc

pub one_of_both : (bytes : List ℕ) → IsBytes bytes → Reads bytes ⊎ Breaks bytes
one_of_both bytes fits = by (whole module_item bytes) refl where
  by : (r : Answer) → whole module_item bytes ≡ r → Reads bytes ⊎ Breaks bytes
  by (Ok s) e = inl (s, module_found bytes s fits e)
  by (Err at) e = inr (at, module_stop bytes at fits e)
