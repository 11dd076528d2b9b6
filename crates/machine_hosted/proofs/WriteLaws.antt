-- Writes in order, and whether all of them lie inside the memory.
use Rattle.std.proofs.Common.{◌≡◌, ℕ, ◌+◌, ◌<◌, ◌≤◌, List, [], ◌∷◌, drop, length, get_or, refl, sym, ap, ◌∙◌, arith}
use Rattle.std.proofs.lemmas.Bool.Decides.{nat_tests}
use Rattle.std.proofs.lemmas.List.{at_drop_more, at_drop_all}
use Rattle.std.specs.Prelude.{◌==◌, ◌&&◌, if◌then◌else◌, Bool, true, false, nat_le, Option, Some, None, is_some}
use Rattle.wasm_syntax.specs.declared.host.Write.{Write}
use Rattle.wasm_syntax.specs.Module.{option_then}
use Rattle.wasm_syntax.specs.Host.{after_writes}
use Rattle.linear_memory.specs.Memory.{Memory, put, splice}
use Rattle.machine_hosted.specs.inner.Writes.{all_inside}
use Rattle.linear_memory.proofs.Contents.{length-splice}

-- ---- all lie inside

pub inside_next : (size : ℕ) (ws : List Write) (i : ℕ) (w : Write) (b : Bool) → i < length ws → get_or ws i w ≡ w → b ≡ nat_le (w.at + length w.bytes) size → all_inside size (drop i ws) ≡ b && all_inside size (drop (i + 1) ws)
inside_next size ws i w b lt g e =
    at_drop_more (all_inside size) ws i w lt ∙ ap (λ (x : Write). nat_le (x.at + length x.bytes) size && all_inside size (drop (i + 1) ws)) g ∙ ap (λ t. t && all_inside size (drop (i + 1) ws)) (sym e)

pub inside_end : (size : ℕ) (ws : List Write) (i : ℕ) → length ws ≤ i → all_inside size (drop i ws) ≡ true
inside_end size ws i le = at_drop_all (all_inside size) ws i le

-- writes that all lie inside can be made
pub inside_after : (ws : List Write) (m : Memory) → all_inside (length m.bytes) ws ≡ is_some (after_writes (Some m) ws)
inside_after [] m = refl
inside_after (w ∷ ws) m = by_test (nat_le (w.at + length w.bytes) (length m.bytes)) refl (inside_after ws)
  where
    by_test : (b : Bool) → nat_le (w.at + length w.bytes) (length m.bytes) ≡ b → ((k : Memory) → all_inside (length k.bytes) ws ≡ is_some (after_writes (Some k) ws)) →
        (b && all_inside (length m.bytes) ws) ≡ is_some (option_then (if b then Some (record m { bytes = splice m.bytes w.at w.bytes }) else None) (λ k. after_writes (Some k) ws))
    by_test true q ih =
        let le : w.at + length w.bytes ≤ length m.bytes = grind (arith, nat_tests) in
        ap (λ n. all_inside n ws) (sym (length-splice m.bytes w.bytes w.at le)) ∙ ih (record m { bytes = splice m.bytes w.at w.bytes })
    by_test false q ih = refl

-- ---- one write and then the others

pub write_next : (m k : Memory) (ws : List Write) (i : ℕ) (w : Write) → i < length ws → get_or ws i w ≡ w → put m w.at w.bytes ≡ Some k → after_writes (Some m) (drop i ws) ≡ after_writes (Some k) (drop (i + 1) ws)
write_next m k ws i w lt g p =
    at_drop_more (after_writes (Some m)) ws i w lt ∙ ap (λ (x : Write). option_then (put m x.at x.bytes) (λ n. after_writes (Some n) (drop (i + 1) ws))) g ∙ ap (λ o. option_then o (λ n. after_writes (Some n) (drop (i + 1) ws))) p

pub write_out : (m : Memory) (ws : List Write) (i : ℕ) (w : Write) → i < length ws → get_or ws i w ≡ w → length m.bytes < w.at + length w.bytes → after_writes (Some m) (drop i ws) ≡ None
write_out m ws i w lt g out =
    let test : nat_le (w.at + length w.bytes) (length m.bytes) ≡ false = grind (arith, nat_tests) in
    at_drop_more (after_writes (Some m)) ws i w lt ∙ ap (λ (x : Write). option_then (put m x.at x.bytes) (λ n. after_writes (Some n) (drop (i + 1) ws))) g
    ∙ ap (λ b. option_then (if b then Some (record m { bytes = splice m.bytes w.at w.bytes }) else None) (λ n. after_writes (Some n) (drop (i + 1) ws))) test

pub writes_end : (m : Memory) (ws : List Write) (i : ℕ) → length ws ≤ i → after_writes (Some m) (drop i ws) ≡ Some (Some m)
writes_end m ws i le = at_drop_all (after_writes (Some m)) ws i le

-- ---- all of them

pub misfit : (m : Memory) (ws : List Write) (b : Bool) → b ≡ all_inside (length m.bytes) ws → b ≡ false → after_writes (Some m) ws ≡ None
misfit m ws b e f = by_cases (after_writes (Some m) ws) (sym (inside_after ws m) ∙ sym e ∙ f)
  where
    by_cases : (o : Option (Option Memory)) → is_some o ≡ false → o ≡ None
    by_cases None q = refl
    by_cases (Some k) q = absurd (cc)

pub no_misfit : (m : Memory) (ws : List Write) (b : Bool) → b ≡ all_inside (length m.bytes) ws → b ≡ true → after_writes (Some m) ws ≡ None → ⊥
no_misfit m ws b e t n =
    let q : true ≡ false = sym t ∙ e ∙ inside_after ws m ∙ ap is_some n in
    absurd (cc)

pub without_memory : (memory : Option Memory) (ws : List Write) → memory ≡ None → false ≡ (length ws == 0) → after_writes memory ws ≡ None
without_memory memory ws e some = ap (λ o. after_writes o ws) e ∙ by_list ws some
  where
    by_list : (ws : List Write) → false ≡ (length ws == 0) → after_writes None ws ≡ None
    by_list [] some = absurd (cc)
    by_list (w ∷ ws) some = refl
