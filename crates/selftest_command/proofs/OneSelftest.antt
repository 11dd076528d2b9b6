-- Two answers tell of one dump.
use Rattle.std.proofs.Common.{◌≡◌, ℕ, ◌<◌, true, false, List, [], ◌∷◌, map, sym, ap, subst, ◌∙◌, arith, take}
use Rattle.wasm_syntax.specs.Module.{Program}
use Rattle.wasm_syntax.specs.Machine.{Config}
use Rattle.wasm_syntax.specs.Run.{Ran}
use Rattle.wasm_decode.specs.Decode.{module_from}
use Rattle.commands.specs.declared.outcome.Outcome.{Outcome}
use Rattle.pm_outside.specs.Held.{Writes}
use Rattle.selftest_command.specs.Handing.{own_dump, IsEnd}
use Rattle.selftest_command.specs.Summary.{line}
use Rattle.selftest_command.specs.SelftestAnswer.{module_bytes, SelftestAnswer, OneDump}
use Rattle.selftest_command.proofs.OneRun.{one_program, one_run}
use Rattle.selftest_command.proofs.Steps.{ok_is}
use Rattle.pm_text.proofs.Lists.{some_is}

-- a run ends once
one_end : (n : ℕ) (p : Program) (a b : ℕ) → IsEnd p n a → IsEnd p n b → a ≡ b
one_end n p a b h k =
    let x : a < b → ⊥ = earlier a b h k in
    let y : b < a → ⊥ = earlier b a k h in
    omega (arith, x, y)
  where
    earlier : (a b : ℕ) → IsEnd p n a → IsEnd p n b → a < b → ⊥
    earlier a b h k lt = h.ended (k.going a lt)

-- files are written with the bytes of the second one
abbrev second_bytes : Writes → List ℕ
second_bytes [] = []
second_bytes (w ∷ []) = []
second_bytes (w ∷ v ∷ ws) = v.1

module _ (n : ℕ) (x y : Writes) (a b : Outcome) (p : SelftestAnswer n x a) (q : SelftestAnswer n y b) where
  one_module : p.modules.taken ≡ q.modules.taken
  one_module = ok_is (module_from (module_bytes n)) p.modules.taken q.modules.taken p.modules.decoded q.modules.decoded

  one_place : p.divides.at ≡ q.divides.at
  one_place = some_is (sym p.divides.last ∙ ap (λ (r : Ran). r.last) (one_run false n p.modules.taken q.modules.taken one_module p.one q.one) ∙ q.divides.last)

  same_rewriting : x ≡ y → p.rewritten ≡ q.rewritten
  same_rewriting same = ap second_bytes (sym p.both ∙ same ∙ q.both)

  same_second : x ≡ y → p.other.program ≡ q.other.program
  same_second same =
      let r = p.modules.admitted in
      let s = q.modules.admitted in
      one_program true n r.decoded s.decoded (ok_is (module_from q.rewritten) r.decoded s.decoded (ap module_from (sym (same_rewriting same)) ∙ r.is) s.is) p.other q.other

  pub one_dump : OneDump n x y a b
  one_dump = record {
    dump = own_dump p.divides.at;
    steps = p.steps;
    others = q.steps;
    first = p.answer;
    second = q.answer ∙ ap (λ (c : Config). line n 2 n (own_dump c) q.steps) (sym one_place);
    same_steps = λ same. one_end n q.other.program p.steps q.steps (subst (λ (r : Program). IsEnd r n p.steps) (same_second same) p.is_end) q.is_end;
  }

  pub same_files : (map (λ w. w.0) x ≡ map (λ w. w.0) y) × (take 1 x ≡ take 1 y)
  same_files = (ap (λ (ws : Writes). map (λ w. w.0) ws) p.both ∙ sym (ap (λ (ws : Writes). map (λ w. w.0) ws) q.both), ap (take 1) p.both ∙ sym (ap (take 1) q.both))
