-- Runs of so many steps without offsets.
use Rattle.std.proofs.Common.{◌≡◌, ℕ, zero, suc, Bool, refl, sym, ap, ap₂, ◌∙◌}
use Rattle.wasm_syntax.specs.Module.{Program}
use Rattle.wasm_syntax.specs.Machine.{Config, Engine, Stepped, next, ends, traps, no_reply, bad_reply, stuck, step}
use Rattle.wasm_syntax.specs.Run.{engine}
use Rattle.rewrite_bodies.specs.calls.Steps.{went, run}
use Rattle.rewrite_modules.specs.calls.Bare.{bare, bare_config, bare_stepped}
use Rattle.rewrite_modules.proofs.BareStep.{bare_engine, step_bare}

module _ (M : Engine) where
  abbrev N : Engine
  N = bare_engine M

  went_bare : (k : ℕ) (s : Stepped) → ((c : Config) → run N k (bare_config c) ≡ bare_stepped (run M k c)) → went N (run N k) k (bare_stepped s) ≡ bare_stepped (went M (run M k) k s)
  went_bare k (next c) ih = ih c
  went_bare zero (ends w vs co) ih = refl
  went_bare (suc k) (ends w vs co) ih = refl
  went_bare zero (traps j c) ih = refl
  went_bare (suc k) (traps j c) ih = refl
  went_bare zero (no_reply call c) ih = refl
  went_bare (suc k) (no_reply call c) ih = refl
  went_bare zero (bad_reply call r c) ih = refl
  went_bare (suc k) (bad_reply call r c) ih = refl
  went_bare zero stuck ih = refl
  went_bare (suc k) stuck ih = refl

  pub steps_bare : (k : ℕ) (c : Config) → run N k (bare_config c) ≡ bare_stepped (run M k c)
  steps_bare zero c = refl
  steps_bare (suc k) c = ap (went N (run N k) k) (step_bare M c) ∙ went_bare k (step M c) (λ c. steps_bare k c)

-- of two programs that are the same without offsets
pub steps_alike : (p q : Program) → bare p ≡ bare q → (collecting : Bool) (d k : ℕ) (c c' : Config) → bare_config c ≡ bare_config c' → bare_stepped (run (engine p collecting d) k c) ≡ bare_stepped (run (engine q collecting d) k c')
steps_alike p q e collecting d k c c' same =
    sym (steps_bare (engine p collecting d) k c) ∙ ap₂ (λ x y. run (engine x collecting d) k y) e same ∙ steps_bare (engine q collecting d) k c'
