-- The functions of an accepted module, one after the other.
use Rattle.std.proofs.Common.{◌≡◌, ℕ, ◌+◌, ◌^◌, ◌<◌, ◌≤◌, List, [], ◌∷◌, ◌++◌, length, take, get_or, Option, Some, slice_get, ap, ◌∙◌, arith}
use Rattle.std.proofs.lemmas.Option.{slice_get-get_or}
use Rattle.wasm_syntax.specs.declared.parts.Body.{Body}
use Rattle.wasm_syntax.specs.declared.module.ModuleParts.{ModuleParts as Module}
use Rattle.wasm_syntax.specs.Module.{option_then, function_at}
use Rattle.rewrite_modules.specs.calls.Instrument.{new_body}
use Rattle.rewrite_promise.specs.calls.Promise.{Accepted}
use Rattle.operand_spill.specs.calls.Plans.{IsDefined}
use Rattle.unwind_rewrite.specs.calls.Rewritten.{Ascends, program_in, IsRewritten}
use Rattle.instrument.specs.inner.Adding.{Adds, new_bodies}
use Rattle.instrument.proofs.Adding.{one_added, all_taken, each_at}
use Rattle.rewrite_modules.proofs.Links.{length-each}
use Rattle.wasm_syntax.proofs.Bodies.{index_of}

pub all_functions : (m : Module) (a : Accepted m) (old now : List Body) (n : ℕ) → length m.bodies ≤ n → Adds (take n (new_bodies m a)) old now → Adds (new_bodies m a) old now
all_functions m a old now n le adds =
    let count = length-each (λ f. new_body (program_in m a) f (function_at (program_in m a) f)) (length m.imports) m.bodies in
    all_taken (new_bodies m a) old now n (omega (arith, le, count)) adds

module _ (m : Module) (a : Accepted m) (i : ℕ) (lt : i < length m.bodies) where
  abbrev body : Body
  body = get_or m.bodies i (record { groups = []; ops = []; targets = []; start = 0 })

  body_is : slice_get m.bodies i ≡ Some body
  body_is = slice_get-get_or m.bodies i (record { groups = []; ops = []; targets = []; start = 0 }) lt

  pub number_fits : length m.imports + i < 2 ^ 32
  number_fits = omega (arith, lt, a.premises.whole.as_many, a.premises.limits_.short.functions)

  pub is_there : IsDefined m (length m.imports + i)
  is_there = (body, ap (λ (o : Option ℕ). option_then o (slice_get m.bodies)) (index_of m i) ∙ body_is)

  -- a function more
  pub function_added : (old now : List Body) (b : Body) → IsRewritten m (length m.imports + i) b → Ascends b → Adds (take i (new_bodies m a)) old now → Adds (take (i + 1) (new_bodies m a)) old (now ++ b ∷ [])
  function_added old now b is up adds =
      let go : ℕ → Body = λ f. new_body (program_in m a) f (function_at (program_in m a) f) in
      one_added (new_bodies m a) old now i (go (length m.imports + i)) b (each_at go (length m.imports) m.bodies i body body_is) (is a) up adds
