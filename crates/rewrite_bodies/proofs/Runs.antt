-- So many steps that go on lead somewhere.
use Rattle.std.proofs.Common.{◌≡◌, ℕ, zero, suc, ◌≤◌, refl, inl, inr, arith}
use Rattle.wasm_syntax.specs.Machine.{Config, Engine, Stepped, next, ends, traps, no_reply, bad_reply, stuck, step}
use Rattle.rewrite_bodies.specs.calls.Steps.{went, run, To, Shell}
use Rattle.rewrite_bodies.specs.calls.Verdicts.{Leads, Around}

-- what stands around, as the rewriting's laws have it
abbrev pub shell : Around → Shell
shell A = record { idx = A.function; result = A.result; kind = A.kind; below = A.outer; frames = A.callers }

went_leads : (M : Engine) (count : ℕ) (c d : Config) (s : Stepped) → step M c ≡ s → went M (run M count) count s ≡ next d → ((e : Config) → run M count e ≡ next d → Leads M count e d) → Leads M (suc count) c d
went_leads M count c d (next e) at r go = inr (e, at, go e r)
went_leads M zero c d (ends w vs co) at r go = absurd (cc)
went_leads M (suc n) c d (ends w vs co) at r go = absurd (cc)
went_leads M zero c d (traps k e) at r go = absurd (cc)
went_leads M (suc n) c d (traps k e) at r go = absurd (cc)
went_leads M zero c d (no_reply call e) at r go = absurd (cc)
went_leads M (suc n) c d (no_reply call e) at r go = absurd (cc)
went_leads M zero c d (bad_reply call reply e) at r go = absurd (cc)
went_leads M (suc n) c d (bad_reply call reply e) at r go = absurd (cc)
went_leads M zero c d stuck at r go = absurd (cc)
went_leads M (suc n) c d stuck at r go = absurd (cc)

run_leads : (M : Engine) (count : ℕ) (c d : Config) → run M count c ≡ next d → Leads M count c d
run_leads M zero c d e = cc
run_leads M (suc count) c d e = went_leads M count c d (step M c) refl e (λ x. run_leads M count x d)

more_leads : (M : Engine) (m n : ℕ) (c d : Config) → m ≤ n → Leads M m c d → Leads M n c d
more_leads M zero zero c d le h = h
more_leads M zero (suc n) c d le h = inl h
more_leads M (suc m) zero c d le h = absurd (omega (arith, le))
more_leads M (suc m) (suc n) c d le (inl e) = inl e
more_leads M (suc m) (suc n) c d le (inr (e, at, h)) = inr (e, at, more_leads M m n e d (omega (arith, le)) h)

pub to_leads : (M : Engine) (lo hi n : ℕ) (c d : Config) → hi ≤ n → To M lo hi c d → Leads M n c d
to_leads M lo hi n c d le h = more_leads M h.count n c d (omega (arith, le, h.high)) (run_leads M h.count c d h.goes)
