-- What a module hands over that simulates another one is accepted with that other one.
use Rattle.std.proofs.Common.{◌≡◌, ℕ, ◌+◌, ◌≤◌, true, false, List, [], ◌∷◌, Option, Some, None, refl, sym, subst}
use Rattle.std.specs.Str.{IsUtf8}
use Rattle.wasm_syntax.specs.declared.host.Reply.{Reply}
use Rattle.wasm_syntax.specs.declared.module.ModuleParts.{ModuleParts as Module}
use Rattle.wasm_syntax.specs.Module.{Program}
use Rattle.wasm_syntax.specs.Machine.{Config}
use Rattle.wasm_syntax.specs.Run.{Outcome, not_started, finished, trapped, lacks_reply, misfits, running, got_stuck, Ran, Invocation, run}
use Rattle.dump_write.specs.Image.{image}
use Rattle.dump_write.specs.ImageBytes.{bytes_of}
use Rattle.rewrite_modules.specs.Simulates.{Simulates, NoneDeep, AllAlike, EndsAlike, Shows}
use Rattle.accept_laws.specs.calls.Accepted.{IsAcceptedIfFew, TrapAccepted, TrapsAccepted, HandsOver, HandsOverAt, AllHandOver}
use Rattle.pm_text.proofs.Lists.{some_is}

module _ (m : Module) where
  -- the bytes are those of the image
  shown : (kind : ℕ) (a b : Config) (other : Ran) → other.last ≡ Some b → Shows kind a b other → ((name : List ℕ) → IsUtf8 name → IsAcceptedIfFew m (bytes_of (image a name))) → HandsOver m other
  shown kind a b other e h t = record {
    whole = h.whole;
    last = b;
    last_is = e;
    accepted = λ name text short. subst (IsAcceptedIfFew m) (sym (h.bytes name short)) (t name text);
  }

  trap_over : (kind : ℕ) (last q : Option Config) (other : Ran) → other.last ≡ q → EndsAlike (trapped kind) last q other → TrapAccepted m (trapped kind) last → HandsOver m other
  trap_over kind None q other e h t = absurd h
  trap_over kind (Some a) None other e h t = absurd h
  trap_over kind (Some a) (Some b) other e h t = let same : a ≡ t.0 = some_is t.1 in shown kind a b other e h (λ name text. subst (λ c. IsAcceptedIfFew m (bytes_of (image c name))) (sym same) (t.2 name text))

  pub over : (o : Outcome) (last : Option Config) (other : Ran) → EndsAlike o last other.last other → TrapAccepted m o last → HandsOverAt m o other
  over (trapped kind) last other h t = trap_over kind last other.last other refl h t
  over (not_started cause) last other h t = tt
  over (finished value) last other h t = tt
  over (lacks_reply call) last other h t = tt
  over (misfits call reply) last other h t = tt
  over running last other h t = tt
  over got_stuck last other h t = tt

  all_over : (ones others : List Ran) → AllAlike ones others → TrapsAccepted m ones → AllHandOver m ones others
  all_over [] [] h t = tt
  all_over [] (other ∷ others) h t = h
  all_over (one ∷ ones) [] h t = h
  all_over (one ∷ ones) (other ∷ others) h t = (over one.outcome one.last other h.0.ends t.0, all_over ones others h.1 t.1)

-- with so many steps
abbrev pub HandsOverIn : Program → Program → List Invocation → List Reply → ℕ → ℕ → Type 0
HandsOverIn p other is replies d n = (steps : ℕ) × (n ≤ steps) × AllHandOver p.module_ (run p false is replies d n) (run other true is replies (d + 2) steps)

pub handed_over : (factor : ℕ) (p other : Program) → Simulates factor p other → (is : List Invocation) (replies : List Reply) (d n : ℕ) → 1 ≤ d → d ≤ 10000 → NoneDeep (run p false is replies d n) → TrapsAccepted p.module_ (run p false is replies d n) → HandsOverIn p other is replies d n
handed_over factor p other sim is replies d n low high none t =
    let s = sim is replies d n low high none in
    (s.0, s.1, all_over p.module_ (run p false is replies d n) (run other true is replies (d + 2) s.0) s.3 t)
