-- The names that a run creates.
use Rattle.std.specs.Prelude.{◌≡◌, ◌<◌, ◌⊎◌, ℕ, List, length, Some, Contains}
use Rattle.run_words.specs.declared.words.RunWords.{RunWords}
use Rattle.run_session.specs.RunText.{dump_name}

-- each name that is created now was created before, or is one of these
abbrev pub CreatesOnly : (IsOne : List ℕ → Type 0) → (before now : List (List ℕ)) → Type 0
CreatesOnly IsOne before now = (name : List ℕ) → Contains now name → Contains before name ⊎ IsOne name

-- that of a dump, of which there is at most one for each invocation, or that of the record
abbrev pub IsRunName : RunWords → List ℕ → Type 0
IsRunName w name = ((j : ℕ) × (j < length w.invocations) × (name ≡ dump_name w.dump j)) ⊎ (w.log_to ≡ Some name)
