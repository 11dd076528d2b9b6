-- The sizes of what a session stands on.
use Rattle.std.proofs.Common.{◌≡◌, ℕ, ◌≤◌, List, [], ◌∷◌, Option, Some, None, refl, sym, subst, ◌∙◌, arith}
use Rattle.std.specs.Prelude.{option_map, IfSome}
use Rattle.wasm_syntax.specs.declared.module.ModuleParts.{ModuleParts as Module}
use Rattle.dump_format.specs.declared.dump.Dump.{Dump}
use Rattle.dump_format.specs.declared.dump.Instance.{Instance}
use Rattle.dump_format.specs.Region.{Region}
use Rattle.dump_match.specs.declared.mismatch.Mismatch.TheVariants as rows
use Rattle.dump_match.specs.Matching.{MemoryFits}
use Rattle.dump_match.specs.States.{MatchesState}
use Rattle.debugger.specs.Recorded.{laid_memory, memory_in, memory_among, recorded_memory}
use Rattle.pm_text.proofs.Lists.{some_is}

-- ---- bytes that spell a module

-- ---- the recorded memory

small_laid : (segments : List Region) (o : Option ℕ) → ((pages : ℕ) → o ≡ Some pages → pages ≤ 4096) → IfSome (option_map (λ pages. laid_memory pages segments) o) (λ m. m.max ≤ 4096)
small_laid segments None h = tt
small_laid segments (Some pages) h = h pages refl

small_in : (m : Module) (dump : Dump) (one : Instance) (memories : List ℕ) → one.memories ≡ memories → MemoryFits m dump one → IfSome (memory_in dump memories) (λ m. m.max ≤ 4096)
small_in m dump one [] e fits = tt
small_in m dump one (i ∷ more) e fits = small_laid dump.segments dump.memory few
  where
    not_empty : one.memories ≡ [] → ⊥
    not_empty none = let z : i ∷ more ≡ [] = sym e ∙ none in cc

    few : (pages : ℕ) → dump.memory ≡ Some pages → pages ≤ 4096
    few pages is =
        let x = fits not_empty in
        let same : x.1 ≡ pages = some_is (sym x.3 ∙ is) in
        omega (arith, x.5, same)

pub small_memory : (m : Module) (dump : Dump) → MatchesState m dump → IfSome (recorded_memory dump) (λ m. m.max ≤ 4096)
unfolding recorded_memory
small_memory m dump h =
    let x = h rows.Memory in
    subst (λ (is : List Instance). IfSome (memory_among dump is) (λ m. m.max ≤ 4096)) (sym x.1) (small_in m dump x.0 x.0.memories refl x.2)
