-- The line of `selftest`.
use Rattle.std.specs.Prelude.{ℕ, List, ◌++◌, length, sum, codes}
use Rattle.std.specs.Fmt.{decimal}
use Rattle.commands.specs.Texts.{ended}
use Rattle.commands.specs.declared.outcome.Outcome.{Outcome}
use Rattle.commands.specs.declared.status.Status.TheVariants as status

-- the kind of a trap, and how many frames its dump has
unfoldable pub trap_text : ℕ → (kind frames : ℕ) → List ℕ
trap_text n kind frames = codes "selftest " ++ decimal n ++ codes " kind " ++ decimal kind ++ codes " frames " ++ decimal frames

unfoldable pub sum_text : (dump : List ℕ) → (steps : ℕ) → List ℕ
sum_text dump steps = codes " bytes " ++ decimal (length dump) ++ codes " sum " ++ decimal (sum dump) ++ codes " steps " ++ decimal steps ++ codes "\n"

-- of so many functions, with the canonical bytes of a dump that was handed over, and how many steps were made
abbrev pub line : ℕ → (kind frames : ℕ) → (dump : List ℕ) → (steps : ℕ) → Outcome
line n kind frames dump steps = ended status.Done (trap_text n kind frames ++ sum_text dump steps)
