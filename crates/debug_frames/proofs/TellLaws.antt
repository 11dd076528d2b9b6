-- Whether the line on an unreadable program is told.
use Rattle.std.proofs.Common.{◌≡◌, ℕ, true, false, List, ◌++◌, sym, ap}
use Rattle.std.specs.Prelude.{codes}
use Rattle.std.proofs.lemmas.List.{append-nil}
use Rattle.debug_frames.specs.declared.programs.Program.{Program}
use Rattle.debug_frames.specs.declared.programs.Program.TheVariants.{Read, Unreadable}
use Rattle.debug_frames.specs.Unreadable.{unreadable, program_line}
use Rattle.debug_frames.specs.inner.Stores.{is_read}

pub line_none : (out : List ℕ) (at : ℕ) (p : Program) → is_read p ≡ true → out ≡ out ++ program_line at p
line_none out at (Read lines) e = sym (append-nil out)
line_none out at Unreadable e = absurd cc

pub line_some : (at n : ℕ) (p : Program) → n ≡ at → is_read p ≡ false → unreadable (codes ".debug_line") n ≡ program_line at p
line_some at n (Read lines) same e = absurd cc
line_some at n Unreadable same e = ap (unreadable (codes ".debug_line")) same
