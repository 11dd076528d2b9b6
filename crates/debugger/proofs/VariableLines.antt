-- The lines of variables, where there are any, and a text put together from its parts.
use Rattle.std.proofs.Common.{◌≡◌, ℕ, ◌==◌, false, List, [], ◌∷◌, ◌++◌, length, refl, append_assoc}
use Rattle.std.specs.Prelude.{flat_map}
use Rattle.dwarf_entries.specs.Standing.{Standing}
use Rattle.var_eval.specs.Frames.{Frame}
use Rattle.debugger.specs.Variables.{variable_line, lines_or_none}

pub some_lines : (x : Frame) (vs : List Standing) → (length vs == 0) ≡ false → lines_or_none x vs ≡ flat_map (variable_line x) vs
some_lines x [] e = absurd (cc)
some_lines x (v ∷ vs) e = refl

-- three parts behind a text
pub joined : (out w p e s1 s2 : List ℕ) → s1 ≡ out ++ w → s2 ≡ s1 ++ p → s2 ++ e ≡ out ++ (w ++ p ++ e)
joined out w p e s1 s2 e1 e2 = rw (e2, e1) (simp append_assoc)
