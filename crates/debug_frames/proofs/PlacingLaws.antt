-- A program holds an address exactly where it has a row of it.
use Rattle.std.proofs.Common.{◌≡◌, ℕ, ℤ, Bool, List, [], ◌∷◌, ◌++◌, Option, Some, None, refl, sym, ap, ◌∙◌}
use Rattle.std.specs.Prelude.{pos, map, flat_map, is_some, option_map, ◌||◌}
use Rattle.std.specs.Option.{option_to_list}
use Rattle.std.specs.List.{list_any}
use Rattle.dwarf_line.specs.declared.lines.Sequence.{Sequence}
use Rattle.dwarf_line.specs.Place.{holds, place}
use Rattle.dwarf_line.specs.calls.Held.{held, is_held}
use Rattle.dwarf_line.proofs.HeldLaws.{holds_held, is_placed}
use Rattle.dwarf_scopes.specs.Ranges.{is_between}
use Rattle.debug_frames.specs.declared.programs.Program.{Program}
use Rattle.debug_frames.specs.declared.programs.Program.TheVariants.{Read, Unreadable}
use Rattle.debug_frames.specs.Programs.{located_in}
use Rattle.debug_frames.specs.inner.Placing.{held_by, held_of}

any_by : (a : ℕ) (o : Option (ℕ × ℕ)) (rest : List (ℕ × ℤ)) → list_any (λ (b : ℕ × ℤ). is_between b a) (map (λ (b : ℕ × ℕ). (b.0, pos b.1)) (option_to_list o) ++ rest) ≡ is_held a o || list_any (λ (b : ℕ × ℤ). is_between b a) rest
any_by a None rest = refl
any_by a (Some b) rest = refl

any_held : (a : ℕ) (ss : List Sequence) → list_any (λ (b : ℕ × ℤ). is_between b a) (flat_map held_by ss) ≡ list_any (holds a) ss
any_held a [] = refl
any_held a (s ∷ ss) =
    any_by a (held s) (flat_map held_by ss)
    ∙ ap (λ (t : Bool). t || list_any (λ (b : ℕ × ℤ). is_between b a) (flat_map held_by ss)) (sym (holds_held a s))
    ∙ ap (λ (t : Bool). holds a s || t) (any_held a ss)

some_mapped : {A B : Type 0} (f : A → B) (o : Option A) → is_some (option_map f o) ≡ is_some o
some_mapped f None = refl
some_mapped f (Some x) = refl

pub held_placed : (a : ℕ) (p : Program) → list_any (λ (b : ℕ × ℤ). is_between b a) (held_of p) ≡ is_some (located_in p a)
held_placed a (Read lines) = any_held a lines.sequences ∙ sym (is_placed a lines.sequences) ∙ sym (some_mapped _ (place a lines.sequences))
held_placed a Unreadable = refl
