-- The outline of opcodes gives the bounds of all that the sequences hold that they make.
use Rattle.std.proofs.Common.{◌≡◌, ℕ, ◌*◌, ◌<◌, ◌≤◌, Bool, true, false, leb, cond, List, [], ◌∷◌, ◌++◌, Option, Some, None, refl, sym, ap, ◌∙◌, arith}
use Rattle.std.specs.Prelude.{fold, map, option_map}
use Rattle.std.specs.Option.{option_or}
use Rattle.std.proofs.lemmas.Bool.{leb-true, leb-false}
use Rattle.dwarf_line.specs.declared.hull.Hull.{Hull}
use Rattle.dwarf_line.specs.declared.lines.Row.{Row}
use Rattle.dwarf_line.specs.declared.lines.LineFile.{LineFile}
use Rattle.dwarf_line.specs.declared.lines.Sequence.{Sequence}
use Rattle.dwarf_line.specs.declared.matrix.Matrix.{Matrix}
use Rattle.dwarf_line.specs.declared.effects.AddressChange.{AddressChange}
use Rattle.dwarf_line.specs.declared.effects.AddressChange.TheVariants.{Kept, By, To}
use Rattle.dwarf_line.specs.declared.effects.Effect.{Effect}
use Rattle.dwarf_line.specs.declared.effects.Effect.TheVariants.{Changes, AddsRow, Ends}
use Rattle.dwarf_line.specs.declared.outline.Outline.{Outline}
use Rattle.dwarf_line.specs.declared.opcodes.Opcode.{Opcode}
use Rattle.dwarf_line.specs.declared.opcodes.Opcode.TheVariants.{Special, Copy, AdvancePc, AdvanceLine, SetFile, SetColumn, ConstAddPc, FixedAdvancePc, EndSequence, SetAddress, DefineFile, Passed}
use Rattle.dwarf_line.specs.Parameters.{Parameters}
use Rattle.dwarf_line.specs.Rows.{low, advanced, first_matrix, ended, step, matrix}
use Rattle.dwarf_line.specs.calls.Held.{held_from, held}
use Rattle.dwarf_line.specs.calls.Hulls.{no_hull, widened, hull_from}
use Rattle.dwarf_line.specs.inner.Outlines.{address_by, both_changes, effect_of, first_of, held_by, made, hull_over, closed_at, closed_hull, start_hull, with_front, outline}
use Rattle.dwarf_line.proofs.Numbers.{low_sum}

-- ---- the order in which bounds are widened says nothing

abbrev lesser : ℕ → ℕ → ℕ
lesser a b = cond (leb a b) a b

abbrev greater : ℕ → ℕ → ℕ
greater a b = cond (leb a b) b a

lesser_by : (f b : ℕ) (t : Bool) → leb f b ≡ t → (cond t f b ≤ f) × (cond t f b ≤ b) × ((c : ℕ) → c ≤ f → c ≤ b → c ≤ cond t f b)
lesser_by f b true e = (omega arith, leb-true f b e, λ c x y. x)
lesser_by f b false e = let past : b < f = leb-false f b e in (omega (arith, past), omega arith, λ c x y. y)

greater_by : (f b : ℕ) (t : Bool) → leb f b ≡ t → (f ≤ cond t b f) × (b ≤ cond t b f) × ((c : ℕ) → f ≤ c → b ≤ c → cond t b f ≤ c)
greater_by f b true e = (leb-true f b e, omega arith, λ c x y. y)
greater_by f b false e = let past : b < f = leb-false f b e in (omega arith, omega (arith, past), λ c x y. x)

lesser_half : (f a b : ℕ) → lesser (lesser f a) b ≤ lesser (lesser f b) a
lesser_half f a b =
    let one = lesser_by f a (leb f a) refl in
    let both = lesser_by (lesser f a) b (leb (lesser f a) b) refl in
    let other : lesser (lesser f a) b ≤ lesser f b = (lesser_by f b (leb f b) refl).2 (lesser (lesser f a) b) (omega (arith, both.0, one.0)) both.1 in
    (lesser_by (lesser f b) a (leb (lesser f b) a) refl).2 (lesser (lesser f a) b) other (omega (arith, both.0, one.1))

greater_half : (f a b : ℕ) → greater (greater f a) b ≤ greater (greater f b) a
greater_half f a b =
    let one = greater_by f b (leb f b) refl in
    let both = greater_by (greater f b) a (leb (greater f b) a) refl in
    let other : greater f a ≤ greater (greater f b) a = (greater_by f a (leb f a) refl).2 (greater (greater f b) a) (omega (arith, both.0, one.0)) both.1 in
    (greater_by (greater f a) b (leb (greater f a) b) refl).2 (greater (greater f b) a) other (omega (arith, both.0, one.1))

same_by_halves : (a b : ℕ) → a ≤ b → b ≤ a → a ≡ b
same_by_halves a b low high = omega arith

abbrev hull_by : ℕ → ℕ → Hull
hull_by first last = record { first = first; «end» = last }

widened_swap : (h : Hull) (o p : Option (ℕ × ℕ)) → widened (widened h o) p ≡ widened (widened h p) o
widened_swap h None p = refl
widened_swap h (Some a) None = refl
widened_swap h (Some a) (Some b) =
    let first : lesser (lesser h.first a.0) b.0 ≡ lesser (lesser h.first b.0) a.0 = same_by_halves _ _ (lesser_half h.first a.0 b.0) (lesser_half h.first b.0 a.0) in
    let last : greater (greater h.«end» a.1) b.1 ≡ greater (greater h.«end» b.1) a.1 = same_by_halves _ _ (greater_half h.«end» a.1 b.1) (greater_half h.«end» b.1 a.1) in
    ap (λ (f : ℕ). hull_by f (greater (greater h.«end» a.1) b.1)) first ∙ ap (hull_by (lesser (lesser h.first b.0) a.0)) last

hull_over_on : (h : Hull) (o : Option (ℕ × ℕ)) (os : List (Option (ℕ × ℕ))) → hull_over (widened h o) os ≡ widened (hull_over h os) o
hull_over_on h o [] = refl
hull_over_on h o (p ∷ os) = ap (λ (k : Hull). hull_over k os) (widened_swap h o p) ∙ hull_over_on (widened h p) o os

-- ---- the sequences of a list of opcodes

hull_more : (h : Hull) (ss : List Sequence) (s : Sequence) → hull_from h (ss ++ s ∷ []) ≡ widened (hull_from h ss) (held s)
hull_more h [] s = refl
hull_more h (t ∷ ss) s = hull_more (widened h (held t)) ss s

first_more : (rows : List Row) (r : Row) → first_of (rows ++ r ∷ []) ≡ option_or (first_of rows) (Some r.address)
first_more [] r = refl
first_more (x ∷ rows) r = refl

held_first : (rows : List Row) (last : ℕ) → held_from rows last ≡ held_by (first_of rows) last
held_first [] last = refl
held_first (x ∷ rows) last = refl

abbrev made_from : Parameters → List Opcode → Matrix → List (Option (ℕ × ℕ))
made_from h ops m = made (map (effect_of h) ops) (first_of m.rows) m.registers.address

with_row : (k : Hull) (es : List Effect) (rows : List Row) (r : Row) → hull_over k (made es (first_of (rows ++ r ∷ [])) r.address) ≡ hull_over k (made es (option_or (first_of rows) (Some r.address)) r.address)
with_row k es rows r = ap (λ (o : Option ℕ). hull_over k (made es o r.address)) (first_more rows r)

sequences_hull : (h : Parameters) (k : Hull) (ops : List Opcode) (m : Matrix) → hull_from k (fold (step h) m ops).sequences ≡ hull_over (hull_from k m.sequences) (made_from h ops m)
unfolding step
sequences_hull h k [] m = refl
sequences_hull h k (Special n ∷ ops) m = sequences_hull h k ops (step h m (Special n)) ∙ with_row (hull_from k m.sequences) (map (effect_of h) ops) m.rows (advanced h n m.registers)
sequences_hull h k (Copy ∷ ops) m = sequences_hull h k ops (step h m Copy) ∙ with_row (hull_from k m.sequences) (map (effect_of h) ops) m.rows m.registers
sequences_hull h k (AdvancePc n ∷ ops) m =
    sequences_hull h k ops (step h m (AdvancePc n)) ∙ ap (λ (a : ℕ). hull_over (hull_from k m.sequences) (made (map (effect_of h) ops) (first_of m.rows) a)) (sym (low_sum m.registers.address (h.minimum_instruction_length * n)))
sequences_hull h k (AdvanceLine z ∷ ops) m = sequences_hull h k ops (step h m (AdvanceLine z))
sequences_hull h k (SetFile n ∷ ops) m = sequences_hull h k ops (step h m (SetFile n))
sequences_hull h k (SetColumn n ∷ ops) m = sequences_hull h k ops (step h m (SetColumn n))
sequences_hull h k (ConstAddPc ∷ ops) m = sequences_hull h k ops (step h m ConstAddPc)
sequences_hull h k (FixedAdvancePc n ∷ ops) m = sequences_hull h k ops (step h m (FixedAdvancePc n))
sequences_hull h k (EndSequence ∷ ops) m =
    let s : Sequence = record { rows = m.rows; «end» = m.registers.address } in
    sequences_hull h k ops (ended m)
    ∙ ap (λ (x : Hull). hull_over x (made (map (effect_of h) ops) None 0)) (hull_more k m.sequences s ∙ ap (widened (hull_from k m.sequences)) (held_first m.rows m.registers.address))
sequences_hull h k (SetAddress n ∷ ops) m = sequences_hull h k ops (step h m (SetAddress n))
sequences_hull h k (DefineFile f ∷ ops) m = sequences_hull h k ops (step h m (DefineFile f))
sequences_hull h k (Passed ∷ ops) m = sequences_hull h k ops m

-- ---- outlines

changes_both : (c d : AddressChange) (a : ℕ) → address_by (both_changes c d) a ≡ address_by d (address_by c a)
changes_both c Kept a = refl
changes_both c (To b) a = refl
changes_both Kept (By n) a = refl
changes_both (By m) (By n) a = omega arith
changes_both (To b) (By n) a = refl

or_none : (o : Option ℕ) → option_or o None ≡ o
or_none None = refl
or_none (Some n) = refl

or_some : (o : Option ℕ) (n : ℕ) (p : Option ℕ) → option_or (option_or o (Some n)) p ≡ option_or o (Some n)
or_some None n p = refl
or_some (Some m) n p = refl

first_by : (c : AddressChange) (o : Option AddressChange) (a : ℕ)
    → option_map (λ (f : AddressChange). address_by f a) (option_map (both_changes c) o) ≡ option_map (λ (f : AddressChange). address_by f (address_by c a)) o
first_by c None a = refl
first_by c (Some d) a = ap Some (changes_both c d a)

changed_by : (c : AddressChange) (s : Outline) (row : Option ℕ) (a : ℕ) (o : Option AddressChange)
    → closed_at row a (with_front (Changes c) s) (option_map (both_changes c) o) ≡ closed_at row (address_by c a) s o
changed_by c s row a None = refl
changed_by c s row a (Some d) =
    ap (λ (r : Option ℕ). widened s.behind (held_by (option_or row r) (address_by (both_changes c d) a))) (first_by c s.first a)
    ∙ ap (λ (x : ℕ). widened s.behind (held_by (option_or row (option_map (λ (f : AddressChange). address_by f (address_by c a)) s.first)) x)) (changes_both c d a)

rowed_by : (c : AddressChange) (s : Outline) (row : Option ℕ) (a : ℕ) (o : Option AddressChange)
    → closed_at row a (with_front (AddsRow c) s) (option_map (both_changes c) o) ≡ closed_at (option_or row (Some (address_by c a))) (address_by c a) s o
rowed_by c s row a None = refl
rowed_by c s row a (Some d) =
    ap (λ (x : ℕ). widened s.behind (held_by (option_or row (Some (address_by c a))) x)) (changes_both c d a)
    ∙ ap (λ (r : Option ℕ). widened s.behind (held_by r (address_by d (address_by c a)))) (sym (or_some row (address_by c a) (option_map (λ (f : AddressChange). address_by f (address_by c a)) s.first)))

outline_hull : (es : List Effect) (row : Option ℕ) (a : ℕ) → hull_over no_hull (made es row a) ≡ closed_hull (outline es) row a
outline_hull [] row a = refl
outline_hull (Changes c ∷ es) row a = outline_hull es row (address_by c a) ∙ sym (changed_by c (outline es) row a (outline es).close)
outline_hull (AddsRow c ∷ es) row a = outline_hull es (option_or row (Some (address_by c a))) (address_by c a) ∙ sym (rowed_by c (outline es) row a (outline es).close)
outline_hull (Ends ∷ es) row a =
    hull_over_on no_hull (held_by row a) (made es None 0)
    ∙ ap (λ (k : Hull). widened k (held_by row a)) (outline_hull es None 0)
    ∙ ap (λ (r : Option ℕ). widened (start_hull (outline es)) (held_by r a)) (sym (or_none row))

-- Behind a header the outline gives the bounds of the program.
pub matrix_hull : (h : Parameters) (files : List LineFile) (ops : List Opcode) → hull_from no_hull (matrix h files ops).sequences ≡ start_hull (outline (map (effect_of h) ops))
matrix_hull h files ops = sequences_hull h no_hull ops (first_matrix files) ∙ outline_hull (map (effect_of h) ops) None 0
