-- The units of a section are exactly those that its bytes spell, for each versions: some list of units is always spelled, and one alone.
use Rattle.std.proofs.Common.{◌≡◌, ℕ, zero, suc, ◌+◌, ◌-◌, ◌≤◌, ◌<◌, List, [], ◌∷◌, ◌++◌, length, take, drop, Ok, Err, refl, sym, ap, subst, ◌∙◌, inl, inr, append_assoc, arith, length-append}
use Rattle.std.specs.Prelude.{codes}
use Rattle.std.proofs.lemmas.List.{append-nil, take_at}
use Rattle.std.proofs.Math.Seq.{drop-append_seam}
use Rattle.wasm_bytes.specs.Place.{Place, Read}
use Rattle.wasm_bytes.specs.Reading.{◌>>=◌, checked, until_end, to_end_item}
use Rattle.wasm_bytes.specs.calls.Spelling.{passing, any}
use Rattle.wasm_bytes.specs.Laws.{IsBytes, place, got, failed, IsExact}
use Rattle.wasm_bytes.proofs.Places.{IsBytes-rest, IsBytes-front, place_is}
use Rattle.wasm_bytes.proofs.Exact.{checked_exact}
use Rattle.wasm_bytes.proofs.ExactLists.{more_left, at_end, nil_place}
use Rattle.wasm_bytes.proofs.Loops.{first, end_on, end_done}
use Rattle.dwarf_bytes.specs.Items.{number_item, is_unit_length, unit_block_item, reading_of}
use Rattle.dwarf_bytes.specs.calls.Spelled.{number, unit_sized}
use Rattle.dwarf_bytes.proofs.Exact.{number_exact, Opens, block_sound, block_again}
use Rattle.dwarf_info.specs.declared.entry.Unit.{Unit as UnitTree}
use Rattle.dwarf_info.specs.declared.entry.UnitAnswer.{UnitAnswer}
use Rattle.dwarf_info.specs.declared.entry.UnitAnswer.TheVariants.{Tree as TreeOf, Unreadable}
use Rattle.dwarf_info.specs.Sections.{SectionBytes5}
use Rattle.dwarf_info.specs.Units.{Versions, whole_unit, answer_of, answer_in, answer_item, all_of, answers_of, settled, units_of}
use Rattle.dwarf_info.specs.calls.Grammar.{Grammars, unit, answer, no_length, answers, IsUnits}
use Rattle.dwarf_info.proofs.UnitLaws.{AreExact, contents, unit_tail}

-- ---- lengths

-- a length of the 32-bit format
abbrev size_of : ℕ → ℕ → List ℕ → Type 0
size_of = passing is_unit_length (number 4)

size_exact : IsExact size_of (checked is_unit_length (number_item 4))
size_exact = checked_exact is_unit_length (number 4) (number_item 4) (number_exact 4)

opened : (before after : List ℕ) (inner outer : Place) → IsBytes after → unit_block_item (place before after) ≡ got inner outer → Opens size_of before after inner outer
unfolding unit_block_item
opened before after inner outer fits read = block_sound size_of (checked is_unit_length (number_item 4)) size_exact before after inner outer fits read

opens_again : (before size inner rest : List ℕ) → size_of (length inner) (length before) size
    → unit_block_item (place before (size ++ (inner ++ rest))) ≡ got (place (before ++ size) inner) (place (before ++ (size ++ inner)) rest)
unfolding unit_block_item
opens_again before size inner rest s = block_again size_of (checked is_unit_length (number_item 4)) size_exact before size inner rest s

-- a length opens a block wherever one is spelled
sized_opens : (before after front rest : List ℕ) → after ≡ front ++ rest → unit_sized any (length before) front → (inner : Place) × (outer : Place) × (unit_block_item (place before after) ≡ got inner outer)
sized_opens before after front rest parts s =
    let all : after ≡ s.0 ++ (s.1 ++ rest) = parts ∙ ap (λ (f : List ℕ). f ++ rest) s.4 ∙ append_assoc s.0 s.1 rest in
    (place (before ++ s.0) s.1, place (before ++ (s.0 ++ s.1)) rest, ap (λ (w : List ℕ). unit_block_item (place before w)) all ∙ opens_again before s.0 s.1 rest s.2)

split_same : (a b c d : List ℕ) → length a ≡ length c → a ++ b ≡ c ++ d → (a ≡ c) × (b ≡ d)
split_same a b c d len e =
    let fronts : a ≡ c = sym (take_at a b (length a) refl) ∙ ap (take (length a)) e ∙ take_at c d (length a) (sym len) in
    let ends : b ≡ d = sym (drop-append_seam a b) ∙ ap (drop (length a)) e ∙ ap (λ (n : ℕ). drop n (c ++ d)) len ∙ drop-append_seam c d in
    (fronts, ends)

-- ---- a unit in its block

unit_from : (s : SectionBytes5) (g : Grammars) (u : UnitTree) (at : ℕ) (size inner : List ℕ) → size_of (length inner) at size → contents s g at u (at + length size) inner → unit s g u at (size ++ inner)
unit_from s g u at size inner is c = (c.0, c.1, c.2, (size, inner, is, c.3, refl))

-- The block of a length is the one that a unit there spells.
unit_in : (s : SectionBytes5) (g : Grammars) (u : UnitTree) (at : ℕ) (size inner : List ℕ) → size_of (length inner) at size → unit s g u at (size ++ inner) → contents s g at u (at + length size) inner
unit_in s g u at size inner is c =
    let i = c.3 in
    let same = split_same i.0 i.1 size inner (i.2.1.0 ∙ sym is.1.0) (sym i.4) in
    let moved = subst (λ (w : List ℕ). contents s g at u (at + length w) i.1) same.0 (c.0, c.1, c.2, i.3) in
    subst (λ (w : List ℕ). contents s g at u (at + length size) w) same.1 moved

unit_sizes : (s : SectionBytes5) (g : Grammars) (u : UnitTree) (at : ℕ) (bytes : List ℕ) → unit s g u at bytes → unit_sized any at bytes
unit_sizes s g u at bytes c = let i = c.3 in (i.0, i.1, i.2, tt, i.4)

answer_sizes : (s : SectionBytes5) (g : Grammars) (a : UnitAnswer) (at : ℕ) (bytes : List ℕ) → answer s g a at bytes → unit_sized any at bytes
answer_sizes s g (TreeOf u) at bytes i = unit_sizes s g u at bytes i
answer_sizes s g (Unreadable section o) at bytes i = i.2

answer_takes : (s : SectionBytes5) (g : Grammars) (a : UnitAnswer) (at : ℕ) (bytes : List ℕ) → answer s g a at bytes → 0 < length bytes
answer_takes s g a at bytes i =
    let j = answer_sizes s g a at bytes i in
    omega (arith, ap length j.4, length-append j.0 j.1, j.2.1.0)

-- what is read in a block
reading_in : (s : SectionBytes5) (g : Grammars) → AreExact g → IsBytes s.base.abbreviations → (before size inner : List ℕ) (u : UnitTree) (q : Place) → IsBytes inner
    → size_of (length inner) (length before) size → whole_unit s g.versions (length before) (place (before ++ size) inner) ≡ got u q → unit s g u (length before) (size ++ inner)
reading_in s g h fits before size inner u q bytes is read =
    let t = (unit_tail s g h fits (length before)).sound (before ++ size) inner u q bytes read in
    unit_from s g u (length before) size inner is (subst (λ (n : ℕ). contents s g (length before) u n inner) (length-append before size) t.0)

unit_read : (s : SectionBytes5) (g : Grammars) → AreExact g → IsBytes s.base.abbreviations → (before size inner : List ℕ) (u : UnitTree)
    → size_of (length inner) (length before) size → unit s g u (length before) (size ++ inner)
    → whole_unit s g.versions (length before) (place (before ++ size) inner) ≡ got u (place ((before ++ size) ++ inner) [])
unit_read s g h fits before size inner u is i =
    let c = unit_in s g u (length before) size inner is i in
    (unit_tail s g h fits (length before)).again (before ++ size) inner u (subst (λ (n : ℕ). contents s g (length before) u n inner) (sym (length-append before size)) c)

-- the answer of a block is spelled
answer_from : (s : SectionBytes5) (g : Grammars) → AreExact g → IsBytes s.base.abbreviations → (before size inner : List ℕ) → IsBytes inner → size_of (length inner) (length before) size
    → (r : Read UnitTree) → whole_unit s g.versions (length before) (place (before ++ size) inner) ≡ r → answer s g (answer_of (length before) (reading_of r)) (length before) (size ++ inner)
answer_from s g h fits before size inner bytes is (Ok x) read = reading_in s g h fits before size inner x.0 x.1 bytes is read
answer_from s g h fits before size inner bytes is (Err o) read =
    (refl, refl, (size, inner, is, tt, refl), (λ u i. (let both : failed o ≡ got u (place ((before ++ size) ++ inner) []) = sym read ∙ unit_read s g h fits before size inner u is i in absurd cc)))

-- an answer that is spelled is the one of its block
unreadable_is : (s : SectionBytes5) (g : Grammars) → AreExact g → IsBytes s.base.abbreviations → (before size inner : List ℕ) → IsBytes inner → size_of (length inner) (length before) size
    → ((u : UnitTree) → unit s g u (length before) (size ++ inner) → ⊥)
    → (r : Read UnitTree) → whole_unit s g.versions (length before) (place (before ++ size) inner) ≡ r → answer_of (length before) (reading_of r) ≡ Unreadable (codes ".debug_info") (length before)
unreadable_is s g h fits before size inner bytes is not (Ok x) read = absurd (not x.0 (reading_in s g h fits before size inner x.0 x.1 bytes is read))
unreadable_is s g h fits before size inner bytes is not (Err o) read = refl

answer_is : (s : SectionBytes5) (g : Grammars) → AreExact g → IsBytes s.base.abbreviations → (a : UnitAnswer) (before size inner : List ℕ) → IsBytes inner → size_of (length inner) (length before) size
    → answer s g a (length before) (size ++ inner) → answer_of (length before) (reading_of (whole_unit s g.versions (length before) (place (before ++ size) inner))) ≡ a
answer_is s g h fits (TreeOf u) before size inner bytes is i =
    ap (λ (r : Read UnitTree). answer_of (length before) (reading_of r)) (unit_read s g h fits before size inner u is i)
answer_is s g h fits (Unreadable section o) before size inner bytes is i =
    unreadable_is s g h fits before size inner bytes is i.3 (whole_unit s g.versions (length before) (place (before ++ size) inner)) refl
    ∙ ap (λ (t : List ℕ). Unreadable t (length before)) (sym i.0) ∙ ap (λ (n : ℕ). Unreadable section n) (sym i.1)

-- ---- one answer

answered : (s : SectionBytes5) (versions : Versions) (before size inner rest : List ℕ) → size_of (length inner) (length before) size
    → answer_item s versions (place before (size ++ (inner ++ rest)))
    ≡ got (answer_of (length before) (reading_of (whole_unit s versions (length before) (place (before ++ size) inner)))) (place (before ++ (size ++ inner)) rest)
unfolding answer_item
answered s versions before size inner rest is = ap (answer_in s versions (place before (size ++ (inner ++ rest)))) (opens_again before size inner rest is)

answer_again : (s : SectionBytes5) (g : Grammars) → AreExact g → IsBytes s.base.abbreviations → (a : UnitAnswer) (before front rest : List ℕ) → IsBytes front
    → answer s g a (length before) front → answer_item s g.versions (place before (front ++ rest)) ≡ got a (place (before ++ front) rest)
answer_again s g h fits a before front rest bytes i =
    let j = answer_sizes s g a (length before) front i in
    let here : answer s g a (length before) (j.0 ++ j.1) = subst (λ (w : List ℕ). answer s g a (length before) w) j.4 i in
    let inner : IsBytes j.1 = IsBytes-rest j.0 j.1 (subst IsBytes j.4 bytes) in
    let all : front ++ rest ≡ j.0 ++ (j.1 ++ rest) = ap (λ (f : List ℕ). f ++ rest) j.4 ∙ append_assoc j.0 j.1 rest in
    ap (λ (w : List ℕ). answer_item s g.versions (place before w)) all
    ∙ answered s g.versions before j.0 j.1 rest j.2
    ∙ ap (λ (x : UnitAnswer). got x (place (before ++ (j.0 ++ j.1)) rest)) (answer_is s g h fits a before j.0 j.1 inner j.2 here)
    ∙ ap (λ (w : List ℕ). got a (place (before ++ w) rest)) (sym j.4)

-- where no length stands, the rest is one unit
abbrev past : Place → Place
past p = record p { at = length p.block }

none_in : (s : SectionBytes5) (versions : Versions) (p : Place) (r : Read Place) → ((inner outer : Place) → r ≡ got inner outer → ⊥) → answer_in s versions p r ≡ got (Unreadable (codes ".debug_info") p.at) (past p)
none_in s versions p (Ok x) none = absurd (none x.0 x.1 refl)
none_in s versions p (Err o) none = refl

-- A length that opens a block is spelled.
sized_there : (before after : List ℕ) (inner outer : Place) → IsBytes after → unit_block_item (place before after) ≡ got inner outer → (front : List ℕ) × (rest : List ℕ) × (after ≡ front ++ rest) × unit_sized any (length before) front
sized_there before after inner outer fits read =
    let o = opened before after inner outer fits read in
    (o.size ++ o.contents, o.rest, o.parts ∙ sym (append_assoc o.size o.contents o.rest), (o.size, o.contents, o.is, tt, refl))

none_again : (s : SectionBytes5) (versions : Versions) (before after : List ℕ) → IsBytes after → no_length (length before) after
    → answer_item s versions (place before after) ≡ got (Unreadable (codes ".debug_info") (length before)) (past (place before after))
unfolding answer_item
none_again s versions before after fits i =
    none_in s versions (place before after) (unit_block_item (place before after))
    (λ inner outer read. (let t = sized_there before after inner outer fits read in i.1 t.0 t.1 t.2 t.3))

-- ---- all answers

past_place : (before after : List ℕ) → past (place before after) ≡ place (before ++ after) []
past_place before after = place_is (before ++ after) ((before ++ after) ++ []) (length (before ++ after)) (length (before ++ after)) (sym (append-nil (before ++ after))) refl

last_one : (s : SectionBytes5) (versions : Versions) (n : ℕ) (before after : List ℕ) → IsBytes after → no_length (length before) after
    → until_end (answer_item s versions) (suc n) (place before after) ≡ got (Unreadable (codes ".debug_info") (length before) ∷ []) (place (before ++ after) [])
last_one s versions n before after fits i =
    let a : UnitAnswer = Unreadable (codes ".debug_info") (length before) in
    let p : Place = place before after in
    let on = end_on (answer_item s versions) n p (past p) a (more_left before after i.0) (none_again s versions before after fits i) in
    let none = end_done (answer_item s versions) n (past p) (omega arith) in
    on ∙ ap (λ (r : Read (List UnitAnswer)). r >>= first a) none ∙ ap (λ (q : Place). got (a ∷ []) q) (past_place before after)

one_more : (s : SectionBytes5) (g : Grammars) → AreExact g → IsBytes s.base.abbreviations → (a : UnitAnswer) (more : List UnitAnswer) (n : ℕ) (before front rest : List ℕ) → IsBytes front
    → answer s g a (length before) front → until_end (answer_item s g.versions) n (place (before ++ front) rest) ≡ got more (place ((before ++ front) ++ rest) [])
    → until_end (answer_item s g.versions) (suc n) (place before (front ++ rest)) ≡ got (a ∷ more) (place (before ++ (front ++ rest)) [])
one_more s g h fits a more n before front rest bytes i others =
    let some : 0 < length (front ++ rest) = omega (arith, answer_takes s g a (length before) front i, length-append front rest) in
    let one = answer_again s g h fits a before front rest bytes i in
    let on = end_on (answer_item s g.versions) n (place before (front ++ rest)) (place (before ++ front) rest) a (more_left before (front ++ rest) some) one in
    on ∙ ap (λ (r : Read (List UnitAnswer)). r >>= first a) others ∙ ap (λ (w : List ℕ). got (a ∷ more) (place w [])) (append_assoc before front rest)

-- What is spelled is read.
answers_read : (s : SectionBytes5) (g : Grammars) → AreExact g → IsBytes s.base.abbreviations → (us : List UnitAnswer) (n : ℕ) (before after : List ℕ) → length after ≤ n → IsBytes after
    → answers s g us (length before) after → until_end (answer_item s g.versions) n (place before after) ≡ got us (place (before ++ after) [])
answers_read s g h fits [] n before after room bytes i =
    subst (λ (w : List ℕ). until_end (answer_item s g.versions) n (place before w) ≡ got [] (place (before ++ w) [])) (sym i)
    (end_done (answer_item s g.versions) n (place before []) (at_end before) ∙ ap (λ (p : Place). got [] p) (nil_place before))
answers_read s g h fits (a ∷ more) n before after room bytes (inl i) =
    let some : 0 < length i.0 = answer_takes s g a (length before) i.0 i.2 in
    let len : length after ≡ length i.0 + length i.1 = ap length i.4 ∙ length-append i.0 i.1 in
    let fuel : n ≡ suc (n - 1) = omega (arith, some, len, room) in
    let all : IsBytes (i.0 ++ i.1) = subst IsBytes i.4 bytes in
    let here = subst (λ (k : ℕ). answers s g more k i.1) (sym (length-append before i.0)) i.3 in
    let others = answers_read s g h fits more (n - 1) (before ++ i.0) i.1 (omega (arith, some, len, room)) (IsBytes-rest i.0 i.1 all) here in
    let both = one_more s g h fits a more (n - 1) before i.0 i.1 (IsBytes-front i.0 i.1 all) i.2 others in
    ap (λ (k : ℕ). until_end (answer_item s g.versions) k (place before after)) fuel
    ∙ ap (λ (w : List ℕ). until_end (answer_item s g.versions) (suc (n - 1)) (place before w)) i.4
    ∙ both ∙ ap (λ (w : List ℕ). got (a ∷ more) (place (before ++ w) [])) (sym i.4)
answers_read s g h fits (a ∷ more) n before after room bytes (inr i) =
    let some : 0 < length after = i.2.0 in
    let fuel : n ≡ suc (n - 1) = omega (arith, some, room) in
    let last = last_one s g.versions (n - 1) before after bytes i.2 in
    let list : Unreadable (codes ".debug_info") (length before) ∷ [] ≡ a ∷ more = ap (λ (x : UnitAnswer). x ∷ []) (sym i.0) ∙ ap (λ (xs : List UnitAnswer). a ∷ xs) (sym i.1) in
    ap (λ (k : ℕ). until_end (answer_item s g.versions) k (place before after)) fuel
    ∙ last ∙ ap (λ (xs : List UnitAnswer). got xs (place (before ++ after) [])) list

-- Some list is spelled.
record Spelled (s : SectionBytes5) (g : Grammars) (at : ℕ) (bytes : List ℕ) : Type 0 where
  units : List UnitAnswer
  are : answers s g units at bytes

no_more : (s : SectionBytes5) (g : Grammars) (before after : List ℕ) → 0 < length after → (o : ℕ) → unit_block_item (place before after) ≡ failed o → Spelled s g (length before) after
no_more s g before after some o read = record {
  units = Unreadable (codes ".debug_info") (length before) ∷ [];
  are = inr (
    refl,
    refl,
    (
      some,
      (λ front rest parts i.
          (let opens = sized_opens before after front rest parts i in
          let both : failed o ≡ got opens.0 opens.1 = sym read ∙ opens.2 in
          absurd cc)),
    ),
  );
}

in_front : (s : SectionBytes5) (g : Grammars) (a : UnitAnswer) (before front rest after : List ℕ) → answer s g a (length before) front → after ≡ front ++ rest
    → Spelled s g (length (before ++ front)) rest → Spelled s g (length before) after
in_front s g a before front rest after i parts t = record {
  units = a ∷ t.units;
  are = inl (front, rest, i, subst (λ (n : ℕ). answers s g t.units n rest) (length-append before front) t.are, parts);
}

by_block : (s : SectionBytes5) (g : Grammars) → AreExact g → IsBytes s.base.abbreviations → (n : ℕ) (before after : List ℕ) → IsBytes after → 0 < length after → length after ≤ suc n
    → ((before after : List ℕ) → length after ≤ n → IsBytes after → Spelled s g (length before) after)
    → (r : Read Place) → unit_block_item (place before after) ≡ r → Spelled s g (length before) after
by_block s g h fits n before after bytes some room more (Err o) read = no_more s g before after some o read
by_block s g h fits n before after bytes some room more (Ok x) read =
    let o = opened before after x.0 x.1 bytes read in
    let a = answer_from s g h fits before o.size o.contents (IsBytes-front o.contents o.rest o.bytes) o.is (whole_unit s g.versions (length before) (place (before ++ o.size) o.contents)) refl in
    let parts : after ≡ (o.size ++ o.contents) ++ o.rest = o.parts ∙ sym (append_assoc o.size o.contents o.rest) in
    let left : length o.rest ≤ n = omega (arith, room, ap length parts, length-append (o.size ++ o.contents) o.rest, length-append o.size o.contents, o.is.1.0) in
    in_front s g _ before (o.size ++ o.contents) o.rest after a parts (more (before ++ (o.size ++ o.contents)) o.rest left (IsBytes-rest o.contents o.rest o.bytes))

some_answers : (s : SectionBytes5) (g : Grammars) → AreExact g → IsBytes s.base.abbreviations → (n : ℕ) (before after : List ℕ) → length after ≤ n → IsBytes after → Spelled s g (length before) after
some_answers s g h fits n before [] room bytes = record { units = []; are = refl }
some_answers s g h fits zero before (b ∷ bs) room bytes = absurd (omega (arith, room))
some_answers s g h fits (suc n) before (b ∷ bs) room bytes =
    by_block s g h fits n before (b ∷ bs) bytes (omega arith) room (λ start rest left those. some_answers s g h fits n start rest left those) (unit_block_item (place before (b ∷ bs))) refl

-- ---- all units of a section

answers_are : (s : SectionBytes5) (g : Grammars) → AreExact g → IsBytes s.base.abbreviations → IsBytes s.base.info → (us : List UnitAnswer) → answers s g us 0 s.base.info → answers_of s g.versions ≡ us
unfolding answers_of to_end_item
answers_are s g h fits bytes us i =
    ap (λ (r : Read (List UnitAnswer)). all_of (reading_of r)) (answers_read s g h fits us (length s.base.info - 0) [] s.base.info (omega arith) bytes i)

-- The section spells the units that are read.
pub units_spelled : (s : SectionBytes5) (g : Grammars) → AreExact g → IsBytes s.base.abbreviations → IsBytes s.base.info → IsUnits s g (units_of s g.versions)
unfolding units_of
units_spelled s g h fits bytes =
    let t = some_answers s g h fits (length s.base.info) [] s.base.info (omega arith) bytes in
    (t.units, t.are, ap settled (answers_are s g h fits bytes t.units t.are))

-- It spells no others.
pub units_once : (s : SectionBytes5) (g : Grammars) → AreExact g → IsBytes s.base.abbreviations → IsBytes s.base.info → (us : List UnitAnswer) → IsUnits s g us → us ≡ units_of s g.versions
unfolding units_of
units_once s g h fits bytes us i = i.2 ∙ ap settled (sym (answers_are s g h fits bytes i.0 i.1))
