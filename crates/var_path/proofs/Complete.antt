-- What spells a path is read as that path.
use Rattle.std.proofs.Common.{◌≡◌, ℕ, Bool, true, false, List, [], ◌∷◌, ◌++◌, Option, Some, None, refl, sym, ap, ◌∙◌, append_assoc}
use Rattle.std.specs.Prelude.{reverse, ◌==◌, option_map, if◌then◌else◌}
use Rattle.std.specs.List.{list_all}
use Rattle.std.proofs.lemmas.Bool.{eqb-true, and_parts}
use Rattle.std.proofs.lemmas.List.{append-nil}
use Rattle.var_path.specs.declared.path.Step.{Step}
use Rattle.var_path.specs.declared.path.Step.TheVariants.{Member, Arrow, Index, Deref}
use Rattle.var_path.specs.declared.path.Path.{Path}
use Rattle.var_path.specs.Words.{is_letter, is_name_byte, is_front, is_bracketed, is_name, index_value, in_front, behind}
use Rattle.var_path.specs.Language.{PathTree, starred, named, grouped, with_member, with_arrow, with_index, CanBeFollowed, IsPathTree, spelling, path, extended, then_step, meaning}
use Rattle.var_path.specs.Reading.{step_read, begins_name, named_step, one_step, derefs, behind_stars, if_none_open, if_one_open, step_and, steps_behind, path_behind, read_path}
use Rattle.var_path.proofs.Spans.{Stops, front_of, behind_of, reversed_onto}
use Rattle.var_path.proofs.StepLaws.{name_byte, read_end, read_one}
use Rattle.var_path.proofs.Digits.{some_index}

-- A text is read where these stars and parentheses are unclosed.
abbrev path_from : List ℕ → List ℕ → Option Path
path_from unclosed text = path_behind (reverse (in_front is_front text) ++ unclosed) (behind is_front text)

-- a path that begins with a star ends where what contains it ends
abbrev EndsAll : List ℕ → Type 0
EndsAll [] = Unit {0}
EndsAll (b ∷ bs) = b ≡ 41

abbrev Ends : PathTree → List ℕ → Type 0
Ends (starred t) rest = EndsAll rest
Ends (named name) rest = Stops is_name_byte rest
Ends (grouped t) rest = Stops is_name_byte rest
Ends (with_member t name) rest = Stops is_name_byte rest
Ends (with_arrow t name) rest = Stops is_name_byte rest
Ends (with_index t digits n) rest = Stops is_name_byte rest

stops_all : (rest : List ℕ) → EndsAll rest → Stops is_name_byte rest
stops_all [] h = tt
stops_all (b ∷ bs) h = ap is_name_byte h

ends_all : (t : PathTree) (rest : List ℕ) → EndsAll rest → Ends t rest
ends_all (starred t) rest h = h
ends_all (named name) rest h = stops_all rest h
ends_all (grouped t) rest h = stops_all rest h
ends_all (with_member t name) rest h = stops_all rest h
ends_all (with_arrow t name) rest h = stops_all rest h
ends_all (with_index t digits n) rest h = stops_all rest h

followed : (t : PathTree) (rest : List ℕ) → CanBeFollowed t → Stops is_name_byte rest → Ends t rest
followed (starred t) rest f h = absurd f
followed (named name) rest f h = h
followed (grouped t) rest f h = h
followed (with_member t name) rest f h = h
followed (with_arrow t name) rest f h = h
followed (with_index t digits n) rest f h = h

-- ---- a star or a parenthesis in front

front_one : (b : ℕ) (unclosed text : List ℕ) → is_front b ≡ true → path_from unclosed (b ∷ text) ≡ path_from (b ∷ unclosed) text
front_one b unclosed text is = rw is (ap (λ (o : List ℕ). path_behind o (behind is_front text)) (reversed_onto b (in_front is_front text) unclosed))

map_twice : (p : Path) (s : Step) (o : Option (List Step)) → option_map (extended p) (option_map (λ ss. s ∷ ss) o) ≡ option_map (extended (then_step p s)) o
map_twice p s None = refl
map_twice p s (Some ss) = ap (λ (all : List Step). Some (path p.name all)) (sym (append_assoc p.steps (s ∷ []) ss))

none_open_more : (s : Step) (steps : List Step) (front : List ℕ) → if_none_open (s ∷ steps) front ≡ option_map (λ ss. s ∷ ss) (if_none_open steps front)
none_open_more s steps [] = refl
none_open_more s steps (b ∷ front) = refl

more_steps : (s : Step) (steps : List Step) (o : Option (List Step)) → option_map (λ ss. (s ∷ steps) ++ ss) o ≡ option_map (λ ss. s ∷ ss) (option_map (λ ss. steps ++ ss) o)
more_steps s steps None = refl
more_steps s steps (Some ss) = refl

one_open_more : (s : Step) (steps : List Step) (further : List ℕ → Option (List Step)) (front : List ℕ)
    → if_one_open (s ∷ steps) further front ≡ option_map (λ ss. s ∷ ss) (if_one_open steps further front)
one_open_more s steps further [] = refl
one_open_more s steps further (b ∷ front) = more_steps s steps (further front)

star_open : (unclosed rest : List ℕ) → EndsAll rest → steps_behind (42 ∷ unclosed) rest ≡ option_map (λ ss. Deref ∷ ss) (steps_behind unclosed rest)
star_open unclosed [] h =
    read_end (42 ∷ unclosed) ∙ none_open_more Deref (derefs unclosed) (behind_stars unclosed) ∙ ap (option_map (λ ss. Deref ∷ ss)) (sym (read_end unclosed))
star_open unclosed (b ∷ rest) h = by_byte b h
  where
    at_close : (f : List ℕ) → steps_behind f (41 ∷ rest) ≡ if_one_open (derefs f) (λ g. steps_behind g rest) (behind_stars f)
    at_close f = read_one f 41 rest

    by_byte : (b : ℕ) → b ≡ 41 → steps_behind (42 ∷ unclosed) (b ∷ rest) ≡ option_map (λ ss. Deref ∷ ss) (steps_behind unclosed (b ∷ rest))
    by_byte b same =
        rw same (at_close (42 ∷ unclosed) ∙ one_open_more Deref (derefs unclosed) (λ g. steps_behind g rest) (behind_stars unclosed)
        ∙ ap (option_map (λ ss. Deref ∷ ss)) (sym (at_close unclosed)))

none_more : (o : Option (List Step)) → option_map (λ ss. [] ++ ss) o ≡ o
none_more None = refl
none_more (Some ss) = refl

group_closed : (unclosed rest : List ℕ) → steps_behind (40 ∷ unclosed) (41 ∷ rest) ≡ steps_behind unclosed rest
group_closed unclosed rest = read_one (40 ∷ unclosed) 41 rest ∙ none_more (steps_behind unclosed rest)

-- ---- names

begins : (name rest : List ℕ) → is_name name ≡ true → begins_name (name ++ rest) ≡ true
begins [] rest e = absurd cc
begins (b ∷ bs) rest e = (and_parts (is_letter b) (list_all is_name_byte bs) e).0

all_bytes : (name : List ℕ) → is_name name ≡ true → list_all is_name_byte name ≡ true
all_bytes [] e = absurd cc
all_bytes (b ∷ bs) e =
    let parted = and_parts (is_letter b) (list_all is_name_byte bs) e in
    rw (name_byte b parted.0) parted.1

no_front : (b : ℕ) → is_letter b ≡ true → is_front b ≡ false
no_front b is = by_tests b (b == 42) refl (b == 40) refl is
  where
    by_tests : (b : ℕ) (t : Bool) → (b == 42) ≡ t → (u : Bool) → (b == 40) ≡ u → is_letter b ≡ true → is_front b ≡ false
    by_tests b true star u unclosed is = let same : b ≡ 42 = eqb-true b 42 star in let no : false ≡ true = sym (ap is_letter same) ∙ is in absurd cc
    by_tests b false star true unclosed is = let same : b ≡ 40 = eqb-true b 40 unclosed in let no : false ≡ true = sym (ap is_letter same) ∙ is in absurd cc
    by_tests b false star false unclosed is = rw (star, unclosed) refl

named_read : (name unclosed rest : List ℕ) → is_name name ≡ true → Stops is_name_byte rest → path_behind unclosed (name ++ rest) ≡ option_map (path name) (steps_behind unclosed rest)
named_read name unclosed rest is h =
    rw (begins name rest is, front_of is_name_byte name rest (all_bytes name is) h, behind_of is_name_byte name rest (all_bytes name is) h) refl

name_from : (name unclosed rest : List ℕ) → is_name name ≡ true → path_from unclosed (name ++ rest) ≡ path_behind unclosed (name ++ rest)
name_from [] unclosed rest e = absurd cc
name_from (b ∷ bs) unclosed rest e = rw (no_front b (and_parts (is_letter b) (list_all is_name_byte bs) e).0) refl

-- ---- steps

step_of : (step : List ℕ → Step) (name rest : List ℕ) → is_name name ≡ true → Stops is_name_byte rest → named_step step (name ++ rest) ≡ Some (step_read (step name) rest)
step_of step name rest is h =
    rw (begins name rest is, front_of is_name_byte name rest (all_bytes name is) h, behind_of is_name_byte name rest (all_bytes name is) h) refl

member_read : (name rest : List ℕ) → is_name name ≡ true → Stops is_name_byte rest → one_step 46 (name ++ rest) ≡ Some (step_read (Member name) rest)
unfolding one_step
member_read name rest is h = step_of Member name rest is h

arrow_read : (name rest : List ℕ) → is_name name ≡ true → Stops is_name_byte rest → one_step 45 (62 ∷ (name ++ rest)) ≡ Some (step_read (Arrow name) rest)
unfolding one_step
arrow_read name rest is h = step_of Arrow name rest is h

index_read : (digits rest : List ℕ) (n : ℕ) → index_value digits ≡ Some n → one_step 91 (digits ++ (93 ∷ rest)) ≡ Some (step_read (Index n) rest)
unfolding one_step
index_read digits rest n is =
    rw (front_of is_bracketed digits (93 ∷ rest) (some_index digits n is) refl, behind_of is_bracketed digits (93 ∷ rest) (some_index digits n is) refl, is) refl

step_taken : (unclosed : List ℕ) (b : ℕ) (text : List ℕ) (s : Step) (rest : List ℕ) → (b == 41) ≡ false → one_step b text ≡ Some (step_read s rest)
    → steps_behind unclosed (b ∷ text) ≡ option_map (λ ss. s ∷ ss) (steps_behind unclosed rest)
step_taken unclosed b text s rest other is =
    read_one unclosed b text ∙ ap (λ (t : Bool). if t then if_one_open (derefs unclosed) (λ f. steps_behind f text) (behind_stars unclosed) else step_and (steps_behind unclosed) (one_step b text)) other
    ∙ ap (step_and (steps_behind unclosed)) is

-- ---- all

pub completes : (t : PathTree) → IsPathTree t → (unclosed rest : List ℕ) → Ends t rest → path_from unclosed (spelling t ++ rest) ≡ option_map (extended (meaning t)) (steps_behind unclosed rest)
completes (starred t) h unclosed rest ends =
    front_one 42 unclosed (spelling t ++ rest) refl ∙ completes t h (42 ∷ unclosed) rest (ends_all t rest ends)
    ∙ ap (option_map (extended (meaning t))) (star_open unclosed rest ends) ∙ map_twice (meaning t) Deref (steps_behind unclosed rest)
completes (named name) h unclosed rest ends = name_from name unclosed rest h ∙ named_read name unclosed rest h ends
completes (grouped t) h unclosed rest ends =
    front_one 40 unclosed ((spelling t ++ 41 ∷ []) ++ rest) refl
    ∙ ap (path_from (40 ∷ unclosed)) (append_assoc (spelling t) (41 ∷ []) rest)
    ∙ completes t h (40 ∷ unclosed) (41 ∷ rest) (ends_all t (41 ∷ rest) refl)
    ∙ ap (option_map (extended (meaning t))) (group_closed unclosed rest)
completes (with_member t name) h unclosed rest ends =
    ap (path_from unclosed) (append_assoc (spelling t) (46 ∷ name) rest)
    ∙ completes t h.1 unclosed (46 ∷ (name ++ rest)) (followed t (46 ∷ (name ++ rest)) h.0 refl)
    ∙ ap (option_map (extended (meaning t))) (step_taken unclosed 46 (name ++ rest) (Member name) rest refl (member_read name rest h.2 ends))
    ∙ map_twice (meaning t) (Member name) (steps_behind unclosed rest)
completes (with_arrow t name) h unclosed rest ends =
    ap (path_from unclosed) (append_assoc (spelling t) (45 ∷ 62 ∷ name) rest)
    ∙ completes t h.1 unclosed (45 ∷ 62 ∷ (name ++ rest)) (followed t (45 ∷ 62 ∷ (name ++ rest)) h.0 refl)
    ∙ ap (option_map (extended (meaning t))) (step_taken unclosed 45 (62 ∷ (name ++ rest)) (Arrow name) rest refl (arrow_read name rest h.2 ends))
    ∙ map_twice (meaning t) (Arrow name) (steps_behind unclosed rest)
completes (with_index t digits n) h unclosed rest ends =
    ap (path_from unclosed) (append_assoc (spelling t) (91 ∷ (digits ++ 93 ∷ [])) rest)
    ∙ ap (λ (ds : List ℕ). path_from unclosed (spelling t ++ (91 ∷ ds))) (append_assoc digits (93 ∷ []) rest)
    ∙ completes t h.1 unclosed (91 ∷ (digits ++ (93 ∷ rest))) (followed t (91 ∷ (digits ++ (93 ∷ rest))) h.0 refl)
    ∙ ap (option_map (extended (meaning t))) (step_taken unclosed 91 (digits ++ (93 ∷ rest)) (Index n) rest refl (index_read digits rest n h.2))
    ∙ map_twice (meaning t) (Index n) (steps_behind unclosed rest)

pub spelled_read : (t : PathTree) → IsPathTree t → read_path (spelling t) ≡ Some (meaning t)
unfolding read_path
spelled_read t h =
    ap (λ (unclosed : List ℕ). path_behind unclosed (behind is_front (spelling t))) (sym (append-nil (reverse (in_front is_front (spelling t)))))
    ∙ ap (path_from []) (sym (append-nil (spelling t)))
    ∙ completes t h [] [] (ends_all t [] tt)
    ∙ ap (option_map (extended (meaning t))) (read_end [])
    ∙ ap (λ (all : List Step). Some (path ((meaning t).name) all)) (append-nil ((meaning t).steps))
