-- What is read is spelled.
use Rattle.std.proofs.Common.{◌≡◌, ℕ, zero, suc, ◌≤◌, Bool, true, false, List, [], ◌∷◌, ◌++◌, length, Option, Some, None, refl, sym, ap, ◌∙◌, subst, append_assoc, arith}
use Rattle.std.specs.Prelude.{◌↔◌, map, reverse, ◌==◌, ◌&&◌, ◌||◌, option_map, if◌then◌else◌}
use Rattle.std.specs.List.{list_all}
use Rattle.std.proofs.lemmas.Bool.{eqb-true, and_parts}
use Rattle.std.proofs.lemmas.List.Folds.{list_all-append}
use Rattle.std.proofs.lemmas.List.{append-nil, reverse-append, reverse-reverse}
use Rattle.var_path.specs.declared.path.Step.{Step}
use Rattle.var_path.specs.declared.path.Step.TheVariants.{Member, Arrow, Index, Deref}
use Rattle.var_path.specs.declared.path.StepRead.{StepRead}
use Rattle.var_path.specs.declared.path.Path.{Path}
use Rattle.var_path.specs.Words.{is_name_byte, is_star, is_front, in_front, behind}
use Rattle.var_path.specs.Language.{PathTree, starred, named, grouped, with_member, with_arrow, with_index, CanBeFollowed, IsPathTree, spelling, path, extended, then_step, meaning, SpellsPath}
use Rattle.var_path.specs.Reading.{begins_name, one_step, derefs, behind_stars, if_none_open, if_one_open, step_and, steps_behind, read_path}
use Rattle.var_path.proofs.Spans.{Stops, parts, passes, stops, reversed_onto, all_reversed}
use Rattle.var_path.proofs.StepLaws.{IsStep, name_in_front, some_is, step_spelled, shorter, read_end, read_one}
use Rattle.var_path.proofs.Complete.{spelled_read}

-- ---- a step more

abbrev Followed : PathTree → Step → List ℕ → Type 0
Followed t s word = (u : PathTree) × IsPathTree u × CanBeFollowed u × (spelling u ≡ spelling t ++ word) × (meaning u ≡ then_step (meaning t) s)

step_more : (t : PathTree) → IsPathTree t → CanBeFollowed t → (s : Step) (word : List ℕ) → IsStep s word → Followed t s word
step_more t h f (Member name) word w = (with_member t name, (f, h, w.0), tt, ap (λ (x : List ℕ). spelling t ++ x) (sym w.1), refl)
step_more t h f (Arrow name) word w = (with_arrow t name, (f, h, w.0), tt, ap (λ (x : List ℕ). spelling t ++ x) (sym w.1), refl)
step_more t h f (Index n) word w = (with_index t w.0 n, (f, h, w.1), tt, ap (λ (x : List ℕ). spelling t ++ x) (sym w.2), refl)
step_more t h f Deref word w = absurd w

-- ---- stars in front

abbrev under : List ℕ → PathTree → PathTree
under [] t = t
under (b ∷ bs) t = under bs (starred t)

under_tree : (bs : List ℕ) (t : PathTree) → IsPathTree t → IsPathTree (under bs t)
under_tree [] t h = h
under_tree (b ∷ bs) t h = under_tree bs (starred t) h

under_spelled : (bs : List ℕ) (t : PathTree) → list_all is_star bs ≡ true → spelling (under bs t) ≡ reverse bs ++ spelling t
under_spelled [] t all = refl
under_spelled (b ∷ bs) t all =
    let parted = and_parts (is_star b) (list_all is_star bs) all in
    under_spelled bs (starred t) parted.1
    ∙ ap (λ (x : ℕ). reverse bs ++ (x ∷ spelling t)) (sym (eqb-true b 42 parted.0))
    ∙ sym (reversed_onto b bs (spelling t))

under_meaning : (bs : List ℕ) (t : PathTree) → meaning (under bs t) ≡ extended (meaning t) (map (λ b. Deref) bs)
under_meaning [] t = ap (path ((meaning t).name)) (sym (append-nil ((meaning t).steps)))
under_meaning (b ∷ bs) t =
    under_meaning bs (starred t) ∙ ap (path ((meaning t).name)) (append_assoc ((meaning t).steps) (Deref ∷ []) (map (λ b. Deref) bs))

-- ---- what is read behind a path that can be followed

abbrev Text : List ℕ → PathTree → List ℕ → List ℕ
Text unclosed t rest = reverse unclosed ++ (spelling t ++ rest)

abbrev Found : List ℕ → PathTree → List ℕ → List Step → Type 0
Found unclosed t rest steps = SpellsPath (extended (meaning t) steps) (Text unclosed t rest)

at_end : (unclosed : List ℕ) (t : PathTree) → IsPathTree t → (steps : List Step) (left : List ℕ) → behind_stars unclosed ≡ left → if_none_open (derefs unclosed) left ≡ Some steps → Found unclosed t [] steps
at_end unclosed t h steps (b ∷ left) is e = absurd cc
at_end unclosed t h steps [] is e =
    let front = in_front is_star unclosed in
    let all : unclosed ≡ front = sym (parts is_star unclosed) ∙ ap (λ (x : List ℕ). front ++ x) is ∙ append-nil front in (
      under front t,
      under_tree front t h,
      under_spelled front t (passes is_star unclosed) ∙ ap (λ (x : List ℕ). reverse x ++ spelling t) (sym all) ∙ ap (λ (x : List ℕ). reverse unclosed ++ x) (sym (append-nil (spelling t))),
      under_meaning front t ∙ ap (extended (meaning t)) (some_is (derefs unclosed) steps e),
    )

opening : (b : ℕ) → is_star b ≡ false → is_front b ≡ true → b ≡ 40
opening b star is = eqb-true b 40 (ap (λ (t : Bool). t || b == 40) (sym star) ∙ is)

group_text : (front outer : List ℕ) (text spelled : List ℕ) → reverse outer ++ ((40 ∷ ((reverse front ++ spelled) ++ 41 ∷ [])) ++ text) ≡ reverse (front ++ 40 ∷ outer) ++ (spelled ++ 41 ∷ text)
group_text front outer text spelled =
    let right : reverse (front ++ 40 ∷ outer) ≡ (reverse outer ++ 40 ∷ []) ++ reverse front =
    reverse-append front (40 ∷ outer) ∙ ap (λ (x : List ℕ). x ++ reverse front) (reverse-append (40 ∷ []) outer) in
    rw right (simp append_assoc)

closed : (unclosed : List ℕ) (t : PathTree) → IsPathTree t → (text : List ℕ) (steps : List Step) (further : List ℕ → Option (List Step)) (left : List ℕ)
    → behind_stars unclosed ≡ left → Stops is_star left → list_all is_front unclosed ≡ true
    → ((outer : List ℕ) → list_all is_front outer ≡ true → (u : PathTree) → IsPathTree u → CanBeFollowed u → (more : List Step) → further outer ≡ Some more → Found outer u text more)
    → if_one_open (derefs unclosed) further left ≡ Some steps → Found unclosed t (41 ∷ text) steps
closed unclosed t h text steps further [] is stop all each e = absurd cc
closed unclosed t h text steps further (b ∷ outer) is stop all each e = by_more (further outer) refl e
  where
    front : List ℕ
    front = in_front is_star unclosed

    whole : unclosed ≡ front ++ (b ∷ outer)
    whole = sym (parts is_star unclosed) ∙ ap (λ (x : List ℕ). front ++ x) is

    parted : (list_all is_front front && list_all is_front (b ∷ outer)) ≡ true
    parted = sym (list_all-append is_front front (b ∷ outer)) ∙ ap (list_all is_front) (sym whole) ∙ all

    by_more : (o : Option (List Step)) → further outer ≡ o → option_map (λ ss. derefs unclosed ++ ss) o ≡ Some steps → Found unclosed t (41 ∷ text) steps
    by_more None got e = absurd cc
    by_more (Some more) got e =
        let fronts = and_parts (is_front b) (list_all is_front outer) ((and_parts (list_all is_front front) (list_all is_front (b ∷ outer)) parted).1) in
        let with_one : unclosed ≡ front ++ (40 ∷ outer) = whole ∙ ap (λ (x : ℕ). front ++ (x ∷ outer)) (opening b stop fronts.0) in
        let found = each outer fronts.1 (grouped (under front t)) (under_tree front t h) tt more got in (
          found.0,
          found.1,
          found.2 ∙ ap (λ (sp : List ℕ). reverse outer ++ ((40 ∷ (sp ++ 41 ∷ [])) ++ text)) (under_spelled front t (passes is_star unclosed))
              ∙ group_text front outer text (spelling t) ∙ ap (λ (x : List ℕ). reverse x ++ (spelling t ++ (41 ∷ text))) (sym with_one),
          found.3 ∙ ap (λ (q : Path). extended q more) (under_meaning front t) ∙ ap (path ((meaning t).name)) (append_assoc ((meaning t).steps) (derefs unclosed) more)
              ∙ ap (extended (meaning t)) (some_is (derefs unclosed ++ more) steps e),
        )

-- what holds of all texts of at most so many bytes
abbrev Sounds : ℕ → Type 0
Sounds n = (text : List ℕ) → length text ≤ n → (unclosed : List ℕ) → list_all is_front unclosed ≡ true → (t : PathTree) → IsPathTree t → CanBeFollowed t
    → (steps : List Step) → steps_behind unclosed text ≡ Some steps → Found unclosed t text steps

step_found : (unclosed : List ℕ) (t : PathTree) → IsPathTree t → CanBeFollowed t → (b : ℕ) (text : List ℕ) (steps : List Step) (r : StepRead) → one_step b text ≡ Some r
    → (o : Option (List Step)) → ((u : PathTree) → IsPathTree u → CanBeFollowed u → (more : List Step) → o ≡ Some more → Found unclosed u r.behind more)
    → option_map (λ ss. r.step ∷ ss) o ≡ Some steps → Found unclosed t (b ∷ text) steps
step_found unclosed t h f b text steps r is None each e = absurd cc
step_found unclosed t h f b text steps r is (Some more) each e =
    let s = step_spelled b text r is in
    let u = step_more t h f r.step s.0 s.1 in
    let found = each u.0 u.1 u.2 more refl in (
      found.0,
      found.1,
      found.2 ∙ ap (λ (sp : List ℕ). reverse unclosed ++ (sp ++ r.behind)) u.3
          ∙ ap (λ (x : List ℕ). reverse unclosed ++ x) (append_assoc (spelling t) s.0 r.behind ∙ ap (λ (x : List ℕ). spelling t ++ x) (sym s.2)),
      found.3 ∙ ap (λ (q : Path). extended q more) u.4 ∙ ap (path ((meaning t).name)) (append_assoc ((meaning t).steps) (r.step ∷ []) more)
          ∙ ap (extended (meaning t)) (some_is (r.step ∷ more) steps e),
    )

by_step : (n : ℕ) → Sounds n → (b : ℕ) (text : List ℕ) → length text ≤ n → (unclosed : List ℕ) → list_all is_front unclosed ≡ true → (t : PathTree) → IsPathTree t → CanBeFollowed t
    → (steps : List Step) (o : Option StepRead) → one_step b text ≡ o → step_and (steps_behind unclosed) o ≡ Some steps → Found unclosed t (b ∷ text) steps
by_step n each b text le unclosed all t h f steps None is e = absurd cc
by_step n each b text le unclosed all t h f steps (Some r) is e =
    let less : length r.behind ≤ length text = shorter b text r is in
    step_found unclosed t h f b text steps r is (steps_behind unclosed r.behind) (λ u hu fu more got. each r.behind (omega arith) unclosed all u hu fu more got) e

by_close : (n : ℕ) → Sounds n → (b : ℕ) (text : List ℕ) → length text ≤ n → (unclosed : List ℕ) → list_all is_front unclosed ≡ true → (t : PathTree) → IsPathTree t → CanBeFollowed t
    → (steps : List Step) (c : Bool) → (b == 41) ≡ c
    → (if c then if_one_open (derefs unclosed) (λ g. steps_behind g text) (behind_stars unclosed) else step_and (steps_behind unclosed) (one_step b text)) ≡ Some steps → Found unclosed t (b ∷ text) steps
by_close n each b text le unclosed all t h f steps true is e =
    subst (λ (x : ℕ). Found unclosed t (x ∷ text) steps) (sym (eqb-true b 41 is))
    (closed unclosed t h text steps (λ g. steps_behind g text) (behind_stars unclosed) refl (stops is_star unclosed) all
    (λ outer fronts u hu fu more got. each text le outer fronts u hu fu more got) e)
by_close n each b text le unclosed all t h f steps false is e = by_step n each b text le unclosed all t h f steps (one_step b text) refl e

sound : (n : ℕ) → Sounds n
sound n [] le unclosed all t h f steps e = at_end unclosed t h steps (behind_stars unclosed) refl (sym (read_end unclosed) ∙ e)
sound zero (b ∷ text) le unclosed all t h f steps e = absurd (omega arith)
sound (suc n) (b ∷ text) le unclosed all t h f steps e =
    let less : length text ≤ n = omega arith in
    by_close n (sound n) b text less unclosed all t h f steps (b == 41) refl (sym (read_one unclosed b text) ∙ e)

-- ---- paths

read_by : (text : List ℕ) (p : Path) (c : Bool) → begins_name (behind is_front text) ≡ c → (o : Option (List Step))
    → steps_behind (reverse (in_front is_front text)) (behind is_name_byte (behind is_front text)) ≡ o
    → (if c then option_map (path (in_front is_name_byte (behind is_front text))) o else None) ≡ Some p → SpellsPath p text
read_by text p false is o got e = absurd cc
read_by text p true is None got e = absurd cc
read_by text p true is (Some steps) got e =
    let front = in_front is_front text in
    let rest = behind is_front text in
    let name = in_front is_name_byte rest in
    let left = behind is_name_byte rest in
    let found = sound (length left) left (omega arith) (reverse front) (all_reversed is_front front ∙ passes is_front text) (named name) (name_in_front rest is) tt steps got in (
      found.0,
      found.1,
      found.2 ∙ ap (λ (x : List ℕ). x ++ (name ++ left)) (reverse-reverse front) ∙ ap (λ (x : List ℕ). front ++ x) (parts is_name_byte rest) ∙ parts is_front text,
      found.3 ∙ some_path (path name steps) p e,
    )
  where
    some_path : (x y : Path) → Some x ≡ Some y → x ≡ y
    some_path x y e = cc

pub read_spelled : (text : List ℕ) (p : Path) → read_path text ≡ Some p → SpellsPath p text
unfolding read_path
read_spelled text p e =
    read_by text p (begins_name (behind is_front text)) refl (steps_behind (reverse (in_front is_front text)) (behind is_name_byte (behind is_front text))) refl e

pub exactly : (text : List ℕ) (p : Option Path) → p ≡ read_path text → (q : Path) → (p ≡ Some q) ↔ SpellsPath q text
exactly text p is q =
    (λ e. read_spelled text q (sym is ∙ e), λ s. is ∙ ap read_path (sym s.2) ∙ spelled_read s.0 s.1 ∙ ap (λ (x : Path). Some x) s.3)
