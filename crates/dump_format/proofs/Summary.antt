-- What is gathered from a list of parts.
use Rattle.std.proofs.Common.{◌≡◌, ℕ, List, [], ◌∷◌, ◌++◌, Option, refl, sym, ap, ◌∙◌}
use Rattle.std.specs.List.{flat_map}
use Rattle.std.proofs.lemmas.List.{append-nil}
use Rattle.std.proofs.lemmas.Grind.{flat_map-append, fold-append}
use Rattle.dump_format.specs.declared.found.Found.{Found}
use Rattle.dump_format.specs.declared.found.Found.TheVariants.{Absent, Once, Repeated}
use Rattle.dump_format.specs.declared.gathered.Gathered.{Gathered}
use Rattle.dump_format.specs.Parts.{Part, core, modules, instances, stack, memories, globals, segments, custom, passed}
use Rattle.dump_format.specs.Judged.{names_in, modules_in, instances_in, frames_in, memories_in, values_in, segments_in, floats_in, frame_floats, float_in, only, first_of, id_behind, last_id, is_repeated}
use Rattle.dump_format.specs.inner.Gathering.{added, found_or, is_found_again}
use Rattle.dump_format.proofs.Firsts.{or_first, or_nothing, first_of-append}

-- ---- what may stand once

abbrev pub found : {A : Type 0} → List A → Found A
found [] = Absent
found (x ∷ []) = Once x
found (x ∷ y ∷ ys) = Repeated

abbrev pub added_all : {A : Type 0} → Found A → List A → Found A
added_all f [] = f
added_all f (x ∷ xs) = added_all (added f x) xs

all_repeated : {A : Type 0} (xs : List A) → added_all Repeated xs ≡ Repeated
all_repeated [] = refl
all_repeated (x ∷ xs) = all_repeated xs

all_once : {A : Type 0} (x : A) (ys : List A) → found (x ∷ ys) ≡ added_all (Once x) ys
all_once x [] = refl
all_once x (y ∷ ys) = sym (all_repeated ys)

pub found-append : {A : Type 0} (xs ys : List A) → found (xs ++ ys) ≡ added_all (found xs) ys
found-append [] [] = refl
found-append [] (y ∷ ys) = all_once y ys
found-append (x ∷ []) ys = all_once x ys
found-append (x ∷ y ∷ xs) ys = sym (all_repeated ys)

pub found_or-found : {A : Type 0} (other : A) (xs : List A) → found_or other (found xs) ≡ only other xs
found_or-found other [] = refl
found_or-found other (x ∷ []) = refl
found_or-found other (x ∷ y ∷ ys) = refl

pub is_found_again-found : {A : Type 0} (xs : List A) → is_found_again (found xs) ≡ is_repeated xs
is_found_again-found [] = refl
is_found_again-found (x ∷ []) = refl
is_found_again-found (x ∷ y ∷ ys) = refl

-- ---- all of them

unfoldable pub summary : List Part → Gathered
summary ps = record {
  last = last_id ps;
  first = first_of (flat_map floats_in ps);
  name = found (flat_map names_in ps);
  modules = found (flat_map modules_in ps);
  instances = found (flat_map instances_in ps);
  frames = found (flat_map frames_in ps);
  memories = found (flat_map memories_in ps);
  globals = found (flat_map values_in ps);
  segments = found (flat_map segments_in ps);
}

-- the first float, behind one more part
abbrev pub first_behind : Option ℕ → Part → Option ℕ
first_behind first (stack frames) = or_first first (flat_map frame_floats frames)
first_behind first (globals values) = or_first first (flat_map float_in values)
first_behind first _ = first

first_behind-is : (first : Option ℕ) (part : Part) → or_first first (floats_in part) ≡ first_behind first part
first_behind-is first (core name) = or_nothing first
first_behind-is first (modules names) = or_nothing first
first_behind-is first (instances list) = or_nothing first
first_behind-is first (stack frames) = refl
first_behind-is first (memories pages) = or_nothing first
first_behind-is first (globals values) = refl
first_behind-is first (segments regions) = or_nothing first
first_behind-is first custom = or_nothing first
first_behind-is first (passed id) = or_nothing first

-- one more part
abbrev pub taken : Gathered → Part → Gathered
taken g part = record {
  last = id_behind g.last part;
  first = first_behind g.first part;
  name = added_all g.name (names_in part);
  modules = added_all g.modules (modules_in part);
  instances = added_all g.instances (instances_in part);
  frames = added_all g.frames (frames_in part);
  memories = added_all g.memories (memories_in part);
  globals = added_all g.globals (values_in part);
  segments = added_all g.segments (segments_in part);
}

pub more : {A : Type 0} (f : Part → List A) (ps : List Part) (part : Part) → flat_map f (ps ++ part ∷ []) ≡ flat_map f ps ++ f part
more f ps part = flat_map-append f ps (part ∷ []) ∙ ap (λ t. flat_map f ps ++ t) (append-nil (f part))

found_more : {A : Type 0} (f : Part → List A) (ps : List Part) (part : Part) → found (flat_map f (ps ++ part ∷ [])) ≡ added_all (found (flat_map f ps)) (f part)
found_more f ps part = ap found (more f ps part) ∙ found-append (flat_map f ps) (f part)

pub last_more : (ps : List Part) (part : Part) → last_id (ps ++ part ∷ []) ≡ id_behind (last_id ps) part
unfolding last_id
last_more ps part = fold-append id_behind 0 ps (part ∷ [])

first_more : (ps : List Part) (part : Part) → first_of (flat_map floats_in (ps ++ part ∷ [])) ≡ first_behind (first_of (flat_map floats_in ps)) part
first_more ps part = ap first_of (more floats_in ps part) ∙ first_of-append (flat_map floats_in ps) (floats_in part) ∙ first_behind-is (first_of (flat_map floats_in ps)) part

pub summary-more : (ps : List Part) (part : Part) → summary (ps ++ part ∷ []) ≡ taken (summary ps) part
unfolding summary
summary-more ps part =
    rw (last_more ps part, first_more ps part, found_more names_in ps part, found_more modules_in ps part, found_more instances_in ps part, found_more frames_in ps part, found_more memories_in ps part, found_more values_in ps part, found_more segments_in ps part) refl
