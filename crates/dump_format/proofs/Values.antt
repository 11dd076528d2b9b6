-- Values that are read while the first float is noted are those that are read with their floats.
use Rattle.std.proofs.Common.{◌≡◌, ℕ, List, [], ◌∷◌, ◌++◌, Option, Ok, Err, refl, sym, ap, ◌∙◌}
use Rattle.std.specs.Prelude.{map}
use Rattle.std.specs.List.{flat_map}
use Rattle.std.proofs.lemmas.List.{append-nil, map-append}
use Rattle.std.proofs.lemmas.Grind.{flat_map-append}
use Rattle.wasm_syntax.specs.declared.value.Seen.{Seen}
use Rattle.wasm_syntax.specs.declared.value.Seen.TheVariants as seen
use Rattle.wasm_syntax.specs.declared.value.Value.{Value}
use Rattle.wasm_syntax.specs.declared.value.Value.TheVariants as value
use Rattle.wasm_bytes.specs.Place.{Place, Read}
use Rattle.wasm_bytes.specs.Reading.{◌>>=◌, ◌⊗◌, mapped, vector_item}
use Rattle.wasm_bytes.specs.Notes.{with_noted, noted_both, noted_vector_item}
use Rattle.wasm_bytes.specs.calls.NotedSteps.{noted_step, noted_steps}
use Rattle.wasm_bytes.specs.declared.noted.Noted.{Noted}
use Rattle.dump_format.specs.Parts.{Shown, known, float, ShownFrame}
use Rattle.dump_format.specs.Form.{value_item, global_item, place_item, frame_item, thread_item, stack_item, shown_frame_of}
use Rattle.dump_format.specs.Judged.{seen_of, value_of, frame_of, float_in, frame_floats, first_of}
use Rattle.dump_format.specs.calls.Noting.{or_noted, seen_noting, value_noting, frame_noting, stack_noting, whole_frame}
use Rattle.dump_format.proofs.Firsts.{first_of-append}
use Rattle.wasm_bytes.proofs.Vectors.{made, vector-steps, vector-noted}

-- a value with the first of its floats
abbrev pub with_first : {A : Type 0} → A → Option ℕ → Noted A
with_first x first = record { value = x; float = first }

-- a value without its floats, and the first of these
abbrev pub noting_by : {X A : Type 0} → (X → A) → (X → List ℕ) → X → Noted A
noting_by value floats x = with_first (value x) (first_of (floats x))

-- values without their floats, and the first of these
abbrev pub noted_by : {X A : Type 0} → (X → A) → (X → List ℕ) → List X → Noted (List A)
noted_by value floats xs = with_first (map value xs) (first_of (flat_map floats xs))

one_behind : {X A : Type 0} (value : X → A) (floats : X → List ℕ) (front : List X) (x : X)
    → with_noted (noted_by value floats front) (noting_by value floats x) ≡ noted_by value floats (front ++ x ∷ [])
one_behind value floats front x =
    rw (map-append value front (x ∷ []), flat_map-append floats front (x ∷ []), append-nil (floats x), first_of-append (flat_map floats front) (floats x)) refl

-- ---- vectors

pub vector-noted-by : {X A : Type 0} (value : X → A) (floats : X → List ℕ) (item : Place → Read X) (noting : Place → Read (Noted A)) → ((p : Place) → noting p ≡ made (noting_by value floats) (item p))
    → (p : Place) → noted_vector_item noting p ≡ made (noted_by value floats) (vector_item item p)
unfolding noted_steps noted_step
vector-noted-by {X} {A} value floats item noting same p =
    sym (vector-noted noting p) ∙ vector-steps (noted_by value floats) item (λ s. mapped (with_noted s) noting) one p
  where
    moved : (front : List X) (read : Read X) → made (with_noted (noted_by value floats front)) (made (noting_by value floats) read) ≡ made (λ x. noted_by value floats (front ++ x ∷ [])) read
    moved front (Ok x) = ap (λ (n : Noted (List A)). Ok (n, x.1)) (one_behind value floats front x.0)
    moved front (Err at) = refl

    one : (front : List X) (q : Place) → made (with_noted (noted_by value floats front)) (noting q) ≡ made (λ x. noted_by value floats (front ++ x ∷ [])) (item q)
    one front q = rw (same q) (moved front (item q))

-- ---- single values

shown_seen : (x : Shown Seen) → or_noted seen.Missing x ≡ noting_by seen_of float_in x
shown_seen (known x) = refl
shown_seen (float at) = refl

shown_value : (x : Shown Value) → or_noted (value.I32 0) x ≡ noting_by value_of float_in x
shown_value (known x) = refl
shown_value (float at) = refl

made_same : {A B : Type 0} (f g : A → B) → ((x : A) → f x ≡ g x) → (read : Read A) → made f read ≡ made g read
made_same {A} {B} f g same (Ok x) = ap (λ (y : B). Ok (y, x.1)) (same x.0)
made_same f g same (Err at) = refl

pub seen-noted : (p : Place) → seen_noting p ≡ made (noting_by seen_of float_in) (value_item p)
unfolding seen_noting
seen-noted p = made_same (or_noted seen.Missing) (noting_by seen_of float_in) shown_seen (value_item p)

pub value-noted : (p : Place) → value_noting p ≡ made (noting_by value_of float_in) (global_item p)
unfolding value_noting
value-noted p = made_same (or_noted (value.I32 0)) (noting_by value_of float_in) shown_value (global_item p)

-- ---- frames

list-noted : (p : Place) → noted_vector_item seen_noting p ≡ made (noted_by seen_of float_in) (vector_item value_item p)
list-noted = vector-noted-by seen_of float_in value_item seen_noting seen-noted

abbrev Head : Type 0
Head = Unit {0} × (ℕ × (ℕ × ℕ))

last_list : (head : Head) (locals : List (Shown Seen)) (read : Read (List (Shown Seen)))
    → made (λ (o : Noted (List Seen)). noted_both (whole_frame head) (noted_by seen_of float_in locals) o) (made (noted_by seen_of float_in) read)
    ≡ made (noting_by frame_of frame_floats) (made shown_frame_of ((read >>= λ y. Ok ((locals, y.0), y.1)) >>= λ y. Ok ((head, y.0), y.1)))
last_list head locals (Ok o) =
    ap (λ (f : Option ℕ). Ok (with_first (whole_frame head (map seen_of locals) (map seen_of o.0)) f, o.1)) (sym (first_of-append (flat_map float_in locals) (flat_map float_in o.0)))
last_list head locals (Err at) = refl

both_lists : (head : Head) (read : Read (List (Shown Seen)))
    → (made (noted_by seen_of float_in) read >>= λ l. made (λ (o : Noted (List Seen)). noted_both (whole_frame head) l.0 o) (noted_vector_item seen_noting l.1))
    ≡ made (noting_by frame_of frame_floats) (made shown_frame_of ((read >>= λ x. vector_item value_item x.1 >>= λ y. Ok ((x.0, y.0), y.1)) >>= λ y. Ok ((head, y.0), y.1)))
both_lists head (Ok l) = rw (list-noted l.1) (last_list head l.0 (vector_item value_item l.1))
both_lists head (Err at) = refl

after_head : (read : Read Head)
    → (read >>= λ x. noted_vector_item seen_noting x.1 >>= λ l. made (λ (o : Noted (List Seen)). noted_both (whole_frame x.0) l.0 o) (noted_vector_item seen_noting l.1))
    ≡ made (noting_by frame_of frame_floats) (made shown_frame_of (read >>= λ x. (vector_item value_item ⊗ vector_item value_item) x.1 >>= λ y. Ok ((x.0, y.0), y.1)))
after_head (Ok x) = rw (list-noted x.1) (both_lists x.0 (vector_item value_item x.1))
after_head (Err at) = refl

pub frame-noted : (p : Place) → frame_noting p ≡ made (noting_by frame_of frame_floats) (frame_item p)
unfolding frame_noting frame_item
frame-noted p = after_head (place_item p)

pub stack-noted : (p : Place) → stack_noting p ≡ made (noted_by frame_of frame_floats) (stack_item p)
unfolding stack_noting stack_item
stack-noted p = cases (thread_item p) where
  inner : (name : List ℕ) (read : Read (List ShownFrame)) → made (noted_by frame_of frame_floats) read ≡ made (noted_by frame_of frame_floats) (made (λ (x : List ℕ × List ShownFrame). x.1) (read >>= λ y. Ok ((name, y.0), y.1)))
  inner name (Ok x) = refl
  inner name (Err at) = refl

  cases : (read : Read (List ℕ)) → (read >>= λ x. noted_vector_item frame_noting x.1) ≡ made (noted_by frame_of frame_floats) (made (λ (x : List ℕ × List ShownFrame). x.1) (read >>= λ x. vector_item frame_item x.1 >>= λ y. Ok ((x.0, y.0), y.1)))
  cases (Ok x) = vector-noted-by frame_of frame_floats frame_item frame_noting frame-noted x.1 ∙ inner x.0 (vector_item frame_item x.1)
  cases (Err at) = refl

pub globals-noted : (p : Place) → noted_vector_item value_noting p ≡ made (noted_by value_of float_in) (vector_item global_item p)
globals-noted = vector-noted-by value_of float_in global_item value_noting value-noted
