-- The positions of what is told of a structure, where one more entry is looked at.
use Rattle.std.proofs.Common.{◌≡◌, ℕ, ◌+◌, ◌<◌, ◌≤◌, Bool, true, false, cond, List, [], ◌∷◌, ◌++◌, length, drop, get_or, Option, Some, refl, sym, ap, subst, ◌∙◌, append_assoc}
use Rattle.std.specs.Prelude.{filter, slice_get, if◌then◌else◌}
use Rattle.std.specs.List.{cons_option}
use Rattle.std.proofs.lemmas.List.{append-nil}
use Rattle.std.proofs.lemmas.List.Elements.{filter_map-append}
use Rattle.dwarf_info.specs.declared.entry.Entry.{Entry}
use Rattle.dwarf_info.specs.declared.entry.Unit.{Unit as UnitTree}
use Rattle.dwarf_entries.specs.Standing.{Standing, stands, standing_in, entries_inside, inside}
use Rattle.dwarf_types.specs.calls.Inside.{picked}
use Rattle.dwarf_types.specs.calls.Contents.{is_content, stands_in, contents}
use Rattle.dwarf_types.proofs.InsideLaws.{among_there, dropped_all, next_left}

-- an entry of which its position is kept or not
one_told : (depth k : ℕ) (positions more : List ℕ) (xs : List Standing) (x : Standing) (left : List Standing) (b : Bool) → stands_in depth x ≡ b → slice_get xs k ≡ Some x
    → more ≡ positions ++ (if b then k ∷ [] else []) → picked more xs ++ filter (stands_in depth) left ≡ picked positions xs ++ cond b (x ∷ filter (stands_in depth) left) (filter (stands_in depth) left)
one_told depth k positions more xs x left true is there added =
    ap (λ (ks : List ℕ). picked ks xs ++ filter (stands_in depth) left) added
    ∙ ap (λ (ys : List Standing). ys ++ filter (stands_in depth) left) (filter_map-append (slice_get xs) positions (k ∷ []) ∙ ap (λ (o : Option Standing). picked positions xs ++ cons_option o []) there)
    ∙ append_assoc (picked positions xs) (x ∷ []) (filter (stands_in depth) left)
one_told depth k positions more xs x left false is there added =
    ap (λ (ks : List ℕ). picked ks xs ++ filter (stands_in depth) left) (added ∙ append-nil positions)

pub turn_told : (u : UnitTree) (depth k : ℕ) (es : List Entry) (e : Entry) (positions more : List ℕ) (total : List Standing) → k < length es → e ≡ get_or es k e
    → more ≡ positions ++ (if is_content depth e then k ∷ [] else [])
    → picked positions (standing_in u es) ++ filter (stands_in depth) (standing_in u (drop k es)) ≡ total
    → picked more (standing_in u es) ++ filter (stands_in depth) (standing_in u (drop (k + 1) es)) ≡ total
turn_told u depth k es e positions more total lt is added all =
    let x : Standing = stands u e (drop (k + 1) es) in
    one_told depth k positions more (standing_in u es) x (standing_in u (drop (k + 1) es)) (is_content depth e) refl (among_there u es k e lt is) added
    ∙ ap (λ (ys : List Entry). picked positions (standing_in u es) ++ filter (stands_in depth) (standing_in u ys)) (sym (next_left es k e lt is)) ∙ all

pub all_told : (u : UnitTree) (depth k : ℕ) (es : List Entry) (positions : List ℕ) (total : List Standing) → length es ≤ k
    → picked positions (standing_in u es) ++ filter (stands_in depth) (standing_in u (drop k es)) ≡ total → picked positions (standing_in u es) ≡ total
all_told u depth k es positions total none all =
    sym (append-nil (picked positions (standing_in u es)))
    ∙ ap (λ (ys : List Entry). picked positions (standing_in u es) ++ filter (stands_in depth) (standing_in u ys)) (sym (dropped_all k es none)) ∙ all

-- what stands in an entry
pub contents_found : (s : Standing) (e : Entry) (es : List Entry) (positions : List ℕ) → e ≡ s.entry → es ≡ entries_inside s
    → ((u : UnitTree) → picked positions (standing_in u es) ≡ filter (stands_in e.depth) (standing_in u es)) → picked positions (inside s) ≡ contents s
contents_found s e es positions is those told =
    subst (λ (xs : List Entry). picked positions (standing_in s.unit xs) ≡ filter (stands_in s.entry.depth) (standing_in s.unit xs)) those
    (subst (λ (x : Entry). picked positions (standing_in s.unit es) ≡ filter (stands_in x.depth) (standing_in s.unit es)) is (told s.unit))
