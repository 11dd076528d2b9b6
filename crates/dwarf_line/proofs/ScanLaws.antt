-- What scans know of the opcodes up to the end of a block.
use Rattle.std.proofs.Common.{◌≡◌, ℕ, zero, suc, ◌+◌, ◌-◌, ◌<◌, Bool, true, false, cond, ltb, leb, eqb, List, [], ◌∷◌, ◌++◌, length, take, drop, Option, Some, None, Ok, Err, refl, sym, ap, subst, ◌∙◌, arith}
use Rattle.std.specs.Prelude.{map, option_map, IfSome}
use Rattle.std.specs.Ordering.{nat_cmp, is_eq}
use Rattle.std.proofs.lemmas.Bool.{eqb-true, eq-eqb}
use Rattle.pm_text.proofs.Lists.{is_eq_at}
use Rattle.wasm_bytes.specs.Place.{Place, Read, Moves}
use Rattle.wasm_bytes.specs.Reading.{◌>>=◌, ◌▷◌, mapped, if_passes, closed, run_item, end_item, block_of, if_inside, until_end, to_end_item}
use Rattle.wasm_bytes.specs.Laws.{got, failed}
use Rattle.wasm_bytes.specs.declared.faults.ItemFault.TheVariants as faults
use Rattle.wasm_bytes.proofs.Loops.{first, end_on, end_fails, end_done}
use Rattle.dwarf_bytes.specs.Items.{little_endian, number_item, is_unit_length, unit_block_item, reading_of}
use Rattle.dwarf_bytes.specs.Format.{read}
use Rattle.dwarf_line.specs.declared.hull.Hull.{Hull}
use Rattle.dwarf_line.specs.declared.lines.Lines.{Lines}
use Rattle.dwarf_line.specs.declared.header.Header.{Header}
use Rattle.dwarf_line.specs.declared.opcodes.Opcode.{Opcode}
use Rattle.dwarf_line.specs.declared.effects.Effect.{Effect}
use Rattle.dwarf_line.specs.declared.outline.Outline.{Outline}
use Rattle.dwarf_line.specs.declared.scan.Stride.{Stride}
use Rattle.dwarf_line.specs.Parameters.{Parameters}
use Rattle.dwarf_line.specs.Opcodes.{opcode}
use Rattle.dwarf_line.specs.Header.{Layout, header_or_none}
use Rattle.dwarf_line.specs.Program.{said, opcodes_item, program_item, lines_item, lines_at}
use Rattle.dwarf_line.specs.calls.Hulls.{hull_if}
use Rattle.dwarf_line.specs.inner.Outlines.{effect_of, no_outline, start_hull}
use Rattle.dwarf_line.specs.inner.Scans.{effect_item, outline_of, place_in, IsRest, with_front_if, bounds_item, AreKnown, Leads, Lead, IsWay, entered_item}
use Rattle.dwarf_line.proofs.OutlineLaws.{matrix_hull}

-- ---- the effects of opcodes are those of the opcodes that are read

abbrev all_mapped : {A B : Type 0} → (A → B) → List A × Place → Read (List B)
all_mapped g y = got (map g y.0) y.1

one_mapped : {A B : Type 0} (g : A → B) (x : A) (r : Read (List A)) (s : Read (List B)) → s ≡ (r >>= all_mapped g) → (s >>= first (g x)) ≡ ((r >>= first x) >>= all_mapped g)
one_mapped g x (Ok y) s e = ap (λ (t : Read (List _)). t >>= first (g x)) e
one_mapped g x (Err o) s e = ap (λ (t : Read (List _)). t >>= first (g x)) e

item_mapped : {A B : Type 0} (g : A → B) (r : Read A) (k : Place → Read (List A)) (l : Place → Read (List B)) → ((q : Place) → l q ≡ mapped (map g) k q)
    → ((r >>= λ x. got (g x.0) x.1) >>= λ x. l x.1 >>= first x.0) ≡ ((r >>= λ x. k x.1 >>= first x.0) >>= all_mapped g)
item_mapped g (Ok x) k l h = one_mapped g x.0 (k x.1) (l x.1) (h x.1)
item_mapped g (Err o) k l h = refl

end_mapped : {A B : Type 0} (g : A → B) (b : Bool) (p : Place) (r : Read (List A)) (s : Read (List B)) → s ≡ (r >>= all_mapped g) → cond b s (got [] p) ≡ (cond b r (got [] p) >>= all_mapped g)
end_mapped g true p r s e = e
end_mapped g false p r s e = refl

mapped_end : {A B : Type 0} (g : A → B) (f : Place → Read A) (n : ℕ) (p : Place) → until_end (mapped g f) n p ≡ (until_end f n p >>= all_mapped g)
unfolding until_end
mapped_end g f zero p = end_mapped g (ltb p.at (length p.block)) p (failed p.at) (failed p.at) refl
mapped_end g f (suc n) p =
    end_mapped g (ltb p.at (length p.block)) p (f p >>= λ x. until_end f n x.1 >>= first x.0) (mapped g f p >>= λ x. until_end (mapped g f) n x.1 >>= first x.0)
    (item_mapped g (f p) (until_end f n) (until_end (mapped g f) n) (mapped_end g f n))

-- ---- a program's bounds

abbrev ending : {A : Type 0} → A × Place → Read A
ending x = end_item x.1 >>= λ e. got x.0 e.1

ended_bounds : (h : Header) (ops : List Opcode) (r : Read (Unit {0}))
    → hull_if (reading_of (r >>= λ e. got (said h ops) e.1)) ≡ option_map start_hull (outline_of (r >>= λ e. got (map (effect_of h.parameters) ops) e.1))
ended_bounds h ops (Ok e) = ap Some (matrix_hull h.parameters h.tables.files ops)
ended_bounds h ops (Err o) = refl

closed_bounds : (h : Header) (r : Read (List Opcode))
    → hull_if (reading_of ((r >>= λ x. got (said h x.0) x.1) >>= ending)) ≡ option_map start_hull (outline_of ((r >>= all_mapped (effect_of h.parameters)) >>= ending))
closed_bounds h (Ok x) = ended_bounds h x.0 (end_item x.1)
closed_bounds h (Err o) = refl

lines_bounds : (h : Header) (q : Place) → hull_if (reading_of (closed (opcodes_item h) q)) ≡ bounds_item h.parameters q
unfolding opcodes_item to_end_item
lines_bounds h q =
    let n : ℕ = length q.block - q.at in
    closed_bounds h (until_end (read (opcode h.parameters)) n q)
    ∙ ap (λ (r : Read (List Effect)). option_map start_hull (outline_of (r >>= ending))) (sym (mapped_end (effect_of h.parameters) (read (opcode h.parameters)) n q))

-- of what stands behind a header
abbrev pub bounds_read : Read Header → Option Hull
bounds_read (Ok x) = bounds_item x.0.parameters x.1
bounds_read (Err o) = None

abbrev moved_to : Place → Lines × Place → Read Lines
moved_to q x = got x.0 q

placed : (r : Read Lines) (q : Place) → hull_if (reading_of (r >>= moved_to q)) ≡ hull_if (reading_of r)
placed (Ok x) q = refl
placed (Err o) q = refl

behind_header : (r : Read Header) (q : Place) → hull_if (reading_of (((r >>= λ y. opcodes_item y.0 y.1) >>= ending) >>= moved_to q)) ≡ bounds_read r
behind_header (Ok y) q = placed (closed (opcodes_item y.0) y.1) q ∙ lines_bounds y.0 y.1
behind_header (Err o) q = refl

behind_version : (versions : ℕ → Option Layout) (r : Read ℕ) (q : Place)
    → hull_if (reading_of (((r >>= λ x. (header_or_none (versions x.0) ▷ opcodes_item) x.1) >>= ending) >>= moved_to q)) ≡ bounds_read (r >>= λ x. header_or_none (versions x.0) x.1)
behind_version versions (Ok x) q = behind_header (header_or_none (versions x.0) x.1) q
behind_version versions (Err o) q = refl

in_unit : (versions : ℕ → Option Layout) (r : Read Place)
    → hull_if (reading_of (r >>= λ b. closed (number_item 2 ▷ λ v. header_or_none (versions v) ▷ opcodes_item) b.0 >>= moved_to b.1))
    ≡ bounds_read (r >>= λ b. (number_item 2 ▷ λ v. header_or_none (versions v)) b.0)
in_unit versions (Ok b) = behind_version versions (number_item 2 b.0) b.1
in_unit versions (Err o) = refl

pub lines_at_bounds : (versions : ℕ → Option Layout) (section : List ℕ) (at : ℕ) → hull_if (lines_at versions section at) ≡ bounds_read (entered_item versions (place_in section at))
unfolding lines_at lines_item program_item
lines_at_bounds versions section at = in_unit versions (unit_block_item (place_in section at))

pub scan_read : (versions : ℕ → Option Layout) (section : List ℕ) (at : ℕ) (p q : Place) (h : Header) (b : Option Hull) → p ≡ place_in section at → entered_item versions p ≡ got h q → b ≡ bounds_item h.parameters q → b ≡ hull_if (lines_at versions section at)
scan_read versions section at p q h b here enters bounds =
    bounds ∙ ap bounds_read (sym enters) ∙ ap (λ (x : Place). bounds_read (entered_item versions x)) here ∙ sym (lines_at_bounds versions section at)

pub scan_fails : (versions : ℕ → Option Layout) (section : List ℕ) (at : ℕ) (p : Place) (o : ℕ) → p ≡ place_in section at → entered_item versions p ≡ failed o → ◌≡◌ {A = Option Hull} None (hull_if (lines_at versions section at))
scan_fails versions section at p o here enters =
    ap bounds_read (sym enters) ∙ ap (λ (x : Place). bounds_read (entered_item versions x)) here ∙ sym (lines_at_bounds versions section at)

-- ---- what is known of an offset

pub rest_bounds : (h g : Parameters) (section : List ℕ) (until at : ℕ) (p : Place) (o : Option Outline) → IsRest g (take until section) at o → g ≡ h → until ≡ length p.block → at ≡ p.at → p.block ≡ take (length p.block) section
    → option_map start_hull o ≡ bounds_item h p
unfolding to_end_item
rest_bounds h g section until at p o rest parameters ends here block =
    let one : IsRest h (take until section) at o = subst (λ (x : Parameters). IsRest x (take until section) at o) parameters rest in
    let two : IsRest h p.block at o = subst (λ (xs : List ℕ). IsRest h xs at o) (ap (λ (k : ℕ). take k section) ends ∙ sym block) one in
    let three : IsRest h p.block p.at o = subst (λ (k : ℕ). IsRest h p.block k o) here two in
    sym (ap (option_map start_hull) (three (length p.block - p.at) (omega arith)))

at_end : (block : List ℕ) (at : ℕ) → at ≡ length block → outline_of (end_item (place_in block at) >>= λ e. got {A = List Effect} [] e.1) ≡ Some no_outline
unfolding end_item
at_end block at e = let same : eqb at (length block) ≡ true = eq-eqb at (length block) e in rw same refl

pub rest_end : (h : Parameters) (block : List ℕ) (at : ℕ) → at ≡ length block → IsRest h block at (Some no_outline)
rest_end h block at e n room =
    ap (λ (r : Read (List Effect)). outline_of (r >>= ending)) (end_done (effect_item h) n (place_in block at) (omega (arith, e))) ∙ at_end block at e

pub rest_fails : (h : Parameters) (block : List ℕ) (at o : ℕ) → at < length block → effect_item h (place_in block at) ≡ failed o → IsRest h block at None
rest_fails h block at o inside e n room =
    let more : n ≡ suc (n - 1) = omega (arith, inside, room) in
    ap (λ (r : Read (List Effect)). outline_of (r >>= ending)) (ap (λ (k : ℕ). until_end (effect_item h) k (place_in block at)) more ∙ end_fails (effect_item h) (n - 1) (place_in block at) (faults.At o) inside e)

front_ended : (x : Effect) (es : List Effect) (r : Read (Unit {0})) → outline_of (r >>= λ e. got (x ∷ es) e.1) ≡ with_front_if x (outline_of (r >>= λ e. got es e.1))
front_ended x es (Ok e) = refl
front_ended x es (Err o) = refl

front_read : (x : Effect) (r : Read (List Effect)) → outline_of ((r >>= first x) >>= ending) ≡ with_front_if x (outline_of (r >>= ending))
front_read x (Ok y) = front_ended x y.0 (end_item y.1)
front_read x (Err o) = refl

pub rest_leads : (h : Parameters) (block : List ℕ) (x : Stride) (behind : ℕ) (o : Option Outline) → Leads h block x behind → IsRest h block behind o → IsRest h block x.at (with_front_if x.effect o)
rest_leads h block x behind o leads rest n room =
    let inside = leads.inside in
    let moves = leads.moves in
    let more : n ≡ suc (n - 1) = omega (arith, inside, room) in
    let f = effect_item h in
    let one : until_end f n (place_in block x.at) ≡ (until_end f (n - 1) (place_in block behind) >>= first x.effect) =
    ap (λ (k : ℕ). until_end f k (place_in block x.at)) more ∙ end_on f (n - 1) (place_in block x.at) (place_in block behind) x.effect inside leads.reads in
    ap (λ (r : Read (List Effect)). outline_of (r >>= ending)) one
    ∙ front_read x.effect (until_end f (n - 1) (place_in block behind))
    ∙ ap (with_front_if x.effect) (rest (n - 1) (omega (arith, inside, moves, room)))

-- ---- trails

pub lead_more : (h : Parameters) (block : List ℕ) (start : ℕ) (xs : List Stride) (x : Stride) (at : ℕ) → Lead h block start xs x.at → Leads h block x at → Lead h block start (xs ++ x ∷ []) at
lead_more h block start [] x at here leads = (sym here, (at, leads, refl))
lead_more h block start (y ∷ xs) x at here leads = (here.0, (here.1.0, here.1.1, lead_more h block here.1.0 xs x at here.1.2 leads))

pub leads_by : (h : Parameters) (block : List ℕ) (p q : Place) (x : Stride) → p.block ≡ block → x.at ≡ p.at → effect_item h p ≡ got x.effect q → Moves p q → p.at < length p.block → Leads h block x q.at
leads_by h block p q x same here reads moves inside =
    let there : place_in block x.at ≡ p = ap (λ (b : List ℕ). place_in b x.at) (sym same) ∙ ap (place_in p.block) here in
    let beyond : q ≡ place_in block q.at = ap (λ (b : List ℕ). place_in b q.at) (moves.1 ∙ same) in
    record {
      reads = ap (effect_item h) there ∙ reads ∙ ap (λ (y : Place). got x.effect y) beyond;
      moves = omega (arith, here, moves.0);
      inside = omega (arith, here, inside, ap length same);
    }

lead_back : (h : Parameters) (block : List ℕ) (start : ℕ) (xs : List Stride) (x : Stride) (at : ℕ) → Lead h block start (xs ++ x ∷ []) at → Lead h block start xs x.at × Leads h block x at
lead_back h block start [] x at way = (sym way.0, subst (Leads h block x) way.1.2 way.1.1)
lead_back h block start (y ∷ xs) x at way =
    let back = lead_back h block way.1.0 xs x at way.1.2 in
    ((way.0, (way.1.0, way.1.1, back.0)), back.1)

pub way_back : (h : Parameters) (p : Place) (xs : List Stride) (x : Stride) (o : Option Outline) → IsWay h p (xs ++ x ∷ []) o → IsWay h p xs (with_front_if x.effect o)
way_back h p xs x o way =
    let back = lead_back h p.block p.at xs x way.0 way.1 in
    (x.at, back.0, rest_leads h p.block x way.0 o back.1 way.2)

pub way_begins : (h : Parameters) (p : Place) (o : Option Outline) → IsWay h p [] o → IsRest h p.block p.at o
way_begins h p o way = subst (λ (at : ℕ). IsRest h p.block at o) (sym way.1) way.2

-- ---- what is kept

pub known_more : (h : Parameters) (block : List ℕ) (at : ℕ) (o : Option Outline) (old new : ℕ → Option (Option Outline)) → ((q : ℕ) → new q ≡ cond (is_eq (nat_cmp at q)) (Some o) (old q)) → IsRest h block at o → AreKnown h block old → AreKnown h block new
known_more h block at o old new update rest known q =
    subst (λ (x : Option (Option Outline)). IfSome x (IsRest h block q)) (sym (update q ∙ ap (λ (b : Bool). cond b (Some o) (old q)) (is_eq_at at q))) (by (eqb at q) refl)
  where
    by : (t : Bool) → eqb at q ≡ t → IfSome (cond t (Some o) (old q)) (IsRest h block q)
    by true e = subst (λ (k : ℕ). IsRest h block k o) (eqb-true at q e) rest
    by false e = known q

-- ---- blocks

pub taken_again : (k : ℕ) (xs : List ℕ) → take k xs ≡ take (length (take k xs)) xs
taken_again zero xs = refl
taken_again (suc k) [] = refl
taken_again (suc k) (x ∷ xs) = ap (λ (l : List ℕ). x ∷ l) (taken_again k xs)

opened : (size : ℕ) (p : Place) (t : Bool) (at : ℕ) (b q : Place) → cond t (Ok (block_of size p)) (failed at) ≡ got b q → b.block ≡ take (length b.block) p.block
opened size p true at b q e = let same : (block_of size p).0 ≡ b = cc in subst (λ (x : Place). x.block ≡ take (length x.block) p.block) same (taken_again (p.at + size) p.block)
opened size p false at b q e = absurd cc

opened_if : (n : ℕ) (p : Place) (t : Bool) (at : ℕ) (b q : Place) → (cond t (Ok (n, p)) (failed at) >>= if_inside at) ≡ got b q → b.block ≡ take (length b.block) p.block
opened_if n p true at b q e = opened n p (leb n (length p.block - p.at)) at b q e
opened_if n p false at b q e = absurd cc

opened_by : (p : Place) (bytes : List ℕ) (t : Bool) (b q : Place)
    → (((cond t (got bytes (record p { at = p.at + 4 })) (failed p.at) >>= λ x. got (little_endian x.0) x.1) >>= if_passes is_unit_length p.at) >>= if_inside p.at) ≡ got b q
    → b.block ≡ take (length b.block) p.block
opened_by p bytes true b q e = opened_if (little_endian bytes) (record p { at = p.at + 4 }) (is_unit_length (little_endian bytes)) p.at b q e
opened_by p bytes false b q e = absurd cc

-- The block of a unit is all of the section up to its end.
pub unit_taken : (p b q : Place) → unit_block_item p ≡ got b q → b.block ≡ take (length b.block) p.block
unfolding unit_block_item number_item run_item
unit_taken p b q e = opened_by p (take 4 (drop p.at p.block)) (leb 4 (length p.block - p.at)) b q e
