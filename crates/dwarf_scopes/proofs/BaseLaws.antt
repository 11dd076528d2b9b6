-- From which bases lists say something of an address.
use Rattle.std.proofs.Common.{◌≡◌, ℕ, pos, zero, suc, ◌+◌, ◌-◌, ◌<◌, ◌≤◌, ◌^◌, Bool, true, false, leb, ltb, cond, List, [], ◌∷◌, ◌++◌, length, append_assoc, Option, Some, None, Ok, Err, refl, sym, ap, subst, ◌∙◌, arith}
use Rattle.std.specs.Prelude.{option_map, is_some, unwrap_or, ◌&&◌, ◌||◌, if◌then◌else◌, IfSome}
use Rattle.std.specs.Ordering.{nat_cmp, is_eq}
use Rattle.std.specs.BTreeMap.{get, is_at}
use Rattle.std.specs.Map.{lookup}
use Rattle.std.proofs.Math.Bool.{and-false}
use Rattle.std.proofs.lemmas.List.{append-nil}
use Rattle.wasm_bytes.specs.Place.{Place}
use Rattle.dwarf_bytes.specs.Items.{ended_from, ended_item, reading_of}
use Rattle.dwarf_info.proofs.RowLaws.{first_read, end_read, none_read}
use Rattle.dwarf_loc.specs.declared.entry.ListEntry.{ListEntry}
use Rattle.dwarf_loc.specs.declared.entry.ListEntry.TheVariants.{Base, FromBase, Between, Lasting, Otherwise}
use Rattle.dwarf_loc.specs.declared.said.Said.{Said as SaidOf}
use Rattle.dwarf_loc.specs.Lists.{held, holds}
use Rattle.dwarf_loc.specs.calls.Said.{said, first_of, chosen_of, base_behind, said_before}
use Rattle.dwarf_loc.proofs.SaidLaws.{said_cons}
use Rattle.dwarf_scopes.specs.declared.bases.BaseTable.{BaseTable}
use Rattle.dwarf_scopes.specs.declared.bases.BaseTables.{BaseTables}
use Rattle.dwarf_scopes.specs.declared.kinds.ListWay.{ListWay}
use Rattle.dwarf_scopes.specs.declared.known.ListPlace.{ListPlace}
use Rattle.dwarf_scopes.specs.declared.steps.Range.{Range}
use Rattle.dwarf_scopes.specs.declared.steps.Step.{Step}
use Rattle.dwarf_scopes.specs.calls.Knowing.{Sectioned, Entered, said_in, is_held, held_from, place_at, AreBases, AreTabled}
use Rattle.dwarf_scopes.specs.calls.Steps.{is_in, first_in, answer, Answer}
use Rattle.dwarf_scopes.specs.inner.Bases.{any_if, bases_of_offsets, counts, bases_of_first, bases_of, selected_behind, bases_by, IsBases}
use Rattle.dwarf_scopes.specs.inner.Passing.{IsEntry}
use Rattle.dwarf_scopes.proofs.KnownLaws.{room_behind, no_room, said_past}

-- ---- the bases of one entry

in_none : (base : ℕ) → leb 0 base && ltb base 0 ≡ false
in_none base = by (ltb base 0) refl where
  by : (t : Bool) → ltb base 0 ≡ t → leb 0 base && t ≡ false
  by true e = absurd (grind (arith, e))
  by false e = rw (and-false (leb 0 base)) refl

in_any : (base : ℕ) (t : Bool) → base < 2 ^ 32 → is_in base (any_if t) ≡ t
in_any base true small = grind (arith, small)
in_any base false small = in_none base

both_by : (a base begin end : ℕ) (p q r s : Bool) → leb (a + 1 - end) base ≡ p → ltb base (a + 1 - begin) ≡ q → leb (base + begin) a ≡ r → ltb a (base + end) ≡ s → p && q ≡ r && s
both_by a base begin end true true true true e f g h = refl
both_by a base begin end true true true false e f g h = absurd (grind (arith, e, h))
both_by a base begin end true true false s e f g h = absurd (grind (arith, f, g))
both_by a base begin end true false true s e f g h = absurd (grind (arith, f, g))
both_by a base begin end true false false s e f g h = refl
both_by a base begin end false q true true e f g h = absurd (grind (arith, e, h))
both_by a base begin end false q true false e f g h = refl
both_by a base begin end false q false s e f g h = refl

none_by : (a base begin end : ℕ) (r s : Bool) → base < 2 ^ 32 → ltb (a + 1 - end) (2 ^ 32) ≡ false → leb (base + begin) a ≡ r → ltb a (base + end) ≡ s → false ≡ r && s
none_by a base begin end true true small e g h = absurd (grind (arith, small, e, h))
none_by a base begin end true false small e g h = refl
none_by a base begin end false s small e g h = refl

offsets_by : (a base begin end : ℕ) (t : Bool) → base < 2 ^ 32 → ltb (a + 1 - end) (2 ^ 32) ≡ t
    → is_in base (let r : Range = if t then record { first = a + 1 - end; «end» = pos (a + 1 - begin); index = 0 } else any_if false in r) ≡ leb (base + begin) a && ltb a (base + end)
offsets_by a base begin end true small e =
    both_by a base begin end (leb (a + 1 - end) base) (ltb base (a + 1 - begin)) (leb (base + begin) a) (ltb a (base + end)) refl refl refl refl
offsets_by a base begin end false small e = in_none base ∙ none_by a base begin end (leb (base + begin) a) (ltb a (base + end)) small e refl refl

in_offsets : (a base begin end : ℕ) → base < 2 ^ 32 → is_in base (bases_of_offsets a begin end) ≡ leb (base + begin) a && ltb a (base + end)
in_offsets a base begin end small = offsets_by a base begin end (ltb (a + 1 - end) (2 ^ 32)) small refl

first_by : (base : ℕ) (r : Range) (rs : List Range) (t : Bool) → is_in base r ≡ t → is_some (first_in (r ∷ rs) base) ≡ t || is_some (first_in rs base)
first_by base r rs true e = rw e refl
first_by base r rs false e = rw e refl

module _ {A : Type 0} where
  alone : (what : A) (t : Bool) → t ≡ is_some (chosen_of (let x : SaidOf A = if t then record (said {A = A} 0 0 []) { held = Some what } else said 0 0 [] in x))
  alone what true = refl
  alone what false = refl

  in_first : (a base : ℕ) (e : ListEntry A) → base < 2 ^ 32 → is_in base (bases_of_first a e) ≡ counts a base e
  in_first a base (Base b) small = in_none base
  in_first a base (FromBase begin end what) small = in_offsets a base begin end small ∙ alone what (holds a (held (base + begin) (base + end) what))
  in_first a base (Between begin end what) small = in_any base (counts a 0 (let e : ListEntry A = Between begin end what in e)) small
  in_first a base (Lasting begin count what) small = in_any base (counts a 0 (let e : ListEntry A = Lasting begin count what in e)) small
  in_first a base (Otherwise what) small = in_any base true small

  in_bases : (a base : ℕ) (selected : Option ℕ) (e : ListEntry A) → base < 2 ^ 32 → is_in base (bases_of a selected e) ≡ counts a (unwrap_or selected base) e
  in_bases a base (Some b) e small = in_any base (counts a b e) small
  in_bases a base None e small = in_first a base e small

  -- ---- those of a list

  with_default : (o : Option A) (what : A) → is_some (first_of o (Some what)) ≡ true
  with_default (Some x) what = refl
  with_default None what = refl

  in_front : (a start begin end : ℕ) (what : A) (t : Bool) (s : SaidOf A)
      → is_some (chosen_of (let x : SaidOf A = if t then record s { held = Some what } else s in x)) ≡ is_some (chosen_of (let x : SaidOf A = if t then record (said {A = A} 0 0 []) { held = Some what } else said 0 0 [] in x)) || is_some (chosen_of s)
  in_front a start begin end what true s = refl
  in_front a start begin end what false s = refl

  said_front : (a start : ℕ) (e : ListEntry A) (s : SaidOf A) → is_some (chosen_of (said_before a start e s)) ≡ counts a start e || is_some (chosen_of s)
  said_front a start (Base b) s = refl
  said_front a start (FromBase begin end what) s = in_front a start begin end what (holds a (held (start + begin) (start + end) what)) s
  said_front a start (Between begin end what) s = in_front a start begin end what (holds a (held begin end what)) s
  said_front a start (Lasting begin count what) s = in_front a start begin count what (holds a (held begin (begin + count) what)) s
  said_front a start (Otherwise what) s = with_default s.held what

  selected_same : (base : ℕ) (selected : Option ℕ) (e : ListEntry A) → unwrap_or (selected_behind selected e) base ≡ base_behind (unwrap_or selected base) e
  selected_same base selected (Base b) = refl
  selected_same base selected (FromBase begin end what) = refl
  selected_same base selected (Between begin end what) = refl
  selected_same base selected (Lasting begin count what) = refl
  selected_same base selected (Otherwise what) = refl

  bases_are : (a base : ℕ) (selected : Option ℕ) (es : List (ListEntry A)) → base < 2 ^ 32 → is_some (first_in (bases_by a selected es) base) ≡ is_some (chosen_of (said (unwrap_or selected base) a es))
  bases_are a base selected [] small = refl
  bases_are a base selected (e ∷ es) small =
      let start = unwrap_or selected base in
      first_by base (bases_of a selected e) (bases_by a (selected_behind selected e) es) (counts a start e) (in_bases a base selected e small)
      ∙ ap (λ (b : Bool). counts a start e || b) (bases_are a base (selected_behind selected e) es small ∙ ap (λ (n : ℕ). is_some (chosen_of (said n a es))) (selected_same base selected e))
      ∙ sym (said_front a start e (said (base_behind start e) a es))
      ∙ ap (λ (s : SaidOf A). is_some (chosen_of s)) (sym (said_cons start a e es))

-- ---- the table of a list

append_more : (xs : List Range) (x : Range) (o : Option (List Range)) → option_map (λ rs. xs ++ rs) (option_map (λ rs. x ∷ rs) o) ≡ option_map (λ rs. (xs ++ x ∷ []) ++ rs) o
append_more xs x (Some rs) = ap Some (sym (append_assoc xs (x ∷ []) rs))
append_more xs x None = refl

append_none : (o : Option (List Range)) → option_map (λ rs. [] ++ rs) o ≡ o
append_none (Some rs) = refl
append_none None = refl

module _ {A : Type 0} (section : Sectioned) (item : Entered A) (a : ℕ) (way : ListWay) where
  abbrev there : ℕ → Place
  there at = record { block = section way; at = at }

  bases_more : (selected : Option ℕ) (e : ListEntry A) (o : Option (List (ListEntry A)))
      → option_map (bases_by a selected) (option_map (λ more. e ∷ more) o) ≡ option_map (λ rs. bases_of a selected e ∷ rs) (option_map (bases_by a (selected_behind selected e)) o)
  bases_more selected e (Some es) = refl
  bases_more selected e None = refl

  -- with an entry in front
  with_bases : (at next : ℕ) (selected : Option ℕ) (e : ListEntry A) (answer : Option (List Range)) → IsEntry (section way) (item way) at e next
      → IsBases section item a way next (selected_behind selected e) answer → IsBases section item a way at selected (option_map (λ rs. bases_of a selected e ∷ rs) answer)
  with_bases at next selected e answer entry behind zero room = absurd (no_room (length (section way)) at entry.inside room)
  with_bases at next selected e answer entry behind (suc n) room =
      ap (option_map (bases_by a selected)) (first_read (item way) (there at) (there next) e n entry.reads)
      ∙ bases_more selected e (reading_of (ended_from (item way) n (there next)))
      ∙ ap (option_map (λ rs. bases_of a selected e ∷ rs)) (behind n (room_behind (length (section way)) at next n entry.inside entry.moves room))

  -- What is behind the front of a list completes it.
  abbrev pub Completes : ℕ → ℕ → Option ℕ → List Range → Type 0
  Completes start at selected front = (answer : Option (List Range)) → IsBases section item a way at selected answer → IsBases section item a way start None (option_map (λ rs. front ++ rs) answer)

  pub completes_all : (start : ℕ) (front : List Range) → front ≡ [] → Completes start start None front
  completes_all start front none answer is =
      subst (λ (o : Option (List Range)). IsBases section item a way start None o) (sym (append_none answer) ∙ ap (λ (xs : List Range). option_map (λ rs. xs ++ rs) answer) (sym none)) is

  pub completes_more : (start at next : ℕ) (selected : Option ℕ) (e : ListEntry A) (front after : List Range) → IsEntry (section way) (item way) at e next → after ≡ front ++ bases_of a selected e ∷ []
      → Completes start at selected front → Completes start next (selected_behind selected e) after
  completes_more start at next selected e front after entry is completes answer behind =
      subst (λ (o : Option (List Range)). IsBases section item a way start None o)
      (append_more front (bases_of a selected e) answer ∙ ap (λ (xs : List Range). option_map (λ rs. xs ++ rs) answer) (sym is))
      (completes (option_map (λ rs. bases_of a selected e ∷ rs) answer) (with_bases at next selected e answer entry behind))

  -- at an end mark
  pub completes_end : (start at : ℕ) (selected : Option ℕ) (front : List Range) (r q : Place) → r ≡ there at → at ≤ length (section way) → item way r ≡ Ok (None, q)
      → Completes start at selected front → IsBases section item a way start None (Some front)
  completes_end start at selected front r q is inside reads completes =
      subst (λ (xs : List Range). IsBases section item a way start None (Some xs)) (append-nil front) (completes (Some []) here)
    where
      here : IsBases section item a way at selected (Some [])
      here zero room = absurd (no_room (length (section way)) at inside room)
      here (suc n) room =
          ap (λ (x : Place). option_map (bases_by a selected) (reading_of (ended_from (item way) (suc n) x))) (sym is)
          ∙ ap (option_map (bases_by a selected)) (end_read (item way) r q n reads)

  -- where no entry has a reading
  pub completes_none : (start at offset : ℕ) (selected : Option ℕ) (front : List Range) (r : Place) → r ≡ there at → at ≤ length (section way) → item way r ≡ Err offset
      → Completes start at selected front → IsBases section item a way start None None
  completes_none start at offset selected front r is inside reads completes = completes None here
    where
      here : IsBases section item a way at selected None
      here zero room = absurd (no_room (length (section way)) at inside room)
      here (suc n) room =
          ap (λ (x : Place). option_map (bases_by a selected) (reading_of (ended_from (item way) (suc n) x))) (sym is)
          ∙ ap (option_map (bases_by a selected)) (none_read (item way) r r offset n reads)

  reading_is : (at base : ℕ) → said_in section item a (record { way = way; base = base; at = at }) ≡ option_map (said base a) (reading_of (ended_from (item way) (length (section way) + 1 - at) (there at)))
  unfolding ended_item
  reading_is at base = refl

  held_some : (base : ℕ) (o : Option (List (ListEntry A))) (ranges : List Range) → base < 2 ^ 32 → option_map (bases_by a None) o ≡ Some ranges
      → is_some (first_in ranges base) ≡ is_held (option_map (said base a) o)
  held_some base (Some es) ranges small is =
      let same : bases_by a None es ≡ ranges = cc in
      ap (λ (rs : List Range). is_some (first_in rs base)) (sym same) ∙ bases_are a base None es small
  held_some base None ranges small is = absurd cc

  held_none : (base : ℕ) (o : Option (List (ListEntry A))) → option_map (bases_by a None) o ≡ None → false ≡ is_held (option_map (said base a) o)
  held_none base (Some es) is = absurd cc
  held_none base None is = refl

  table_made : (at entries : ℕ) (ranges : List Range) (steps : List Step) → IsBases section item a way at None (Some ranges) → Answer ranges steps
      → AreBases section item a (record { way = way; at = at; entries = entries; bases = Some steps })
  table_made at entries ranges steps is answers base small =
      ap is_some (answers base small)
      ∙ held_some base (reading_of (ended_from (item way) (length (section way) + 1 - at) (there at))) ranges small (is (length (section way) + 1 - at) (omega arith))
      ∙ ap is_held (sym (reading_is at base))

  table_none : (at entries : ℕ) → IsBases section item a way at None None → AreBases section item a (record { way = way; at = at; entries = entries; bases = None })
  table_none at entries is base small =
      held_none base (reading_of (ended_from (item way) (length (section way) + 1 - at) (there at))) (is (length (section way) + 1 - at) (omega arith)) ∙ ap is_held (sym (reading_is at base))

  -- by what was read, whether the list is whole
  abbrev pub Was : ℕ → List Range → Bool → Type 0
  Was at ranges whole = IsBases section item a way at None (if whole then Some ranges else None)

  pub made_whole : (at entries : ℕ) (o : Option Bool) (whole : Bool) (ranges slice : List Range) (steps : List Step) → o ≡ Some whole → whole ≡ true → IfSome o (Was at ranges) → slice ≡ ranges → Answer slice steps
      → AreBases section item a (record { way = way; at = at; entries = entries; bases = Some steps })
  made_whole at entries o whole ranges slice steps is e was same answers =
      let read : o ≡ Some true = is ∙ ap Some e in
      table_made at entries ranges steps (subst (λ (x : Option Bool). IfSome x (Was at ranges)) read was) (subst (λ (rs : List Range). Answer rs steps) same answers)

  pub made_none : (at entries : ℕ) (o : Option Bool) (whole : Bool) (ranges : List Range) → o ≡ Some whole → whole ≡ false → IfSome o (Was at ranges)
      → AreBases section item a (record { way = way; at = at; entries = entries; bases = None })
  made_none at entries o whole ranges is e was =
      let read : o ≡ Some false = is ∙ ap Some e in
      table_none at entries (subst (λ (x : Option Bool). IfSome x (Was at ranges)) read was)

  pub table_past : (at entries : ℕ) → length (section way) < at → AreBases section item a (record { way = way; at = at; entries = entries; bases = None })
  table_past at entries past base small = ap is_held (said_past section item a (record { way = way; base = base; at = at }) past)

-- ---- tables that are kept

module _ {A : Type 0} (section : Sectioned) (item : Entered A) (a : ℕ) where
  pub tabled_kept : (before after : BaseTables) (number : ℕ) (t : BaseTable)
      → ((q : ℕ) → get nat_cmp after.tables q ≡ cond (is_eq (nat_cmp number q)) (Some t) (get nat_cmp before.tables q)) → AreTabled section item a before
      → AreBases section item a t → AreTabled section item a after
  tabled_kept before after number t updates tabled is q = subst (λ (o : Option BaseTable). IfSome o (AreBases section item a)) (sym (updates q)) (by (is_eq (nat_cmp number q)))
    where
      by : (b : Bool) → IfSome (cond b (Some t) (get nat_cmp before.tables q)) (AreBases section item a)
      by true = is
      by false = tabled q

  pub tabled_same : (before after : BaseTables) → after.tables.entries ≡ before.tables.entries → AreTabled section item a before → AreTabled section item a after
  tabled_same before after same tabled q = subst (λ (o : Option BaseTable). IfSome o (AreBases section item a)) (sym (ap (λ es. lookup (is_at (nat_cmp q)) es) same)) (tabled q)

  pub tabled_at : (b : BaseTables) (number base : ℕ) (t : BaseTable) (p : ListPlace) → get nat_cmp b.tables number ≡ Some t → place_at t base ≡ p → base < 2 ^ 32 → AreTabled section item a b
      → held_from t.bases base ≡ is_held (said_in section item a p)
  tabled_at b number base t p got same small tabled =
      let here : AreBases section item a t = subst (λ (o : Option BaseTable). IfSome o (AreBases section item a)) got (tabled number) in
      here base small ∙ ap (λ (q : ListPlace). is_held (said_in section item a q)) same
