-- What lists say of an address, entry by entry.
use Rattle.std.proofs.Common.{◌≡◌, ℕ, zero, suc, ◌+◌, ◌-◌, ◌<◌, ◌≤◌, Bool, true, false, cond, List, [], ◌∷◌, ◌++◌, length, Option, Some, None, Ok, Err, refl, sym, ap, subst, ◌∙◌, arith}
use Rattle.std.specs.Prelude.{option_map, IfSome}
use Rattle.std.specs.Ordering.{nat_cmp, is_eq}
use Rattle.std.specs.BTreeMap.{get, is_at}
use Rattle.std.specs.Map.{lookup}
use Rattle.wasm_bytes.specs.Place.{Place, Read}
use Rattle.dwarf_bytes.specs.Items.{ended_from, ended_item, reading_of}
use Rattle.dwarf_info.proofs.RowLaws.{first_read, end_read, none_read, place_is}
use Rattle.dwarf_loc.specs.declared.entry.ListEntry.{ListEntry}
use Rattle.dwarf_loc.specs.declared.said.Said.{Said as SaidOf}
use Rattle.dwarf_loc.specs.calls.Said.{said, base_behind, said_before}
use Rattle.dwarf_loc.proofs.SaidLaws.{said_cons}
use Rattle.dwarf_loc.proofs.Standing.{past_end}
use Rattle.dwarf_scopes.specs.declared.known.ListPlace.{ListPlace}
use Rattle.dwarf_scopes.specs.declared.known.KnownList.{KnownList}
use Rattle.dwarf_scopes.specs.declared.known.KnownLists.{KnownLists}
use Rattle.dwarf_scopes.specs.declared.known.PassedEntry.{PassedEntry}
use Rattle.dwarf_scopes.specs.calls.Knowing.{Sectioned, Entered, said_in, IsSaid, AreSaid}
use Rattle.dwarf_scopes.specs.inner.Passing.{IsEntry, place_behind, Leads}

-- fewer bytes are left behind an entry
pub room_behind : (len at next n : ℕ) → at ≤ len → at < next → len + 1 - at ≤ suc n → len + 1 - next ≤ n
room_behind len at next n inside moves room = omega (arith, inside, moves, room)

pub no_room : (len at : ℕ) → at ≤ len → len + 1 - at ≤ 0 → ⊥
no_room len at inside room = omega (arith, inside, room)

pub is_entry : {A : Type 0} (section : List ℕ) (item : Place → Read (Option (ListEntry A))) (p q : Place) (e : ListEntry A) → p.block ≡ section → q.block ≡ section → p.at ≤ length section → p.at < q.at
    → item p ≡ Ok (Some e, q) → IsEntry section item p.at e q.at
is_entry section item p q e ep eq inside moves reads = record {
  inside = inside;
  moves = moves;
  reads = ap item (sym (place_is p section ep)) ∙ reads ∙ ap (λ (x : Place). (let r : Read (Option _) = Ok (Some e, x) in r)) (place_is q section eq);
}

module _ {A : Type 0} (section : Sectioned) (item : Entered A) where
  abbrev there : ListPlace → Place
  there p = record { block = section p.way; at = p.at }

  -- ---- what is said from a place on

  said_more : (start address : ℕ) (e : ListEntry A) (o : Option (List (ListEntry A)))
      → option_map (said start address) (option_map (λ more. e ∷ more) o) ≡ option_map (said_before address start e) (option_map (said (base_behind start e) address) o)
  said_more start address e (Some es) = ap Some (said_cons start address e es)
  said_more start address e None = refl

  -- with an entry in front
  pub with_entry : (address : ℕ) (p : ListPlace) (e : ListEntry A) (next : ℕ) (answer : Option (SaidOf A)) → IsEntry (section p.way) (item p.way) p.at e next
      → IsSaid section item address (place_behind p e next) answer → IsSaid section item address p (option_map (said_before address p.base e) answer)
  with_entry address p e next answer entry behind zero room = absurd (no_room (length (section p.way)) p.at entry.inside room)
  with_entry address p e next answer entry behind (suc n) room =
      ap (option_map (said p.base address)) (first_read (item p.way) (there p) (there (place_behind p e next)) e n entry.reads)
      ∙ said_more p.base address e (reading_of (ended_from (item p.way) n (there (place_behind p e next))))
      ∙ ap (option_map (said_before address p.base e)) (behind n (room_behind (length (section p.way)) p.at next n entry.inside entry.moves room))

  -- at an end mark
  pub said_end : (address : ℕ) (p : ListPlace) (r q : Place) (answer : SaidOf A) → r ≡ there p → p.at ≤ length (section p.way) → item p.way r ≡ Ok (None, q) → answer ≡ said 0 0 []
      → IsSaid section item address p (Some answer)
  said_end address p r q answer is inside reads nothing zero room = absurd (no_room (length (section p.way)) p.at inside room)
  said_end address p r q answer is inside reads nothing (suc n) room =
      ap (λ (x : Place). option_map (said p.base address) (reading_of (ended_from (item p.way) (suc n) x))) (sym is)
      ∙ ap (option_map (said p.base address)) (end_read (item p.way) r q n reads) ∙ ap Some (sym nothing)

  -- where no entry has a reading
  pub said_none : (address : ℕ) (p : ListPlace) (r : Place) (at : ℕ) → r ≡ there p → p.at ≤ length (section p.way) → item p.way r ≡ Err at → IsSaid section item address p None
  said_none address p r at is inside reads zero room = absurd (no_room (length (section p.way)) p.at inside room)
  said_none address p r at is inside reads (suc n) room =
      ap (λ (x : Place). option_map (said p.base address) (reading_of (ended_from (item p.way) (suc n) x))) (sym is)
      ∙ ap (option_map (said p.base address)) (none_read (item p.way) r r at n reads)

  pub is_said_in : (address : ℕ) (p : ListPlace) (answer : Option (SaidOf A)) → IsSaid section item address p answer → answer ≡ said_in section item address p
  unfolding ended_item
  is_said_in address p answer is = sym (is (length (section p.way) + 1 - p.at) (omega arith))

  pub said_past : (address : ℕ) (p : ListPlace) → length (section p.way) < p.at → None ≡ said_in section item address p
  said_past address p past = sym (ap (option_map (said p.base address)) (past_end (item p.way) (section p.way) p.at past))

  -- ---- entries that lead from one place to another

  pub leads_on : (xs : List (PassedEntry A)) (from to : ListPlace) (next : ℕ) (x : PassedEntry A) → Leads section item xs from to → x.place ≡ to
      → IsEntry (section to.way) (item to.way) to.at x.entry next → Leads section item (xs ++ x ∷ []) from (place_behind to x.entry next)
  leads_on [] from to next x same placed entry = (
    next,
    placed ∙ sym same,
    subst (λ (p : ListPlace). IsEntry (section p.way) (item p.way) p.at x.entry next) (sym same) entry,
    ap (λ (p : ListPlace). place_behind p x.entry next) same,
  )
  leads_on (y ∷ ys) from to next x led placed entry = (led.0, led.1, led.2, leads_on ys (place_behind from y.entry led.0) to next x led.3 placed entry)

  pub leads_back : (xs : List (PassedEntry A)) (from to : ListPlace) (x : PassedEntry A) → Leads section item (xs ++ x ∷ []) from to
      → Leads section item xs from x.place × ((next : ℕ) × IsEntry (section x.place.way) (item x.place.way) x.place.at x.entry next × (place_behind x.place x.entry next ≡ to))
  leads_back [] from to x led = (
    sym led.1,
    (
      led.0,
      subst (λ (p : ListPlace). IsEntry (section p.way) (item p.way) p.at x.entry led.0) (sym led.1) led.2,
      ap (λ (p : ListPlace). place_behind p x.entry led.0) led.1 ∙ led.3,
    ),
  )
  leads_back (y ∷ ys) from to x led =
      let more = leads_back ys (place_behind from y.entry led.0) to x led.3 in
      ((led.0, led.1, led.2, more.0), more.1)

  -- No entry is left.
  pub leads_end : (xs : List (PassedEntry A)) (from to : ListPlace) → (0 < length xs → ⊥) → Leads section item xs from to → from ≡ to
  leads_end [] from to none led = led
  leads_end (x ∷ xs) from to none led = absurd (none (omega arith))

  -- The last entry is taken away: from it on that is said.
  pub last_said : (address : ℕ) (xs before : List (PassedEntry A)) (x : PassedEntry A) (from to : ListPlace) (answer : Option (SaidOf A)) → xs ≡ before ++ x ∷ [] → Leads section item xs from to
      → IsSaid section item address to answer
      → Leads section item before from x.place × IsSaid section item address x.place (option_map (said_before address x.place.base x.entry) answer)
  last_said address xs before x from to answer is led behind =
      let back = leads_back before from to x (subst (λ (ys : List (PassedEntry A)). Leads section item ys from to) is led) in
      (back.0, with_entry address x.place x.entry back.1.0 answer back.1.1 (subst (λ (p : ListPlace). IsSaid section item address p answer) (sym back.1.2) behind))

  -- ---- what is kept

  pub known_said : (address : ℕ) (lists : KnownLists A) (number : ℕ) (k : KnownList A) (p : ListPlace) → get nat_cmp lists.known number ≡ Some k → k.place ≡ p → AreSaid section item address lists
      → IsSaid section item address p k.said
  known_said address lists number k p got same said =
      let here : IsSaid section item address k.place k.said = subst (λ (o : Option (KnownList A)). IfSome o (λ k. IsSaid section item address k.place k.said)) got (said number) in
      subst (λ (q : ListPlace). IsSaid section item address q k.said) same here

  pub said_kept : (address : ℕ) (before after : KnownLists A) (number : ℕ) (k : KnownList A)
      → ((q : ℕ) → get nat_cmp after.known q ≡ cond (is_eq (nat_cmp number q)) (Some k) (get nat_cmp before.known q)) → AreSaid section item address before
      → IsSaid section item address k.place k.said → AreSaid section item address after
  said_kept address before after number k updates said is q =
      subst (λ (o : Option (KnownList A)). IfSome o (λ k. IsSaid section item address k.place k.said)) (sym (updates q)) (by (is_eq (nat_cmp number q)))
    where
      by : (b : Bool) → IfSome (cond b (Some k) (get nat_cmp before.known q)) (λ k. IsSaid section item address k.place k.said)
      by true = is
      by false = said q

  pub said_same : (address : ℕ) (before after : KnownLists A) → after.known.entries ≡ before.known.entries → AreSaid section item address before → AreSaid section item address after
  said_same address before after same said q =
      subst (λ (o : Option (KnownList A)). IfSome o (λ k. IsSaid section item address k.place k.said)) (sym (ap (λ es. lookup (is_at (nat_cmp q)) es) same)) (said q)
