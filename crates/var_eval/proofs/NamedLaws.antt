-- The members of structures by their names.
use Rattle.std.proofs.Common.{Bor, ◌≡◌, ℕ, ◌-◌, ◌<◌, ◌≤◌, Bool, true, false, cond, List, [], ◌∷◌, ◌++◌, length, Option, Some, None, refl, sym, ap, subst, ◌∙◌, arith}
use Rattle.std.specs.Prelude.{bytes_eq, filter, find, flat_map, is_some, option_and_then, Result, ok_or, IfSome, if◌then◌else◌}
use Rattle.std.specs.Option.{option_or}
use Rattle.std.specs.Ordering.{nat_cmp}
use Rattle.std.specs.Map.{lookup}
use Rattle.std.specs.BTreeMap.{BTreeMap, get, get_by, is_at, UpdatesBy}
use Rattle.std.specs.Cmp.Lexicographic.{slice_cmp}
use Rattle.std.proofs.lemmas.Map.Text.{btree_map_updates_str}
use Rattle.std.proofs.lemmas.Slice.Eq.{bytes_eq-Decides}
use Rattle.dwarf_info.specs.declared.entry.Entry.{Entry}
use Rattle.dwarf_info.specs.declared.entry.Unit.{Unit as UnitTree}
use Rattle.dwarf_info.specs.declared.entry.UnitAnswer.{UnitAnswer}
use Rattle.dwarf_entries.specs.Standing.{Standing, standing_at, standing_in, stands, entries_inside, is_child}
use Rattle.dwarf_entries.specs.Origins.{name_or_empty, longest_chain}
use Rattle.dwarf_entries.specs.Tags.{tag_member}
use Rattle.dwarf_types.specs.Structures.{tag_variant_part}
use Rattle.dwarf_types.proofs.KeptLaws.{one_kept}
use Rattle.var_values.specs.declared.item.Item.{Item}
use Rattle.var_values.specs.declared.item.Item.TheVariants.{Member, Unknown}
use Rattle.var_values.specs.declared.mark.Mark.TheVariants.{UnsupportedType}
use Rattle.var_values.specs.Bytes.{Recorded}
use Rattle.var_values.specs.Places.{Place}
use Rattle.var_values.specs.Variants.{items, child_items, variant_items, variant_of}
use Rattle.var_values.proofs.VariantLaws.{more_items}
use Rattle.var_eval.specs.declared.named.MemberNames.{MemberNames}
use Rattle.var_eval.specs.declared.named.KnownMembers.{KnownMembers}
use Rattle.var_eval.specs.declared.dead_end.DeadEnd.{DeadEnd}
use Rattle.var_eval.specs.Steps.{Part, Reached, has_name, at_member, at_item, member_of}
use Rattle.var_eval.specs.inner.Named.{longest_name, is_called, own_at, member_at, first_by, entry_of, member_told, IsMember, AreNamed, AreNamedOf, AreKnown, IsFound}
use Rattle.var_eval.specs.inner.Told.{Tells}

-- ---- one more member

-- at a name that is there
pub kept_by : {A : Type 0} (before : List ℕ → Option A) (e : A) (own name : List ℕ) (b : Bool) (o : Option A) → bytes_eq own name ≡ b → before name ≡ o → is_some (before own) ≡ true
    → before name ≡ option_or (before name) (if b then Some e else None)
kept_by before e own name b (Some x) tie is there = rw is refl
kept_by before e own name false None tie is there = rw is refl
kept_by before e own name true None tie is there =
    absurd (let same : own ≡ name = (bytes_eq-Decides own name).0 tie in let none : false ≡ true = sym (ap is_some (ap before same ∙ is)) ∙ there in cc)

pub kept_before : (names : MemberNames) (e : Entry) (own : List ℕ) → is_some (first_by names own) ≡ true → (name : List ℕ) → first_by names name ≡ option_or (first_by names name) (own_at e own name)
kept_before names e own there name = kept_by (first_by names) e own name (bytes_eq own name) (first_by names name) refl refl there

-- at a name that is not there
pub added_by : {A : Type 0} (before after : List ℕ → Option A) (e : A) (own name : List ℕ) (b : Bool) (o : Option A) → bytes_eq own name ≡ b → before name ≡ o → is_some (before own) ≡ false
    → after name ≡ cond b (Some e) (before name) → after name ≡ option_or (before name) (if b then Some e else None)
added_by before after e own name false (Some x) tie is none new = new ∙ rw is refl
added_by before after e own name false None tie is none new = new ∙ rw is refl
added_by before after e own name true None tie is none new = new ∙ rw is refl
added_by before after e own name true (Some x) tie is none new =
    absurd (let same : own ≡ name = (bytes_eq-Decides own name).0 tie in let some : true ≡ false = sym (ap is_some (ap before same ∙ is)) ∙ none in cc)

pub one_added : {A : Type 0} (old new : BTreeMap (Bor (List ℕ)) A) (e : A) (own : List ℕ) → is_some (get_by (λ k. slice_cmp nat_cmp own k.now) old) ≡ false
    → UpdatesBy (λ x y. slice_cmp nat_cmp x.now y.now) (λ k. slice_cmp nat_cmp own k.now) old new (Some e) → (name : List ℕ)
    → get_by (λ k. slice_cmp nat_cmp name k.now) new ≡ option_or (get_by (λ k. slice_cmp nat_cmp name k.now) old) (if bytes_eq own name then Some e else None)
one_added old new e own none updates name =
    added_by (λ q. get_by (λ k. slice_cmp nat_cmp q k.now) old) (λ q. get_by (λ k. slice_cmp nat_cmp q k.now) new) e own name (bytes_eq own name) (get_by (λ k. slice_cmp nat_cmp name k.now) old) refl refl none
    (btree_map_updates_str own old new (Some e) updates name)

-- an entry of another kind adds none
pub other_left_out : (units : List UnitAnswer) (depth : ℕ) (e : Entry) (before : List ℕ → Option Entry) → is_child depth tag_member e ≡ false
    → (name : List ℕ) → length name ≤ longest_name → before name ≡ option_or (before name) (member_at units depth e name)
other_left_out units depth e before other name short = by (is_child depth tag_member e) other (before name)
  where
    by : (b : Bool) → b ≡ false → (o : Option Entry) → o ≡ option_or o (if b then own_at e (name_or_empty units e.attributes) name else None)
    by b none (Some x) = refl
    by false none None = refl
    by true none None = absurd (let no : true ≡ false = none in cc)

-- a member adds itself
pub short_added : (units : List UnitAnswer) (depth : ℕ) (e : Entry) (own : List ℕ) (before after : List ℕ → Option Entry) → is_child depth tag_member e ≡ true → own ≡ name_or_empty units e.attributes
    → ((name : List ℕ) → after name ≡ option_or (before name) (own_at e own name)) → (name : List ℕ) → length name ≤ longest_name → after name ≡ option_or (before name) (member_at units depth e name)
short_added units depth e own before after member is more name short =
    more name ∙ ap (λ (n : List ℕ). option_or (before name) (own_at e n name)) is
    ∙ ap (λ (b : Bool). option_or (before name) (if b then own_at e (name_or_empty units e.attributes) name else None)) (sym member)

-- a name that is too long is none of those that are kept
pub long_left_out : (units : List UnitAnswer) (depth : ℕ) (e : Entry) (own : List ℕ) (before : List ℕ → Option Entry) → own ≡ name_or_empty units e.attributes → longest_name < length own
    → (name : List ℕ) → length name ≤ longest_name → before name ≡ option_or (before name) (member_at units depth e name)
long_left_out units depth e own before is long name short =
    by (is_child depth tag_member e) (bytes_eq (name_or_empty units e.attributes) name) refl (before name)
  where
    by : (b c : Bool) → bytes_eq (name_or_empty units e.attributes) name ≡ c → (o : Option Entry) → o ≡ option_or o (if b then (if c then Some e else None) else None)
    by b c tie (Some x) = refl
    by false c tie None = refl
    by true false tie None = refl
    by true true tie None =
        absurd (let same : length own ≡ length name = ap length (is ∙ (bytes_eq-Decides (name_or_empty units e.attributes) name).0 tie) in omega (arith, same, long, short))

-- ---- all of them

turn_by : (P : Entry → Bool) (picked : List Entry) (e : Entry) (b c : Bool) → P e ≡ c → (before after : Option Entry) → after ≡ option_or before (if b then (if c then Some e else None) else None)
    → option_or after (find P picked) ≡ option_or before (find P (cond b (e ∷ picked) picked))
turn_by P picked e b c is (Some x) after same = rw same refl
turn_by P picked e false c is None after same = rw same refl
turn_by P picked e true true is None after same = rw (same, is) refl
turn_by P picked e true false is None after same = rw (same, is) refl

pub turn_named : (units : List UnitAnswer) (depth : ℕ) (e : Entry) (es : List Entry) (before after total : List ℕ → Option Entry)
    → ((q : List ℕ) → length q ≤ longest_name → after q ≡ option_or (before q) (member_at units depth e q))
    → ((q : List ℕ) → length q ≤ longest_name → option_or (before q) (find (is_called units q) (filter (is_child depth tag_member) (e ∷ es))) ≡ total q)
    → (q : List ℕ) → length q ≤ longest_name → option_or (after q) (find (is_called units q) (filter (is_child depth tag_member) es)) ≡ total q
turn_named units depth e es before after total more all q short =
    turn_by (is_called units q) (filter (is_child depth tag_member) es) e (is_child depth tag_member e) (is_called units q e) refl (before q) (after q) (more q short) ∙ all q short

pub all_named : (first total : List ℕ → Option Entry) → ((q : List ℕ) → length q ≤ longest_name → option_or (first q) None ≡ total q) → (q : List ℕ) → length q ≤ longest_name → first q ≡ total q
all_named first total all q short = by (first q) (all q short)
  where
    by : (o : Option Entry) → option_or o None ≡ total q → o ≡ total q
    by (Some x) is = is
    by None is = is

-- ---- without variant parts a step leads to the first member of the name

member_by : (b c : Bool) (x : Item) (e : Entry) (special rest : List Item) (picked : List Entry) (is : Item → Bool) (called : Entry → Bool) (at : Item → Option Part) (to : Entry → Option Part)
    → c ≡ false → is x ≡ called e → at x ≡ to e → option_and_then at (find is rest) ≡ option_and_then to (find called picked)
    → option_and_then at (find is ((if b then x ∷ [] else (if c then special else [])) ++ rest)) ≡ option_and_then to (find called (cond b (e ∷ picked) picked))
member_by false true x e special rest picked is called at to none same here on = absurd (let no : true ≡ false = none in cc)
member_by false false x e special rest picked is called at to none same here on = on
member_by true c x e special rest picked is called at to none same here on = by (called e) (is x) same
  where
    by : (t u : Bool) → u ≡ t → option_and_then at (if u then Some x else find is rest) ≡ option_and_then to (if t then Some e else find called picked)
    by true true tie = here
    by false false tie = on
    by true false tie = absurd (let no : false ≡ true = tie in cc)
    by false true tie = absurd (let no : true ≡ false = tie in cc)

none_in : (b : Bool) (e : Entry) (o : Option Entry) → (if b then Some e else o) ≡ None → (b ≡ false) × (o ≡ None)
none_in true e o is = absurd (let no : Some e ≡ None = is in cc)
none_in false e o is = (refl, is)

member_among : (units : List UnitAnswer) (memory : Recorded) (place : Place) (past : Bool) (content : Standing → List Item) (depth : ℕ) (name : List ℕ) (u : UnitTree) (es : List Entry)
    → find (is_child depth tag_variant_part) es ≡ None
    → option_and_then (at_item units place past) (find (has_name units name) (flat_map (child_items units memory place content depth) (standing_in u es)))
    ≡ option_and_then (at_member units place past) (find (is_called units name) (filter (is_child depth tag_member) es))
member_among units memory place past content depth name u [] none = refl
member_among units memory place past content depth name u (e ∷ es) none =
    let parts = none_in (is_child depth tag_variant_part e) e (find (is_child depth tag_variant_part) es) none in
    member_by (is_child depth tag_member e) (is_child depth tag_variant_part e) (Member (stands u e es)) e (variant_items content (variant_of units memory place (stands u e es)))
    (flat_map (child_items units memory place content depth) (standing_in u es)) (filter (is_child depth tag_member) es)
    (has_name units name) (is_called units name) (at_item units place past) (at_member units place past) parts.0 refl refl
    (member_among units memory place past content depth name u es parts.1)

-- none is inside
pub none_inside : (s : Standing) (e : Entry) (es : List Entry) (o : Option Entry) → e ≡ s.entry → es ≡ entries_inside s → o ≡ find (is_child e.depth tag_variant_part) es → o ≡ None
    → find (is_child s.entry.depth tag_variant_part) (entries_inside s) ≡ None
none_inside s e es o is are found none =
    ap (λ (xs : List Entry). find (is_child s.entry.depth tag_variant_part) xs) (sym are) ∙ ap (λ (x : Entry). find (is_child x.depth tag_variant_part) es) (sym is) ∙ sym found ∙ none

pub first_is_member : (units : List UnitAnswer) (s : Standing) (name : List ℕ) (o : Option Entry) → find (is_child s.entry.depth tag_variant_part) (entries_inside s) ≡ None
    → o ≡ find (is_called units name) (filter (is_child s.entry.depth tag_member) (entries_inside s)) → IsMember units s name o
first_is_member units s name o none is memory place past =
    let some : 0 < longest_chain = omega arith in
    let content : Standing → List Item = items units memory place (longest_chain - 1) in
    ap (λ (xs : List Item). ok_or (option_and_then (at_item units place past) (find (has_name units name) xs)) UnsupportedType) (more_items units memory place longest_chain s some)
    ∙ ap (λ (p : Option Part). ok_or p UnsupportedType)
    (member_among units memory place past content s.entry.depth name s.unit (entries_inside s) none ∙ ap (option_and_then (at_member units place past)) (sym is))

-- all that were added to an empty table
pub named_here : (units : List UnitAnswer) (s : Standing) (e : Entry) (es : List Entry) (old m : MemberNames) → e ≡ s.entry → es ≡ entries_inside s
    → find (is_child s.entry.depth tag_variant_part) (entries_inside s) ≡ None → old.first.entries ≡ []
    → ((q : List ℕ) → length q ≤ longest_name → first_by m q ≡ option_or (first_by old q) (find (is_called units q) (filter (is_child e.depth tag_member) es))) → AreNamed units s m
named_here units s e es old m is are none empty first name short =
    first_is_member units s name (first_by m name) none
    (first name short
    ∙ ap (λ (o : Option Entry). option_or o (find (is_called units name) (filter (is_child e.depth tag_member) es))) (ap (λ es. lookup (is_at (λ k. slice_cmp nat_cmp name k.now)) es) empty)
    ∙ ap (λ (x : Entry). find (is_called units name) (filter (is_child x.depth tag_member) es)) is
    ∙ ap (λ (xs : List Entry). find (is_called units name) (filter (is_child s.entry.depth tag_member) xs)) are)

-- ---- what is kept

pub none_known : (k : KnownMembers) → k.structures.entries ≡ [] → (units : List UnitAnswer) → AreKnown units k
none_known k none units q =
    subst (λ (o : Option MemberNames). IfSome o (AreNamedOf units (standing_at units q))) (sym (ap (λ es. lookup (is_at (nat_cmp q)) es) none)) tt

pub one_known : (units : List UnitAnswer) (before after : BTreeMap ℕ MemberNames) (at : ℕ) (m : MemberNames) → UpdatesBy nat_cmp (nat_cmp at) before after (Some m)
    → ((q : ℕ) → IfSome (get nat_cmp before q) (AreNamedOf units (standing_at units q))) → AreNamedOf units (standing_at units at) m
    → (q : ℕ) → IfSome (get nat_cmp after q) (AreNamedOf units (standing_at units q))
one_known units before after at m updates = one_kept (λ q. AreNamedOf units (standing_at units q)) (get nat_cmp before) (get nat_cmp after) at m updates.0

pub names_kept : (units : List UnitAnswer) (before after : KnownMembers) (s : Standing) (e : Entry) (m : MemberNames) → e ≡ s.entry
    → ((us : List UnitAnswer) → AreKnown us before → AreNamedOf us (standing_at us e.at) m → AreKnown us after) → IsFound units s → AreKnown units before → AreNamed units s m → AreKnown units after
names_kept units before after s e m is kept found are named =
    kept units are (subst (λ (o : Option Standing). AreNamedOf units o m) (sym (ap (λ (x : Entry). standing_at units x.at) is ∙ found)) named)

pub names_got : (known : KnownMembers) (at : ℕ) (o : Option MemberNames) → o ≡ get nat_cmp known.structures at → (units : List UnitAnswer) → AreKnown units known
    → IfSome o (AreNamedOf units (standing_at units at))
names_got known at o is units are = subst (λ (x : Option MemberNames). IfSome x (AreNamedOf units (standing_at units at))) (sym is) (are at)

pub member_here : (units : List UnitAnswer) (known : KnownMembers) (s : Standing) (e : Entry) (m : MemberNames) (found : Option MemberNames) (name : List ℕ) (o : Option Entry) → e ≡ s.entry
    → ((us : List UnitAnswer) → AreKnown us known → IfSome found (AreNamedOf us (standing_at us e.at))) → found ≡ Some m → AreKnown units known → IsFound units s → length name ≤ longest_name
    → o ≡ first_by m name → IsMember units s name o
member_here units known s e m found name o is got there are own short first =
    let named : AreNamedOf units (standing_at units e.at) m = subst (λ (x : Option MemberNames). IfSome x (AreNamedOf units (standing_at units e.at))) there (got units are) in
    let here : AreNamed units s m = subst (λ (x : Option Standing). AreNamedOf units x m) (ap (λ (x : Entry). standing_at units x.at) is ∙ own) named in
    subst (λ (x : Option Entry). IsMember units s name x) (sym first) (here name short)

-- ---- what is told by a member that was found or is known

pub told_found : (units : List UnitAnswer) (place : Place) (past : Bool) (o : Option Item) (e : Option Entry) (r : Result Part DeadEnd) → e ≡ option_and_then entry_of o → Tells r (member_told units place past e)
    → Tells r (ok_or (option_and_then (at_item units place past) o) UnsupportedType)
told_found units place past o e r is told = subst (λ (p : Option Part). Tells r (ok_or p UnsupportedType)) (ap (option_and_then (at_member units place past)) is ∙ by o) told
  where
    by : (o : Option Item) → option_and_then (at_member units place past) (option_and_then entry_of o) ≡ option_and_then (at_item units place past) o
    by None = refl
    by (Some (Member x)) = refl
    by (Some (Unknown m)) = refl

pub told_known : (units us : List UnitAnswer) (s x : Standing) (name : List ℕ) (o e : Option Entry) (memory : Recorded) (place : Place) (past : Bool) (r : Result Part DeadEnd) → us ≡ units → x ≡ s
    → IsMember us x name o → e ≡ o → Tells r (member_told units place past e) → Tells r (member_of units memory name s place past)
told_known units us s x name o e memory place past r same this is known told =
    let here : member_of units memory name s place past ≡ member_told units place past o =
    ap (λ (us : List UnitAnswer). member_of us memory name s place past) (sym same) ∙ ap (λ (x : Standing). member_of us memory name x place past) (sym this) ∙ is memory place past
    ∙ ap (λ (us : List UnitAnswer). member_told us place past o) same
    in
    subst (λ (x : Reached). Tells r x) (ap (member_told units place past) known ∙ sym here) told
