-- The table of the first of each name.
use Rattle.std.proofs.Common.{◌≡◌, ℕ, ◌+◌, ◌<◌, ◌≤◌, Bool, true, false, List, [], length, drop, get_or, Option, Some, None, refl, sym, ap, ◌∙◌, arith}
use Rattle.std.specs.Prelude.{bytes_eq, find, flat_map, reverse, is_some, if◌then◌else◌}
use Rattle.std.specs.Option.{option_or}
use Rattle.std.specs.Ordering.{nat_cmp}
use Rattle.std.specs.Map.{lookup}
use Rattle.std.specs.BTreeMap.{is_at}
use Rattle.std.specs.Cmp.Lexicographic.{slice_cmp}
use Rattle.std.proofs.lemmas.List.Folds.{find-append}
use Rattle.std.proofs.lemmas.Slice.Eq.{bytes_eq-Decides}
use Rattle.dwarf_info.specs.declared.entry.Entry.{Entry}
use Rattle.dwarf_info.specs.declared.entry.Unit.{Unit as UnitTree}
use Rattle.dwarf_info.specs.declared.entry.UnitAnswer.{UnitAnswer}
use Rattle.dwarf_info.specs.Sections.{SectionBytes5}
use Rattle.dwarf_entries.specs.Standing.{Standing}
use Rattle.dwarf_entries.specs.Origins.{name_or_empty}
use Rattle.var_eval.specs.declared.known_names.NameTable.{NameTable}
use Rattle.dwarf_scopes.specs.Scopes.{scopes_from, variables_of}
use Rattle.dwarf_scopes.proofs.Filters.{next_part, part_holds, part_lacks}
use Rattle.var_eval.specs.Chosen.{is_named, unit_variable, global_entries, is_global, globals, first_global, beyond_scopes}
use Rattle.var_eval.specs.calls.Names.{look, offset_found}
use Rattle.var_eval.specs.inner.Named.{longest_name}
use Rattle.var_eval.specs.inner.Adding.{own_offset, alone, Adds, Still, meant_in}
use Rattle.var_eval.proofs.NamedLaws.{kept_by}

-- ---- one name

pub name_there : (t : NameTable) (at : ℕ) (own : List ℕ) → is_some (look t own) ≡ true → (q : List ℕ) → look t q ≡ option_or (look t q) (own_offset at own q)
name_there t at own there q = kept_by (look t) at own q (bytes_eq own q) (look t q) refl refl there

-- ---- one entry

-- nothing is found behind what is there
nothing : (o : Option ℕ) → o ≡ option_or o None
nothing (Some n) = refl
nothing None = refl

-- a name that is too long is none of those that are kept
pub long_passed : (units : List UnitAnswer) (t : NameTable) (x : Standing) (e : Entry) (own : List ℕ) → e ≡ x.entry → own ≡ name_or_empty units e.attributes → longest_name < length own
    → Adds t t (λ q. alone (is_named units q) x)
long_passed units t x e own entry is long q short = by (bytes_eq (name_or_empty units x.entry.attributes) q) refl
  where
    by : (b : Bool) → bytes_eq (name_or_empty units x.entry.attributes) q ≡ b → look t q ≡ option_or (look t q) (offset_found (if b then Some x else None))
    by false tie = nothing (look t q)
    by true tie =
        absurd (let same : length own ≡ length q = ap length (is ∙ ap (λ (y : Entry). name_or_empty units y.attributes) entry ∙ (bytes_eq-Decides (name_or_empty units x.entry.attributes) q).0 tie) in
        omega (arith, same, long, short))

pub short_added : (units : List UnitAnswer) (old new : NameTable) (x : Standing) (e f : Entry) (own : List ℕ) → e ≡ x.entry → f ≡ x.entry → own ≡ name_or_empty units e.attributes
    → ((q : List ℕ) → look new q ≡ option_or (look old q) (own_offset f.at own q)) → Adds old new (λ q. alone (is_named units q) x)
short_added units old new x e f own entry same is more q short =
    more q ∙ ap (λ (n : List ℕ). option_or (look old q) (own_offset f.at n q)) (is ∙ ap (λ (y : Entry). name_or_empty units y.attributes) entry)
    ∙ ap (λ (y : Entry). option_or (look old q) (own_offset y.at (name_or_empty units x.entry.attributes) q)) same
    ∙ by (bytes_eq (name_or_empty units x.entry.attributes) q)
  where
    by : (b : Bool) → option_or (look old q) (if b then Some x.entry.at else None) ≡ option_or (look old q) (offset_found (if b then Some x else None))
    by true = refl
    by false = refl

-- ---- all of them

shift : (o : Option ℕ) (x y : Option Standing) → option_or (option_or o (offset_found x)) (offset_found y) ≡ option_or o (offset_found (option_or x y))
shift (Some n) x y = refl
shift None (Some x) y = refl
shift None None y = refl

turn : (first before after : NameTable) (whole old new one : List ℕ → Option Standing) → ((q : List ℕ) → old q ≡ option_or (one q) (new q)) → Adds before after one
    → Still first before whole old → Still first after whole new
turn first before after whole old new one parts adds still q short =
    ap (λ (o : Option ℕ). option_or o (offset_found (new q))) (adds q short) ∙ shift (look before q) (one q) (new q)
    ∙ ap (λ (o : Option Standing). option_or (look before q) (offset_found o)) (sym (parts q)) ∙ still q short

both : (first before after : NameTable) (f g : List ℕ → Option Standing) → Adds first before f → Adds before after g → Adds first after (λ q. option_or (f q) (g q))
both first before after f g one two q short = two q short ∙ ap (λ (o : Option ℕ). option_or o (offset_found (g q))) (one q short) ∙ shift (look first q) (f q) (g q)

from_none : (first now : NameTable) (f : List ℕ → Option Standing) → first.offsets.entries ≡ [] → Adds first now f → (q : List ℕ) → length q ≤ longest_name → look now q ≡ offset_found (f q)
from_none first now f none adds q short = adds q short ∙ ap (λ (o : Option ℕ). option_or o (offset_found (f q))) (ap (λ es. lookup (is_at (λ k. slice_cmp nat_cmp q k.now)) es) none)

-- ---- those of units

pub unit_added : (units us : List UnitAnswer) (first before after : NameTable) (whole : List ℕ → Option Standing) (i : ℕ) (u : UnitAnswer) → i < length us → u ≡ get_or us i u
    → Adds before after (λ q. find (is_global units q) (globals u)) → Still first before whole (λ q. first_global units q (drop i us))
    → Still first after whole (λ q. first_global units q (drop (i + 1) us))
unit_added units us first before after whole i u lt is adds still =
    turn first before after whole (λ q. first_global units q (drop i us)) (λ q. first_global units q (drop (i + 1) us)) (λ q. find (is_global units q) (globals u))
    (λ q. ap (λ (xs : List UnitAnswer). find (is_global units q) (flat_map globals xs)) (next_part us i u lt is) ∙ find-append (is_global units q) (globals u) (flat_map globals (drop (i + 1) us)))
    adds still

-- the first of them is of a unit, or of those behind it
pub global_found : (units us : List UnitAnswer) (name : List ℕ) (i : ℕ) (u : UnitAnswer) (x : Standing) (total : Option Standing) → i < length us → u ≡ get_or us i u
    → Some x ≡ find (is_global units name) (globals u) → total ≡ first_global units name (drop i us) → Some x ≡ total
global_found units us name i u x total lt is found so_far = sym (so_far ∙ part_holds (is_global units name) globals us i u x lt is (sym found))

pub global_missed : (units us : List UnitAnswer) (name : List ℕ) (i : ℕ) (u : UnitAnswer) (total : Option Standing) → i < length us → u ≡ get_or us i u
    → None ≡ find (is_global units name) (globals u) → total ≡ first_global units name (drop i us) → total ≡ first_global units name (drop (i + 1) us)
global_missed units us name i u total lt is none so_far = so_far ∙ part_lacks (is_global units name) globals us i u lt is (sym none)

-- the visible ones, the unit's own, those in its namespaces, and those of all units
pub meant_told : (s : SectionBytes5) (units : List UnitAnswer) (address : ℕ) (subprogram : Option Standing) (u : UnitTree) (visible : List Standing) (none first second third all : NameTable)
    → none.offsets.entries ≡ [] → visible ≡ flat_map variables_of (scopes_from s address subprogram) → Adds none first (λ q. find (is_named units q) (reverse visible))
    → Adds first second (λ q. unit_variable units q u) → Adds second third (λ q. find (is_global units q) (global_entries u 0 u.entries)) → Adds third all (λ q. first_global units q units)
    → (q : List ℕ) → length q ≤ longest_name → look all q ≡ offset_found (meant_in s units address subprogram u q)
meant_told s units address subprogram u visible none first second third all empty is one two three four q short =
    from_none none all (λ q. option_or (find (is_named units q) (reverse visible)) (beyond_scopes units q u)) empty
    (both none first all (λ q. find (is_named units q) (reverse visible)) (λ q. beyond_scopes units q u) one
    (both first second all (λ q. unit_variable units q u) (λ q. option_or (find (is_global units q) (global_entries u 0 u.entries)) (first_global units q units)) two
    (both second third all (λ q. find (is_global units q) (global_entries u 0 u.entries)) (λ q. first_global units q units) three four)))
    q short
    ∙ ap (λ (xs : List Standing). offset_found (option_or (find (is_named units q) (reverse xs)) (beyond_scopes units q u))) is
