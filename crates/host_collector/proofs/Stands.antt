-- What calls have handed over so far.
use Rattle.std.proofs.Common.{◌≡◌, ℕ, ◌+◌, ◌≤◌, List, [], ◌∷◌, ◌++◌, length, map, refl, sym, ap, subst, ◌∙◌, arith, append_assoc, append-nil, length-append, Some, None}
use Rattle.std.proofs.lemmas.List.{map-append}
use Rattle.std.specs.Prelude.{flat_map, ◌==◌, Bool, true, false, if◌then◌else◌}
use Rattle.std.proofs.lemmas.Bool.{eqb-true}
use Rattle.wasm_syntax.specs.declared.value.Value.{Value}
use Rattle.wasm_syntax.specs.declared.value.Value.TheVariants as values
use Rattle.wasm_syntax.specs.declared.host.CollectorCall.{CollectorCall}
use Rattle.wasm_syntax.specs.declared.host.CollectorCall.TheVariants.{ValueI32, ValueI64, Frame}
use Rattle.dump_write.specs.Collected.{value_call, Entry, entry_calls, calls_of, HaveKind, Whole as IsWhole, BeginsWhole}
use Rattle.host_collector.specs.declared.progress.Progress.{Progress}
use Rattle.host_collector.specs.declared.progress.Progress.TheVariants.{First, Later, Whole}
use Rattle.host_collector.specs.inner.Progress.{missing, with_value, with_first, with_later, with_last, with_frame, with_call, stepped}
use Rattle.host_collector.proofs.Tests.{first_passes, later_passes, last_passes, room_passes}
use Rattle.host_collector.proofs.Entries.{entry_with, entry_is, kinds_more, calls_more, behind}

pub record InFirst (n : ℕ) (front : List CollectorCall) : Type 0 where
  pub values : List Value
  pub count : length values ≡ n
  pub are : front ≡ map value_call values

pub record InLater (kind n : ℕ) (front : List CollectorCall) : Type 0 where
  pub entries : List Entry
  pub values : List Value
  pub kinds : HaveKind entries kind
  pub kind_is : (1 ≤ kind) × (kind ≤ 7)
  pub count : length values ≡ n
  pub are : front ≡ flat_map entry_calls entries ++ map value_call values

pub record InWhole (kind : ℕ) (front : List CollectorCall) : Type 0 where
  pub entries : List Entry
  pub globals : List Value
  pub kinds : HaveKind entries kind
  pub kind_is : (1 ≤ kind) × (kind ≤ 7)
  pub are : front ≡ calls_of entries globals

abbrev pub Stands : Progress → List CollectorCall → Type 0
Stands (First n) front = InFirst n front
Stands (Later kind n) front = InLater kind n front
Stands (Whole kind) front = InWhole kind front

-- ---- a value more

values_more : (vs : List Value) (v : Value) → map value_call vs ++ value_call v ∷ [] ≡ map value_call (vs ++ v ∷ [])
values_more vs v = sym (map-append value_call vs (v ∷ []))

one_more : (vs : List Value) (v : Value) (n : ℕ) → length vs ≡ n → length (vs ++ v ∷ []) ≡ n + 1
one_more vs v n e = omega (arith, length-append vs (v ∷ []))

value_stands : (p q : Progress) (front : List CollectorCall) (v : Value) → Stands p front → with_value p ≡ Some q → Stands q (front ++ value_call v ∷ [])
value_stands (First n) q front v s e =
    let next : InFirst (n + 1) (front ++ value_call v ∷ []) = record {
      values = s.values ++ v ∷ [];
      count = one_more s.values v n s.count;
      are = ap (λ (cs : List CollectorCall). cs ++ value_call v ∷ []) s.are ∙ values_more s.values v;
    } in
    let same : First (n + 1) ≡ q = cc in
    subst (λ (r : Progress). Stands r (front ++ value_call v ∷ [])) same next
value_stands (Later kind n) q front v s e =
    let next : InLater kind (n + 1) (front ++ value_call v ∷ []) = record {
      entries = s.entries;
      values = s.values ++ v ∷ [];
      kinds = s.kinds;
      kind_is = s.kind_is;
      count = one_more s.values v n s.count;
      are = ap (λ (cs : List CollectorCall). cs ++ value_call v ∷ []) s.are ∙ behind (flat_map entry_calls s.entries) (map value_call s.values) (value_call v)
          ∙ ap (λ (cs : List CollectorCall). flat_map entry_calls s.entries ++ cs) (values_more s.values v);
    } in
    let same : Later kind (n + 1) ≡ q = cc in
    subst (λ (r : Progress). Stands r (front ++ value_call v ∷ [])) same next
value_stands (Whole kind) q front v s e = absurd (cc)

-- ---- the end of an entry

first_stands : (n : ℕ) (q : Progress) (front : List CollectorCall) (kind function offset locals : ℕ) → InFirst n front → with_first n kind locals ≡ Some q → Stands q (front ++ Frame kind function offset locals ∷ [])
first_stands n q front kind function offset locals s e =
    let passed = first_passes n kind locals q e in
    let there : locals ≤ length s.values = subst (λ (m : ℕ). locals ≤ m) (sym s.count) passed.there in
    let entry = entry_with kind function offset locals s.values in
    let end = Frame kind function offset locals ∷ [] in
    let next : InLater kind 0 (front ++ end) = record {
      entries = entry ∷ [];
      values = [];
      kinds = (refl, tt);
      kind_is = (passed.low, passed.high);
      count = refl;
      are = ap (λ (cs : List CollectorCall). cs ++ end) s.are ∙ sym (entry_is kind function offset locals s.values there) ∙ sym (append-nil (entry_calls entry))
          ∙ sym (append-nil (entry_calls entry ++ []));
    } in
    subst (λ (r : Progress). Stands r (front ++ end)) passed.gives next

later_stands : (first n : ℕ) (q : Progress) (front : List CollectorCall) (kind function offset locals : ℕ) → kind ≡ 0 → InLater first n front → with_later first n locals ≡ Some q → Stands q (front ++ Frame kind function offset locals ∷ [])
later_stands first n q front kind function offset locals zero s e =
    let passed = later_passes first n locals q e in
    let there : locals ≤ length s.values = subst (λ (m : ℕ). locals ≤ m) (sym s.count) passed.there in
    let entry = entry_with kind function offset locals s.values in
    let end = Frame kind function offset locals ∷ [] in
    let next : InLater first 0 (front ++ end) = record {
      entries = s.entries ++ entry ∷ [];
      values = [];
      kinds = kinds_more s.entries entry first zero s.kinds;
      kind_is = s.kind_is;
      count = refl;
      are = ap (λ (cs : List CollectorCall). cs ++ end) s.are ∙ behind (flat_map entry_calls s.entries) (map value_call s.values) (Frame kind function offset locals)
          ∙ ap (λ (cs : List CollectorCall). flat_map entry_calls s.entries ++ cs) (sym (entry_is kind function offset locals s.values there))
          ∙ sym (calls_more s.entries entry) ∙ sym (append-nil (flat_map entry_calls (s.entries ++ entry ∷ [])));
    } in
    subst (λ (r : Progress). Stands r (front ++ end)) passed.gives next

-- ---- the last call

last_stands : (first n : ℕ) (q : Progress) (front : List CollectorCall) (kind function offset locals : ℕ) → kind ≡ 255 → InLater first n front → with_last first n function offset locals ≡ Some q → Stands q (front ++ Frame kind function offset locals ∷ [])
last_stands first n q front kind function offset locals last s e =
    let passed = last_passes first n function offset locals q e in
    let end = Frame kind function offset locals ∷ [] in
    let all : locals ≡ length s.values = passed.all ∙ sym s.count in
    let same : end ≡ Frame 255 0 0 (length s.values) ∷ [] = λ i. Frame (last i) (passed.no_function i) (passed.no_offset i) (all i) ∷ [] in
    let next : InWhole first (front ++ end) = record {
      entries = s.entries;
      globals = s.values;
      kinds = s.kinds;
      kind_is = s.kind_is;
      are = ap (λ (cs : List CollectorCall). cs ++ end) s.are ∙ behind (flat_map entry_calls s.entries) (map value_call s.values) (Frame kind function offset locals)
          ∙ ap (λ (cs : List CollectorCall). flat_map entry_calls s.entries ++ (map value_call s.values ++ cs)) same;
    } in
    subst (λ (r : Progress). Stands r (front ++ end)) passed.gives next

-- ---- a call more

closes : (first n : ℕ) (q : Progress) (front : List CollectorCall) (kind function offset locals : ℕ) (zero last : Bool) → (kind == 0) ≡ zero → (kind == 255) ≡ last → InLater first n front
    → (if zero then with_later first n locals else (if last then with_last first n function offset locals else None)) ≡ Some q → Stands q (front ++ Frame kind function offset locals ∷ [])
closes first n q front kind function offset locals true last z l s e = later_stands first n q front kind function offset locals (eqb-true kind 0 z) s e
closes first n q front kind function offset locals false true z l s e = last_stands first n q front kind function offset locals (eqb-true kind 255 l) s e
closes first n q front kind function offset locals false false z l s e = absurd (cc)

frame_stands : (p q : Progress) (front : List CollectorCall) (kind function offset locals : ℕ) → Stands p front → with_frame p kind function offset locals ≡ Some q → Stands q (front ++ Frame kind function offset locals ∷ [])
frame_stands (First n) q front kind function offset locals s e = first_stands n q front kind function offset locals s e
frame_stands (Later first n) q front kind function offset locals s e = closes first n q front kind function offset locals (kind == 0) (kind == 255) refl refl s e
frame_stands (Whole first) q front kind function offset locals s e = absurd (cc)

call_stands : (p q : Progress) (front : List CollectorCall) (c : CollectorCall) → Stands p front → with_call p c ≡ Some q → Stands q (front ++ c ∷ [])
call_stands p q front (ValueI32 n) s e = value_stands p q front (values.I32 n) s e
call_stands p q front (ValueI64 n) s e = value_stands p q front (values.I64 n) s e
call_stands p q front (Frame kind function offset locals) s e = frame_stands p q front kind function offset locals s e

-- so many calls, with room for those that have to come
pub record HasCome (count : ℕ) (p : Progress) (front : List CollectorCall) : Type 0 where
  pub count_is : length front ≡ count
  pub stands : Stands p front
  pub room : count + missing p ≤ 134217728

pub has_come : (count : ℕ) (p q : Progress) (front : List CollectorCall) (c : CollectorCall) → HasCome count p front → stepped count p c ≡ Some q → HasCome (count + 1) q (front ++ c ∷ [])
has_come count p q front c h e =
    let passed = room_passes (count + 1) (with_call p c) q e in
    record {
      count_is = omega (arith, length-append front (c ∷ []), h.count_is);
      stands = call_stands p q front c h.stands passed.is;
      room = passed.room;
    }

pub none_came : HasCome 0 (First 0) []
none_came = record { count_is = refl; stands = record { values = []; count = refl; are = refl }; room = omega arith }

-- ---- what has come begins a whole list

first_begins : (count n : ℕ) (front : List CollectorCall) → length front ≡ count → InFirst n front → count + 2 ≤ 134217728 → BeginsWhole front
first_begins count n front len s room =
    let entry : Entry = record { kind = 1; shown = record { function = 0; offset = 0; locals = []; operands = s.values } } in
    let more : List CollectorCall = Frame 1 0 0 0 ∷ Frame 255 0 0 0 ∷ [] in
    let are : front ++ more ≡ calls_of (entry ∷ []) [] =
    ap (λ (cs : List CollectorCall). cs ++ more) s.are
    ∙ sym (append_assoc (map value_call s.values) (Frame 1 0 0 0 ∷ []) (Frame 255 0 0 0 ∷ []))
    ∙ ap (λ (vs : List Value). (map value_call vs ++ Frame 1 0 0 0 ∷ []) ++ Frame 255 0 0 0 ∷ []) (sym (append-nil s.values))
    ∙ ap (λ (cs : List CollectorCall). cs ++ Frame 255 0 0 0 ∷ []) (sym (append-nil (entry_calls entry)))
    in
    let few : length (front ++ more) ≤ 134217728 = omega (arith, length-append front more, len) in
    (more, record { kind = 1; entries = entry ∷ []; globals = []; calls_are = are; kinds = (refl, tt); kind_is = (omega arith, omega arith); few = few })

later_begins : (count kind n : ℕ) (front : List CollectorCall) → length front ≡ count → InLater kind n front → count + 1 ≤ 134217728 → BeginsWhole front
later_begins count kind n front len s room =
    let more : List CollectorCall = Frame 255 0 0 (length s.values) ∷ [] in
    let are : front ++ more ≡ calls_of s.entries s.values =
    ap (λ (cs : List CollectorCall). cs ++ more) s.are ∙ behind (flat_map entry_calls s.entries) (map value_call s.values) (Frame 255 0 0 (length s.values))
    in
    let few : length (front ++ more) ≤ 134217728 = omega (arith, length-append front more, len) in
    (more, record { kind = kind; entries = s.entries; globals = s.values; calls_are = are; kinds = s.kinds; kind_is = s.kind_is; few = few })

abbrev pub whole_is : (count kind : ℕ) (front : List CollectorCall) → length front ≡ count → InWhole kind front → count + 0 ≤ 134217728 → IsWhole front
whole_is count kind front len s room =
    record { kind = kind; entries = s.entries; globals = s.globals; calls_are = s.are; kinds = s.kinds; kind_is = s.kind_is; few = omega (arith, len, room) }

whole_begins : (front : List CollectorCall) → IsWhole front → BeginsWhole front
whole_begins front w = ([], subst IsWhole (sym (append-nil front)) w)

begins_at : (count : ℕ) (p : Progress) (front : List CollectorCall) → length front ≡ count → Stands p front → count + missing p ≤ 134217728 → BeginsWhole front
begins_at count (First n) front len s room = first_begins count n front len s room
begins_at count (Later kind n) front len s room = later_begins count kind n front len s room
begins_at count (Whole kind) front len s room = whole_begins front (whole_is count kind front len s room)

pub begins : (count : ℕ) (p : Progress) (front : List CollectorCall) → HasCome count p front → BeginsWhole front
begins count p front h = begins_at count p front h.count_is h.stands h.room
