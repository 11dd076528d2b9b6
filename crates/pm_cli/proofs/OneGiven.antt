-- Logs and script fix which replies were given, of all lists on which a run is given the whole list.
use Rattle.std.proofs.Common.{◌≡◌, ℕ, ◌+◌, List, [], ◌∷◌, ◌++◌, length, cond, Option, Some, refl, sym, ap, subst, ◌∙◌, arith, append_assoc, inl, inr}
use Rattle.std.specs.Prelude.{Bool, true, false, not, filter, bytes_eq, unwrap_or}
use Rattle.std.proofs.lemmas.List.{append-nil, length-append, length-map, map-append}
use Rattle.std.proofs.lemmas.List.Elements.{filter-append}
use Rattle.std.proofs.lemmas.Slice.Eq.{bytes_eq-Decides}
use Rattle.wasm_syntax.specs.declared.parts.Import.{Import}
use Rattle.wasm_syntax.specs.declared.host.HostCall.{HostCall}
use Rattle.wasm_syntax.specs.declared.host.Reply.{Reply}
use Rattle.wasm_syntax.specs.declared.host.Served.{Served}
use Rattle.wasm_syntax.specs.Run.{Outcome, lacks_reply, Ran}
use Rattle.host_devices.specs.Given.{replies_of}
use Rattle.wasm_syntax.specs.declared.module.ModuleParts.{ModuleParts as Module}
use Rattle.host_set.specs.Sets.{DeviceState, names, is_named, log_of}
use Rattle.run_session.specs.Given.{given_in, module_of, from_module}
use Rattle.run_session.specs.RunText.{last_of}
use Rattle.run_command.specs.Hosting.{scripted}
use Rattle.run_command.specs.RunAnswer.{Logs}
use Rattle.pm_cli.proofs.NextGiven.{LastMoves, Next, Lacks, taking}
use Rattle.pm_text.proofs.Lists.{some_is}

-- ---- lists

-- what stands behind a common front
pub same_behind : {A : Type 0} (xs ys zs : List A) → xs ++ ys ≡ xs ++ zs → ys ≡ zs
same_behind [] ys zs e = e
same_behind (x ∷ xs) ys zs e = same_behind xs ys zs (ap (λ l. elim l [ [] ↦ xs ++ ys | y ∷ more ↦ more ]) e)

first_is : {A : Type 0} (a b : A) (xs ys : List A) → a ∷ xs ≡ b ∷ ys → a ≡ b
first_is a b xs ys e = ap (λ l. elim l [ [] ↦ a | y ∷ more ↦ y ]) e

-- at the place behind fronts of one length
same_at : {A : Type 0} (xs ys : List A) (a b : A) (more others : List A) → length xs ≡ length ys → xs ++ a ∷ more ≡ ys ++ b ∷ others → a ≡ b
same_at [] [] a b more others same e = first_is a b more others e
same_at [] (y ∷ ys) a b more others same e = absurd (omega (arith, same))
same_at (x ∷ xs) [] a b more others same e = absurd (omega (arith, same))
same_at (x ∷ xs) (y ∷ ys) a b more others same e =
    same_at xs ys a b more others (omega (arith, same)) (ap (λ l. elim l [ [] ↦ xs ++ a ∷ more | z ∷ zs ↦ zs ]) e)

-- a test keeps this one
kept : {A : Type 0} (p : A → Bool) (xs : List A) (s : A) (ys : List A) → p s ≡ true → filter p (xs ++ s ∷ ys) ≡ filter p xs ++ s ∷ filter p ys
kept p xs s ys e = filter-append p xs (s ∷ ys) ∙ ap (λ b. filter p xs ++ cond b (s ∷ filter p ys) (filter p ys)) e

not_longer : {A : Type 0} (xs : List A) (a : A) (more : List A) → xs ≡ xs ++ a ∷ more → ⊥
not_longer xs a more e = omega (arith, ap length e, length-append xs (a ∷ more))

served_is : (s t : Served) → s.call ≡ t.call → s.reply ≡ t.reply → s ≡ t
served_is s t call reply = λ i. record { call = call i; reply = reply i }

-- ---- by logs and script

-- devices and script gave both lists
pub record Fixed (names : List (List ℕ)) (imports : List Import) (script : List Reply) (given other : List Served) (left : List Reply) : Type 0 where
  pub logs : (name : List ℕ) → is_named names name ≡ true → from_module imports name given ≡ from_module imports name other
  pub others_left : List Reply
  pub by_script : script ≡ replies_of (scripted names imports given) ++ left
  pub others_script : script ≡ replies_of (scripted names imports other) ++ others_left

module _ (names : List (List ℕ)) (imports : List Import) (script : List Reply) (given other : List Served) (left : List Reply) (k : Fixed names imports script given other left) where
  abbrev caller : Served → List ℕ
  caller s = module_of imports s.call.import

  abbrev from : List ℕ → Served → Bool
  from name s = bytes_eq (caller s) name

  abbrev by_none : Served → Bool
  by_none s = not (is_named names (caller s))

  itself : (name : List ℕ) → bytes_eq name name ≡ true
  itself name = (bytes_eq-Decides name name).1 refl

  -- the replies of the script, behind those to these calls
  scripted_at : (xs ys : List Served) (s : Served) (rest : List Reply) → by_none s ≡ true → replies_of (scripted names imports (xs ++ s ∷ ys)) ++ rest ≡ replies_of (filter by_none xs) ++ s.reply ∷ (replies_of (filter by_none ys) ++ rest)
  scripted_at xs ys s rest e =
      ap (λ l. replies_of l ++ rest) (kept by_none xs s ys e)
      ∙ ap (λ l. l ++ rest) (map-append (λ (x : Served). x.reply) (filter by_none xs) (s ∷ filter by_none ys))
      ∙ append_assoc (replies_of (filter by_none xs)) (s.reply ∷ replies_of (filter by_none ys)) rest

  -- the next replies to one call are one
  next_same : (xs ys zs : List Served) (s t : Served) → given ≡ xs ++ s ∷ ys → other ≡ xs ++ t ∷ zs → s.call ≡ t.call → s ≡ t
  next_same xs ys zs s t one two call = by_name (is_named names (caller s)) refl
    where
      same_caller : caller s ≡ caller t
      same_caller = ap (λ (c : HostCall). module_of imports c.import) call

      by_name : (b : Bool) → is_named names (caller s) ≡ b → s ≡ t
      by_name true e =
          let there : filter (from (caller s)) xs ++ s ∷ filter (from (caller s)) ys ≡ filter (from (caller s)) xs ++ t ∷ filter (from (caller s)) zs =
          sym (kept (from (caller s)) xs s ys (itself (caller s))) ∙ ap (λ l. from_module imports (caller s) l) (sym one) ∙ k.logs (caller s) e ∙ ap (λ l. from_module imports (caller s) l) two
          ∙ kept (from (caller s)) xs t zs (ap (λ name. bytes_eq name (caller s)) (sym same_caller) ∙ itself (caller s))
          in
          first_is s t _ _ (same_behind (filter (from (caller s)) xs) _ _ there)
      by_name false e =
          let none_s : by_none s ≡ true = ap not e in
          let none_t : by_none t ≡ true = ap (λ name. not (is_named names name)) (sym same_caller) ∙ none_s in
          let there : replies_of (filter by_none xs) ++ s.reply ∷ (replies_of (filter by_none ys) ++ left) ≡ replies_of (filter by_none xs) ++ t.reply ∷ (replies_of (filter by_none zs) ++ k.others_left) =
          sym (scripted_at xs ys s left none_s) ∙ ap (λ l. replies_of (scripted names imports l) ++ left) (sym one) ∙ sym k.by_script ∙ k.others_script
          ∙ ap (λ l. replies_of (scripted names imports l) ++ k.others_left) two ∙ scripted_at xs zs t k.others_left none_t
          in
          served_is s t call (first_is s.reply t.reply _ _ (same_behind (replies_of (filter by_none xs)) _ _ there))

  -- a list that ends for want of a reply is not the front of another one
  no_more : (xs zs : List Served) (t : Served) → given ≡ xs → other ≡ xs ++ t ∷ zs → (is_named names (caller t) ≡ false → left ≡ []) → ⊥
  no_more xs zs t one two used_up = by_name (is_named names (caller t)) refl
    where
      by_name : (b : Bool) → is_named names (caller t) ≡ b → ⊥
      by_name true e =
          not_longer (filter (from (caller t)) xs) t (filter (from (caller t)) zs)
          (ap (λ l. from_module imports (caller t) l) (sym one) ∙ k.logs (caller t) e ∙ ap (λ l. from_module imports (caller t) l) two ∙ kept (from (caller t)) xs t zs (itself (caller t)))
      by_name false e =
          not_longer (replies_of (filter by_none xs)) t.reply (replies_of (filter by_none zs) ++ k.others_left)
          (sym (append-nil (replies_of (filter by_none xs))) ∙ ap (λ l. replies_of (filter by_none xs) ++ l) (sym (used_up e)) ∙ ap (λ l. replies_of (scripted names imports l) ++ left) (sym one) ∙ sym k.by_script ∙ k.others_script
          ∙ ap (λ l. replies_of (scripted names imports l) ++ k.others_left) two ∙ scripted_at xs zs t k.others_left (ap not e))

-- the same of both lists in the other order
abbrev turned : (names : List (List ℕ)) (imports : List Import) (script : List Reply) (given other : List Served) (left : List Reply) (k : Fixed names imports script given other left) → Fixed names imports script other given k.others_left
turned names imports script given other left k = record { logs = λ name e. sym (k.logs name e); others_left = left; by_script = k.others_script; others_script = k.by_script }

-- ---- two runs

-- the call for which a reply is lacking
abbrev called_in : HostCall → Outcome → HostCall
called_in d (lacks_reply call) = call
called_in d _ = d

-- a run by its replies, of which more are taken in order
abbrev pub IsRun : (List Reply → List Ran) → Type 0
IsRun go = (replies more : List Reply) → Next more (length replies) (go replies) (go (replies ++ more))

-- where the last invocation lacks a reply that no device has to give, none is left
abbrev pub UsesAll : List (List ℕ) → List Import → (left : List Reply) → List Ran → Type 0
UsesAll names imports left rs = (at : Ran) (call : HostCall) → last_of rs ≡ Some at → at.outcome ≡ lacks_reply call → is_named names (module_of imports call.import) ≡ false → left ≡ []

-- a run on these replies was given all of them
pub record GivesAll (go : List Reply → List Ran) (names : List (List ℕ)) (imports : List Import) (given : List Served) (left : List Reply) : Type 0 where
  pub all : given ≡ given_in (go (replies_of given))
  pub moves : LastMoves (go (replies_of given))
  pub used_up : UsesAll names imports left (go (replies_of given))

module _ (go : List Reply → List Ran) (is_run : IsRun go) (names : List (List ℕ)) (imports : List Import) (script : List Reply) where
  -- what a list is behind its front
  next_of : (given xs ys : List Served) (left : List Reply) → GivesAll go names imports given left → given ≡ xs ++ ys → Next (replies_of ys) (length (replies_of xs)) (go (replies_of xs)) (go (replies_of given))
  next_of given xs ys left g is =
      subst (λ l. Next (replies_of ys) (length (replies_of xs)) (go (replies_of xs)) (go l)) (sym (ap replies_of is ∙ map-append (λ (x : Served). x.reply) xs ys)) (is_run (replies_of xs) (replies_of ys))

  length_replies : (xs : List Served) → length (replies_of xs) ≡ length xs
  length_replies xs = length-map xs (λ (x : Served). x.reply)

  -- the next one is for the call that lacks a reply
  asked_next : (given xs ys : List Served) (s : Served) (left : List Reply) (g : GivesAll go names imports given left) → given ≡ xs ++ s ∷ ys → (x : Lacks (replies_of (s ∷ ys)) (length (replies_of xs)) (go (replies_of xs)) (go (replies_of given))) → s.call ≡ x.call
  asked_next given xs ys s left g is x =
      let t = x.takes s.reply (replies_of ys) refl g.moves in
      ap (λ (z : Served). z.call) (same_at xs (given_in (go (replies_of xs))) s (taking x.call s.reply) ys t.0 (omega (arith, length_replies xs, x.count)) (sym is ∙ g.all ∙ t.1))

  -- one list is not longer than its run on a front of it that lacks no reply
  same_length : (given xs ys : List Served) (s : Served) (n : ℕ) → given ≡ xs ++ s ∷ ys → length given ≡ length xs → ⊥
  same_length given xs ys s n is e = omega (arith, ap length is, length-append xs (s ∷ ys), e)

  -- the first list ends, and the second one does not
  ends_first : (given other : List Served) (left : List Reply) (k : Fixed names imports script given other left) → GivesAll go names imports given left → GivesAll go names imports other k.others_left
      → (xs zs : List Served) (t : Served) → given ≡ xs → other ≡ xs ++ t ∷ zs → given ≡ other
  ends_first given other left k g h xs zs t one two = by (next_of other xs (t ∷ zs) k.others_left h two)
    where
      here : given ≡ given_in (go (replies_of xs))
      here = g.all ∙ ap (λ l. given_in (go (replies_of l))) one

      by : Next (replies_of (t ∷ zs)) (length (replies_of xs)) (go (replies_of xs)) (go (replies_of other)) → given ≡ other
      by (inl e) = here ∙ sym e ∙ sym h.all
      by (inr x) =
          let call = asked_next other xs zs t k.others_left h two x in
          let last : last_of (go (replies_of given)) ≡ Some x.at = ap (λ l. last_of (go (replies_of l))) one ∙ x.last in
          absurd (no_more names imports script given other left k xs zs t one two
          (λ none. g.used_up x.at x.call last x.outcome (ap (λ (c : HostCall). is_named names (module_of imports c.import)) (sym call) ∙ none)))

  from_front : (given other : List Served) (left : List Reply) (k : Fixed names imports script given other left) → GivesAll go names imports given left → GivesAll go names imports other k.others_left
      → (ys zs xs : List Served) → given ≡ xs ++ ys → other ≡ xs ++ zs → given ≡ other
  from_front given other left k g h [] [] xs one two = one ∙ sym two
  from_front given other left k g h [] (t ∷ zs) xs one two = ends_first given other left k g h xs zs t (one ∙ append-nil xs) two
  from_front given other left k g h (s ∷ ys) [] xs one two =
      sym (ends_first other given k.others_left (turned names imports script given other left k) h g xs ys s (two ∙ append-nil xs) one)
  from_front given other left k g h (s ∷ ys) (t ∷ zs) xs one two =
      by
      (λ same. from_front given other left k g h ys zs (xs ++ s ∷ []) (one ∙ sym (append_assoc xs (s ∷ []) ys)) (two ∙ ap (λ u. xs ++ u ∷ zs) (sym same) ∙ sym (append_assoc xs (s ∷ []) zs)))
      (next_of given xs (s ∷ ys) left g one) (next_of other xs (t ∷ zs) k.others_left h two)
    where
      too_short : (list : List Served) (u : Served) (us : List Served) → list ≡ xs ++ u ∷ us → list ≡ given_in (go (replies_of xs)) → length (given_in (go (replies_of xs))) ≡ length (replies_of xs) → ⊥
      too_short list u us is all count = same_length list xs us u 0 is (ap length all ∙ count ∙ length_replies xs)

      by : (s ≡ t → given ≡ other) → Next (replies_of (s ∷ ys)) (length (replies_of xs)) (go (replies_of xs)) (go (replies_of given)) → Next (replies_of (t ∷ zs)) (length (replies_of xs)) (go (replies_of xs)) (go (replies_of other)) → given ≡ other
      by again (inl e) (inl f) = g.all ∙ e ∙ sym f ∙ sym h.all
      by again (inl e) (inr y) = absurd (too_short given s ys one (g.all ∙ e) y.count)
      by again (inr x) (inl f) = absurd (too_short other t zs two (h.all ∙ f) x.count)
      by again (inr x) (inr y) =
          let at : x.at ≡ y.at = some_is (sym x.last ∙ y.last) in
          let lacks : lacks_reply x.call ≡ lacks_reply y.call = sym x.outcome ∙ ap (λ (r : Ran). r.outcome) at ∙ y.outcome in
          let call : x.call ≡ y.call = ap (called_in x.call) lacks in
          again (next_same names imports script given other left k xs ys zs s t one two (asked_next given xs ys s left g one x ∙ call ∙ sym (asked_next other xs zs t k.others_left h two y)))

  pub one_given : (given other : List Served) (left : List Reply) (k : Fixed names imports script given other left) → GivesAll go names imports given left → GivesAll go names imports other k.others_left → given ≡ other
  one_given given other left k g h = from_front given other left k g h given other [] refl refl

-- ---- by what an answer says

abbrev pub fixed : (before after : List DeviceState) (script : Option (List Reply)) (m : Module) (given other : List Served) (left more : List Reply) → Logs m given before after → Logs m other before after
    → unwrap_or script [] ≡ replies_of (scripted (names before) m.imports given) ++ left → unwrap_or script [] ≡ replies_of (scripted (names before) m.imports other) ++ more
    → Fixed (names before) m.imports (unwrap_or script []) given other left
fixed before after script m given other left more x y one two = record {
  logs = λ name e. same_behind (log_of before name) (from_module m.imports name given) (from_module m.imports name other) (sym (x.logs name e) ∙ y.logs name e);
  others_left = more;
  by_script = one;
  others_script = two;
}
