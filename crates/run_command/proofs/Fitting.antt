-- The record of a run.
use Rattle.std.proofs.Common.{◌≡◌, ℕ, zero, suc, ◌+◌, ◌-◌, ◌≤◌, Bool, List, [], ◌∷◌, ◌++◌, length, map, take, refl, sym, ap, ◌∙◌, append_assoc, arith, subst, inl, inr, Option, Some, None, Result, Ok, Err}
use Rattle.std.specs.Prelude.{All, IfOk, ◌<◌, get_or, slice_get}
use Rattle.std.specs.Option.{option_map}
use Rattle.std.specs.Result.{IsErr}
use Rattle.causes.specs.declared.NoMemory.{NoMemory as WantOfMemory}
use Rattle.pm_outside.specs.Contents.{Contents}
use Rattle.std.proofs.Math.Seq.{take-append_seam}
use Rattle.std.proofs.lemmas.List.{append-nil, length-append, length-map, take-map}
use Rattle.std.proofs.lemmas.List.Elements.{All-more}
use Rattle.wasm_syntax.specs.declared.host.Reply.{Reply}
use Rattle.wasm_syntax.specs.declared.host.Served.{Served}
use Rattle.wasm_syntax.specs.Run.{Outcome, not_started, finished, trapped, lacks_reply, misfits, running, got_stuck, Ran}
use Rattle.host_devices.specs.Given.{replies_of, unfitting}
use Rattle.commands.specs.Told.{UnlessFault}
use Rattle.commands.specs.Texts.{file_fault}
use Rattle.commands.specs.declared.outcome.Outcome.{Outcome as Answer}
use Rattle.commands.specs.declared.status.Status.{Status}
use Rattle.commands.specs.declared.status.Status.TheVariants as status
use Rattle.commands.proofs.Unless.{OnAnswer, unless}
use Rattle.pm_outside.specs.declared.answers.WriteAnswer.{WriteAnswer}
use Rattle.pm_outside.specs.Written.{OnTold, HasFile, Leaves}
use Rattle.run_session.specs.RunText.{last_of, fitted}
use Rattle.run_session.specs.Stop.{Stop, no_memory, file_failed, IsFileFault, OnStop}
use Rattle.pm_outside.specs.Held.{Writes, HoldThen, HoldPart}
use Rattle.run_session.specs.Given.{given_in, given_to}
use Rattle.run_session.specs.calls.Sessions.{is_misfit}
use Rattle.host_replies.specs.Record.{IsReplyTyped, record_text, reply_line}
use Rattle.host_replies.proofs.RecordLines.{record_back}
use Rattle.pm_outside.proofs.Held.{one_held, none_held, front_left, front_part, no_part, one_few}
use Rattle.run_command.specs.Recorded.{record_file, served_in, IsReadBack}
use Rattle.run_command.specs.inner.Recording.{Behind, Records, fitting, misfits_in}

one_misfit : (o : Outcome) → length (unfitting o) ≡ misfits_in (is_misfit o)
one_misfit (misfits call reply) = refl
one_misfit (not_started cause) = refl
one_misfit (finished v) = refl
one_misfit (trapped kind) = refl
one_misfit (lacks_reply call) = refl
one_misfit running = refl
one_misfit got_stuck = refl

served_count : (rans : List Ran) → length (served_in rans) ≡ fitted rans
served_count [] = refl
served_count (r ∷ rs) = length-append r.served (served_in rs) ∙ ap (λ n. length r.served + n) (served_count rs)

same_last : (q r : Ran) → last_of (q ∷ []) ≡ Some r → q ≡ r
same_last q r is = ap (λ (o : Option Ran). elim o [ None ↦ q | Some x ↦ x ]) is

-- as many were given as fitted, and the one that did not
at_least : (rans : List Ran) (r : Ran) → last_of rans ≡ Some r → fitted rans + length (unfitting r.outcome) ≤ length (given_in rans)
at_least [] r is = absurd cc
at_least (q ∷ []) r is =
    let same : length (unfitting q.outcome) ≡ length (unfitting r.outcome) = ap (λ (x : Ran). length (unfitting x.outcome)) (same_last q r is) in
    omega (arith, same, length-append (given_to q) [], length-append q.served (unfitting q.outcome))
at_least (q ∷ p ∷ rs) r is = omega (arith, at_least (p ∷ rs) r is, length-append (given_to q) (given_in (p ∷ rs)), length-append q.served (unfitting q.outcome))

none_there : (xs : List Served) → length xs ≡ 0 → xs ≡ []
none_there [] e = refl
none_there (x ∷ xs) e = absurd (omega arith)

-- only the last one may have a reply that does not fit
given_split : (rans : List Ran) (r : Ran) → last_of rans ≡ Some r → length (given_in rans) ≡ fitted rans + length (unfitting r.outcome) → given_in rans ≡ served_in rans ++ unfitting r.outcome
given_split [] r is count = absurd cc
given_split (q ∷ []) r is count =
    append-nil (given_to q) ∙ ap (λ (x : Ran). q.served ++ unfitting x.outcome) (same_last q r is) ∙ ap (λ l. l ++ unfitting r.outcome) (sym (append-nil q.served))
given_split (q ∷ p ∷ rs) r is count =
    let few = at_least (p ∷ rs) r is in
    let all = length-append (given_to q) (given_in (p ∷ rs)) in
    let own = length-append q.served (unfitting q.outcome) in
    let none : unfitting q.outcome ≡ [] = none_there (unfitting q.outcome) (omega (arith, few, all, own, count)) in
    let others : length (given_in (p ∷ rs)) ≡ fitted (p ∷ rs) + length (unfitting r.outcome) = omega (arith, few, all, own, count) in
    ap (λ l. (q.served ++ l) ++ given_in (p ∷ rs)) none ∙ ap (λ l. l ++ given_in (p ∷ rs)) (append-nil q.served)
    ∙ ap (λ l. q.served ++ l) (given_split (p ∷ rs) r is others) ∙ sym (append_assoc q.served (served_in (p ∷ rs)) (unfitting r.outcome))

map_both : (xs : List (List ℕ × Served)) → map (λ (s : List ℕ × Served). s.1.reply) xs ≡ replies_of (map (λ (s : List ℕ × Served). s.1) xs)
map_both [] = refl
map_both (x ∷ xs) = ap (λ rs. x.1.reply ∷ rs) (map_both xs)

-- those that are recorded are those that fitted
pub fitting_served : (rans : List Ran) (r : Ran) (given : List Served) (served : List (List ℕ × Served)) (bad : Bool) → given ≡ given_in rans → last_of rans ≡ Some r → length given ≡ fitted rans + length (unfitting r.outcome)
    → is_misfit r.outcome ≡ bad → map (λ (s : List ℕ × Served). s.1) served ≡ given → fitting bad served ≡ replies_of (served_in rans)
fitting_served rans r given served bad all is count misfit shown =
    let long : length served ≡ length given = sym (length-map served (λ (s : List ℕ × Served). s.1)) ∙ ap (λ l. length l) shown in
    let one : length (unfitting r.outcome) ≡ misfits_in bad = one_misfit r.outcome ∙ ap misfits_in misfit in
    let counted : length served - misfits_in bad ≡ length (served_in rans) = omega (arith, served_count rans, long, one, count) in
    let split : given ≡ served_in rans ++ unfitting r.outcome = all ∙ given_split rans r is (sym (ap (λ l. length l) all) ∙ count) in
    map_both (take (length served - misfits_in bad) served)
    ∙ ap replies_of (sym (take-map (λ (s : List ℕ × Served). s.1) (length served - misfits_in bad) served))
    ∙ ap (λ l. replies_of (take (length served - misfits_in bad) l)) (shown ∙ split)
    ∙ ap (λ k. replies_of (take k (served_in rans ++ unfitting r.outcome))) counted
    ∙ ap replies_of (take-append_seam (served_in rans) (unfitting r.outcome))

-- ---- the text

abbrev reply_of : (List ℕ × Served) → Reply
reply_of s = s.1.reply

lines_more : (xs : List (List ℕ × Served)) (i : ℕ) (r : Reply) → option_map reply_of (slice_get xs i) ≡ Some r → record_text (map reply_of (take i xs)) ++ reply_line r ≡ record_text (map reply_of (take (i + 1) xs))
lines_more [] i r there = absurd cc
lines_more (x ∷ xs) zero r there =
    let same : r ≡ reply_of x = cc in
    ap reply_line same ∙ sym (append-nil (reply_line (reply_of x)))
lines_more (x ∷ xs) (suc i) r there =
    let next : suc (i + 1) ≡ suc i + 1 = omega arith in
    append_assoc (reply_line (reply_of x)) (record_text (map reply_of (take i xs))) (reply_line r)
    ∙ ap (λ t. reply_line (reply_of x) ++ t) (lines_more xs i r there)
    ∙ ap (λ n. record_text (map reply_of (take n (x ∷ xs)))) next

-- one line more
pub one_reply_more : (xs : List (List ℕ × Served)) (i : ℕ) (r : Reply) (text : List ℕ) → option_map reply_of (slice_get xs i) ≡ Some r → text ≡ record_text (map reply_of (take i xs))
    → text ++ reply_line r ≡ record_text (map reply_of (take (i + 1) xs))
one_reply_more xs i r text there is = ap (λ t. t ++ reply_line r) is ∙ lines_more xs i r there

-- ---- the types of its replies

at_reply : (xs : List (List ℕ × Served)) (i : ℕ) (d : List ℕ × Served) (r : Reply) → option_map reply_of (slice_get xs i) ≡ Some r → r ≡ reply_of (get_or xs i d)
at_reply [] i d r there = absurd cc
at_reply (x ∷ xs) zero d r there = cc
at_reply (x ∷ xs) (suc i) d r there = at_reply xs i d r there

-- one reply more
pub one_typed_more : (xs : List (List ℕ × Served)) (i : ℕ) (r : Reply) → option_map reply_of (slice_get xs i) ≡ Some r → i < length xs → All (λ s. IsReplyTyped (reply_of s)) (take i xs) → IsReplyTyped r
    → All (λ s. IsReplyTyped (reply_of s)) (take (i + 1) xs)
one_typed_more [] i r there few so_far typed = absurd cc
one_typed_more (x ∷ xs) i r there few so_far typed = All-more (λ s. IsReplyTyped (reply_of s)) (x ∷ xs) i x few so_far (subst IsReplyTyped (at_reply (x ∷ xs) i x r there) typed)

text_of : (served : List (List ℕ × Served)) (bad : Bool) (count : ℕ) (text : List ℕ) → count ≡ length served - misfits_in bad → text ≡ record_text (map reply_of (take count served)) → text ≡ record_text (fitting bad served)
text_of served bad count text counted is = is ∙ ap (λ n. record_text (map reply_of (take n served))) counted

-- ---- the file

module _ (file bytes text : List ℕ) (served : List (List ℕ × Served)) (bad : Bool) (count : ℕ) (counted : count ≡ length served - misfits_in bad) (is : text ≡ record_text (map reply_of (take count served))) (spelled : bytes ≡ text) (mid new : Option Contents) where
  same_bytes : bytes ≡ record_text (fitting bad served)
  same_bytes = spelled ∙ text_of served bad count text counted is

  read_so : All IsReplyTyped (map reply_of (take count served)) → IsReadBack (Some file) (fitting bad served)
  read_so typed = subst (λ n. IsReadBack (Some file) (map reply_of (take n served))) counted (record_back (map reply_of (take count served)) typed)

  pub record_whole : (rose : Type 0) (o : Answer) → All IsReplyTyped (map reply_of (take count served)) → OnTold (HasFile file bytes) mid new → (let done : Result Answer WantOfMemory = Ok o in Behind (Some file) (fitting bad served) rose o done mid new)
  record_whole rose o typed has = inl (refl, subst (λ b. OnTold (HoldThen ((file, b) ∷ [])) mid new) same_bytes (one_held file bytes mid new has), read_so typed)

  pub record_part : (a : WriteAnswer) → OnTold (Leaves file bytes a) mid new → OnTold (HoldPart (record_file (Some file) (fitting bad served))) mid new
  record_part a x = front_part file (record_text (fitting bad served)) mid new (front_left file bytes (record_text (fitting bad served)) a mid new same_bytes x)

  pub record_failed : (rose : Type 0) (o : Answer) (result : Result Answer WantOfMemory) (a : WriteAnswer) → IfOk result (λ q. q ≡ file_fault file) → rose → OnTold (Leaves file bytes a) mid new
      → Behind (Some file) (fitting bad served) rose o result mid new
  record_failed rose o (Ok q) a named rise x = inr (file, refl, named, rise, record_part a x)
  record_failed rose o (Err e) a named rise x = record_part a x

-- memory was wanting before it was made
pub record_wanting : (file : List ℕ) (replies : List Reply) (rose : Type 0) (o : Answer) (told : Option Contents) (result : Result Answer WantOfMemory) → IsErr result → Behind (Some file) replies rose o result told told
record_wanting file replies rose o told (Err e) is = no_part (record_file (Some file) replies) told one_few
record_wanting file replies rose o told (Ok q) is = absurd cc

-- none is asked for
pub none_recorded : (replies : List Reply) (rose : Type 0) (o : Answer) (told : Option Contents) → (let done : Result Answer WantOfMemory = Ok o in Behind None replies rose o done told told)
none_recorded replies rose o told = inl (refl, none_held told, tt)

-- ---- behind the answer of a run

of_fault : (o : Answer) (P : Type 0) → o.status ≡ status.FileFault → UnlessFault o.status P
of_fault o P faulted = subst (λ s. UnlessFault s P) (sym faulted) tt

-- what is known of an answer that is no fault
known : (s : Status) (P : Type 0) → (s ≡ status.FileFault → ⊥) → (s ≡ status.NoMemory → ⊥) → UnlessFault s P → P
known status.FileFault P some enough x = absurd (some refl)
known status.NoMemory P some enough x = absurd (enough refl)
known status.Done P some enough x = x
known status.Trapped P some enough x = x
known status.Usage P some enough x = x
known status.NoFile P some enough x = x
known status.Malformed P some enough x = x
known status.Outside P some enough x = x
known status.Invalid P some enough x = x
known status.NotStarted P some enough x = x
known status.HostStopped P some enough x = x
known status.FuelSpent P some enough x = x
known status.BadDump P some enough x = x
known status.Mismatch P some enough x = x
known status.Limit P some enough x = x
known status.Collision P some enough x = x
known status.TornCalls P some enough x = x
known status.BadReplies P some enough x = x

module _ (to : Option (List ℕ)) (replies : List Reply) (rose : Type 0) (mid new : Option Contents) where
  abbrev own : Writes
  own = record_file to replies

  behind_answer : (P Q : Answer → Type 0) (o : Answer) (result : Result Answer WantOfMemory) → ((x : Answer) → P x → OnTold (HoldThen own) mid new → IsReadBack to replies → Q x) → UnlessFault o.status (P o) → Behind to replies rose o result mid new → OnAnswer Q result
  behind_answer P Q o (Ok q) go x (inl (same, held, back)) = subst (λ (y : Answer). UnlessFault y.status (Q y)) (sym same) (unless o.status (P o) (Q o) (λ p. go o p held back) x)
  behind_answer P Q o (Ok q) go x (inr (file, asked, named, rise, part)) = subst (λ (y : Answer). UnlessFault y.status (Q y)) (sym named) tt
  behind_answer P Q o (Err e) go x part = tt

  -- the answer of the run, with the record
  pub recorded_answer : (P Q : Answer → Type 0) (ran result : Result Answer WantOfMemory) → ((x : Answer) → P x → OnTold (HoldThen own) mid new → IsReadBack to replies → Q x) → OnAnswer P ran → Records to replies rose ran result mid new → OnAnswer Q result
  recorded_answer P Q (Err e) result go x (is, same) = subst (λ r. OnAnswer Q r) (sym is) tt
  recorded_answer P Q (Ok o) result go x (inl (faulted, is, same)) = subst (λ r. OnAnswer Q r) (sym is) (of_fault o (Q o) faulted)
  recorded_answer P Q (Ok o) result go x (inr (some, behind)) = behind_answer P Q o result go x behind

  module _ (S T : Stop → Type 0) where
    behind_stops : (P : Type 0) (o : Answer) (result : Result Answer WantOfMemory) → (OnTold (HoldPart own) mid new → T no_memory × ((file : List ℕ) → to ≡ Some file → T (file_failed file)))
        → (o.status ≡ status.FileFault → ⊥) → Behind to replies rose o result mid new → OnStop T result
    behind_stops P o (Ok q) left some (inl (same, held, back)) = λ faulted. absurd (some (sym (ap (λ (x : Answer). x.status) same) ∙ faulted))
    behind_stops P o (Ok q) left some (inr (file, asked, named, rise, part)) = λ faulted. let k = left part in record { file = file; named = named; failed = k.1 file asked; memory = k.0 }
    behind_stops P o (Err e) left some part = (left part).0

    -- what is left where there is no answer
    pub recorded_stops : (P : Answer → Type 0) (ran result : Result Answer WantOfMemory) → ((stop : Stop) → new ≡ mid → S stop → T stop)
        → ((o : Answer) → P o → OnTold (HoldPart own) mid new → T no_memory × ((file : List ℕ) → to ≡ Some file → T (file_failed file)))
        → OnAnswer P ran → IfOk ran (λ o. o.status ≡ status.NoMemory → ⊥) → OnStop S ran → Records to replies rose ran result mid new → OnStop T result
    recorded_stops P (Err e) result go left x enough stops (is, same) = subst (λ r. OnStop T r) (sym is) (go no_memory same stops)
    recorded_stops P (Ok o) result go left x enough stops (inl (faulted, is, same)) = subst (λ r. OnStop T r) (sym is) (λ again.
        let k : IsFileFault S o = stops faulted in
        record { file = k.file; named = k.named; failed = go (file_failed k.file) same k.failed; memory = go no_memory same k.memory })
    recorded_stops P (Ok o) result go left x enough stops (inr (some, behind)) = behind_stops (P o) o result (left o (known o.status (P o) some enough x)) some behind

  pub recorded_fault : (R : Type 0) (ran result : Result Answer WantOfMemory) → (rose → R) → IfOk ran (λ o. o.status ≡ status.FileFault → R) → Records to replies rose ran result mid new → IfOk result (λ o. o.status ≡ status.FileFault → R)
  recorded_fault R (Err e) result go x (is, same) = subst (λ r. IfOk r (λ o. o.status ≡ status.FileFault → R)) (sym is) tt
  recorded_fault R (Ok o) result go x (inl (faulted, is, same)) = subst (λ r. IfOk r (λ o. o.status ≡ status.FileFault → R)) (sym is) x
  recorded_fault R (Ok o) (Ok q) go x (inr (some, inl (same, held, back))) = λ faulted. absurd (some (sym (ap (λ (y : Answer). y.status) same) ∙ faulted))
  recorded_fault R (Ok o) (Ok q) go x (inr (some, inr (file, asked, named, rise, part))) = λ faulted. go rise
  recorded_fault R (Ok o) (Err e) go x (inr (some, part)) = tt
