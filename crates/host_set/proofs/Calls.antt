-- What a call of an import does to a host side.
use Rattle.std.proofs.Common.{◌≡◌, ℕ, zero, suc, ◌+◌, ◌<◌, ◌≤◌, List, [], ◌∷◌, ◌++◌, Bool, true, false, cond, Option, Some, None, refl, sym, ap, ◌∙◌, arith, length, map, take, get_or, set, subst, slice_get}
use Rattle.std.proofs.lemmas.List.{map-append, append-nil, take_at, take_more, length-set, get_or-set_same, get_or_at, length-append}
use Rattle.std.specs.Option.{is_some}
use Rattle.std.specs.Str.{bytes_eq}
use Rattle.wasm_syntax.specs.declared.parts.Import.{Import}
use Rattle.wasm_syntax.specs.declared.host.HostCall.{HostCall}
use Rattle.wasm_syntax.specs.declared.host.Reply.{Reply}
use Rattle.wasm_syntax.specs.declared.host.Served.{Served}
use Rattle.host_devices.specs.calls.Devices.{empty_reply}
use Rattle.host_devices.specs.calls.HostSides.{Origin}
use Rattle.host_devices.specs.declared.device.DeviceAnswer.{DeviceAnswer}
use Rattle.host_devices.specs.declared.device.DeviceAnswer.TheVariants as device
use Rattle.host_devices.specs.declared.host.HostAnswer.{HostAnswer}
use Rattle.host_devices.specs.declared.host.HostAnswer.TheVariants.{Replied, NoReply, Failed, NoMemory}
use Rattle.host_set.specs.declared.entry.Entry.{Entry}
use Rattle.host_set.specs.declared.entry.Entry.TheVariants.{OfDevice, OfScript}
use Rattle.host_set.specs.Sets.{DeviceState, no_device, names, is_named, AreDistinct, IsPlace, IsUnnamed, IsCalled, count_of}
use Rattle.host_set.specs.calls.Hosting.{HostsState, replies_of, serves, no_served, stored_at, served_at, all_served, logs_before, log_named, IsAnswered, IsFailed, seen, Keeps}
use Rattle.host_set.proofs.Names.{same}
use Rattle.host_set.proofs.Sets.{at_place, place_below, named_at, names_set, place_set}
use Rattle.host_set.proofs.Logs.{Grown, entries_kept, inside_push, served_push, untouched, touched, quiet, of_script_push, logged_first}

-- ---- counts of faults

pub count_at : (ds : List DeviceState) (n : List ℕ) (i : ℕ) (x : DeviceState) → IsPlace ds n i → count_of ds n ≡ (get_or ds i x).count
count_at [] n i x h = absurd h
count_at (d ∷ ds) n zero x h = rw h refl
count_at (d ∷ ds) n (suc i) x h = rw h.0 (count_at ds n i x h.1)

by_name : (b : Bool) (x y u v : ℕ) → x ≤ y → u ≤ v → cond b x u ≤ cond b y v
by_name true x y u v h k = h
by_name false x y u v h k = k

counts_same : (ds : List DeviceState) (name : List ℕ) → count_of ds name ≤ count_of ds name
counts_same ds name = omega arith

pub counts_later : (ds : List DeviceState) (n : List ℕ) (i : ℕ) (new x : DeviceState) → IsPlace ds n i → new.name ≡ n → (get_or ds i x).count ≤ new.count → (name : List ℕ) → count_of ds name ≤ count_of (set ds i new) name
counts_later [] n i new x h is later name = absurd h
counts_later (d ∷ ds) n zero new x h is later name =
    let e : new.name ≡ d.name = is ∙ sym (same d.name n h) in
    rw e (by_name (bytes_eq d.name name) d.count new.count (count_of ds name) (count_of ds name) later (counts_same ds name))
counts_later (d ∷ ds) n (suc i) new x h is later name =
    by_name (bytes_eq d.name name) d.count d.count (count_of ds name) (count_of (set ds i new) name) (omega arith) (counts_later ds n i new x h.1 is later name)

-- ---- what it began with

abbrev origin_with : List Import → Option (List Reply) → List (List ℕ) → List (List ℕ × List Served) → Origin
origin_with imports script ns kept = record { imports = imports; names = ns; logs = log_named kept; script = script }

same_origin : (imports : List Import) (script : Option (List Reply)) (ns ns' : List (List ℕ)) (kept kept' : List (List ℕ × List Served)) → ns' ≡ ns → kept' ≡ kept → origin_with imports script ns' kept' ≡ origin_with imports script ns kept
same_origin imports script ns ns' kept kept' n k = ap (λ m. origin_with imports script m kept') n ∙ ap (λ l. origin_with imports script ns l) k

-- ---- a device was called

-- what is known of a state behind a call
pub record Outcome (i : Import) (call : HostCall) (answer : HostAnswer) (imports : List Import) (old : HostsState) (devices : List DeviceState) (script : Option (List Reply)) (given : ℕ) (entries : List Entry) : Type 0 where
  pub keeps : Keeps imports devices script given entries
  pub answered : IsAnswered i call answer old (seen imports devices script given entries)

calls_push : (ss : List (List ℕ × Served)) (s : List ℕ × Served) → map (λ (p : List ℕ × Served). p.1) (ss ++ s ∷ []) ≡ map (λ (p : List ℕ × Served). p.1) ss ++ s.1 ∷ []
calls_push ss s = map-append (λ (p : List ℕ × Served). p.1) ss (s ∷ [])

pub device_replied : (imports : List Import) (ds : List DeviceState) (script : Option (List Reply)) (given : ℕ) (es : List Entry) (i : Import) (call : HostCall) (reply : Reply) (place : ℕ) (new : DeviceState) → Keeps imports ds script given es → slice_get imports call.import ≡ Some i → IsPlace ds i.«module» place → IsCalled (device.Replied reply) call (get_or ds place no_device) new → Outcome i call (Replied reply) imports (seen imports ds script given es) (set ds place new) script given (es ++ OfDevice place (length (get_or ds place no_device).log) ∷ [])
device_replied imports ds script given es i call reply place new k at there called =
    let once : AreDistinct (names ds) = k.distinct in
    let old = get_or ds place no_device in
    let s : Served = record { call = call; reply = reply } in
    let e = OfDevice place (length old.log) in
    let replies = replies_of script in
    let lt : place < length ds = place_below ds i.«module» place there in
    let old_name : old.name ≡ i.«module» = at_place ds i.«module» place no_device there in
    let name : new.name ≡ i.«module» = called.name ∙ old_name in
    let log : new.log ≡ old.log ++ s ∷ [] = called.log in
    let now : get_or (set ds place new) place no_device ≡ new = get_or-set_same ds place new no_device lt in
    let named : is_named (names ds) i.«module» ≡ true = named_at ds i.«module» place there in
    let ns : names (set ds place new) ≡ names ds = names_set ds i.«module» place new there name in
    let g : Grown old new = record { name = called.name; rest = s ∷ []; log = log } in
    let kept = entries_kept imports ds place new replies es g k.inside in
    let stored : stored_at (set ds place new) replies e ≡ s = rw (now, log) (last_served old.log s) in
    let own : served_at imports (set ds place new) replies e ≡ (i.«module», s) = rw stored (rw at refl) in
    let served : all_served imports (set ds place new) replies (es ++ e ∷ []) ≡ all_served imports ds replies es ++ (i.«module», s) ∷ [] = served_push imports (set ds place new) replies es e ∙ rw (kept.served, own) refl in
    let f = touched ds i.«module» place new no_device (all_served imports ds replies es) s there once name log k.logged in
    record {
      keeps = record {
        inside = inside_push (set ds place new) replies es e kept.inside ((rw (length-set ds place new) lt), (rw (now, log) (below_push old.log s)));
        logged = rw served f.logged;
        scripted = rw (served, ns) (of_script_push (names ds) (all_served imports ds replies es) (i.«module», s) ∙ (rw named (append-nil _ ∙ k.scripted)));
        within = k.within;
        distinct = rw ns k.distinct;
      };
      answered = record {
        calls = ((rw served (calls_push (all_served imports ds replies es) (i.«module», s))), refl);
        exhausted = rw named refl;
        used = tt;
        cause = tt;
        later = counts_later ds i.«module» place new no_device there name called.later;
        served = served;
        names = ns;
        script = refl;
        serving = λ j t. rw ns refl;
        origin = same_origin imports script _ _ _ _ ns (rw served f.fronts);
      };
    }
  where
    last_served : (log : List Served) (s : Served) → get_or (log ++ s ∷ []) (length log) no_served ≡ s
    last_served log s = get_or_at log s [] no_served (length log) refl

    below_push : (log : List Served) (s : Served) → length log < length (log ++ s ∷ [])
    below_push log s = rw (length-append log (s ∷ [])) (omega arith)

-- where a device replied nothing, what was served stays
pub record Quiet (i : Import) (call : HostCall) (imports : List Import) (old : HostsState) (devices : List DeviceState) (script : Option (List Reply)) (given : ℕ) (entries : List Entry) : Type 0 where
  pub keeps : Keeps imports devices script given entries
  pub served : (seen imports devices script given entries).served ≡ old.served
  pub names : names devices ≡ names old.devices
  pub before : logs_before (seen imports devices script given entries) ≡ logs_before old
  pub later : (name : List ℕ) → count_of old.devices name ≤ count_of devices name

pub device_quiet : (imports : List Import) (ds : List DeviceState) (script : Option (List Reply)) (given : ℕ) (es : List Entry) (i : Import) (call : HostCall) (place : ℕ) (new : DeviceState) → Keeps imports ds script given es → IsPlace ds i.«module» place → new.name ≡ (get_or ds place no_device).name → new.log ≡ (get_or ds place no_device).log → (get_or ds place no_device).count ≤ new.count → Quiet i call imports (seen imports ds script given es) (set ds place new) script given es
device_quiet imports ds script given es i call place new k there same_name log later =
    let replies = replies_of script in
    let name : new.name ≡ i.«module» = same_name ∙ at_place ds i.«module» place no_device there in
    let ns : names (set ds place new) ≡ names ds = names_set ds i.«module» place new there name in
    let g : Grown (get_or ds place no_device) new = record { name = same_name; rest = []; log = log ∙ sym (append-nil (get_or ds place no_device).log) } in
    let kept = entries_kept imports ds place new replies es g k.inside in
    let f = quiet ds i.«module» place new no_device (all_served imports ds replies es) there name log k.logged in
    record {
      keeps = record {
        inside = kept.inside;
        logged = rw kept.served f.logged;
        scripted = rw (kept.served, ns) k.scripted;
        within = k.within;
        distinct = rw ns k.distinct;
      };
      served = kept.served;
      names = ns;
      before = rw kept.served f.fronts;
      later = counts_later ds i.«module» place new no_device there name later;
    }

pub device_failed : (imports : List Import) (ds : List DeviceState) (script : Option (List Reply)) (given : ℕ) (es : List Entry) (i : Import) (call : HostCall) (place : ℕ) (new : DeviceState) (name : List ℕ) → Keeps imports ds script given es → IsPlace ds i.«module» place → IsCalled device.Failed call (get_or ds place no_device) new → name ≡ i.«module» → Outcome i call (Failed name) imports (seen imports ds script given es) (set ds place new) script given es
device_failed imports ds script given es i call place new name k there called is =
    let q = device_quiet imports ds script given es i call place new k there called.name called.log called.later in
    let named : is_named (names ds) i.«module» ≡ true = named_at ds i.«module» place there in
    let new_name : new.name ≡ i.«module» = called.name ∙ at_place ds i.«module» place no_device there in
    let lt : place < length ds = place_below ds i.«module» place there in
    let before : count_of ds i.«module» ≡ (get_or ds place no_device).count = count_at ds i.«module» place no_device there in
    let now : count_of (set ds place new) i.«module» ≡ new.count = count_at (set ds place new) i.«module» place no_device (place_set ds i.«module» place new there new_name) ∙ ap (λ (d : DeviceState). d.count) (get_or-set_same ds place new no_device lt) in
    record {
      keeps = q.keeps;
      answered = record {
        calls = ((rw q.served refl), refl);
        exhausted = rw named refl;
        used = λ other. rw q.names refl;
        cause = (is, (rw (is, before, now) (called.failed refl)));
        later = q.later;
        served = q.served;
        names = q.names;
        script = refl;
        serving = λ j t. rw q.names refl;
        origin = same_origin imports script _ _ _ _ q.names q.before;
      };
    }

pub device_wanting : (imports : List Import) (ds : List DeviceState) (script : Option (List Reply)) (given : ℕ) (es : List Entry) (i : Import) (call : HostCall) (place : ℕ) (new : DeviceState) → Keeps imports ds script given es → IsPlace ds i.«module» place → new.name ≡ (get_or ds place no_device).name → new.log ≡ (get_or ds place no_device).log → (get_or ds place no_device).count ≤ new.count → Outcome i call NoMemory imports (seen imports ds script given es) (set ds place new) script given es
device_wanting imports ds script given es i call place new k there same_name log later =
    let q = device_quiet imports ds script given es i call place new k there same_name log later in
    record {
      keeps = q.keeps;
      answered = record {
        calls = rw q.served refl;
        exhausted = tt;
        used = tt;
        cause = tt;
        later = q.later;
        served = q.served;
        names = q.names;
        script = refl;
        serving = λ j t. rw q.names refl;
        origin = same_origin imports script _ _ _ _ q.names q.before;
      };
    }

-- ---- the script

pub script_replied : (imports : List Import) (ds : List DeviceState) (script : Option (List Reply)) (given : ℕ) (es : List Entry) (i : Import) (call : HostCall) (reply : Reply) → Keeps imports ds script given es → slice_get imports call.import ≡ Some i → is_named (names ds) i.«module» ≡ false → given < length (replies_of script) → slice_get (replies_of script) given ≡ Some reply → get_or (replies_of script) given empty_reply ≡ reply → Outcome i call (Replied reply) imports (seen imports ds script given es) ds script (given + 1) (es ++ OfScript call given ∷ [])
script_replied imports ds script given es i call reply k at unnamed lt there next =
    let s : Served = record { call = call; reply = reply } in
    let e = OfScript call given in
    let replies = replies_of script in
    let own : served_at imports ds replies e ≡ (i.«module», s) = rw (next, at) refl in
    let served : all_served imports ds replies (es ++ e ∷ []) ≡ all_served imports ds replies es ++ (i.«module», s) ∷ [] = served_push imports ds replies es e ∙ rw own refl in
    let f = untouched ds (all_served imports ds replies es) i.«module» s unnamed k.logged in
    record {
      keeps = record {
        inside = inside_push ds replies es e k.inside lt;
        logged = rw served f.logged;
        scripted = rw served (of_script_push (names ds) (all_served imports ds replies es) (i.«module», s) ∙ rw (unnamed, k.scripted, take_more replies given empty_reply lt, next) refl);
        within = omega arith;
        distinct = k.distinct;
      };
      answered = record {
        calls = ((rw served (calls_push (all_served imports ds replies es) (i.«module», s))), refl);
        exhausted = rw (unnamed, there) refl;
        used = tt;
        cause = tt;
        later = λ name. omega arith;
        served = served;
        names = refl;
        script = refl;
        serving = λ j t. refl;
        origin = same_origin imports script _ _ _ _ refl (rw served f.fronts);
      };
    }

pub script_ended : (h : HostsState) (i : Import) (call : HostCall) → is_named (names h.devices) i.«module» ≡ false → slice_get (replies_of h.script) h.given ≡ None → IsAnswered i call NoReply h h
script_ended h i call unnamed ended = record {
  calls = (refl, refl);
  exhausted = rw (unnamed, ended) refl;
  used = λ other. refl;
  cause = λ name. refl;
  later = λ name. omega arith;
  served = refl;
  names = refl;
  script = refl;
  serving = λ j t. refl;
  origin = refl;
}

pub wanting : (h : HostsState) (i : Import) (call : HostCall) → IsAnswered i call NoMemory h h
wanting h i call = record {
  calls = refl;
  exhausted = tt;
  used = tt;
  cause = tt;
  later = λ name. omega arith;
  served = refl;
  names = refl;
  script = refl;
  serving = λ j t. refl;
  origin = refl;
}

pub first : (imports : List Import) (ds : List DeviceState) (script : Option (List Reply)) → AreDistinct (names ds) → Keeps imports ds script 0 []
first imports ds script once = record { inside = tt; logged = logged_first ds; scripted = refl; within = omega arith; distinct = once }

-- ---- as the code asks

-- an entry that was added is taken away
pub taken_back : (es es' es'' : List Entry) (e : Entry) (count : ℕ) → count ≡ length es → es' ≡ es ++ e ∷ [] → es'' ≡ take count es' → es'' ≡ es
taken_back es es' es'' e count n p t = t ∙ (ap (take count) p ∙ take_at es (e ∷ []) count (sym n))

pub asked_replied : (imports : List Import) (ds ds' : List DeviceState) (script : Option (List Reply)) (given : ℕ) (es es' : List Entry) (i : Import) (call : HostCall) (reply : Reply) (place at : ℕ) (answer : DeviceAnswer) → Keeps imports ds script given es → slice_get imports call.import ≡ Some i → IsPlace ds i.«module» place → ds' ≡ set ds place (get_or ds' place no_device) → IsCalled answer call (get_or ds place no_device) (get_or ds' place no_device) → answer ≡ device.Replied reply → at ≡ length (get_or ds place no_device).log → es' ≡ es ++ OfDevice place at ∷ [] → Outcome i call (Replied reply) imports (seen imports ds script given es) ds' script given es'
asked_replied imports ds ds' script given es es' i call reply place at answer k there p only called is long pushed =
    let new = get_or ds' place no_device in
    let c : IsCalled (device.Replied reply) call (get_or ds place no_device) new = (let P : DeviceAnswer → Type 0 = λ a. IsCalled a call (get_or ds place no_device) new in subst P is called) in
    let o = device_replied imports ds script given es i call reply place new k there p c in
    let e : es' ≡ es ++ OfDevice place (length (get_or ds place no_device).log) ∷ [] = pushed ∙ ap (λ (n : ℕ). es ++ OfDevice place n ∷ []) long in
    let P : List DeviceState → Type 0 = λ d. Outcome i call (Replied reply) imports (seen imports ds script given es) d script given (es ++ OfDevice place (length (get_or ds place no_device).log) ∷ []) in
    let Q : List Entry → Type 0 = λ x. Outcome i call (Replied reply) imports (seen imports ds script given es) ds' script given x in
    subst Q (sym e) (subst P (sym only) o)

failed_or_wanting : (r : HostAnswer) (imports : List Import) (ds : List DeviceState) (script : Option (List Reply)) (given : ℕ) (es : List Entry) (i : Import) (call : HostCall) (place : ℕ) (new : DeviceState) → IsFailed i.«module» r → Keeps imports ds script given es → IsPlace ds i.«module» place → IsCalled device.Failed call (get_or ds place no_device) new → Outcome i call r imports (seen imports ds script given es) (set ds place new) script given es
failed_or_wanting (Failed name) imports ds script given es i call place new f k p called = device_failed imports ds script given es i call place new name k p called f
failed_or_wanting NoMemory imports ds script given es i call place new f k p called = device_wanting imports ds script given es i call place new k p called.name called.log called.later
failed_or_wanting NoReply imports ds script given es i call place new f k p called = absurd f
failed_or_wanting (Replied reply) imports ds script given es i call place new f k p called = absurd f

pub asked_failed : (r : HostAnswer) (imports : List Import) (ds ds' : List DeviceState) (script : Option (List Reply)) (given : ℕ) (es es' : List Entry) (i : Import) (call : HostCall) (place : ℕ) (answer : DeviceAnswer) → IsFailed i.«module» r → Keeps imports ds script given es → IsPlace ds i.«module» place → ds' ≡ set ds place (get_or ds' place no_device) → IsCalled answer call (get_or ds place no_device) (get_or ds' place no_device) → answer ≡ device.Failed → es' ≡ es → Outcome i call r imports (seen imports ds script given es) ds' script given es'
asked_failed r imports ds ds' script given es es' i call place answer f k p only called is back =
    let new = get_or ds' place no_device in
    let c : IsCalled device.Failed call (get_or ds place no_device) new = (let P : DeviceAnswer → Type 0 = λ a. IsCalled a call (get_or ds place no_device) new in subst P is called) in
    let o = failed_or_wanting r imports ds script given es i call place new f k p c in
    let P : List DeviceState → Type 0 = λ d. Outcome i call r imports (seen imports ds script given es) d script given es in
    let Q : List Entry → Type 0 = λ x. Outcome i call r imports (seen imports ds script given es) ds' script given x in
    subst Q (sym back) (subst P (sym only) o)

pub asked_wanting : (imports : List Import) (ds ds' : List DeviceState) (script : Option (List Reply)) (given : ℕ) (es es' : List Entry) (i : Import) (call : HostCall) (place : ℕ) (answer : DeviceAnswer) → Keeps imports ds script given es → IsPlace ds i.«module» place → ds' ≡ set ds place (get_or ds' place no_device) → IsCalled answer call (get_or ds place no_device) (get_or ds' place no_device) → answer ≡ device.NoMemory → es' ≡ es → Outcome i call NoMemory imports (seen imports ds script given es) ds' script given es'
asked_wanting imports ds ds' script given es es' i call place answer k p only called is back =
    let new = get_or ds' place no_device in
    let c : IsCalled device.NoMemory call (get_or ds place no_device) new = (let P : DeviceAnswer → Type 0 = λ a. IsCalled a call (get_or ds place no_device) new in subst P is called) in
    let o = device_wanting imports ds script given es i call place new k p c.name c.log c.later in
    let P : List DeviceState → Type 0 = λ d. Outcome i call NoMemory imports (seen imports ds script given es) d script given es in
    let Q : List Entry → Type 0 = λ x. Outcome i call NoMemory imports (seen imports ds script given es) ds' script given x in
    subst Q (sym back) (subst P (sym only) o)

-- where no entry could be added, nothing changed
pub unasked : (imports : List Import) (ds : List DeviceState) (script : Option (List Reply)) (given : ℕ) (es es' : List Entry) (i : Import) (call : HostCall) → Keeps imports ds script given es → es' ≡ es → Outcome i call NoMemory imports (seen imports ds script given es) ds script given es'
unasked imports ds script given es es' i call k back =
    let Q : List Entry → Type 0 = λ x. Outcome i call NoMemory imports (seen imports ds script given es) ds script given x in
    subst Q (sym back) (record { keeps = k; answered = wanting (seen imports ds script given es) i call })

-- ---- what is served

pub serves_named : (h : HostsState) (i : Import) (place : ℕ) → IsPlace h.devices i.«module» place → true ≡ serves h i
serves_named h i place p = rw (named_at h.devices i.«module» place p) refl

pub serves_script : (h : HostsState) (i : Import) (b : Bool) → IsUnnamed h.devices i.«module» → b ≡ is_some h.script → b ≡ serves h i
serves_script h i b u e = rw u.unnamed e

-- as the code gives the script's next reply
pub script_given : (imports : List Import) (ds : List DeviceState) (script : Option (List Reply)) (given : ℕ) (es es' : List Entry) (i : Import) (call : HostCall) (reply answer : Reply) → Keeps imports ds script given es → slice_get imports call.import ≡ Some i → IsUnnamed ds i.«module» → given < length (replies_of script) → slice_get (replies_of script) given ≡ Some reply → answer ≡ reply → es' ≡ es ++ OfScript call given ∷ [] → Outcome i call (Replied answer) imports (seen imports ds script given es) ds script (given + 1) es'
script_given imports ds script given es es' i call reply answer k at u lt there copy pushed =
    let o = script_replied imports ds script given es i call reply k at u.unnamed lt there (read_at (replies_of script) given reply there) in
    let P : Reply → Type 0 = λ r. Outcome i call (Replied r) imports (seen imports ds script given es) ds script (given + 1) (es ++ OfScript call given ∷ []) in
    let Q : List Entry → Type 0 = λ x. Outcome i call (Replied answer) imports (seen imports ds script given es) ds script (given + 1) x in
    subst Q (sym pushed) (subst P (sym copy) o)
  where
    read_at : (rs : List Reply) (n : ℕ) (r : Reply) → slice_get rs n ≡ Some r → get_or rs n empty_reply ≡ r
    read_at [] n r h = cc
    read_at (x ∷ rs) zero r h = cc
    read_at (x ∷ rs) (suc n) r h = read_at rs n r h
