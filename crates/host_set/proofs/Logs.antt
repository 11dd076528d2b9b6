-- What is served stands at the end of the logs.
use Rattle.std.proofs.Common.{◌≡◌, ℕ, zero, suc, ◌-◌, ◌<◌, List, [], ◌∷◌, ◌++◌, Bool, true, false, cond, refl, sym, ap, ◌∙◌, arith, length, map, get_or, set, append_assoc, length-append}
use Rattle.std.proofs.lemmas.List.{append-nil, take_all, take-append-le, get_or_append_left, map-append, length-set}
use Rattle.std.specs.Str.{bytes_eq}
use Rattle.wasm_syntax.specs.declared.parts.Import.{Import}
use Rattle.wasm_syntax.specs.declared.host.Served.{Served}
use Rattle.wasm_syntax.specs.declared.host.Reply.{Reply}
use Rattle.host_set.specs.declared.entry.Entry.{Entry}
use Rattle.host_set.specs.declared.entry.Entry.TheVariants.{OfDevice, OfScript}
use Rattle.host_set.specs.Sets.{DeviceState, no_device, names, is_named, AreDistinct, IsPlace, log_of}
use Rattle.host_set.specs.calls.Hosting.{of_module, of_script, logs, log_named, with_module, in_front, no_served, served_at, all_served, IsInside, AreInside, AreLogged}
use Rattle.host_set.proofs.Names.{same, itself, neither}

-- ---- by module

put_if : (b : Bool) (s t : Served) (front end : List Served) → cond b (s ∷ (front ++ end)) (front ++ end) ≡ cond b (s ∷ front) front ++ end
put_if true s t front end = refl
put_if false s t front end = refl

pub of_module_push : (n : List ℕ) (ss : List (List ℕ × Served)) (s : List ℕ × Served) → of_module n (ss ++ s ∷ []) ≡ of_module n ss ++ cond (bytes_eq n s.0) (s.1 ∷ []) []
of_module_push n [] s = refl
of_module_push n (t ∷ ss) s =
    rw (of_module_push n ss s) (put_if (bytes_eq n t.0) t.1 t.1 (of_module n ss) (cond (bytes_eq n s.0) (s.1 ∷ []) []))

pub of_module_own : (n m : List ℕ) (ss : List (List ℕ × Served)) (s : Served) → m ≡ n → of_module n (ss ++ (m, s) ∷ []) ≡ of_module n ss ++ s ∷ []
of_module_own n m ss s is =
    let t : bytes_eq n m ≡ true = rw is (itself n) in
    of_module_push n ss (m, s) ∙ ap (λ (b : Bool). of_module n ss ++ cond b (s ∷ []) []) t

pub of_module_other : (n m : List ℕ) (ss : List (List ℕ × Served)) (s : Served) → bytes_eq n m ≡ false → of_module n (ss ++ (m, s) ∷ []) ≡ of_module n ss
of_module_other n m ss s is =
    of_module_push n ss (m, s) ∙ (ap (λ (b : Bool). of_module n ss ++ cond b (s ∷ []) []) is ∙ append-nil (of_module n ss))

put_reply : (b : Bool) (r : Reply) (front end : List Reply) → cond b (front ++ end) (r ∷ (front ++ end)) ≡ cond b front (r ∷ front) ++ end
put_reply true r front end = refl
put_reply false r front end = refl

pub of_script_push : (ns : List (List ℕ)) (ss : List (List ℕ × Served)) (s : List ℕ × Served) → of_script ns (ss ++ s ∷ []) ≡ of_script ns ss ++ cond (is_named ns s.0) [] (s.1.reply ∷ [])
of_script_push ns [] s = refl
of_script_push ns (t ∷ ss) s =
    rw (of_script_push ns ss s) (put_reply (is_named ns t.0) t.1.reply (of_script ns ss) (cond (is_named ns s.0) [] (s.1.reply ∷ [])))

-- ---- the logs before

abbrev pub fronts : List (List ℕ × Served) → List DeviceState → List (List ℕ × List Served)
fronts served ds = map (λ d. (d.name, in_front d.log (of_module d.name served))) ds

-- a log ends with what was served
abbrev pub EndsWith : List Served → List Served → Type 0
EndsWith log end = log ≡ in_front log end ++ end

-- the logs of a state, and what they were before, together
pub record SameFronts (served : List (List ℕ × Served)) (ds : List DeviceState) (served' : List (List ℕ × Served)) (ds' : List DeviceState) : Type 0 where
  pub logged : AreLogged served' ds'
  pub fronts : fronts served' ds' ≡ fronts served ds

pub in_front_push : (log end : List Served) (s : Served) → in_front (log ++ s ∷ []) (end ++ s ∷ []) ≡ in_front log end
in_front_push log end s =
    let e : length (log ++ s ∷ []) - length (end ++ s ∷ []) ≡ length log - length end = simp length-append (omega arith) in
    rw e (take-append-le (length log - length end) log (s ∷ []) (omega arith))

pub ends_push : (log end : List Served) (s : Served) → EndsWith log end → EndsWith (log ++ s ∷ []) (end ++ s ∷ [])
ends_push log end s h =
    let more : log ++ s ∷ [] ≡ (in_front log end ++ end) ++ s ∷ [] = ap (λ l. l ++ s ∷ []) h in
    rw (in_front_push log end s) (more ∙ append_assoc (in_front log end) end (s ∷ []))

-- one device, whose name and log are a given name and log
one_more : (served served' : List (List ℕ × Served)) (d new : DeviceState) (ds ds' : List DeviceState) → new.name ≡ d.name → in_front new.log (of_module new.name served') ≡ in_front d.log (of_module d.name served) → EndsWith new.log (of_module new.name served') → SameFronts served ds served' ds' → SameFronts served (d ∷ ds) served' (new ∷ ds')
one_more served served' d new ds ds' name front ends rest = record {
  logged = (ends, rest.logged);
  fronts = (let f : fronts served' ds' ≡ fronts served ds = rest.fronts in cc);
}

-- what is served to a module without a device changes no log
pub untouched : (ds : List DeviceState) (served : List (List ℕ × Served)) (n : List ℕ) (s : Served) → is_named (names ds) n ≡ false → AreLogged served ds → SameFronts served ds (served ++ (n, s) ∷ []) ds
untouched [] served n s h l = record { logged = tt; fronts = refl }
untouched (d ∷ ds) served n s h l =
    let k = neither (bytes_eq d.name n) (is_named (names ds) n) h in
    let e : of_module d.name (served ++ (n, s) ∷ []) ≡ of_module d.name served = of_module_other d.name n served s k.0 in
    one_more served (served ++ (n, s) ∷ []) d d ds ds refl (ap (in_front d.log) e) (rw e l.0) (untouched ds served n s k.1 l.1)

itself_again : (ds : List DeviceState) (served : List (List ℕ × Served)) → AreLogged served ds → SameFronts served ds served ds
itself_again ds served l = record { logged = l; fronts = refl }

-- what a device replies is logged at its end
pub touched : (ds : List DeviceState) (n : List ℕ) (i : ℕ) (new x : DeviceState) (served : List (List ℕ × Served)) (s : Served) → IsPlace ds n i → AreDistinct (names ds) → new.name ≡ n → new.log ≡ (get_or ds i x).log ++ s ∷ [] → AreLogged served ds → SameFronts served ds (served ++ (n, s) ∷ []) (set ds i new)
touched [] n i new x served s h once name log l = absurd h
touched (d ∷ ds) n zero new x served s h once name log l =
    let e : d.name ≡ n = same d.name n h in
    let apart : is_named (names ds) n ≡ false = rw e at once.0 in
    let m : of_module new.name (served ++ (n, s) ∷ []) ≡ of_module d.name served ++ s ∷ [] = rw (name, e) (of_module_own n n served s refl) in
    one_more served (served ++ (n, s) ∷ []) d new ds ds (name ∙ sym e) (rw (m, log) (in_front_push d.log (of_module d.name served) s)) (rw (m, log) (ends_push d.log (of_module d.name served) s l.0)) (untouched ds served n s apart l.1)
touched (d ∷ ds) n (suc i) new x served s h once name log l =
    let e : of_module d.name (served ++ (n, s) ∷ []) ≡ of_module d.name served = of_module_other d.name n served s h.0 in
    one_more served (served ++ (n, s) ∷ []) d d ds (set ds i new) refl (ap (in_front d.log) e) (rw e l.0) (touched ds n i new x served s h.1 once.1 name log l.1)

-- a device that logs nothing changes no log
pub quiet : (ds : List DeviceState) (n : List ℕ) (i : ℕ) (new x : DeviceState) (served : List (List ℕ × Served)) → IsPlace ds n i → new.name ≡ n → new.log ≡ (get_or ds i x).log → AreLogged served ds → SameFronts served ds served (set ds i new)
quiet [] n i new x served h name log l = absurd h
quiet (d ∷ ds) n zero new x served h name log l =
    let e : new.name ≡ d.name = name ∙ sym (same d.name n h) in
    one_more served served d new ds ds e (rw (e, log) refl) (rw (e, log) l.0) (itself_again ds served l.1)
quiet (d ∷ ds) n (suc i) new x served h name log l =
    one_more served served d d ds (set ds i new) refl refl l.0 (quiet ds n i new x served h.1 name log l.1)

ends_by_test : (d : DeviceState) (ds : List DeviceState) (served : List (List ℕ × Served)) (n : List ℕ) (b : Bool) → AreLogged served (d ∷ ds) → bytes_eq d.name n ≡ b → cond b true (is_named (names ds) n) ≡ true → (is_named (names ds) n ≡ true → log_of ds n ≡ log_named (fronts served ds) n ++ of_module n served) → cond b d.log (log_of ds n) ≡ cond b (in_front d.log (of_module d.name served)) (log_named (fronts served ds) n) ++ of_module n served
ends_by_test d ds served n true l is h rest = rw (← same d.name n is) l.0
ends_by_test d ds served n false l is h rest = rest h

-- the log of a device is what it was before, and what was served to its module
pub log_ends : (ds : List DeviceState) (served : List (List ℕ × Served)) (n : List ℕ) → AreLogged served ds → is_named (names ds) n ≡ true → log_of ds n ≡ log_named (fronts served ds) n ++ of_module n served
log_ends [] served n l h = cc
log_ends (d ∷ ds) served n l h = ends_by_test d ds served n (bytes_eq d.name n) l refl h (log_ends ds served n l.1)

pub log_of_named : (ds : List DeviceState) (n : List ℕ) → log_named (logs ds) n ≡ log_of ds n
log_of_named [] n = refl
log_of_named (d ∷ ds) n = ap (λ (l : List Served). cond (bytes_eq d.name n) d.log l) (log_of_named ds n)

all_of : (l : List Served) → in_front l [] ≡ l
all_of l = take_all (length l - 0) l (omega arith)

-- nothing is served at first
pub fronts_first : (ds : List DeviceState) → fronts [] ds ≡ logs ds
fronts_first [] = refl
fronts_first (d ∷ ds) = let e : in_front d.log [] ≡ d.log = all_of d.log in let r = fronts_first ds in cc

pub logged_first : (ds : List DeviceState) → AreLogged [] ds
logged_first [] = tt
logged_first (d ∷ ds) = ((rw (all_of d.log) (sym (append-nil d.log))), logged_first ds)

-- ---- entries

-- a device behind a call, with the same name and at least its old log
pub record Grown (old new : DeviceState) : Type 0 where
  pub name : new.name ≡ old.name
  pub rest : List Served
  pub log : new.log ≡ old.log ++ rest

unchanged : (d : DeviceState) → Grown d d
unchanged d = record { name = refl; rest = []; log = sym (append-nil d.log) }

pub grown : (ds : List DeviceState) (i place : ℕ) (new x : DeviceState) → Grown (get_or ds i x) new → Grown (get_or ds place x) (get_or (set ds i new) place x)
grown [] i place new x g = unchanged x
grown (d ∷ ds) zero zero new x g = g
grown (d ∷ ds) zero (suc place) new x g = unchanged (get_or ds place x)
grown (d ∷ ds) (suc i) zero new x g = unchanged d
grown (d ∷ ds) (suc i) (suc place) new x g = grown ds i place new x g

one_kept : (old new : DeviceState) (at : ℕ) → at < length old.log → Grown old new → (at < length new.log) × (get_or new.log at no_served ≡ get_or old.log at no_served)
one_kept old new at lt g =
    let l : new.log ≡ old.log ++ g.rest = g.log in
    ((rw (l, length-append old.log g.rest) (omega arith)), (rw l (get_or_append_left old.log g.rest no_served at lt)))

pub entry_kept : (imports : List Import) (ds : List DeviceState) (i : ℕ) (new : DeviceState) (replies : List Reply) (e : Entry) → Grown (get_or ds i no_device) new → IsInside ds replies e → IsInside (set ds i new) replies e × (served_at imports (set ds i new) replies e ≡ served_at imports ds replies e)
entry_kept imports ds i new replies (OfDevice place at) g h =
    let k = grown ds i place new no_device g in
    let o = one_kept (get_or ds place no_device) (get_or (set ds i new) place no_device) at h.1 k in
    (((rw (length-set ds i new) h.0), o.0), ap (with_module imports) o.1)
entry_kept imports ds i new replies (OfScript call reply) g h = (h, refl)

pub record EntriesKept (imports : List Import) (ds ds' : List DeviceState) (replies : List Reply) (es : List Entry) : Type 0 where
  pub inside : AreInside ds' replies es
  pub served : all_served imports ds' replies es ≡ all_served imports ds replies es

pub entries_kept : (imports : List Import) (ds : List DeviceState) (i : ℕ) (new : DeviceState) (replies : List Reply) (es : List Entry) → Grown (get_or ds i no_device) new → AreInside ds replies es → EntriesKept imports ds (set ds i new) replies es
entries_kept imports ds i new replies [] g h = record { inside = tt; served = refl }
entries_kept imports ds i new replies (e ∷ es) g h =
    let k = entry_kept imports ds i new replies e g h.0 in
    let r = entries_kept imports ds i new replies es g h.1 in
    record {
      inside = (k.0, r.inside);
      served = (let a : served_at imports (set ds i new) replies e ≡ served_at imports ds replies e = k.1 in let b : all_served imports (set ds i new) replies es ≡ all_served imports ds replies es = r.served in cc);
    }

pub inside_push : (ds : List DeviceState) (replies : List Reply) (es : List Entry) (e : Entry) → AreInside ds replies es → IsInside ds replies e → AreInside ds replies (es ++ e ∷ [])
inside_push ds replies [] e h i = (i, tt)
inside_push ds replies (x ∷ es) e h i = (h.0, inside_push ds replies es e h.1 i)

pub served_push : (imports : List Import) (ds : List DeviceState) (replies : List Reply) (es : List Entry) (e : Entry) → all_served imports ds replies (es ++ e ∷ []) ≡ all_served imports ds replies es ++ served_at imports ds replies e ∷ []
served_push imports ds replies es e = map-append (served_at imports ds replies) es (e ∷ [])

-- each is with the name of its module
pub by_imports : (imports : List Import) (ds : List DeviceState) (replies : List Reply) (es : List Entry) → all_served imports ds replies es ≡ map (with_module imports) (map (λ (p : List ℕ × Served). p.1) (all_served imports ds replies es))
by_imports imports ds replies [] = refl
by_imports imports ds replies (e ∷ es) = ap (λ ss. served_at imports ds replies e ∷ ss) (by_imports imports ds replies es)
