-- What files hold when some of them were written.
use Rattle.std.proofs.Common.{◌≡◌, ℕ, Bool, true, false, List, [], ◌∷◌, ◌++◌, length, refl, sym, ap, ◌∙◌, append_assoc, inl, inr, arith, Option, Some, None, subst}
use Rattle.std.specs.Prelude.{◌⊎◌, ◌≤◌, bytes_eq, if◌then◌else◌}
use Rattle.std.proofs.lemmas.List.{append-nil}
use Rattle.std.proofs.lemmas.Slice.Eq.{bytes_eq-Decides}
use Rattle.pm_outside.specs.Contents.{Contents}
use Rattle.pm_outside.specs.declared.answers.WriteAnswer.{WriteAnswer}
use Rattle.pm_outside.specs.declared.answers.WriteAnswer.TheVariants as write
use Rattle.pm_outside.specs.Written.{OnTold, HasFile, HoldsFront, HasFront, Leaves}
use Rattle.pm_outside.specs.Held.{Writes, held_then, HoldThen, HoldsPart, HoldPart}
use Rattle.pm_outside.proofs.Leavings.{then_told, same_told}

-- writes behind others
held_more : (ws also : Writes) (files : Contents) → held_then (ws ++ also) files ≡ held_then also (held_then ws files)
held_more [] also files = refl
held_more ((file, bytes) ∷ ws) also files = held_more ws also (λ name. if bytes_eq name file then Some bytes else files name)

pub one_file : (file bytes : List ℕ) (old new : Contents) (name : List ℕ) (b : Bool) → bytes_eq name file ≡ b → HasFile file bytes old new → new name ≡ (if b then Some bytes else old name)
one_file file bytes old new name true e (has, others) = ap new ((bytes_eq-Decides name file).0 e) ∙ has
one_file file bytes old new name false e (has, others) = others name (λ same. absurd (cc_false ((bytes_eq-Decides name file).1 same)))
  where
    cc_false : bytes_eq name file ≡ true → ⊥
    cc_false f = absurd cc

pub file_held : (file bytes : List ℕ) (old new : Contents) → HasFile file bytes old new → HoldThen ((file, bytes) ∷ []) old new
file_held file bytes old new has name = one_file file bytes old new name (bytes_eq name file) refl has

-- held alike before, held alike then
held_alike : (ws : Writes) (a b : Contents) → ((name : List ℕ) → a name ≡ b name) → (name : List ℕ) → held_then ws a name ≡ held_then ws b name
held_alike [] a b same name = same name
held_alike ((file, bytes) ∷ ws) a b same name = held_alike ws (λ n. if bytes_eq n file then Some bytes else a n) (λ n. if bytes_eq n file then Some bytes else b n) (λ n. ap (λ o. if bytes_eq n file then Some bytes else o) (same n)) name

behind : (ws also : Writes) (o m : Contents) → HoldThen ws o m → (name : List ℕ) → held_then also m name ≡ held_then (ws ++ also) o name
behind ws also o m one name = held_alike also m (held_then ws o) one name ∙ sym (ap (λ (f : Contents). f name) (held_more ws also o))

join_held : (ws also : Writes) (o m n : Contents) → HoldThen ws o m → HoldThen also m n → HoldThen (ws ++ also) o n
join_held ws also o m n one other name = other name ∙ behind ws also o m one name

pub held_also : (ws also : Writes) (before mid after : Option Contents) → OnTold (HoldThen ws) before mid → OnTold (HoldThen also) mid after → OnTold (HoldThen (ws ++ also)) before after
held_also ws also before mid after one other = then_told (HoldThen ws) (HoldThen also) (HoldThen (ws ++ also)) before mid after (join_held ws also) one other

pub one_held : (file bytes : List ℕ) (before after : Option Contents) → OnTold (HasFile file bytes) before after → OnTold (HoldThen ((file, bytes) ∷ [])) before after
one_held file bytes before after has = same_told (HasFile file bytes) (HoldThen ((file, bytes) ∷ [])) before after (file_held file bytes) has

pub none_held : (before : Option Contents) → OnTold (HoldThen []) before before
none_held None = tt
none_held (Some o) = λ name. refl

-- ---- files that were written in part

-- a file that was written holds the front that is all its bytes
file_front : (file bytes : List ℕ) (old new : Contents) → HasFile file bytes old new → HasFront file bytes old new
file_front file bytes old new (has, others) = (inr (bytes, [], has, sym (append-nil bytes)), others)

any_front : (file bytes : List ℕ) (a : WriteAnswer) (old new : Contents) → Leaves file bytes a old new → HasFront file bytes old new
any_front file bytes write.Done old new x = file_front file bytes old new x
any_front file bytes write.Failed old new x = x
any_front file bytes write.NoMemory old new x = x

-- whatever writing the file answered
pub front_left : (file bytes other : List ℕ) (a : WriteAnswer) (before after : Option Contents) → bytes ≡ other → OnTold (Leaves file bytes a) before after → OnTold (HasFront file other) before after
front_left file bytes other a before after same x = subst (λ b. OnTold (HasFront file b) before after) same (same_told (Leaves file bytes a) (HasFront file bytes) before after (any_front file bytes a) x)

-- nothing was written
pub no_front : (file bytes : List ℕ) (told : Option Contents) → OnTold (HasFront file bytes) told told
no_front file bytes None = tt
no_front file bytes (Some o) = (inl refl, λ other ne. refl)

pub no_part : (ws : Writes) (told : Option Contents) → length ws ≤ 1 → OnTold (HoldPart ws) told told
no_part ws None one = tt
no_part ws (Some o) one = record { whole = []; last = ws; are = refl; one = one; hold = λ name. inl refl }

pub none_few : 0 ≤ 1
none_few = omega arith

pub one_few : 1 ≤ 1
one_few = omega arith

not_both : (b : Bool) → b ≡ false → b ≡ true → ⊥
not_both b e f = let clash : false ≡ true = sym e ∙ f in absurd cc

one_part : (file bytes : List ℕ) (old new : Contents) → HasFront file bytes old new → HoldPart ((file, bytes) ∷ []) old new
one_part file bytes old new (has, others) = record {
  whole = [];
  last = (file, bytes) ∷ [];
  are = refl;
  one = one_few;
  hold = λ name. by_name name (bytes_eq name file) refl;
}
  where
    of_file : (name : List ℕ) → name ≡ file → ((new file ≡ old file) ⊎ HoldsFront file bytes new) → (new name ≡ old name) ⊎ HoldsPart ((file, bytes) ∷ []) name new
    of_file name same (inl e) = inl (ap new same ∙ e ∙ sym (ap old same))
    of_file name same (inr front) = inr (same, front)

    by_name : (name : List ℕ) (b : Bool) → bytes_eq name file ≡ b → (new name ≡ old name) ⊎ HoldsPart ((file, bytes) ∷ []) name new
    by_name name true e = of_file name ((bytes_eq-Decides name file).0 e) has
    by_name name false e = inl (others name (λ same. absurd (not_both (bytes_eq name file) e ((bytes_eq-Decides name file).1 same))))

pub front_part : (file bytes : List ℕ) (before after : Option Contents) → OnTold (HasFront file bytes) before after → OnTold (HoldPart ((file, bytes) ∷ [])) before after
front_part file bytes before after has = same_told (HasFront file bytes) (HoldPart ((file, bytes) ∷ [])) before after (one_part file bytes) has

-- all were written
all_part : (ws : Writes) (old new : Contents) → HoldThen ws old new → HoldPart ws old new
all_part ws old new held = record { whole = ws; last = []; are = sym (append-nil ws); one = none_few; hold = λ name. inl (held name) }

pub held_part : (ws : Writes) (before after : Option Contents) → OnTold (HoldThen ws) before after → OnTold (HoldPart ws) before after
held_part ws before after held = same_told (HoldThen ws) (HoldPart ws) before after (all_part ws) held

-- the last of them in part, behind others that are whole
join_part : (ws also : Writes) (o m n : Contents) → HoldThen ws o m → HoldPart also m n → HoldPart (ws ++ also) o n
join_part ws also o m n one part = record {
  whole = ws ++ part.whole;
  last = part.last;
  are = ap (λ l. ws ++ l) part.are ∙ sym (append_assoc ws part.whole part.last);
  one = part.one;
  hold = λ name. by_case name (part.hold name);
}
  where
    by_case : (name : List ℕ) → (n name ≡ held_then part.whole m name) ⊎ HoldsPart part.last name n → (n name ≡ held_then (ws ++ part.whole) o name) ⊎ HoldsPart part.last name n
    by_case name (inl e) = inl (e ∙ behind ws part.whole o m one name)
    by_case name (inr x) = inr x

pub part_also : (ws also : Writes) (before mid after : Option Contents) → OnTold (HoldThen ws) before mid → OnTold (HoldPart also) mid after → OnTold (HoldPart (ws ++ also)) before after
part_also ws also before mid after one other = then_told (HoldThen ws) (HoldPart also) (HoldPart (ws ++ also)) before mid after (join_part ws also) one other
