-- Files that are written piece by piece.
use Rattle.std.proofs.Common.{◌≡◌, ℕ, ◌+◌, List, [], ◌++◌, length, take, drop, refl, sym, ap, ◌∙◌, inl, inr, arith, append_assoc, Option, Some, None}
use Rattle.std.specs.Prelude.{unwrap_or}
use Rattle.std.proofs.lemmas.Bool.{cases_lt}
use Rattle.std.proofs.lemmas.List.{take-append-le, take_all, take_at, take-append-drop}
use Rattle.std.proofs.Math.Seq.{take-append-add}
use Rattle.pm_outside.specs.Contents.{Contents, SameBut}
use Rattle.pm_outside.specs.calls.Answers.{Creates, Appends, HasMore, HasPrefixMore}
use Rattle.pm_outside.specs.declared.answers.WriteAnswer.{WriteAnswer}
use Rattle.pm_outside.specs.declared.answers.WriteAnswer.TheVariants as write
use Rattle.pm_outside.specs.Written.{OnTold, HasFile, HasFront, Leaves}

-- ---- facts where files tell what they hold

pub then_told : (R S T : Contents → Contents → Type 0) (before mid after : Option Contents) → ((o m n : Contents) → R o m → S m n → T o n) → OnTold R before mid → OnTold S mid after → OnTold T before after
then_told R S T None mid after join one other = tt
then_told R S T (Some o) None after join one other = absurd one
then_told R S T (Some o) (Some m) None join one other = absurd other
then_told R S T (Some o) (Some m) (Some n) join one other = join o m n one other

pub same_told : (R T : Contents → Contents → Type 0) (before after : Option Contents) → ((o n : Contents) → R o n → T o n) → OnTold R before after → OnTold T before after
same_told R T None after join one = tt
same_told R T (Some o) None join one = absurd one
same_told R T (Some o) (Some n) join one = join o n one

pub none_told : (T : Contents → Contents → Type 0) (before : Option Contents) → ((o : Contents) → T o o) → OnTold T before before
none_told T None join = tt
none_told T (Some o) join = join o

same_but : (name : List ℕ) (o m n : Contents) → SameBut name o m → SameBut name m n → SameBut name o n
same_but name o m n one other k ne = other k ne ∙ one k ne

-- ---- pieces

-- a front of a piece
front_is : (k : ℕ) (piece : List ℕ) → (front : List ℕ) × (rest : List ℕ) × (take k piece ≡ front) × (piece ≡ front ++ rest)
front_is k piece = (take k piece, drop k piece, refl, sym (take-append-drop k piece))

-- two pieces, one after the other
pub more_more : (name a b : List ℕ) (o m n : Contents) → HasMore name a o m → HasMore name b m n → HasMore name (a ++ b) o n
more_more name a b o m n one other =
    (other.0 ∙ ap (λ (file : Option (List ℕ)). Some (unwrap_or file [] ++ b)) one.0 ∙ ap Some (append_assoc (unwrap_or (o name) []) a b), same_but name o m n one.1 other.1)

pub more_prefix : (name a b : List ℕ) (o m n : Contents) → HasMore name a o m → HasPrefixMore name b m n → HasPrefixMore name (a ++ b) o n
more_prefix name a b o m n one other = (
  elim other.0 [
    | inl same ↦ inr (length a, same ∙ one.0 ∙ ap (λ (bs : List ℕ). Some (unwrap_or (o name) [] ++ bs)) (sym (take_at a b (length a) refl)))
    | inr part ↦ inr (length a + part.0, part.1 ∙ ap (λ (file : Option (List ℕ)). Some (unwrap_or file [] ++ take part.0 b)) one.0 ∙ ap Some (append_assoc (unwrap_or (o name) []) a (take part.0 b)) ∙ ap (λ (bs : List ℕ). Some (unwrap_or (o name) [] ++ bs)) (sym (take-append-add a b part.0)))
  ],
  same_but name o m n one.1 other.1,
)

prefix_take : (k : ℕ) (a b : List ℕ) → (j : ℕ) × (take k a ≡ take j (a ++ b))
prefix_take k a b = elim (cases_lt k (length a)) [
  | inl inside ↦ (k, sym (take-append-le k a b (omega arith)))
  | inr past ↦ (length a, take_all k a past ∙ sym (take_at a b (length a) refl))
]

pub prefix_of_more : (name a b : List ℕ) (o n : Contents) → HasPrefixMore name a o n → HasPrefixMore name (a ++ b) o n
prefix_of_more name a b o n one = (
  elim one.0 [
    | inl same ↦ inl same
    | inr part ↦ let j = prefix_take part.0 a b in inr (j.0, part.1 ∙ ap (λ (bs : List ℕ). Some (unwrap_or (o name) [] ++ bs)) j.1)
  ],
  one.1,
)

-- the first piece was refused
pub first_refused : (answer : WriteAnswer) (name a b : List ℕ) (o n : Contents) → (answer ≡ write.Done → ⊥) → Appends name a answer o n → Appends name (a ++ b) answer o n
first_refused write.Done name a b o n refused one = absurd (refused refl)
first_refused write.Failed name a b o n refused one = prefix_of_more name a b o n one
first_refused write.NoMemory name a b o n refused one = prefix_of_more name a b o n one

-- the second piece was answered so
pub second_answered : (answer : WriteAnswer) (name a b : List ℕ) (o m n : Contents) → HasMore name a o m → Appends name b answer m n → Appends name (a ++ b) answer o n
second_answered write.Done name a b o m n one other = more_more name a b o m n one other
second_answered write.Failed name a b o m n one other = more_prefix name a b o m n one other
second_answered write.NoMemory name a b o m n one other = more_prefix name a b o m n one other

-- ---- a file from its creation on

pub create_refused : (answer : WriteAnswer) (name bytes : List ℕ) (o n : Contents) → (answer ≡ write.Done → ⊥) → Creates name answer o n → Leaves name bytes answer o n
create_refused write.Done name bytes o n refused one = absurd (refused refl)
create_refused write.Failed name bytes o n refused one = (elim one.0 [ inl same ↦ inl same | inr empty ↦ inr ([], bytes, empty, refl) ], one.1)
create_refused write.NoMemory name bytes o n refused one = (elim one.0 [ inl same ↦ inl same | inr empty ↦ inr ([], bytes, empty, refl) ], one.1)

-- one piece more
pub file_more : (name a b : List ℕ) (o m n : Contents) → HasFile name a o m → HasMore name b m n → HasFile name (a ++ b) o n
file_more name a b o m n file more = (more.0 ∙ ap (λ (f : Option (List ℕ)). Some (unwrap_or f [] ++ b)) file.0, same_but name o m n file.1 more.1)

-- the piece was refused, of bytes that go on behind it
file_prefix : (name a b rest bytes : List ℕ) (o m n : Contents) → bytes ≡ (a ++ b) ++ rest → HasFile name a o m → HasPrefixMore name b m n → HasFront name bytes o n
file_prefix name a b rest bytes o m n all file part = (
  inr (elim part.0 [
    | inl same ↦ (a, b ++ rest, same ∙ file.0, all ∙ append_assoc a b rest)
    | inr some ↦ (a ++ take some.0 b, drop some.0 b ++ rest, some.1 ∙ ap (λ (f : Option (List ℕ)). Some (unwrap_or f [] ++ take some.0 b)) file.0, all ∙ split some.0)
  ]),
  same_but name o m n file.1 part.1,
)
  where
    split : (k : ℕ) → (a ++ b) ++ rest ≡ (a ++ take k b) ++ (drop k b ++ rest)
    split k =
        ap (λ (bs : List ℕ). (a ++ bs) ++ rest) (sym (take-append-drop k b))
        ∙ ap (λ (bs : List ℕ). bs ++ rest) (sym (append_assoc a (take k b) (drop k b))) ∙ append_assoc (a ++ take k b) (drop k b) rest

pub piece_refused : (answer : WriteAnswer) (name a b rest bytes : List ℕ) (o m n : Contents) → (answer ≡ write.Done → ⊥) → bytes ≡ (a ++ b) ++ rest → HasFile name a o m → Appends name b answer m n → Leaves name bytes answer o n
piece_refused write.Done name a b rest bytes o m n refused all file one = absurd (refused refl)
piece_refused write.Failed name a b rest bytes o m n refused all file one = file_prefix name a b rest bytes o m n all file one
piece_refused write.NoMemory name a b rest bytes o m n refused all file one = file_prefix name a b rest bytes o m n all file one
