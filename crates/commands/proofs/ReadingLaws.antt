-- What the words that are left read as.
use Rattle.std.proofs.Common.{◌≡◌, ◌≤◌, true, false, List, [], ◌∷◌, ◌++◌, length, map, Option, Some, None, refl, sym, ap, subst, ◌∙◌, append_assoc}
use Rattle.std.proofs.lemmas.List.{append-nil, map-append}
use Rattle.std.specs.Option.{MatchOption, option_map}
use Rattle.std.specs.Prelude.{option_and_then, IfSome, if◌then◌else◌}
use Rattle.commands.specs.declared.reading.Kind.TheVariants.{End, Plain, Flag, Valued, Joined, Refused}
use Rattle.commands.specs.Reading.{Word, Allowed, Read, nothing, with_plain, with_option, is_dashed, is_among, is_distinct, names, name_of, value_of, kind_of, by_kind, read_all, once, read_words}
use Rattle.commands.specs.inner.Progress.{plain_also, plain_behind, given_also, appended, outcome}
use Rattle.commands.proofs.DistinctLaws.{distinct_not}

-- how the words behind a first one read where the next word is its value
next : Allowed → Word → List Word → Option Read
next allowed w [] = None
next allowed w (v ∷ words) = if is_dashed v then None else option_map (with_option w v) (read_all allowed words)

read_first : (allowed : Allowed) (w : Word) (words : List Word) → read_all allowed (w ∷ words) ≡ by_kind (kind_of allowed w) w words (read_all allowed words) (next allowed w words)
unfolding read_all next
read_first allowed w [] = refl
read_first allowed w (v ∷ words) = refl

-- how words read behind others
abbrev behind : Read → Option Read → Option Read
behind front o = option_and_then (λ rest. once (appended front rest)) o

plain_more : (front : Read) (w : Word) (o : Option Read) → behind (plain_also w front) o ≡ behind front (option_map (with_plain w) o)
plain_more front w None = refl
plain_more front w (Some rest) = ap (λ l. once (record { plain = l; given = front.given ++ rest.given })) (append_assoc front.plain (w ∷ []) rest.plain)

given_more : (front : Read) (name value : Word) (o : Option Read) → behind (given_also name value front) o ≡ behind front (option_map (with_option name value) o)
given_more front name value None = refl
given_more front name value (Some rest) = ap (λ l. once (record { plain = front.plain ++ rest.plain; given = l })) (append_assoc front.given ((name, value) ∷ []) rest.given)

given_twice : (front : Read) (name value : Word) (o : Option Read) → is_among (names front) name ≡ true → behind front (option_map (with_option name value) o) ≡ None
given_twice front name value None e = refl
given_twice front name value (Some rest) e =
    let twice : is_distinct (map (λ (g : Word × Word). g.0) (front.given ++ (name, value) ∷ rest.given)) ≡ false =
    rw (map-append (λ (g : Word × Word). g.0) front.given ((name, value) ∷ rest.given)) (distinct_not (names front) name (map (λ (g : Word × Word). g.0) rest.given) e) in
    rw twice refl

-- the first word of those that are left, by its kind

end_reads : (allowed : Allowed) (front : Read) (w : Word) (words : List Word) → kind_of allowed w ≡ End → outcome allowed (plain_behind words front) [] ≡ outcome allowed front (w ∷ words)
unfolding outcome read_all
end_reads allowed front w words kind = rw (read_first allowed w words, kind) (ap (λ l. once (record { plain = l; given = front.given ++ [] })) (append-nil (front.plain ++ words)))

pub end_step : (allowed : Allowed) (front new : Read) (w : Word) (words : List Word) → kind_of allowed w ≡ End → new ≡ plain_behind words front → is_distinct (names front) ≡ true → (outcome allowed new [] ≡ outcome allowed front (w ∷ words)) × (is_distinct (names new) ≡ true)
end_step allowed front new w words kind e different = (ap (λ n. outcome allowed n []) e ∙ end_reads allowed front w words kind, ap (λ n. is_distinct (names n)) e ∙ different)

plain_reads : (allowed : Allowed) (front : Read) (w : Word) (words : List Word) → kind_of allowed w ≡ Plain → outcome allowed (plain_also w front) words ≡ outcome allowed front (w ∷ words)
unfolding outcome
plain_reads allowed front w words kind = rw (read_first allowed w words, kind) (plain_more front w (read_all allowed words))

pub plain_step : (allowed : Allowed) (front new : Read) (w : Word) (words : List Word) → kind_of allowed w ≡ Plain → new ≡ plain_also w front → is_distinct (names front) ≡ true → (outcome allowed new words ≡ outcome allowed front (w ∷ words)) × (is_distinct (names new) ≡ true)
plain_step allowed front new w words kind e different = (ap (λ n. outcome allowed n words) e ∙ plain_reads allowed front w words kind, ap (λ n. is_distinct (names n)) e ∙ different)

pub refused_step : (allowed : Allowed) (front : Read) (w : Word) (words : List Word) → kind_of allowed w ≡ Refused → outcome allowed front (w ∷ words) ≡ None
unfolding outcome
refused_step allowed front w words kind = rw (read_first allowed w words, kind) refl

-- how an option that is given reads

pub flag_reads : (allowed : Allowed) (front : Read) (w : Word) (words : List Word) → kind_of allowed w ≡ Flag → outcome allowed front (w ∷ words) ≡ behind front (option_map (with_option w []) (read_all allowed words))
unfolding outcome
flag_reads allowed front w words kind = rw (read_first allowed w words, kind) refl

pub joined_reads : (allowed : Allowed) (front : Read) (w : Word) (words : List Word) → kind_of allowed w ≡ Joined → outcome allowed front (w ∷ words) ≡ behind front (option_map (with_option (name_of w) (value_of w)) (read_all allowed words))
unfolding outcome
joined_reads allowed front w words kind = rw (read_first allowed w words, kind) refl

pub valued_reads : (allowed : Allowed) (front : Read) (w v : Word) (words rest : List Word) → kind_of allowed w ≡ Valued → words ≡ v ∷ rest → is_dashed v ≡ false → outcome allowed front (w ∷ words) ≡ behind front (option_map (with_option w v) (read_all allowed rest))
unfolding outcome next
valued_reads allowed front w v words rest kind split bare = rw (split, read_first allowed w (v ∷ rest), kind, bare) refl

pub valued_dashed : (allowed : Allowed) (front : Read) (w v : Word) (words rest : List Word) → kind_of allowed w ≡ Valued → words ≡ v ∷ rest → is_dashed v ≡ true → outcome allowed front (w ∷ words) ≡ None
unfolding outcome next
valued_dashed allowed front w v words rest kind split dashed = rw (split, read_first allowed w (v ∷ rest), kind, dashed) refl

pub valued_last : (allowed : Allowed) (front : Read) (w : Word) (words : List Word) → kind_of allowed w ≡ Valued → words ≡ [] → outcome allowed front (w ∷ words) ≡ None
unfolding outcome next
valued_last allowed front w words kind split = rw (split, read_first allowed w [], kind) refl

-- an option that is given once goes on, and one that is given twice ends the reading
pub option_step : {X L : Type 0} (allowed : Allowed) (front new : Read) (name value : Word) (all : List Word) (words : L → List Word) (left : L) (now : X → L) (answer : Option X)
    → outcome allowed front all ≡ behind front (option_map (with_option name value) (read_all allowed (words left)))
    → MatchOption answer (is_among (names front) name ≡ true) (λ l. (now l ≡ left) × (new ≡ given_also name value front) × (is_distinct (names new) ≡ true))
    → MatchOption answer (outcome allowed front all ≡ None) (λ l. (outcome allowed new (words (now l)) ≡ outcome allowed front all) × (is_distinct (names new) ≡ true))
unfolding outcome
option_step allowed front new name value all words left now None reads twice = reads ∙ given_twice front name value (read_all allowed (words left)) twice
option_step allowed front new name value all words left now (Some l) reads (same, added, different) =
    (ap (λ n. behind n (read_all allowed (words (now l)))) added ∙ ap (λ ws. behind (given_also name value front) (read_all allowed (words ws))) same ∙ given_more front name value (read_all allowed (words left)) ∙ sym reads, different)

-- the words that are left behind an option are those behind it
pub option_shorter : {X A : Type 0} (front new : Read) (name value : Word) (left all : List A) (now : X → List A) (answer : Option X) → length left ≤ length all
    → MatchOption answer (is_among (names front) name ≡ true) (λ l. (now l ≡ left) × (new ≡ given_also name value front) × (is_distinct (names new) ≡ true)) → IfSome answer (λ l. length (now l) ≤ length all)
option_shorter front new name value left all now None few is = tt
option_shorter front new name value left all now (Some l) few is = subst (λ words. length words ≤ length all) (sym is.0) few

-- all words are left at the start, and none at the end

behind_nothing : (o : Option Read) → behind nothing o ≡ option_and_then once o
behind_nothing None = refl
behind_nothing (Some rest) = refl

pub at_start : (allowed : Allowed) (front : Read) (words : List Word) → front ≡ nothing → outcome allowed front words ≡ read_words allowed words
unfolding outcome read_words
at_start allowed front words e = ap (λ r. behind r (read_all allowed words)) e ∙ behind_nothing (read_all allowed words)

pub at_last : (allowed : Allowed) (front : Read) (words : List Word) (total : Option Read) → words ≡ [] → is_distinct (names front) ≡ true → outcome allowed front words ≡ total → Some front ≡ total
unfolding outcome read_all
at_last allowed front words total none different e =
    let one : outcome allowed front words ≡ Some front = rw (none, append-nil front.plain, append-nil front.given, different) refl in
    sym one ∙ e

pub names_more : (front : Read) (name value : Word) → names (given_also name value front) ≡ names front ++ name ∷ []
names_more front name value = map-append (λ (g : Word × Word). g.0) front.given ((name, value) ∷ [])
