-- How the words behind a command are read: plain words and options.
use Rattle.std.specs.Prelude.{ℕ, Bool, true, false, not, ◌&&◌, List, [], ◌∷◌, length, map, ◌==◌, nat_lt, Option, Some, None, if◌then◌else◌, codes, option_and_then}
use Rattle.std.specs.List.{list_any, find, before_first, after_first}
use Rattle.std.specs.Option.{option_map}
use Rattle.std.specs.Str.{bytes_eq}
use Rattle.commands.specs.declared.reading.Kind.{Kind}
use Rattle.commands.specs.declared.reading.Kind.TheVariants.{End, Plain, Flag, Valued, Joined, Refused}

abbrev pub Word : Type 0
Word = List ℕ

-- the options of a command, with their dashes: those that take a value, and those that take none
pub record Allowed : Type 0 where
  pub valued : List Word
  pub flags : List Word

abbrev pub no_options : Allowed
no_options = record { valued = []; flags = [] }

-- the plain words, and the options with their values; a flag has an empty one
pub record Read : Type 0 where
  pub plain : List Word
  pub given : List (Word × Word)

abbrev pub nothing : Read
nothing = record { plain = []; given = [] }

abbrev pub with_plain : Word → Read → Read
with_plain word r = record { plain = word ∷ r.plain; given = r.given }

abbrev pub with_option : Word → Word → Read → Read
with_option name value r = record { plain = r.plain; given = (name, value) ∷ r.given }

-- a word longer than one byte that begins with a dash
abbrev pub is_dashed : Word → Bool
is_dashed [] = false
is_dashed (b ∷ bs) = (b == 45) && nat_lt 0 (length bs)

abbrev pub is_among : List Word → Word → Bool
is_among words word = list_any (λ w. bytes_eq w word) words

-- the parts of `--x=v`; a word without `=` is a name
abbrev pub name_of : Word → Word
name_of word = before_first (λ b. b == 61) word

abbrev pub value_of : Word → Word
value_of word = after_first (λ b. b == 61) word

-- what a word is, where it is no value and no `--` stands before it
unfoldable pub kind_of : Allowed → Word → Kind
kind_of allowed word =
    if bytes_eq word (codes "--") then End
    else (if not (is_dashed word) then Plain
    else (if is_among allowed.flags word then Flag
    else (if is_among allowed.valued word then Valued
    else (if is_among allowed.valued (name_of word) then Joined
    else Refused))))

-- A first word of this kind with the words behind it, which read so, or so where the next word is its value.
abbrev pub by_kind : Kind → Word → List Word → Option Read → Option Read → Option Read
by_kind End word behind rest next = Some (record { plain = behind; given = [] })
by_kind Plain word behind rest next = option_map (with_plain word) rest
by_kind Flag word behind rest next = option_map (with_option word []) rest
by_kind Valued word behind rest next = next
by_kind Joined word behind rest next = option_map (with_option (name_of word) (value_of word)) rest
by_kind Refused word behind rest next = None

-- All words. A value in a word of its own is not dashed.
unfoldable pub read_all : Allowed → List Word → Option Read
read_all allowed [] = Some nothing
read_all allowed (w ∷ []) = by_kind (kind_of allowed w) w [] (Some nothing) None
read_all allowed (w ∷ v ∷ words) = by_kind (kind_of allowed w) w (v ∷ words) (read_all allowed (v ∷ words)) (if is_dashed v then None else option_map (with_option w v) (read_all allowed words))

abbrev pub is_distinct : List Word → Bool
is_distinct [] = true
is_distinct (word ∷ words) = not (is_among words word) && is_distinct words

abbrev pub names : Read → List Word
names r = map (λ g. g.0) r.given

-- the value of the option of this name, where it is given
abbrev pub given_value : Word → Read → Option Word
given_value name r = option_map (λ g. g.1) (find (λ g. bytes_eq g.0 name) r.given)

-- each option at most once
abbrev pub once : Read → Option Read
once r = if is_distinct (names r) then Some r else None

unfoldable pub read_words : Allowed → List Word → Option Read
read_words allowed words = option_and_then once (read_all allowed words)
