-- Words that are read in part.
use Rattle.std.specs.Prelude.{List, [], ◌∷◌, ◌++◌, Option, option_and_then}
use Rattle.commands.specs.Reading.{Word, Allowed, Read, read_all, once}

-- one plain word more, several ones, and one option more
abbrev pub plain_also : Word → Read → Read
plain_also word r = record { plain = r.plain ++ word ∷ []; given = r.given }

abbrev pub plain_behind : List Word → Read → Read
plain_behind words r = record { plain = r.plain ++ words; given = r.given }

abbrev pub given_also : Word → Word → Read → Read
given_also name value r = record { plain = r.plain; given = r.given ++ (name, value) ∷ [] }

-- one reading behind another
abbrev pub appended : Read → Read → Read
appended front rest = record { plain = front.plain ++ rest.plain; given = front.given ++ rest.given }

-- what all words read as, where the first ones read so and these are left
unfoldable pub outcome : Allowed → Read → List Word → Option Read
outcome allowed front words = option_and_then (λ rest. once (appended front rest)) (read_all allowed words)
