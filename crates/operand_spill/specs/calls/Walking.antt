-- What a walk over a body keeps, and what becomes of it.
use Rattle.std.specs.Prelude.{List, [], ◌∷◌, Option}
use Rattle.wasm_syntax.specs.declared.value.ValType.{ValType}
use Rattle.rewrite_bodies.specs.calls.Slots.{Place, grown, under}
use Rattle.rewrite_bodies.specs.calls.Typed.{end_gives}
use Rattle.operand_spill.specs.declared.labels.Label.{Label}
use Rattle.operand_spill.specs.declared.labels.OpenBlock.{OpenBlock}
use Rattle.operand_spill.specs.calls.Labels.{info}

-- what the body gives, the places of the operands, the topmost first, and the open blocks, the innermost first
pub record Walking : Type 0 where
  pub gives : Option ValType
  pub places : List Place
  pub opens : List OpenBlock

abbrev pub walking : Option ValType → List Place → List OpenBlock → Walking
walking gives places opens = record { gives = gives; places = places; opens = opens }

-- with other places
abbrev pub with_places : Walking → List Place → Walking
with_places w places = walking w.gives places w.opens

abbrev pub opened : Label → List Place → OpenBlock
opened label saved = record { label = label; saved = saved }

-- before the first instruction of a body
abbrev pub at_start : Option ValType → Walking
at_start gives = walking gives [] []

-- behind the beginning of a block, under which there are no copies
abbrev pub opening : Label → Walking → Walking
opening label w = walking w.gives (under w.places) (opened label (under w.places) ∷ w.opens)

-- the places behind an open block
abbrev pub behind_block : OpenBlock → List Place
behind_block o = grown (end_gives (info o.label)) o.saved

-- behind the `else` of the innermost block, and behind its `end`
abbrev pub alternating_in : Walking → List OpenBlock → Walking
alternating_in w [] = w
alternating_in w (o ∷ os) = with_places w o.saved

abbrev pub alternating : Walking → Walking
alternating w = alternating_in w w.opens

abbrev pub closing_in : Walking → List OpenBlock → Walking
closing_in w [] = w
closing_in w (o ∷ os) = walking w.gives (behind_block o) os

abbrev pub closing : Walking → Walking
closing w = closing_in w w.opens
