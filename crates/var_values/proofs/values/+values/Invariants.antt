use Rattle.std.proofs.Common.{◌≡◌, ◌+◌, ◌*◌, ◌++◌, drop}
use Rattle.std.specs.Prelude.{map, codes}
use Rattle.var_values.specs.Values.{value_text, item_text, braced}
use Rattle.var_values.specs.inner.Parts.{joined, element_text}
use Rattle.var_values.specs.inner.Odometer.{levels_behind, AreSound, rows_left, rows_text, extent}
use Rattle.var_values.proofs.values.+values.Given as goal

abbrev pub decreases-push_within : goal.decreases-push_within
decreases-push_within l = 16 * l.most + 1

abbrev pub decreases-push_sized : goal.decreases-push_sized
decreases-push_sized l = 16 * l.further + 9

abbrev pub decreases-push_content : goal.decreases-push_content
decreases-push_content l = 16 * l.further + 8

abbrev pub decreases-push_members : goal.decreases-push_members
decreases-push_members l = 16 * l.further + 7

abbrev pub decreases-push_item : goal.decreases-push_item
decreases-push_item l = 16 * l.further + 6

abbrev pub decreases-push_array : goal.decreases-push_array
decreases-push_array l = 16 * l.further + 7

abbrev pub decreases-push_known : goal.decreases-push_known
decreases-push_known l = 16 * l.further + 6

abbrev pub decreases-push_rows : goal.decreases-push_rows
decreases-push_rows l = 16 * l.further + 5

abbrev pub decreases-push_member : goal.decreases-push_member
decreases-push_member l = 16 * l.further + 5

abbrev pub decreases-push_member_value : goal.decreases-push_member_value
decreases-push_member_value l = 16 * l.further + 4

abbrev pub decreases-push_in_place : goal.decreases-push_in_place
decreases-push_in_place l = 16 * l.most + 2

abbrev pub invariant-push_members-loop-item : goal.invariant-push_members-loop-item
invariant-push_members-loop-item l =
    l.text ++ (joined l.is_first (map (item_text l.context.units.now (value_text l.context.units.now l.context.view.now.memory l.further) l.place) (drop l.item-index l.entries)) ++ codes "}")
    ≡ l.fn.text ++ braced (map (item_text l.context.units.now (value_text l.context.units.now l.context.view.now.memory l.further) l.place) l.entries)

abbrev pub invariant-push_rows-elements : goal.invariant-push_rows-elements
invariant-push_rows-elements l = record {
  sound : AreSound l.array l.rows;
  rest : l.text ++ rows_left (element_text l.context.units.now l.context.view.now.memory l.further l.element l.place) l.array l.rows
      ≡ l.fn.text ++ rows_text (element_text l.context.units.now l.context.view.now.memory l.further l.element l.place) (levels_behind l.array l.skipped) 0;
}

abbrev pub decreases-push_rows-elements : goal.decreases-push_rows-elements
decreases-push_rows-elements l = extent l.array l.rows
