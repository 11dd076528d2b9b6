-- Members stand in the source of their structure.
use Rattle.std.proofs.Common.{◌≡◌, ◌∙◌, sym, ap, Option, Some, None}
use Rattle.std.specs.Prelude.{ℕ, ℤ, option_map}
use Rattle.dwarf_info.specs.declared.entry.AttrValue.{AttrValue}
use Rattle.dwarf_info.specs.declared.entry.Entry.{Entry}
use Rattle.dwarf_info.specs.Attributes.{attribute, valued, as_number}
use Rattle.dwarf_entries.specs.Names.{as_natural, at_bit_size, at_data_bit_offset, at_data_member_location}
use Rattle.var_values.specs.declared.source.Source.{Source}
use Rattle.var_values.specs.declared.bits.Bits.{Bits}
use Rattle.var_values.specs.Places.{Place, further}
use Rattle.var_values.specs.Members.{at_location, at_bits, part_at}

moved : (p q : Place) (z : Option ℤ) → option_map (further p) z ≡ Some q → p.source ≡ q.source
moved p q None is = absurd cc
moved p q (Some z) is = let same : further p z ≡ q = cc in ap (λ (r : Place). r.source) same

located : (p q : Place) (v : Option AttrValue) → at_location p v ≡ Some q → p.source ≡ q.source
located p q None is = let same : p ≡ q = cc in ap (λ (r : Place). r.source) same
located p q (Some v) is = moved p q (as_number v) is

in_field : (p q : Place) (count first : Option ℕ) → at_bits p count first ≡ Some q → p.source ≡ q.source
in_field p q (Some count) (Some first) is =
    let field : Bits = record { first = first; count = count } in
    let place : Place = record { source = p.source; offset = p.offset; bits = Some field } in
    let same : place ≡ q = cc in ap (λ (r : Place). r.source) same
in_field p q (Some count) None is = absurd cc
in_field p q None first is = absurd cc

kept_source : (p q : Place) (e : Entry) → part_at p e ≡ Some q → p.source ≡ q.source
unfolding part_at
kept_source p q e is = by_size (attribute at_bit_size e.attributes) is
  where
    by_size : (size : Option AttrValue)
        → elim size [ None ↦ at_location p (attribute at_data_member_location e.attributes) | Some v ↦ at_bits p (valued as_natural at_bit_size e.attributes) (valued as_natural at_data_bit_offset e.attributes) ] ≡ Some q
        → p.source ≡ q.source
    by_size None is = located p q (attribute at_data_member_location e.attributes) is
    by_size (Some v) is = in_field p q (valued as_natural at_bit_size e.attributes) (valued as_natural at_data_bit_offset e.attributes) is

-- the place of a member, from its offset and its bits
pub place_told : (p q : Place) (e : Entry) (z : ℤ) (b : Option Bits) → Some q ≡ part_at p e → z ≡ q.offset → b ≡ q.bits → Some (record { source = p.source; offset = z; bits = b }) ≡ part_at p e
place_told p q e z b is offset bits =
    let place : Source → ℤ → Option Bits → Place = λ s o c. record { source = s; offset = o; bits = c } in
    let same : place p.source z b ≡ q = ap (λ (s : Source). place s z b) (kept_source p q e (sym is)) ∙ ap (λ (o : ℤ). place q.source o b) offset ∙ ap (λ (c : Option Bits). place q.source q.offset c) bits in
    ap (λ (r : Place). Some r) same ∙ is
