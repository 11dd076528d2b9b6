-- Classes of type entries by their tags (DWARF 4, chapter 5).
use Rattle.std.specs.Prelude.{ℕ, ◌==◌, ◌||◌, if◌then◌else◌}
use Rattle.dwarf_entries.specs.Tags.{tag_array, tag_class, tag_enumeration, tag_pointer, tag_reference, tag_structure, tag_typedef, tag_union, tag_base, tag_const, tag_volatile, tag_restrict, tag_rvalue_reference}
use Rattle.dwarf_types.specs.declared.class.Class.{Class}
use Rattle.dwarf_types.specs.declared.class.Class.TheVariants as classes

unfoldable pub class_of : ℕ → Class
class_of tag =
    if tag == tag_typedef || tag == tag_const || tag == tag_volatile || tag == tag_restrict then classes.Passed
    else (if tag == tag_pointer || tag == tag_reference || tag == tag_rvalue_reference then classes.Pointing
    else (if tag == tag_structure || tag == tag_class || tag == tag_union then classes.Members
    else (if tag == tag_array then classes.Array
    else (if tag == tag_enumeration then classes.Enumeration
    else (if tag == tag_base then classes.Base
    else classes.Another)))))
