-- The form of a code in one table in front of another.
use Rattle.std.proofs.Common.{◌≡◌, ℕ, ◌++◌, Option, Some, None, refl, ap, ◌∙◌}
use Rattle.std.specs.Prelude.{option_map, find, ◌==◌}
use Rattle.std.specs.Option.{option_or}
use Rattle.std.proofs.lemmas.List.Folds.{find-append}
use Rattle.dwarf_info.specs.declared.form.Form.{Form}
use Rattle.dwarf_info.specs.Forms.{Rows, form_of}

first_map : {A B : Type 0} (f : A → B) (o p : Option A) → option_map f (option_or o p) ≡ option_or (option_map f o) (option_map f p)
first_map f (Some x) p = refl
first_map f None p = refl

-- The first table counts.
pub form_of_both : (rows more : Rows) (code : ℕ) → form_of (rows ++ more) code ≡ option_or (form_of rows code) (form_of more code)
form_of_both rows more code =
    ap (option_map (λ row. row.1)) (find-append (λ row. row.0 == code) rows more)
    ∙ first_map (λ row. row.1) (find (λ row. row.0 == code) rows) (find (λ row. row.0 == code) more)

-- A code that the first table has not has the form that the other gives it.
pub form_behind : (rows more : Rows) (code : ℕ) → form_of rows code ≡ None → form_of (rows ++ more) code ≡ form_of more code
form_behind rows more code none = form_of_both rows more code ∙ ap (λ (o : Option Form). option_or o (form_of more code)) none
