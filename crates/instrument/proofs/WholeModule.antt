-- What is put together of accepted bodies is a rewriting.
use Rattle.std.proofs.Common.{◌≡◌, ℕ, zero, suc, ◌+◌, ◌^◌, ◌<◌, List, [], ◌∷◌, ◌++◌, length, map, Bool, true, false, if◌then◌else◌, refl, sym, ap, ap₂, ◌∙◌, lit<, arith, length-append}
use Rattle.std.specs.List.{AllByRecursion}
use Rattle.std.proofs.lemmas.List.{length-map, map-append}
use Rattle.wasm_syntax.specs.declared.parts.Global.{Global}
use Rattle.wasm_syntax.specs.declared.parts.Body.{Body}
use Rattle.wasm_syntax.specs.declared.module.ModuleParts.{ModuleParts as Module}
use Rattle.wasm_syntax.specs.declared.place.Place.TheVariants.{ElementAt}
use Rattle.wasm_syntax.specs.Module.{Program, IsModule, IsExpression, function_types}
use Rattle.wasm_syntax.specs.Sizes.{WithinLimits}
use Rattle.wasm_syntax.specs.Valid.{Valid, There, AtIndex, ElementFine}
use Rattle.wasm_encode.specs.Encoding.{function_type_bytes}
use Rattle.wasm_laws.proofs.Lists.{all_of, all_append, all_map}
use Rattle.wasm_syntax.specs.declared.parts.ElementSeg.{ElementSeg}
use Rattle.wasm_syntax.specs.Run.{table_min, element_at}
use Rattle.rewrite_bodies.specs.Numbering.{mapped, doubles, wrapped, helped}
use Rattle.wasm_syntax.specs.SameCode.{body_code, global_code, element_code, code_alone}
use Rattle.rewrite_modules.specs.calls.Given.{Given}
use Rattle.rewrite_modules.specs.calls.Instrument.{wrapper_type, number_init, flag_global, length_global, shown_element, inner_element, shown_elements, new_module}
use Rattle.rewrite_modules.specs.Instrumentable.{program_of}
use Rattle.rewrite_modules.specs.Weight.{types_used}
use Rattle.rewrite_modules.proofs.Modules.{module_given}
use Rattle.rewrite_modules.proofs.Theorem.{startable_given, ready_given}
use Rattle.rewrite_modules.proofs.ValidModule.{new_valid}
use Rattle.wasm_format_laws.proofs.Totals.{total_many}
use Rattle.rewrite_promise.proofs.Lists.{within, type_some}
use Rattle.rewrite_promise.specs.calls.Promise.{Accepted, IsRewriting, Promised}
use Rattle.rewrite_promise.proofs.Laid.{laid, laid_is, laid_same, number_is}
use Rattle.rewrite_promise.proofs.Kept.{promised}
use Rattle.rewrite_promise.specs.calls.Layers.{Layered}
use Rattle.rewrite_promise.proofs.Layered.{layered}
use Rattle.index_map.proofs.Trees.{helped_used}
use Rattle.instrument.specs.calls.Assembly.{AreBodies}
use Rattle.instrument.specs.inner.Parts.{ElementThere, number_code, written_element, written_elements, flag, measure, new_parts}
use Rattle.instrument.proofs.Trees.{valid_trees, all_in_order}
use Rattle.rewrite_modules.proofs.EncodedLengths.{contents_least}

-- ---- what making the parts asks

all_at : {A : Type 0} (P : A → Type 0) (xs : List A) → AtIndex xs (λ _ x. P x) → AllByRecursion P xs
all_at P [] h = tt
all_at P (x ∷ xs) h = (h zero x refl, all_at P xs (λ i y e. h (suc i) y e))

there_as : {A : Type 0} (P Q : A → Type 0) (xs : List A) (i : ℕ) → ((x : A) → P x → Q x) → There xs i P → There xs i Q
there_as P Q [] i go h = h
there_as P Q (x ∷ xs) zero go h = go x h
there_as P Q (x ∷ xs) (suc i) go h = there_as P Q xs i go h

pub elements_there : (m : Module) → Valid m → AllByRecursion (ElementThere m) m.elements
elements_there m valid =
    all_of (ElementThere m) m.elements (λ i. there_as (ElementFine m) (ElementThere m) m.elements i (λ e fine. all_at (λ f. f < length (function_types m)) e.functions fine.2) (valid (ElementAt i)))

pub few_types : (m : Module) → Accepted m → length m.types + 3 < 2 ^ 32
few_types m a =
    let some = total_many (λ t. length (function_type_bytes t)) m.types type_some in
    omega (arith, some, contents_least m, a.sized.no_shorter, a.sized.within_limit)

-- ---- the module

module _ (m : Module) (bodies : List Body) (are : AreBodies m bodies) where
  abbrev a : Accepted m
  a = are.accepted

  abbrev p : Program
  p = program_of m a.premises.whole

  abbrev new : Module
  new = new_module p

  abbrev made : Module
  made = new_parts m bodies

  given : Given p
  given = module_given m a.premises

  valid : Valid new
  valid = new_valid p (ready_given p given) a.premises.valid (startable_given p given).typed a.premises.whole.write a.premises.no_export_collision

  whole : IsModule (laid p)
  whole = laid_is p a.premises.whole valid

  laid_code : map body_code new.bodies ≡ map body_code (laid p).bodies
  laid_code = ap (λ (x : Module). x.bodies) (laid_same p)

  used : helped p ≡ types_used m
  used = helped_used p a.premises.whole.write

  limits : WithinLimits (laid p)
  limits = within m (laid p) a.premises a.sized (laid_same p) refl

  as_many : length made.bodies ≡ length made.functions
  as_many =
      let ws = map (wrapper_type m) (wrapped m) in
      let one = length-map bodies body_code in
      let two = length-map new.bodies body_code in
      let three = length-map (laid p).bodies body_code in
      let four = length-append m.functions (ws ++ map (λ u. length m.types + 3) (types_used m)) in
      let five = length-append ws (map (λ u. length m.types + 3) (types_used m)) in
      let six = length-append m.functions (ws ++ map (λ u. length m.types + 3) (helped p)) in
      let seven = length-append ws (map (λ u. length m.types + 3) (helped p)) in
      let eight = length-map (types_used m) (λ (u : ℕ). length m.types + 3) in
      let nine = length-map (helped p) (λ (u : ℕ). length m.types + 3) in
      omega (arith, one, two, three, four, five, six, seven, eight, nine, ap length are.code, ap length laid_code, ap length used, whole.as_many)

  -- the offsets of the segments are expressions: those of the module, and numbers
  written_is : AllByRecursion (λ (e : ElementSeg). IsExpression e.offset) (written_elements m)
  written_is = all_append (λ (e : ElementSeg). IsExpression e.offset) (shown_elements m) (map (written_element m) m.elements) (in_front (doubles m)) (behind (doubles m))
    where
      own : AllByRecursion (λ (e : ElementSeg). IsExpression e.offset) m.elements
      own = a.premises.whole.elements

      in_front : (q : Bool) → AllByRecursion (λ (e : ElementSeg). IsExpression e.offset) (if q then map (shown_element m) m.elements else [])
      in_front false = tt
      in_front true = all_map (λ (e : ElementSeg). IsExpression e.offset) (shown_element m) m.elements own

      behind : (q : Bool) → AllByRecursion (λ (e : ElementSeg). IsExpression e.offset) (map (λ e. record { table = e.table; offset = if q then number_code (element_at m e + table_min m.tables) else e.offset; functions = map (mapped m) e.functions }) m.elements)
      behind false = all_map (λ (e : ElementSeg). IsExpression e.offset) (λ e. record { table = e.table; offset = e.offset; functions = map (mapped m) e.functions }) m.elements own
      behind true = numbers m.elements
        where
          numbers : (es : List ElementSeg) → AllByRecursion (λ (e : ElementSeg). IsExpression e.offset) (map (λ e. record { table = e.table; offset = number_code (element_at m e + table_min m.tables); functions = map (mapped m) e.functions }) es)
          numbers [] = tt
          numbers (e ∷ es) = (number_is (element_at m e + table_min m.tables), numbers es)

  pub made_whole : IsModule made
  made_whole =
      let trees = valid_trees new bodies valid are.code in
      record {
        trees = trees.0;
        write = trees.1;
        in_order = all_in_order bodies (laid p).bodies (are.code ∙ laid_code) limits.short.each_body are.ascend whole.in_order;
        as_many = as_many;
        globals = whole.globals;
        elements = written_is;
        segments = whole.segments;
        import_modules = whole.import_modules;
        import_names = whole.import_names;
        export_names = whole.export_names;
        custom_names = tt;
      }

  abbrev with_types : List ℕ → List ℕ
  with_types us = m.functions ++ (map (wrapper_type m) (wrapped m) ++ map (λ u. length m.types + 3) us)

  made_same : code_alone new ≡ code_alone made
  made_same = same functions globals elements (sym are.code)
    where
      functions : with_types (helped p) ≡ with_types (types_used m)
      functions = ap with_types used

      globals : map global_code (m.globals ++ flag_global ∷ length_global m ∷ []) ≡ map global_code (m.globals ++ flag ∷ measure m ∷ [])
      globals = map-append global_code m.globals (flag_global ∷ length_global m ∷ []) ∙ sym (map-append global_code m.globals (flag ∷ measure m ∷ []))

      written : (q : Bool) (e : ElementSeg) → element_code (record { table = e.table; offset = if q then number_init (element_at m e + table_min m.tables) else e.offset; functions = map (mapped m) e.functions }) ≡ element_code (record { table = e.table; offset = if q then number_code (element_at m e + table_min m.tables) else e.offset; functions = map (mapped m) e.functions })
      written false e = refl
      written true e = refl

      each_written : (es : List ElementSeg) → map element_code (map (inner_element m) es) ≡ map element_code (map (written_element m) es)
      each_written [] = refl
      each_written (e ∷ es) = ap₂ (λ x xs. x ∷ xs) (written (doubles m) e) (each_written es)

      elements : map element_code (shown_elements m ++ map (inner_element m) m.elements) ≡ map element_code (written_elements m)
      elements = map-append element_code (shown_elements m) (map (inner_element m) m.elements) ∙ ap (λ z. map element_code (shown_elements m) ++ z) (each_written m.elements) ∙ sym (map-append element_code (shown_elements m) (map (written_element m) m.elements))

      same : {fs fs' : List ℕ} {gs gs' : List Global} {es es' : List ElementSeg} {bs bs' : List Body} → fs ≡ fs' → gs ≡ gs' → es ≡ es' → bs ≡ bs' → ◌≡◌ {A = Module} (record (code_alone new) { functions = fs; globals = gs; elements = es; bodies = bs }) (record (code_alone new) { functions = fs'; globals = gs'; elements = es'; bodies = bs' })
      same f g e b = cc

  pub made_rewriting : IsRewriting m made
  made_rewriting = record {
    whole = a.premises.whole;
    other_whole = made_whole;
    same = made_same;
    few_customs = lit< tt;
    short_names = tt;
  }

  pub made_promised : Promised m made
  made_promised = promised m made a made_rewriting

  pub made_layered : Layered m made
  made_layered = layered m made a made_rewriting
