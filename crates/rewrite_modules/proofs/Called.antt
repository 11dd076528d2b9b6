-- What a host calls in the rewritten module, by a name or by an entry of the table, is outside what the original has there.
use Rattle.std.proofs.Common.{◌≡◌, ℕ, ◌+◌, ◌<◌, List, [], ◌∷◌, ◌++◌, length, map, Option, Some, None, Bool, true, false, nat_lt, if◌then◌else◌, inl, inr, refl, sym, ap, ◌∙◌, subst, arith, slice_get, option_map}
use Rattle.std.proofs.lemmas.Option.{slice_get-map}
use Rattle.wasm_syntax.specs.declared.module.ModuleParts.{ModuleParts as Module}
use Rattle.wasm_syntax.specs.Module.{Program, function_export, option_then}
use Rattle.wasm_syntax.specs.Run.{table_min}
use Rattle.rewrite_bodies.specs.calls.Guards.{first_table}
use Rattle.rewrite_bodies.specs.Numbering.{import_count, mapped, shown, place_in, table_functions, doubles, new_entries, table_wraps, named_wrapped, wrapped, wrapper_base}
use Rattle.rewrite_modules.specs.calls.Instrument.{new_module}
use Rattle.rewrite_modules.specs.Entries.{Target, Named, Entry, function_of, Reaches}
use Rattle.rewrite_bodies.proofs.Doubled.{first_long}
use Rattle.rewrite_modules.proofs.Links.{get_right, place_has}
use Rattle.rewrite_modules.proofs.Listed.{place_inside, table_has, first_listed, slice_get_none}
use Rattle.rewrite_modules.proofs.Start.{Outside, named, unnamed}
use Rattle.pm_text.proofs.Lists.{get_front, some_is}

-- a function of the table stands behind its wrapper
pub shown_outside : (m : Module) (i f : ℕ) → doubles m ≡ true → slice_get (first_table m) i ≡ Some (Some f) → Outside m f (shown m f)
shown_outside m i f d at = by (nat_lt f (import_count m)) refl
  where
    place : ℕ
    place = place_in f (table_functions m)

    by : (q : Bool) → nat_lt f (import_count m) ≡ q → Outside m f (shown m f)
    by true q = inl (ap (λ b. if b then f else wrapper_base m + (length (named_wrapped m) + place)) q, q)
    by false q =
        let is : shown m f ≡ wrapper_base m + (length (named_wrapped m) + place) = ap (λ b. if b then f else wrapper_base m + (length (named_wrapped m) + place)) q in
        let has = place_inside f (table_functions m) (table_has m f q (first_listed m i f at)) in
        let own : table_wraps m ≡ table_functions m = ap (λ b. if b then table_functions m else []) d in
        let there : slice_get (wrapped m) (length (named_wrapped m) + place) ≡ Some f = get_right (named_wrapped m) (table_wraps m) place (length (named_wrapped m) + place) refl ∙ ap (λ l. slice_get l place) own ∙ place_has f (table_functions m) has in
        inr (length (named_wrapped m) + place, is, there, q)

-- what stands in an entry for a host
pub shown_at : (m : Module) (t : List (Option ℕ)) (i : ℕ) (e : Option ℕ) → doubles m ≡ true → slice_get t i ≡ Some e → slice_get (new_entries m t) i ≡ Some (option_map (shown m) e)
shown_at m t i e d at =
    ap (λ q. slice_get ((if q then map (option_map (shown m)) t else []) ++ map (option_map (mapped m)) t) i) d
    ∙ get_front (map (option_map (shown m)) t) (map (option_map (mapped m)) t) i (option_map (shown m) e) (slice_get-map (option_map (shown m)) t i ∙ ap (option_map (option_map (shown m))) at)

pub record Called (p : Program) (t : Target) (f : ℕ) : Type 0 where
  pub there : ℕ
  pub found : function_of (new_module p) (new_entries p.module_ (first_table p.module_)) t ≡ Some there
  pub outside : Outside p.module_ f there

pub entry_is : (o : Option (Option ℕ)) (f : ℕ) → option_then o (λ f. f) ≡ Some f → o ≡ Some (Some f)
entry_is None f e = absurd (cc)
entry_is (Some e1) f e = ap Some e

pub called : (p : Program) (t : Target) (f : ℕ) → Reaches p.module_ t → function_of p.module_ (first_table p.module_) t ≡ Some f → Called p t f
called p (Named name) f r e = let n = named p name f e in record { there = n.there; found = n.found; outside = n.outside }
called p (Entry i) f r e =
    let m = p.module_ in
    let at = entry_is (slice_get (first_table m) i) f e in
    record { there = shown m f; found = ap (λ o. option_then o (λ f. f)) (shown_at m (first_table m) i (Some f) r.0 at); outside = shown_outside m i f r.0 at }

-- and what is none there is none here
pub uncalled : (p : Program) (t : Target) → Reaches p.module_ t → function_of p.module_ (first_table p.module_) t ≡ None → function_of (new_module p) (new_entries p.module_ (first_table p.module_)) t ≡ None
uncalled p (Named name) r e = unnamed p name e
uncalled p (Entry i) r e = by (slice_get (first_table p.module_) i) refl e
  where
    by : (o : Option (Option ℕ)) → slice_get (first_table p.module_) i ≡ o → option_then o (λ f. f) ≡ None → function_of (new_module p) (new_entries p.module_ (first_table p.module_)) (Entry i) ≡ None
    by None at q = absurd (let out = slice_get_none (first_table p.module_) i at in omega (arith, out, r.1, first_long p.module_ r.0))
    by (Some None) at q = ap (λ o. option_then o (λ f. f)) (shown_at p.module_ (first_table p.module_) i None r.0 at)
    by (Some (Some f)) at q = absurd (cc)
