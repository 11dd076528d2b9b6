-- Bodies that are put behind others, one by one.
use Rattle.std.proofs.Common.{◌≡◌, ℕ, zero, suc, ◌+◌, ◌<◌, ◌≤◌, List, [], ◌∷◌, ◌++◌, length, map, take, get_or, Some, slice_get, sym, ap, ◌∙◌, subst, arith, append_assoc}
use Rattle.std.proofs.lemmas.List.{map-append, take_all}
use Rattle.std.proofs.lemmas.Option.{slice_get-get_or}
use Rattle.wasm_syntax.specs.declared.parts.Body.{Body}
use Rattle.wasm_syntax.specs.declared.module.ModuleParts.{ModuleParts as Module}
use Rattle.rewrite_bodies.specs.calls.Guards.{helper}
use Rattle.rewrite_bodies.specs.Numbering.{helped}
use Rattle.wasm_syntax.specs.SameCode.{body_code}
use Rattle.rewrite_modules.specs.calls.FlatCode.{body_of}
use Rattle.rewrite_modules.specs.calls.Instrument.{each, new_module}
use Rattle.rewrite_promise.specs.calls.Promise.{Accepted}
use Rattle.index_map.proofs.Trees.{helped_used}
use Rattle.instrument.specs.calls.Assembly.{AreBodies}
use Rattle.unwind_rewrite.specs.calls.Rewritten.{Ascends, program_in}
use Rattle.instrument.specs.inner.Adding.{Adds, new_bodies, wrapper_bodies, helper_bodies}
use Rattle.wasm_decode.proofs.SoundSections.{all_more}
use Rattle.validate_body.proofs.StackLaws.{take_one}

pub one_added : (more old now : List Body) (i : ℕ) (x b : Body) → slice_get more i ≡ Some x → body_code b ≡ body_code x → Ascends b → Adds (take i more) old now → Adds (take (i + 1) more) old (now ++ b ∷ [])
one_added more old now i x b e same up a = record {
  code =
      map-append body_code now (b ∷ [])
      ∙ ap (λ zs. zs ++ body_code b ∷ []) a.code
      ∙ append_assoc (map body_code old) (map body_code (take i more)) (body_code b ∷ [])
      ∙ ap (λ zs. map body_code old ++ zs) (ap (λ z. map body_code (take i more) ++ z ∷ []) same ∙ sym (map-append body_code (take i more) (x ∷ [])) ∙ ap (map body_code) (sym (take_one more i x e)));
  ascend = λ h. all_more Ascends now b (a.ascend h) up;
}

pub all_taken : (more old now : List Body) (n : ℕ) → length more ≤ n → Adds (take n more) old now → Adds more old now
all_taken more old now n le a = subst (λ (zs : List Body). Adds zs old now) (take_all n more le) a

pub each_at : (go : ℕ → Body) (k : ℕ) (xs : List Body) (i : ℕ) (x : Body) → slice_get xs i ≡ Some x → slice_get (each go k xs) i ≡ Some (go (k + i))
each_at go k [] i x e = absurd cc
each_at go k (y ∷ ys) zero x e = let z : k ≡ k + 0 = omega arith in ap (λ n. Some (go n)) z
each_at go k (y ∷ ys) (suc i) x e = let z : suc k + i ≡ k + suc i = omega arith in each_at go (suc k) ys i x e ∙ ap (λ n. Some (go n)) z

pub mapped_at : (go : ℕ → Body) (xs : List ℕ) (i x : ℕ) → slice_get xs i ≡ Some x → slice_get (map go xs) i ≡ Some (go x)
mapped_at go [] i x e = absurd cc
mapped_at go (y ∷ ys) zero x e = let same : y ≡ x = cc in ap (λ z. Some (go z)) same
mapped_at go (y ∷ ys) (suc i) x e = mapped_at go ys i x e

pub item_at : (xs ys : List ℕ) (i : ℕ) → ys ≡ xs → i < length ys → slice_get xs i ≡ Some (get_or ys i 0)
item_at xs ys i e lt = subst (λ (zs : List ℕ). slice_get zs i ≡ Some (get_or ys i 0)) e (slice_get-get_or ys i 0 lt)

pub all_added : (m : Module) (a : Accepted m) (one two three : List Body) → Adds (new_bodies m a) [] one → Adds (wrapper_bodies m) one two → Adds (helper_bodies m) two three → AreBodies m three
all_added m a one two three f w h =
    let nb = map body_code (new_bodies m a) in
    let wb = map body_code (wrapper_bodies m) in
    let hb = map body_code (helper_bodies m) in
    let others : List Body = map (λ t. body_of [] (helper m t)) (helped (program_in m a)) in
    let used : others ≡ helper_bodies m = ap (map (λ t. body_of [] (helper m t))) (helped_used (program_in m a) a.premises.whole.write) in
    let is : (new_module (program_in m a)).bodies ≡ new_bodies m a ++ (wrapper_bodies m ++ helper_bodies m) = ap (λ zs. new_bodies m a ++ (wrapper_bodies m ++ zs)) used in
    record {
      accepted = a;
      code =
          h.code ∙ ap (λ zs. zs ++ hb) (w.code ∙ ap (λ zs. zs ++ wb) f.code) ∙ append_assoc nb wb hb
          ∙ ap (λ zs. nb ++ zs) (sym (map-append body_code (wrapper_bodies m) (helper_bodies m)))
          ∙ sym (map-append body_code (new_bodies m a) (wrapper_bodies m ++ helper_bodies m))
          ∙ ap (map body_code) (sym is);
      ascend = h.ascend (w.ascend (f.ascend tt));
    }
