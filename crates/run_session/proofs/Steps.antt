-- One more invocation of a list.
use Rattle.std.proofs.Common.{◌≡◌, ℕ, suc, ◌+◌, List, [], ◌∷◌, ◌++◌, length, sym, ap, ◌∙◌, append_assoc, arith, subst, None}
use Rattle.std.specs.Prelude.{IfSome}
use Rattle.std.proofs.lemmas.List.{append-nil, length-append}
use Rattle.wasm_syntax.specs.declared.host.Reply.{Reply}
use Rattle.wasm_syntax.specs.declared.host.Served.{Served}
use Rattle.wasm_syntax.specs.Machine.{Engine}
use Rattle.wasm_syntax.specs.Run.{Invocation, Ran}
use Rattle.host_devices.specs.Given.{replies_of}
use Rattle.host_devices.specs.Given.{unfitting}
use Rattle.run_session.specs.Telling.{Tells, told, torn_in}
use Rattle.run_session.specs.RunText.{invocation_text, dumps_from, traps_in, fitted, up_to_torn}
use Rattle.run_session.specs.Given.{given_in, given_to}
use Rattle.run_session.specs.calls.Progress.{Point, Made, session_from, CameOf, WentOn, HasCome, HasEnded}
use Rattle.run_session.proofs.Lists.{one_of, traps_more, dumps_more, last_more, fitted_more, zero_plus, none_torn_first, none_torn_more}
use Rattle.wasm_machine.proofs.SessionLaws.{all_fitted}
use Rattle.machine_hosted.proofs.CourseLaws.{replies_on}

-- what is made with one invocation more
abbrev pub with_ran : Tells → (base name : List ℕ) → Made → List Served → Ran → Made
with_ran tell base name made given r = record {
  text = made.text ++ invocation_text tell r;
  writes = made.writes ++ dumps_from tell base name made.traps (r ∷ []);
  traps = made.traps + traps_in tell (r ∷ []);
  given = made.given ++ given;
}

came_more : (tell : Tells) (base name : List ℕ) (rans : List Ran) (made : Made) (given : List Served) (r : Ran) → given ≡ given_to r → CameOf tell base name rans made → CameOf tell base name (rans ++ r ∷ []) (with_ran tell base name made given r)
came_more tell base name rans made given r is came = record {
  text = ap (λ t. t ++ invocation_text tell r) came.text ∙ sym (one_of (invocation_text tell) rans r);
  writes = ap (λ ws. ws ++ dumps_from tell base name made.traps (r ∷ [])) came.writes ∙ ap (λ j. dumps_from tell base name 0 rans ++ dumps_from tell base name j (r ∷ [])) (came.traps ∙ zero_plus (traps_in tell rans)) ∙ sym (dumps_more tell base name 0 rans r);
  traps = ap (λ n. n + traps_in tell (r ∷ [])) came.traps ∙ sym (traps_more tell rans r);
  given = ap (λ l. l ++ given) came.given ∙ ap (λ l. given_in rans ++ l) is ∙ sym (one_of given_to rans r);
}

-- how many replies fitted, and how many there are with one that does not fit
fit_more : (given also served unfit : List Served) (n : ℕ) → length given ≡ n → also ≡ served ++ unfit → length (given ++ also) ≡ (n + length served) + length unfit
fit_more given also served unfit n before is =
    length-append given also ∙ ap (λ k. k + length also) before ∙ ap (λ l. n + length l) is ∙ ap (λ k. n + k) (length-append served unfit) ∙ sums n (length served) (length unfit)
  where
    sums : (a b c : ℕ) → a + (b + c) ≡ (a + b) + c
    sums a b c = omega arith

counts : (all a b c : ℕ) → all ≡ a + suc b → c ≡ a + 1 → all ≡ c + b
counts all a b c e f = omega arith

-- the list goes on behind an invocation
pub goes_further : (tell : Tells) (M : Engine) (base name : List ℕ) (first there next : Point) (i : Invocation) (made : Made) (given : List Served) (r : Ran) (more : List Reply)
    → there.due ≡ i ∷ next.due → session_from M there (replies_of given ++ more) ≡ r ∷ session_from M next more
    → given ≡ given_to r → WentOn r → torn_in (told tell r) ≡ None
    → HasCome tell M base name first there made (replies_of given ++ more)
    → HasCome tell M base name first next (with_ran tell base name made given r) more
goes_further tell M base name first there next i made given r more due behind given_is on whole come = record {
  rans = come.rans ++ r ∷ [];
  is = ap (λ l. session_from M first l) (replies_on made.given given more) ∙ come.is ∙ ap (λ l. come.rans ++ l) behind ∙ sym (append_assoc come.rans (r ∷ []) (session_from M next more));
  counted = counts (length first.due) (length come.rans) (length next.due) (length (come.rans ++ r ∷ [])) (come.counted ∙ ap (λ l. length come.rans + length l) due) (length-append come.rans (r ∷ []));
  came_of = came_more tell base name come.rans made given r given_is come.came_of;
  fit = fit_more made.given given r.served (unfitting r.outcome) (fitted come.rans) come.fit given_is ∙ ap (λ l. (fitted come.rans + length r.served) + length l) (all_fitted r.outcome r.entered on.0) ∙ none (fitted come.rans + length r.served) ∙ sym (fitted_more come.rans r);
  went_on = subst (λ o. IfSome o WentOn) (sym (last_more come.rans r)) on;
  none_torn = none_torn_more tell come.rans r come.none_torn whole;
}
  where
    none : (n : ℕ) → n + 0 ≡ n
    none n = omega arith

-- the list ends behind an invocation, as its calls are torn or nothing comes behind it
pub ends_there : (tell : Tells) (M : Engine) (base name : List ℕ) (first there : Point) (i : Invocation) (is : List Invocation) (made : Made) (given : List Served) (r : Ran) (later : List Ran)
    → there.due ≡ i ∷ is → session_from M there (replies_of given ++ []) ≡ r ∷ later → up_to_torn tell (r ∷ later) ≡ r ∷ []
    → given ≡ given_to r
    → HasCome tell M base name first there made (replies_of given ++ [])
    → HasEnded tell M base name first (with_ran tell base name made given r) (length is) r
ends_there tell M base name first there i is made given r later due behind last given_is come = record {
  rans = come.rans ++ r ∷ [];
  is = ap (λ l. up_to_torn tell l)
      (ap (λ l. session_from M first l) (sym (append-nil (replies_of (made.given ++ given))) ∙ replies_on made.given given []) ∙ come.is ∙ ap (λ l. come.rans ++ l) behind)
      ∙ none_torn_first tell come.rans (r ∷ later) come.none_torn ∙ ap (λ l. come.rans ++ l) last;
  counted = counts (length first.due) (length come.rans) (length is) (length (come.rans ++ r ∷ [])) (come.counted ∙ ap (λ l. length come.rans + length l) due) (length-append come.rans (r ∷ []));
  came_of = came_more tell base name come.rans made given r given_is come.came_of;
  fit = fit_more made.given given r.served (unfitting r.outcome) (fitted come.rans) come.fit given_is ∙ ap (λ k. k + length (unfitting r.outcome)) (sym (fitted_more come.rans r));
  last = last_more come.rans r;
}
