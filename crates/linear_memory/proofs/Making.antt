-- Which pages a write makes.
use Rattle.std.proofs.Common.{◌≡◌, ℕ, ◌+◌, ◌-◌, ◌/◌, ◌%◌, ◌<◌, ◌≤◌, ◌⊎◌, Bool, List, sym, subst, inl, inr, arith}
use Rattle.linear_memory.specs.calls.Paged.{IsMade, AllMade, StaysMade, Makes, Touches}
use Rattle.linear_memory.proofs.Contents.{stays_refl, stays_trans, all_made_join, all_made_kept}

touches_more : (at step len page : ℕ) → step ≤ len → Touches (at + step) (len - step) page → Touches at len page
touches_more at step len page le t = (t.0, omega (arith, t.1), omega (arith, t.2, le), t.3)

pub makes_none : (a : List Bool) (at : ℕ) → Makes a a at 0
makes_none a at = record { stays = stays_refl a; touched = λ i low high. absurd (omega arith); only = λ page h. inl h }

-- no page was made, since all of them were
pub makes_same : (a b : List Bool) (at n : ℕ) → b ≡ a → AllMade b at n → Makes a b at n
makes_same a b at n e all = record { stays = subst (λ (m : List Bool). StaysMade a m) (sym e) (stays_refl a); touched = all; only = λ page h. inl (subst (λ (m : List Bool). IsMade m page) e h) }

-- the first page was made before
pub makes_behind : (a b : List Bool) (at step len : ℕ) → step ≤ len → at % 65536 + step ≤ 65536 → IsMade a (at / 65536) → Makes a b (at + step) (len - step) → Makes a b at len
makes_behind a b at step len le fits here m = record {
  stays = m.stays;
  touched = all_made_join b at step len le fits (m.stays.kept (at / 65536) here) m.touched;
  only = λ page h. elim (m.only page h) [ inl old ↦ inl old | inr t ↦ inr (touches_more at step len page le t) ];
}

-- the first page is made last
pub makes_first : (a b c : List Bool) (at step len : ℕ) → step ≤ len → 0 < len → at % 65536 + step ≤ 65536 → Makes a b (at + step) (len - step)
    → StaysMade b c → IsMade c (at / 65536) → ((page : ℕ) → IsMade c page → IsMade b page ⊎ (page ≡ at / 65536)) → Makes a c at len
makes_first a b c at step len le some fits m stays here only = record {
  stays = stays_trans a b c m.stays stays;
  touched = all_made_join c at step len le fits here (all_made_kept b c (at + step) (len - step) stays m.touched);
  only = λ page h. elim (only page h) [
    | inl old ↦ elim (m.only page old) [ inl older ↦ inl older | inr t ↦ inr (touches_more at step len page le t) ]
    | inr e ↦ inr (at, omega arith, omega arith, sym e)
  ];
}
