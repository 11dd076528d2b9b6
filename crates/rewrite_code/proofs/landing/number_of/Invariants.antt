use Rattle.std.proofs.Common.{◌≡◌, ◌+◌, drop, map, option_map}
use Rattle.rewrite_bodies.specs.calls.Landings.{number_of}
use Rattle.rewrite_code.specs.calls.KeptLandings.{landing, made_landing}
use Rattle.rewrite_code.proofs.landing.number_of.Given as goal

abbrev pub invariant-loop-number : goal.invariant-loop-number
invariant-loop-number l = record {
  list : l.landings ≡ l.fn.landings;
  first : l.carried ≡ l.fn.carried;
  second : l.operands ≡ l.fn.operands;
  third : l.kind ≡ l.fn.kind;
  fourth : l.part ≡ l.fn.part;
  so_far :
      number_of (made_landing l.fn.carried l.fn.operands l.fn.kind l.fn.part) (map landing l.fn.landings)
      ≡ option_map (λ n. l.number + n) (number_of (made_landing l.fn.carried l.fn.operands l.fn.kind l.fn.part) (map landing (drop l.number l.fn.landings)));
}
