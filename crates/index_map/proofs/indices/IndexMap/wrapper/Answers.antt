use Rattle.std.proofs.Common.{◌∙◌, ap, slice_get, ℕ, List}
use Rattle.std.proofs.lemmas.Option.{slice_get_within, get_or_from_slice_get}
use Rattle.index_map.specs.calls.Wrapper.{wrapper_of}
use Rattle.index_map.proofs.Numbers.{wrapper_at}
use Rattle.index_map.proofs.indices.IndexMap.wrapper.Goals as goal

pub bounds-exports-export : goal.bounds-exports-export
bounds-exports-export c =
    slice_get_within c.exports.result.now c.args.export (wrapper_of c.args.self.now c.args.export)
    (ap (λ (is : List ℕ). slice_get is c.args.export) c.exports.ensures ∙ wrapper_at c.args.self.now c.args.export c.requires)

pub returns : goal.returns
returns c =
    get_or_from_slice_get c.exports.result.now c.args.export (wrapper_of c.args.self.now c.args.export) 0
    (ap (λ (is : List ℕ). slice_get is c.args.export) c.exports.ensures ∙ wrapper_at c.args.self.now c.args.export c.requires)
