-- What the rewriting asks of a program, so that its result does what the program does.
use Rattle.std.specs.Prelude.{◌≡◌, ℕ, ◌≤◌, true, false, Some, length, slice_get, List, bytes_eq, codes}
use Rattle.std.specs.List.{AllByRecursion}
use Rattle.wasm_syntax.specs.declared.parts.Import.{Import}
use Rattle.wasm_syntax.specs.declared.quantity.Quantity.TheVariants.{Memory, InstrumentLocals, InstrumentHeight}
use Rattle.wasm_syntax.specs.Quantity as limits
use Rattle.wasm_syntax.specs.Tree.{Nodes, stop, basic, jump, block, loop, choose, Tree}
use Rattle.wasm_syntax.specs.Module.{Program, IsProgram, function_export}
use Rattle.wasm_syntax.specs.Valid.{Valid}
use Rattle.rewrite_bodies.specs.Numbering.{doubles}
use Rattle.rewrite_bodies.specs.calls.Offsets.{SmallOffset}
use Rattle.rewrite_bodies.specs.calls.Slots.{greatest}

-- the offset of each access is a number of 32 bits (Core 5.4.3)
abbrev pub SmallCode : Nodes → Type 0
SmallCode stop = Unit {0}
SmallCode (basic at i rest) = SmallOffset i × SmallCode rest
SmallCode (jump at j rest) = SmallCode rest
SmallCode (block at t body end rest) = SmallCode body × SmallCode rest
SmallCode (loop at t body end rest) = SmallCode body × SmallCode rest
SmallCode (choose at t a else_at b end rest) = SmallCode a × SmallCode b × SmallCode rest

pub record Given (p : Program) : Type 0 where
  -- its trees are those of its bodies, and there are as many bodies as functions: each module of the type `Module` has such trees
  pub program : IsProgram p
  pub as_many : length p.module_.bodies ≡ length p.module_.functions
  -- it is valid (Core 3.4)
  pub valid : Valid p.module_
  -- it imports nothing from the collector's module: otherwise the rewriting is refused
  pub no_collision : (f : ℕ) (i : Import) → slice_get p.module_.imports f ≡ Some i → bytes_eq i.«module» (codes "coredump") ≡ false
  -- offsets are numbers of 32 bits, as in each module of the type `Module`
  pub small : (f : ℕ) (tree : Tree) → slice_get p.trees f ≡ Some tree → SmallCode tree.nodes
  -- memories begin within the limit on pages
  pub pages : AllByRecursion (λ l. l.min ≤ limits.greatest Memory) p.module_.memories
  -- each function is within the limits of the rewriting on locals, with parameters, and on the operand height
  pub few_locals : (greatest p).0 ≤ limits.greatest InstrumentLocals
  pub few_heights : (greatest p).1 ≤ limits.greatest InstrumentHeight
  -- the globals of a dump fit into a whole list of collector calls, where something can be invoked
  pub few_globals_doubled : doubles p.module_ ≡ true → length p.module_.globals ≤ 20000000
  pub few_globals : (name : List ℕ) (f : ℕ) → function_export p.module_ name ≡ Some f → length p.module_.globals ≤ 20000000
