-- The offsets of accesses are numbers of 32 bits.
use Rattle.std.specs.List.{AllByRecursion}
use Rattle.wasm_syntax.specs.declared.instruction.Basic.{Basic}
use Rattle.wasm_syntax.specs.declared.instruction.Basic.TheVariants.{Nop, Drop, Select, LocalGet, LocalSet, LocalTee, GlobalGet, GlobalSet, Load, Store, MemorySize, MemoryGrow, MemoryCopy, MemoryFill, Const, Eqz, Unary, Compare, Binary, Convert, Extend32, Extend64}
use Rattle.wasm_syntax.specs.declared.instruction.Instr.{Instr}
use Rattle.wasm_syntax.specs.declared.instruction.Instr.TheVariants as instrs
use Rattle.wasm_syntax.specs.declared.parts.Body.{Body}
use Rattle.wasm_syntax.specs.declared.module.ModuleParts.{ModuleParts as Module}
use Rattle.wasm_format.specs.Encoding.{BasicFits, NumbersFit, IsCode}
use Rattle.wasm_encode.specs.calls.Fits.{FitsBody, FitsModule}
use Rattle.rewrite_bodies.specs.calls.Offsets.{SmallOffset}
use Rattle.rewrite_modules.specs.Instrumentable.{SmallInstr}
use Rattle.rewrite_promise.specs.calls.Light.{SmallOffsets}
use Rattle.rewrite_modules.proofs.BareValid.{all_as}

basic_small : (i : Basic) → BasicFits i → SmallOffset i
basic_small Nop h = tt
basic_small Drop h = tt
basic_small Select h = tt
basic_small (LocalGet x) h = tt
basic_small (LocalSet x) h = tt
basic_small (LocalTee x) h = tt
basic_small (GlobalGet x) h = tt
basic_small (GlobalSet x) h = tt
basic_small (Load l al of) h = h.1
basic_small (Store l al of) h = h.1
basic_small MemorySize h = tt
basic_small MemoryGrow h = tt
basic_small MemoryCopy h = tt
basic_small MemoryFill h = tt
basic_small (Const v) h = tt
basic_small (Eqz t) h = tt
basic_small (Unary t op) h = tt
basic_small (Compare t op) h = tt
basic_small (Binary t op) h = tt
basic_small (Convert c) h = tt
basic_small (Extend32 k) h = tt
basic_small (Extend64 k) h = tt

instr_small : (i : Instr) → NumbersFit i → SmallInstr i
instr_small (instrs.Basic i) h = basic_small i h
instr_small (instrs.Jump j) h = tt
instr_small (instrs.Block t) h = tt
instr_small (instrs.Loop t) h = tt
instr_small (instrs.If t) h = tt
instr_small instrs.Else h = tt
instr_small instrs.End h = tt

body_small : (b : Body) → FitsBody b → AllByRecursion (λ o. SmallInstr o.code) b.ops
body_small b h = all_as (λ o. IsCode b.targets o.code) (λ o. SmallInstr o.code) b.ops (λ o k. instr_small o.code k.numbers) h.1

pub fitting : (m : Module) → FitsModule m → SmallOffsets m
fitting m h = all_as FitsBody (λ b. AllByRecursion (λ o. SmallInstr o.code) b.ops) m.bodies body_small h.bodies
