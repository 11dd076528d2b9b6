-- Most basic instructions leave the locals as they are.
use Rattle.std.proofs.Common.{◌≡◌, List, None}
use Rattle.wasm_syntax.specs.declared.value.Value.{Value}
use Rattle.wasm_syntax.specs.declared.instruction.Basic.{Basic}
use Rattle.wasm_syntax.specs.Host.{World}
use Rattle.wasm_syntax.specs.Effect.{Effect, gives, fails, unfit, effect}
use Rattle.wasm_syntax.specs.calls.Classes.{EffectClass, Pure, Dividing, Accessing, SetsLocal, SetsGlobal, effect_class, local_of, Does}
use Rattle.wasm_syntax.proofs.Classes.{acts_as_class}

abbrev pub Stays : List Value → Effect → Type 0
Stays l (gives g l' vs) = l' ≡ l
Stays l (fails k) = Unit {0}
Stays l unfit = Unit {0}

-- those that write no local
abbrev pub Usual : Basic → Type 0
Usual i = local_of (effect_class i) ≡ None

by_class : (k : EffectClass) (g : World) (l : List Value) (e : Effect) → local_of k ≡ None → Does k g l e → Stays l e
by_class k g l unfit u d = tt
by_class k g l (fails kind) u d = tt
by_class Pure g l (gives g' l' vs) u d = d.0
by_class Dividing g l (gives g' l' vs) u d = d.0
by_class Accessing g l (gives g' l' vs) u d = d.0
by_class (SetsLocal x) g l (gives g' l' vs) u d = absurd (cc)
by_class (SetsGlobal x) g l (gives g' l' vs) u d = d.0

pub stays : (l : List Value) (i : Basic) (g : World) (vs : List Value) → Usual i → Stays l (effect i g l vs)
stays l i g vs u = by_class (effect_class i) g l (effect i g l vs) u (acts_as_class g l i vs)
