-- A flat body writes out at most one tree: what it writes out can be read back.
use Rattle.std.proofs.Common.{◌≡◌, ℕ, zero, suc, ◌+◌, ◌≤◌, List, [], ◌∷◌, refl, sym, ap, ◌∙◌, arith}
use Rattle.std.specs.Prelude.{Option, Some, None}
use Rattle.wasm_syntax.specs.declared.value.ValType.{ValType}
use Rattle.wasm_syntax.specs.Tree.{Item, Plain, Goes, Opens, OpensLoop, OpensIf, Else, End, Nodes, stop, basic, jump, block, loop, choose, Tree, Placed, placed, write, IsTree, WritesOut}

-- nodes, and what stands behind them
abbrev pub Read : Type 0
Read = record { nodes : Nodes; after : List Placed }

abbrev pub head_at : List Placed → ℕ
head_at [] = 0
head_at (p ∷ ps) = p.at

abbrev pub tail : List Placed → List Placed
tail [] = []
tail (p ∷ ps) = ps

abbrev pub with_front : (Nodes → Nodes) → Read → Read
with_front f r = record { nodes = f r.nodes; after = r.after }

abbrev pub Reader : Type 0
Reader = List Placed → Read

-- behind the first arm of an `if`
abbrev pub read_else : Reader → ℕ → Option ValType → Read → Item → Read
read_else next at t a Else =
    let b = next (tail a.after) in with_front (choose at t a.nodes (Some (head_at a.after)) b.nodes (head_at b.after)) (next (tail b.after))
read_else next at t a i = with_front (choose at t a.nodes None stop (head_at a.after)) (next (tail a.after))

abbrev pub head_code : List Placed → Item
head_code [] = End
head_code (p ∷ ps) = p.code

abbrev pub read_node : Reader → ℕ → Item → List Placed → Read
read_node next at (Plain i) ps = with_front (basic at i) (next ps)
read_node next at (Goes j) ps = with_front (jump at j) (next ps)
read_node next at (Opens t) ps = let b = next ps in with_front (block at t b.nodes (head_at b.after)) (next (tail b.after))
read_node next at (OpensLoop t) ps = let b = next ps in with_front (loop at t b.nodes (head_at b.after)) (next (tail b.after))
read_node next at (OpensIf t) ps = let a = next ps in read_else next at t a (head_code a.after)
read_node next at Else ps = record { nodes = stop; after = placed at Else ∷ ps }
read_node next at End ps = record { nodes = stop; after = placed at End ∷ ps }

abbrev pub read : ℕ → Reader
read zero ps = record { nodes = stop; after = ps }
read (suc n) [] = record { nodes = stop; after = [] }
read (suc n) (p ∷ ps) = read_node (read n) p.at p.code ps

-- what is read is a tree
else_is_tree : (next : Reader) → ((ps : List Placed) → IsTree (next ps).nodes) → (at : ℕ) (t : Option ValType) (a : Read) → IsTree a.nodes → (i : Item) → IsTree (read_else next at t a i).nodes
else_is_tree next ih at t a h Else = (h, tt, ih (tail a.after), ih (tail (next (tail a.after)).after))
else_is_tree next ih at t a h (Plain i) = (h, refl, tt, ih (tail a.after))
else_is_tree next ih at t a h (Goes j) = (h, refl, tt, ih (tail a.after))
else_is_tree next ih at t a h (Opens u) = (h, refl, tt, ih (tail a.after))
else_is_tree next ih at t a h (OpensLoop u) = (h, refl, tt, ih (tail a.after))
else_is_tree next ih at t a h (OpensIf u) = (h, refl, tt, ih (tail a.after))
else_is_tree next ih at t a h End = (h, refl, tt, ih (tail a.after))

node_is_tree : (next : Reader) → ((ps : List Placed) → IsTree (next ps).nodes) → (at : ℕ) (i : Item) (ps : List Placed) → IsTree (read_node next at i ps).nodes
node_is_tree next ih at (Plain i) ps = ih ps
node_is_tree next ih at (Goes j) ps = ih ps
node_is_tree next ih at (Opens t) ps = (ih ps, ih (tail (next ps).after))
node_is_tree next ih at (OpensLoop t) ps = (ih ps, ih (tail (next ps).after))
node_is_tree next ih at (OpensIf t) ps = else_is_tree next ih at t (next ps) (ih ps) (head_code (next ps).after)
node_is_tree next ih at Else ps = tt
node_is_tree next ih at End ps = tt

pub read_is_tree : (n : ℕ) (ps : List Placed) → IsTree (read n ps).nodes
read_is_tree zero ps = tt
read_is_tree (suc n) [] = tt
read_is_tree (suc n) (p ∷ ps) = node_is_tree (read n) (read_is_tree n) p.at p.code ps

-- what stands behind nodes: nothing, an `else` or an `end`
abbrev IsStop : Item → Type 0
IsStop (Plain i) = ⊥
IsStop (Goes j) = ⊥
IsStop (Opens t) = ⊥
IsStop (OpensLoop t) = ⊥
IsStop (OpensIf t) = ⊥
IsStop Else = Unit {0}
IsStop End = Unit {0}

abbrev Ends : List Placed → Type 0
Ends [] = Unit {0}
Ends (p ∷ ps) = IsStop p.code

abbrev size : Nodes → ℕ
size stop = 1
size (basic at i rest) = suc (size rest)
size (jump at j rest) = suc (size rest)
size (block at t body end rest) = suc (size body + size rest)
size (loop at t body end rest) = suc (size body + size rest)
size (choose at t a else_at b end rest) = suc (size a + (size b + size rest))

stop_stays : (next : Reader) (at : ℕ) (i : Item) (ps : List Placed) → IsStop i → read_node next at i ps ≡ record { nodes = stop; after = placed at i ∷ ps }
stop_stays next at Else ps h = refl
stop_stays next at End ps h = refl
stop_stays next at (Plain i) ps h = absurd h
stop_stays next at (Goes i) ps h = absurd h
stop_stays next at (Opens i) ps h = absurd h
stop_stays next at (OpensLoop i) ps h = absurd h
stop_stays next at (OpensIf i) ps h = absurd h

abbrev done : Nodes → List Placed → Read
done a x = record { nodes = a; after = x }

back : (n : ℕ) (a : Nodes) (x : List Placed) → size a ≤ n → IsTree a → Ends x → read n (write a x) ≡ done a x
back zero stop x le t e = refl
back zero (basic at i rest) x le t e = absurd (omega arith)
back zero (jump at j rest) x le t e = absurd (omega arith)
back zero (block at t body end rest) x le h e = absurd (omega arith)
back zero (loop at t body end rest) x le h e = absurd (omega arith)
back zero (choose at t a else_at b end rest) x le h e = absurd (omega arith)
back (suc n) stop [] le t e = refl
back (suc n) stop (p ∷ ps) le t e = stop_stays (read n) p.at p.code ps e
back (suc n) (basic at i rest) x le t e = ap (with_front (basic at i)) (back n rest x (omega arith) t e)
back (suc n) (jump at j rest) x le t e = ap (with_front (jump at j)) (back n rest x (omega arith) t e)
back (suc n) (block at t body end rest) x le h e =
    rw (back n body (placed end End ∷ write rest x) (omega arith) h.0 tt) (ap (with_front (block at t body end)) (back n rest x (omega arith) h.1 e))
back (suc n) (loop at t body end rest) x le h e =
    rw (back n body (placed end End ∷ write rest x) (omega arith) h.0 tt) (ap (with_front (loop at t body end)) (back n rest x (omega arith) h.1 e))
back (suc n) (choose at t a None b end rest) x le h e =
    rw (h.1, back n a (placed end End ∷ write rest x) (omega arith) h.0 tt) (ap (with_front (choose at t a None stop end)) (back n rest x (omega arith) h.3 e))
back (suc n) (choose at t a (Some else_at) b end rest) x le h e =
    rw (back n a (placed else_at Else ∷ write b (placed end End ∷ write rest x)) (omega arith) h.0 tt, back n b (placed end End ∷ write rest x) (omega arith) h.2 tt) (ap (with_front (choose at t a (Some else_at) b end)) (back n rest x (omega arith) h.3 e))

-- two trees that write the same are the same
pub unique : (a b : Nodes) (x y : List Placed) → IsTree a → IsTree b → Ends x → Ends y → write a x ≡ write b y → (a ≡ b) × (x ≡ y)
unique a b x y ta tb ex ey e =
    let n = size a + size b in
    let same : done a x ≡ done b y = sym (back n a x (omega arith) ta ex) ∙ ap (read n) e ∙ back n b y (omega arith) tb ey in
    (ap (λ r. r.nodes) same, ap (λ r. r.after) same)

pub one_tree : (code : List Placed) (s t : Tree) → WritesOut code s → WritesOut code t → s ≡ t
one_tree code s t ws wt =
    let u = unique s.nodes t.nodes (placed s.end End ∷ []) (placed t.end End ∷ []) ws.arms wt.arms tt tt (sym ws.out ∙ wt.out) in
    let e : s.end ≡ t.end = ap head_at u.1 in
    rw (u.0, e) refl
