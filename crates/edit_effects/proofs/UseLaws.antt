-- Operands replaced one by one are all replaced in the end.
use Rattle.std.proofs.Common.{◌≡◌, ℕ, zero, suc, ◌<◌, ◌≤◌, ◌+◌, true, false, List, [], ◌∷◌, length, get_or, set, map, cond, ◌==◌, refl, sym, ap, ◌∙◌, arith}
use Rattle.std.proofs.lemmas.List.{set-set, set-get_or, get_or-set_same, length-set}
use Rattle.flat_model.specs.declared.nodes.OpNode.{OpNode}
use Rattle.flat_model.specs.Flat.{Flat, no_op, op_at, IsClosed}
use Rattle.edit_model.specs.Writes.{with_operand, with_node}
use Rattle.edit_effects.specs.HandleTree.{front_of, tree}
use Rattle.edit_effects.specs.Effects.{op_edited}
use Rattle.edit_effects.specs.Uses.{replaced, node_replaced, with_uses, uses_replaced}
use Rattle.edit_effects.proofs.EffectLaws.{Matches, edited}

-- so many items are changed
abbrev pub front_changed : {X : Type 0} → (X → X) → ℕ → List X → List X
front_changed f zero xs = xs
front_changed f (suc n) [] = []
front_changed f (suc n) (x ∷ xs) = f x ∷ front_changed f n xs

pub all_changed : {X : Type 0} (f : X → X) (n : ℕ) (xs : List X) → length xs ≤ n → front_changed f n xs ≡ map f xs
all_changed f zero [] h = refl
all_changed f zero (x ∷ xs) h = absurd (omega arith)
all_changed f (suc n) [] h = refl
all_changed f (suc n) (x ∷ xs) h = ap (λ ys. f x ∷ ys) (all_changed f n xs (omega arith))

pub next_same : {X : Type 0} (f : X → X) (n : ℕ) (xs : List X) (d : X) → n < length xs → get_or (front_changed f n xs) n d ≡ get_or xs n d
next_same f n [] d h = absurd (omega arith)
next_same f zero (x ∷ xs) d h = refl
next_same f (suc n) (x ∷ xs) d h = next_same f n xs d (omega arith)

pub next_changed : {X : Type 0} (f : X → X) (n : ℕ) (xs : List X) (d : X) → n < length xs → set (front_changed f n xs) n (f (get_or xs n d)) ≡ front_changed f (suc n) xs
next_changed f n [] d h = absurd (omega arith)
next_changed f zero (x ∷ xs) d h = refl
next_changed f (suc n) (x ∷ xs) d h = ap (λ ys. f x ∷ ys) (next_changed f n xs d (omega arith))

pub changed_length : {X : Type 0} (f : X → X) (n : ℕ) (xs : List X) → length (front_changed f n xs) ≡ length xs
changed_length f zero xs = refl
changed_length f (suc n) [] = refl
changed_length f (suc n) (x ∷ xs) = ap suc (changed_length f n xs)

map_at : (from to : ℕ) (os : List OpNode) (i : ℕ) → get_or (map (node_replaced from to) os) i no_op ≡ node_replaced from to (get_or os i no_op)
map_at from to [] i = refl
map_at from to (o ∷ os) zero = refl
map_at from to (o ∷ os) (suc i) = map_at from to os i

pub uses_match : (from to : ℕ) (f : Flat) → Matches (uses_replaced from to) f (with_uses from to f)
uses_match from to f = let g : Flat = with_uses from to f in record {
  front = λ i h. ap (front_of f i) (sym (map_at from to f.ops i));
  regions = λ i h. ap (λ (n : OpNode). n.regions) (map_at from to f.ops i);
  blocks = λ n r h. refl;
  args = λ b h. refl;
  ops = λ n b h. refl;
}

pub uses_effect : (from to : ℕ) (f g : Flat) → g ≡ with_uses from to f → IsClosed f → (n i : ℕ) → i < length f.ops → op_edited (uses_replaced from to) (tree n f i) ≡ tree n g i
uses_effect from to f g e c n i h = edited (uses_replaced from to) f (with_uses from to f) (uses_match from to f) c n i h ∙ ap (λ x. tree n x i) (sym e)

-- the nodes where so many operands of an operation are replaced
abbrev pub operands_so_far : ℕ → ℕ → Flat → ℕ → ℕ → Flat
operands_so_far from to f op n = with_node f op (record (op_at f op) { operands = front_changed (replaced from to) n (op_at f op).operands })

-- and where those of so many operations are
abbrev pub uses_so_far : ℕ → ℕ → Flat → ℕ → Flat
uses_so_far from to f n = record f { ops = front_changed (node_replaced from to) n f.ops }

pub no_operand_yet : (from to : ℕ) (f : Flat) (op : ℕ) → operands_so_far from to f op zero ≡ f
no_operand_yet from to f op = ap (λ os. record f { ops = os }) (set-get_or f.ops op no_op)

pub operand_next : (from to : ℕ) (f g : Flat) (op n : ℕ) → op < length f.ops → n < length (op_at f op).operands
    → g ≡ with_operand (operands_so_far from to f op n) op n (replaced from to (get_or (op_at f op).operands n 0)) → g ≡ operands_so_far from to f op (suc n)
operand_next from to f g op n h l e = let xs = (op_at f op).operands in let r = replaced from to in let m : OpNode = record (op_at f op) { operands = front_changed r n xs } in
    e ∙ ap (λ (k : OpNode). record f { ops = set (set f.ops op m) op (record k { operands = set k.operands n (r (get_or xs n 0)) }) }) (get_or-set_same f.ops op m no_op h)
    ∙ ap (λ os. record f { ops = os }) (set-set f.ops op m (record m { operands = set (front_changed r n xs) n (r (get_or xs n 0)) }))
    ∙ ap (λ ys. record f { ops = set f.ops op (record (op_at f op) { operands = ys }) }) (next_changed r n xs 0 l)

pub operands_done : (from to : ℕ) (f : Flat) (op n : ℕ) → length (op_at f op).operands ≤ n → operands_so_far from to f op n ≡ with_node f op (node_replaced from to (op_at f op))
operands_done from to f op n h = ap (λ ys. with_node f op (record (op_at f op) { operands = ys })) (all_changed (replaced from to) n (op_at f op).operands h)

pub use_next : (from to : ℕ) (f g : Flat) (n : ℕ) → n < length f.ops → g ≡ with_node (uses_so_far from to f n) n (node_replaced from to (op_at (uses_so_far from to f n) n)) → g ≡ uses_so_far from to f (suc n)
use_next from to f g n h e = let s = node_replaced from to in e
    ∙ ap (λ o. record f { ops = set (front_changed s n f.ops) n (s o) }) (next_same s n f.ops no_op h)
    ∙ ap (λ os. record f { ops = os }) (next_changed s n f.ops no_op h)

pub uses_done : (from to : ℕ) (f : Flat) (n : ℕ) → length f.ops ≤ n → uses_so_far from to f n ≡ with_uses from to f
uses_done from to f n h = ap (λ os. record f { ops = os }) (all_changed (node_replaced from to) n f.ops h)

-- how many operations, values and operands there are, while operands are replaced
pub ops_so_far : (from to : ℕ) (f g : Flat) (n : ℕ) → g ≡ uses_so_far from to f n → (length g.ops ≡ length f.ops) × (length g.types ≡ length f.types)
ops_so_far from to f g n e = (ap (λ (x : Flat). length x.ops) e ∙ changed_length (node_replaced from to) n f.ops, ap (λ (x : Flat). length x.types) e)

pub inside_so_far : (from to : ℕ) (f g : Flat) (op n : ℕ) → op < length f.ops → g ≡ operands_so_far from to f op n
    → (length g.ops ≡ length f.ops) × (length g.types ≡ length f.types) × (length (op_at g op).operands ≡ length (op_at f op).operands)
inside_so_far from to f g op n h e = let xs = (op_at f op).operands in let m : OpNode = record (op_at f op) { operands = front_changed (replaced from to) n xs } in (
  ap (λ (x : Flat). length x.ops) e ∙ length-set f.ops op m,
  ap (λ (x : Flat). length x.types) e,
  ap (λ (x : Flat). length (op_at x op).operands) e ∙ ap (λ (k : OpNode). length k.operands) (get_or-set_same f.ops op m no_op h) ∙ changed_length (replaced from to) n xs,
)

-- one operand more
pub operand_turn : (from to : ℕ) (f g h : Flat) (op n : ℕ) → op < length f.ops → n < length (op_at f op).operands → g ≡ operands_so_far from to f op n
    → h ≡ with_operand g op n (replaced from to (get_or (op_at g op).operands n 0)) → h ≡ operands_so_far from to f op (n + 1)
operand_turn from to f g h op n l k e d = let xs = (op_at f op).operands in let r = replaced from to in let m : OpNode = record (op_at f op) { operands = front_changed r n xs } in
    let s = operands_so_far from to f op n in let j : suc n ≡ n + 1 = omega arith in
    operand_next from to f h op n l k (d ∙ ap (λ (x : Flat). with_operand x op n (r (get_or (op_at x op).operands n 0))) e
    ∙ ap (λ y. with_operand s op n (r y)) (ap (λ (x : OpNode). get_or x.operands n 0) (get_or-set_same f.ops op m no_op l) ∙ next_same r n xs 0 k))
    ∙ ap (operands_so_far from to f op) j

-- one operation more
pub use_turn : (from to : ℕ) (f g h : Flat) (n : ℕ) → n < length f.ops → g ≡ uses_so_far from to f n → h ≡ with_node g n (node_replaced from to (op_at g n)) → h ≡ uses_so_far from to f (n + 1)
use_turn from to f g h n l e d = let j : suc n ≡ n + 1 = omega arith in
    use_next from to f h n l (d ∙ ap (λ (x : Flat). with_node x n (node_replaced from to (op_at x n))) e) ∙ ap (uses_so_far from to f) j

-- an operand that is the value, and one that is not
pub operand_taken : (from to : ℕ) (f g : Flat) (op at : ℕ) → g ≡ with_operand f op at to → (get_or (op_at f op).operands at 0 == from) ≡ true
    → g ≡ with_operand f op at (replaced from to (get_or (op_at f op).operands at 0))
operand_taken from to f g op at e t = e ∙ ap (λ b. with_operand f op at (cond b to (get_or (op_at f op).operands at 0))) (sym t)

pub operand_left : (from to : ℕ) (f g : Flat) (op at : ℕ) → g ≡ f → (get_or (op_at f op).operands at 0 == from) ≡ false
    → g ≡ with_operand f op at (replaced from to (get_or (op_at f op).operands at 0))
operand_left from to f g op at e t = let x = get_or (op_at f op).operands at 0 in
    e ∙ sym (ap (λ (n : OpNode). record f { ops = set f.ops op n }) (ap (λ ys. let n : OpNode = record (op_at f op) { operands = ys } in n) (set-get_or (op_at f op).operands at 0))
    ∙ ap (λ os. record f { ops = os }) (set-get_or f.ops op no_op))
    ∙ ap (λ b. with_operand f op at (cond b to x)) (sym t)
