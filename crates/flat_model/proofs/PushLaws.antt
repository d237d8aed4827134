-- One node more.
use Rattle.std.proofs.Common.{◌≡◌, ℕ, zero, suc, ◌<◌, ◌≤◌, ◌+◌, List, [], ◌∷◌, ◌++◌, length, get_or, refl, sym, ap, subst, ◌∙◌, arith}
use Rattle.std.proofs.lemmas.List.{get_or_append_left, get_or_push, length_push}
use Rattle.std.specs.List.{All}
use Rattle.key_model.specs.declared.handle.Handle.{Handle}
use Rattle.flat_model.specs.declared.nodes.OpNode.{OpNode}
use Rattle.flat_model.specs.Flat.{BlockNode, Flat, no_op, no_block, no_type, op_at, block_at, blocks_at, type_at, AllBelow, IsOpWithin, IsBlockWithin, IsWithin}
use Rattle.flat_model.specs.Growth.{Grown, Built}

-- a bound that is greater
pub below_more : (m n : ℕ) → m ≤ n → (xs : List ℕ) → AllBelow m xs → AllBelow n xs
below_more m n h xs a k d l = let p = a k d l in omega arith

-- a node in more nodes
pub op_within_more : (v b : ℕ) (f g : Flat) → length f.types ≤ length g.types → length f.regions ≤ length g.regions → (node : OpNode) → IsOpWithin v b f node → IsOpWithin v b g node
op_within_more v b f g t r node w = record {
  results = below_more (length f.types) (length g.types) t node.results w.results;
  operands = w.operands;
  regions = below_more (length f.regions) (length g.regions) r node.regions w.regions;
  successors = w.successors;
}

pub block_within_more : (f g : Flat) → length f.types ≤ length g.types → length f.ops ≤ length g.ops → (node : BlockNode) → IsBlockWithin f node → IsBlockWithin g node
block_within_more f g t o node w = record {
  args = below_more (length f.types) (length g.types) t node.args w.args;
  ops = below_more (length f.ops) (length g.ops) o node.ops w.ops;
}

-- what holds of each item, and of one more
at_push : {X : Type 0} (P : X → Type 0) (xs : List X) (x d : X) → ((i : ℕ) → i < length xs → P (get_or xs i d)) → P x → (i : ℕ) → i < length (xs ++ x ∷ []) → P (get_or (xs ++ x ∷ []) i d)
at_push P [] x d a p zero h = p
at_push P [] x d a p (suc i) h = absurd (omega arith)
at_push P (y ∷ ys) x d a p zero h = a 0 (omega arith)
at_push P (y ∷ ys) x d a p (suc i) h = at_push P ys x d (λ j k. a (suc j) (omega arith)) p i (omega arith)

stays : {X : Type 0} (xs : List X) (x d : X) (i : ℕ) → i < length xs → get_or (xs ++ x ∷ []) i d ≡ get_or xs i d
stays xs x d i h = get_or_append_left xs (x ∷ []) d i h

longer : {X : Type 0} (xs : List X) (x : X) → length xs ≤ length (xs ++ x ∷ [])
longer xs x = omega (arith, length_push xs x)

pub op_added : (f : Flat) (node : OpNode) → Grown f (record f { ops = f.ops ++ node ∷ [] })
op_added f node = record {
  ops = stays f.ops node no_op;
  blocks = λ b h. refl;
  regions = λ r h. refl;
  types = λ v h. refl;
  more_ops = longer f.ops node;
  more_blocks = omega arith;
  more_regions = omega arith;
  more_types = omega arith;
}

pub block_added : (f : Flat) (node : BlockNode) → Grown f (record f { blocks = f.blocks ++ node ∷ [] })
block_added f node = record {
  ops = λ i h. refl;
  blocks = stays f.blocks node no_block;
  regions = λ r h. refl;
  types = λ v h. refl;
  more_ops = omega arith;
  more_blocks = longer f.blocks node;
  more_regions = omega arith;
  more_types = omega arith;
}

pub region_added : (f : Flat) (blocks : List ℕ) → Grown f (record f { regions = f.regions ++ blocks ∷ [] })
region_added f blocks = record {
  ops = λ i h. refl;
  blocks = λ b h. refl;
  regions = stays f.regions blocks [];
  types = λ v h. refl;
  more_ops = omega arith;
  more_blocks = omega arith;
  more_regions = longer f.regions blocks;
  more_types = omega arith;
}

pub type_added : (f : Flat) (type : Handle) → Grown f (record f { types = f.types ++ type ∷ [] })
type_added f type = record {
  ops = λ i h. refl;
  blocks = λ b h. refl;
  regions = λ r h. refl;
  types = stays f.types type no_type;
  more_ops = omega arith;
  more_blocks = omega arith;
  more_regions = omega arith;
  more_types = longer f.types type;
}

pub op_built : (v b : ℕ) (f : Flat) (node : OpNode) → IsOpWithin v b f node → Built v b f (record f { ops = f.ops ++ node ∷ [] })
op_built v b f node w = let g : Flat = record f { ops = f.ops ++ node ∷ [] } in record {
  grown = op_added f node;
  within = λ c. record {
    op = at_push (IsOpWithin v b g) f.ops node no_op (λ i h. op_within_more v b f g (omega arith) (omega arith) (op_at f i) (c.op i h)) (op_within_more v b f g (omega arith) (omega arith) node w);
    block = λ i h. block_within_more f g (omega arith) (longer f.ops node) (block_at f i) (c.block i h);
    region = c.region;
  };
}

pub block_built : (v b : ℕ) (f : Flat) (node : BlockNode) → IsBlockWithin f node → Built v b f (record f { blocks = f.blocks ++ node ∷ [] })
block_built v b f node w = let g : Flat = record f { blocks = f.blocks ++ node ∷ [] } in record {
  grown = block_added f node;
  within = λ c. record {
    op = λ i h. op_within_more v b f g (omega arith) (omega arith) (op_at f i) (c.op i h);
    block = at_push (IsBlockWithin g) f.blocks node no_block (λ i h. block_within_more f g (omega arith) (omega arith) (block_at f i) (c.block i h)) (block_within_more f g (omega arith) (omega arith) node w);
    region = λ r h. below_more (length f.blocks) (length g.blocks) (longer f.blocks node) (blocks_at f r) (c.region r h);
  };
}

pub region_built : (v b : ℕ) (f : Flat) (blocks : List ℕ) → AllBelow (length f.blocks) blocks → Built v b f (record f { regions = f.regions ++ blocks ∷ [] })
region_built v b f blocks w = let g : Flat = record f { regions = f.regions ++ blocks ∷ [] } in record {
  grown = region_added f blocks;
  within = λ c. record {
    op = λ i h. op_within_more v b f g (omega arith) (longer f.regions blocks) (op_at f i) (c.op i h);
    block = λ i h. block_within_more f g (omega arith) (omega arith) (block_at f i) (c.block i h);
    region = at_push (AllBelow (length f.blocks)) f.regions blocks [] c.region w;
  };
}

pub type_built : (v b : ℕ) (f : Flat) (type : Handle) → Built v b f (record f { types = f.types ++ type ∷ [] })
type_built v b f type = let g : Flat = record f { types = f.types ++ type ∷ [] } in record {
  grown = type_added f type;
  within = λ c. record {
    op = λ i h. op_within_more v b f g (longer f.types type) (omega arith) (op_at f i) (c.op i h);
    block = λ i h. block_within_more f g (longer f.types type) (omega arith) (block_at f i) (c.block i h);
    region = c.region;
  };
}

-- the same, where the nodes afterwards are known by an equation
pub op_built_is : (v b : ℕ) (f g : Flat) (node : OpNode) → IsOpWithin v b f node → g ≡ record f { ops = f.ops ++ node ∷ [] } → Built v b f g
op_built_is v b f g node w e = subst (λ h. Built v b f h) (sym e) (op_built v b f node w)

pub block_built_is : (v b : ℕ) (f g : Flat) (node : BlockNode) → IsBlockWithin f node → g ≡ record f { blocks = f.blocks ++ node ∷ [] } → Built v b f g
block_built_is v b f g node w e = subst (λ h. Built v b f h) (sym e) (block_built v b f node w)

pub region_built_is : (v b : ℕ) (f g : Flat) (blocks : List ℕ) → AllBelow (length f.blocks) blocks → g ≡ record f { regions = f.regions ++ blocks ∷ [] } → Built v b f g
region_built_is v b f g blocks w e = subst (λ h. Built v b f h) (sym e) (region_built v b f blocks w)

pub type_built_is : (v b : ℕ) (f g : Flat) (type : Handle) → g ≡ record f { types = f.types ++ type ∷ [] } → Built v b f g
type_built_is v b f g type e = subst (λ h. Built v b f h) (sym e) (type_built v b f type)
