-- The tree of a function in nodes, with handles in place of types and attributes.
use Rattle.std.specs.Prelude.{ℕ, zero, suc, List, [], ◌∷◌, map}
use Rattle.key_model.specs.declared.handle.Handle.{Handle}
use Rattle.flat_model.specs.declared.nodes.NamedAttr.{NamedAttr}
use Rattle.flat_model.specs.declared.nodes.OpNode.{OpNode}
use Rattle.flat_model.specs.Flat.{Flat, op_at, block_at, blocks_at, type_at}

-- values with their types
abbrev pub Values : Type 0
Values = List (ℕ × Handle)

-- an operation without its regions
pub record Front : Type 0 where
  pub op : ℕ
  pub name : List ℕ
  pub results : Values
  pub operands : List ℕ
  pub props : List NamedAttr
  pub attrs : List NamedAttr
  pub successors : List ℕ

mutual
  -- an operation and its regions
  pub data Op : Type 0 where
    op_of : Front → Regions → Op

  pub data Ops : Type 0 where
    ops_end : Ops
    next_op : Op → Ops → Ops

  -- regions in order, each by its number and its blocks
  pub data Regions : Type 0 where
    regions_end : Regions
    next_region : ℕ → Blocks → Regions → Regions

  -- blocks in order, each by its number, its arguments and its operations
  pub data Blocks : Type 0 where
    blocks_end : Blocks
    next_block : ℕ → Values → Ops → Blocks → Blocks

abbrev pub values_at : Flat → List ℕ → Values
values_at f values = map (λ v. (v, type_at f v)) values

abbrev pub front_of : Flat → ℕ → OpNode → Front
front_of f op n = record { op = op; name = n.name; results = values_at f n.results; operands = n.operands; props = n.props; attrs = n.attrs; successors = n.successors }

-- operations, blocks and regions, with `sub` for what operations are
abbrev pub ops_over : (ℕ → Op) → List ℕ → Ops
ops_over sub [] = ops_end
ops_over sub (i ∷ is) = next_op (sub i) (ops_over sub is)

abbrev pub blocks_over : (ℕ → Op) → Flat → List ℕ → Blocks
blocks_over sub f [] = blocks_end
blocks_over sub f (b ∷ bs) = next_block b (values_at f (block_at f b).args) (ops_over sub (block_at f b).ops) (blocks_over sub f bs)

abbrev pub regions_over : (ℕ → Op) → Flat → List ℕ → Regions
regions_over sub f [] = regions_end
regions_over sub f (r ∷ rs) = next_region r (blocks_over sub f (blocks_at f r)) (regions_over sub f rs)

-- the tree of an operation, with so many levels of regions
abbrev pub tree : ℕ → Flat → ℕ → Op
tree zero f i = op_of (front_of f i (op_at f i)) regions_end
tree (suc n) f i = op_of (front_of f i (op_at f i)) (regions_over (tree n f) f (op_at f i).regions)
