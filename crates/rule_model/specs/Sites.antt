-- The operations of a function in the order of the text, an operation before those in its regions, each with what surrounds it.
use Rattle.std.specs.Prelude.{ℕ, ◌+◌, List, [], ◌∷◌, ◌++◌, map, Option, Some, None}
use Rattle.plain_tree.specs.Types.{PlainType}
use Rattle.plain_tree.specs.Ops.{Op, op, Ops, end_of_ops, more_ops, Regions, end_of_regions, region, Blocks, end_of_blocks, block}
use Rattle.plain_tree.specs.Values.{types_of}
use Rattle.rule_model.specs.Words.{numbers, types, results_of}
use Rattle.rule_model.specs.Facts.{Facts, Holder, facts_of}
use Rattle.rule_model.specs.Paths.{Frame}

-- an operation: the facts, the numbers of its operands and results, its place and the places of those that hold it
pub record Site : Type 0 where
  pub facts : Facts
  pub operands : List ℕ
  pub results : List ℕ
  pub frames : List Frame

-- the operation as what holds a region of it
abbrev pub holds : (ℕ → PlainType) → Op → ℕ → Holder
holds type_of (op k results operands regions successors) n =
    record { name = k.name; props = k.props; operands = map type_of operands; results = types results; region = n }

-- where the operations of a region stand: what holds it, its blocks, and the places outside
pub record Around : Type 0 where
  pub holder : Option Holder
  pub blocks : Blocks
  pub outer : List Frame

abbrev pub frame_of : Around → ℕ → List ℕ → Ops → List Frame
frame_of a label bound ops = record { blocks = a.blocks; label = label; bound = bound; ops = ops } ∷ a.outer

abbrev mutual
  -- an operation in front of others, with its places
  pub op_sites : (ℕ → PlainType) → Option Holder → Blocks → List Frame → Ops → Op → List Site → List Site
  op_sites type_of holder blocks frames rest (op k results operands regions successors) more =
      let o : Op = op k results operands regions successors in
      record { facts = facts_of type_of holder blocks rest o; operands = operands; results = numbers results; frames = frames }
      ∷ regions_sites type_of (holds type_of o) 0 frames regions more

  -- the operations that are left of a block
  pub ops_sites : (ℕ → PlainType) → Around → ℕ → List ℕ → Ops → List Site → List Site
  ops_sites type_of a label bound end_of_ops more = more
  ops_sites type_of a label bound (more_ops o rest) more =
      op_sites type_of a.holder a.blocks (frame_of a label bound (more_ops o rest)) rest o
      (ops_sites type_of a label (results_of o ++ bound) rest more)

  -- regions from the n-th on of an operation with these places
  pub regions_sites : (ℕ → PlainType) → (ℕ → Holder) → ℕ → List Frame → Regions → List Site → List Site
  regions_sites type_of holder n frames end_of_regions more = more
  regions_sites type_of holder n frames (region blocks rest) more =
      blocks_sites type_of (record { holder = Some (holder n); blocks = blocks; outer = frames }) blocks
      (regions_sites type_of holder (n + 1) frames rest more)

  -- blocks of a region
  pub blocks_sites : (ℕ → PlainType) → Around → Blocks → List Site → List Site
  blocks_sites type_of a end_of_blocks more = more
  blocks_sites type_of a (block label args ops rest) more =
      ops_sites type_of a label (numbers args) ops (blocks_sites type_of a rest more)

-- the operations of a function, itself among them
abbrev pub sites : Op → List Site
sites f = op_sites (types_of f) None end_of_blocks [] end_of_ops f []
