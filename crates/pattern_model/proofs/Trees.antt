-- How the trees of examples are written.
use Rattle.std.specs.Prelude.{ℕ, ◌+◌, ◌*◌, List, [], ◌∷◌, ℤ, codes}
use Rattle.plain_tree.specs.Types.{PlainType, Func, LlvmFunc, types_in}
use Rattle.plain_tree.specs.Attrs.{Entries, Text, OfType, Dialect, Numbers}
use Rattle.plain_tree.specs.Ops.{Op, op, ops_in, Regions, end_of_regions, region, Blocks, end_of_blocks, block, Values}
use Rattle.conversion_model.specs.Conversion.{Supply}

-- an operation without regions and successors
abbrev pub plain : List ℕ → Values → List ℕ → Entries → Op
plain name results operands props = op (record { name = name; props = props; attrs = [] }) results operands end_of_regions []

-- a terminator
abbrev pub ends : List ℕ → List ℕ → List ℕ → Entries → Op
ends name operands successors props = op (record { name = name; props = props; attrs = [] }) [] operands end_of_regions successors

-- an operation with regions
abbrev pub holds : List ℕ → Values → List ℕ → Regions → Op
holds name results operands regions = op (record { name = name; props = []; attrs = [] }) results operands regions []

abbrev pub one_block : ℕ → Values → List Op → Blocks
one_block label args os = block label args (ops_in os) end_of_blocks

abbrev pub func_props : List ℕ → List PlainType → List PlainType → Entries
func_props name inputs outputs = (codes "function_type", OfType (Func (types_in inputs) (types_in outputs))) ∷ (codes "sym_name", Text name) ∷ []

-- a func.func of these blocks
abbrev pub func : List ℕ → List PlainType → List PlainType → Blocks → Op
func name inputs outputs blocks = op (record { name = codes "func.func"; props = func_props name inputs outputs; attrs = [] }) [] [] (region blocks end_of_regions) []

-- an llvm.func of these blocks
abbrev pub llvm_func : List ℕ → List PlainType → PlainType → Blocks → Op
llvm_func name inputs output blocks = op (record {
  name = codes "llvm.func";
  props = (codes "function_type", OfType (LlvmFunc output (types_in inputs))) ∷ (codes "linkage", Dialect (codes "llvm.linkage") (codes "external" ∷ [])) ∷ (codes "sym_name", Text name) ∷ [];
  attrs = [];
}) [] [] (region blocks end_of_regions) []

abbrev pub segments : List ℤ → Entries
segments ns = (codes "operandSegmentSizes", Numbers 32 ns) ∷ []

-- new numbers that are apart from each other and from those below 800: 1,000 for each source operation, 100 for each product
abbrev pub counted_up : Supply
counted_up = record {
  row = λ n. record { value = λ k. 1000 * (n + 1) + k; label = λ k. 1000 * (n + 1) + k };
  value = λ n piece k. 1000 * (n + 1) + 100 * (piece + 1) + k;
  parameter = λ k. 900 + k;
  argument = λ label k. 800 + 10 * label + k;
}
