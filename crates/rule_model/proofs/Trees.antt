-- How the trees of examples are written.
use Rattle.std.specs.Prelude.{ℕ, ◌+◌, List, [], ◌∷◌, ◌++◌, codes}
use Rattle.tree_model.specs.declared.type_tree.Dim.TheVariants.{Fixed, Dynamic}
use Rattle.plain_tree.specs.Types.{PlainType, Int, Index, Memref, Func, Ptr, Struct, Array, LlvmFunc, types_in}
use Rattle.plain_tree.specs.Attrs.{Entries, Text, OfType}
use Rattle.plain_tree.specs.Ops.{Op, op, ops_in, Regions, end_of_regions, region, Blocks, end_of_blocks, block, PlainModule, Values}
use Rattle.rule_model.specs.Search.{Answer, answer}

-- an operation without regions and successors
abbrev pub plain : List ℕ → Values → List ℕ → Entries → Op
plain name results operands props = op (record { name = name; props = props; attrs = [] }) results operands end_of_regions []

-- an operation with successors, without results
abbrev pub ends : List ℕ → List ℕ → List ℕ → Entries → Op
ends name operands successors props = op (record { name = name; props = props; attrs = [] }) [] operands end_of_regions successors

-- an operation with regions
abbrev pub holds : List ℕ → Values → List ℕ → Entries → Regions → Op
holds name results operands props regions = op (record { name = name; props = props; attrs = [] }) results operands regions []

abbrev pub one_block : ℕ → Values → List Op → Blocks
one_block label args os = block label args (ops_in os) end_of_blocks

-- a func.func, and an llvm.func, of these blocks
abbrev pub func : List ℕ → List PlainType → List PlainType → Blocks → Op
func name inputs outputs blocks =
    holds (codes "func.func") [] [] ((codes "function_type", OfType (Func (types_in inputs) (types_in outputs))) ∷ (codes "sym_name", Text name) ∷ []) (region blocks end_of_regions)

abbrev pub llvm_func : List ℕ → List PlainType → PlainType → Blocks → Op
llvm_func name inputs output blocks =
    holds (codes "llvm.func") [] [] ((codes "function_type", OfType (LlvmFunc output (types_in inputs))) ∷ (codes "sym_name", Text name) ∷ []) (region blocks end_of_regions)

-- a module of these functions
abbrev pub module_of : List Op → PlainModule
module_of fs = record { props = []; attrs = []; funcs = fs }

-- what is found in a func.func `f` with arguments 0 to 7 of these types and this body in front of its return
abbrev pub wide : List PlainType
wide = Int 32 ∷ Int 32 ∷ Int 1 ∷ Index ∷ Memref (Fixed 2 ∷ Dynamic ∷ []) (Int 32) ∷ Ptr ∷ Int 64 ∷ Struct (types_in (Int 32 ∷ Array 2 (Int 64) ∷ [])) ∷ []

abbrev numbered : ℕ → List PlainType → Values
numbered n [] = []
numbered n (t ∷ ts) = (n, t) ∷ numbered (n + 1) ts

abbrev pub in_body : List Op → Answer
in_body os = answer (module_of (func (codes "f") wide [] (one_block 0 (numbered 0 wide) (os ++ ends (codes "func.return") [] [] [] ∷ [])) ∷ []))

-- and in one of these blocks, of which the first has arguments of `i32` and `i1`
abbrev pub in_blocks : Blocks → Answer
in_blocks blocks = answer (module_of (func (codes "f") (Int 32 ∷ Int 1 ∷ []) [] blocks ∷ []))
