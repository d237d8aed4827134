-- The plain form of a declaration.
use Rattle.std.proofs.Common.{◌≡◌, ℕ, List, [], ◌∷◌, ◌++◌, map, None, ap, ◌∙◌}
use Rattle.std.specs.Prelude.{codes}
use Rattle.tree_model.specs.declared.attr_tree.AttrTree.{AttrTree}
use Rattle.tree_model.specs.declared.op_tree.OpTree.{roll-OpTree}
use Rattle.tree_model.specs.declared.op_tree.BlockTree.{BlockTree}
use Rattle.tree_model.specs.declared.op_tree.RegionTree.{RegionTree, roll-RegionTree}
use Rattle.tree_model.specs.declared.type_tree.TypeTree.{TypeTree}
use Rattle.tree_model.specs.declared.type_tree.TypeTree as type
use Rattle.plain_tree.specs.Types.{PlainType, LlvmFunc, Ptr, Void, plain_type, types_in}
use Rattle.plain_tree.proofs.TypeOpens.{plain-Int, plain-Ptr, plain-Void}
use Rattle.allocators.specs.Missing.{aligned_type, free_type, malloc_type}
use Rattle.plain_tree.specs.Attrs.{Entries, Text, plain_entries}
use Rattle.plain_tree.specs.Ops.{op, Blocks, regions_in, plain_op}
use Rattle.plain_tree.proofs.OpOpens.{plain_region, plain-roll, region-roll}
use Rattle.pattern_model.specs.FuncRows.{function_props}
use Rattle.pattern_model.specs.ModuleStep.{declaration}

declared_op : (name : List ℕ) (t : PlainType) (props : List (List ℕ × AttrTree)) → plain_entries props ≡ function_props t (Text name) None
    → plain_op (roll-OpTree (record { name = codes "llvm.func"; results = []; operands = []; props = props; attrs = []; regions = roll-RegionTree (record { blocks = [] }) ∷ []; successors = [] })) ≡ declaration name t
declared_op name t props e =
    plain-roll (record { name = codes "llvm.func"; results = []; operands = []; props = props; attrs = []; regions = roll-RegionTree (record { blocks = [] }) ∷ []; successors = [] })
    ∙ ap (λ (es : Entries). op (record { name = codes "llvm.func"; props = es; attrs = [] }) [] [] (regions_in (plain_region (roll-RegionTree (record { blocks = [] })) ∷ [])) []) e
    ∙ ap (λ (b : Blocks). op (record { name = codes "llvm.func"; props = function_props t (Text name) None; attrs = [] }) [] [] (regions_in (b ∷ [])) []) (region-roll (record { blocks = [] }))

-- as code makes it
pub declaration_made : (name : List ℕ) (t : PlainType) (func : List ℕ) (results : List (ℕ × TypeTree)) (operands : List ℕ) (props attrs : List (List ℕ × AttrTree)) (regions : List RegionTree) (successors : List ℕ) (blocks : List BlockTree)
    → func ≡ codes "llvm.func" → results ≡ [] → operands ≡ [] → plain_entries props ≡ function_props t (Text name) None → attrs ≡ [] → regions ≡ roll-RegionTree (record { blocks = blocks }) ∷ [] → blocks ≡ [] → successors ≡ []
    → plain_op (roll-OpTree (record { name = func; results = results; operands = operands; props = props; attrs = attrs; regions = regions; successors = successors })) ≡ declaration name t
declaration_made name t func results operands props attrs regions successors blocks is_name no_results no_operands is_props no_attrs is_regions no_blocks no_successors =
    ap (λ (x : List ℕ). plain_op (roll-OpTree (record { name = x; results = results; operands = operands; props = props; attrs = attrs; regions = regions; successors = successors }))) is_name
    ∙ ap (λ (x : List (ℕ × TypeTree)). plain_op (roll-OpTree (record { name = codes "llvm.func"; results = x; operands = operands; props = props; attrs = attrs; regions = regions; successors = successors }))) no_results
    ∙ ap (λ (x : List ℕ). plain_op (roll-OpTree (record { name = codes "llvm.func"; results = []; operands = x; props = props; attrs = attrs; regions = regions; successors = successors }))) no_operands
    ∙ ap (λ (x : List (List ℕ × AttrTree)). plain_op (roll-OpTree (record { name = codes "llvm.func"; results = []; operands = []; props = props; attrs = x; regions = regions; successors = successors }))) no_attrs
    ∙ ap (λ (x : List RegionTree). plain_op (roll-OpTree (record { name = codes "llvm.func"; results = []; operands = []; props = props; attrs = []; regions = x; successors = successors })))
    (is_regions ∙ ap (λ (bs : List BlockTree). roll-RegionTree (record { blocks = bs }) ∷ []) no_blocks)
    ∙ ap (λ (x : List ℕ). plain_op (roll-OpTree (record { name = codes "llvm.func"; results = []; operands = []; props = props; attrs = []; regions = roll-RegionTree (record { blocks = [] }) ∷ []; successors = x }))) no_successors
    ∙ declared_op name t props is_props

-- The types

pub is_malloc_type : (t : TypeTree) (inputs : List TypeTree) → inputs ≡ type.Int 64 ∷ [] → plain_type t ≡ LlvmFunc (plain_type type.Ptr) (types_in (map plain_type inputs)) → plain_type t ≡ malloc_type
is_malloc_type t inputs e h =
    h ∙ ap (λ (ts : List TypeTree). LlvmFunc (plain_type type.Ptr) (types_in (map plain_type ts))) e
    ∙ ap (λ (o : PlainType). LlvmFunc o (types_in (plain_type (type.Int 64) ∷ []))) plain-Ptr ∙ ap (λ (i : PlainType). LlvmFunc Ptr (types_in (i ∷ []))) (plain-Int 64)

pub is_free_type : (t : TypeTree) (inputs : List TypeTree) → inputs ≡ type.Ptr ∷ [] → plain_type t ≡ LlvmFunc (plain_type type.Void) (types_in (map plain_type inputs)) → plain_type t ≡ free_type
is_free_type t inputs e h =
    h ∙ ap (λ (ts : List TypeTree). LlvmFunc (plain_type type.Void) (types_in (map plain_type ts))) e
    ∙ ap (λ (o : PlainType). LlvmFunc o (types_in (plain_type type.Ptr ∷ []))) plain-Void ∙ ap (λ (i : PlainType). LlvmFunc Void (types_in (i ∷ []))) plain-Ptr

pub is_aligned_type : (t : TypeTree) (first inputs : List TypeTree) → first ≡ type.Int 64 ∷ [] → inputs ≡ first ++ type.Int 64 ∷ [] → plain_type t ≡ LlvmFunc (plain_type type.Ptr) (types_in (map plain_type inputs)) → plain_type t ≡ aligned_type
is_aligned_type t first inputs e f h =
    h ∙ ap (λ (ts : List TypeTree). LlvmFunc (plain_type type.Ptr) (types_in (map plain_type ts))) (f ∙ ap (λ (ts : List TypeTree). ts ++ type.Int 64 ∷ []) e)
    ∙ ap (λ (o : PlainType). LlvmFunc o (types_in (plain_type (type.Int 64) ∷ plain_type (type.Int 64) ∷ []))) plain-Ptr ∙ ap (λ (i : PlainType). LlvmFunc Ptr (types_in (i ∷ i ∷ []))) (plain-Int 64)
