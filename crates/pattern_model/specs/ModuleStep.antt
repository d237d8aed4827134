-- The step of a pass on the module: declarations of the allocation functions that calls name.
use Rattle.std.specs.Prelude.{ℕ, Bool, false, not, ◌&&◌, List, [], ◌∷◌, ◌++◌, Option, Some, None, if◌then◌else◌, codes}
use Rattle.std.specs.List.{list_any}
use Rattle.std.specs.Str.{bytes_eq}
use Rattle.pipeline_text.specs.declared.pass.PassName.{PassName}
use Rattle.pipeline_text.specs.declared.pass.PassName.TheVariants.{FinalizeMemrefToLlvm, FullConvertToLlvm}
use Rattle.plain_tree.specs.Types.{PlainType, Int, Ptr, Void, LlvmFunc, types_in}
use Rattle.plain_tree.specs.Attrs.{Entries, PlainAttr, Text, Symbol, entry}
use Rattle.plain_tree.specs.Ops.{Op, op, end_of_regions, region, end_of_blocks}
use Rattle.conversion_model.specs.Uses.{operations}
use Rattle.pattern_model.specs.FuncRows.{function_props}

abbrev pub props_of : Op → Entries
props_of (op k results operands regions successors) = k.props

abbrev pub is_symbol : List ℕ → Option PlainAttr → Bool
is_symbol name (Some (Symbol s)) = bytes_eq s name
is_symbol name _ = false

abbrev pub is_text : List ℕ → Option PlainAttr → Bool
is_text name (Some (Text s)) = bytes_eq s name
is_text name _ = false

-- whether an operation is an llvm.call of that name
abbrev pub calls : List ℕ → Op → Bool
calls name (op k results operands regions successors) = bytes_eq k.name (codes "llvm.call") && is_symbol name (entry (codes "callee") k.props)

abbrev pub is_called : List ℕ → List Op → Bool
is_called name funcs = list_any (λ f. list_any (λ o. calls name o.1) (operations f)) funcs

-- whether a function of either kind has that name
abbrev pub is_there : List ℕ → List Op → Bool
is_there name funcs = list_any (λ f. is_text name (entry (codes "sym_name") (props_of f))) funcs

-- a function without a body
abbrev pub declaration : List ℕ → PlainType → Op
declaration name t = op (record { name = codes "llvm.func"; props = function_props t (Text name) None; attrs = [] }) [] [] (region end_of_blocks end_of_regions) []

-- put last where it is called and no function has its name
abbrev pub declared : List ℕ → PlainType → List Op → List Op
declared name t funcs = if is_called name funcs && not (is_there name funcs) then funcs ++ declaration name t ∷ [] else funcs

-- malloc, free, aligned_alloc, in this order
abbrev pub allocators_declared : List Op → List Op
allocators_declared funcs =
    declared (codes "aligned_alloc") (LlvmFunc Ptr (types_in (Int 64 ∷ Int 64 ∷ [])))
    (declared (codes "free") (LlvmFunc Void (types_in (Ptr ∷ [])))
    (declared (codes "malloc") (LlvmFunc Ptr (types_in (Int 64 ∷ []))) funcs))

-- of finalize-memref-to-llvm and full-convert-to-llvm; other passes have none
abbrev pub module_step : PassName → List Op → List Op
module_step FinalizeMemrefToLlvm funcs = allocators_declared funcs
module_step FullConvertToLlvm funcs = allocators_declared funcs
module_step _ funcs = funcs
