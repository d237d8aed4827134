-- The tests of attributes as code makes them.
use Rattle.std.specs.Prelude.{ℕ, ℤ, pos, negsuc, ◌==◌, ◌&&◌, Bool, true, false, not, codes, Option, Some, None}
use Rattle.std.specs.List.{list_any}
use Rattle.plain_tree.specs.Attrs.{Entries, PlainAttr, Dict, entry}
use Rattle.rule_model.specs.declared.shapes.Shape.{Shape}
use Rattle.rule_model.specs.declared.shapes.Shape.TheVariants.{Module, FuncFunction, FuncCall, NumberConstant, FlaggedNumbers, CompareNumbers, NarrowNumber, BranchOn, For, Execute, Allocate, LoadElement, StoreElement, LlvmFunction, LlvmCall, IntegerConstant, FlaggedIntegers, CompareIntegers, NarrowInteger, TakePart, PutPart, MovePointer}
use Rattle.rule_model.specs.Facts.{Facts}
use Rattle.rule_model.specs.Forms.{alignments, finds_part, is_alignment, is_dict_list, is_flags, is_func_type, is_integer_type, is_linkage, is_llvm_func_type, is_one_index, is_predicate, is_some_of, is_symbol, is_text, is_truth, is_unit, two_counts}
use Rattle.rule_model.specs.Parts.{counts_sizes, is_value_of, is_value_or_index_of, sizes_in}

abbrev pub is_dict : PlainAttr → Bool
is_dict (Dict entries) = true
is_dict _ = false

-- a power of two up to 4096
abbrev pub is_power : ℤ → Bool
is_power (pos n) = list_any (λ a. a == n) alignments
is_power (negsuc n) = false

abbrev pub is_count : ℕ → ℤ → Bool
is_count n (pos d) = d == n
is_count n (negsuc d) = false

-- what is needed is there and has its form; what may be there has it
abbrev pub needed : (PlainAttr → Bool) → Option PlainAttr → Bool
needed form None = false
needed form (Some a) = form a

abbrev pub optional : (PlainAttr → Bool) → Option PlainAttr → Bool
optional form None = true
optional form (Some a) = form a

abbrev pub of_function : Entries → Bool
of_function props =
    needed is_func_type (entry (codes "function_type") props)
    && (needed is_text (entry (codes "sym_name") props)
    && (optional is_text (entry (codes "sym_visibility") props)
    && (optional is_dict_list (entry (codes "arg_attrs") props) && optional is_dict_list (entry (codes "res_attrs") props))))

abbrev pub of_llvm_function : Entries → Bool
of_llvm_function props =
    needed is_llvm_func_type (entry (codes "function_type") props)
    && (needed is_text (entry (codes "sym_name") props)
    && (optional is_linkage (entry (codes "linkage") props) && optional is_text (entry (codes "sym_visibility") props)))

-- of each shape but a switch
abbrev pub of_others : Facts → Shape → Bool
of_others f Module = optional is_text (entry (codes "sym_name") f.props) && optional is_text (entry (codes "sym_visibility") f.props)
of_others f FuncFunction = of_function f.props
of_others f LlvmFunction = of_llvm_function f.props
of_others f FuncCall = needed is_symbol (entry (codes "callee") f.props)
of_others f LlvmCall = needed is_symbol (entry (codes "callee") f.props)
of_others f NumberConstant = needed (is_value_of f.results) (entry (codes "value") f.props)
of_others f IntegerConstant = needed (is_value_or_index_of f.results) (entry (codes "value") f.props)
of_others f FlaggedNumbers = optional (is_flags (codes "arith.overflow")) (entry (codes "overflowFlags") f.props)
of_others f NarrowNumber = optional (is_flags (codes "arith.overflow")) (entry (codes "overflowFlags") f.props)
of_others f FlaggedIntegers = optional (is_flags (codes "llvm.overflow")) (entry (codes "overflowFlags") f.props)
of_others f NarrowInteger = optional (is_flags (codes "llvm.overflow")) (entry (codes "overflowFlags") f.props)
of_others f CompareNumbers = needed is_predicate (entry (codes "predicate") f.props)
of_others f CompareIntegers = needed is_predicate (entry (codes "predicate") f.props)
of_others f BranchOn = needed (λ a. is_some_of (two_counts a)) (entry (codes "operandSegmentSizes") f.props)
of_others f Execute = optional is_unit (entry (codes "no_inline") f.props)
of_others f Allocate = needed (counts_sizes (sizes_in f.results)) (entry (codes "operandSegmentSizes") f.props) && optional is_alignment (entry (codes "alignment") f.props)
of_others f LoadElement = optional is_truth (entry (codes "nontemporal") f.props)
of_others f StoreElement = optional is_truth (entry (codes "nontemporal") f.props)
of_others f TakePart = needed (finds_part f.operands) (entry (codes "position") f.props)
of_others f PutPart = needed (finds_part f.operands) (entry (codes "position") f.props)
of_others f MovePointer = needed is_integer_type (entry (codes "elem_type") f.props) && needed is_one_index (entry (codes "rawConstantIndices") f.props)
of_others f For = not (is_some_of (entry (codes "unsignedCmp") f.props))
of_others f s = true
