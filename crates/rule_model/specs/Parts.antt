-- Rules `Regions` and `Attribute`: regions with their blocks and first arguments, and properties.
use Rattle.std.specs.Prelude.{ℕ, ◌+◌, ◌==◌, Bool, true, false, not, ◌&&◌, ◌||◌, List, [], ◌∷◌, length, drop, Option, Some, None, codes}
use Rattle.std.specs.List.{list_all, list_any}
use Rattle.std.specs.Str.{bytes_eq}
use Rattle.plain_tree.specs.Types.{PlainType, Index, Func, LlvmFunc, types_of}
use Rattle.plain_tree.specs.Attrs.{PlainAttr, entry}
use Rattle.rule_model.specs.declared.shapes.Shape.{Shape}
use Rattle.rule_model.specs.declared.shapes.Shape.TheVariants.{Module, FuncFunction, FuncCall, NumberConstant, FlaggedNumbers, CompareNumbers, NarrowNumber, BranchOn, If, For, While, Switch, Execute, Allocate, LoadElement, StoreElement, LlvmFunction, LlvmCall, IntegerConstant, FlaggedIntegers, CompareIntegers, NarrowInteger, TakePart, PutPart, MovePointer}
use Rattle.rule_model.specs.Words.{if_some}
use Rattle.rule_model.specs.Facts.{Facts, Head, type_of_function}
use Rattle.rule_model.specs.Forms.{dynamic_count, dims_of, same_all, case_count, is_text, is_symbol, is_unit, is_truth, is_dict_list, is_func_type, is_llvm_func_type, is_integer_type, is_integer_of, is_predicate, is_alignment, is_flags, is_linkage, two_counts, is_some_of, is_size_count, distinct_count, finds_part, is_one_index}
use Rattle.rule_model.specs.Types.{no_types}

-- Regions

-- one block with arguments of these types
abbrev pub is_block_of : List PlainType → List Head → Bool
is_block_of ts (h ∷ []) = same_all h.args ts
is_block_of ts _ = false

abbrev pub has_no_blocks : List Head → Bool
has_no_blocks [] = true
has_no_blocks _ = false

abbrev pub no_regions : List (List Head) → Bool
no_regions [] = true
no_regions _ = false

-- no blocks, or blocks of which the first has arguments of these types, where they are known
abbrev pub is_body_of : Option (List PlainType) → List Head → Bool
is_body_of None hs = true
is_body_of (Some ts) [] = true
is_body_of (Some ts) (h ∷ hs) = same_all h.args ts

abbrev pub one_region : (List Head → Bool) → List (List Head) → Bool
one_region test (r ∷ []) = test r
one_region test _ = false

abbrev pub two_regions : (List Head → Bool) → (List Head → Bool) → List (List Head) → Bool
two_regions test other (r ∷ s ∷ []) = test r && other s
two_regions test other _ = false

-- one block or more, the first without arguments
abbrev pub starts_bare : List Head → Bool
starts_bare [] = false
starts_bare (h ∷ hs) = no_types h.args

-- one for the default and one for each case, where the cases are known
abbrev pub as_many_as_cases : Option ℕ → List (List Head) → Bool
as_many_as_cases None rs = true
as_many_as_cases (Some n) rs = length rs == n + 1

abbrev pub func_inputs : PlainType → Option (List PlainType)
func_inputs (Func inputs outputs) = Some (types_of inputs)
func_inputs _ = None

abbrev pub llvm_inputs : PlainType → Option (List PlainType)
llvm_inputs (LlvmFunc output inputs) = Some (types_of inputs)
llvm_inputs _ = None

-- the first bound's type, and those of the values that are carried
abbrev pub loop_args : List PlainType → List PlainType
loop_args [] = []
loop_args (t ∷ ts) = t ∷ drop 2 ts

abbrev pub regions_fit : Facts → Shape → Bool
regions_fit f FuncFunction = one_region (is_body_of (if_some (type_of_function f.props) func_inputs)) f.regions
regions_fit f LlvmFunction = one_region (is_body_of (if_some (type_of_function f.props) llvm_inputs)) f.regions
regions_fit f If = two_regions (is_block_of []) (λ r. is_block_of [] r || (has_no_blocks r && no_types f.results)) f.regions
regions_fit f For = one_region (is_block_of (loop_args f.operands)) f.regions
regions_fit f While = two_regions (is_block_of f.operands) (is_block_of f.results) f.regions
regions_fit f Switch = as_many_as_cases (case_count f.props) f.regions && list_all (is_block_of []) f.regions
regions_fit f Execute = one_region starts_bare f.regions
regions_fit f _ = no_regions f.regions

-- Properties

-- a property that is listed: whether it is needed, and its form
pub record Listed : Type 0 where
  pub name : List ℕ
  pub needed : Bool
  pub form : Facts → PlainAttr → Bool

abbrev pub needs : List ℕ → (PlainAttr → Bool) → Listed
needs name form = record { name = name; needed = true; form = λ f a. form a }

abbrev pub may_have : List ℕ → (PlainAttr → Bool) → Listed
may_have name form = record { name = name; needed = false; form = λ f a. form a }

-- an integer of the result's type
abbrev pub is_value_of : List PlainType → PlainAttr → Bool
is_value_of (t ∷ ts) a = is_integer_of t a
is_value_of _ a = true

-- the same, or of `index`
abbrev pub is_value_or_index_of : List PlainType → PlainAttr → Bool
is_value_or_index_of ts a = is_value_of ts a || is_integer_of Index a

-- how many dynamic sizes the result has
abbrev pub sizes_in : List PlainType → Option ℕ
sizes_in [] = None
sizes_in (t ∷ ts) = if_some (dims_of t) (λ ds. Some (dynamic_count ds))

-- the number of the result's dynamic sizes, and 0
abbrev pub counts_sizes : Option ℕ → PlainAttr → Bool
counts_sizes None a = true
counts_sizes (Some n) a = is_size_count n a

abbrev pub arith_flags : Listed
arith_flags = may_have (codes "overflowFlags") (is_flags (codes "arith.overflow"))

abbrev pub llvm_flags : Listed
llvm_flags = may_have (codes "overflowFlags") (is_flags (codes "llvm.overflow"))

abbrev pub predicate : Listed
predicate = needs (codes "predicate") is_predicate

abbrev pub path : Listed
path = record { name = codes "position"; needed = true; form = λ f a. finds_part f.operands a }

-- the properties that are listed for operations of a shape
abbrev pub listed : Shape → List Listed
listed Module = may_have (codes "sym_name") is_text ∷ may_have (codes "sym_visibility") is_text ∷ []
listed FuncFunction =
    needs (codes "function_type") is_func_type
    ∷ needs (codes "sym_name") is_text
    ∷ may_have (codes "sym_visibility") is_text
    ∷ may_have (codes "arg_attrs") is_dict_list
    ∷ may_have (codes "res_attrs") is_dict_list
    ∷ []
listed FuncCall = needs (codes "callee") is_symbol ∷ []
listed NumberConstant = record { name = codes "value"; needed = true; form = λ f a. is_value_of f.results a } ∷ []
listed FlaggedNumbers = arith_flags ∷ []
listed CompareNumbers = predicate ∷ []
listed NarrowNumber = arith_flags ∷ []
listed BranchOn = needs (codes "operandSegmentSizes") (λ a. is_some_of (two_counts a)) ∷ []
listed Switch = needs (codes "cases") (λ a. is_some_of (distinct_count a)) ∷ []
listed Execute = may_have (codes "no_inline") is_unit ∷ []
listed Allocate =
    record { name = codes "operandSegmentSizes"; needed = true; form = λ f a. counts_sizes (sizes_in f.results) a }
    ∷ may_have (codes "alignment") is_alignment
    ∷ []
listed LoadElement = may_have (codes "nontemporal") is_truth ∷ []
listed StoreElement = may_have (codes "nontemporal") is_truth ∷ []
listed LlvmFunction =
    needs (codes "function_type") is_llvm_func_type
    ∷ needs (codes "sym_name") is_text
    ∷ may_have (codes "linkage") is_linkage
    ∷ may_have (codes "sym_visibility") is_text
    ∷ []
listed LlvmCall = needs (codes "callee") is_symbol ∷ []
listed IntegerConstant = record { name = codes "value"; needed = true; form = λ f a. is_value_or_index_of f.results a } ∷ []
listed FlaggedIntegers = llvm_flags ∷ []
listed CompareIntegers = predicate ∷ []
listed NarrowInteger = llvm_flags ∷ []
listed TakePart = path ∷ []
listed PutPart = path ∷ []
listed MovePointer = needs (codes "elem_type") is_integer_type ∷ needs (codes "rawConstantIndices") is_one_index ∷ []
listed _ = []

-- whether a property of this name is listed
abbrev pub is_listed : Shape → List ℕ → Bool
is_listed s name = list_any (λ l. bytes_eq l.name name) (listed s)

-- a needed one is there, and one that is there has its form
abbrev pub has_form : Facts → Listed → Option PlainAttr → Bool
has_form f l None = not l.needed
has_form f l (Some a) = l.form f a

-- the flag that a loop may not have
abbrev pub unsigned_loop : Shape → Facts → Bool
unsigned_loop For f = is_some_of (entry (codes "unsignedCmp") f.props)
unsigned_loop _ f = false

abbrev pub attributes_fit : Facts → Shape → Bool
attributes_fit f s = list_all (λ l. has_form f l (entry l.name f.props)) (listed s) && not (unsigned_loop s f)
