-- Rules `Signature`, `Symbol`, `Reserved` and `ValueType`: functions, calls, returns, and which types values have.
use Rattle.std.specs.Prelude.{ℕ, ◌+◌, Bool, true, false, not, ◌&&◌, List, [], ◌∷◌, Option, Some, None, codes, if◌then◌else◌}
use Rattle.std.specs.List.{list_all, list_any}
use Rattle.std.specs.Option.{option_map}
use Rattle.std.specs.Str.{bytes_eq}
use Rattle.plain_tree.specs.Types.{PlainType, Int, Func, Ptr, Void, LlvmFunc, types_in, types_of, same_type}
use Rattle.plain_tree.specs.ValueTypes.{is_own, is_value}
use Rattle.plain_tree.specs.Attrs.{Entries, PlainAttr, Symbol, entry}
use Rattle.rule_model.specs.declared.shapes.Shape.{Shape}
use Rattle.rule_model.specs.declared.shapes.Shape.TheVariants.{FuncFunction, FuncCall, FuncReturn, LlvmFunction, LlvmCall, LlvmReturn}
use Rattle.rule_model.specs.Words.{if_some}
use Rattle.rule_model.specs.Rows.{shape_of}
use Rattle.rule_model.specs.Facts.{Declared, Facts, Functions, Head, Holder, name_in, type_of_function}
use Rattle.rule_model.specs.Forms.{same_all}
use Rattle.rule_model.specs.Control.{is_func_body, is_llvm_body}

-- Signature

abbrev pub has_value_types : Option PlainType → Bool
has_value_types (Some (Func inputs outputs)) = list_all is_value (types_of inputs) && list_all is_value (types_of outputs)
has_value_types _ = true

abbrev pub is_own_or_void : PlainType → Bool
is_own_or_void Void = true
is_own_or_void t = is_own t

abbrev pub has_own_types : Option PlainType → Bool
has_own_types (Some (LlvmFunc output inputs)) = is_own_or_void output && list_all is_own (types_of inputs)
has_own_types _ = true

-- the results of an llvm function: none for `void`
abbrev pub llvm_results : PlainType → List PlainType
llvm_results Void = []
llvm_results t = t ∷ []

-- whether the types are the results of a function type
abbrev pub returns_types : List PlainType → Option PlainType → Bool
returns_types ts (Some (Func inputs outputs)) = same_all ts (types_of outputs)
returns_types ts _ = true

abbrev pub returns_llvm_types : List PlainType → Option PlainType → Bool
returns_llvm_types ts (Some (LlvmFunc output inputs)) = same_all ts (llvm_results output)
returns_llvm_types ts _ = true

-- a return right in a function of its kind returns the function's results
abbrev pub returns_fit : (Option Shape → Bool) → (List PlainType → Option PlainType → Bool) → List PlainType → Option Holder → Bool
returns_fit kind test ts None = true
returns_fit kind test ts (Some h) = if kind (shape_of h.name) then test ts (type_of_function h.props) else true

abbrev pub signatures_fit : Facts → Shape → Bool
signatures_fit f FuncFunction = has_value_types (type_of_function f.props)
signatures_fit f LlvmFunction = has_own_types (type_of_function f.props)
signatures_fit f FuncReturn = returns_fit is_func_body returns_types f.operands f.holder
signatures_fit f LlvmReturn = returns_fit is_llvm_body returns_llvm_types f.operands f.holder
signatures_fit f _ = true

-- Symbols

abbrev pub is_this : List ℕ → Option (List ℕ) → Bool
is_this name None = false
is_this name (Some n) = bytes_eq n name

-- whether a function has this name
abbrev pub is_named : List ℕ → Declared → Bool
is_named name f = is_this name (name_in f.props)

-- the first function of this name, and its place
abbrev pub function_named : List ℕ → List Declared → Option Declared
function_named name [] = None
function_named name (f ∷ fs) = if is_named name f then Some f else function_named name fs

abbrev pub function_place : List ℕ → List Declared → Option ℕ
function_place name [] = None
function_place name (f ∷ fs) = if is_named name f then Some 0 else option_map (λ n. n + 1) (function_place name fs)

-- no earlier function has the name
abbrev pub is_new_name : List Declared → Option (List ℕ) → Bool
is_new_name earlier None = true
is_new_name earlier (Some name) = not (list_any (is_named name) earlier)

-- from these operands to these results
abbrev pub has_call_type : List PlainType → List PlainType → Option PlainType → Bool
has_call_type operands results (Some (Func inputs outputs)) = same_all operands (types_of inputs) && same_all results (types_of outputs)
has_call_type operands results _ = false

abbrev pub has_llvm_call_type : List PlainType → List PlainType → Option PlainType → Bool
has_llvm_call_type operands results (Some (LlvmFunc output inputs)) = same_all operands (types_of inputs) && same_all results (llvm_results output)
has_llvm_call_type operands results _ = false

-- the function is there, of this kind and of that type
abbrev pub is_callee : (Option Shape → Bool) → (Option PlainType → Bool) → Option Declared → Bool
is_callee kind test None = false
is_callee kind test (Some f) = kind (shape_of f.kind) && test (type_of_function f.props)

abbrev pub symbol_in : PlainAttr → Option (List ℕ)
symbol_in (Symbol name) = Some name
symbol_in _ = None

-- of a call that names its callee
abbrev pub calls_one : (Option Declared → Bool) → List Declared → Option (List ℕ) → Bool
calls_one test all None = true
calls_one test all (Some name) = test (function_named name all)

abbrev pub callee_in : Entries → Option (List ℕ)
callee_in props = if_some (entry (codes "callee") props) symbol_in

abbrev pub symbols_fit : Functions → Facts → Shape → Bool
symbols_fit c f FuncFunction = is_new_name c.earlier (name_in f.props)
symbols_fit c f LlvmFunction = is_new_name c.earlier (name_in f.props)
symbols_fit c f FuncCall = calls_one (is_callee is_func_body (has_call_type f.operands f.results)) c.all (callee_in f.props)
symbols_fit c f LlvmCall = calls_one (is_callee is_llvm_body (has_llvm_call_type f.operands f.results)) c.all (callee_in f.props)
symbols_fit c f _ = true

-- Reserved names

-- the functions that make and end buffers, with their types
abbrev pub allocators : List (List ℕ × PlainType)
allocators =
    (codes "malloc", LlvmFunc Ptr (types_in (Int 64 ∷ [])))
    ∷ (codes "free", LlvmFunc Void (types_in (Ptr ∷ [])))
    ∷ (codes "aligned_alloc", LlvmFunc Ptr (types_in (Int 64 ∷ Int 64 ∷ [])))
    ∷ []

abbrev pub allocator_in : List ℕ → List (List ℕ × PlainType) → Option PlainType
allocator_in name [] = None
allocator_in name (a ∷ more) = if bytes_eq a.0 name then Some a.1 else allocator_in name more

abbrev pub is_type : PlainType → Option PlainType → Bool
is_type t None = false
is_type t (Some u) = same_type u t

-- one region without blocks
abbrev pub has_no_body : List (List Head) → Bool
has_no_body ([] ∷ []) = true
has_no_body _ = false

-- an llvm.func of this type without a body
abbrev pub is_declaration : Facts → PlainType → Bool
is_declaration f t = is_llvm_body (shape_of f.name) && (is_type t (type_of_function f.props) && has_no_body f.regions)

abbrev pub is_declared : Facts → Option PlainType → Bool
is_declared f None = true
is_declared f (Some t) = is_declaration f t

-- a function with the name of an allocator is its declaration
abbrev pub names_fit : Facts → Shape → Bool
names_fit f FuncFunction = is_declared f (if_some (name_in f.props) (λ name. allocator_in name allocators))
names_fit f LlvmFunction = is_declared f (if_some (name_in f.props) (λ name. allocator_in name allocators))
names_fit f _ = true

-- Value types

-- each result, and each argument of a block right within it
abbrev pub values_fit : Facts → Bool
values_fit f = list_all is_value f.results && list_all (list_all (λ h. list_all is_value h.args)) f.regions
