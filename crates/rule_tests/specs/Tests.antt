-- The tests as code sees them: over the table of shapes by its name.
use Rattle.std.specs.Prelude.{ℕ, Bool, true, false, not, ◌&&◌, ◌||◌, List, [], ◌∷◌, take, Option, Some, None, if◌then◌else◌}
use Rattle.std.specs.List.{list_all}
use Rattle.plain_tree.specs.Types.{PlainType}
use Rattle.rule_model.specs.declared.shapes.Shape.{Shape}
use Rattle.rule_model.specs.declared.shapes.Shape.TheVariants.{FuncFunction, FuncCall, FuncReturn, Branch, BranchOn, If, For, While, Switch, Yield, Condition, LlvmFunction, LlvmCall, LlvmReturn}
use Rattle.rule_model.specs.Words.{if_some}
use Rattle.rule_model.specs.Rows.{ends_block, ends_block_as}
use Rattle.rule_model.specs.Facts.{Declared, Facts, Functions, Head, Holder, name_in, type_of_function}
use Rattle.rule_model.specs.Forms.{is_some_of}
use Rattle.rule_model.specs.Control.{is_condition, is_func_body, is_llvm_body, is_yield, no_successors}
use Rattle.rule_model.specs.Symbols as model
use Rattle.op_catalog.specs.Table.{shape_of}
use Rattle.operand_tests.specs.Tests.{passed_on}
use Rattle.rule_facts.specs.declared.symbols.Symbols.{Symbols}
use Rattle.rule_facts.specs.Views.{all_declared}

-- the functions of a table, and the first ones, so many
abbrev pub seen_from : Symbols → ℕ → Functions
seen_from s count = record { all = all_declared s.functions.now; earlier = take count (all_declared s.functions.now) }

-- Terminators

abbrev pub ends_well : Option (List ℕ) → Bool
ends_well None = false
ends_well (Some name) = ends_block_as (shape_of name) || not (is_some_of (shape_of name))

abbrev pub ends_by : (Option Shape → Bool) → Option (List ℕ) → Bool
ends_by test None = false
ends_by test (Some name) = test (shape_of name)

abbrev pub each_ends_by : (Option Shape → Bool) → List Head → Bool
each_ends_by test hs = list_all (λ h. ends_by test h.last) hs

abbrev pub end_by : (Option Shape → Bool) → (Option Shape → Bool) → List (List Head) → Bool
end_by first later [] = true
end_by first later (r ∷ rs) = each_ends_by first r && list_all (each_ends_by later) rs

abbrev pub end_as_named : Option Shape → List (List Head) → Bool
end_as_named (Some If) rs = list_all (each_ends_by is_yield) rs
end_as_named (Some For) rs = list_all (each_ends_by is_yield) rs
end_as_named (Some While) rs = end_by is_condition is_yield rs
end_as_named (Some Switch) rs = list_all (each_ends_by is_yield) rs
end_as_named _ rs = true

abbrev pub may_stand : Shape → Option Holder → Bool
may_stand FuncReturn (Some h) = is_func_body (shape_of h.name)
may_stand LlvmReturn (Some h) = is_llvm_body (shape_of h.name)
may_stand Yield (Some h) = is_some_of (passed_on Yield h)
may_stand Condition (Some h) = is_some_of (passed_on Condition h)
may_stand Branch h = true
may_stand BranchOn h = true
may_stand _ _ = false

abbrev pub stands_well : Facts → Option Shape → Bool
stands_well f None = true
stands_well f (Some s) = if ends_block s then f.last && may_stand s f.holder else no_successors f.successors

abbrev pub terminators_fit : Facts → Option Shape → Bool
terminators_fit f s = list_all (list_all (λ h. ends_well h.last)) f.regions && (end_as_named s f.regions && stands_well f s)

-- Functions

abbrev pub returns_fit : (Option Shape → Bool) → (List PlainType → Option PlainType → Bool) → List PlainType → Option Holder → Bool
returns_fit kind test ts None = true
returns_fit kind test ts (Some h) = if kind (shape_of h.name) then test ts (type_of_function h.props) else true

abbrev pub signatures_fit : Facts → Shape → Bool
signatures_fit f FuncFunction = model.has_value_types (type_of_function f.props)
signatures_fit f LlvmFunction = model.has_own_types (type_of_function f.props)
signatures_fit f FuncReturn = returns_fit is_func_body model.returns_types f.operands f.holder
signatures_fit f LlvmReturn = returns_fit is_llvm_body model.returns_llvm_types f.operands f.holder
signatures_fit f _ = true

abbrev pub is_callee : (Option Shape → Bool) → (Option PlainType → Bool) → Option Declared → Bool
is_callee kind test None = false
is_callee kind test (Some f) = kind (shape_of f.kind) && test (type_of_function f.props)

abbrev pub symbols_fit : Functions → Facts → Shape → Bool
symbols_fit c f FuncFunction = model.is_new_name c.earlier (name_in f.props)
symbols_fit c f LlvmFunction = model.is_new_name c.earlier (name_in f.props)
symbols_fit c f FuncCall = model.calls_one (is_callee is_func_body (model.has_call_type f.operands f.results)) c.all (model.callee_in f.props)
symbols_fit c f LlvmCall = model.calls_one (is_callee is_llvm_body (model.has_llvm_call_type f.operands f.results)) c.all (model.callee_in f.props)
symbols_fit c f _ = true

abbrev pub is_declaration : Facts → PlainType → Bool
is_declaration f t = is_llvm_body (shape_of f.name) && (model.is_type t (type_of_function f.props) && model.has_no_body f.regions)

abbrev pub is_declared : Facts → Option PlainType → Bool
is_declared f None = true
is_declared f (Some t) = is_declaration f t

abbrev pub declares : Facts → Bool
declares f = is_declared f (if_some (name_in f.props) (λ name. model.allocator_in name model.allocators))

abbrev pub names_fit : Facts → Shape → Bool
names_fit f FuncFunction = declares f
names_fit f LlvmFunction = declares f
names_fit f _ = true
