-- Rules `Successors` and `Terminator`: where blocks go on, and how they end.
use Rattle.std.specs.Prelude.{ℕ, Bool, true, false, not, ◌&&◌, ◌||◌, List, [], ◌∷◌, take, drop, Option, Some, None, if◌then◌else◌}
use Rattle.std.specs.List.{list_all}
use Rattle.plain_tree.specs.Types.{PlainType}
use Rattle.rule_model.specs.declared.shapes.Shape.{Shape}
use Rattle.rule_model.specs.declared.shapes.Shape.TheVariants.{FuncFunction, FuncReturn, Branch, BranchOn, If, For, While, Switch, Yield, Condition, LlvmFunction, LlvmReturn}
use Rattle.rule_model.specs.Rows.{shape_of, ends_block, is_terminator}
use Rattle.rule_model.specs.Facts.{Facts, Head, Holder, Target}
use Rattle.rule_model.specs.Forms.{is_some_of, same_all, segments}
use Rattle.rule_model.specs.Types.{passed_on}

-- Successors

-- a block that isn't the first of its region
abbrev pub is_behind : Target → Bool
is_behind t = not t.first

abbrev pub takes : Option (List PlainType) → List PlainType → Bool
takes None ts = false
takes (Some args) ts = same_all ts args

-- such a block with arguments of these types
abbrev pub may_take : List PlainType → Target → Bool
may_take ts t = is_behind t && takes t.args ts

abbrev pub one_successor : List PlainType → List Target → Bool
one_successor ts (t ∷ []) = may_take ts t
one_successor ts _ = false

-- two successors; the operands behind the condition are parted by the counts, where these are given
abbrev pub two_successors : Option (ℕ × ℕ) → List PlainType → List Target → Bool
two_successors None ts (t ∷ u ∷ []) = is_behind t && is_behind u
two_successors (Some counts) ts (t ∷ u ∷ []) = may_take (take counts.0 ts) t && may_take (drop counts.0 ts) u
two_successors _ ts _ = false

abbrev pub no_successors : List Target → Bool
no_successors [] = true
no_successors _ = false

-- of an operation that is no branch, unregistered or not: none
abbrev pub successors_fit : Facts → Option Shape → Bool
successors_fit f (Some Branch) = one_successor f.operands f.successors
successors_fit f (Some BranchOn) = two_successors (segments f.props) (drop 1 f.operands) f.successors
successors_fit f _ = no_successors f.successors

-- Terminators

-- a block that isn't empty, and doesn't end by a known operation that is no terminator
abbrev pub ends_well : Option (List ℕ) → Bool
ends_well None = false
ends_well (Some name) = is_terminator name || not (is_some_of (shape_of name))

abbrev pub is_yield : Option Shape → Bool
is_yield (Some Yield) = true
is_yield _ = false

abbrev pub is_condition : Option Shape → Bool
is_condition (Some Condition) = true
is_condition _ = false

abbrev pub ends_by : (Option Shape → Bool) → Option (List ℕ) → Bool
ends_by test None = false
ends_by test (Some name) = test (shape_of name)

abbrev pub each_ends_by : (Option Shape → Bool) → List Head → Bool
each_ends_by test hs = list_all (λ h. ends_by test h.last) hs

-- the blocks of the first region end by one, those of the others by another
abbrev pub end_by : (Option Shape → Bool) → (Option Shape → Bool) → List (List Head) → Bool
end_by first later [] = true
end_by first later (r ∷ rs) = each_ends_by first r && list_all (each_ends_by later) rs

-- the blocks in an operation end by what its row names
abbrev pub end_as_named : Option Shape → List (List Head) → Bool
end_as_named (Some If) rs = end_by is_yield is_yield rs
end_as_named (Some For) rs = end_by is_yield is_yield rs
end_as_named (Some While) rs = end_by is_condition is_yield rs
end_as_named (Some Switch) rs = end_by is_yield is_yield rs
end_as_named _ rs = true

abbrev pub is_func_body : Option Shape → Bool
is_func_body (Some FuncFunction) = true
is_func_body _ = false

abbrev pub is_llvm_body : Option Shape → Bool
is_llvm_body (Some LlvmFunction) = true
is_llvm_body _ = false

-- whether a terminator may stand right in this region: a return in a function of its kind, a yield or a condition where it
-- passes on what is asked, a branch anywhere
abbrev pub may_stand : Shape → Option Holder → Bool
may_stand FuncReturn (Some h) = is_func_body (shape_of h.name)
may_stand LlvmReturn (Some h) = is_llvm_body (shape_of h.name)
may_stand Yield (Some h) = is_some_of (passed_on Yield h)
may_stand Condition (Some h) = is_some_of (passed_on Condition h)
may_stand Branch h = true
may_stand BranchOn h = true
may_stand _ _ = false

-- a terminator is the last of its block and stands where it may; another known operation has no successors
abbrev pub stands_well : Facts → Option Shape → Bool
stands_well f None = true
stands_well f (Some s) = if ends_block s then f.last && may_stand s f.holder else no_successors f.successors

abbrev pub terminators_fit : Facts → Option Shape → Bool
terminators_fit f s = list_all (list_all (λ h. ends_well h.last)) f.regions && (end_as_named s f.regions && stands_well f s)
