-- The tests as code makes them are those of the rules.
use Rattle.std.proofs.Common.{◌≡◌, ℕ, Bool, true, false, List, [], ◌∷◌, refl, sym, ap, ap₂, ◌∙◌}
use Rattle.std.specs.Prelude.{◌&&◌, Option, Some, None, if◌then◌else◌}
use Rattle.std.specs.List.{list_all}
use Rattle.std.proofs.Math.Path.{fun_ext}
use Rattle.rule_model.specs.declared.rules.Rule.{Rule}
use Rattle.rule_model.specs.declared.rules.Rule.TheVariants as rule
use Rattle.rule_model.specs.declared.shapes.Shape.{Shape}
use Rattle.rule_model.specs.declared.shapes.Shape.TheVariants.{Yield, Condition, FuncFunction, FuncReturn, FuncCall, LlvmFunction, LlvmCall, LlvmReturn, If, For, While, Switch}
use Rattle.plain_tree.specs.Types.{PlainType}
use Rattle.rule_model.specs.Words.{if_some}
use Rattle.rule_model.specs.Rows as rows
use Rattle.rule_model.specs.Rows.{ends_block}
use Rattle.rule_model.specs.Facts.{Declared, Facts, Functions, Head, Holder, name_in}
use Rattle.rule_model.specs.Control as control
use Rattle.rule_model.specs.Parts as parts
use Rattle.rule_model.specs.Symbols as symbols
use Rattle.rule_model.specs.Types as types
use Rattle.rule_model.specs.Rules.{if_registered}
use Rattle.op_catalog.specs.Table.{shape_of}
use Rattle.operand_tests.specs.Tests as operands
use Rattle.rule_tests.specs.Tests as tests
use Rattle.rule_tests.specs.Firsts.{all_tests, first_of, keeps, of_operation, or_then, unless}

same_operands : (f : Facts) (s : Shape) → types.operands_fit f s ≡ operands.operands_fit f s
unfolding shape_of
same_operands f Yield = go f.holder
  where
    go : (h : Option Holder) → types.same_if_asked (types.asked_at Yield h) f.operands ≡ types.same_if_asked (operands.asked_at Yield h) f.operands
    go None = refl
    go (Some h) = refl
same_operands f Condition = go f.holder
  where
    go : (h : Option Holder) → types.same_if_asked (types.asked_at Condition h) f.operands ≡ types.same_if_asked (operands.asked_at Condition h) f.operands
    go None = refl
    go (Some h) = refl
same_operands f _ = refl

-- Terminators

same_ends_well : (o : Option (List ℕ)) → control.ends_well o ≡ tests.ends_well o
unfolding shape_of
same_ends_well None = refl
same_ends_well (Some name) = refl

same_ends_by : (test : Option Shape → Bool) (o : Option (List ℕ)) → control.ends_by test o ≡ tests.ends_by test o
unfolding shape_of
same_ends_by test None = refl
same_ends_by test (Some name) = refl

all_heads : (test other : Head → Bool) → ((h : Head) → test h ≡ other h) → (hs : List Head) → list_all test hs ≡ list_all other hs
all_heads test other each hs = ap (λ (t : Head → Bool). list_all t hs) (fun_ext each)

all_regions : (test other : List Head → Bool) → ((hs : List Head) → test hs ≡ other hs) → (rs : List (List Head)) → list_all test rs ≡ list_all other rs
all_regions test other each rs = ap (λ (t : List Head → Bool). list_all t rs) (fun_ext each)

same_each : (test : Option Shape → Bool) (hs : List Head) → control.each_ends_by test hs ≡ tests.each_ends_by test hs
same_each test hs = all_heads (λ h. control.ends_by test h.last) (λ h. tests.ends_by test h.last) (λ h. same_ends_by test h.last) hs

same_by : (first later : Option Shape → Bool) (rs : List (List Head)) → control.end_by first later rs ≡ tests.end_by first later rs
same_by first later [] = refl
same_by first later (r ∷ rs) = ap₂ (λ a b. a && b) (same_each first r) (all_regions (control.each_ends_by later) (tests.each_ends_by later) (same_each later) rs)

same_yields : (rs : List (List Head)) → control.end_by control.is_yield control.is_yield rs ≡ list_all (tests.each_ends_by control.is_yield) rs
same_yields [] = refl
same_yields (r ∷ rs) = ap₂ (λ a b. a && b) (same_each control.is_yield r) (all_regions (control.each_ends_by control.is_yield) (tests.each_ends_by control.is_yield) (same_each control.is_yield) rs)

same_named : (s : Option Shape) (rs : List (List Head)) → control.end_as_named s rs ≡ tests.end_as_named s rs
same_named None rs = refl
same_named (Some If) rs = same_yields rs
same_named (Some For) rs = same_yields rs
same_named (Some While) rs = same_by control.is_condition control.is_yield rs
same_named (Some Switch) rs = same_yields rs
same_named (Some _) rs = refl

same_standing : (s : Shape) (h : Option Holder) → control.may_stand s h ≡ tests.may_stand s h
unfolding shape_of
same_standing s None = none_stands s
  where
    none_stands : (t : Shape) → control.may_stand t None ≡ tests.may_stand t None
    none_stands _ = refl
same_standing s (Some h) = some_stands s
  where
    some_stands : (t : Shape) → control.may_stand t (Some h) ≡ tests.may_stand t (Some h)
    some_stands _ = refl

same_stands : (f : Facts) (s : Option Shape) → control.stands_well f s ≡ tests.stands_well f s
same_stands f None = refl
same_stands f (Some s) = ap (λ b. if ends_block s then f.last && b else control.no_successors f.successors) (same_standing s f.holder)

same_terminators : (f : Facts) (s : Option Shape) → control.terminators_fit f s ≡ tests.terminators_fit f s
same_terminators f s =
    ap₂ (λ a b. a && b)
    (all_regions (list_all (λ h. control.ends_well h.last)) (list_all (λ h. tests.ends_well h.last)) (all_heads (λ h. control.ends_well h.last) (λ h. tests.ends_well h.last) (λ h. same_ends_well h.last)) f.regions)
    (ap₂ (λ a b. a && b) (same_named s f.regions) (same_stands f s))

-- Functions

same_returns : (kind : Option Shape → Bool) (test : List PlainType → Option PlainType → Bool) (ts : List PlainType) (h : Option Holder) → symbols.returns_fit kind test ts h ≡ tests.returns_fit kind test ts h
unfolding shape_of
same_returns kind test ts None = refl
same_returns kind test ts (Some h) = refl

same_signatures : (f : Facts) (s : Shape) → symbols.signatures_fit f s ≡ tests.signatures_fit f s
same_signatures f FuncReturn = same_returns control.is_func_body symbols.returns_types f.operands f.holder
same_signatures f LlvmReturn = same_returns control.is_llvm_body symbols.returns_llvm_types f.operands f.holder
same_signatures f _ = refl

same_callee : (kind : Option Shape → Bool) (test : Option PlainType → Bool) (o : Option Declared) → symbols.is_callee kind test o ≡ tests.is_callee kind test o
unfolding shape_of
same_callee kind test None = refl
same_callee kind test (Some f) = refl

same_calls : (test other : Option Declared → Bool) → ((o : Option Declared) → test o ≡ other o) → (all : List Declared) (name : Option (List ℕ)) → symbols.calls_one test all name ≡ symbols.calls_one other all name
same_calls test other each all name = ap (λ (t : Option Declared → Bool). symbols.calls_one t all name) (fun_ext each)

same_symbols : (c : Functions) (f : Facts) (s : Shape) → symbols.symbols_fit c f s ≡ tests.symbols_fit c f s
same_symbols c f FuncCall =
    let test : Option PlainType → Bool = symbols.has_call_type f.operands f.results in
    same_calls (symbols.is_callee control.is_func_body test) (tests.is_callee control.is_func_body test) (same_callee control.is_func_body test) c.all (symbols.callee_in f.props)
same_symbols c f LlvmCall =
    let test : Option PlainType → Bool = symbols.has_llvm_call_type f.operands f.results in
    same_calls (symbols.is_callee control.is_llvm_body test) (tests.is_callee control.is_llvm_body test) (same_callee control.is_llvm_body test) c.all (symbols.callee_in f.props)
same_symbols c f _ = refl

same_declared : (f : Facts) (o : Option PlainType) → symbols.is_declared f o ≡ tests.is_declared f o
unfolding shape_of
same_declared f None = refl
same_declared f (Some t) = refl

same_names : (f : Facts) (s : Shape) → symbols.names_fit f s ≡ tests.names_fit f s
same_names f FuncFunction = same_declared f (if_some (name_in f.props) (λ name. symbols.allocator_in name symbols.allocators))
same_names f LlvmFunction = same_declared f (if_some (name_in f.props) (λ name. symbols.allocator_in name symbols.allocators))
same_names f _ = refl

-- Each rule

if_same : (test other : Shape → Bool) → ((s : Shape) → test s ≡ other s) → (o p : Option Shape) → o ≡ p → if_registered test o ≡ if_registered other p
if_same test other each o p e = ap₂ if_registered (fun_ext each) e

-- whether the rule is kept, by the shape
abbrev by_shape : Functions → Facts → Option Shape → Rule → Bool
by_shape c f s rule.Operands = if_registered (operands.operands_fit f) s
by_shape c f s rule.Results = if_registered (types.results_fit f) s
by_shape c f s rule.Regions = if_registered (parts.regions_fit f) s
by_shape c f s rule.Attribute = if_registered (parts.attributes_fit f) s
by_shape c f s rule.Successors = control.successors_fit f s
by_shape c f s rule.Terminator = tests.terminators_fit f s
by_shape c f s rule.Signature = if_registered (tests.signatures_fit f) s
by_shape c f s rule.Symbol = if_registered (tests.symbols_fit c f) s
by_shape c f s rule.Reserved = if_registered (tests.names_fit f) s
by_shape c f s rule.ValueType = symbols.values_fit f
by_shape c f s rule.Defined = true
by_shape c f s rule.OwnUse = true

looked_up : (name : List ℕ) → rows.shape_of name ≡ shape_of name
unfolding shape_of
looked_up name = refl

is_kept : (c : Functions) (f : Facts) (r : Rule) → keeps c f r ≡ by_shape c f (shape_of f.name) r
unfolding keeps
is_kept c f rule.Operands = if_same (types.operands_fit f) (operands.operands_fit f) (same_operands f) _ _ (looked_up f.name)
is_kept c f rule.Results = ap (if_registered (types.results_fit f)) (looked_up f.name)
is_kept c f rule.Regions = ap (if_registered (parts.regions_fit f)) (looked_up f.name)
is_kept c f rule.Attribute = ap (if_registered (parts.attributes_fit f)) (looked_up f.name)
is_kept c f rule.Successors = ap (control.successors_fit f) (looked_up f.name)
is_kept c f rule.Terminator = ap (control.terminators_fit f) (looked_up f.name) ∙ same_terminators f (shape_of f.name)
is_kept c f rule.Signature = if_same (symbols.signatures_fit f) (tests.signatures_fit f) (same_signatures f) _ _ (looked_up f.name)
is_kept c f rule.Symbol = if_same (symbols.symbols_fit c f) (tests.symbols_fit c f) (same_symbols c f) _ _ (looked_up f.name)
is_kept c f rule.Reserved = if_same (symbols.names_fit f) (tests.names_fit f) (same_names f) _ _ (looked_up f.name)
is_kept c f rule.ValueType = refl
is_kept c f rule.Defined = refl
is_kept c f rule.OwnUse = refl

-- The first that isn't kept

abbrev by_shapes : Functions → Facts → Option Shape → List Rule → Option Rule
by_shapes c f s [] = None
by_shapes c f s (r ∷ rs) = if by_shape c f s r then by_shapes c f s rs else Some r

all_kept : (c : Functions) (f : Facts) (rs : List Rule) → first_of c f rs ≡ by_shapes c f (shape_of f.name) rs
all_kept c f [] = refl
all_kept c f (r ∷ rs) = ap₂ (λ b (o : Option Rule). if b then o else Some r) (is_kept c f r) (all_kept c f rs)

behind_unless : (b : Bool) (r : Rule) (o next : Option Rule) → or_then (unless b r o) next ≡ unless b r (or_then o next)
behind_unless true r o next = refl
behind_unless false r o next = refl

in_parts : (c : Functions) (f : Facts) (s : Option Shape) → by_shapes c f s all_tests ≡ of_operation c f s
in_parts c f None = sym (behind_unless (control.successors_fit f None) rule.Successors _ _ ∙ ap (unless (control.successors_fit f None) rule.Successors) (behind_unless (tests.terminators_fit f None) rule.Terminator None _))
in_parts c f (Some s) =
    sym (
    behind_unless (operands.operands_fit f s) rule.Operands _ _ ∙ ap (unless (operands.operands_fit f s) rule.Operands) (
    behind_unless (types.results_fit f s) rule.Results _ _ ∙ ap (unless (types.results_fit f s) rule.Results) (
    behind_unless (parts.regions_fit f s) rule.Regions _ _ ∙ ap (unless (parts.regions_fit f s) rule.Regions) (
    behind_unless (parts.attributes_fit f s) rule.Attribute None _ ∙ ap (unless (parts.attributes_fit f s) rule.Attribute) (
    behind_unless (control.successors_fit f (Some s)) rule.Successors _ _ ∙ ap (unless (control.successors_fit f (Some s)) rule.Successors) (
    behind_unless (tests.terminators_fit f (Some s)) rule.Terminator None _ ∙ ap (unless (tests.terminators_fit f (Some s)) rule.Terminator) (
    behind_unless (tests.signatures_fit f s) rule.Signature _ _ ∙ ap (unless (tests.signatures_fit f s) rule.Signature) (
    behind_unless (tests.symbols_fit c f s) rule.Symbol _ _ ∙ ap (unless (tests.symbols_fit c f s) rule.Symbol) (
    behind_unless (tests.names_fit f s) rule.Reserved None _))))))))
    )

pub first_is : (c : Functions) (f : Facts) (s : Option Shape) → s ≡ shape_of f.name → of_operation c f s ≡ first_of c f all_tests
first_is c f s e = ap (of_operation c f) e ∙ sym (in_parts c f (shape_of f.name)) ∙ sym (all_kept c f all_tests)
