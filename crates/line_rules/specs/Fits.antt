-- When an operation without regions and successors keeps the rules that are tests, by its shape alone.
use Rattle.std.specs.Prelude.{◌≡◌, ℕ, Bool, true, false, List, [], length, Some, None}
use Rattle.std.specs.List.{list_all}
use Rattle.plain_tree.specs.Types.{PlainType}
use Rattle.plain_tree.specs.ValueTypes.{is_value}
use Rattle.rule_model.specs.declared.shapes.Shape.{Shape as Form}
use Rattle.rule_model.specs.declared.shapes.Shape.TheVariants.{Recast, NumberConstant, FlaggedNumbers, TwoNumbers, CompareNumbers, SelectValues, Widen, NarrowNumber, IndexCast, IntegerConstant, FlaggedIntegers, TwoIntegers, CompareIntegers, SelectOwn, NarrowInteger}
use Rattle.rule_model.specs.Rows.{shape_of}
use Rattle.rule_model.specs.Facts.{Facts}
use Rattle.rule_model.specs.Types.{operands_fit, results_fit}
use Rattle.rule_model.specs.Parts.{attributes_fit}
use Rattle.rule_model.specs.Formed.{are_formed_entries, is_formed_type, is_inner_name}
use Rattle.plain_tree.specs.Ops.{Op}
use Rattle.rule_model.specs.Words.{AllOf, has, name_of}
use Rattle.rule_model.specs.Control.{ends_well}
use Rattle.conversion_model.specs.Targets.{operands_of, Shape, shape_of as of_shape}
use Rattle.line_rules.specs.Lines.{HasValue, is_empty, list_values}

-- the shapes of operations that only compute
abbrev pub is_line : Form → Bool
is_line Recast = true
is_line NumberConstant = true
is_line FlaggedNumbers = true
is_line TwoNumbers = true
is_line CompareNumbers = true
is_line SelectValues = true
is_line Widen = true
is_line NarrowNumber = true
is_line IndexCast = true
is_line IntegerConstant = true
is_line FlaggedIntegers = true
is_line TwoIntegers = true
is_line CompareIntegers = true
is_line SelectOwn = true
is_line NarrowInteger = true
is_line _ = false

-- its facts, as if it stood alone
abbrev pub facts_alone : Shape → Facts
facts_alone o = record { name = o.name; props = o.props; operands = o.operands; results = o.results; successors = []; regions = []; holder = None; last = false }

pub record Fits (o : Shape) : Type 0 where
  pub form : Form
  pub known : shape_of o.name ≡ Some form
  pub line : is_line form ≡ true
  pub name : is_inner_name o.name ≡ true
  pub operands : operands_fit (facts_alone o) form ≡ true
  pub results : results_fit (facts_alone o) form ≡ true
  pub attributes : attributes_fit (facts_alone o) form ≡ true
  pub operand_values : list_all is_value o.operands ≡ true
  pub operands_formed : list_all is_formed_type o.operands ≡ true
  pub result_values : list_all is_value o.results ≡ true
  pub results_formed : list_all is_formed_type o.results ≡ true
  pub props : are_formed_entries o.props ≡ true
  pub one : length o.results ≡ 1
  pub bare : o.regions ≡ 0
  pub ends_here : o.successors ≡ 0

-- Operations that fit in the place of one that is no terminator and ends no block: wherever its operands have their types
-- and the values that they make have theirs.
pub record LineFits (type_of : ℕ → PlainType) (o : Op) (l : List Op) : Type 0 where
  pub not_last : ends_well (Some (name_of o)) ≡ false
  pub some : is_empty l ≡ false
  pub fits : (types : ℕ → PlainType) → ((x : ℕ) → has x (operands_of o) ≡ true → types x ≡ type_of x) → ((x : ℕ) (t : PlainType) → HasValue x t (list_values l) → types x ≡ t) → AllOf (λ p. Fits (of_shape types p)) l
