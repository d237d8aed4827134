-- When a template, a row and a table are sound.
use Rattle.std.specs.Prelude.{◌≡◌, ℕ, Bool, true, List, [], ◌∷◌, ◌++◌, map, length, Option, Some, ⊤}
use Rattle.std.specs.List.{list_any}
use Rattle.plain_tree.specs.Types.{PlainType}
use Rattle.operation_model.specs.Values.{Value}
use Rattle.operation_model.specs.Doings.{Doing}
use Rattle.operation_model.specs.Forms.{Form, Branch, BranchOn, If, For, While, Switch, Execute, Yield, Condition}
use Rattle.conversion_model.specs.Types.{or_same}
use Rattle.conversion_model.specs.Templates.{Step, Template}
use Rattle.conversion_model.specs.Targets.{Shape}
use Rattle.conversion_model.specs.Rows.{Row, Straight, Cutting, Framing, Pattern}
use Rattle.conversion_model.specs.Chosen.{change_of, has_root}
use Rattle.rule_model.specs.Facts.{Facts, Target, Head, Holder}
use Rattle.rule_model.specs.Rows.{shape_of}
use Rattle.rule_model.specs.Rules.{if_registered}
use Rattle.rule_model.specs.Types.{operands_fit, results_fit}
use Rattle.rule_model.specs.Parts.{attributes_fit}
use Rattle.sound_model.specs.Refinement.{Refines}
use Rattle.sound_model.specs.Runs.{items_of, root_form, root_runs, template_runs, types_made}

-- A template over operands of these types does what an operation does and gives results of these types: for all operands and
-- labels, as many as there are, and whatever follows.
pub record DoesAs (bits : ℕ) (o : Shape) (operands results : List PlainType) (t : Template) : Type 0 where
  pub types : items_of operands (types_made t.steps) t.results ≡ Some results
  pub same : (args : List Value) (labels : List ℕ) (next : List Value → Doing)
      → length args ≡ length o.operands → length args ≡ length operands → length labels ≡ o.successors
      → Refines (root_runs bits o args labels next) (template_runs bits operands args labels t next)

-- the same with the operation's own types
abbrev pub Sound : ℕ → Shape → Template → Type 0
Sound bits o t = DoesAs bits o o.operands o.results t

-- an operation that a template may replace: it is no operation with regions and no end of one, and a branch has no results
abbrev pub IsReplaceable : Form → List PlainType → Type 0
IsReplaceable If results = ⊥
IsReplaceable (For width) results = ⊥
IsReplaceable While results = ⊥
IsReplaceable (Switch width cases) results = ⊥
IsReplaceable Execute results = ⊥
IsReplaceable Yield results = ⊥
IsReplaceable Condition results = ⊥
IsReplaceable Branch results = results ≡ []
IsReplaceable (BranchOn first second) results = results ≡ []
IsReplaceable _ results = ⊤

-- an operation of a shape, with what surrounds it
abbrev pub facts_with : Shape → List Target → List (List Head) → Option Holder → Bool → Facts
facts_with o successors regions holder last = record {
  name = o.name;
  props = o.props;
  operands = o.operands;
  results = o.results;
  successors = successors;
  regions = regions;
  holder = holder;
  last = last;
}

-- the operands, the results and the properties are as the rules ask
pub record IsFit (o : Shape) : Type 0 where
  pub successors : List Target
  pub regions : List (List Head)
  pub holder : Option Holder
  pub last : Bool
  pub operands_are : if_registered (operands_fit (facts_with o successors regions holder last)) (shape_of o.name) ≡ true
  pub results_are : if_registered (results_fit (facts_with o successors regions holder last)) (shape_of o.name) ≡ true
  pub props_are : if_registered (attributes_fit (facts_with o successors regions holder last)) (shape_of o.name) ≡ true

-- whether a pattern of the table has the name as root
abbrev pub is_root : List Pattern → List ℕ → Bool
is_root table name = list_any (has_root name) table

-- an operation that a pattern of the table may replace is as the rules ask
abbrev pub FitIfRoot : List Pattern → Shape → Type 0
FitIfRoot table o = is_root table o.name ≡ true → IsFit o

-- the shape of a step's operation, where its operands have these types
abbrev pub step_shape : Step → List PlainType → Shape
step_shape x types = record { name = x.name; operands = types; results = x.makes; props = x.props; attrs = []; successors = length x.successors; regions = 0 }

-- each step of a template over operands of these types, where values of those types were made before, takes what is there, and
-- so is its operation
abbrev pub StepsFit : List Pattern → List PlainType → List Step → List PlainType → Type 0
StepsFit table operands [] made = ⊤
StepsFit table operands (x ∷ xs) made =
    ((types : List PlainType) × (items_of operands made x.sources ≡ Some types) × FitIfRoot table (step_shape x types)) × StepsFit table operands xs (made ++ x.makes)

-- the types behind a change
abbrev pub all_changed : (PlainType → Option PlainType) → List PlainType → List PlainType
all_changed change types = map (λ t. or_same t (change t)) types

-- what a row owes for an operation that it replaces by this template: the template does what the operation does, over the
-- types that the pattern takes
pub record RowHolds (bits : ℕ) (table : List Pattern) (change : PlainType → Option PlainType) (o : Shape) (t : Template) : Type 0 where
  pub replaceable : IsReplaceable (root_form bits o) o.results
  pub steps : StepsFit table (all_changed change o.operands) t.steps []
  pub does : DoesAs bits o (all_changed change o.operands) (all_changed change o.results) t

abbrev pub RowSound : ℕ → List Pattern → List ℕ → (PlainType → Option PlainType) → Row → Type 0
RowSound bits table root change (Straight row) = (o : Shape) (t : Template) → o.name ≡ root → IsFit o → row o ≡ Some t → RowHolds bits table change o t
RowSound bits table root change (Cutting row) = ⊤
RowSound bits table root change (Framing row) = ⊤

-- a pattern of a table is sound
abbrev pub PatternSound : ℕ → List Pattern → Pattern → Type 0
PatternSound bits table p = RowSound bits table p.root (change_of bits p.is_converted) (p.row bits)

abbrev pub PatternsSound : ℕ → List Pattern → List Pattern → Type 0
PatternsSound bits table [] = ⊤
PatternsSound bits table (p ∷ ps) = PatternSound bits table p × PatternsSound bits table ps

-- each pattern of a table is sound
abbrev pub RowsSound : ℕ → List Pattern → Type 0
RowsSound bits table = PatternsSound bits table table
