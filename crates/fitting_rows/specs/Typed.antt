-- Templates whose steps fit, by the types of the operands and of the values that earlier steps made.
use Rattle.std.specs.Prelude.{◌≡◌, ℕ, ◌+◌, List, [], ◌∷◌, ◌++◌, length, map, Option, Some, None, codes, true, ⊤}
use Rattle.plain_tree.specs.Types.{PlainType}
use Rattle.rule_model.specs.Words.{AllOf}
use Rattle.rule_model.specs.Forms.{at_place}
use Rattle.conversion_model.specs.declared.templates.Source.{Source}
use Rattle.conversion_model.specs.declared.templates.Source.TheVariants.{Operand, Made}
use Rattle.conversion_model.specs.Types.{or_same}
use Rattle.conversion_model.specs.Templates.{Step, Template}
use Rattle.conversion_model.specs.Targets.{Shape}
use Rattle.conversion_model.specs.Rows.{Pattern}
use Rattle.conversion_model.specs.Chosen.{by_row, has_root, Leaves}

-- the type of a source, none where it isn't there
abbrev pub source_type : (operands made : List PlainType) → Source → Option PlainType
source_type ts us (Operand k) = at_place k ts
source_type ts us (Made k) = at_place k us

abbrev pub type_and : Option PlainType → Option (List PlainType) → Option (List PlainType)
type_and (Some t) (Some ts) = Some (t ∷ ts)
type_and _ _ = None

abbrev pub source_types : (operands made : List PlainType) → List Source → Option (List PlainType)
source_types ts us [] = Some []
source_types ts us (s ∷ ss) = type_and (source_type ts us s) (source_types ts us ss)

-- the shape of a step whose operands have these types
abbrev pub step_shape : Step → List PlainType → Shape
step_shape x types = record { name = x.name; operands = types; results = x.makes; props = x.props; attrs = []; successors = length x.successors; regions = 0 }

-- a step that fits: all its sources are there
pub record TypedStep (Fit : Shape → Type 0) (operands made : List PlainType) (x : Step) : Type 0 where
  pub types : List PlainType
  pub are : source_types operands made x.sources ≡ Some types
  pub fits : Fit (step_shape x types)

abbrev pub TypedSteps : (Shape → Type 0) → (operands made : List PlainType) → List Step → Type 0
TypedSteps Fit ts made [] = ⊤
TypedSteps Fit ts made (x ∷ xs) = TypedStep Fit ts made x × TypedSteps Fit ts (made ++ x.makes) xs

-- the types of all values that steps make
abbrev pub made_types : List Step → List PlainType
made_types [] = []
made_types (x ∷ xs) = x.makes ++ made_types xs

-- results that are none, or the last of so many values
abbrev pub AtEnd : List Source → ℕ → Type 0
AtEnd [] n = ⊤
AtEnd (Made m ∷ []) n = m + 1 ≡ n
AtEnd _ n = ⊥

-- what is left of a template, where values of these types were made
pub record TypedRest (Fit : Shape → Type 0) (operands made results : List PlainType) (t : Template) : Type 0 where
  pub steps : TypedSteps Fit operands made t.steps
  pub results_are : source_types operands (made ++ made_types t.steps) t.results ≡ Some results
  pub at_end : AtEnd t.results (length (made ++ made_types t.steps))

-- a template in the place of an operation of this shape
abbrev pub Typed : (Shape → Type 0) → Shape → Template → Type 0
Typed Fit o t = TypedRest Fit o.operands [] o.results t

-- a type behind a change
abbrev pub changed : (PlainType → Option PlainType) → PlainType → PlainType
changed change t = or_same t (change t)

abbrev pub cast_shape : PlainType → PlainType → Shape
cast_shape from to = record { name = codes "builtin.unrealized_conversion_cast"; operands = from ∷ []; results = to ∷ []; props = []; attrs = []; successors = 0; regions = 0 }

-- casts of a type to what it becomes, and back, fit
abbrev pub CastsFit : (Shape → Type 0) → (PlainType → Option PlainType) → PlainType → Type 0
CastsFit Fit change t = (u : PlainType) → change t ≡ Some u → Fit (cast_shape t u) × Fit (cast_shape u t)

-- a row's template, over converted types: each step fits and makes one value, and the result is the last of these
pub record RowTyped (Fit : Shape → Type 0) (change : PlainType → Option PlainType) (o : Shape) (t : Template) : Type 0 where
  pub steps : TypedSteps Fit (map (changed change) o.operands) [] t.steps
  pub results : source_types (map (changed change) o.operands) (made_types t.steps) t.results ≡ Some (map (changed change) o.results)
  pub at_end : AtEnd t.results (length (made_types t.steps))
  pub ones : AllOf (λ (x : Step). length x.makes ≡ 1) t.steps

-- leaves that fit
abbrev pub LeavesTyped : (Shape → Type 0) → Leaves → Type 0
LeavesTyped Fit leaves = (o : Shape) (t : Template) → Fit o → leaves o ≡ Some t → Typed Fit o t

-- where a pattern's row is defined for a shape that fits, the leaves fit, where those of the products do
abbrev pub PatternTyped : (Shape → Type 0) → ℕ → Pattern → Type 0
PatternTyped Fit bits p = (leaves : Leaves) (o : Shape) (t : Template) → LeavesTyped Fit leaves → has_root o.name p ≡ true → Fit o → by_row bits p.is_converted leaves o (p.row bits) ≡ Some t → Typed Fit o t

abbrev pub TableTyped : (Shape → Type 0) → ℕ → List Pattern → Type 0
TableTyped Fit bits [] = ⊤
TableTyped Fit bits (p ∷ ps) = PatternTyped Fit bits p × TableTyped Fit bits ps
