-- Shapes, and what a pass wants of them.
use Rattle.std.specs.Prelude.{ℕ, ◌+◌, Bool, true, false, not, ◌||◌, List, length, map, codes}
use Rattle.std.specs.List.{list_all, list_any}
use Rattle.std.specs.Str.{bytes_eq}
use Rattle.plain_tree.specs.Types.{PlainType}
use Rattle.plain_tree.specs.Attrs.{Entries}
use Rattle.plain_tree.specs.Ops.{Op, op, Regions, end_of_regions, region}
use Rattle.conversion_model.specs.Types.{is_own}

-- an operation without its numbers: this is all that a row and a target look at
pub record Shape : Type 0 where
  pub name : List ℕ
  pub operands : List PlainType
  pub results : List PlainType
  pub props : Entries
  pub attrs : Entries
  pub successors : ℕ
  pub regions : ℕ

abbrev pub region_count : Regions → ℕ
region_count end_of_regions = 0
region_count (region blocks more) = region_count more + 1

-- the shape of an operation whose operands have these types
abbrev pub shape_with : List PlainType → Op → Shape
shape_with types (op k results operands regions successors) = record {
  name = k.name;
  operands = types;
  results = map (λ v. v.1) results;
  props = k.props;
  attrs = k.attrs;
  successors = length successors;
  regions = region_count regions;
}

abbrev pub operands_of : Op → List ℕ
operands_of (op k results operands regions successors) = operands

abbrev pub name_of : Op → List ℕ
name_of (op k results operands regions successors) = k.name

-- the shape of an operation where values have these types
abbrev pub shape_of : (ℕ → PlainType) → Op → Shape
shape_of type_of o = shape_with (map type_of (operands_of o)) o

-- what a target asks of an operation with a dynamic name: that every operand has an own type, or that it has an
-- attribute (not a property) of that name
pub data Rule : Type 0 where
  TypesOwn : Rule
  HasAttr : List ℕ → Rule

abbrev pub holds : Rule → Shape → Bool
holds TypesOwn o = list_all is_own o.operands
holds (HasAttr name) o = list_any (λ e. bytes_eq e.0 name) o.attrs

-- what a target says of a name
pub data Legality : Type 0 where
  Legal : Legality
  Dynamic : Rule → Legality
  Illegal : Legality
  Unknown : Legality

abbrev pub Target : Type 0
Target = List ℕ → Legality

pub data Mode : Type 0 where
  Partial : Mode
  Full : Mode

abbrev pub is_legal_at : Shape → Legality → Bool
is_legal_at o Legal = true
is_legal_at o (Dynamic rule) = holds rule o
is_legal_at o Illegal = false
is_legal_at o Unknown = false

-- whether the target calls the operation legal: Unknown isn't legal
abbrev pub is_legal : Target → Shape → Bool
is_legal target o = is_legal_at o (target o.name)

abbrev pub may_be_at : Legality → Bool
may_be_at Legal = true
may_be_at (Dynamic rule) = true
may_be_at Illegal = false
may_be_at Unknown = false

-- whether an operation with the name may be legal
abbrev pub may_be_legal : Target → List ℕ → Bool
may_be_legal target name = may_be_at (target name)

abbrev pub is_illegal_at : Shape → Legality → Bool
is_illegal_at o Legal = false
is_illegal_at o (Dynamic rule) = not (holds rule o)
is_illegal_at o Illegal = true
is_illegal_at o Unknown = false

-- the terminators that go with the operation that holds them
abbrev pub goes_with_holder : List ℕ → Bool
goes_with_holder name = bytes_eq name (codes "scf.yield") || bytes_eq name (codes "scf.condition")

-- whether the mode demands that a source operation is legalised: in partial mode those that are illegal or dynamically
-- illegal, in full mode all but the terminators that go with their holder
abbrev pub demanded : Mode → Target → Shape → Bool
demanded Partial target o = is_illegal_at o (target o.name)
demanded Full target o = not (goes_with_holder o.name)
