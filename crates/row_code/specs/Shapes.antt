-- The plain form of a shape, and templates as trees.
use Rattle.std.specs.Prelude.{ℤ, Option, Some, None, map}
use Rattle.plain_tree.specs.Types.{PlainType, Int, plain_type}
use Rattle.plain_tree.specs.Attrs.{plain_entries}
use Rattle.conversion_model.specs.declared.templates.TemplateTree.{TemplateTree}
use Rattle.conversion_model.specs.Templates.{Template, template_tree}
use Rattle.conversion_model.specs.Targets.{Shape}
use Rattle.pattern_model.specs.Drafts.{wrapped}
use Rattle.row_code.specs.declared.shape.ShapeTree.{ShapeTree}

abbrev pub shape_of : ShapeTree → Shape
shape_of s = record {
  name = s.name;
  operands = map plain_type s.operands;
  results = map plain_type s.results;
  props = plain_entries s.props;
  attrs = plain_entries s.attrs;
  successors = s.successors;
  regions = s.regions;
}

-- the tree of a template, where there is one
abbrev pub tree_or_none : Option Template → Option TemplateTree
tree_or_none None = None
tree_or_none (Some t) = Some (template_tree t)

-- a number of that type: of an integer the value in its bits
abbrev pub number_kept : PlainType → ℤ → ℤ
number_kept (Int bits) n = wrapped bits n
number_kept t n = n
