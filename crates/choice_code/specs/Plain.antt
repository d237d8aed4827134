-- Templates of code in plain form.
use Rattle.std.specs.Prelude.{Option, Some, None, map}
use Rattle.plain_tree.specs.Types.{plain_type}
use Rattle.plain_tree.specs.Attrs.{plain_entries}
use Rattle.conversion_model.specs.declared.templates.StepTree.{StepTree}
use Rattle.conversion_model.specs.declared.templates.TemplateTree.{TemplateTree}
use Rattle.conversion_model.specs.Templates.{Step, Template}

abbrev pub plain_step : StepTree → Step
plain_step s = record { name = s.name; props = plain_entries s.props; sources = s.sources; successors = s.successors; makes = map plain_type s.makes }

abbrev pub plain_template : TemplateTree → Template
plain_template t = record { steps = map plain_step t.steps; results = t.results }

-- the plain form of a template, where there is one
abbrev pub plain_or_none : Option TemplateTree → Option Template
plain_or_none None = None
plain_or_none (Some t) = Some (plain_template t)
