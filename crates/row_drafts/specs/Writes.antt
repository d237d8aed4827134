-- What is written of a draft, and what follows.
use Rattle.std.specs.Prelude.{◌≡◌, ◌++◌, ℕ, List, [], map}
use Rattle.plain_tree.specs.Attrs.{Entries}
use Rattle.conversion_model.specs.declared.templates.Source.{Source}
use Rattle.conversion_model.specs.declared.templates.TemplateTree.{TemplateTree}
use Rattle.conversion_model.specs.Templates.{Step, step_tree}
use Rattle.pattern_model.specs.Drafts.{Draft}
use Rattle.row_drafts.specs.declared.writer.Writer.{Writer}

-- the whole template, where the draft goes on so behind what is written
abbrev pub behind : Writer → Draft → TemplateTree
behind w d = record { steps = w.steps ++ map step_tree (d w.made).steps; results = (d w.made).results }

-- whether what was written, from the old to the new, is that part of a draft, which hands x on
abbrev pub Writes : {A : Type 0} → Writer → Writer → ((A → Draft) → Draft) → A → Type 0
Writes {A} old new part x = (next : A → Draft) → behind old (part next) ≡ behind new (next x)

-- the same of a part that hands nothing on
abbrev pub WritesOn : Writer → Writer → (Draft → Draft) → Type 0
WritesOn old new part = (next : Draft) → behind old (part next) ≡ behind new next

-- an operation without successors that makes no value
abbrev pub effect_step : List ℕ → List Source → Entries → Step
effect_step name sources props = record { name = name; props = props; sources = sources; successors = []; makes = [] }
