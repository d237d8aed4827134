-- The steps at a function's start, as they are made.
use Rattle.std.specs.Prelude.{ℕ, List, ◌++◌, Option, Some, None}
use Rattle.conversion_model.specs.declared.templates.Source.{Source}
use Rattle.conversion_model.specs.Templates.{Template}
use Rattle.choice_code.specs.Drafts.{behind, done_of}
use Rattle.unit_choices.specs.declared.entry.Entry.{Entry}

-- a template with more results in front
abbrev pub results_before : List Source → Option Template → Option Template
results_before rs None = None
results_before rs (Some t) = Some (record { steps = t.steps; results = rs ++ t.results })

-- what is made so far, in front of the rest
abbrev pub begun : Entry → Option Template → Option Template
begun e o = results_before e.results (behind (done_of e.draft) o)

-- how the steps go on, from where the parameters stand and the number of values so far
abbrev pub goes_on : Entry → (ℕ → ℕ → Option Template) → Option Template
goes_on e rest = begun e (rest e.base e.draft.count)
