-- A template that is given result by result.
use Rattle.std.specs.Prelude.{◌++◌, [], map}
use Rattle.conversion_model.specs.Templates.{Template}
use Rattle.choice_code.specs.declared.given.Given.{Given}
use Rattle.choice_code.specs.Plain.{plain_step}

-- what is given so far, in front of the rest
abbrev pub joined : Given → Template → Template
joined g t = record { steps = map plain_step g.steps ++ t.steps; results = g.results ++ t.results }

abbrev pub no_more : Template
no_more = record { steps = []; results = [] }
