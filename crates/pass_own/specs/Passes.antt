-- What is asked of the table of a pass.
use Rattle.std.specs.Prelude.{ℕ}
use Rattle.pipeline_text.specs.declared.pass.PassName.{PassName}
use Rattle.pattern_model.specs.PassTable.{pass_of, patterns_of}
use Rattle.unit_choices.specs.Separate.{TakesOwn}

-- the cuts of each pass take values that are there from their operation alone, however many bits an index has
abbrev pub PassesTakeOwn : Type 0
PassesTakeOwn = (name : PassName) (bits : ℕ) → TakesOwn bits (patterns_of (pass_of name))
