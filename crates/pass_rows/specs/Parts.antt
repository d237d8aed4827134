-- The patterns of sets, and of sets one behind another.
use Rattle.std.specs.Prelude.{List, [], ◌∷◌, ◌++◌}
use Rattle.conversion_model.specs.Rows.{Pattern}
use Rattle.pattern_model.specs.ScfRows.{scf_set}
use Rattle.pattern_model.specs.ExpandRows.{expand_set}
use Rattle.pattern_model.specs.ArithRows.{arith_set}
use Rattle.pattern_model.specs.CfRows.{cf_set}
use Rattle.pattern_model.specs.MemrefRows.{memref_set}
use Rattle.pattern_model.specs.FuncRows.{cast_pattern, func_set_without_cast}
use Rattle.pass_rows.specs.declared.parts.Part.{Part}
use Rattle.pass_rows.specs.declared.parts.Part.TheVariants.{Scf, Expand, Arith, Cf, Memref, Func, Cast}

abbrev pub patterns_in : Part → List Pattern
patterns_in Scf = scf_set
patterns_in Expand = expand_set
patterns_in Arith = arith_set
patterns_in Cf = cf_set
patterns_in Memref = memref_set
patterns_in Func = func_set_without_cast
patterns_in Cast = cast_pattern ∷ []

abbrev pub patterns_at : List Part → List Pattern
patterns_at [] = []
patterns_at (p ∷ ps) = patterns_in p ++ patterns_at ps
