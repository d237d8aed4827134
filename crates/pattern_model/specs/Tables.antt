-- All patterns, set by set.
use Rattle.std.specs.Prelude.{ℕ, List, ◌∷◌, ◌++◌}
use Rattle.conversion_model.specs.Rows.{Pattern}
use Rattle.pattern_model.specs.ScfRows.{scf_set}
use Rattle.pattern_model.specs.ExpandRows.{expand_set}
use Rattle.pattern_model.specs.ArithRows.{arith_set}
use Rattle.pattern_model.specs.CfRows.{cf_set}
use Rattle.pattern_model.specs.MemrefRows.{memref_set}
use Rattle.pattern_model.specs.FuncRows.{func_set}

-- the six sets in order: positions run through them
abbrev pub all_sets : List Pattern
all_sets = scf_set ++ expand_set ++ arith_set ++ cf_set ++ memref_set ++ func_set

-- a pattern's root and the names that it may make
abbrev pub names_of : Pattern → List (List ℕ)
names_of p = p.root ∷ p.makes
