-- The rows of cf_lowering on branches.
use Rattle.std.specs.Prelude.{ℕ, ◌≡◌, refl, List, [], ◌∷◌, pos, Option, Some, None, codes}
use Rattle.plain_tree.specs.Types.{PlainType, Int, Index}
use Rattle.plain_tree.specs.Attrs.{Entries, Numbers}
use Rattle.conversion_model.specs.declared.templates.Source.TheVariants.{Operand, Made}
use Rattle.conversion_model.specs.Templates.{Template}
use Rattle.conversion_model.specs.Targets.{Shape}
use Rattle.conversion_model.specs.Chosen.{chosen}
use Rattle.pattern_model.specs.CfRows.{cf_set}
use Rattle.pattern_model.specs.PassTable.{partial_target}
use Rattle.pattern_model.specs.OperationNames.{cf_names, llvm_branches}
use Rattle.pattern_model.proofs.RowTables.{table_at}

abbrev sizes : Entries
sizes = (codes "operandSegmentSizes", Numbers 32 (pos 1 ∷ pos 1 ∷ pos 0 ∷ [])) ∷ []

abbrev branch : ℕ → List PlainType → Entries → List ℕ → Shape
branch n operands props name = record { name = name; operands = operands; results = []; props = props; attrs = []; successors = n; regions = 0 }

-- a branch on all operands
abbrev to : List ℕ → Entries → List ℕ → Option Template
to name props successors = Some (record { steps = record { name = name; props = props; sources = Operand 0 ∷ Operand 1 ∷ []; successors = successors; makes = [] } ∷ []; results = [] })

-- of one successor: cf.br always, llvm.br where an operand's type isn't own
one_own : table_at 64 (branch 1 (Int 1 ∷ Int 32 ∷ []) sizes) cf_set ≡ to (codes "llvm.br") [] (0 ∷ []) ∷ None ∷ None ∷ None ∷ []
one_own = refl

one_other : table_at 64 (branch 1 (Int 1 ∷ Index ∷ []) sizes) cf_set ≡ to (codes "llvm.br") [] (0 ∷ []) ∷ None ∷ to (codes "llvm.br") [] (0 ∷ []) ∷ None ∷ []
one_other = refl

-- of two successors: with its sizes
two_own : table_at 32 (branch 2 (Int 1 ∷ Int 32 ∷ []) sizes) cf_set ≡ None ∷ to (codes "llvm.cond_br") sizes (0 ∷ 1 ∷ []) ∷ None ∷ None ∷ []
two_own = refl

two_other : table_at 32 (branch 2 (Int 1 ∷ Index ∷ []) sizes) cf_set ≡ None ∷ to (codes "llvm.cond_br") sizes (0 ∷ 1 ∷ []) ∷ None ∷ to (codes "llvm.cond_br") sizes (0 ∷ 1 ∷ []) ∷ []
two_other = refl

-- a branch of llvm with an index becomes one of the converted type, behind a cast, by the pattern of its own name
index_branch : chosen 32 (partial_target cf_names llvm_branches) cf_set [] (branch 1 (Index ∷ []) [] (codes "llvm.br")) ≡ Some (record {
  steps =
      record { name = codes "builtin.unrealized_conversion_cast"; props = []; sources = Operand 0 ∷ []; successors = []; makes = Int 32 ∷ [] }
      ∷ record { name = codes "llvm.br"; props = []; sources = Made 0 ∷ []; successors = 0 ∷ []; makes = [] } ∷ [];
  results = [];
})
index_branch = refl
