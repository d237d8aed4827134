-- The conversion of a function, with new numbers that are fresh for it.
use Rattle.std.specs.Prelude.{◌≡◌, ℕ, Bool, List, Result, Ok, Err}
use Rattle.tree_model.specs.declared.op_tree.OpTree.{OpTree}
use Rattle.plain_tree.specs.Ops.{Op, plain_op}
use Rattle.conversion_model.specs.Conversion.{Pass, Supply, Unlegalised, conv, converted, replacements}
use Rattle.conversion_model.specs.Fresh.{Fresh}
use Rattle.conversion_model.specs.Rows.{Pattern}
use Rattle.conversion_model.specs.Targets.{Mode, Target}
use Rattle.conversion_model.specs.Uses.{copies_left_out}
use Rattle.new_numbers.specs.Tables.{Extends, Numbering, supply_of}
use Rattle.unit_choices.specs.Answers.{Chose, pass_of, unlegalised}
use Rattle.unit_choices.specs.declared.unlegalised.UnlegalisedTree.{UnlegalisedTree}
use Rattle.unit_slots.specs.declared.slots.Choices.{Choices}

-- a function as it is made, or the operation that is not legalised
abbrev pub answer : Result OpTree UnlegalisedTree → Result Op Unlegalised
answer (Ok g) = Ok (plain_op g)
answer (Err e) = Err (unlegalised e)

-- The conversion comes to this with some new numbers that are fresh; where it fails it fails so with all that are.
pub record Converts (p : Pass) (bits : ℕ) (f : Op) (r : Result Op Unlegalised) : Type 0 where
  pub new : Supply
  pub fresh : Fresh new f
  pub is : conv p bits new f ≡ r
  pub refused : (e : Unlegalised) → r ≡ Err e → (other : Supply) → Fresh other f → conv p bits other f ≡ Err e

-- Stages

-- for each table that extends this one, and each pass of which these are the choices, its replacements without copies
abbrev pub Replaces : Choices → Numbering → Op → Op → Type 0
Replaces c t f g = (u : Numbering) → Extends t u → (p : Pass) (bits : ℕ) → Chose p bits (supply_of u) f c → g ≡ copies_left_out (replacements p bits (supply_of u) f)

-- for some new numbers that are fresh, and each pass of this mode of which these are the choices, the tree behind it
pub record IsMade (mode : Mode) (blocks : Bool) (bits : ℕ) (c : Choices) (f g : Op) : Type 0 where
  pub new : Supply
  pub fresh : Fresh new f
  pub is : (table : List Pattern) (target : Target) → Chose (pass_of table target mode blocks) bits new f c → g ≡ converted (pass_of table target mode blocks) bits new f
