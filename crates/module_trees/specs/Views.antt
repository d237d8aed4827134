-- What stands behind a word, as the code keeps it: lists are turned, and terms have numbers.
use Rattle.std.specs.Prelude.{◌≤◌, ℕ, List, [], ◌∷◌, reverse}
use Rattle.term_table.specs.declared.node.Node.{Node}
use Rattle.term_table.specs.Terms.{term_at}
use Rattle.event_trees.specs.Levels as levels
use Rattle.event_trees.specs.Roles as roles
use Rattle.module_trees.specs.declared.levels.Parts.{Parts}
use Rattle.module_trees.specs.declared.levels.Level.{Level}
use Rattle.module_trees.specs.declared.levels.Role.{Role}

abbrev pub parts_of : List Node → Parts → levels.Parts
parts_of nodes p = record {
  operands = reverse p.operands.items;
  successors = reverse p.successors.items;
  props = term_at nodes p.props;
  regions = reverse p.regions.items;
  attrs = term_at nodes p.attrs;
  signature = term_at nodes p.signature;
}

abbrev pub level_of : List Node → Level → levels.Level
level_of nodes l = record { parts = parts_of nodes l.parts; args = reverse l.args.items; ops = reverse l.ops.items; blocks = reverse l.blocks.items }

abbrev pub role_of : List Node → Role → roles.Role
role_of nodes r = record { place = r.place; name = r.name; number = r.number; term = term_at nodes r.term }

-- the numbers of terms are none above the last
pub record PartsWithin (last : ℕ) (p : Parts) : Type 0 where
  pub props : p.props ≤ last
  pub attrs : p.attrs ≤ last
  pub signature : p.signature ≤ last

abbrev pub AllWithin : ℕ → List Level → Type 0
AllWithin last [] = Unit {0}
AllWithin last (l ∷ ls) = PartsWithin last l.parts × AllWithin last ls
