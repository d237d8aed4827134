-- What the code keeps of the aliases.
use Rattle.std.specs.Prelude.{◌≡◌, ◌==◌, ℕ}
use Rattle.std.specs.HashMap.{get_by}
use Rattle.text_events.specs.declared.alias.AliasTable.{AliasTable}
use Rattle.text_events.specs.Aliases.{Aliases, class_of}

-- the table has for each name what the list has, and the same definition
pub record Agrees (a : Aliases) (t : AliasTable) : Type 0 where
  pub known : (name : ℕ) → get_by (λ key. name == key) t.known ≡ class_of name a.known
  pub current : t.current ≡ a.current
