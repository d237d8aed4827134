-- The definitions of uses that are left, as the code keeps them.
use Rattle.std.specs.Prelude.{ℕ, List, Option, drop}
use Rattle.event_trees.specs.Numbers.{Left}
use Rattle.module_trees.specs.declared.meant.Next.{Next}

abbrev pub left_from : List (Option ℕ) → List (Option ℕ) → Next → Left
left_from values labels next = record { values = drop next.values values; labels = drop next.labels labels }
