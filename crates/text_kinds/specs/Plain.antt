-- All kinds that need no types.
use Rattle.std.specs.Prelude.{ℕ, Bool, List, [], ◌∷◌, Option, Some, None}
use Rattle.text_events.specs.declared.event.Event.{Event}
use Rattle.text_scopes.specs.declared.bodies.Class.{Class}
use Rattle.text_scopes.specs.declared.tables.Names.TheVariants as names
use Rattle.text_scopes.specs.Tables.{first_redefined}
use Rattle.text_kinds.specs.declared.found.Found.{Found}
use Rattle.text_kinds.specs.declared.found.Kind.{Kind}
use Rattle.text_kinds.specs.declared.found.Kind.TheVariants as kinds
use Rattle.text_kinds.specs.declared.limits.Limit.TheVariants as limits
use Rattle.text_kinds.specs.Classes.{first_unknown}
use Rattle.text_kinds.specs.Shapes.{first_misplaced, refused_module}
use Rattle.text_kinds.specs.Tallies.{first_over}

abbrev pub found_at : Kind → Option ℕ → Option Found
found_at kind None = None
found_at kind (Some place) = Some (record { place = place; kind = kind })

-- where each of them stands first, by the numbers of events
abbrev pub plain_kinds : (ℕ → Class) → Bool → List Event → List (Option Found)
plain_kinds class allowed es =
    found_at kinds.ModuleShape (first_misplaced class es)
    ∷ found_at kinds.ModuleShape (refused_module class es)
    ∷ found_at kinds.UnknownOperation (first_unknown class allowed es)
    ∷ found_at kinds.RedefinedValue (first_redefined names.Values class es)
    ∷ found_at kinds.RedefinedBlock (first_redefined names.Labels class es)
    ∷ found_at kinds.RedefinedAlias (first_redefined names.TypeAliases class es)
    ∷ found_at kinds.RedefinedAlias (first_redefined names.AttrAliases class es)
    ∷ found_at kinds.DuplicateAttr (first_redefined names.Entries class es)
    ∷ found_at kinds.RegionDepth (first_over limits.RegionDepth class es)
    ∷ found_at kinds.Functions (first_over limits.Functions class es)
    ∷ found_at kinds.Blocks (first_over limits.Blocks class es)
    ∷ found_at kinds.Operands (first_over limits.Operands class es)
    ∷ found_at kinds.Operations (first_over limits.Operations class es)
    ∷ []
