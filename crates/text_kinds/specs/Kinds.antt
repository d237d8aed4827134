-- The refusals of a text, and which of them is answered.
use Rattle.std.specs.Prelude.{ℕ, ◌==◌, Bool, true, List, [], ◌∷◌, Option, Some, None, ◌≡◌, ◌⊎◌, nat_le, nat_lt, if◌then◌else◌}
use Rattle.text_kinds.specs.declared.found.Found.{Found}
use Rattle.text_kinds.specs.declared.found.Kind.{Kind}
use Rattle.text_kinds.specs.declared.found.Kind.TheVariants as kinds

-- the order that decides at one place
abbrev pub rank : Kind → ℕ
rank kinds.BadByte = 0
rank kinds.OpenString = 1
rank kinds.BadEscape = 2
rank kinds.LongNumber = 3
rank kinds.Expected = 4
rank kinds.ModuleShape = 5
rank kinds.UnknownOperation = 6
rank kinds.RedefinedValue = 7
rank kinds.RedefinedBlock = 8
rank kinds.RedefinedAlias = 9
rank kinds.UnknownAlias = 10
rank kinds.UnsupportedType = 11
rank kinds.UnsupportedAttr = 12
rank kinds.IntegerRange = 13
rank kinds.DuplicateAttr = 14
rank kinds.TypeCount = 15
rank kinds.UseType = 16
rank kinds.ResultIndex = 17
rank kinds.UndefinedValue = 18
rank kinds.UndefinedBlock = 19
rank kinds.RegionDepth = 20
rank kinds.TypeDepth = 21
rank kinds.AttrDepth = 22
rank kinds.Parts = 23
rank kinds.Functions = 24
rank kinds.Blocks = 25
rank kinds.Operands = 26
rank kinds.Operations = 27
rank kinds.ShardFull = 28

-- by the place, and at one place by the kind
abbrev pub is_sooner : Found → Found → Bool
is_sooner one other = if one.place == other.place then nat_le (rank one.kind) (rank other.kind) else nat_lt one.place other.place

abbrev pub sooner : Option Found → Option Found → Option Found
sooner (Some a) (Some b) = if is_sooner a b then Some a else Some b
sooner (Some a) None = Some a
sooner None o = o

-- the soonest of all that were found, and of those so far
abbrev pub least_from : Option Found → List (Option Found) → Option Found
least_from first [] = first
least_from first (o ∷ os) = least_from (sooner first o) os

abbrev pub least_of : List (Option Found) → Option Found
least_of os = least_from None os

abbrev pub or_uses : Option Found → Option Found → Option Found
or_uses (Some found) uses = Some found
or_uses None uses = uses

-- what uses stand for is asked only where nothing else is found
abbrev pub least : List (Option Found) → List (Option Found) → Option Found
least others uses = or_uses (least_of others) (least_of uses)

-- What the least is

-- nothing was found
abbrev pub NothingIn : List (Option Found) → Type 0
NothingIn [] = Unit {0}
NothingIn (None ∷ os) = NothingIn os
NothingIn (Some g ∷ os) = ⊥

-- it is one of those that were found
abbrev pub Among : Found → List (Option Found) → Type 0
Among f [] = ⊥
Among f (None ∷ os) = Among f os
Among f (Some g ∷ os) = (g ≡ f) ⊎ Among f os

-- it comes before each of them, or is it
abbrev pub NoneSooner : Found → List (Option Found) → Type 0
NoneSooner f [] = Unit {0}
NoneSooner f (None ∷ os) = NoneSooner f os
NoneSooner f (Some g ∷ os) = (is_sooner f g ≡ true) × NoneSooner f os

abbrev pub IsLeastOf : List (Option Found) → Option Found → Type 0
IsLeastOf os None = NothingIn os
IsLeastOf os (Some f) = Among f os × NoneSooner f os

abbrev pub FindsLeast : Type 0
FindsLeast = (os : List (Option Found)) → IsLeastOf os (least_of os)
