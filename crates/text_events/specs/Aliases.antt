-- Aliases: which are defined where an event stands, and as what.
use Rattle.std.specs.Prelude.{ℕ, ◌==◌, List, [], ◌∷◌, Option, Some, None, if◌then◌else◌}
use Rattle.text_grammar.specs.declared.places.Place.{Place}
use Rattle.text_grammar.specs.declared.places.Place.TheVariants as places
use Rattle.text_events.specs.declared.alias.AliasClass.{AliasClass}
use Rattle.text_events.specs.declared.alias.AliasClass.TheVariants.{Integer, Other, Location}
use Rattle.text_events.specs.declared.ending.EndKind.{EndKind}
use Rattle.text_events.specs.declared.ending.EndKind.TheVariants.{UnknownAlias, UnsupportedAttr, Expected}
use Rattle.text_events.specs.declared.alias.Defining.{Defining}
use Rattle.text_events.specs.declared.alias.Defining.TheVariants.{Nothing, Named, Valued}

-- the aliases that are defined, the newest first
abbrev pub Known : Type 0
Known = List (ℕ × AliasClass)

abbrev pub class_of : ℕ → Known → Option AliasClass
class_of name [] = None
class_of name (a ∷ rest) = if a.0 == name then Some a.1 else class_of name rest

-- the aliases that are defined before an event, and the definition that it stands in
pub record Aliases : Type 0 where
  pub known : Known
  pub current : Defining

abbrev pub no_aliases : Aliases
no_aliases = record { known = []; current = Nothing }

-- a definition ends where the next operation or definition begins: its alias is known from there on
abbrev pub known_behind : Defining → Known → Known
known_behind (Valued name class) known = (name, class) ∷ known
known_behind _ known = known

abbrev pub class_or_other : Option AliasClass → AliasClass
class_or_other None = Other
class_or_other (Some class) = class

-- what an alias is defined as is told by the first word behind its `=`: an integer type or an alias of one, a location, or something else
abbrev pub class_at : Place → ℕ → Known → AliasClass
class_at places.IntegerWord name known = Integer
class_at places.TypeAlias name known = class_or_other (class_of name known)
class_at places.LocWord name known = Location
class_at _ name known = Other

abbrev pub begun : Defining → Place → ℕ → Known → Defining
begun (Named alias) place name known = Valued alias (class_at place name known)
begun current place name known = current

-- behind a word of this name at this place
abbrev pub aliases_behind : Aliases → Place → ℕ → Aliases
aliases_behind a places.TypeAliasName name = record { known = known_behind a.current a.known; current = Named name }
aliases_behind a places.AttrAliasName name = record { known = known_behind a.current a.known; current = Named name }
aliases_behind a places.OpName name = record { known = known_behind a.current a.known; current = Nothing }
aliases_behind a places.ResultName name = record { known = known_behind a.current a.known; current = Nothing }
aliases_behind a places.TypeAliasEquals name = a
aliases_behind a places.AttrAliasEquals name = a
aliases_behind a place name = record { known = a.known; current = begun a.current place name a.known }

-- why an alias of this class does not serve as a type
abbrev pub no_type : Option AliasClass → Option EndKind
no_type None = Some UnknownAlias
no_type (Some _) = None

-- as the type of an integer or of a memref's elements
abbrev pub no_integer : Option AliasClass → Option EndKind
no_integer None = Some UnknownAlias
no_integer (Some Integer) = None
no_integer (Some _) = Some Expected

-- and as an attribute
abbrev pub no_attribute : Option AliasClass → Option EndKind
no_attribute None = Some UnknownAlias
no_attribute (Some Location) = Some UnsupportedAttr
no_attribute (Some _) = None

-- why looking ends at an alias of this name, if it does
abbrev pub alias_fault : Known → Place → ℕ → Option EndKind
alias_fault known places.TypeAlias name = no_type (class_of name known)
alias_fault known places.ElementAlias name = no_integer (class_of name known)
alias_fault known places.AttrAlias name = no_attribute (class_of name known)
alias_fault known _ name = None
