-- Refusals that don't stand in printed modules.
use Rattle.std.specs.Prelude.{◌≡◌, ◌≤◌, ℕ, List, None, length}
use Rattle.plain_tree.specs.Ops.{PlainModule}
use Rattle.term_table.specs.Terms.{nothing}
use Rattle.text_events.specs.declared.event.Event.{Event}
use Rattle.text_types.specs.Spelling.{Spelling}
use Rattle.text_types.specs.Aliases.{aliases_of}
use Rattle.type_kinds.specs.Parts.{first_part, most_parts}
use Rattle.text_scopes.specs.declared.bodies.Class.{Class}
use Rattle.text_scopes.specs.declared.tables.Names.TheVariants as names
use Rattle.text_scopes.specs.Tables.{first_redefined}
use Rattle.event_trees.specs.Wording.{Wording}
use Rattle.printed_modules.specs.ModuleWords.{module_words}
use Rattle.printed_terms.specs.Told.{Told}

-- RedefinedAlias, for types and for attributes; and each name stands for nothing as an alias
abbrev pub NoAliasIsDefined : Type 0
NoAliasIsDefined = (words : Spelling) (wording : Wording) (class : ℕ → Class) (m : PlainModule) (es : List Event) → Told words wording (module_words m) es
    → (first_redefined names.TypeAliases class es ≡ None) × (first_redefined names.AttrAliases class es ≡ None) × ((name : ℕ) → aliases_of words es name ≡ nothing)

-- Parts: each word is at most one, so a text with no more words than parts are allowed has no more parts
abbrev pub PartsAreFew : Type 0
PartsAreFew = (words : Spelling) (wording : Wording) (m : PlainModule) (es : List Event) → Told words wording (module_words m) es → length es ≤ most_parts → first_part es ≡ None
