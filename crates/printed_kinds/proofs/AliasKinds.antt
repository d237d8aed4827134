-- Printed modules define no alias.
use Rattle.std.proofs.Common.{◌≡◌, ℕ, Bool, true, false, not, List, [], ◌∷◌, Option, None, refl, true≢false, sym, ap}
use Rattle.mlir_lex.proofs.Lengths.{and-right}
use Rattle.line_grammar.specs.Language.{first_at, one_later}
use Rattle.text_grammar.specs.declared.places.Place.{Place}
use Rattle.text_grammar.specs.declared.places.Place.TheVariants as places
use Rattle.term_table.specs.Terms.{nothing}
use Rattle.text_events.specs.declared.event.Event.{Event}
use Rattle.text_types.specs.Spelling.{Spelling}
use Rattle.text_types.specs.Items.{Aliases}
use Rattle.text_types.specs.Aliases.{aliases_from}
use Rattle.text_scopes.specs.declared.bodies.Body.{Body}
use Rattle.text_scopes.specs.declared.bodies.Class.{Class}
use Rattle.text_scopes.specs.declared.tables.Names.TheVariants as names
use Rattle.text_scopes.specs.Bodies.{outside}
use Rattle.text_scopes.specs.Seen.{Turn, again, passed, turns}
use Rattle.text_scopes.specs.Tables.{steps_of}
use Rattle.event_trees.specs.Wording.{Wording}
use Rattle.printed_words.specs.Words.{PrintedWord}
use Rattle.printed_terms.specs.Told.{Told, no_words, one_more}
use Rattle.printed_marks.proofs.PlainWords.{are_plain, arrow_first, is_unwritten, plain_at}
use Rattle.printed_marks.proofs.OpWords.{module_plain}
use Rattle.printed_kinds.specs.Kinds.{NoAliasIsDefined}

-- the words behind a plain one are plain, and it stands at a place that is written
pub behind_plain : (place : Place) (arrow rest : Bool) → plain_at place arrow rest ≡ true → rest ≡ true
behind_plain places.ResultsClose arrow rest h = and-right (not arrow) rest h
behind_plain place arrow rest h = and-right (not (is_unwritten place)) rest h

module _ (words : Spelling) (wording : Wording) (class : ℕ → Class) where
  abbrev types_from : List Turn → Body → List Event → Option ℕ
  types_from before body es = first_at passed (again false) before (turns (steps_of names.TypeAliases class body es) es)

  abbrev attrs_from : List Turn → Body → List Event → Option ℕ
  attrs_from before body es = first_at passed (again false) before (turns (steps_of names.AttrAliases class body es) es)

  type_step : (place : Place) (name : ℕ) (es : List Event) (arrow rest : Bool) → plain_at place arrow rest ≡ true → ((before : List Turn) (body : Body) → types_from before body es ≡ None)
      → (before : List Turn) (body : Body) → types_from before body (record { place = place; name = name } ∷ es) ≡ None
  type_step places.TypeAliasName name es arrow rest h deep before body = absurd (true≢false (sym h))
  type_step _ name es arrow rest h deep before body = ap one_later (deep _ _)

  attr_step : (place : Place) (name : ℕ) (es : List Event) (arrow rest : Bool) → plain_at place arrow rest ≡ true → ((before : List Turn) (body : Body) → attrs_from before body es ≡ None)
      → (before : List Turn) (body : Body) → attrs_from before body (record { place = place; name = name } ∷ es) ≡ None
  attr_step places.AttrAliasName name es arrow rest h deep before body = absurd (true≢false (sym h))
  attr_step _ name es arrow rest h deep before body = ap one_later (deep _ _)

  types_once : {ws : List PrintedWord} {es : List Event} → Told words wording ws es → are_plain ws ≡ true → (before : List Turn) (body : Body) → types_from before body es ≡ None
  types_once no_words h before body = refl
  types_once (one_more w name {ws} {es} says more) h before body =
      type_step w.place name es (arrow_first ws) (are_plain ws) h (λ b c. types_once more (behind_plain w.place (arrow_first ws) (are_plain ws) h) b c) before body

  attrs_once : {ws : List PrintedWord} {es : List Event} → Told words wording ws es → are_plain ws ≡ true → (before : List Turn) (body : Body) → attrs_from before body es ≡ None
  attrs_once no_words h before body = refl
  attrs_once (one_more w name {ws} {es} says more) h before body =
      attr_step w.place name es (arrow_first ws) (are_plain ws) h (λ b c. attrs_once more (behind_plain w.place (arrow_first ws) (are_plain ws) h) b c) before body

  -- nothing stands for anything
  alias_step : (place : Place) (name : ℕ) (es : List Event) (arrow rest : Bool) (aliases : Aliases) (other : ℕ) → plain_at place arrow rest ≡ true → aliases_from words aliases es other ≡ aliases other
      → aliases_from words aliases (record { place = place; name = name } ∷ es) other ≡ aliases other
  alias_step places.TypeAliasName name es arrow rest aliases other h deep = absurd (true≢false (sym h))
  alias_step places.AttrAliasName name es arrow rest aliases other h deep = absurd (true≢false (sym h))
  alias_step _ name es arrow rest aliases other h deep = deep

  no_aliases : {ws : List PrintedWord} {es : List Event} → Told words wording ws es → are_plain ws ≡ true → (aliases : Aliases) (other : ℕ) → aliases_from words aliases es other ≡ aliases other
  no_aliases no_words h aliases other = refl
  no_aliases (one_more w name {ws} {es} says more) h aliases other =
      alias_step w.place name es (arrow_first ws) (are_plain ws) aliases other h (no_aliases more (behind_plain w.place (arrow_first ws) (are_plain ws) h) aliases other)

pub no_alias_is_defined : NoAliasIsDefined
no_alias_is_defined words wording class m es told = (
  types_once words wording class told (module_plain m).plain [] outside,
  attrs_once words wording class told (module_plain m).plain [] outside,
  λ name. no_aliases words wording class told (module_plain m).plain (λ _. nothing) name,
)
