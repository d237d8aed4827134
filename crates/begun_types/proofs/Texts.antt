-- The types of a text at whose words nothing ends.
use Rattle.std.proofs.Common.{◌≡◌, ℕ, ◌+◌, List, [], ◌∷◌, map, refl, sym, ap, subst}
use Rattle.line_grammar.specs.Grammar.{Reads, done, leaves, opens, takes}
use Rattle.text_grammar.specs.declared.kinds.Kind.{Kind}
use Rattle.text_grammar.specs.declared.places.Place.{Place}
use Rattle.text_grammar.specs.declared.words.Word.{Word}
use Rattle.text_grammar.specs.Steps.{kind_of}
use Rattle.text_grammar.specs.Table.{Wanted, generic}
use Rattle.text_grammar.specs.Text.{start}
use Rattle.text_events.specs.declared.event.Event.{Event}
use Rattle.text_events.specs.Aliases.{Aliases as Defined, aliases_behind, no_aliases}
use Rattle.text_events.specs.Language.{nothing_before}
use Rattle.text_events.specs.Names.{names_from, names_of}
use Rattle.text_events.specs.Source.{events_from, events_of, spelled_of}
use Rattle.term_table.specs.declared.node.Form.TheVariants as forms
use Rattle.term_table.specs.Terms.{node, nothing}
use Rattle.text_types.specs.Items.{Aliases}
use Rattle.text_types.specs.Aliases.{aliases_of}
use Rattle.text_types.specs.Marks.{marked}
use Rattle.begun_types.specs.Begun.{AreServed}
use Rattle.begun_types.specs.Laws.{TextTypesBegin}
use Rattle.begun_types.proofs.Effects.{places_of}
use Rattle.begun_types.proofs.Wholes.{types_begin}
use Rattle.begun_types.proofs.Signs.{AllFit, all_spelt, names_apart, starts}
use Rattle.begun_types.proofs.Known.{Unfaulted, served, unfaulted}

all_fit : {wanted : List Wanted} {ps : List Place} {ks : List Kind} → Reads generic wanted ps ks → AllFit ps ks
all_fit done = tt
all_fit (takes p k f more) = (f, all_fit more)
all_fit (opens n line k has f more) = (f, all_fit more)
all_fit (leaves n e more) = all_fit more

-- the events of places are at these
places_kept : (text : List ℕ) (all ws : List Word) (i : ℕ) (ps : List Place) → AllFit ps (map kind_of ws) → places_of (events_from i ps (names_from text all i ws)) ≡ ps
places_kept text all ws i [] f = refl
places_kept text all [] i (p ∷ ps) f = absurd f
places_kept text all (w ∷ ws) i (p ∷ ps) f = ap (λ qs. p ∷ qs) (places_kept text all ws (i + 1) ps f.1)

-- where every alias stands for something
abbrev any : Aliases
any name = node forms.Ptr 0 nothing nothing

any_served : (es : List Event) (a : Defined) → Unfaulted a es → AreServed any es
any_served [] a u = tt
any_served (e ∷ es) a u = (u.0, λ h. refl, any_served es (aliases_behind a e.place e.name) u.2)

pub text_types_begin : TextTypesBegin
text_types_begin text ws fault words ps are reads none =
    let es : List Event = events_of ps (names_of text ws) in
    let fit = all_fit reads in
    let whole : Reads generic start (places_of es) (map kind_of ws) = subst (λ (qs : List Place). Reads generic start qs (map kind_of ws)) (sym (places_kept text ws ws 0 ps fit)) reads in
    let calm : Unfaulted no_aliases es = unfaulted text ws ws 0 ps nothing_before fit none in
    let apart = names_apart text ws ws [] 0 ps refl refl fit (all_spelt text ws fault are) in
    let begun = types_begin words any es (map kind_of ws) whole (any_served es no_aliases calm) in
    types_begin words (aliases_of words (marked es)) es (map kind_of ws) whole (served words (λ n. starts 33 (spelled_of text ws n)) any es calm apart begun)
