-- What uses stand for is the same where function types are marked.
use Rattle.std.proofs.Common.{◌≡◌, ℕ, zero, suc, ◌+◌, ◌-◌, Bool, true, false, List, [], ◌∷◌, ◌++◌, length, map, Option, refl, sym, ◌∙◌, ap}
use Rattle.std.specs.Prelude.{◌==◌, option_map}
use Rattle.std.proofs.lemmas.List.{length-map}
use Rattle.text_grammar.specs.declared.places.Place.{Place}
use Rattle.text_grammar.specs.declared.places.Place.TheVariants as places
use Rattle.text_events.specs.declared.event.Event.{Event}
use Rattle.text_kinds.specs.declared.found.Found.{Found}
use Rattle.text_types.specs.Aliases.{aliases_of}
use Rattle.text_types.specs.Spelling.{Spelling}
use Rattle.text_types.specs.Marks.{marked, marked_at, arrow_next, first_or_false, closed}
use Rattle.text_scopes.specs.declared.steps.Step.TheVariants as steps
use Rattle.text_scopes.specs.declared.bodies.Body.{Body}
use Rattle.text_scopes.specs.declared.bodies.Class.{Class}
use Rattle.text_scopes.specs.declared.tables.Names.{Names}
use Rattle.text_scopes.specs.declared.tables.Names.TheVariants as names
use Rattle.text_scopes.specs.Bodies.{behind, outside}
use Rattle.text_scopes.specs.Seen.{Turn, defined, mirror, or_else, resolved, seen, stands_for, told, turns}
use Rattle.text_refusals.specs.Refusing.{kinds_of_types, typed_kinds}
use Rattle.text_scopes.specs.Tables.{definitions, goes_out, step_of, steps_of, turns_of}

-- Only what an event is to the names, and its name, are looked at

abbrev erased : Turn → Turn
erased t = (t.0, record { place = places.OpName; name = t.1.name })

seen_erased : (out : Bool) (name over : ℕ) (ts : List Turn) → seen out name over (map erased ts) ≡ seen out name over ts
seen_erased out name over [] = refl
seen_erased out name over ((steps.Defines, e) ∷ ts) =
    ap (λ n. defined over (e.name == name) n (seen out name over (map erased ts))) (length-map ts erased) ∙ ap (defined over (e.name == name) (length ts)) (seen_erased out name over ts)
seen_erased out name over ((steps.Uses, e) ∷ ts) = seen_erased out name over ts
seen_erased out name over ((steps.Misses, e) ∷ ts) = seen_erased out name over ts
seen_erased true name zero ((steps.Opens, e) ∷ ts) = seen_erased true name zero ts
seen_erased false name zero ((steps.Opens, e) ∷ ts) = refl
seen_erased out name (suc over) ((steps.Opens, e) ∷ ts) = seen_erased out name over ts
seen_erased out name over ((steps.Closes, e) ∷ ts) = seen_erased out name (suc over) ts
seen_erased out name over ((steps.Ends, e) ∷ ts) = refl
seen_erased out name over ((steps.Stays, e) ∷ ts) = seen_erased out name over ts

mirrored : (ts : List Turn) → map mirror (map erased ts) ≡ map erased (map mirror ts)
mirrored [] = refl
mirrored (t ∷ ts) = ap (λ us. mirror (erased t) ∷ us) (mirrored ts)

stands_erased : (out : Bool) (name : ℕ) (before after : List Turn) → stands_for out name (map erased before) (map erased after) ≡ stands_for out name before after
stands_erased out name before after =
    ap (λ o. or_else o (option_map (λ beyond. length (map erased before) + length (map erased after) - beyond) (seen out name 0 (map mirror (map erased after))))) (seen_erased out name 0 before)
    ∙ ap (λ o. or_else (seen out name 0 before) (option_map (λ beyond. length (map erased before) + length (map erased after) - beyond) o))
    (ap (seen out name 0) (mirrored after) ∙ seen_erased out name 0 (map mirror after))
    ∙ ap (λ n. or_else (seen out name 0 before) (option_map (λ beyond. n + length (map erased after) - beyond) (seen out name 0 (map mirror after)))) (length-map before erased)
    ∙ ap (λ n. or_else (seen out name 0 before) (option_map (λ beyond. length before + n - beyond) (seen out name 0 (map mirror after)))) (length-map after erased)

resolved_erased : (out : Bool) (before ts : List Turn) → resolved out (map erased before) (map erased ts) ≡ resolved out before ts
resolved_erased out before [] = refl
resolved_erased out before (t ∷ after) =
    ap (λ o. told t.0 o ++ resolved out (map erased (t ∷ before)) (map erased after)) (stands_erased out t.1.name before after)
    ∙ ap (λ os. told t.0 (stands_for out t.1.name before after) ++ os) (resolved_erased out (t ∷ before) after)

-- A mark is nothing to names

closes_alike : (ns : Names) (body : Body) → step_of ns body places.FunctionClose ≡ step_of ns body places.ResultsClose
closes_alike names.Values body = refl
closes_alike names.Labels body = refl
closes_alike names.Entries body = refl
closes_alike names.TypeAliases body = refl
closes_alike names.AttrAliases body = refl

opens_alike : (ns : Names) (body : Body) → step_of ns body places.FunctionOpen ≡ step_of ns body places.ResultsOpen
opens_alike names.Values body = refl
opens_alike names.Labels body = refl
opens_alike names.Entries body = refl
opens_alike names.TypeAliases body = refl
opens_alike names.AttrAliases body = refl

step_marked : (ns : Names) (body : Body) (place : Place) (arrow inner : Bool) → step_of ns body (marked_at place arrow inner) ≡ step_of ns body place
step_marked ns body places.ResultsClose true inner = closes_alike ns body
step_marked ns body places.ResultsClose false inner = refl
step_marked ns body places.ResultsOpen arrow true = opens_alike ns body
step_marked ns body places.ResultsOpen arrow false = refl
step_marked ns body _ arrow inner = refl

abbrev event : Place → ℕ → Event
event place name = record { place = place; name = name }

behind_marked : (class : ℕ → Class) (body : Body) (place : Place) (name : ℕ) (arrow inner : Bool) → behind class body (event (marked_at place arrow inner) name) ≡ behind class body (event place name)
behind_marked class body places.ResultsClose name true inner = refl
behind_marked class body places.ResultsClose name false inner = refl
behind_marked class body places.ResultsOpen name arrow true = refl
behind_marked class body places.ResultsOpen name arrow false = refl
behind_marked class body _ name arrow inner = refl

turns_marked : (ns : Names) (class : ℕ → Class) (body : Body) (es : List Event)
    → map erased (turns (steps_of ns class body (marked es)) (marked es)) ≡ map erased (turns (steps_of ns class body es) es)
turns_marked ns class body [] = refl
turns_marked ns class body (e ∷ es) =
    ap (λ s. erased (s, e) ∷ map erased (turns (steps_of ns class (behind class body (event (marked_at e.place (arrow_next es) (first_or_false (closed es))) e.name)) (marked es)) (marked es)))
    (step_marked ns body e.place (arrow_next es) (first_or_false (closed es)))
    ∙ ap (λ b. erased (step_of ns body e.place, e) ∷ map erased (turns (steps_of ns class b (marked es)) (marked es)))
    (behind_marked class body e.place e.name (arrow_next es) (first_or_false (closed es)))
    ∙ ap (λ ts. erased (step_of ns body e.place, e) ∷ ts) (turns_marked ns class (behind class body e) es)

pub definitions_marked : (ns : Names) (class : ℕ → Class) (es : List Event) → definitions ns class (marked es) ≡ definitions ns class es
definitions_marked ns class es =
    sym (resolved_erased (goes_out ns) [] (turns_of ns class (marked es))) ∙ ap (resolved (goes_out ns) []) (turns_marked ns class outside es)
    ∙ resolved_erased (goes_out ns) [] (turns_of ns class es)

-- the kinds of the marked events, by the definitions of the others
pub typed_marked : (words : Spelling) (indexes : ℕ → ℕ) (class : ℕ → Class) (uses : List (Option ℕ)) (found : List (Option Found)) (old now : List Event) → now ≡ marked old
    → (uses ≡ definitions names.Values class now → found ≡ kinds_of_types words indexes (aliases_of words now) class now) → uses ≡ definitions names.Values class old
    → found ≡ typed_kinds words indexes class old
typed_marked words indexes class uses found old now e h is =
    h (is ∙ sym (definitions_marked names.Values class old) ∙ ap (definitions names.Values class) (sym e)) ∙ ap (λ es. kinds_of_types words indexes (aliases_of words es) class es) e
