-- A template that is given result by result.
use Rattle.std.proofs.Common.{◌≡◌, ℕ, ◌+◌, List, [], ◌∷◌, ◌++◌, append_assoc, map, Option, Some, None, true, false, sym, ap, ◌∙◌}
use Rattle.std.proofs.lemmas.List.{append-nil}
use Rattle.std.specs.Prelude.{is_some}
use mathlib.Core.Bool.{true≢false}
use Rattle.plain_tree.specs.Types.{PlainType}
use Rattle.conversion_model.specs.declared.templates.Source.{Source}
use Rattle.conversion_model.specs.declared.templates.Source.TheVariants.{Made}
use Rattle.conversion_model.specs.Templates.{Step, Template}
use Rattle.conversion_model.specs.Chosen.{cast, give_one, with_result}
use Rattle.choice_code.specs.declared.given.Given.{Given}
use Rattle.choice_code.specs.Givens.{joined, no_more}
use Rattle.choice_code.specs.Plain.{plain_step}

abbrev in_front : List Step → List Source → Template → Template
in_front xs rs t = record { steps = xs ++ t.steps; results = rs ++ t.results }

same : (g h : Given) (value : Source) → h.results ≡ g.results ++ value ∷ [] → h.steps ≡ g.steps → h.count ≡ g.count
    → (next : ℕ → Template) → joined g (with_result value (next g.count)) ≡ joined h (next h.count)
same g h value rs ss n next =
    ap (λ results. record { steps = map plain_step g.steps ++ (next g.count).steps; results = results }) (sym (append_assoc g.results (value ∷ []) (next g.count).results))
    ∙ ap (λ results. in_front (map plain_step g.steps) results (next g.count)) (sym rs)
    ∙ ap (λ steps. in_front (map plain_step steps) h.results (next g.count)) (sym ss)
    ∙ ap (λ k. in_front (map plain_step h.steps) h.results (next k)) (sym n)

pub same_given : (g h : Given) (value : Source) → h.results ≡ g.results ++ value ∷ [] → h.steps ≡ g.steps → h.count ≡ g.count
    → (next : ℕ → Template) (t : PlainType) (change : Option PlainType) → is_some change ≡ false → joined g (give_one change value t next g.count) ≡ joined h (next h.count)
same_given g h value rs ss n next t None e = same g h value rs ss n next
same_given g h value rs ss n next t (Some u) e = absurd (true≢false e)

pub cast_given : (g h : Given) (value : Source) (t : PlainType) → h.results ≡ g.results ++ Made g.count ∷ [] → map plain_step h.steps ≡ map plain_step g.steps ++ cast value t ∷ [] → h.count ≡ g.count + 1
    → (next : ℕ → Template) (change : Option PlainType) → is_some change ≡ true → joined g (give_one change value t next g.count) ≡ joined h (next h.count)
cast_given g h value t rs ss n next None e = absurd (true≢false (sym e))
cast_given g h value t rs ss n next (Some u) e =
    ap (λ results. record { steps = map plain_step g.steps ++ cast value t ∷ (next (g.count + 1)).steps; results = results }) (sym (append_assoc g.results (Made g.count ∷ []) (next (g.count + 1)).results))
    ∙ ap (λ steps. record { steps = steps; results = (g.results ++ Made g.count ∷ []) ++ (next (g.count + 1)).results }) (sym (append_assoc (map plain_step g.steps) (cast value t ∷ []) (next (g.count + 1)).steps))
    ∙ ap (λ results. in_front (map plain_step g.steps ++ cast value t ∷ []) results (next (g.count + 1))) (sym rs)
    ∙ ap (λ steps. in_front steps h.results (next (g.count + 1))) (sym ss)
    ∙ ap (λ k. in_front (map plain_step h.steps) h.results (next k)) (sym n)

pub ended : (g : Given) → joined g no_more ≡ record { steps = map plain_step g.steps; results = g.results }
ended g =
    ap (λ steps. record { steps = steps; results = g.results ++ [] }) (append-nil (map plain_step g.steps))
    ∙ ap (λ results. record { steps = map plain_step g.steps; results = results }) (append-nil g.results)
