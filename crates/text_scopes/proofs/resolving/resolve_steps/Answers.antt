use Rattle.std.proofs.Common.{◌∙◌, ap, List, Option, ℕ}
use Rattle.text_scopes.specs.Sights.{first_missing}
use Rattle.text_scopes.proofs.SightLemmas.{missing_turns, resolved_so}
use Rattle.text_scopes.proofs.resolving.resolve_steps.Goals as goal

pub returns-clause-definitions : goal.returns-clause-definitions
returns-clause-definitions c =
    resolved_so c.args.outward c.args.steps.now c.args.events.now c.saturating_sub-last.result c.in_ok-behind.behind.items c.in_ok-ahead.ahead.items c.deref.result.now c.in_ok-definitions.definitions.items
    c.requires.same c.saturating_sub-last.ensures c.in_ok-behind.ensures c.in_ok-ahead.ensures c.deref.ensures.value c.in_ok-definitions.ensures

pub returns-clause-undefined : goal.returns-clause-undefined
returns-clause-undefined c =
    let is = resolved_so c.args.outward c.args.steps.now c.args.events.now c.saturating_sub-last.result c.in_ok-behind.behind.items c.in_ok-ahead.ahead.items c.deref.result.now c.in_ok-definitions.definitions.items
    c.requires.same c.saturating_sub-last.ensures c.in_ok-behind.ensures c.in_ok-ahead.ensures c.deref.ensures.value c.in_ok-definitions.ensures in
    c.first_missing-undefined.ensures ∙ ap (λ (ds : List (Option ℕ)). first_missing c.args.steps.now ds 0) (c.deref-2.ensures.value ∙ is) ∙ missing_turns c.args.outward c.args.steps.now c.args.events.now c.requires.same
