use Rattle.std.proofs.Common.{rules, ◌++◌, ◌∷◌, [], length, ◌∙◌}
use Rattle.text_events.specs.Looking.{ending_of}
use Rattle.text_kinds.specs.declared.found.Kind.TheVariants.{UndefinedBlock, UndefinedValue}
use Rattle.text_kinds.specs.Plain.{found_at}
use Rattle.text_refusals.specs.Refusing.{ended}
use Rattle.text_refusals.proofs.SeenLemmas.{soonest_is}
use Rattle.text_refusals.proofs.refusing.soonest.Goals as goal

pub returns : goal.returns
returns c =
    let cut = c.args.cut.now in
    let look = c.args.look.now in
    c.least.ensures
    ∙ soonest_is cut.words.items (c.args.plain.now ++ c.args.typed.now) c.deref-5.result.now c.ended-end.result
    (ended (ending_of (length c.args.text.now) cut.words.items cut.fault look.places.items look.whole look.refusal))
    (found_at UndefinedValue c.args.uses.now.values.undefined ∷ found_at UndefinedBlock c.args.uses.now.labels.undefined ∷ []) c.deref-4.result.now c.deref-6.result.now
    (search rules) (search rules) (search rules) (search rules)
