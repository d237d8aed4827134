use Rattle.std.proofs.Common.{◌∙◌, ap}
use Rattle.text_refusals.specs.Placed.{placed}
use Rattle.text_refusals.specs.Spelling.{indexes_of, spelling_of}
use Rattle.text_refusals.proofs.PlacedLemmas.{placed_back}
use Rattle.text_refusals.proofs.MarkedLemmas.{typed_marked}
use Rattle.text_refusals.proofs.gathered.typed_kinds.Goals as goal

pub returns-clause-same : goal.returns-clause-same
returns-clause-same c =
    c.restore.ensures ∙ ap (λ es. placed es c.args.places.now) c.in_ok-mark_few.ensures.is ∙ placed_back c.args.events.now c.args.places.now c.requires.placed

pub returns-clause-found : goal.returns-clause-found
returns-clause-found c =
    let source = c.args.words.now.source in
    λ class is. typed_marked (spelling_of source.text.now source.words.now) (indexes_of source.text.now source.words.now) class c.args.uses.now c.in_ok-typed.typed.found.items c.args.events.now
    c.mark_few.new.events c.in_ok-mark_few.ensures.is (c.in_ok-typed.ensures.found class) is
