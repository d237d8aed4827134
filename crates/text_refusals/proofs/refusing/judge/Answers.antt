use Rattle.std.proofs.Common.{rules, ◌∷◌, [], refl, sym, ap, length, ◌∙◌}
use Rattle.std.proofs.lemmas.List.{with_items_is}
use Rattle.text_kinds.specs.declared.found.Kind.TheVariants.{UndefinedBlock, UndefinedValue}
use Rattle.text_kinds.specs.Plain.{found_at}
use Rattle.text_scopes.specs.Bodies.{class_in}
use Rattle.text_refusals.specs.Found.{seen_of}
use Rattle.text_refusals.proofs.PlacedLemmas.{placed_so}
use Rattle.text_refusals.proofs.SeenLemmas.{are_findings, begun_so, typed_so}
use Rattle.text_refusals.proofs.refusing.judge.Goals as goal

pub typed_kinds-requires-clause-placed : goal.typed_kinds-requires-clause-placed
typed_kinds-requires-clause-placed c =
    placed_so c.args.text.now (seen_of c.args.cut c.args.look) c.deref_mut.result.now c.deref-7.result.now (search rules) (search rules)

pub returns : goal.returns
returns c =
    let text = c.args.text.now in
    let words = c.args.cut.words.items in
    let classes = c.args.classes.items in
    let events = c.args.events.items in
    let uses = c.in_ok-uses.uses in
    let typed = c.in_ok-typed.typed in
    are_findings text c.args.allowed (seen_of c.args.cut c.args.look) _ classes events c.in_ok-plain.plain.items typed.found.items
    (found_at UndefinedValue uses.values.undefined ∷ found_at UndefinedBlock uses.labels.undefined ∷ []) c.requires.classes c.requires.events c.requires.few
    (search rules) (typed_so text words c.deref-5.result.now (class_in classes) events c.deref_mut.result.now typed.found.items (search rules) (search rules) (c.in_ok-typed.ensures.found (class_in classes) (search rules)))
    (search rules) (search rules) refl refl
    (with_items_is c.args.events c.typed_kinds.new.events (ap length (c.in_ok-typed.ensures.same ∙ c.deref_mut.ensures.value) ∙ sym c.args.events.ok.0) ∙ c.in_ok-typed.ensures.same ∙ c.deref_mut.ensures.value)
    (begun_so text words c.deref-5.result.now events c.deref_mut.result.now typed.terms.nodes.keys typed.begun.items (search rules) (search rules) c.in_ok-typed.ensures.begun)
    (search rules) (search rules)
