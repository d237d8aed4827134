use Rattle.std.proofs.Common.{ap, sym, ◌∙◌}
use Rattle.std.specs.Prelude.{option_map}
use Rattle.plain_tree.specs.Types.{plain_type}
use Rattle.conversion_model.specs.Chosen.{take_one}
use Rattle.choice_code.specs.Drafts.{behind, done_of, state_of}
use Rattle.choice_code.proofs.draft.Draft.take_one.Goals as goal

pub returns-in_ok-take_changed-in-Some : goal.returns-in_ok-take_changed-in-Some
returns-in_ok-take_changed-in-Some c = λ next.
    ap (λ o. behind (done_of c.args.self.now) (take_one o c.args.place (plain_type c.args.t.now) next (state_of c.args.self.now)))
    (sym c.in_ok-changed_type.ensures ∙ ap (option_map plain_type) c.in-Some.is)
    ∙ c.in_ok-take_changed-in-Some.ensures next (plain_type c.args.t.now)
