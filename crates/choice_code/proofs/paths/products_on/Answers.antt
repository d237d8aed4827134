use Rattle.std.proofs.Common.{◌+◌, ◌∙◌, List, ℕ, ap, length, map, sym}
use Rattle.std.proofs.lemmas.List.{length-map}
use Rattle.conversion_model.specs.Chosen.{Leaves, products}
use Rattle.conversion_target.specs.Targets.{target_of}
use Rattle.legal_graph.specs.declared.infos.PatternInfo.{PatternInfo}
use Rattle.legal_graph.specs.Graphs.{info_of, order_in_graph}
use Rattle.choice_code.specs.Drafts.{behind, done_of, state_of}
use Rattle.choice_code.specs.Plain.{plain_step}
use Rattle.choice_code.proofs.OrderLaws.{leaves_are}
use Rattle.choice_code.proofs.paths.products_on.Goals as goal

pub returns : goal.returns
returns g c = λ last.
    let table = g.R.Rows.table c.args.pass.now.set.now in
    sym (ap (λ (leaves : List ℕ → Leaves). behind (done_of c.args.draft.now) (products (leaves c.args.path.now) last (map plain_step c.args.steps.now) (state_of c.args.draft.now)))
    (leaves_are c.args.pass.now.bits (target_of c.args.pass.now.target.now) table (order_in_graph c.args.pass.now.graph.now) c.in_ok-room.room c.requires
    (c.in_ok-room.ensures ∙ ap (λ (is : List PatternInfo). length is + 1) c.infos.ensures ∙ ap (λ n. n + 1) (length-map table info_of))))
    ∙ c.in_ok-good.ensures last
