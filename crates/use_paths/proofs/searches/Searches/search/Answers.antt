use Rattle.std.proofs.Common.{subst}
use Rattle.block_search.specs.Reach.{rows}
use Rattle.use_paths.specs.Marked.{Marked}
use Rattle.use_paths.proofs.Searching.{marked_of, right_more}
use Rattle.use_paths.proofs.searches.Searches.search.Goals as goal

pub returns-clause-right : goal.returns-clause-right
returns-clause-right c =
    right_more (rows c.args.self.now.edges.items) c.args.self.now.found c.insert.new.self c.args.left_out c.in_ok-marks.marks c.requires
    (subst (λ es. Marked (rows es) c.args.left_out c.in_ok-marks.marks.items) c.as_slice.ensures.value
    (marked_of c.as_slice.result.now c.args.left_out c.in_ok-marks.marks.items c.in_ok-marks.ensures.size c.in_ok-marks.ensures.exact))
    c.in_ok-insert.ensures.updates.0
