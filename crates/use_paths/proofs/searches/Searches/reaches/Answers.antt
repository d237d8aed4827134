use Rattle.std.proofs.Common.{ap}
use Rattle.use_paths.proofs.Searching.{read_right}
use Rattle.use_paths.proofs.searches.Searches.reaches.Goals as goal

pub returns-in-Some-clause-exact : goal.returns-in-Some-clause-exact
returns-in-Some-clause-exact c =
    read_right c.args.self.now.edges.items c.search.new.self.edges.items c.search.new.self.found c.args.left_out c.args.block c.in-Some.marks.now c.as_slice.result.now c.is_marked.result
    c.in_ok-search.ensures.right (ap (λ v. v.items) c.search.ensures.kept) c.in-Some.ensures.value c.is_marked.ensures c.as_slice.ensures.value
