use Rattle.std.proofs.Common.{◌+◌, ap, ◌∙◌}
use Rattle.use_paths.specs.Uses.{use_at}
use Rattle.use_paths.specs.Views.{spots_in}
use Rattle.use_paths.proofs.Stack.{passes_one}
use Rattle.use_paths.proofs.walk.Walk.look.Goals as goal

pub returns-clause-ahead : goal.returns-clause-ahead
returns-clause-ahead c =
    passes_one (use_at (spots_in c.args.self.now.levels.items) c.args.operands.now) c.args.self.now.count c.in_ok-self.field-0 c.args.self.now.found c.in_ok-found.found
    c.in_ok-found.ensures.found (c.in_ok-self.ensures ∙ ap (λ n. n + 1) c.first_here.ensures.count)
