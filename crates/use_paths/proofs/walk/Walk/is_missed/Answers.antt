use Rattle.std.proofs.Common.{sym}
use Rattle.std.proofs.lemmas.List.Elements.{All-set}
use Rattle.use_paths.specs.Views.{IsRight}
use Rattle.use_paths.proofs.Stack.{missing_at, spots_set, within_levels}
use Rattle.use_paths.proofs.walk.Walk.is_missed.Goals as goal

pub returns-clause-kept : goal.returns-clause-kept
returns-clause-kept c =
    spots_set c.args.self.now.levels.items c.in-Some.place.depth c.index_mut.result.now c.is_missing.new.self
    (within_levels c.args.self.now.levels.items c.args.value c.home_of.result c.in-Some.place c.in-Some.is c.home_of.ensures) (sym c.index_mut.ensures.value) c.in_ok-missing.ensures.kept

pub returns-clause-right : goal.returns-clause-right
returns-clause-right c = All-set IsRight c.args.self.now.levels.items c.in-Some.place.depth c.is_missing.new.self c.in_ok-missing.ensures.right c.requires

pub returns-clause-exact : goal.returns-clause-exact
returns-clause-exact c =
    missing_at c.args.self.now.levels.items c.args.value c.home_of.result c.in-Some.place c.index_mut.result.now c.in_ok-missing.missing c.in-Some.is c.home_of.ensures c.index_mut.ensures.value
    c.in_ok-missing.ensures.exact
