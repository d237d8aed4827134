use Rattle.std.proofs.Common.{ap}
use Rattle.first_places.specs.Tables.{table_in}
use Rattle.use_paths.proofs.Regions.{region_known}
use Rattle.use_paths.proofs.region.region_of.Goals as goal

pub returns-clause-known : goal.returns-clause-known
returns-clause-known c =
    region_known c.args.blocks.now (table_in c.in_ok-places.places) (table_in c.in_ok-homes.homes) c.in_ok-ends.ends.items c.in_ok-edges.edges.items c.new.result.edges.items
    (ap (λ v. v.items) c.new.ensures.edges) c.in_ok-places.ensures c.in_ok-homes.ensures c.in_ok-ends.ensures c.in_ok-edges.ensures
