use Rattle.std.proofs.Common.{rules}
use Rattle.tree_reader.proofs.ReaderLaws.{begun_stands, denotes, labels_stand, values_stand}
use Rattle.tree_reader.proofs.trees.tree_of.Goals as goal

pub denoted-requires-clause-begun : goal.denoted-requires-clause-begun
denoted-requires-clause-begun c = begun_stands c.args.text.now c.args.found.now c.deref.result.now c.requires (search rules)

pub denoted-requires-clause-values : goal.denoted-requires-clause-values
denoted-requires-clause-values c = values_stand c.args.text.now c.args.found.now c.requires

pub denoted-requires-clause-labels : goal.denoted-requires-clause-labels
denoted-requires-clause-labels c = labels_stand c.args.text.now c.args.found.now c.requires

pub returns : goal.returns
returns c = denotes c.args.text.now c.args.found.now c.deref.result.now c.denoted.result c.requires (search rules) c.denoted.ensures
