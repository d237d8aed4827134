use Rattle.text_refusals.proofs.SeenLemmas.{refuses}
use Rattle.tree_reader.proofs.ReaderLaws.{reads, read_only, read_never, refused_never, refused_only}
use Rattle.tree_reader.proofs.reading.read_tree.Goals as goal

pub returns-in-Ok-tree_of-clause-ok : goal.returns-in-Ok-tree_of-clause-ok
returns-in-Ok-tree_of-clause-ok c =
    reads c.args.text.now c.args.allow c.in-Ok.found.refusal c.in-Ok-tree_of.tree (refuses c.args.text.now c.args.allow c.in-Ok.found c.in-Ok.ensures) c.in-None.is c.in-Ok-tree_of.ensures

pub returns-in-Ok-tree_of-clause-only : goal.returns-in-Ok-tree_of-clause-only
returns-in-Ok-tree_of-clause-only c =
    read_only c.args.text.now c.args.allow c.in-Ok.found.refusal c.in-Ok-tree_of.tree (refuses c.args.text.now c.args.allow c.in-Ok.found c.in-Ok.ensures) c.in-None.is c.in-Ok-tree_of.ensures

pub returns-in-Ok-tree_of-clause-refused : goal.returns-in-Ok-tree_of-clause-refused
returns-in-Ok-tree_of-clause-refused c =
    read_never c.args.text.now c.args.allow c.in-Ok.found.refusal c.in-Ok-tree_of.tree (refuses c.args.text.now c.args.allow c.in-Ok.found c.in-Ok.ensures) c.in-None.is c.in-Ok-tree_of.ensures

pub returns-in-Ok-clause-only : goal.returns-in-Ok-clause-only
returns-in-Ok-clause-only c =
    refused_never c.args.text.now c.args.allow c.in-Ok.found.refusal c.in-Some.refusal (refuses c.args.text.now c.args.allow c.in-Ok.found c.in-Ok.ensures) c.in-Some.is

pub returns-in-Ok-clause-refused : goal.returns-in-Ok-clause-refused
returns-in-Ok-clause-refused c =
    refused_only c.args.text.now c.args.allow c.in-Ok.found.refusal c.in-Some.refusal (refuses c.args.text.now c.args.allow c.in-Ok.found c.in-Ok.ensures) c.in-Some.is
