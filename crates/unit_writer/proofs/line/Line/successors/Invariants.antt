use Rattle.std.proofs.Common.{◌≡◌, ◌++◌, drop}
use Rattle.conversion_model.specs.Templates.{labels_at}
use Rattle.unit_writer.proofs.line.Line.successors.Given as goal

abbrev pub invariant-loop-place : goal.invariant-loop-place
invariant-loop-place l = l.list ++ labels_at l.self.labels.now (drop l.place-index l.places) ≡ labels_at l.self.labels.now l.places
