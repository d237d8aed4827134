use Rattle.std.proofs.Common.{◌≡◌, ◌≤◌, ◌*◌, drop}
use Rattle.text_scopes.specs.Bodies.{class_in}
use Rattle.text_kinds.specs.Shapes.{refused_from, refused_module}
use Rattle.text_kinds.proofs.shape.refused_module.Given as goal

-- what is left decides
abbrev pub invariant-loop-event : goal.invariant-loop-event
invariant-loop-event l = record {
  place : l.shape.place ≤ l.event-index;
  depth : l.shape.depth ≤ 2 * l.event-index;
  brackets : l.shape.brackets ≤ l.event-index;
  is : refused_from (class_in l.classes) l.shape (drop l.event-index l.events) ≡ refused_module (class_in l.classes) l.events;
}
