use Rattle.std.proofs.Common.{◌≡◌, take, map}
use Rattle.std.specs.Prelude.{codes}
use Rattle.key_model.specs.Rolled.{rolled}
use Rattle.tree_text.specs.Joined.{led_by}
use Rattle.tree_text.specs.AttrText.{shown, shown_entries, entry_text}
use Rattle.key_model.proofs.roll_attr.+roll_attr.Given as goal

abbrev pub invariant-roll_attrs-loop-a : goal.invariant-roll_attrs-loop-a
invariant-roll_attrs-loop-a l = l.out ≡ rolled l.initial.out (led_by (codes ", ") (map (λ s. s.text) (map shown (take l.a-index l.rest))))

abbrev pub invariant-roll_dict-loop-entry : goal.invariant-roll_dict-loop-entry
invariant-roll_dict-loop-entry l = l.out ≡ rolled l.initial.out (led_by (codes ", ") (map entry_text (shown_entries (take l.entry-index l.rest))))
