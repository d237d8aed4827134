use Rattle.std.proofs.Common.{◌≡◌, ◌++◌, take, map}
use Rattle.std.specs.Prelude.{codes}
use Rattle.tree_text.specs.Joined.{led_by}
use Rattle.tree_text.specs.AttrText.{shown, shown_entries, entry_text}
use Rattle.tree_text.specs.Grew.{Grew}
use Rattle.tree_text.proofs.print_attr.+add_attr.Given as goal

abbrev pub invariant-add_attrs-loop-a : goal.invariant-add_attrs-loop-a
invariant-add_attrs-loop-a l = record { text : l.out ≡ l.initial.out ++ led_by (codes ", ") (map (λ s. s.text) (map shown (take l.a-index l.rest))); grew : Grew l.initial.out l.out }

abbrev pub invariant-add_dict-loop-entry : goal.invariant-add_dict-loop-entry
invariant-add_dict-loop-entry l = record { text : l.out ≡ l.initial.out ++ led_by (codes ", ") (map entry_text (shown_entries (take l.entry-index l.rest))); grew : Grew l.initial.out l.out }
