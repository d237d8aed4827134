use Rattle.std.proofs.Common.{◌≡◌, drop, map}
use Rattle.std.specs.List.{list_all}
use Rattle.plain_tree.specs.Attrs.{plain_attr}
use Rattle.attribute_tests.specs.Tests.{is_dict}
use Rattle.attribute_tests.proofs.forms.are_dicts.Given as goal

abbrev pub invariant-loop-a : goal.invariant-loop-a
invariant-loop-a l = list_all is_dict (map plain_attr (drop l.a-index l.attrs)) ≡ list_all is_dict (map plain_attr l.attrs)
