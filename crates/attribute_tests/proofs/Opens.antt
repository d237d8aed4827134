-- The plain form of attributes and types that are written out, and tests that turn one into another.
use Rattle.std.proofs.Common.{◌≡◌, ℕ, List, [], ◌∷◌, refl, ap}
use Rattle.std.specs.Prelude.{ℤ, pos, negsuc, ◌&&◌}
use Rattle.std.specs.List.{list_all}
use Rattle.std.proofs.lemmas.Grind.{common_steps}
use Rattle.plain_tree.specs.Types.{PlainType}
use Rattle.plain_tree.specs.Attrs.{PlainAttr, Dict, Number, attrs_in}
use Rattle.rule_model.specs.Forms.{are_dicts, is_alignment}
use Rattle.rule_facts.proofs.AttrOpens as facts
use Rattle.attribute_tests.specs.Tests.{is_dict, is_power}

pub dicts_in : (attrs : List PlainAttr) → are_dicts (attrs_in attrs) ≡ list_all is_dict attrs
dicts_in [] = refl
dicts_in (Dict entries ∷ attrs) = dicts_in attrs
dicts_in (_ ∷ attrs) = refl

pub alignment_is : (z : ℤ) (t : PlainType) → is_alignment (Number z t) ≡ is_power z
alignment_is (pos n) t = refl
alignment_is (negsuc n) t = refl

pub ruleset opens = (common_steps, facts.opens, facts.type_opens, dicts_in, alignment_is)
