-- What the rolling of types and attributes steps by.
use Rattle.std.proofs.Common.{◌≡◌, List, ℕ, ◌++◌, rules}
use Rattle.std.specs.Prelude.{codes}
use Rattle.std.proofs.lemmas.Grind.{common_steps}
use Rattle.tree_text.specs.AttrText.{shown, dict_text}
use Rattle.tree_model.specs.declared.type_tree.TypeTree as type
use Rattle.tree_model.specs.declared.attr_tree.AttrTree as attr
use Rattle.tree_model.specs.declared.attr_tree.AttrTree.{AttrTree}

pub ruleset type_laws = (common_steps, type.the_lemmas)

-- the text of a dictionary, one level down
pub shown_dict : (es : List (List ℕ × AttrTree)) → (shown (attr.Dict es)).text ≡ codes "{" ++ dict_text es ++ codes "}"
shown_dict es = search (rules, attr.the_lemmas)

pub ruleset attr_laws = (common_steps, attr.the_lemmas, shown_dict)
