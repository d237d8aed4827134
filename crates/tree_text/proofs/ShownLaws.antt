-- The text of a dictionary, one level down.
use Rattle.std.proofs.Common.{◌≡◌, List, ℕ, ◌++◌, rules}
use Rattle.std.specs.Prelude.{codes}
use Rattle.std.proofs.lemmas.Grind.{common_steps}
use Rattle.tree_text.proofs.GrewLaws.{grew_refl, grew_on}
use Rattle.tree_text.specs.AttrText.{shown, dict_text}
use Rattle.tree_model.specs.declared.attr_tree.AttrTree.{AttrTree, the_lemmas, Dict}

pub shown_dict : (es : List (List ℕ × AttrTree)) → (shown (Dict es)).text ≡ codes "{" ++ dict_text es ++ codes "}"
shown_dict es = search (rules, the_lemmas)

pub ruleset shown_laws = (common_steps, the_lemmas, shown_dict, grew_refl, grew_on)
