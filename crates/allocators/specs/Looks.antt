-- Names of functions.
use Rattle.std.specs.Prelude.{ℕ, Bool, List, codes}
use Rattle.plain_tree.specs.Attrs.{entry}
use Rattle.plain_tree.specs.Ops.{Op}
use Rattle.pattern_model.specs.ModuleStep.{is_text, props_of}

abbrev pub is_named : List ℕ → Op → Bool
is_named name f = is_text name (entry (codes "sym_name") (props_of f))
