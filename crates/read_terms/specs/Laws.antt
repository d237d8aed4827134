-- Types, numbers and names of modules that are read.
use Rattle.std.specs.Prelude.{◌≡◌, ℕ, Bool, true, List}
use Rattle.std.specs.List.{list_all}
use Rattle.tree_model.specs.declared.op_tree.ModuleTree.{ModuleTree}
use Rattle.plain_tree.specs.Ops.{plain_module}
use Rattle.printed_attrs.specs.Readable.{are_bytes}
use Rattle.tree_reading.specs.Reading.{Reads}
use Rattle.read_terms.specs.Fitting.{is_fit_module}
use Rattle.read_terms.specs.Naming.{is_named_function}

-- of a module that a text reads as each type is formed, and each number is one of its type
abbrev pub ReadIsFit : Type 0
ReadIsFit = (text : List ℕ) (allowed : Bool) (A : ModuleTree) → Reads text allowed A → is_fit_module (plain_module A) ≡ true

-- and where the text is of bytes, each of its functions has the name of one, and the operations in it have other names, of bytes
abbrev pub ReadIsNamed : Type 0
ReadIsNamed = (text : List ℕ) (allowed : Bool) (A : ModuleTree) → are_bytes text ≡ true → Reads text allowed A → list_all is_named_function (plain_module A).funcs ≡ true
