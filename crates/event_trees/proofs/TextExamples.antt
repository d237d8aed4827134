-- Worked examples of texts. The name of a word is its place in this list; a number, a width and an index have themselves as their names.
use Rattle.std.specs.Prelude.{◌≡◌, ℕ, false, List, [], ◌∷◌, get_or, codes, Some, negsuc, refl}
use Rattle.std.proofs.Common.{ap}
use Rattle.text_grammar.specs.declared.places.Place.{Place}
use Rattle.text_grammar.specs.declared.places.Place.TheVariants as places
use Rattle.text_events.specs.declared.event.Event.{Event}
use Rattle.text_types.specs.Spelling.{Spelling}
use Rattle.text_scopes.specs.declared.bodies.Class.{Class}
use Rattle.text_scopes.specs.declared.bodies.Class.TheVariants.{Module, Function, Known}
use Rattle.text_scopes.specs.Bodies.{class_in}
use Rattle.tree_model.specs.declared.type_tree.TypeTree as type
use Rattle.tree_model.specs.declared.attr_tree.AttrTree as attr
use Rattle.tree_model.specs.declared.attr_tree.AttrTree.{AttrTree}
use Rattle.tree_model.specs.declared.op_tree.OpTree.{OpTree, roll-OpTree, out-roll-OpTree}
use Rattle.tree_model.specs.declared.op_tree.BlockTree.{roll-BlockTree, out-roll-BlockTree}
use Rattle.tree_model.specs.declared.op_tree.RegionTree.{RegionTree, roll-RegionTree, out-roll-RegionTree}
use Rattle.op_catalog.specs.Table.{shape_of, is_listed}
use Rattle.event_trees.specs.Wording.{Wording}
use Rattle.event_trees.specs.Roles.{roles_at}
use Rattle.event_trees.specs.Levels.{levels_of, ops_of}
use Rattle.event_trees.specs.Modules.{module_of, first_ops, funcs_of}

abbrev words : Wording
words = record {
  spelled = λ name. get_or (codes "builtin.module" ∷ codes "func.func" ∷ codes "t.x" ∷ codes "sym_name" ∷ codes "k" ∷ []) name [];
  number = λ name. name;
  index = λ name. name;
}

abbrev spelling : Spelling
spelling = record { width = λ name. Some name; size = λ name. Some name; number = λ name. name; is_void = λ name. false }

abbrev class : ℕ → Class
class = class_in (Module ∷ Function ∷ Known ∷ [])

abbrev at : Place → ℕ → Event
at place name = record { place = place; name = name }

abbrev sign : Place → Event
sign place = at place 99

abbrev ops_at : List Event → List OpTree
ops_at es = ops_of (levels_of words (roles_at spelling words class es))

-- !7 = i8
-- "func.func"() ({
--   ^8(%9: !7):
--     %10:2 = "t.x"(%9, %11) : (!7, i8) -> (i8, i1)
--     %11 = "t.x"(%10#1) [^8] : (i1) -> i8
-- }) {k = -5 : i8, sym_name = "k"} : () -> ()
abbrev text : List Event
text =
    at places.TypeAliasName 7 ∷ sign places.TypeAliasEquals ∷ at places.IntegerWord 8
    ∷ at places.OpName 1 ∷ sign places.OperandsOpen ∷ sign places.OperandsClose ∷ sign places.RegionsOpen ∷ sign places.RegionOpen
    ∷ at places.BlockLabel 8 ∷ sign places.ArgsOpen ∷ at places.ArgName 9 ∷ sign places.ArgColon ∷ at places.TypeAlias 7 ∷ sign places.ArgsClose ∷ sign places.BlockColon
    ∷ at places.ResultName 10 ∷ sign places.ResultColon ∷ at places.ResultNumber 2 ∷ sign places.ResultsEquals ∷ at places.OpName 2
    ∷ sign places.OperandsOpen ∷ at places.UseName 9 ∷ sign places.UseComma ∷ at places.UseName 11 ∷ sign places.OperandsClose
    ∷ sign places.SignatureColon ∷ sign places.SignatureOpen ∷ at places.TypeAlias 7 ∷ sign places.TypeComma ∷ at places.IntegerWord 8 ∷ sign places.SignatureClose
    ∷ sign places.SignatureArrow ∷ sign places.ResultsOpen ∷ at places.IntegerWord 8 ∷ sign places.TypeComma ∷ at places.IntegerWord 1 ∷ sign places.ResultsClose
    ∷ at places.ResultName 11 ∷ sign places.ResultsEquals ∷ at places.OpName 2
    ∷ sign places.OperandsOpen ∷ at places.UseName 10 ∷ at places.UseNumber 1 ∷ sign places.OperandsClose
    ∷ sign places.SuccessorsOpen ∷ at places.SuccessorName 8 ∷ sign places.SuccessorsClose
    ∷ sign places.SignatureColon ∷ sign places.SignatureOpen ∷ at places.IntegerWord 1 ∷ sign places.SignatureClose ∷ sign places.SignatureArrow ∷ at places.IntegerWord 8
    ∷ sign places.RegionClose ∷ sign places.RegionsClose
    ∷ sign places.DictOpen ∷ at places.EntryName 4 ∷ sign places.EntryEquals ∷ sign places.IntegerMinus ∷ at places.IntegerNumber 5 ∷ sign places.NumberColon ∷ at places.ElementWord 8
    ∷ sign places.EntryComma ∷ at places.EntryName 3 ∷ sign places.EntryEquals ∷ at places.TextAttr 4 ∷ sign places.DictClose
    ∷ sign places.SignatureColon ∷ sign places.SignatureOpen ∷ sign places.SignatureClose ∷ sign places.SignatureArrow ∷ sign places.ResultsOpen ∷ sign places.ResultsClose ∷ []

-- the argument is 0, the first results are 1 and 2, and the last one is 3
abbrev tree : OpTree
tree = roll-OpTree (record {
  name = codes "func.func";
  results = [];
  operands = [];
  props = (codes "sym_name", attr.Str (codes "k")) ∷ [];
  attrs = (codes "k", attr.Int (negsuc 4) (type.Int 8)) ∷ [];
  regions = roll-RegionTree (record {
    blocks = roll-BlockTree (record {
      label = 0;
      args = (0, type.Int 8) ∷ [];
      ops =
          roll-OpTree (record {
            name = codes "t.x";
            results = (1, type.Int 8) ∷ (2, type.Int 1) ∷ [];
            operands = 0 ∷ 3 ∷ [];
            props = [];
            attrs = [];
            regions = [];
            successors = [];
          })
          ∷ roll-OpTree (record { name = codes "t.x"; results = (3, type.Int 8) ∷ []; operands = 2 ∷ []; props = []; attrs = []; regions = []; successors = 0 ∷ [] }) ∷ [];
    }) ∷ [];
  }) ∷ [];
  successors = [];
})

whole : ops_at text ≡ tree ∷ []
unfolding shape_of is_listed
whole = refl

-- Modules

abbrev op_of : List ℕ → List RegionTree → OpTree
op_of name regions = roll-OpTree (record { name = name; results = []; operands = []; props = (codes "k", attr.Unit) ∷ []; attrs = (codes "sym_name", attr.Unit) ∷ []; regions = regions; successors = [] })

abbrev function : OpTree
function = op_of (codes "func.func") []

abbrev in_one_block : List OpTree → List RegionTree
in_one_block ops = roll-RegionTree (record { blocks = roll-BlockTree (record { label = 0; args = []; ops = ops }) ∷ [] }) ∷ []

first_block : (ops : List OpTree) → first_ops (roll-BlockTree (record { label = 0; args = []; ops = ops }) ∷ []) ≡ ops
first_block ops = ap (λ b. b.ops) (out-roll-BlockTree (record { label = 0; args = []; ops = ops }))

-- a module alone is the module, with its attributes
alone : module_of (op_of (codes "builtin.module") (in_one_block (function ∷ [])) ∷ [])
    ≡ record { props = (codes "k", attr.Unit) ∷ []; attrs = (codes "sym_name", attr.Unit) ∷ []; funcs = record { op = function } ∷ [] }
alone = simp (out-roll-OpTree, out-roll-RegionTree) (ap (λ ops. record { props = (codes "k", attr.Unit) ∷ []; attrs = (codes "sym_name", attr.Unit) ∷ []; funcs = funcs_of ops }) (first_block (function ∷ [])))

-- its region without a block is an empty one
no_block : module_of (op_of (codes "builtin.module") (roll-RegionTree (record { blocks = [] }) ∷ []) ∷ [])
    ≡ record { props = (codes "k", attr.Unit) ∷ []; attrs = (codes "sym_name", attr.Unit) ∷ []; funcs = [] }
no_block = simp (out-roll-OpTree, out-roll-RegionTree)

-- a function alone stands in a module without attributes, and so do several operations, and none
one_function : module_of (function ∷ []) ≡ record { props = []; attrs = []; funcs = record { op = function } ∷ [] }
one_function = simp out-roll-OpTree

two_functions : module_of (function ∷ function ∷ []) ≡ record { props = []; attrs = []; funcs = record { op = function } ∷ record { op = function } ∷ [] }
two_functions = refl

nothing_at_all : module_of [] ≡ record { props = []; attrs = []; funcs = [] }
nothing_at_all = refl
