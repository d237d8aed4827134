-- Worked examples of operations. The name of an operation or entry is its number: 0 is `builtin.module`, 1 is `func.func`, and each other is `op`.
use Rattle.std.specs.Prelude.{◌≡◌, ℕ, List, [], ◌∷◌, get_or, codes, refl}
use Rattle.text_grammar.specs.declared.places.Place.{Place}
use Rattle.text_grammar.specs.declared.places.Place.TheVariants as places
use Rattle.tree_model.specs.declared.type_tree.TypeTree as type
use Rattle.tree_model.specs.declared.type_tree.TypeTree.{TypeTree}
use Rattle.tree_model.specs.declared.attr_tree.AttrTree.{AttrTree}
use Rattle.tree_model.specs.declared.attr_tree.AttrTree as attr
use Rattle.tree_model.specs.declared.op_tree.OpTree.{OpTree, roll-OpTree}
use Rattle.tree_model.specs.declared.op_tree.BlockTree.{roll-BlockTree}
use Rattle.tree_model.specs.declared.op_tree.RegionTree.{RegionTree, roll-RegionTree}
use Rattle.term_table.specs.declared.node.Form.TheVariants as forms
use Rattle.term_table.specs.Terms.{Term, nothing, node}
use Rattle.op_catalog.specs.Table.{shape_of, is_listed}
use Rattle.event_trees.specs.Wording.{Wording}
use Rattle.event_trees.specs.Roles.{Role}
use Rattle.event_trees.specs.Levels.{levels_of, ops_of}

abbrev words : Wording
words = record { spelled = λ name. get_or (codes "builtin.module" ∷ codes "func.func" ∷ []) name (codes "op"); number = λ name. name; index = λ name. name }

abbrev at : Place → ℕ → ℕ → Term → Role
at place name number term = record { place = place; name = name; number = number; term = term }

-- a word that says nothing
abbrev sign : Place → Role
sign place = at place 9 0 nothing

abbrev i8 : Term
i8 = node forms.Int 8 nothing nothing

-- (i8) -> (i8, i8), and () -> ()
abbrev to_two : Term
to_two = node forms.Func 0 (node forms.Types 0 i8 nothing) (node forms.Types 0 i8 (node forms.Types 0 i8 nothing))

abbrev to_none : Term
to_none = node forms.Func 0 nothing nothing

-- {op}
abbrev entries : Term
entries = node forms.Dict 0 (node forms.Entry 8 (node forms.Unit 0 nothing nothing) nothing) nothing

abbrev unit_entry : List (List ℕ × AttrTree)
unit_entry = (codes "op", attr.Unit) ∷ []

abbrev bare_op : List (ℕ × TypeTree) → List RegionTree → OpTree
bare_op results regions = roll-OpTree (record { name = codes "op"; results = results; operands = []; props = []; attrs = []; regions = regions; successors = [] })

-- "op"(%3, %4)[^1, ^2] <{op}> : (i8) -> (i8, i8), whose results are 5 and 6
whole : ops_of (levels_of words (
    at places.OpName 8 5 nothing
    ∷ at places.UseName 9 3 nothing ∷ sign places.UseComma ∷ at places.UseName 9 4 nothing
    ∷ at places.SuccessorName 9 1 nothing ∷ at places.SuccessorName 9 2 nothing
    ∷ at places.PropsOpen 9 0 entries ∷ at places.SignatureOpen 9 0 to_two ∷ []
    ))
    ≡ roll-OpTree (record {
      name = codes "op";
      results = (5, type.Int 8) ∷ (6, type.Int 8) ∷ [];
      operands = 3 ∷ 4 ∷ [];
      props = unit_entry;
      attrs = [];
      regions = [];
      successors = 1 ∷ 2 ∷ [];
    }) ∷ []
unfolding shape_of is_listed
whole = refl

-- a dictionary behind the regions is one of attributes
attributes : ops_of (levels_of words (at places.OpName 8 0 nothing ∷ at places.DictOpen 9 0 entries ∷ at places.SignatureOpen 9 0 to_none ∷ []))
    ≡ roll-OpTree (record { name = codes "op"; results = []; operands = []; props = []; attrs = unit_entry; regions = []; successors = [] }) ∷ []
unfolding shape_of is_listed
attributes = refl

-- two operations: no part of the one is a part of the other
two_ops : ops_of (levels_of words (at places.OpName 8 0 nothing ∷ at places.SignatureOpen 9 0 to_none ∷ at places.OpName 8 0 nothing ∷ at places.SignatureOpen 9 0 to_two ∷ []))
    ≡ bare_op [] [] ∷ bare_op ((0, type.Int 8) ∷ (1, type.Int 8) ∷ []) [] ∷ []
unfolding shape_of is_listed
two_ops = refl

-- "op"() ({}, {"op"() ^1(%7: i8): "op"()}): a region without blocks, and one of two blocks
regions : ops_of (levels_of words (
    at places.OpName 8 0 nothing
    ∷ at places.RegionOpen 9 0 nothing ∷ sign places.RegionClose
    ∷ at places.RegionOpen 9 4 nothing ∷ at places.OpName 8 0 nothing ∷ at places.SignatureOpen 9 0 to_none
    ∷ at places.BlockLabel 9 1 nothing ∷ at places.ArgName 9 7 i8 ∷ at places.OpName 8 0 nothing ∷ at places.SignatureOpen 9 0 to_none ∷ sign places.RegionClose
    ∷ at places.SignatureOpen 9 0 to_none ∷ []
    ))
    ≡ bare_op [] (
    roll-RegionTree (record { blocks = [] })
    ∷ roll-RegionTree (record {
      blocks =
          roll-BlockTree (record { label = 4; args = []; ops = bare_op [] [] ∷ [] })
          ∷ roll-BlockTree (record { label = 1; args = (7, type.Int 8) ∷ []; ops = bare_op [] [] ∷ [] }) ∷ [];
    }) ∷ []
    ) ∷ []
unfolding shape_of is_listed
regions = refl

-- {^1: ^2:}: a region that begins with a label has no other block
labels : ops_of (levels_of words (
    at places.OpName 8 0 nothing ∷ at places.RegionOpen 9 0 nothing ∷ at places.BlockLabel 9 0 nothing ∷ at places.BlockLabel 9 1 nothing ∷ sign places.RegionClose
    ∷ at places.SignatureOpen 9 0 to_none ∷ []
    ))
    ≡ bare_op [] (
    roll-RegionTree (record {
      blocks = roll-BlockTree (record { label = 0; args = []; ops = [] }) ∷ roll-BlockTree (record { label = 1; args = []; ops = [] }) ∷ [];
    }) ∷ []
    ) ∷ []
unfolding shape_of is_listed
labels = refl
