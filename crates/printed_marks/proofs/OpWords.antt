-- The words of operations and modules are plain.
use Rattle.std.proofs.Common.{ℕ, ◌+◌, false, List, [], ◌∷◌, ◌++◌, Option, Some, None, refl}
use Rattle.std.specs.Prelude.{codes}
use Rattle.plain_tree.specs.Types.{PlainType}
use Rattle.plain_tree.specs.Attrs.{Entries, dict_in}
use Rattle.plain_tree.specs.Ops.{Op, op, Ops, end_of_ops, more_ops, Regions, end_of_regions, region, Blocks, end_of_blocks, block, Values, PlainModule}
use Rattle.text_grammar.specs.declared.places.Place.TheVariants as places
use Rattle.text_model.specs.declared.value_name.ValueName.{ValueName}
use Rattle.text_model.specs.declared.value_name.ValueName.TheVariants.{Argument, Single, Part}
use Rattle.text_model.specs.PrintedNames.{Names}
use Rattle.printed_words.specs.Words.{PrintedWord}
use Rattle.printed_ops.specs.OpWords.{lead_words, use_words, more_uses, uses_words, more_successors, successors_words, props_words, attrs_words, operand_types, value_types, signature_words, arg_words, more_args, args_words, label_words, shows, op_words, ops_words, regions_words, more_regions, blocks_words, blocks_from}
use Rattle.printed_modules.specs.ModuleWords.{own_names, more_funcs, body_words, module_words}
use Rattle.printed_marks.proofs.Kept.{either}
use Rattle.printed_marks.proofs.PlainWords.{Plain, on, closing, plain_kept}
use Rattle.printed_marks.proofs.TypeWords.{type_kept, types_kept, results_kept}
use Rattle.printed_marks.proofs.AttrWords.{dict_kept}

lead_plain : (n : Names) (gap : List ℕ) (vs : Values) (name : List ℕ) (rest : List PrintedWord) → Plain rest → Plain (lead_words n gap vs name rest)
lead_plain n gap [] name rest h = on _ _ _ _ refl h
lead_plain n gap (v ∷ []) name rest h = on _ _ _ _ refl (on _ _ _ _ refl (on _ _ _ _ refl h))
lead_plain n gap (v ∷ w ∷ vs) name rest h = on _ _ _ _ refl (on _ _ _ _ refl (on _ _ _ _ refl (on _ _ _ _ refl (on _ _ _ _ refl h))))

use_plain : (gap : List ℕ) (name : Option ValueName) (rest : List PrintedWord) → Plain rest → Plain (use_words gap name rest)
use_plain gap (Some (Part k j)) rest h = on _ _ _ _ refl (on _ _ _ _ refl h)
use_plain gap (Some (Argument k)) rest h = on _ _ _ _ refl h
use_plain gap (Some (Single k)) rest h = on _ _ _ _ refl h
use_plain gap None rest h = on _ _ _ _ refl h

more_uses_plain : (n : Names) (vs : List ℕ) (rest : List PrintedWord) → Plain rest → Plain (more_uses n vs rest)
more_uses_plain n [] rest h = h
more_uses_plain n (v ∷ vs) rest h = on _ _ _ _ refl (use_plain (codes " ") (n.name v) _ (more_uses_plain n vs rest h))

uses_plain : (n : Names) (vs : List ℕ) (rest : List PrintedWord) → Plain rest → Plain (uses_words n vs rest)
uses_plain n [] rest h = h
uses_plain n (v ∷ vs) rest h = use_plain [] (n.name v) _ (more_uses_plain n vs rest h)

more_successors_plain : (n : Names) (ls : List ℕ) (rest : List PrintedWord) → Plain rest → Plain (more_successors n ls rest)
more_successors_plain n [] rest h = h
more_successors_plain n (l ∷ ls) rest h = on _ _ _ _ refl (on _ _ _ _ refl (more_successors_plain n ls rest h))

successors_plain : (n : Names) (ls : List ℕ) (rest : List PrintedWord) → Plain rest → Plain (successors_words n ls rest)
successors_plain n [] rest h = h
successors_plain n (l ∷ ls) rest h = on _ _ _ _ refl (on _ _ _ _ refl (more_successors_plain n ls _ (on _ _ _ _ refl h)))

props_plain : (es : Entries) (rest : List PrintedWord) → Plain rest → Plain (props_words es rest)
props_plain [] rest h = h
props_plain (e ∷ es) rest h = on _ _ _ _ refl (on _ _ _ _ refl (dict_kept Plain plain_kept (dict_in (e ∷ es)) _ (on _ _ _ _ refl (on _ _ _ _ refl h))))

attrs_plain : (es : Entries) (rest : List PrintedWord) → Plain rest → Plain (attrs_words es rest)
attrs_plain [] rest h = h
attrs_plain (e ∷ es) rest h = on _ _ _ _ refl (dict_kept Plain plain_kept (dict_in (e ∷ es)) _ (on _ _ _ _ refl h))

signature_plain : (n : Names) (operands : List ℕ) (results : Values) (rest : List PrintedWord) → Plain rest → Plain (signature_words n operands results rest)
signature_plain n operands results rest h =
    on _ _ _ _ refl (on _ _ _ _ refl (types_kept Plain plain_kept false (operand_types n operands) _ (on _ _ _ _ refl (on _ _ _ _ refl (results_kept Plain plain_kept false (value_types results) rest h)))))

arg_plain : (n : Names) (gap : List ℕ) (v : ℕ × PlainType) (rest : List PrintedWord) → Plain rest → Plain (arg_words n gap v rest)
arg_plain n gap v rest h = on _ _ _ _ refl (on _ _ _ _ refl (type_kept Plain plain_kept false places.IntegerWord (codes " ") v.1 rest refl h))

more_args_plain : (n : Names) (vs : Values) (rest : List PrintedWord) → Plain rest → Plain (more_args n vs rest)
more_args_plain n [] rest h = h
more_args_plain n (v ∷ vs) rest h = on _ _ _ _ refl (arg_plain n (codes " ") v _ (more_args_plain n vs rest h))

args_plain : (n : Names) (vs : Values) (rest : List PrintedWord) → Plain rest → Plain (args_words n vs rest)
args_plain n [] rest h = h
args_plain n (v ∷ vs) rest h = on _ _ _ _ refl (arg_plain n [] v _ (more_args_plain n vs _ (on _ _ _ _ refl h)))

label_plain : (n : Names) (indent : List ℕ) (k : ℕ) (args : Values) (rest : List PrintedWord) → Plain rest → Plain (label_words n indent k args rest)
label_plain n indent k args rest h = on _ _ _ _ refl (args_plain n args _ (on _ _ _ _ refl h))

mutual
  pub op_plain : (n : Names) (indent : List ℕ) (o : Op) (rest : List PrintedWord) → Plain rest → Plain (op_words n indent o rest)
  op_plain n indent (op k results operands regions successors) rest h =
      lead_plain n _ results _ _ (on _ _ _ _ refl (uses_plain n operands _ (on _ _ _ _ refl (successors_plain n successors _ (props_plain k.props _
      (regions_plain n indent regions _ (attrs_plain k.attrs _ (signature_plain n operands results rest h))))))))

  pub ops_plain : (n : Names) (indent : List ℕ) (os : Ops) (rest : List PrintedWord) → Plain rest → Plain (ops_words n indent os rest)
  ops_plain n indent end_of_ops rest h = h
  ops_plain n indent (more_ops o os) rest h = op_plain n indent o _ (ops_plain n indent os rest h)

  pub regions_plain : (n : Names) (indent : List ℕ) (rs : Regions) (rest : List PrintedWord) → Plain rest → Plain (regions_words n indent rs rest)
  regions_plain n indent end_of_regions rest h = h
  regions_plain n indent (region blocks more) rest h =
      on _ _ _ _ refl (on _ _ _ _ refl (blocks_plain n indent blocks _ (on _ _ _ _ refl (more_regions_plain n indent more _ (on _ _ _ _ refl h)))))

  pub more_regions_plain : (n : Names) (indent : List ℕ) (rs : Regions) (rest : List PrintedWord) → Plain rest → Plain (more_regions n indent rs rest)
  more_regions_plain n indent end_of_regions rest h = h
  more_regions_plain n indent (region blocks more) rest h =
      on _ _ _ _ refl (on _ _ _ _ refl (blocks_plain n indent blocks _ (on _ _ _ _ refl (more_regions_plain n indent more rest h))))

  pub blocks_plain : (n : Names) (indent : List ℕ) (bs : Blocks) (rest : List PrintedWord) → Plain rest → Plain (blocks_words n indent bs rest)
  blocks_plain n indent end_of_blocks rest h = h
  blocks_plain n indent (block label args ops more) rest h =
      let inner = ops_plain n (indent ++ codes "  ") ops _ (from_plain n indent 1 more rest h) in
      either Plain (shows n label args ops) _ _ (label_plain n indent 0 args _ inner) inner

  pub from_plain : (n : Names) (indent : List ℕ) (k : ℕ) (bs : Blocks) (rest : List PrintedWord) → Plain rest → Plain (blocks_from n indent k bs rest)
  from_plain n indent k end_of_blocks rest h = h
  from_plain n indent k (block label args ops more) rest h =
      label_plain n indent k args _ (ops_plain n (indent ++ codes "  ") ops _ (from_plain n indent (k + 1) more rest h))

funcs_plain : (fs : List Op) (rest : List PrintedWord) → Plain rest → Plain (more_funcs fs rest)
funcs_plain [] rest h = h
funcs_plain (f ∷ fs) rest h = op_plain (own_names f) (codes "  ") f _ (funcs_plain fs rest h)

body_plain : (fs : List Op) (rest : List PrintedWord) → Plain rest → Plain (body_words fs rest)
body_plain [] rest h = on _ _ _ _ refl (on _ _ _ _ refl h)
body_plain (f ∷ fs) rest h = funcs_plain (f ∷ fs) rest h

pub module_plain : (m : PlainModule) → Plain (module_words m)
module_plain m =
    on _ _ _ _ refl (on _ _ _ _ refl (on _ _ _ _ refl (props_plain m.props _ (on _ _ _ _ refl (on _ _ _ _ refl (body_plain m.funcs _ (on _ _ _ _ refl (on _ _ _ _ refl
    (attrs_plain m.attrs _ (on _ _ _ _ refl (on _ _ _ _ refl (on _ _ _ _ refl (on _ _ _ _ refl (on _ _ _ _ refl (closing _ _ _ (record { plain = refl; front = refl }))))))))))))))))
