-- The words of operations are what the grammar calls operations.
use Rattle.std.proofs.Common.{◌≡◌, ℕ, ◌+◌, true, false, List, [], ◌∷◌, ◌++◌, Option, Some, None, refl}
use Rattle.std.specs.Prelude.{codes}
use Rattle.std.specs.List.{list_all}
use Rattle.std.proofs.lemmas.Bool.{false≢true}
use Rattle.mlir_lex.proofs.Lengths.{and-both, and-left, and-right}
use Rattle.tree_model.specs.declared.type_tree.TypeTree.{TypeTree}
use Rattle.plain_tree.specs.Types.{PlainType}
use Rattle.plain_tree.specs.Attrs.{Entries, dict_in}
use Rattle.plain_tree.specs.Ops.{Op, op, Ops, end_of_ops, more_ops, Regions, end_of_regions, region, Blocks, end_of_blocks, block, Values}
use Rattle.rule_model.specs.Formed.{is_formed_type, are_formed_types}
use Rattle.tree_text.specs.NameText.{string_text}
use Rattle.text_model.specs.declared.value_name.ValueName.{ValueName}
use Rattle.text_model.specs.declared.value_name.ValueName.TheVariants.{Argument, Single, Part}
use Rattle.text_model.specs.PrintedNames.{Names}
use Rattle.line_grammar.specs.Grammar.{Has}
use Rattle.text_grammar.specs.declared.kinds.Kind.TheVariants as kinds
use Rattle.text_grammar.specs.declared.places.Place.TheVariants as places
use Rattle.text_grammar.specs.declared.parts.Part.{Part as GrammarPart}
use Rattle.text_grammar.specs.declared.parts.Part.TheVariants as parts
use Rattle.text_grammar.specs.Table.{Wanted, lines_of, at, some}
use Rattle.printed_words.specs.Words.{PrintedWord, AreRead}
use Rattle.printed_words.proofs.ReadLemmas.{has_at, took, opened, left, if_read}
use Rattle.printed_types.proofs.ReadLemmas.{one_has, type_read, types_read, results_read}
use Rattle.printed_attrs.specs.Readable.{is_readable_dict}
use Rattle.printed_attrs.proofs.ReadLemmas.{dict_read}
use Rattle.printed_ops.specs.OpWords.{lead_words, use_words, more_uses, uses_words, more_successors, successors_words, props_words, attrs_words, known_type, operand_types, value_types, signature_words, arg_words, more_args, args_words, label_words, shows, op_words, ops_words, regions_words, more_regions, blocks_words, blocks_from}
use Rattle.printed_ops.specs.Named.{is_small, is_alone, is_typed, are_formed, is_known_arg, is_known_op, are_known_ops, are_known_regions, are_known_blocks}
use Rattle.printed_ops.proofs.TextLemmas.{known, split}

-- operands
uses_take : (gap : List ℕ) (name : Option ValueName) (wanted : List Wanted) (ws : List PrintedWord) → AreRead wanted ws → AreRead (at places.UseName ∷ some parts.UseIndex ∷ wanted) (use_words gap name ws)
uses_take gap (Some (Argument k)) wanted ws h = took gap places.UseName kinds.Value _ refl (left parts.UseIndex refl h)
uses_take gap (Some (Single k)) wanted ws h = took gap places.UseName kinds.Value _ refl (left parts.UseIndex refl h)
uses_take gap (Some (Part k j)) wanted ws h = took gap places.UseName kinds.Value _ refl (opened _ parts.UseIndex places.UseNumber [] kinds.HashNumber _ (has_at 0 _ _ refl) refl h)
uses_take gap None wanted ws h = took gap places.UseName kinds.Value _ refl (left parts.UseIndex refl h)

more_uses_read : (n : Names) (vs : List ℕ) (wanted : List Wanted) (ws : List PrintedWord) → AreRead wanted ws → AreRead (some parts.MoreUses ∷ wanted) (more_uses n vs ws)
more_uses_read n [] wanted ws h = left parts.MoreUses refl h
more_uses_read n (v ∷ vs) wanted ws h =
    opened _ parts.MoreUses places.UseComma (at places.UseName ∷ some parts.UseIndex ∷ some parts.MoreUses ∷ []) kinds.Comma _ (has_at 0 _ _ refl) refl (uses_take (codes " ") (n.name v) _ _ (more_uses_read n vs wanted ws h))

first_use : (gap : List ℕ) (name : Option ValueName) (wanted : List Wanted) (ws : List PrintedWord) → AreRead (some parts.MoreUses ∷ wanted) ws → AreRead (some parts.Uses ∷ wanted) (use_words gap name ws)
first_use gap (Some (Argument k)) wanted ws h = opened gap parts.Uses places.UseName (some parts.UseIndex ∷ some parts.MoreUses ∷ []) kinds.Value _ (has_at 0 _ _ refl) refl (left parts.UseIndex refl h)
first_use gap (Some (Single k)) wanted ws h = opened gap parts.Uses places.UseName (some parts.UseIndex ∷ some parts.MoreUses ∷ []) kinds.Value _ (has_at 0 _ _ refl) refl (left parts.UseIndex refl h)
first_use gap (Some (Part k j)) wanted ws h =
    opened gap parts.Uses places.UseName (some parts.UseIndex ∷ some parts.MoreUses ∷ []) kinds.Value _ (has_at 0 _ _ refl) refl (opened _ parts.UseIndex places.UseNumber [] kinds.HashNumber _ (has_at 0 _ _ refl) refl h)
first_use gap None wanted ws h = opened gap parts.Uses places.UseName (some parts.UseIndex ∷ some parts.MoreUses ∷ []) kinds.Value _ (has_at 0 _ _ refl) refl (left parts.UseIndex refl h)

uses_read : (n : Names) (vs : List ℕ) (wanted : List Wanted) (ws : List PrintedWord) → AreRead wanted ws → AreRead (some parts.Uses ∷ wanted) (uses_words n vs ws)
uses_read n [] wanted ws h = left parts.Uses refl h
uses_read n (v ∷ vs) wanted ws h = first_use [] (n.name v) wanted _ (more_uses_read n vs wanted ws h)

-- successors
more_successors_read : (n : Names) (ls : List ℕ) (wanted : List Wanted) (ws : List PrintedWord) → AreRead wanted ws → AreRead (some parts.MoreSuccessors ∷ wanted) (more_successors n ls ws)
more_successors_read n [] wanted ws h = left parts.MoreSuccessors refl h
more_successors_read n (l ∷ ls) wanted ws h =
    opened _ parts.MoreSuccessors places.SuccessorComma (at places.SuccessorName ∷ some parts.MoreSuccessors ∷ []) kinds.Comma _ (has_at 0 _ _ refl) refl (took _ places.SuccessorName kinds.Label _ refl (more_successors_read n ls wanted ws h))

successors_read : (n : Names) (ls : List ℕ) (wanted : List Wanted) (ws : List PrintedWord) → AreRead wanted ws → AreRead (some parts.Successors ∷ wanted) (successors_words n ls ws)
successors_read n [] wanted ws h = left parts.Successors refl h
successors_read n (l ∷ ls) wanted ws h =
    opened _ parts.Successors places.SuccessorsOpen (at places.SuccessorName ∷ some parts.MoreSuccessors ∷ at places.SuccessorsClose ∷ []) kinds.OpenSquare _ (has_at 0 _ _ refl) refl
    (took _ places.SuccessorName kinds.Label _ refl (more_successors_read n ls _ _ (took _ places.SuccessorsClose kinds.CloseSquare _ refl h)))

-- dictionaries
pub props_read : (es : Entries) (wanted : List Wanted) (ws : List PrintedWord) → is_readable_dict (dict_in es) ≡ true → AreRead wanted ws → AreRead (some parts.Props ∷ wanted) (props_words es ws)
props_read [] wanted ws r h = left parts.Props refl h
props_read (e ∷ es) wanted ws r h =
    opened _ parts.Props places.PropsLess (at places.PropsOpen ∷ some parts.Entries ∷ at places.PropsClose ∷ at places.PropsGreater ∷ []) kinds.Less _ (has_at 0 _ _ refl) refl
    (took _ places.PropsOpen kinds.OpenBrace _ refl (dict_read (dict_in (e ∷ es)) _ _ r (took _ places.PropsClose kinds.CloseBrace _ refl (took _ places.PropsGreater kinds.Greater _ refl h))))

pub attrs_read : (es : Entries) (wanted : List Wanted) (ws : List PrintedWord) → is_readable_dict (dict_in es) ≡ true → AreRead wanted ws → AreRead (some parts.Dict ∷ wanted) (attrs_words es ws)
attrs_read [] wanted ws r h = left parts.Dict refl h
attrs_read (e ∷ es) wanted ws r h =
    opened _ parts.Dict places.DictOpen (some parts.Entries ∷ at places.DictClose ∷ []) kinds.OpenBrace _ (has_at 0 _ _ refl) refl (dict_read (dict_in (e ∷ es)) _ _ r (took _ places.DictClose kinds.CloseBrace _ refl h))

-- the function type
type_formed : (t : Option TypeTree) → is_typed t ≡ true → is_formed_type (known_type t) ≡ true
type_formed None h = absurd (false≢true h)
type_formed (Some t) h = h

pub operands_formed : (n : Names) (vs : List ℕ) → list_all (λ v. is_typed (n.type_of v)) vs ≡ true → are_formed_types (operand_types n vs) ≡ true
operands_formed n [] h = refl
operands_formed n (v ∷ vs) h = and-both _ _ (type_formed (n.type_of v) (and-left _ _ h)) (operands_formed n vs (and-right (is_typed (n.type_of v)) _ h))

pub values_formed : (vs : Values) → are_formed vs ≡ true → are_formed_types (value_types vs) ≡ true
values_formed [] h = refl
values_formed (v ∷ vs) h = and-both _ _ (and-left _ _ h) (values_formed vs (and-right (is_formed_type v.1) _ h))

signature_read : (n : Names) (operands : List ℕ) (results : Values) (wanted : List Wanted) (ws : List PrintedWord) → list_all (λ v. is_typed (n.type_of v)) operands ≡ true → are_formed results ≡ true → AreRead wanted ws
    → AreRead (at places.SignatureColon ∷ at places.SignatureOpen ∷ some parts.Types ∷ at places.SignatureClose ∷ at places.SignatureArrow ∷ some parts.Results ∷ wanted) (signature_words n operands results ws)
signature_read n operands results wanted ws f g h =
    took _ places.SignatureColon kinds.Colon _ refl (took _ places.SignatureOpen kinds.OpenParen _ refl
    (types_read false (operand_types n operands) _ _ (operands_formed n operands f) (took _ places.SignatureClose kinds.CloseParen _ refl (took _ places.SignatureArrow kinds.Arrow _ refl
    (results_read false (value_types results) wanted ws (values_formed results g) h)))))

-- arguments
arg_read : (n : Names) (gap : List ℕ) (v : ℕ × PlainType) (wanted : List Wanted) (ws : List PrintedWord) → is_known_arg n v ≡ true → AreRead wanted ws
    → AreRead (at places.ArgName ∷ at places.ArgColon ∷ some parts.OneType ∷ some parts.Loc ∷ wanted) (arg_words n gap v ws)
arg_read n gap v wanted ws f h =
    took _ places.ArgName kinds.Value _ refl (took _ places.ArgColon kinds.Colon _ refl
    (type_read false (codes " ") v.1 parts.OneType [] _ _ (and-right (is_alone (n.name v.0)) _ f) (one_has false v.1) (left parts.Loc refl h)))

more_args_read : (n : Names) (vs : Values) (wanted : List Wanted) (ws : List PrintedWord) → list_all (is_known_arg n) vs ≡ true → AreRead wanted ws → AreRead (some parts.MoreArgs ∷ wanted) (more_args n vs ws)
more_args_read n [] wanted ws f h = left parts.MoreArgs refl h
more_args_read n (v ∷ vs) wanted ws f h =
    opened _ parts.MoreArgs places.ArgComma (at places.ArgName ∷ at places.ArgColon ∷ some parts.OneType ∷ some parts.Loc ∷ some parts.MoreArgs ∷ []) kinds.Comma _ (has_at 0 _ _ refl) refl
    (arg_read n (codes " ") v _ _ (and-left _ _ f) (more_args_read n vs wanted ws (and-right (is_known_arg n v) _ f) h))

args_read : (n : Names) (vs : Values) (wanted : List Wanted) (ws : List PrintedWord) → list_all (is_known_arg n) vs ≡ true → AreRead wanted ws → AreRead (some parts.BlockArgs ∷ wanted) (args_words n vs ws)
args_read n [] wanted ws f h = left parts.BlockArgs refl h
args_read n (v ∷ vs) wanted ws f h =
    opened _ parts.BlockArgs places.ArgsOpen (at places.ArgName ∷ at places.ArgColon ∷ some parts.OneType ∷ some parts.Loc ∷ some parts.MoreArgs ∷ at places.ArgsClose ∷ []) kinds.OpenParen _ (has_at 0 _ _ refl) refl
    (arg_read n [] v _ _ (and-left _ _ f) (more_args_read n vs _ _ (and-right (is_known_arg n v) _ f) (took _ places.ArgsClose kinds.CloseParen _ refl h)))

label_read : (n : Names) (indent : List ℕ) (k : ℕ) (vs : Values) (wanted : List Wanted) (ws : List PrintedWord) → list_all (is_known_arg n) vs ≡ true → AreRead (some parts.Ops ∷ some parts.Blocks ∷ wanted) ws
    → AreRead (some parts.Blocks ∷ wanted) (label_words n indent k vs ws)
label_read n indent k vs wanted ws f h =
    opened _ parts.Blocks places.BlockLabel (some parts.BlockArgs ∷ at places.BlockColon ∷ some parts.Ops ∷ some parts.Blocks ∷ []) kinds.Label _ (has_at 0 _ _ refl) refl (args_read n vs _ _ f (took _ places.BlockColon kinds.Colon _ refl h))

-- the results and the name, in a part that has the lines of an operation
pub record HasOps (part : GrammarPart) : Type 0 where
  pub bare : Has (places.OpName, some parts.OpBody ∷ some part ∷ []) (lines_of part)
  pub with_results : Has (places.ResultName, some parts.ResultCount ∷ some parts.MoreResults ∷ at places.OpName ∷ some parts.OpBody ∷ some part ∷ []) (lines_of part)

pub ops_have : HasOps parts.Ops
ops_have = record { bare = has_at 0 _ _ refl; with_results = has_at 1 _ _ refl }

pub file_has : HasOps parts.File
file_has = record { bare = has_at 0 _ _ refl; with_results = has_at 1 _ _ refl }

lead_read : (n : Names) (gap : List ℕ) (vs : Values) (name : List ℕ) (part : GrammarPart) (wanted : List Wanted) (ws : List PrintedWord) → HasOps part → AreRead (some parts.OpBody ∷ some part ∷ wanted) ws → AreRead (some part ∷ wanted) (lead_words n gap vs name ws)
lead_read n gap [] name part wanted ws has h = opened gap part places.OpName (some parts.OpBody ∷ some part ∷ []) kinds.Text name has.bare refl h
lead_read n gap (v ∷ []) name part wanted ws has h =
    opened gap part places.ResultName (some parts.ResultCount ∷ some parts.MoreResults ∷ at places.OpName ∷ some parts.OpBody ∷ some part ∷ []) kinds.Value _ has.with_results refl
    (left parts.ResultCount refl (opened _ parts.MoreResults places.ResultsEquals [] kinds.Equals _ (has_at 0 _ _ refl) refl (took _ places.OpName kinds.Text name refl h)))
lead_read n gap (v ∷ w ∷ vs) name part wanted ws has h =
    opened gap part places.ResultName (some parts.ResultCount ∷ some parts.MoreResults ∷ at places.OpName ∷ some parts.OpBody ∷ some part ∷ []) kinds.Value _ has.with_results refl
    (opened _ parts.ResultCount places.ResultColon (at places.ResultNumber ∷ []) kinds.Colon _ (has_at 0 _ _ refl) refl (took _ places.ResultNumber kinds.Number _ refl
    (opened _ parts.MoreResults places.ResultsEquals [] kinds.Equals _ (has_at 0 _ _ refl) refl (took _ places.OpName kinds.Text name refl h))))

mutual
  -- an operation in a part, and the part goes on behind it
  pub op_read : (n : Names) (indent : List ℕ) (o : Op) (part : GrammarPart) (wanted : List Wanted) (ws : List PrintedWord) → is_known_op n o ≡ true → HasOps part → AreRead (some part ∷ wanted) ws → AreRead (some part ∷ wanted) (op_words n indent o ws)
  op_read n indent (op k results operands regions successors) part wanted ws f has h =
      let is = known n k results operands regions successors f in
      lead_read n (10 ∷ indent) results (string_text k.name) part wanted _ has
      (opened _ parts.OpBody places.OperandsOpen
      (some parts.Uses ∷ at places.OperandsClose ∷ some parts.Successors ∷ some parts.Props ∷ some parts.Regions ∷ some parts.Dict
      ∷ at places.SignatureColon ∷ at places.SignatureOpen ∷ some parts.Types ∷ at places.SignatureClose ∷ at places.SignatureArrow ∷ some parts.Results ∷ some parts.Loc ∷ [])
      kinds.OpenParen _ (has_at 0 _ _ refl) refl
      (uses_read n operands _ _ (took _ places.OperandsClose kinds.CloseParen _ refl
      (successors_read n successors _ _ (props_read k.props _ _ is.props (regions_read n indent regions _ _ is.regions_known (attrs_read k.attrs _ _ is.attrs
      (signature_read n operands results _ ws is.operands_typed is.results_formed (left parts.Loc refl h)))))))))

  pub ops_read : (n : Names) (indent : List ℕ) (os : Ops) (wanted : List Wanted) (ws : List PrintedWord) → are_known_ops n os ≡ true → AreRead wanted ws → AreRead (some parts.Ops ∷ wanted) (ops_words n indent os ws)
  ops_read n indent end_of_ops wanted ws f h = left parts.Ops refl h
  ops_read n indent (more_ops o os) wanted ws f h = op_read n indent o parts.Ops wanted _ (and-left _ _ f) ops_have (ops_read n indent os wanted ws (and-right (is_known_op n o) _ f) h)

  pub regions_read : (n : Names) (indent : List ℕ) (rs : Regions) (wanted : List Wanted) (ws : List PrintedWord) → are_known_regions n rs ≡ true → AreRead wanted ws → AreRead (some parts.Regions ∷ wanted) (regions_words n indent rs ws)
  regions_read n indent end_of_regions wanted ws f h = left parts.Regions refl h
  regions_read n indent (region blocks more) wanted ws f h =
      opened _ parts.Regions places.RegionsOpen (some parts.Region ∷ some parts.MoreRegions ∷ at places.RegionsClose ∷ []) kinds.OpenParen _ (has_at 0 _ _ refl) refl
      (opened [] parts.Region places.RegionOpen (some parts.Ops ∷ some parts.Blocks ∷ at places.RegionClose ∷ []) kinds.OpenBrace _ (has_at 0 _ _ refl) refl
      (blocks_read n indent blocks _ _ (and-left _ _ f) (took _ places.RegionClose kinds.CloseBrace _ refl
      (more_regions_read n indent more _ _ (and-right (are_known_blocks n 0 blocks) _ f) (took _ places.RegionsClose kinds.CloseParen _ refl h)))))

  pub more_regions_read : (n : Names) (indent : List ℕ) (rs : Regions) (wanted : List Wanted) (ws : List PrintedWord) → are_known_regions n rs ≡ true → AreRead wanted ws → AreRead (some parts.MoreRegions ∷ wanted) (more_regions n indent rs ws)
  more_regions_read n indent end_of_regions wanted ws f h = left parts.MoreRegions refl h
  more_regions_read n indent (region blocks more) wanted ws f h =
      opened _ parts.MoreRegions places.RegionComma (some parts.Region ∷ some parts.MoreRegions ∷ []) kinds.Comma _ (has_at 0 _ _ refl) refl
      (opened _ parts.Region places.RegionOpen (some parts.Ops ∷ some parts.Blocks ∷ at places.RegionClose ∷ []) kinds.OpenBrace _ (has_at 0 _ _ refl) refl
      (blocks_read n indent blocks _ _ (and-left _ _ f) (took _ places.RegionClose kinds.CloseBrace _ refl (more_regions_read n indent more _ _ (and-right (are_known_blocks n 0 blocks) _ f) h))))

  pub blocks_read : (n : Names) (indent : List ℕ) (bs : Blocks) (wanted : List Wanted) (ws : List PrintedWord) → are_known_blocks n 0 bs ≡ true → AreRead wanted ws → AreRead (some parts.Ops ∷ some parts.Blocks ∷ wanted) (blocks_words n indent bs ws)
  blocks_read n indent end_of_blocks wanted ws f h = left parts.Ops refl (left parts.Blocks refl h)
  blocks_read n indent (block label vs ops more) wanted ws f h =
      let k = split (list_all (is_known_arg n) vs) _ (and-right (is_small 0) _ f) in
      let l = split (are_known_ops n ops) _ k.1 in
      let inner = ops_read n (indent ++ codes "  ") ops _ _ l.0 (from_read n indent 1 more wanted ws l.1 h) in
      if_read (shows n label vs ops) _ _ _ (λ _. left parts.Ops refl (label_read n indent 0 vs wanted _ k.0 inner)) (λ _. inner)

  pub from_read : (n : Names) (indent : List ℕ) (k : ℕ) (bs : Blocks) (wanted : List Wanted) (ws : List PrintedWord) → are_known_blocks n k bs ≡ true → AreRead wanted ws → AreRead (some parts.Blocks ∷ wanted) (blocks_from n indent k bs ws)
  from_read n indent k end_of_blocks wanted ws f h = left parts.Blocks refl h
  from_read n indent k (block label vs ops more) wanted ws f h =
      let m = split (list_all (is_known_arg n) vs) _ (and-right (is_small k) _ f) in
      let l = split (are_known_ops n ops) _ m.1 in
      label_read n indent k vs wanted _ m.0 (ops_read n (indent ++ codes "  ") ops _ _ l.0 (from_read n indent (k + 1) more wanted ws l.1 h))
