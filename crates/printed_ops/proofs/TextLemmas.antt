-- The text of an operation's words is the operation's text.
use Rattle.std.proofs.Common.{◌≡◌, ℕ, suc, ◌+◌, Bool, true, false, ◌&&◌, List, [], ◌∷◌, ◌++◌, map, length, Option, Some, None, refl, sym, ap, ◌∙◌, append_assoc}
use Rattle.std.specs.Prelude.{codes, decimal, flat_map, if◌then◌else◌}
use Rattle.std.specs.List.{list_all}
use Rattle.std.proofs.lemmas.Bool.{false≢true}
use Rattle.mlir_lex.proofs.Lengths.{and-left, and-right}
use Rattle.tree_model.specs.declared.type_tree.TypeTree.{TypeTree}
use Rattle.tree_model.specs.declared.op_tree.RegionTree.{RegionTree, roll-RegionTree}
use Rattle.tree_model.specs.declared.op_tree.BlockTree.TheFolds.{fold-roll-OpTree, fold-roll-BlockTree, fold-roll-RegionTree}
use Rattle.plain_tree.specs.Types.{PlainType, type_tree, type_trees}
use Rattle.plain_tree.specs.Attrs.{Entries, dict_in, dict_tree, entries_tree}
use Rattle.plain_tree.specs.Ops.{Kind, Op, op, Ops, end_of_ops, more_ops, Regions, end_of_regions, region, Blocks, end_of_blocks, block, Values, values_tree, op_tree, op_trees, region_trees, block_trees}
use Rattle.plain_tree.proofs.TypeTrip.{type_trip}
use Rattle.tree_text.specs.Joined.{joined, led_by}
use Rattle.tree_text.specs.NameText.{string_text}
use Rattle.tree_text.specs.TypeText.{printed, text_at, signature_text, results_at, type_text}
use Rattle.tree_text.specs.AttrText.{dict_text}
use Rattle.text_model.specs.declared.value_name.ValueName.{ValueName}
use Rattle.text_model.specs.declared.value_name.ValueName.TheVariants.{Argument, Single, Part}
use Rattle.text_model.specs.PrintedNames.{Names}
use Rattle.text_model.specs.PrintedOps as printed
use Rattle.text_model.specs.PrintedOps.{BlockParts, found_name, found_number, found_type, found_label, results_lead, operands_text, successors_text, props_text, attrs_text, regions_text, op_signature, argument_text, arguments_text, label_line, has_none, shows_label, block_text, first_block, blocks_text, head_text, tail_text, block_step, op_step, region_step, op_text, block_parts, region_text}
use Rattle.text_grammar.specs.declared.kinds.Kind.TheVariants as kinds
use Rattle.text_grammar.specs.declared.places.Place.TheVariants as places
use Rattle.printed_words.specs.Words.{PrintedWord, word, sign, text_of}
use Rattle.printed_types.specs.TypeWords.{results_words}
use Rattle.printed_types.proofs.TextLemmas as types
use Rattle.printed_attrs.proofs.TextLemmas as attrs
use Rattle.printed_ops.specs.OpWords.{lead_words, use_words, more_uses, operands_words, more_successors, successors_words, props_words, attrs_words, known_type, operand_types, value_types, signature_words, arg_words, more_args, args_words, label_words, shows, op_words, ops_words, close_word, regions_words, more_regions, blocks_words, blocks_from}
use Rattle.printed_ops.specs.Named.{is_small, is_named, is_placed, is_typed, are_named, are_formed, is_known_arg, is_known_op, are_known_ops, are_known_regions, are_known_blocks}
use Rattle.printed_attrs.specs.Readable.{are_bytes, is_readable_dict}

-- sums of texts

two : (a b t : List ℕ) → a ++ (b ++ t) ≡ (a ++ b) ++ t
two a b t = simp append_assoc

three : (a b c t : List ℕ) → a ++ (b ++ (c ++ t)) ≡ (a ++ b ++ c) ++ t
three a b c t = simp append_assoc

-- a list between signs, with its first member apart
between : (o x l c t : List ℕ) → o ++ (x ++ (l ++ (c ++ t))) ≡ (o ++ (x ++ l) ++ c) ++ t
between o x l c t = simp append_assoc

-- The parts of an operation

lead_is : (n : Names) (gap : List ℕ) (vs : Values) (name : List ℕ) (rest : List PrintedWord) (end : List ℕ) → text_of (lead_words n gap vs name rest) end ≡ gap ++ (results_lead n (values_tree vs) ++ (name ++ text_of rest end))
lead_is n gap [] name rest end = refl
lead_is n gap (v ∷ []) name rest end = ap (λ r. gap ++ r) (two (found_name (n.name v.0)) (codes " = ") (name ++ text_of rest end))
lead_is n gap (v ∷ w ∷ vs) name rest end =
    ap (λ k. gap ++ (found_number (n.name v.0) ++ (codes ":" ++ (decimal (suc (suc k)) ++ (codes " = " ++ (name ++ text_of rest end)))))) (values_long vs)
    ∙ ap (λ r. gap ++ r) (lead_form (found_number (n.name v.0)) (codes ":") (decimal (suc (suc (length (values_tree vs))))) (codes " = ") (name ++ text_of rest end))
  where
    values_long : (us : Values) → length us ≡ length (values_tree us)
    values_long [] = refl
    values_long (u ∷ us) = ap suc (values_long us)

    lead_form : (a b c d t : List ℕ) → a ++ (b ++ (c ++ (d ++ t))) ≡ (a ++ b ++ c ++ d) ++ t
    lead_form a b c d t = simp append_assoc

use_is : (gap : List ℕ) (name : Option ValueName) (rest : List PrintedWord) (end : List ℕ) → text_of (use_words gap name rest) end ≡ gap ++ (found_name name ++ text_of rest end)
use_is gap (Some (Argument k)) rest end = refl
use_is gap (Some (Single k)) rest end = refl
use_is gap (Some (Part k j)) rest end = ap (λ r. gap ++ r) (three (codes "%" ++ decimal k) (codes "#") (decimal j) (text_of rest end) ∙ part_form (codes "%") (decimal k) (codes "#") (decimal j) (text_of rest end))
  where
    part_form : (a b c d t : List ℕ) → ((a ++ b) ++ c ++ d) ++ t ≡ (a ++ b ++ c ++ d) ++ t
    part_form a b c d t = simp append_assoc
use_is gap None rest end = refl

abbrev uses : Names → List ℕ → List (List ℕ)
uses n vs = map (λ v. found_name (n.name v)) vs

more_uses_are : (n : Names) (vs : List ℕ) (rest : List PrintedWord) (end : List ℕ) → text_of (more_uses n vs rest) end ≡ led_by (codes ", ") (uses n vs) ++ text_of rest end
more_uses_are n [] rest end = refl
more_uses_are n (v ∷ vs) rest end =
    ap (λ r. codes "," ++ r) (use_is (codes " ") (n.name v) (more_uses n vs rest) end) ∙ ap (λ r. codes ", " ++ (found_name (n.name v) ++ r)) (more_uses_are n vs rest end)
    ∙ ap (λ r. codes ", " ++ r) (two (found_name (n.name v)) (led_by (codes ", ") (uses n vs)) (text_of rest end))

operands_are : (n : Names) (vs : List ℕ) (rest : List PrintedWord) (end : List ℕ) → text_of (operands_words n vs rest) end ≡ operands_text n vs ++ text_of rest end
operands_are n [] rest end = refl
operands_are n (v ∷ vs) rest end =
    let close = sign places.OperandsClose kinds.CloseParen (codes ")") ∷ rest in
    ap (λ r. codes "(" ++ r) (use_is [] (n.name v) (more_uses n vs close) end) ∙ ap (λ r. codes "(" ++ (found_name (n.name v) ++ r)) (more_uses_are n vs close end)
    ∙ between (codes "(") (found_name (n.name v)) (led_by (codes ", ") (uses n vs)) (codes ")") (text_of rest end)

abbrev labels : Names → List ℕ → List (List ℕ)
labels n ls = map (λ l. found_label (n.position l)) ls

more_successors_are : (n : Names) (ls : List ℕ) (rest : List PrintedWord) (end : List ℕ) → text_of (more_successors n ls rest) end ≡ led_by (codes ", ") (labels n ls) ++ text_of rest end
more_successors_are n [] rest end = refl
more_successors_are n (l ∷ ls) rest end =
    ap (λ r. codes ", " ++ (found_label (n.position l) ++ r)) (more_successors_are n ls rest end) ∙ ap (λ r. codes ", " ++ r) (two (found_label (n.position l)) (led_by (codes ", ") (labels n ls)) (text_of rest end))

successors_are : (n : Names) (ls : List ℕ) (rest : List PrintedWord) (end : List ℕ) → text_of (successors_words n ls rest) end ≡ successors_text n ls ++ text_of rest end
successors_are n [] rest end = refl
successors_are n (l ∷ ls) rest end =
    ap (λ r. codes "[" ++ (found_label (n.position l) ++ r)) (more_successors_are n ls (sign places.SuccessorsClose kinds.CloseSquare (codes "]") ∷ rest) end)
    ∙ between (codes "[") (found_label (n.position l)) (led_by (codes ", ") (labels n ls)) (codes "]") (text_of rest end)

entries_are : (es : Entries) → dict_tree (dict_in es) ≡ entries_tree es
entries_are [] = refl
entries_are (e ∷ es) = ap (λ more. dict_tree (dict_in (e ∷ [])) ++ more) (entries_are es)

pub props_are : (es : Entries) (rest : List PrintedWord) (end : List ℕ) → text_of (props_words es rest) end ≡ props_text (entries_tree es) ++ text_of rest end
props_are [] rest end = refl
props_are (e ∷ es) rest end =
    ap (λ r. codes " <{" ++ r) (attrs.dict_is (dict_in (e ∷ es)) (sign places.PropsClose kinds.CloseBrace (codes "}") ∷ sign places.PropsGreater kinds.Greater (codes ">") ∷ rest) end)
    ∙ ap (λ d. codes " <{" ++ (dict_text d ++ (codes "}>" ++ text_of rest end))) (entries_are (e ∷ es))
    ∙ three (codes " <{") (dict_text (entries_tree (e ∷ es))) (codes "}>") (text_of rest end)

pub attrs_are : (es : Entries) (rest : List PrintedWord) (end : List ℕ) → text_of (attrs_words es rest) end ≡ attrs_text (entries_tree es) ++ text_of rest end
attrs_are [] rest end = refl
attrs_are (e ∷ es) rest end =
    ap (λ r. codes " {" ++ r) (attrs.dict_is (dict_in (e ∷ es)) (sign places.DictClose kinds.CloseBrace (codes "}") ∷ rest) end)
    ∙ ap (λ d. codes " {" ++ (dict_text d ++ (codes "}" ++ text_of rest end))) (entries_are (e ∷ es))
    ∙ three (codes " {") (dict_text (entries_tree (e ∷ es))) (codes "}") (text_of rest end)

-- the function type
type_known : (t : Option TypeTree) → is_typed t ≡ true → found_type t ≡ printed (type_tree (known_type t))
type_known None h = absurd (false≢true h)
type_known (Some t) h = ap printed (sym (type_trip t))

operands_known : (n : Names) (vs : List ℕ) → list_all (λ v. is_typed (n.type_of v)) vs ≡ true → map (λ v. found_type (n.type_of v)) vs ≡ map printed (type_trees (operand_types n vs))
operands_known n [] h = refl
operands_known n (v ∷ vs) h =
    ap (λ p. p ∷ map (λ v. found_type (n.type_of v)) vs) (type_known (n.type_of v) (and-left _ _ h))
    ∙ ap (λ ps. printed (type_tree (known_type (n.type_of v))) ∷ ps) (operands_known n vs (and-right (is_typed (n.type_of v)) _ h))

results_known : (vs : Values) → map (λ r. printed r.1) (values_tree vs) ≡ map printed (type_trees (value_types vs))
results_known [] = refl
results_known (v ∷ vs) = ap (λ ps. printed (type_tree v.1) ∷ ps) (results_known vs)

signature_is : (n : Names) (operands : List ℕ) (results : Values) (rest : List PrintedWord) (end : List ℕ) → list_all (λ v. is_typed (n.type_of v)) operands ≡ true
    → text_of (signature_words n operands results rest) end ≡ codes " : " ++ (op_signature n operands (values_tree results) ++ text_of rest end)
signature_is n operands results rest end h =
    let ins = joined (codes ", ") (map (text_at false) (map printed (type_trees (operand_types n operands)))) in
    let outs = results_at false (map printed (type_trees (value_types results))) in
    let t = text_of rest end in
    ap (λ r. codes " : (" ++ r) (types.types_text false (operand_types n operands) (sign places.SignatureClose kinds.CloseParen (codes ")") ∷ word (codes " ") places.SignatureArrow kinds.Arrow (codes "->") ∷ results_words false (value_types results) rest) end)
    ∙ ap (λ r. codes " : (" ++ (ins ++ (codes ") ->" ++ r))) (types.results_text false (value_types results) rest end)
    ∙ ap (λ r. codes " : " ++ r) (five (codes "(") ins (codes ")") (codes " -> ") outs t)
    ∙ ap (λ ps. codes " : " ++ (signature_text ps (map printed (type_trees (value_types results))) ++ t)) (sym (operands_known n operands h))
    ∙ ap (λ ps. codes " : " ++ (signature_text (map (λ v. found_type (n.type_of v)) operands) ps ++ t)) (sym (results_known results))
  where
    five : (a b c d e t : List ℕ) → a ++ (b ++ (c ++ (d ++ (e ++ t)))) ≡ ((a ++ b ++ c) ++ d ++ e) ++ t
    five a b c d e t = simp append_assoc

-- arguments
arg_is : (n : Names) (gap : List ℕ) (v : ℕ × PlainType) (rest : List PrintedWord) (end : List ℕ) → text_of (arg_words n gap v rest) end ≡ gap ++ (argument_text n (v.0, type_tree v.1) ++ text_of rest end)
arg_is n gap v rest end =
    ap (λ r. gap ++ (found_name (n.name v.0) ++ (codes ":" ++ r))) (types.type_text false places.IntegerWord (codes " ") v.1 rest end)
    ∙ ap (λ r. gap ++ r) (three (found_name (n.name v.0)) (codes ": ") (type_text (type_tree v.1)) (text_of rest end))

abbrev args : Names → Values → List (List ℕ)
args n vs = map (argument_text n) (values_tree vs)

more_args_are : (n : Names) (vs : Values) (rest : List PrintedWord) (end : List ℕ) → text_of (more_args n vs rest) end ≡ led_by (codes ", ") (args n vs) ++ text_of rest end
more_args_are n [] rest end = refl
more_args_are n (v ∷ vs) rest end =
    ap (λ r. codes "," ++ r) (arg_is n (codes " ") v (more_args n vs rest) end) ∙ ap (λ r. codes ", " ++ (argument_text n (v.0, type_tree v.1) ++ r)) (more_args_are n vs rest end)
    ∙ ap (λ r. codes ", " ++ r) (two (argument_text n (v.0, type_tree v.1)) (led_by (codes ", ") (args n vs)) (text_of rest end))

args_are : (n : Names) (vs : Values) (rest : List PrintedWord) (end : List ℕ) → text_of (args_words n vs rest) end ≡ arguments_text n (values_tree vs) ++ text_of rest end
args_are n [] rest end = refl
args_are n (v ∷ vs) rest end =
    let close = sign places.ArgsClose kinds.CloseParen (codes ")") ∷ rest in
    ap (λ r. codes "(" ++ r) (arg_is n [] v (more_args n vs close) end) ∙ ap (λ r. codes "(" ++ (argument_text n (v.0, type_tree v.1) ++ r)) (more_args_are n vs close end)
    ∙ between (codes "(") (argument_text n (v.0, type_tree v.1)) (led_by (codes ", ") (args n vs)) (codes ")") (text_of rest end)

-- the line of a label, before another line
label_is : (n : Names) (indent : List ℕ) (k : ℕ) (vs : Values) (rest : List PrintedWord) (end next : List ℕ) → text_of rest end ≡ 10 ∷ next → text_of (label_words n indent k vs rest) end ≡ 10 ∷ (label_line n indent k (values_tree vs) ++ next)
label_is n indent k vs rest end next h =
    ap (λ r. 10 ∷ (indent ++ ((codes "^bb" ++ decimal k) ++ r))) (args_are n vs (sign places.BlockColon kinds.Colon (codes ":") ∷ rest) end)
    ∙ ap (λ r. 10 ∷ (indent ++ ((codes "^bb" ++ decimal k) ++ (arguments_text n (values_tree vs) ++ (codes ":" ++ r))))) h
    ∙ ap (λ r. 10 ∷ r) (label_form indent (codes "^bb") (decimal k) (arguments_text n (values_tree vs)) (codes ":\n") next)
  where
    label_form : (i a b c d t : List ℕ) → i ++ ((a ++ b) ++ (c ++ (d ++ t))) ≡ (i ++ a ++ b ++ c ++ d) ++ t
    label_form i a b c d t = simp append_assoc

-- Trees, level by level

abbrev block_of : Names → ℕ → Values → Ops → BlockParts
block_of n label vs ops =
    record { label = label; arguments = values_tree vs; is_empty = has_none (map (op_text n) (op_trees ops)); body = λ indent. flat_map (λ o. o indent) (map (op_text n) (op_trees ops)) }

abbrev parts_of : Names → Blocks → List BlockParts
parts_of n end_of_blocks = []
parts_of n (block label vs ops more) = block_of n label vs ops ∷ parts_of n more

parts_are : (n : Names) (bs : Blocks) → map (block_parts n) (block_trees bs) ≡ parts_of n bs
parts_are n end_of_blocks = refl
parts_are n (block label vs ops more) =
    ap (λ (b : BlockParts). b ∷ map (block_parts n) (block_trees more)) (fold-roll-BlockTree BlockParts (List ℕ → List ℕ) (List ℕ → List ℕ) block_step (op_step n) (region_step n) (record { label = label; args = values_tree vs; ops = op_trees ops }))
    ∙ ap (λ (bs : List BlockParts). block_of n label vs ops ∷ bs) (parts_are n more)

abbrev region_of : Blocks → RegionTree
region_of bs = roll-RegionTree (record { blocks = block_trees bs })

region_is : (n : Names) (bs : Blocks) (indent : List ℕ) → region_text n (region_of bs) indent ≡ codes "{\n" ++ blocks_text n indent (parts_of n bs) ++ indent ++ codes "}"
region_is n bs indent =
    ap (λ f. f indent) (fold-roll-RegionTree BlockParts (List ℕ → List ℕ) (List ℕ → List ℕ) block_step (op_step n) (region_step n) (record { blocks = block_trees bs }))
    ∙ ap (λ (ps : List BlockParts). codes "{\n" ++ blocks_text n indent ps ++ indent ++ codes "}") (parts_are n bs)

abbrev regions_of : Names → List ℕ → Regions → List (List ℕ)
regions_of n indent rs = map (λ r. r indent) (map (region_text n) (region_trees rs))

op_is : (n : Names) (k : Kind) (results : Values) (operands : List ℕ) (regions : Regions) (successors : List ℕ) (indent : List ℕ) → op_text n (op_tree (op k results operands regions successors)) indent
    ≡ indent ++ (results_lead n (values_tree results) ++ string_text k.name ++ operands_text n operands ++ successors_text n successors ++ props_text (entries_tree k.props)) ++ regions_text (regions_of n indent regions)
    ++ (attrs_text (entries_tree k.attrs) ++ codes " : " ++ op_signature n operands (values_tree results) ++ codes "\n")
unfolding head_text tail_text
op_is n k results operands regions successors indent =
    ap (λ f. f indent) (fold-roll-OpTree BlockParts (List ℕ → List ℕ) (List ℕ → List ℕ) block_step (op_step n) (region_step n)
    (record { name = k.name; results = values_tree results; operands = operands; props = entries_tree k.props; attrs = entries_tree k.attrs; regions = region_trees regions; successors = successors }))

shows_is : (n : Names) (label : ℕ) (vs : Values) (ops : Ops) → shows_label n (block_of n label vs ops) ≡ shows n label vs ops
shows_is n label [] end_of_ops = refl
shows_is n label [] (more_ops o os) = refl
shows_is n label (v ∷ vs) end_of_ops = refl
shows_is n label (v ∷ vs) (more_ops o os) = refl

if-text : (b : Bool) (xs ys : List PrintedWord) (end : List ℕ) → text_of (if b then xs else ys) end ≡ (if b then text_of xs end else text_of ys end)
if-text true xs ys end = refl
if-text false xs ys end = refl

-- the first block, with its label or without
first_of : (b c : Bool) (label body from next text other : List ℕ) → c ≡ b → text ≡ 10 ∷ (label ++ (body ++ (from ++ next))) → other ≡ 10 ∷ (body ++ (from ++ next))
    → (if b then text else other) ≡ 10 ∷ (((if c then label ++ body else body) ++ from) ++ next)
first_of true c label body from next text other e h k = rw (e, h) (ap (λ r. 10 ∷ r) (with_label label body from next))
  where
    with_label : (a b c t : List ℕ) → a ++ (b ++ (c ++ t)) ≡ ((a ++ b) ++ c) ++ t
    with_label a b c t = simp append_assoc
first_of false c label body from next text other e h k = rw (e, k) (ap (λ r. 10 ∷ r) (two body from next))

op_form : (i a b c d e r f s g q t : List ℕ) → i ++ (a ++ (b ++ (c ++ (d ++ (e ++ (r ++ (f ++ (s ++ (g ++ (q ++ t)))))))))) ≡ (i ++ (a ++ b ++ c ++ d ++ e) ++ r ++ (f ++ s ++ g ++ q)) ++ t
op_form i a b c d e r f s g q t = simp append_assoc

region_form : (o b i c t : List ℕ) → o ++ (b ++ (i ++ (c ++ t))) ≡ (o ++ b ++ i ++ c) ++ t
region_form o b i c t = simp append_assoc

-- What is known of an operation

pub record Known (n : Names) (k : Kind) (results : Values) (operands : List ℕ) (regions : Regions) (successors : List ℕ) : Type 0 where
  pub name : are_bytes k.name ≡ true
  pub results_named : are_named n results ≡ true
  pub results_formed : are_formed results ≡ true
  pub operands_named : list_all (λ v. is_named (n.name v)) operands ≡ true
  pub operands_typed : list_all (λ v. is_typed (n.type_of v)) operands ≡ true
  pub placed : list_all (λ l. is_placed (n.position l)) successors ≡ true
  pub props : is_readable_dict (dict_in k.props) ≡ true
  pub attrs : is_readable_dict (dict_in k.attrs) ≡ true
  pub regions_known : are_known_regions n regions ≡ true

pub split : (a b : Bool) → (a && b) ≡ true → (a ≡ true) × (b ≡ true)
split a b h = (and-left a b h, and-right a b h)

pub known : (n : Names) (k : Kind) (results : Values) (operands : List ℕ) (regions : Regions) (successors : List ℕ) → is_known_op n (op k results operands regions successors) ≡ true → Known n k results operands regions successors
known n k results operands regions successors h =
    let a = split (are_bytes k.name) _ h in
    let b = split (are_named n results) _ a.1 in
    let c = split (are_formed results) _ b.1 in
    let d = split (list_all (λ v. is_named (n.name v)) operands) _ c.1 in
    let e = split (list_all (λ v. is_typed (n.type_of v)) operands) _ d.1 in
    let f = split (list_all (λ l. is_placed (n.position l)) successors) _ e.1 in
    let g = split (is_readable_dict (dict_in k.props)) _ f.1 in
    let i = split (is_readable_dict (dict_in k.attrs)) _ g.1 in
    record { name = a.0; results_named = b.0; results_formed = c.0; operands_named = d.0; operands_typed = e.0; placed = f.0; props = g.0; attrs = i.0; regions_known = i.1 }

mutual
  pub op_lines : (n : Names) (indent : List ℕ) (o : Op) (rest : List PrintedWord) (end next : List ℕ) → is_known_op n o ≡ true → text_of rest end ≡ 10 ∷ next → text_of (op_words n indent o rest) end ≡ 10 ∷ (op_text n (op_tree o) indent ++ next)
  op_lines n indent (op k results operands regions successors) rest end next h line =
      let is = known n k results operands regions successors h in
      let signature = signature_words n operands results rest in
      let after_regions = attrs_words k.attrs signature in
      let after_props = regions_words n indent regions after_regions in
      let after_successors = props_words k.props after_props in
      let after_operands = successors_words n successors after_successors in
      let a = results_lead n (values_tree results) in
      let b = string_text k.name in
      let c = operands_text n operands in
      let d = successors_text n successors in
      let e = props_text (entries_tree k.props) in
      let r = regions_text (regions_of n indent regions) in
      let f = attrs_text (entries_tree k.attrs) in
      let g = op_signature n operands (values_tree results) in
      lead_is n (10 ∷ indent) results (string_text k.name) (operands_words n operands after_operands) end
      ∙ ap (λ x. 10 ∷ (indent ++ (a ++ (b ++ x)))) (operands_are n operands after_operands end)
      ∙ ap (λ x. 10 ∷ (indent ++ (a ++ (b ++ (c ++ x))))) (successors_are n successors after_successors end)
      ∙ ap (λ x. 10 ∷ (indent ++ (a ++ (b ++ (c ++ (d ++ x)))))) (props_are k.props after_props end)
      ∙ ap (λ x. 10 ∷ (indent ++ (a ++ (b ++ (c ++ (d ++ (e ++ x))))))) (regions_are n indent regions after_regions end is.regions_known)
      ∙ ap (λ x. 10 ∷ (indent ++ (a ++ (b ++ (c ++ (d ++ (e ++ (r ++ x)))))))) (attrs_are k.attrs signature end)
      ∙ ap (λ x. 10 ∷ (indent ++ (a ++ (b ++ (c ++ (d ++ (e ++ (r ++ (f ++ x))))))))) (signature_is n operands results rest end is.operands_typed)
      ∙ ap (λ x. 10 ∷ (indent ++ (a ++ (b ++ (c ++ (d ++ (e ++ (r ++ (f ++ (codes " : " ++ (g ++ x))))))))))) line
      ∙ ap (λ x. 10 ∷ x) (op_form indent a b c d e r f (codes " : ") g (codes "\n") next)
      ∙ ap (λ x. 10 ∷ (x ++ next)) (sym (op_is n k results operands regions successors indent))

  pub ops_lines : (n : Names) (indent : List ℕ) (os : Ops) (rest : List PrintedWord) (end next : List ℕ) → are_known_ops n os ≡ true → text_of rest end ≡ 10 ∷ next
      → text_of (ops_words n indent os rest) end ≡ 10 ∷ (flat_map (λ o. o indent) (map (op_text n) (op_trees os)) ++ next)
  ops_lines n indent end_of_ops rest end next h line = line
  ops_lines n indent (more_ops o os) rest end next h line =
      let more = flat_map (λ o. o indent) (map (op_text n) (op_trees os)) in
      op_lines n indent o (ops_words n indent os rest) end (more ++ next) (and-left _ _ h) (ops_lines n indent os rest end next (and-right (is_known_op n o) _ h) line)
      ∙ ap (λ x. 10 ∷ x) (two (op_text n (op_tree o) indent) more next)

  pub regions_are : (n : Names) (indent : List ℕ) (rs : Regions) (rest : List PrintedWord) (end : List ℕ) → are_known_regions n rs ≡ true → text_of (regions_words n indent rs rest) end ≡ regions_text (regions_of n indent rs) ++ text_of rest end
  regions_are n indent end_of_regions rest end h = refl
  regions_are n indent (region blocks more) rest end h =
      let close = sign places.RegionsClose kinds.CloseParen (codes ")") ∷ rest in
      let others = more_regions n indent more close in
      let text = region_text n (region_of blocks) indent in
      ap (λ x. codes " ({" ++ x) (blocks_lines n indent blocks (close_word indent ∷ others) end (indent ++ (codes "}" ++ text_of others end)) (and-left _ _ h) refl)
      ∙ ap (λ x. codes " (" ++ x) (region_form (codes "{\n") (blocks_text n indent (parts_of n blocks)) indent (codes "}") (text_of others end))
      ∙ ap (λ x. codes " (" ++ (x ++ text_of others end)) (sym (region_is n blocks indent))
      ∙ ap (λ x. codes " (" ++ (text ++ x)) (more_regions_are n indent more close end (and-right (are_known_blocks n 0 blocks) _ h))
      ∙ between (codes " (") text (led_by (codes ", ") (regions_of n indent more)) (codes ")") (text_of rest end)

  pub more_regions_are : (n : Names) (indent : List ℕ) (rs : Regions) (rest : List PrintedWord) (end : List ℕ) → are_known_regions n rs ≡ true → text_of (more_regions n indent rs rest) end ≡ led_by (codes ", ") (regions_of n indent rs) ++ text_of rest end
  more_regions_are n indent end_of_regions rest end h = refl
  more_regions_are n indent (region blocks more) rest end h =
      let others = more_regions n indent more rest in
      let text = region_text n (region_of blocks) indent in
      ap (λ x. codes ", {" ++ x) (blocks_lines n indent blocks (close_word indent ∷ others) end (indent ++ (codes "}" ++ text_of others end)) (and-left _ _ h) refl)
      ∙ ap (λ x. codes ", " ++ x) (region_form (codes "{\n") (blocks_text n indent (parts_of n blocks)) indent (codes "}") (text_of others end))
      ∙ ap (λ x. codes ", " ++ (x ++ text_of others end)) (sym (region_is n blocks indent))
      ∙ ap (λ x. codes ", " ++ (text ++ x)) (more_regions_are n indent more rest end (and-right (are_known_blocks n 0 blocks) _ h))
      ∙ ap (λ x. codes ", " ++ x) (two text (led_by (codes ", ") (regions_of n indent more)) (text_of rest end))

  pub blocks_lines : (n : Names) (indent : List ℕ) (bs : Blocks) (rest : List PrintedWord) (end next : List ℕ) → are_known_blocks n 0 bs ≡ true → text_of rest end ≡ 10 ∷ next
      → text_of (blocks_words n indent bs rest) end ≡ 10 ∷ (blocks_text n indent (parts_of n bs) ++ next)
  blocks_lines n indent end_of_blocks rest end next h line = line
  blocks_lines n indent (block label vs ops more) rest end next h line =
      let inner = indent ++ codes "  " in
      let k = split (list_all (is_known_arg n) vs) _ (and-right (is_small 0) _ h) in
      let l = split (are_known_ops n ops) _ k.1 in
      let from = printed.blocks_from n indent 1 (parts_of n more) in
      let body = flat_map (λ o. o inner) (map (op_text n) (op_trees ops)) in
      let others = blocks_from n indent 1 more rest in
      let lines : text_of (ops_words n inner ops others) end ≡ 10 ∷ (body ++ (from ++ next)) = ops_lines n inner ops others end (from ++ next) l.0 (from_lines n indent 1 more rest end next l.1 line) in
      let labelled : text_of (label_words n indent 0 vs (ops_words n inner ops others)) end ≡ 10 ∷ (label_line n indent 0 (values_tree vs) ++ (body ++ (from ++ next))) = label_is n indent 0 vs (ops_words n inner ops others) end (body ++ (from ++ next)) lines in
      if-text (shows n label vs ops) (label_words n indent 0 vs (ops_words n inner ops others)) (ops_words n inner ops others) end
      ∙ first_of (shows n label vs ops) (shows_label n (block_of n label vs ops)) (label_line n indent 0 (values_tree vs)) body from next _ _ (shows_is n label vs ops) labelled lines

  pub from_lines : (n : Names) (indent : List ℕ) (k : ℕ) (bs : Blocks) (rest : List PrintedWord) (end next : List ℕ) → are_known_blocks n k bs ≡ true → text_of rest end ≡ 10 ∷ next
      → text_of (blocks_from n indent k bs rest) end ≡ 10 ∷ (printed.blocks_from n indent k (parts_of n bs) ++ next)
  from_lines n indent k end_of_blocks rest end next h line = line
  from_lines n indent k (block label vs ops more) rest end next h line =
      let inner = indent ++ codes "  " in
      let m = split (list_all (is_known_arg n) vs) _ (and-right (is_small k) _ h) in
      let l = split (are_known_ops n ops) _ m.1 in
      let from = printed.blocks_from n indent (k + 1) (parts_of n more) in
      let body = flat_map (λ o. o inner) (map (op_text n) (op_trees ops)) in
      let others = blocks_from n indent (k + 1) more rest in
      label_is n indent k vs (ops_words n inner ops others) end (body ++ (from ++ next)) (ops_lines n inner ops others end (from ++ next) l.0 (from_lines n indent (k + 1) more rest end next l.1 line))
      ∙ ap (λ x. 10 ∷ x) (from_form (label_line n indent k (values_tree vs)) body from next)
    where
      from_form : (a b c t : List ℕ) → a ++ (b ++ (c ++ t)) ≡ ((a ++ b) ++ c) ++ t
      from_form a b c t = simp append_assoc
