-- Texts of functions that are the same but for numbers.
use Rattle.std.proofs.Common.{◌≡◌, ℕ, ◌+◌, Bool, true, false, List, [], ◌∷◌, ◌++◌, length, map, refl, sym, ap, subst, ◌∙◌}
use Rattle.std.specs.Prelude.{not, ◌||◌, codes, decimal, flat_map, if◌then◌else◌}
use Rattle.std.proofs.lemmas.Bool.{false≢true}
use Rattle.tree_text.specs.Joined.{joined}
use Rattle.tree_text.specs.NameText.{string_text}
use Rattle.tree_text.specs.TypeText.{Printed, printed, signature_text, type_text}
use Rattle.tree_model.specs.declared.type_tree.TypeTree.{TypeTree}
use Rattle.tree_model.specs.declared.op_tree.OpTree.{OpTree}
use Rattle.tree_model.specs.declared.op_tree.BlockTree.{BlockTree, roll-BlockTree}
use Rattle.tree_model.specs.declared.op_tree.RegionTree.{roll-RegionTree}
use Rattle.tree_model.specs.declared.op_tree.FuncTree.{FuncTree}
use Rattle.tree_model.specs.declared.op_tree.BlockTree.TheOpen.{OpTree-F}
use Rattle.tree_model.specs.declared.op_tree.BlockTree.TheFolds.{fold-roll-OpTree, fold-roll-BlockTree, fold-roll-RegionTree}
use Rattle.plain_tree.specs.Attrs.{entries_tree}
use Rattle.plain_tree.specs.Ops.{Kind, Op, op, Ops, Regions, Blocks, Values, block_trees, op_tree, op_trees, plain_func, plain_op, region_trees, values_tree}
use Rattle.plain_tree.specs.Renamings.{OneToOne, RenAll, none_all, more_all, RenValues, RenOp, ren_op, RenOps, ops_ended, ren_more, RenRegions, regions_ended, ren_region, RenBlocks, blocks_ended, ren_block}
use Rattle.plain_tree.proofs.OpTrip.{op_trip}
use Rattle.text_model.specs.PrintedPlaces.{places_of_op}
use Rattle.text_model.specs.PrintedNames.{Names, names_along, names_of}
use Rattle.text_model.specs.PrintedOps.{BlockParts, argument_text, arguments_text, attrs_text, block_parts, block_step, block_text, blocks_from, blocks_text, first_block, found_label, found_name, found_number, found_type, has_none, head_text, label_line, op_signature, op_step, op_text, operands_text, props_text, region_step, region_text, regions_text, results_lead, shows_label, successors_text, tail_text}
use Rattle.text_model.specs.Printed.{func_text}
use Rattle.printed_renames.proofs.Places.{TreeValues, none_tree, more_tree, places_ren, tree_values}
use Rattle.printed_renames.proofs.Named.{NamesAgree, lengths_same, names_agree}

-- Parts of an operation's text

lead_same : {R L : ℕ → ℕ → Type 0} {n m : Names} {vs ws : List (ℕ × TypeTree)} → NamesAgree R L n m → TreeValues R vs ws → results_lead n vs ≡ results_lead m ws
lead_same a none_tree = refl
lead_same a (more_tree {m = v} {n = w} e none_tree) = ap (λ o. found_name o ++ codes " = ") (a.name v w e)
lead_same {m = m} a (more_tree {m = v} {n = w} {t = t} e (more_tree {m = x} {n = y} {t = u} {vs = vs} {ws = ws} d rest)) =
    ap (λ o. found_number o ++ codes ":" ++ decimal (length ((v, t) ∷ (x, u) ∷ vs)) ++ codes " = ") (a.name v w e)
    ∙ ap (λ k. found_number (m.name w) ++ codes ":" ++ decimal k ++ codes " = ") (lengths_same (more_tree {t = t} e (more_tree {t = u} d rest)))

names_same : {R L : ℕ → ℕ → Type 0} {n m : Names} {os ps : List ℕ} → NamesAgree R L n m → RenAll R os ps → map (λ v. found_name (n.name v)) os ≡ map (λ v. found_name (m.name v)) ps
names_same a none_all = refl
names_same {n = n} {m = m} a (more_all {m = v} {n = w} {ms = vs} {ns = ws} e rest) = ap (λ o. found_name o ∷ map (λ x. found_name (n.name x)) vs) (a.name v w e) ∙ ap (λ xs. found_name (m.name w) ∷ xs) (names_same a rest)

types_same : {R L : ℕ → ℕ → Type 0} {n m : Names} {os ps : List ℕ} → NamesAgree R L n m → RenAll R os ps → map (λ v. found_type (n.type_of v)) os ≡ map (λ v. found_type (m.type_of v)) ps
types_same a none_all = refl
types_same {n = n} {m = m} a (more_all {m = v} {n = w} {ms = vs} {ns = ws} e rest) = ap (λ o. found_type o ∷ map (λ x. found_type (n.type_of x)) vs) (a.type_of v w e) ∙ ap (λ xs. found_type (m.type_of w) ∷ xs) (types_same a rest)

labels_same : {R L : ℕ → ℕ → Type 0} {n m : Names} {ls ms : List ℕ} → NamesAgree R L n m → RenAll L ls ms → map (λ l. found_label (n.position l)) ls ≡ map (λ l. found_label (m.position l)) ms
labels_same a none_all = refl
labels_same {n = n} {m = m} a (more_all {m = v} {n = w} {ms = vs} {ns = ws} e rest) = ap (λ o. found_label o ∷ map (λ x. found_label (n.position x)) vs) (a.position v w e) ∙ ap (λ xs. found_label (m.position w) ∷ xs) (labels_same a rest)

successors_same : {R L : ℕ → ℕ → Type 0} {n m : Names} {ls ms : List ℕ} → NamesAgree R L n m → RenAll L ls ms → successors_text n ls ≡ successors_text m ms
successors_same a none_all = refl
successors_same a (more_all e rest) = ap (λ xs. codes "[" ++ joined (codes ", ") xs ++ codes "]") (labels_same a (more_all e rest))

printed_same : {R : ℕ → ℕ → Type 0} {vs ws : List (ℕ × TypeTree)} → TreeValues R vs ws → map (λ (r : ℕ × TypeTree). printed r.1) vs ≡ map (λ (r : ℕ × TypeTree). printed r.1) ws
printed_same none_tree = refl
printed_same (more_tree {t = t} e rest) = ap (λ xs. printed t ∷ xs) (printed_same rest)

signature_same : {R L : ℕ → ℕ → Type 0} {n m : Names} {os ps : List ℕ} {vs ws : List (ℕ × TypeTree)} → NamesAgree R L n m → RenAll R os ps → TreeValues R vs ws → op_signature n os vs ≡ op_signature m ps ws
signature_same {n = n} {m = m} {os = os} {ps = ps} {vs = vs} {ws = ws} a operands results =
    ap (λ ts. signature_text ts (map (λ (r : ℕ × TypeTree). printed r.1) vs)) (types_same a operands) ∙ ap (λ ts. signature_text (map (λ v. found_type (m.type_of v)) ps) ts) (printed_same results)

-- Operations with the texts of their regions

abbrev opened : {A B C : Type 0} → Kind → Values → List ℕ → List C → List ℕ → OpTree-F A B C
opened k results operands regions successors = record {
  name = k.name;
  results = values_tree results;
  operands = operands;
  props = entries_tree k.props;
  attrs = entries_tree k.attrs;
  regions = regions;
  successors = successors;
}

abbrev Text : Type 0
Text = List ℕ → List ℕ

abbrev plain_step : Names → Kind → Values → List ℕ → List Text → List ℕ → List ℕ → List ℕ
plain_step n k results operands regions successors indent = op_step n (opened k results operands regions successors) indent

abbrev laid : List ℕ → List ℕ → List ℕ → List ℕ → List ℕ → List ℕ → List ℕ → List ℕ → List ℕ → List ℕ
laid indent lead name uses ends props inner attrs signs = indent ++ (lead ++ name ++ uses ++ ends ++ props) ++ inner ++ (attrs ++ codes " : " ++ signs ++ codes "\n")

laid_same : {lead lead' uses uses' ends ends' inner inner' signs signs' : List ℕ} (indent name props attrs : List ℕ) → lead ≡ lead' → uses ≡ uses' → ends ≡ ends' → inner ≡ inner' → signs ≡ signs'
    → laid indent lead name uses ends props inner attrs signs ≡ laid indent lead' name uses' ends' props inner' attrs signs'
laid_same {lead} {lead'} {uses} {uses'} {ends} {ends'} {inner} {inner'} {signs} {signs'} indent name props attrs a b c d e =
    ap (λ x. laid indent x name uses ends props inner attrs signs) a ∙ ap (λ x. laid indent lead' name x ends props inner attrs signs) b ∙ ap (λ x. laid indent lead' name uses' x props inner attrs signs) c
    ∙ ap (λ x. laid indent lead' name uses' ends' props x attrs signs) d ∙ ap (λ x. laid indent lead' name uses' ends' props inner' attrs x) e

uses_same : {R L : ℕ → ℕ → Type 0} {n m : Names} {os ps : List ℕ} → NamesAgree R L n m → RenAll R os ps → operands_text n os ≡ operands_text m ps
uses_same a operands = ap (λ xs. codes "(" ++ joined (codes ", ") xs ++ codes ")") (names_same a operands)

step_same : {R L : ℕ → ℕ → Type 0} {n m : Names} {vs ws : Values} {os ps ls ms : List ℕ} (k : Kind) (rs ss : List Text) (indent : List ℕ) → NamesAgree R L n m → RenValues R vs ws → RenAll R os ps → RenAll L ls ms
    → map (λ r. r indent) rs ≡ map (λ r. r indent) ss → plain_step n k vs os rs ls indent ≡ plain_step m k ws ps ss ms indent
unfolding head_text tail_text
step_same k rs ss indent a results operands successors regions =
    laid_same indent (string_text k.name) (props_text (entries_tree k.props)) (attrs_text (entries_tree k.attrs)) (lead_same a (tree_values results)) (uses_same a operands) (successors_same a successors)
    (ap regions_text regions) (signature_same a operands (tree_values results))

-- Blocks

record PartsAgree (R L : ℕ → ℕ → Type 0) (b c : BlockParts) : Type 0 where
  label : L b.label c.label
  arguments : TreeValues R b.arguments c.arguments
  is_empty : b.is_empty ≡ c.is_empty
  body : (indent : List ℕ) → b.body indent ≡ c.body indent

data AllParts (R L : ℕ → ℕ → Type 0) : List BlockParts → List BlockParts → Type 0 where
  no_parts : AllParts R L [] []
  more_parts : {b c : BlockParts} {bs cs : List BlockParts} → PartsAgree R L b c → AllParts R L bs cs → AllParts R L (b ∷ bs) (c ∷ cs)

texts_same : {R L : ℕ → ℕ → Type 0} {n m : Names} {vs ws : List (ℕ × TypeTree)} → NamesAgree R L n m → TreeValues R vs ws → map (argument_text n) vs ≡ map (argument_text m) ws
texts_same a none_tree = refl
texts_same {n = n} {m = m} a (more_tree {m = v} {n = w} {t = t} {vs = vs} {ws = ws} e rest) =
    ap (λ o. (found_name o ++ codes ": " ++ type_text t) ∷ map (argument_text n) vs) (a.name v w e) ∙ ap (λ xs. argument_text m (w, t) ∷ xs) (texts_same a rest)

arguments_same : {R L : ℕ → ℕ → Type 0} {n m : Names} {vs ws : List (ℕ × TypeTree)} → NamesAgree R L n m → TreeValues R vs ws → arguments_text n vs ≡ arguments_text m ws
arguments_same a none_tree = refl
arguments_same a (more_tree e rest) = ap (λ xs. codes "(" ++ joined (codes ", ") xs ++ codes ")") (texts_same a (more_tree e rest))

has_none_same : {R : ℕ → ℕ → Type 0} {vs ws : List (ℕ × TypeTree)} → TreeValues R vs ws → has_none vs ≡ has_none ws
has_none_same none_tree = refl
has_none_same (more_tree e rest) = refl

shows_same : {R L : ℕ → ℕ → Type 0} {n m : Names} {b c : BlockParts} → NamesAgree R L n m → PartsAgree R L b c → shows_label n b ≡ shows_label m c
shows_same {n = n} {m = m} {b = b} {c = c} a p =
    ap (λ x. not x || b.is_empty || n.is_target b.label) (has_none_same p.arguments) ∙ ap (λ x. not (has_none c.arguments) || x || n.is_target b.label) p.is_empty
    ∙ ap (λ x. not (has_none c.arguments) || c.is_empty || x) (a.is_target b.label c.label p.label)

block_same : {R L : ℕ → ℕ → Type 0} {n m : Names} {b c : BlockParts} (indent : List ℕ) (k : ℕ) → NamesAgree R L n m → PartsAgree R L b c → block_text n indent k b ≡ block_text m indent k c
block_same {n = n} {m = m} {b = b} {c = c} indent k a p =
    ap (λ x. (indent ++ codes "^bb" ++ decimal k ++ x ++ codes ":\n") ++ b.body (indent ++ codes "  ")) (arguments_same a p.arguments)
    ∙ ap (λ x. label_line m indent k c.arguments ++ x) (p.body (indent ++ codes "  "))

from_same : {R L : ℕ → ℕ → Type 0} {n m : Names} {bs cs : List BlockParts} (indent : List ℕ) (k : ℕ) → NamesAgree R L n m → AllParts R L bs cs → blocks_from n indent k bs ≡ blocks_from m indent k cs
from_same indent k a no_parts = refl
from_same {n = n} {m = m} indent k a (more_parts {b} {c} {bs} {cs} p rest) =
    ap (λ x. x ++ blocks_from n indent (k + 1) bs) (block_same indent k a p) ∙ ap (λ x. block_text m indent k c ++ x) (from_same indent (k + 1) a rest)

first_by : (s t : Bool) (x y u v : List ℕ) → s ≡ t → x ≡ y → u ≡ v → (if s then x else u) ≡ (if t then y else v)
first_by true true x y u v e d f = d
first_by true false x y u v e d f = absurd (false≢true (sym e))
first_by false true x y u v e d f = absurd (false≢true e)
first_by false false x y u v e d f = f

blocks_same : {R L : ℕ → ℕ → Type 0} {n m : Names} {bs cs : List BlockParts} (indent : List ℕ) → NamesAgree R L n m → AllParts R L bs cs → blocks_text n indent bs ≡ blocks_text m indent cs
blocks_same indent a no_parts = refl
blocks_same {n = n} {m = m} indent a (more_parts {b} {c} {bs} {cs} p rest) =
    ap (λ x. x ++ blocks_from n indent 1 bs)
    (first_by (shows_label n b) (shows_label m c) (block_text n indent 0 b) (block_text m indent 0 c) (b.body (indent ++ codes "  ")) (c.body (indent ++ codes "  ")) (shows_same a p) (block_same indent 0 a p) (p.body (indent ++ codes "  ")))
    ∙ ap (λ x. first_block m indent c ++ x) (from_same indent 1 a rest)

-- Trees

op_is : (n : Names) (k : Kind) (results : Values) (operands : List ℕ) (regions : Regions) (successors : List ℕ)
    → op_text n (op_tree (op k results operands regions successors)) ≡ plain_step n k results operands (map (region_text n) (region_trees regions)) successors
op_is n k results operands regions successors = fold-roll-OpTree BlockParts Text Text block_step (op_step n) (region_step n) (opened k results operands (region_trees regions) successors)

region_is : (n : Names) (bs : Blocks) → region_text n (roll-RegionTree (record { blocks = block_trees bs })) ≡ region_step n (record { blocks = map (block_parts n) (block_trees bs) })
region_is n bs = fold-roll-RegionTree BlockParts Text Text block_step (op_step n) (region_step n) (record { blocks = block_trees bs })

block_is : (n : Names) (label : ℕ) (args : Values) (ops : Ops) → block_parts n (roll-BlockTree (record { label = label; args = values_tree args; ops = op_trees ops }))
    ≡ record { label = label; arguments = values_tree args; is_empty = has_none (map (op_text n) (op_trees ops)); body = λ indent. flat_map (λ o. o indent) (map (op_text n) (op_trees ops)) }
block_is n label args ops = fold-roll-BlockTree BlockParts Text Text block_step (op_step n) (region_step n) (record { label = label; args = values_tree args; ops = op_trees ops })

parts_moved : {R L : ℕ → ℕ → Type 0} {b c d e : BlockParts} → b ≡ c → d ≡ e → PartsAgree R L c e → PartsAgree R L b d
parts_moved {R} {L} {b} {c} {d} {e} x y p = subst (λ z. PartsAgree R L z d) (sym x) (subst (λ z. PartsAgree R L c z) (sym y) p)

no_ops_same : {R L : ℕ → ℕ → Type 0} {os ps : Ops} (n m : Names) → RenOps R L os ps → has_none (map (op_text n) (op_trees os)) ≡ has_none (map (op_text m) (op_trees ps))
no_ops_same n m ops_ended = refl
no_ops_same n m (ren_more o os) = refl

mutual
  op_same : {R L : ℕ → ℕ → Type 0} {n m : Names} {o p : Op} → NamesAgree R L n m → RenOp R L o p → (indent : List ℕ) → op_text n (op_tree o) indent ≡ op_text m (op_tree p) indent
  op_same {n = n} {m = m} a (ren_op {k = k} {rs = rs} {ss = ss} {os = os} {ps = ps} {r = r} {s = s} {ls = ls} {ms = ms} results operands regions successors) indent =
      ap (λ (f : Text). f indent) (op_is n k rs os r ls)
      ∙ step_same k (map (region_text n) (region_trees r)) (map (region_text m) (region_trees s)) indent a results operands successors (regions_same a regions indent)
      ∙ sym (ap (λ (f : Text). f indent) (op_is m k ss ps s ms))

  ops_same : {R L : ℕ → ℕ → Type 0} {n m : Names} {os ps : Ops} → NamesAgree R L n m → RenOps R L os ps → (indent : List ℕ)
      → flat_map (λ (o : Text). o indent) (map (op_text n) (op_trees os)) ≡ flat_map (λ (o : Text). o indent) (map (op_text m) (op_trees ps))
  ops_same a ops_ended indent = refl
  ops_same {n = n} {m = m} a (ren_more {o} {p} {os} {ps} one rest) indent =
      ap (λ x. x ++ flat_map (λ (o : Text). o indent) (map (op_text n) (op_trees os))) (op_same a one indent) ∙ ap (λ x. op_text m (op_tree p) indent ++ x) (ops_same a rest indent)

  regions_same : {R L : ℕ → ℕ → Type 0} {n m : Names} {r s : Regions} → NamesAgree R L n m → RenRegions R L r s → (indent : List ℕ)
      → map (λ (t : Text). t indent) (map (region_text n) (region_trees r)) ≡ map (λ (t : Text). t indent) (map (region_text m) (region_trees s))
  regions_same a regions_ended indent = refl
  regions_same {n = n} {m = m} a (ren_region {b} {c} {r} {s} blocks more) indent =
      ap (λ (t : Text). t indent ∷ map (λ (t : Text). t indent) (map (region_text n) (region_trees r))) (region_is n b)
      ∙ ap (λ x. (codes "{\n" ++ x ++ indent ++ codes "}") ∷ map (λ (t : Text). t indent) (map (region_text n) (region_trees r))) (blocks_same indent a (parts_same a blocks))
      ∙ ap (λ (t : Text). t indent ∷ map (λ (t : Text). t indent) (map (region_text n) (region_trees r))) (sym (region_is m c))
      ∙ ap (λ xs. region_text m (roll-RegionTree (record { blocks = block_trees c })) indent ∷ xs) (regions_same a more indent)

  parts_same : {R L : ℕ → ℕ → Type 0} {n m : Names} {b c : Blocks} → NamesAgree R L n m → RenBlocks R L b c → AllParts R L (map (block_parts n) (block_trees b)) (map (block_parts m) (block_trees c))
  parts_same a blocks_ended = no_parts
  parts_same {n = n} {m = m} a (ren_block {l = l} {m = h} {vs = vs} {ws = ws} {os = os} {ps = ps} {b = b} {c = c} e args ops more) =
      more_parts
      (parts_moved (block_is n l vs os) (block_is m h ws ps)
      (record { label = e; arguments = tree_values args; is_empty = no_ops_same n m ops; body = λ indent. ops_same a ops indent }))
      (parts_same a more)

-- Functions

plain_same : {R L : ℕ → ℕ → Type 0} {f g : Op} → OneToOne R → OneToOne L → RenOp R L f g → func_text (record { op = op_tree f }) ≡ func_text (record { op = op_tree g })
plain_same one labels r = op_same (names_agree one labels (places_ren r)) r (codes "  ")

pub func_same : {R L : ℕ → ℕ → Type 0} (f g : FuncTree) → OneToOne R → OneToOne L → RenOp R L (plain_func f) (plain_func g) → func_text f ≡ func_text g
func_same f g one labels r =
    ap (λ (o : OpTree). func_text (record { op = o })) (sym (op_trip f.op)) ∙ plain_same one labels r ∙ ap (λ (o : OpTree). func_text (record { op = o })) (op_trip g.op)
