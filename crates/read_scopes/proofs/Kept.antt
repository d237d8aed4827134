-- When what is behind a word has its successors in scope, and what each word makes of it.
use Rattle.std.proofs.Common.{◌≡◌, ℕ, ◌==◌, ◌&&◌, ◌||◌, Bool, true, false, List, [], ◌∷◌, refl, ap, ◌∙◌, true≢false}
use Rattle.std.specs.List.{list_all}
use Rattle.mlir_lex.proofs.Lengths.{and-both, eqb-refl}
use Rattle.text_grammar.specs.declared.places.Place.{Place}
use Rattle.text_grammar.specs.declared.places.Place.TheVariants as places
use Rattle.tree_model.specs.declared.type_tree.TypeTree.{TypeTree}
use Rattle.tree_model.specs.declared.op_tree.OpTree.{OpTree}
use Rattle.tree_model.specs.declared.op_tree.BlockTree.{BlockTree}
use Rattle.plain_tree.specs.Ops.{Blocks, PlainBlock, block, plain_op}
use Rattle.plain_tree.proofs.OpOpens.{block-roll, plain_block, region-roll}
use Rattle.term_table.specs.Terms.{Term}
use Rattle.event_trees.specs.Wording.{Wording}
use Rattle.event_trees.specs.Levels.{Level, Levels, block_labelled, op_named, region_blocks, region_opened, with_block, with_op, with_region, with_word}
use Rattle.read_states.specs.Levels.{args_in, below, blocks_in, first, ops_in, regions_in}
use Rattle.read_numbers.proofs.Fitting.{blocks_of, ops_of, regions_of}
use Rattle.read_numbers.proofs.Numbers.{op_plain}
use Rattle.scoped_trees.specs.Scoped.{are_scoped, are_scoped_blocks, are_scoped_regions, blocks_have, is_scoped}

-- every value is known
abbrev pub all_known : ℕ → Bool
all_known v = true

abbrev pub targets_in : Levels → List ℕ
targets_in k = (first k).parts.successors

pub record Scopes (labels : ℕ → Bool) (k : Levels) : Type 0 where
  pub targets : list_all labels (targets_in k) ≡ true
  pub regions : are_scoped_regions all_known (regions_of (regions_in k)) ≡ true
  pub ops : are_scoped all_known labels (ops_of (ops_in k)) ≡ true
  pub blocks : are_scoped_blocks all_known labels (blocks_of (blocks_in k)) ≡ true

-- words that add to what is behind them, but for a successor
abbrev pub is_adding : Place → Bool
is_adding places.OpName = true
is_adding places.ArgName = true
is_adding places.BlockLabel = true
is_adding places.RegionOpen = true
is_adding places.RegionClose = true
is_adding _ = false

pub word_scopes : (words : Wording) (labels : ℕ → Bool) (p : Place) (name number : ℕ) (term : Term) (k : Levels) → is_adding p ≡ false → (p ≡ places.SuccessorName → labels number ≡ true) → Scopes labels k
    → Scopes labels (with_word words (record { place = p; name = name; number = number; term = term }) k)
word_scopes words labels places.OpName name number term k h f s = absurd (true≢false h)
word_scopes words labels places.ArgName name number term k h f s = absurd (true≢false h)
word_scopes words labels places.BlockLabel name number term k h f s = absurd (true≢false h)
word_scopes words labels places.RegionOpen name number term k h f s = absurd (true≢false h)
word_scopes words labels places.RegionClose name number term k h f s = absurd (true≢false h)
word_scopes words labels places.SuccessorName name number term [] h f s = s
word_scopes words labels places.SuccessorName name number term (l ∷ ls) h f s = record { targets = and-both _ _ (f refl) s.targets; regions = s.regions; ops = s.ops; blocks = s.blocks }
word_scopes words labels _ name number term [] h f s = s
word_scopes words labels _ name number term (l ∷ ls) h f s = record { targets = s.targets; regions = s.regions; ops = s.ops; blocks = s.blocks }

all_are_known : (vs : List ℕ) → list_all all_known vs ≡ true
all_are_known [] = refl
all_are_known (v ∷ vs) = all_are_known vs

-- an operation with these parts
pub op_scoped : (words : Wording) (labels : ℕ → Bool) (called number : ℕ) (k : Levels) → Scopes labels k → is_scoped all_known labels (plain_op (op_named words called number (first k).parts)) ≡ true
op_scoped words labels called number k s =
    ap (is_scoped all_known labels) (op_plain words called number (first k).parts)
    ∙ and-both _ _ (all_are_known (first k).parts.operands) (and-both _ _ s.targets s.regions)

pub op_scopes : (words : Wording) (labels : ℕ → Bool) (called number : ℕ) (k : Levels) → Scopes labels k → Scopes labels (with_op words called number (first k) ∷ below k)
op_scopes words labels called number k s = record {
  targets = refl;
  regions = refl;
  ops = and-both _ _ (op_scoped words labels called number k s) s.ops;
  blocks = s.blocks;
}

pub arg_scopes : (labels : ℕ → Bool) (a : ℕ × TypeTree) (k : Levels) → Scopes labels k → Scopes labels (record (first k) { args = a ∷ args_in k } ∷ below k)
arg_scopes labels a k s = record { targets = s.targets; regions = s.regions; ops = s.ops; blocks = s.blocks }

pub label_scopes : (labels : ℕ → Bool) (label : ℕ) (k : Levels) → Scopes labels k → Scopes labels (with_block label (first k) ∷ below k)
label_scopes labels label k s = record {
  targets = s.targets;
  regions = s.regions;
  ops = refl;
  blocks = ap (λ (b : PlainBlock). are_scoped_blocks all_known labels (block b.label b.args b.ops (blocks_of (blocks_in k)))) (block-roll _) ∙ and-both _ _ s.ops s.blocks;
}

-- the blocks of a region that begins here
abbrev pub blocks_here : ℕ → Levels → Blocks
blocks_here label k = blocks_of (region_blocks label (ops_in k) (blocks_in k))

first_blocks : (label : ℕ) (labels : ℕ → Bool) (os : List OpTree) (bs : List BlockTree) → are_scoped all_known labels (ops_of os) ≡ true → are_scoped_blocks all_known labels (blocks_of bs) ≡ true
    → are_scoped_blocks all_known labels (blocks_of (region_blocks label os bs)) ≡ true
first_blocks label labels [] bs f g = g
first_blocks label labels (o ∷ os) bs f g = ap (λ (b : PlainBlock). are_scoped_blocks all_known labels (block b.label b.args b.ops (blocks_of bs))) (block-roll _) ∙ and-both _ _ f g

pub open_scopes : (labels : ℕ → Bool) (label : ℕ) (k m : Levels) → Scopes (λ l. blocks_have l (blocks_here label k)) k → Scopes labels m → Scopes labels (with_region (region_opened label (first k)) (first m) ∷ below m)
open_scopes labels label k m inner s = record {
  targets = s.targets;
  regions = ap (λ B. are_scoped_blocks all_known (λ l. blocks_have l B) B && are_scoped_regions all_known (regions_of (regions_in m))) (region-roll _)
      ∙ and-both _ _ (first_blocks label (λ l. blocks_have l (blocks_here label k)) (ops_in k) (blocks_in k) inner.ops inner.blocks) s.regions;
  ops = s.ops;
  blocks = s.blocks;
}

-- the labels of a region

or_right : (a b : Bool) → b ≡ true → (a || b) ≡ true
or_right true b h = refl
or_right false b h = h

pub label_later : (l : ℕ) (b : BlockTree) (bs : List BlockTree) → blocks_have l (blocks_of bs) ≡ true → blocks_have l (blocks_of (b ∷ bs)) ≡ true
label_later l b bs h = or_right ((plain_block b).label == l) _ h

pub labels_begun : (label l : ℕ) (os : List OpTree) (bs : List BlockTree) → blocks_have l (blocks_of bs) ≡ true → blocks_have l (blocks_of (region_blocks label os bs)) ≡ true
labels_begun label l [] bs h = h
labels_begun label l (o ∷ os) bs h = label_later l _ bs h

pub label_first : (label : ℕ) (l : Level) (bs : List BlockTree) → blocks_have label (blocks_of (block_labelled label l ∷ bs)) ≡ true
label_first label l bs = ap (λ (b : PlainBlock). (b.label == label) || blocks_have label (blocks_of bs)) (block-roll _) ∙ ap (λ t. t || blocks_have label (blocks_of bs)) (eqb-refl label)
