-- The operations that are read have names of the text, from the right on.
use Rattle.std.proofs.Common.{◌≡◌, ℕ, Bool, true, List, [], ◌∷◌, map, refl, ap, ◌∙◌}
use Rattle.std.specs.List.{list_all}
use Rattle.mlir_lex.proofs.Lengths.{and-both, and-left, and-right}
use Rattle.text_grammar.specs.declared.places.Place.{Place}
use Rattle.text_grammar.specs.declared.places.Place.TheVariants as places
use Rattle.tree_model.specs.declared.op_tree.OpTree.{OpTree}
use Rattle.tree_model.specs.declared.op_tree.BlockTree.{BlockTree}
use Rattle.tree_model.specs.declared.op_tree.RegionTree.{RegionTree}
use Rattle.plain_tree.specs.Ops.{blocks_in, ops_in, plain_op, regions_in}
use Rattle.plain_tree.proofs.OpOpens.{block-roll, plain-roll, plain_block, plain_region, region-roll}
use Rattle.term_table.specs.Terms.{Term}
use Rattle.event_trees.specs.Wording.{Wording}
use Rattle.event_trees.specs.Roles.{Role}
use Rattle.event_trees.specs.Levels.{Level, Levels, Parts, block_labelled, levels_of, op_named, region_blocks, region_opened, with_word}
use Rattle.read_names.specs.Passing.{blocks_pass, op_passes, ops_pass, regions_pass}

-- of each role of an operation's name
abbrev pub OfRoles : (ℕ → Type 0) → List Role → Type 0
OfRoles Q [] = Unit {0}
OfRoles Q (r ∷ rs) = (r.place ≡ places.OpName → Q r.name) × OfRoles Q rs

module _ (test : List ℕ → Bool) where
  abbrev pub op_fine : OpTree → Bool
  op_fine o = op_passes test (plain_op o)

  abbrev pub block_fine : BlockTree → Bool
  block_fine b = ops_pass test (plain_block b).ops

  abbrev pub region_fine : RegionTree → Bool
  region_fine r = blocks_pass test (plain_region r)

  ops_fine : (os : List OpTree) → list_all op_fine os ≡ true → ops_pass test (ops_in (map plain_op os)) ≡ true
  ops_fine [] h = refl
  ops_fine (o ∷ os) h = and-both _ _ (and-left _ _ h) (ops_fine os (and-right (op_fine o) _ h))

  blocks_fine : (bs : List BlockTree) → list_all block_fine bs ≡ true → blocks_pass test (blocks_in (map plain_block bs)) ≡ true
  blocks_fine [] h = refl
  blocks_fine (b ∷ bs) h = and-both _ _ (and-left _ _ h) (blocks_fine bs (and-right (block_fine b) _ h))

  regions_fine : (rs : List RegionTree) → list_all region_fine rs ≡ true → regions_pass test (regions_in (map plain_region rs)) ≡ true
  regions_fine [] h = refl
  regions_fine (r ∷ rs) h = and-both _ _ (and-left _ _ h) (regions_fine rs (and-right (region_fine r) _ h))

  pub record Fine (l : Level) : Type 0 where
    pub ops : list_all op_fine l.ops ≡ true
    pub blocks : list_all block_fine l.blocks ≡ true
    pub regions : list_all region_fine l.parts.regions ≡ true

  abbrev pub AllFine : Levels → Type 0
  AllFine [] = Unit {0}
  AllFine (l ∷ ls) = Fine l × AllFine ls

  named_fine : (words : Wording) (name number : ℕ) (p : Parts) → test (words.spelled name) ≡ true → list_all region_fine p.regions ≡ true → op_fine (op_named words name number p) ≡ true
  named_fine words name number p k h = ap (op_passes test) (plain-roll _) ∙ and-both _ _ k (regions_fine p.regions h)

  labelled_fine : (label : ℕ) (l : Level) → list_all op_fine l.ops ≡ true → block_fine (block_labelled label l) ≡ true
  labelled_fine label l h = ap (λ b. ops_pass test b.ops) (block-roll _) ∙ ops_fine l.ops h

  first_fine : (label : ℕ) (os : List OpTree) (bs : List BlockTree) → list_all op_fine os ≡ true → list_all block_fine bs ≡ true → list_all block_fine (region_blocks label os bs) ≡ true
  first_fine label [] bs h k = k
  first_fine label (o ∷ os) bs h k = and-both _ _ (ap (λ b. ops_pass test b.ops) (block-roll _) ∙ ops_fine (o ∷ os) h) k

  opened_fine : (label : ℕ) (l : Level) → Fine l → region_fine (region_opened label l) ≡ true
  opened_fine label l f = ap (blocks_pass test) (region-roll _) ∙ blocks_fine (region_blocks label l.ops l.blocks) (first_fine label l.ops l.blocks f.ops f.blocks)

  word_fine : (words : Wording) (place : Place) (name number : ℕ) (term : Term) (ls : Levels) → (place ≡ places.OpName → test (words.spelled name) ≡ true) → AllFine ls → AllFine (with_word words (record { place = place; name = name; number = number; term = term }) ls)
  word_fine words places.RegionClose name number term ls t f = (record { ops = refl; blocks = refl; regions = refl }, f)
  word_fine words places.RegionOpen name number term [] t f = f
  word_fine words places.RegionOpen name number term (l ∷ []) t f = f
  word_fine words places.RegionOpen name number term (inner ∷ outer ∷ ls) t f =
      (record { ops = f.1.0.ops; blocks = f.1.0.blocks; regions = and-both _ _ (opened_fine number inner f.0) f.1.0.regions }, f.1.1)
  word_fine words places.OpName name number term [] t f = f
  word_fine words places.OpName name number term (l ∷ ls) t f = (record { ops = and-both _ _ (named_fine words name number l.parts (t refl) f.0.regions) f.0.ops; blocks = f.0.blocks; regions = refl }, f.1)
  word_fine words places.BlockLabel name number term [] t f = f
  word_fine words places.BlockLabel name number term (l ∷ ls) t f = (record { ops = refl; blocks = and-both _ _ (labelled_fine number l f.0.ops) f.0.blocks; regions = f.0.regions }, f.1)
  word_fine words _ name number term [] t f = f
  word_fine words _ name number term (l ∷ ls) t f = (record { ops = f.0.ops; blocks = f.0.blocks; regions = f.0.regions }, f.1)

  pub levels_fine : (words : Wording) (rs : List Role) → OfRoles (λ name. test (words.spelled name) ≡ true) rs → AllFine (levels_of words rs)
  levels_fine words [] t = (record { ops = refl; blocks = refl; regions = refl }, tt)
  levels_fine words (r ∷ rs) t = word_fine words r.place r.name r.number r.term (levels_of words rs) t.0 (levels_fine words rs t.1)
