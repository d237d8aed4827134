-- Operations that are read have formed types and numbers that fit, from the right on.
use Rattle.std.proofs.Common.{◌≡◌, ℕ, ◌&&◌, Bool, true, List, [], ◌∷◌, map, refl, ap, ◌∙◌}
use Rattle.std.specs.List.{list_all}
use Rattle.mlir_lex.proofs.Lengths.{and-both, and-left, and-right}
use Rattle.text_grammar.specs.declared.places.Place.{Place}
use Rattle.text_grammar.specs.declared.places.Place.TheVariants as places
use Rattle.tree_model.specs.declared.op_tree.OpTree.{OpTree}
use Rattle.tree_model.specs.declared.op_tree.BlockTree.{BlockTree}
use Rattle.tree_model.specs.declared.op_tree.RegionTree.{RegionTree}
use Rattle.plain_tree.specs.Ops.{blocks_in, ops_in, plain_op, plain_values, regions_in}
use Rattle.plain_tree.proofs.OpOpens.{block-roll, plain-roll, plain_block, plain_region, region-roll}
use Rattle.rule_model.specs.Formed.{are_formed_values}
use Rattle.term_table.specs.Terms.{Term}
use Rattle.event_trees.specs.Wording.{Wording}
use Rattle.event_trees.specs.Roles.{Role}
use Rattle.event_trees.specs.Levels.{Level, Levels, Parts, block_labelled, levels_of, op_named, region_blocks, region_opened, with_word}
use Rattle.read_terms.specs.Standing.{blocks_stand, op_stands, ops_stand, regions_stand}
use Rattle.read_terms.specs.Fitting.{is_fit_here}
use Rattle.read_terms.proofs.Terms.{fine}
use Rattle.read_terms.proofs.Spans.{is_telling}
use Rattle.read_terms.proofs.Attrs.{arg_fit, here_fit}

abbrev pub op_fine : OpTree → Bool
op_fine o = op_stands is_fit_here are_formed_values (plain_op o)

abbrev block_fine : BlockTree → Bool
block_fine b = are_formed_values (plain_block b).args && ops_stand is_fit_here are_formed_values (plain_block b).ops

abbrev region_fine : RegionTree → Bool
region_fine r = blocks_stand is_fit_here are_formed_values (plain_region r)

ops_fine : (os : List OpTree) → list_all op_fine os ≡ true → ops_stand is_fit_here are_formed_values (ops_in (map plain_op os)) ≡ true
ops_fine [] h = refl
ops_fine (o ∷ os) h = and-both _ _ (and-left _ _ h) (ops_fine os (and-right (op_fine o) _ h))

blocks_fine : (bs : List BlockTree) → list_all block_fine bs ≡ true → blocks_stand is_fit_here are_formed_values (blocks_in (map plain_block bs)) ≡ true
blocks_fine [] h = refl
blocks_fine (b ∷ bs) h =
    let one : block_fine b ≡ true = and-left _ _ h in
    and-both _ _ (and-left _ _ one) (and-both _ _ (and-right (are_formed_values (plain_block b).args) _ one) (blocks_fine bs (and-right (block_fine b) _ h)))

regions_fine : (rs : List RegionTree) → list_all region_fine rs ≡ true → regions_stand is_fit_here are_formed_values (regions_in (map plain_region rs)) ≡ true
regions_fine [] h = refl
regions_fine (r ∷ rs) h = and-both _ _ (and-left _ _ h) (regions_fine rs (and-right (region_fine r) _ h))

module _ (words : Wording) where
  abbrev Fine : Term → Type 0
  Fine t = fine words.number t ≡ true

  -- where the type or attribute of an operation begins it is fine
  abbrev pub RolesFine : List Role → Type 0
  RolesFine [] = Unit {0}
  RolesFine (r ∷ rs) = (is_telling r.place ≡ true → Fine r.term) × RolesFine rs

  pub record LevelFine (l : Level) : Type 0 where
    pub ops : list_all op_fine l.ops ≡ true
    pub blocks : list_all block_fine l.blocks ≡ true
    pub regions : list_all region_fine l.parts.regions ≡ true
    pub args : are_formed_values (plain_values l.args) ≡ true
    pub props : Fine l.parts.props
    pub attrs : Fine l.parts.attrs
    pub signature : Fine l.parts.signature

  abbrev pub AllFine : Levels → Type 0
  AllFine [] = Unit {0}
  AllFine (l ∷ ls) = LevelFine l × AllFine ls

  named_fine : (name number : ℕ) (p : Parts) → list_all region_fine p.regions ≡ true → Fine p.props → Fine p.attrs → Fine p.signature → op_fine (op_named words name number p) ≡ true
  named_fine name number p h k a s =
      ap (op_stands is_fit_here are_formed_values) (plain-roll _) ∙ and-both _ _ (here_fit words (words.spelled name) number p.props p.attrs p.signature k a s) (regions_fine p.regions h)

  labelled_fine : (label : ℕ) (l : Level) → LevelFine l → block_fine (block_labelled label l) ≡ true
  labelled_fine label l f = ap (λ b. are_formed_values b.args && ops_stand is_fit_here are_formed_values b.ops) (block-roll _) ∙ and-both _ _ f.args (ops_fine l.ops f.ops)

  first_fine : (label : ℕ) (os : List OpTree) (bs : List BlockTree) → list_all op_fine os ≡ true → list_all block_fine bs ≡ true → list_all block_fine (region_blocks label os bs) ≡ true
  first_fine label [] bs h k = k
  first_fine label (o ∷ os) bs h k = and-both _ _ (ap (λ b. are_formed_values b.args && ops_stand is_fit_here are_formed_values b.ops) (block-roll _) ∙ and-both _ _ refl (ops_fine (o ∷ os) h)) k

  opened_fine : (label : ℕ) (l : Level) → LevelFine l → region_fine (region_opened label l) ≡ true
  opened_fine label l f = ap (blocks_stand is_fit_here are_formed_values) (region-roll _) ∙ blocks_fine (region_blocks label l.ops l.blocks) (first_fine label l.ops l.blocks f.ops f.blocks)

  word_fine : (place : Place) (name number : ℕ) (term : Term) (ls : Levels) → (is_telling place ≡ true → Fine term) → AllFine ls → AllFine (with_word words (record { place = place; name = name; number = number; term = term }) ls)
  word_fine places.RegionClose name number term ls t f = (record { ops = refl; blocks = refl; regions = refl; args = refl; props = refl; attrs = refl; signature = refl }, f)
  word_fine places.RegionOpen name number term [] t f = f
  word_fine places.RegionOpen name number term (l ∷ []) t f = f
  word_fine places.RegionOpen name number term (inner ∷ outer ∷ ls) t f = (
    record {
      ops = f.1.0.ops;
      blocks = f.1.0.blocks;
      regions = and-both _ _ (opened_fine number inner f.0) f.1.0.regions;
      args = f.1.0.args;
      props = f.1.0.props;
      attrs = f.1.0.attrs;
      signature = f.1.0.signature;
    },
    f.1.1,
  )
  word_fine places.OpName name number term [] t f = f
  word_fine places.OpName name number term (l ∷ ls) t f = (
    record {
      ops = and-both _ _ (named_fine name number l.parts f.0.regions f.0.props f.0.attrs f.0.signature) f.0.ops;
      blocks = f.0.blocks;
      regions = refl;
      args = f.0.args;
      props = refl;
      attrs = refl;
      signature = refl;
    },
    f.1,
  )
  word_fine places.ArgName name number term [] t f = f
  word_fine places.ArgName name number term (l ∷ ls) t f = (
    record {
      ops = f.0.ops;
      blocks = f.0.blocks;
      regions = f.0.regions;
      args = and-both _ _ (arg_fit words term (t refl)) f.0.args;
      props = f.0.props;
      attrs = f.0.attrs;
      signature = f.0.signature;
    },
    f.1,
  )
  word_fine places.BlockLabel name number term [] t f = f
  word_fine places.BlockLabel name number term (l ∷ ls) t f = (
    record {
      ops = refl;
      blocks = and-both _ _ (labelled_fine number l f.0) f.0.blocks;
      regions = f.0.regions;
      args = refl;
      props = f.0.props;
      attrs = f.0.attrs;
      signature = f.0.signature;
    },
    f.1,
  )
  word_fine places.PropsOpen name number term [] t f = f
  word_fine places.PropsOpen name number term (l ∷ ls) t f =
      (record { ops = f.0.ops; blocks = f.0.blocks; regions = f.0.regions; args = f.0.args; props = t refl; attrs = f.0.attrs; signature = f.0.signature }, f.1)
  word_fine places.DictOpen name number term [] t f = f
  word_fine places.DictOpen name number term (l ∷ ls) t f =
      (record { ops = f.0.ops; blocks = f.0.blocks; regions = f.0.regions; args = f.0.args; props = f.0.props; attrs = t refl; signature = f.0.signature }, f.1)
  word_fine places.SignatureOpen name number term [] t f = f
  word_fine places.SignatureOpen name number term (l ∷ ls) t f =
      (record { ops = f.0.ops; blocks = f.0.blocks; regions = f.0.regions; args = f.0.args; props = f.0.props; attrs = f.0.attrs; signature = t refl }, f.1)
  word_fine _ name number term [] t f = f
  word_fine _ name number term (l ∷ ls) t f =
      (record { ops = f.0.ops; blocks = f.0.blocks; regions = f.0.regions; args = f.0.args; props = f.0.props; attrs = f.0.attrs; signature = f.0.signature }, f.1)

  pub levels_fine : (rs : List Role) → RolesFine rs → AllFine (levels_of words rs)
  levels_fine [] t = (record { ops = refl; blocks = refl; regions = refl; args = refl; props = refl; attrs = refl; signature = refl }, tt)
  levels_fine (r ∷ rs) t = word_fine r.place r.name r.number r.term (levels_of words rs) t.0 (levels_fine rs t.1)
