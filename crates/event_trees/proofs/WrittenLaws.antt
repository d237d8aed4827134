-- What is written is read back.
use Rattle.std.proofs.Common.{◌≡◌, ℕ, Bool, true, false, List, [], ◌∷◌, Option, Some, None, refl, true≢false, ◌∙◌, ap}
use Rattle.std.specs.Prelude.{cond}
use Rattle.text_grammar.specs.declared.places.Place.{Place}
use Rattle.text_grammar.specs.declared.places.Place.TheVariants as places
use Rattle.tree_model.specs.declared.type_tree.TypeTree.{TypeTree}
use Rattle.tree_model.specs.declared.op_tree.OpTree.{OpTree}
use Rattle.tree_model.specs.declared.op_tree.BlockTree.{BlockTree}
use Rattle.tree_model.specs.declared.op_tree.RegionTree.{RegionTree}
use Rattle.term_table.specs.Terms.{Term, nothing}
use Rattle.event_trees.specs.Wording.{Wording}
use Rattle.event_trees.specs.Roles.{Role}
use Rattle.event_trees.specs.Levels.{Level, Levels, Parts, levels_of, no_parts, ops_of, with_word}
use Rattle.event_trees.specs.Written.{Args, Blocks, blocks_end, blocks_more, Op, op, Ops, ops_end, ops_more, ReadBack, Regions, regions_end, regions_more, arg_trees, arg_words, attr_words, block_trees, block_words, op_trees, op_words, operand_words, ops_words, prop_words, region_trees, region_words, successor_words, telling, tells, term_or, tree_of}

-- A word that tells nothing

quiet : (words : Wording) (r : Role) (ls : Levels) → tells r.place ≡ false → with_word words r ls ≡ ls
quiet words r ls e = by_place r.place r.name r.number r.term ls e
  where
    by_place : (place : Place) (name number : ℕ) (term : Term) (ls : Levels) → tells place ≡ false
        → with_word words (record { place = place; name = name; number = number; term = term }) ls ≡ ls
    by_place places.OpName name number term ls e = absurd (true≢false e)
    by_place places.UseName name number term ls e = absurd (true≢false e)
    by_place places.SuccessorName name number term ls e = absurd (true≢false e)
    by_place places.PropsOpen name number term ls e = absurd (true≢false e)
    by_place places.DictOpen name number term ls e = absurd (true≢false e)
    by_place places.SignatureOpen name number term ls e = absurd (true≢false e)
    by_place places.ArgName name number term ls e = absurd (true≢false e)
    by_place places.BlockLabel name number term ls e = absurd (true≢false e)
    by_place places.RegionOpen name number term ls e = absurd (true≢false e)
    by_place places.RegionClose name number term ls e = absurd (true≢false e)
    by_place _ name number term [] e = refl
    by_place _ name number term (l ∷ ls) e = refl

told_case : (b : Bool) (words : Wording) (r : Role) (rs : List Role) → tells r.place ≡ b → levels_of words rs ≡ levels_of words (telling rs)
    → levels_of words (r ∷ rs) ≡ levels_of words (cond b (r ∷ telling rs) (telling rs))
told_case true words r rs e h = ap (with_word words r) h
told_case false words r rs e h = quiet words r (levels_of words rs) e ∙ h

told : (words : Wording) (rs : List Role) → levels_of words rs ≡ levels_of words (telling rs)
told words [] = refl
told words (r ∷ rs) = told_case (tells r.place) words r rs refl (told words rs)

-- Parts

abbrev parts : List ℕ → List ℕ → Term → List RegionTree → Term → Term → Parts
parts operands successors props regions attrs signature =
    record { operands = operands; successors = successors; props = props; regions = regions; attrs = attrs; signature = signature }

abbrev level : Parts → List (ℕ × TypeTree) → List OpTree → List BlockTree → Level
level p args ops blocks = record { parts = p; args = args; ops = ops; blocks = blocks }

module _ (words : Wording) where
  operands_read : (ns : List ℕ) (rest : List Role) (ss : List ℕ) (props : Term) (rs : List RegionTree) (attrs signature : Term) (a : List (ℕ × TypeTree)) (os : List OpTree) (bs : List BlockTree) (ls : Levels)
      → levels_of words rest ≡ level (parts [] ss props rs attrs signature) a os bs ∷ ls
      → levels_of words (operand_words ns rest) ≡ level (parts ns ss props rs attrs signature) a os bs ∷ ls
  operands_read [] rest ss props rs attrs signature a os bs ls h = h
  operands_read (n ∷ ns) rest ss props rs attrs signature a os bs ls h =
      ap (with_word words (record { place = places.UseName; name = 0; number = n; term = nothing })) (operands_read ns rest ss props rs attrs signature a os bs ls h)

  successors_read : (ns : List ℕ) (rest : List Role) (props : Term) (rs : List RegionTree) (attrs signature : Term) (a : List (ℕ × TypeTree)) (os : List OpTree) (bs : List BlockTree) (ls : Levels)
      → levels_of words rest ≡ level (parts [] [] props rs attrs signature) a os bs ∷ ls
      → levels_of words (successor_words ns rest) ≡ level (parts [] ns props rs attrs signature) a os bs ∷ ls
  successors_read [] rest props rs attrs signature a os bs ls h = h
  successors_read (n ∷ ns) rest props rs attrs signature a os bs ls h =
      ap (with_word words (record { place = places.SuccessorName; name = 0; number = n; term = nothing })) (successors_read ns rest props rs attrs signature a os bs ls h)

  props_read : (o : Option Term) (rest : List Role) (rs : List RegionTree) (attrs signature : Term) (a : List (ℕ × TypeTree)) (os : List OpTree) (bs : List BlockTree) (ls : Levels)
      → levels_of words rest ≡ level (parts [] [] nothing rs attrs signature) a os bs ∷ ls
      → levels_of words (prop_words o rest) ≡ level (parts [] [] (term_or o) rs attrs signature) a os bs ∷ ls
  props_read None rest rs attrs signature a os bs ls h = h
  props_read (Some t) rest rs attrs signature a os bs ls h = ap (with_word words (record { place = places.PropsOpen; name = 0; number = 0; term = t })) h

  attrs_read : (o : Option Term) (rest : List Role) (signature : Term) (a : List (ℕ × TypeTree)) (os : List OpTree) (bs : List BlockTree) (ls : Levels)
      → levels_of words rest ≡ level (parts [] [] nothing [] nothing signature) a os bs ∷ ls
      → levels_of words (attr_words o rest) ≡ level (parts [] [] nothing [] (term_or o) signature) a os bs ∷ ls
  attrs_read None rest signature a os bs ls h = h
  attrs_read (Some t) rest signature a os bs ls h = ap (with_word words (record { place = places.DictOpen; name = 0; number = 0; term = t })) h

  args_read : (args : Args) (rest : List Role) (os : List OpTree) (bs : List BlockTree) (ls : Levels)
      → levels_of words rest ≡ level no_parts [] os bs ∷ ls → levels_of words (arg_words args rest) ≡ level no_parts (arg_trees args) os bs ∷ ls
  args_read [] rest os bs ls h = h
  args_read (x ∷ more) rest os bs ls h = ap (with_word words (record { place = places.ArgName; name = 0; number = x.0; term = x.1 })) (args_read more rest os bs ls h)

  -- Operations, regions and blocks
  mutual
    op_read : (o : Op) (rest : List Role) (a : List (ℕ × TypeTree)) (os : List OpTree) (bs : List BlockTree) (ls : Levels)
        → levels_of words rest ≡ level no_parts a os bs ∷ ls → levels_of words (op_words o rest) ≡ level no_parts a (tree_of words o ∷ os) bs ∷ ls
    op_read (op name number operands successors props regions attrs signature) rest a os bs ls h =
        ap (with_word words (record { place = places.OpName; name = name; number = number; term = nothing }))
        (operands_read operands _ successors (term_or props) (region_trees words regions) (term_or attrs) signature a os bs ls
        (successors_read successors _ (term_or props) (region_trees words regions) (term_or attrs) signature a os bs ls
        (props_read props _ (region_trees words regions) (term_or attrs) signature a os bs ls
        (regions_read regions _ (term_or attrs) signature a os bs ls
        (attrs_read attrs _ signature a os bs ls
        (ap (with_word words (record { place = places.SignatureOpen; name = 0; number = 0; term = signature })) h))))))

    ops_read : (o : Ops) (rest : List Role) (a : List (ℕ × TypeTree)) (os : List OpTree) (bs : List BlockTree) (ls : Levels)
        → levels_of words rest ≡ level no_parts a os bs ∷ ls → levels_of words (ops_words o rest) ≡ level no_parts a (op_trees words o os) bs ∷ ls
    ops_read ops_end rest a os bs ls h = h
    ops_read (ops_more o more) rest a os bs ls h = op_read o (ops_words more rest) a (op_trees words more os) bs ls (ops_read more rest a os bs ls h)

    regions_read : (r : Regions) (rest : List Role) (attrs signature : Term) (a : List (ℕ × TypeTree)) (os : List OpTree) (bs : List BlockTree) (ls : Levels)
        → levels_of words rest ≡ level (parts [] [] nothing [] attrs signature) a os bs ∷ ls
        → levels_of words (region_words r rest) ≡ level (parts [] [] nothing (region_trees words r) attrs signature) a os bs ∷ ls
    regions_read regions_end rest attrs signature a os bs ls h = h
    regions_read (regions_more label first blocks more) rest attrs signature a os bs ls h =
        let outer : Levels = level (parts [] [] nothing (region_trees words more) attrs signature) a os bs ∷ ls in
        ap (with_word words (record { place = places.RegionOpen; name = 0; number = label; term = nothing }))
        (ops_read first _ [] [] (block_trees words blocks) outer
        (blocks_read blocks _ outer
        (ap (with_word words (record { place = places.RegionClose; name = 0; number = 0; term = nothing })) (regions_read more rest attrs signature a os bs ls h))))

    blocks_read : (b : Blocks) (rest : List Role) (ls : Levels) → levels_of words rest ≡ level no_parts [] [] [] ∷ ls
        → levels_of words (block_words b rest) ≡ level no_parts [] [] (block_trees words b) ∷ ls
    blocks_read blocks_end rest ls h = h
    blocks_read (blocks_more label args ops more) rest ls h =
        ap (with_word words (record { place = places.BlockLabel; name = 0; number = label; term = nothing }))
        (args_read args _ (op_trees words ops []) (block_trees words more) ls (ops_read ops _ [] [] (block_trees words more) ls (blocks_read more rest ls h)))

pub read_back : ReadBack
read_back words ops roles e =
    ap ops_of (told words roles ∙ ap (levels_of words) e ∙ ops_read words ops [] [] [] [] [] refl)
