-- Each operation of a function is where its frames say, where labels of a region stand once.
use Rattle.std.proofs.Common.{◌≡◌, ℕ, ◌+◌, ◌==◌, Bool, true, false, List, [], ◌++◌, Option, Some, None, refl, sym, ap, ◌∙◌, true≢false}
use Rattle.std.specs.Prelude.{◌||◌, if◌then◌else◌}
use Rattle.std.proofs.lemmas.Option.{none-some}
use Rattle.std.proofs.lemmas.Bool.{eqb-true}
use Rattle.plain_tree.specs.Types.{PlainType}
use Rattle.plain_tree.specs.Ops.{Op, op, Ops, end_of_ops, more_ops, Regions, end_of_regions, region, Blocks, end_of_blocks, block, PlainBlock}
use Rattle.plain_tree.specs.Values.{types_of}
use Rattle.rule_model.specs.Words.{has, AllOf, numbers, results_of, block_of}
use Rattle.rule_model.specs.Facts.{Holder}
use Rattle.rule_model.specs.Paths.{Frame}
use Rattle.rule_model.specs.Sites.{Site, Around, holds, frame_of, op_sites, ops_sites, regions_sites, blocks_sites, sites}
use Rattle.rule_model.specs.Formed.{own_labels}
use Rattle.rule_model.specs.Search.{op_apart, ops_apart, regions_apart, blocks_apart}
use Rattle.rule_model.proofs.Numbers.{itself, and_first, and_second, not_true}
use Rattle.rule_model.proofs.Places.{Along, at_start, one_on, InPlace}

abbrev pub Placed : Site → Type 0
Placed s = AllOf InPlace s.frames

-- blocks that are found behind a label are among those labels
labelled : (bs : Blocks) (l : ℕ) (b : PlainBlock) → block_of l bs ≡ Some b → has l (own_labels bs) ≡ true
labelled end_of_blocks l b e = absurd (none-some b e)
labelled (block label args ops more) l b e = go (label == l) e (λ k. labelled more l b k)
  where
    go : (c : Bool) → (if c then Some (record { label = label; args = args; ops = ops }) else block_of l more) ≡ Some b
        → (block_of l more ≡ Some b → has l (own_labels more) ≡ true) → (c || has l (own_labels more)) ≡ true
    go true k rest = refl
    go false k rest = rest k

-- each block that is found among these is found in the region
abbrev FoundIn : Blocks → Blocks → Type 0
FoundIn whole bs = (l : ℕ) (b : PlainBlock) → block_of l bs ≡ Some b → block_of l whole ≡ Some b

found_behind : (whole : Blocks) (c : PlainBlock) (more : Blocks) → has c.label (own_labels more) ≡ false
    → FoundIn whole (block c.label c.args c.ops more) → FoundIn whole more
found_behind whole c more apart found l b e = found l b (go (c.label == l) refl)
  where
    go : (d : Bool) → (c.label == l) ≡ d → (if d then Some c else block_of l more) ≡ Some b
    go false k = e
    go true k = absurd (true≢false (sym (labelled more l b e) ∙ ap (λ n. has n (own_labels more)) (sym (eqb-true _ _ k)) ∙ apart))

found_here : (whole : Blocks) (c : PlainBlock) (more : Blocks) → FoundIn whole (block c.label c.args c.ops more) → block_of c.label whole ≡ Some c
found_here whole c more found = found c.label c (ap (λ d. if d then Some c else block_of c.label more) (itself c.label))

mutual
  op_placed : (type_of : ℕ → PlainType) (holder : Option Holder) (blocks : Blocks) (frames : List Frame) (rest : Ops) (o : Op) (more : List Site)
      → op_apart o ≡ true → AllOf InPlace frames → AllOf Placed more → AllOf Placed (op_sites type_of holder blocks frames rest o more)
  op_placed type_of holder blocks frames rest (op k results operands regions successors) more apart placed later =
      (placed, regions_placed type_of (holds type_of (op k results operands regions successors)) 0 frames regions more apart placed later)

  ops_placed : (type_of : ℕ → PlainType) (a : Around) (b : PlainBlock) (bound : List ℕ) (ops : Ops) (more : List Site)
      → block_of b.label a.blocks ≡ Some b → Along b bound ops → ops_apart ops ≡ true → AllOf InPlace a.outer → AllOf Placed more
      → AllOf Placed (ops_sites type_of a b.label bound ops more)
  ops_placed type_of a b bound end_of_ops more is along apart placed later = later
  ops_placed type_of a b bound (more_ops o rest) more is along apart placed later =
      op_placed type_of a.holder a.blocks (frame_of a b.label bound (more_ops o rest)) rest o (ops_sites type_of a b.label (results_of o ++ bound) rest more)
      (and_first _ _ apart) (record { at = b; is = is; along = along }, placed)
      (ops_placed type_of a b (results_of o ++ bound) rest more is (one_on o along) (and_second (op_apart o) _ apart) placed later)

  regions_placed : (type_of : ℕ → PlainType) (holder : ℕ → Holder) (n : ℕ) (frames : List Frame) (rs : Regions) (more : List Site)
      → regions_apart rs ≡ true → AllOf InPlace frames → AllOf Placed more → AllOf Placed (regions_sites type_of holder n frames rs more)
  regions_placed type_of holder n frames end_of_regions more apart placed later = later
  regions_placed type_of holder n frames (region blocks rest) more apart placed later =
      blocks_placed type_of (record { holder = Some (holder n); blocks = blocks; outer = frames }) blocks (regions_sites type_of holder (n + 1) frames rest more)
      (λ l b e. e) (and_first _ _ apart) placed
      (regions_placed type_of holder (n + 1) frames rest more (and_second (blocks_apart blocks) _ apart) placed later)

  blocks_placed : (type_of : ℕ → PlainType) (a : Around) (bs : Blocks) (more : List Site)
      → FoundIn a.blocks bs → blocks_apart bs ≡ true → AllOf InPlace a.outer → AllOf Placed more → AllOf Placed (blocks_sites type_of a bs more)
  blocks_placed type_of a end_of_blocks more found apart placed later = later
  blocks_placed type_of a (block label args ops rest) more found apart placed later =
      let b : PlainBlock = record { label = label; args = args; ops = ops } in
      let inner = and_second _ _ apart in
      ops_placed type_of a b (numbers args) ops (blocks_sites type_of a rest more) (found_here a.blocks b rest found) at_start (and_first _ _ inner) placed
      (blocks_placed type_of a rest more (found_behind a.blocks b rest (not_true _ (and_first _ _ apart)) found) (and_second (ops_apart ops) _ inner) placed later)

pub all_placed : (f : Op) → op_apart f ≡ true → AllOf Placed (sites f)
all_placed f apart = op_placed (types_of f) None end_of_blocks [] end_of_ops f [] apart tt tt
