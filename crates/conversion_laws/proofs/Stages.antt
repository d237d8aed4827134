-- The whole conversion as the tree by recursion: without copies, with the arguments of blocks converted where the pass says so.
use Rattle.std.proofs.Common.{◌≡◌, ℕ, ◌+◌, ◌==◌, Bool, true, false, List, [], ◌∷◌, Option, Some, None, Result, Ok, Err, length, map, refl, sym, ap, ◌∙◌, subst}
use Rattle.std.specs.Prelude.{not, if◌then◌else◌}
use Rattle.plain_tree.specs.Types.{PlainType}
use Rattle.plain_tree.specs.Ops.{Kind, Op, op, Ops, end_of_ops, more_ops, Regions, end_of_regions, region, Blocks, end_of_blocks, block, Values}
use Rattle.plain_tree.specs.Values.{types_of}
use Rattle.conversion_model.specs.declared.templates.Source.{Source}
use Rattle.conversion_model.specs.Templates.{Step, Template, copies, copy, named, number_of, numbers, step_op, steps_written, written}
use Rattle.conversion_model.specs.Targets.{Shape, Partial, demanded, is_legal, shape_of}
use Rattle.conversion_model.specs.Chosen.{chosen}
use Rattle.conversion_model.specs.Items.{op_size, ops_size, blocks_size}
use Rattle.conversion_model.specs.Uses.{copies_left_out}
use Rattle.conversion_model.specs.Conversion.{Pass, Supply, Unlegalised, conv, finished, line_by, line_of, op_blocks, ops_blocks, or_fails, regions_of, regions_blocks, blocks_blocks, replacements, with_blocks}
use Rattle.conversion_laws.specs.PlainRows.{StraightTable}
use Rattle.conversion_laws.specs.NewTrees.{args_at, front_at, new_blocks, new_function, new_op, new_ops, new_regions, ops_front, source_at}
use Rattle.conversion_laws.proofs.Texts.{OpBare, OpsBare, RegionsBare, BlocksBare, nothing_left_out, replacements_are}
use Rattle.conversion_laws.proofs.Trees.{OpIsOk, OpsOk, RegionsOk, BlocksOk, StepsBare, line_cases}

-- The arguments of blocks

module _ (p : Pass) (bits : ℕ) (new : Supply) (ty : ℕ → PlainType) where
  abbrev moved : Op → Op
  moved o = op_blocks bits new.argument o

  front_moved : (line : List Op) (rest : Ops) → ops_blocks bits new.argument (ops_front line rest) ≡ ops_front (map moved line) (ops_blocks bits new.argument rest)
  front_moved [] rest = refl
  front_moved (o ∷ line) rest = ap (more_ops (moved o)) (front_moved line rest)

  copies_moved : (name : ℕ → ℕ) (os : List ℕ) (rs : Values) (ss : List Source) → map moved (copies name os rs ss []) ≡ copies name os rs ss []
  copies_moved name os [] ss = refl
  copies_moved name os (r ∷ rs) [] = refl
  copies_moved name os (r ∷ rs) (s ∷ ss) = go (number_of name os s == r.0) (copies_moved name os rs ss)
    where
      go : (b : Bool) → map moved (copies name os rs ss []) ≡ copies name os rs ss []
          → map moved (if b then copies name os rs ss [] else copy r (number_of name os s) ∷ copies name os rs ss []) ≡ (if b then copies name os rs ss [] else copy r (number_of name os s) ∷ copies name os rs ss [])
      go true is = is
      go false is = ap (λ l. copy r (number_of name os s) ∷ l) is

  steps_moved : (name : ℕ → ℕ) (os ls : List ℕ) (n : ℕ) (steps : List Step) (more : List Op) → map moved more ≡ more → map moved (steps_written name os ls n steps more) ≡ steps_written name os ls n steps more
  steps_moved name os ls n [] more is = is
  steps_moved name os ls n (s ∷ steps) more is = ap (λ l. step_op name os ls n s ∷ l) (steps_moved name os ls (n + length s.makes) steps more is)

  written_moved : (fresh : ℕ → ℕ) (rs : Values) (os ls : List ℕ) (t : Template) → map moved (written fresh rs os ls t []) ≡ written fresh rs os ls t []
  written_moved fresh rs os ls t =
      steps_moved (named fresh (numbers rs) t.results) os ls 0 t.steps (copies (named fresh (numbers rs) t.results) os rs t.results []) (copies_moved (named fresh (numbers rs) t.results) os rs t.results)

  line_moved : (n : ℕ) (o : Shape) (k : Kind) (rs : Values) (os : List ℕ) (regions : Regions) (ls : List ℕ)
      → map moved (line_of p bits new (source_at n) o (op k rs os regions ls)) ≡ line_of p bits new (source_at n) o (op k rs os (regions_blocks bits new.argument regions) ls)
  line_moved n o k rs os regions ls = go (not (demanded p.mode p.target o)) (is_legal p.target o) (chosen bits p.target p.table [] o)
    where
      go : (x y : Bool) (c : Option Template)
          → map moved (if x then op k rs os regions ls ∷ [] else if y then op k rs os regions ls ∷ [] else line_by (new.value n 0) (op k rs os regions ls) c)
          ≡ (if x then op k rs os (regions_blocks bits new.argument regions) ls ∷ [] else if y then op k rs os (regions_blocks bits new.argument regions) ls ∷ [] else line_by (new.value n 0) (op k rs os (regions_blocks bits new.argument regions) ls) c)
      go true y c = refl
      go false true c = refl
      go false false None = refl
      go false false (Some t) = written_moved (new.value n 0) rs os ls t

  mutual
    ops_moved : (os : Ops) (n : ℕ) → ops_blocks bits new.argument (new_ops p bits new ty false n os) ≡ new_ops p bits new ty true n os
    ops_moved end_of_ops n = refl
    ops_moved (more_ops o os) n =
        front_moved (new_op p bits new ty false n o) (new_ops p bits new ty false (n + op_size o) os)
        ∙ ap (λ l. ops_front l (ops_blocks bits new.argument (new_ops p bits new ty false (n + op_size o) os))) (op_moved o n)
        ∙ ap (ops_front (new_op p bits new ty true n o)) (ops_moved os (n + op_size o))

    op_moved : (o : Op) (n : ℕ) → map moved (new_op p bits new ty false n o) ≡ new_op p bits new ty true n o
    op_moved (op k rs os regions ls) n =
        line_moved n (shape_of ty (op k rs os regions ls)) k rs os (new_regions p bits new ty false (n + 1) regions) ls
        ∙ ap (λ r. line_of p bits new (source_at n) (shape_of ty (op k rs os regions ls)) (op k rs os r ls)) (regions_moved regions (n + 1))

    pub regions_moved : (rs : Regions) (n : ℕ) → regions_blocks bits new.argument (new_regions p bits new ty false n rs) ≡ new_regions p bits new ty true n rs
    regions_moved end_of_regions n = refl
    regions_moved (region blocks more) n =
        ap (λ b. region b (regions_blocks bits new.argument (new_regions p bits new ty false (n + blocks_size blocks) more))) (blocks_moved blocks n true)
        ∙ ap (region (new_blocks p bits new ty true n true blocks)) (regions_moved more (n + blocks_size blocks))

    blocks_moved : (bs : Blocks) (n : ℕ) (is_first : Bool) → blocks_blocks bits new.argument is_first (new_blocks p bits new ty false n is_first bs) ≡ new_blocks p bits new ty true n is_first bs
    blocks_moved end_of_blocks n is_first = refl
    blocks_moved (block label args ops more) n true =
        ap (λ os. block label args os (blocks_blocks bits new.argument false (new_blocks p bits new ty false (n + ops_size ops) false more))) (ops_moved ops n)
        ∙ ap (block label args (new_ops p bits new ty true n ops)) (blocks_moved more (n + ops_size ops) false)
    blocks_moved (block label args ops more) n false =
        ap (λ os. block label (args_at true bits (new.argument label) args) (front_at true bits (new.argument label) args os) (blocks_blocks bits new.argument false (new_blocks p bits new ty false (n + ops_size ops) false more))) (ops_moved ops n)
        ∙ ap (block label (args_at true bits (new.argument label) args) (front_at true bits (new.argument label) args (new_ops p bits new ty true n ops))) (blocks_moved more (n + ops_size ops) false)

-- No copies

module _ (p : Pass) (bits : ℕ) (new : Supply) (ty : ℕ → PlainType) (P Defined : ℕ → Type 0) where
  steps_bare : (name : ℕ → ℕ) (os ls : List ℕ) (n : ℕ) (steps : List Step) (rest : Ops) → StepsBare steps → OpsBare rest → OpsBare (ops_front (steps_written name os ls n steps []) rest)
  steps_bare name os ls n [] rest bare rest_bare = rest_bare
  steps_bare name os ls n (s ∷ steps) rest bare rest_bare = ((bare.0, tt), steps_bare name os ls (n + length s.makes) steps rest bare.1 rest_bare)

  mutual
    op_bare : (o : Op) (n : ℕ) (rest : Ops) → OpIsOk p bits new ty P Defined n o → OpBare o → OpsBare rest → OpsBare (ops_front (new_op p bits new ty false n o) rest)
    op_bare (op k rs os regions ls) n rest ok bare rest_bare =
        line_cases p bits new ty P Defined (λ line. OpsBare (ops_front line rest)) n (shape_of ty (op k rs os regions ls)) k rs os (new_regions p bits new ty false (n + 1) regions) ls
        ((bare.0, regions_bare regions (n + 1) ok.1 bare.1), rest_bare)
        (λ t legal is.
        let h = ok.0.replaced t legal is in
        subst (λ cs. OpsBare (ops_front (steps_written (named (new.value n 0) (numbers rs) t.results) os ls 0 t.steps cs) rest)) (sym h.no_copies)
        (steps_bare (named (new.value n 0) (numbers rs) t.results) os ls 0 t.steps rest h.bare rest_bare))

    ops_bare : (os : Ops) (n : ℕ) → OpsOk p bits new ty P Defined n os → OpsBare os → OpsBare (new_ops p bits new ty false n os)
    ops_bare end_of_ops n ok bare = tt
    ops_bare (more_ops o os) n ok bare = op_bare o n (new_ops p bits new ty false (n + op_size o) os) ok.0 bare.0 (ops_bare os (n + op_size o) ok.1 bare.1)

    pub regions_bare : (rs : Regions) (n : ℕ) → RegionsOk p bits new ty P Defined n rs → RegionsBare rs → RegionsBare (new_regions p bits new ty false n rs)
    regions_bare end_of_regions n ok bare = tt
    regions_bare (region blocks more) n ok bare = (blocks_bare blocks n true ok.0 bare.0, regions_bare more (n + blocks_size blocks) ok.1 bare.1)

    blocks_bare : (bs : Blocks) (n : ℕ) (is_first : Bool) → BlocksOk p bits new ty P Defined n bs → BlocksBare bs → BlocksBare (new_blocks p bits new ty false n is_first bs)
    blocks_bare end_of_blocks n is_first ok bare = tt
    blocks_bare (block label args ops more) n true ok bare = (ops_bare ops n ok.2 bare.0, blocks_bare more (n + ops_size ops) false ok.3 bare.1)
    blocks_bare (block label args ops more) n false ok bare = (ops_bare ops n ok.2 bare.0, blocks_bare more (n + ops_size ops) false ok.3 bare.1)

abbrev IsOk : Result Op Unlegalised → Type 0
IsOk (Ok g) = Unit {0}
IsOk (Err e) = ⊥

ok_or : Op → Result Op Unlegalised → Op
ok_or f (Ok g) = g
ok_or f (Err e) = f

ok_is : (f g : Op) (c : Option Unlegalised) → or_fails f c ≡ Ok g → g ≡ f
unfolding ok_or
ok_is f g None is = sym (ap (ok_or f) is)
ok_is f g (Some e) is = absurd (subst IsOk (sym is) tt)

with_moves : (p : Pass) (bits : ℕ) (new : Supply) (ty : ℕ → PlainType) (b : Bool) (f : Op) → with_blocks b bits new (new_function p bits new ty false f) ≡ new_function p bits new ty b f
with_moves p bits new ty true (op k rs os regions ls) = ap (λ r. op k rs os r ls) (regions_moved p bits new ty regions 1)
with_moves p bits new ty false f = refl

function_bare : (p : Pass) (bits : ℕ) (new : Supply) (ty : ℕ → PlainType) (P Defined : ℕ → Type 0) (f : Op) → OpBare f → RegionsOk p bits new ty P Defined 1 (regions_of f) → OpBare (new_function p bits new ty false f)
function_bare p bits new ty P Defined (op k rs os regions ls) bare ok = (bare.0, regions_bare p bits new ty P Defined regions 1 ok bare.1)

-- The conversion by a partial pass of straight rows.
pub conversion_is : (p : Pass) (bits : ℕ) (new : Supply) (P Defined : ℕ → Type 0) (f g : Op) → p.mode ≡ Partial → StraightTable bits p.table → OpBare f
    → RegionsOk p bits new (types_of f) P Defined 1 (regions_of f) → conv p bits new f ≡ Ok g → g ≡ new_function p bits new (types_of f) p.blocks f
conversion_is p bits new P Defined f g mode straight bare ok is =
    let N : Op = new_function p bits new (types_of f) false f in
    ok_is _ g _ is
    ∙ ap (λ m. finished m (with_blocks p.blocks bits new (copies_left_out (replacements p bits new f)))) mode
    ∙ ap (λ r. with_blocks p.blocks bits new (copies_left_out r)) (replacements_are p bits new f straight)
    ∙ ap (with_blocks p.blocks bits new) (nothing_left_out N (function_bare p bits new (types_of f) P Defined f bare ok))
    ∙ with_moves p bits new (types_of f) p.blocks f
