-- What an edited tree's lines are, and the types of its values, where no cast has regions.
use Rattle.std.proofs.Common.{◌≡◌, ℕ, ◌==◌, Bool, true, false, List, [], ◌∷◌, ◌++◌, map, refl, sym, ap, ◌∙◌, true≢false}
use Rattle.std.specs.Prelude.{◌||◌, not, if◌then◌else◌}
use Rattle.std.specs.List.{list_all, list_any}
use Rattle.std.proofs.lemmas.List.{map-append}
use Rattle.std.proofs.lemmas.List.Folds.{list_all-append}
use Rattle.plain_tree.specs.Types.{PlainType}
use Rattle.plain_tree.specs.Ops.{Op, op, Ops, end_of_ops, more_ops, Regions, end_of_regions, region, Blocks, end_of_blocks, block, Values}
use Rattle.plain_tree.specs.Values.{op_values, ops_values, regions_values, blocks_values, type_in}
use Rattle.conversion_model.specs.Conversion.{regions_of}
use Rattle.conversion_model.specs.Promises.{BareOp, BareOps, BareRegions, BareBlocks}
use Rattle.conversion_model.specs.Reconciled.{is_cast, results_of}
use Rattle.conversion_model.specs.Uses.{op_without, ops_uses, ops_without, regions_uses, regions_without, blocks_uses, blocks_without, operations}
use Rattle.tree_uses.specs.Edited.{edited}
use Rattle.tree_walk.specs.Walks.{op_list, ops_list, region_list, regions_list}
use Rattle.tree_walk.proofs.WalkLayers.{operations_are}
use Rattle.tree_reconcile.specs.Lines.{Line, has_no_regions, is_bare, line_of}
use Rattle.tree_reconcile.proofs.Bools.{and_true, or_false}

abbrev pub moved_line : (ℕ → ℕ) → Line → Line
moved_line S l = record { is_cast = l.is_cast; results = l.results; operands = map S l.operands }

-- the lines for which the test doesn't hold, with other operands
abbrev pub kept_lines : (ℕ → ℕ) → (Line → Bool) → List Line → List Line
kept_lines S t [] = []
kept_lines S t (l ∷ ls) = if t l then kept_lines S t ls else moved_line S l ∷ kept_lines S t ls

abbrev pub lines : Op → List Line
lines o = map line_of (op_list o)

abbrev pub test_of : (Line → Bool) → Op → Bool
test_of t o = t (line_of o)

pub lines_listed : (o : Op) → map line_of (map (λ (x : ℕ × Op). x.1) (operations o)) ≡ lines o
lines_listed o = ap (map line_of) (sym (operations_are o))

-- Lines of an edited tree

list_at : (o : Op) → op_list o ≡ o ∷ regions_list (regions_of o)
list_at (op k results operands regions successors) = refl

module _ (S : ℕ → ℕ) (t : Line → Bool) (casts : (l : Line) → t l ≡ true → l.is_cast ≡ true) where
  kept_by : (b : Bool) (l : Line) (xs ys : List Line) → kept_lines S t (xs ++ ys) ≡ kept_lines S t xs ++ kept_lines S t ys
      → (if b then kept_lines S t (xs ++ ys) else moved_line S l ∷ kept_lines S t (xs ++ ys)) ≡ (if b then kept_lines S t xs else moved_line S l ∷ kept_lines S t xs) ++ kept_lines S t ys
  kept_by true l xs ys e = e
  kept_by false l xs ys e = ap (λ zs. moved_line S l ∷ zs) e

  kept_append : (xs ys : List Line) → kept_lines S t (xs ++ ys) ≡ kept_lines S t xs ++ kept_lines S t ys
  kept_append [] ys = refl
  kept_append (x ∷ xs) ys = kept_by (t x) x xs ys (kept_append xs ys)

  joined : (xs ys ps qs : List Op) → map line_of ps ≡ kept_lines S t (map line_of xs) → map line_of qs ≡ kept_lines S t (map line_of ys)
      → map line_of (ps ++ qs) ≡ kept_lines S t (map line_of (xs ++ ys))
  joined xs ys ps qs e f =
      map-append line_of ps qs ∙ ap (λ zs. zs ++ map line_of qs) e ∙ ap (λ zs. kept_lines S t (map line_of xs) ++ zs) f
      ∙ sym (kept_append (map line_of xs) (map line_of ys)) ∙ ap (kept_lines S t) (sym (map-append line_of xs ys))

  own_lines : (o : Op) → map line_of (regions_list (regions_of (edited S (test_of t) o))) ≡ kept_lines S t (map line_of (regions_list (regions_of o)))
      → lines (edited S (test_of t) o) ≡ moved_line S (line_of o) ∷ kept_lines S t (map line_of (regions_list (regions_of o)))
  own_lines (op k results operands regions successors) e = ap (λ xs. moved_line S (line_of (op k results operands regions successors)) ∷ xs) e

  -- an operation that stays
  stays : (o : Op) → t (line_of o) ≡ false → lines (edited S (test_of t) o) ≡ moved_line S (line_of o) ∷ kept_lines S t (map line_of (regions_list (regions_of o)))
      → lines (edited S (test_of t) o) ≡ kept_lines S t (lines o)
  stays o kept e =
      e ∙ sym (ap (λ b. if b then kept_lines S t (map line_of (regions_list (regions_of o))) else moved_line S (line_of o) ∷ kept_lines S t (map line_of (regions_list (regions_of o)))) kept)
      ∙ ap (λ xs. kept_lines S t (map line_of xs)) (sym (list_at o))

  one_line : (o : Op) (os : Ops) (b : Bool) → t (line_of o) ≡ b → (is_cast o ≡ true → regions_of o ≡ end_of_regions)
      → lines (edited S (test_of t) o) ≡ moved_line S (line_of o) ∷ kept_lines S t (map line_of (regions_list (regions_of o)))
      → map line_of (ops_list (ops_uses S (ops_without (test_of t) os))) ≡ kept_lines S t (map line_of (ops_list os))
      → map line_of (ops_list (ops_uses S (if b then ops_without (test_of t) os else more_ops (op_without (test_of t) o) (ops_without (test_of t) os)))) ≡ kept_lines S t (map line_of (op_list o ++ ops_list os))
  one_line o os true is bare e f =
      let alone : op_list o ≡ o ∷ [] = list_at o ∙ ap (λ r. o ∷ regions_list r) (bare (casts (line_of o) is)) in
      f ∙ sym (ap (λ b. if b then kept_lines S t (map line_of (ops_list os)) else moved_line S (line_of o) ∷ kept_lines S t (map line_of (ops_list os))) is)
      ∙ ap (λ xs. kept_lines S t (map line_of (xs ++ ops_list os))) (sym alone)
  one_line o os false is bare e f =
      joined (op_list o) (ops_list os) (op_list (edited S (test_of t) o)) (ops_list (ops_uses S (ops_without (test_of t) os))) (stays o is e) f

  mutual
    op_lines : (o : Op) → BareOp o → lines (edited S (test_of t) o) ≡ moved_line S (line_of o) ∷ kept_lines S t (map line_of (regions_list (regions_of o)))
    op_lines (op k results operands regions successors) b = own_lines (op k results operands regions successors) (regions_lines regions b)

    regions_lines : (rs : Regions) → BareRegions rs → map line_of (regions_list (regions_uses S (regions_without (test_of t) rs))) ≡ kept_lines S t (map line_of (regions_list rs))
    regions_lines end_of_regions b = refl
    regions_lines (region bs more) b =
        joined (region_list bs) (regions_list more) (region_list (blocks_uses S (blocks_without (test_of t) bs))) (regions_list (regions_uses S (regions_without (test_of t) more)))
        (blocks_lines bs b.0) (regions_lines more b.1)

    blocks_lines : (bs : Blocks) → BareBlocks bs → map line_of (region_list (blocks_uses S (blocks_without (test_of t) bs))) ≡ kept_lines S t (map line_of (region_list bs))
    blocks_lines end_of_blocks b = refl
    blocks_lines (block label args os more) b =
        joined (ops_list os) (region_list more) (ops_list (ops_uses S (ops_without (test_of t) os))) (region_list (blocks_uses S (blocks_without (test_of t) more)))
        (ops_lines os b.0) (blocks_lines more b.1)

    ops_lines : (os : Ops) → BareOps os → map line_of (ops_list (ops_uses S (ops_without (test_of t) os))) ≡ kept_lines S t (map line_of (ops_list os))
    ops_lines end_of_ops b = refl
    ops_lines (more_ops o os) b = one_line o os (t (line_of o)) refl b.0 (op_lines o b.1) (ops_lines os b.2)

  -- the lines of the edited tree
  pub lines_kept : (o : Op) → BareOp o → t (line_of o) ≡ false → lines (edited S (test_of t) o) ≡ kept_lines S t (lines o)
  lines_kept o b kept = stays o kept (op_lines o b)

-- Types

abbrev hit : ℕ → ℕ × PlainType → Bool
hit v r = r.0 == v

-- what is left out is a cast, and v is none of its results
abbrev pub Spares : (Line → Bool) → ℕ → Type 0
Spares t v = (l : Line) → t l ≡ true → (l.is_cast ≡ true) × (list_any (λ (r : ℕ × PlainType). r.0 == v) l.results ≡ false)

front_same : (results xs ys : Values) (v : ℕ) → type_in xs v ≡ type_in ys v → type_in (results ++ xs) v ≡ type_in (results ++ ys) v
front_same [] xs ys v same = same
front_same (r ∷ rs) xs ys v same = ap (λ t. if r.0 == v then r.1 else t) (front_same rs xs ys v same)

front_skipped : (results ys : Values) (v : ℕ) → list_any (hit v) results ≡ false → type_in (results ++ ys) v ≡ type_in ys v
front_skipped [] ys v none = refl
front_skipped (r ∷ rs) ys v none =
    let parts = or_false (r.0 == v) (list_any (hit v) rs) none in
    ap (λ b. if b then r.1 else type_in (rs ++ ys) v) parts.0 ∙ front_skipped rs ys v parts.1

left_out_type : (o : Op) (xs ys : Values) (v : ℕ) → regions_of o ≡ end_of_regions → list_any (hit v) (results_of o) ≡ false → type_in xs v ≡ type_in ys v → type_in xs v ≡ type_in (op_values o ys) v
left_out_type (op k results operands regions successors) xs ys v bare none same =
    same ∙ sym (front_skipped results ys v none) ∙ sym (ap (λ r. type_in (results ++ regions_values r ys) v) bare)

module _ (S : ℕ → ℕ) (t : Line → Bool) (v : ℕ) (spares : Spares t v) where
  type_by : (o : Op) (os : Ops) (xs ys : Values) (b : Bool) → t (line_of o) ≡ b → (is_cast o ≡ true → regions_of o ≡ end_of_regions)
      → type_in (ops_values (ops_uses S (ops_without (test_of t) os)) xs) v ≡ type_in (ops_values os ys) v
      → type_in (op_values (edited S (test_of t) o) (ops_values (ops_uses S (ops_without (test_of t) os)) xs)) v ≡ type_in (op_values o (ops_values os ys)) v
      → type_in (ops_values (ops_uses S (if b then ops_without (test_of t) os else more_ops (op_without (test_of t) o) (ops_without (test_of t) os))) xs) v ≡ type_in (op_values o (ops_values os ys)) v
  type_by o os xs ys true is bare rest kept =
      left_out_type o (ops_values (ops_uses S (ops_without (test_of t) os)) xs) (ops_values os ys) v (bare (spares (line_of o) is).0) (spares (line_of o) is).1 rest
  type_by o os xs ys false is bare rest kept = kept

  mutual
    op_type : (o : Op) (xs ys : Values) → BareOp o → type_in xs v ≡ type_in ys v → type_in (op_values (edited S (test_of t) o) xs) v ≡ type_in (op_values o ys) v
    op_type (op k results operands regions successors) xs ys bare same =
        front_same results (regions_values (regions_uses S (regions_without (test_of t) regions)) xs) (regions_values regions ys) v (regions_type regions xs ys bare same)

    ops_type : (o : Ops) (xs ys : Values) → BareOps o → type_in xs v ≡ type_in ys v → type_in (ops_values (ops_uses S (ops_without (test_of t) o)) xs) v ≡ type_in (ops_values o ys) v
    ops_type end_of_ops xs ys bare same = same
    ops_type (more_ops o os) xs ys bare same =
        let rest = ops_type os xs ys bare.2 same in
        type_by o os xs ys (t (line_of o)) refl bare.0 rest (op_type o (ops_values (ops_uses S (ops_without (test_of t) os)) xs) (ops_values os ys) bare.1 rest)

    regions_type : (o : Regions) (xs ys : Values) → BareRegions o → type_in xs v ≡ type_in ys v → type_in (regions_values (regions_uses S (regions_without (test_of t) o)) xs) v ≡ type_in (regions_values o ys) v
    regions_type end_of_regions xs ys bare same = same
    regions_type (region blocks more) xs ys bare same =
        blocks_type blocks (regions_values (regions_uses S (regions_without (test_of t) more)) xs) (regions_values more ys) bare.0 (regions_type more xs ys bare.1 same)

    blocks_type : (o : Blocks) (xs ys : Values) → BareBlocks o → type_in xs v ≡ type_in ys v → type_in (blocks_values (blocks_uses S (blocks_without (test_of t) o)) xs) v ≡ type_in (blocks_values o ys) v
    blocks_type end_of_blocks xs ys bare same = same
    blocks_type (block label args ops more) xs ys bare same =
        front_same args (ops_values (ops_uses S (ops_without (test_of t) ops)) (blocks_values (blocks_uses S (blocks_without (test_of t) more)) xs)) (ops_values ops (blocks_values more ys)) v
        (ops_type ops (blocks_values (blocks_uses S (blocks_without (test_of t) more)) xs) (blocks_values more ys) bare.0 (blocks_type more xs ys bare.1 same))

  pub type_kept : (o : Op) → BareOp o → type_in (op_values (edited S (test_of t) o) []) v ≡ type_in (op_values o []) v
  type_kept o bare = op_type o [] [] bare refl

-- The test of casts with regions

no_regions : (rs : Regions) → has_no_regions rs ≡ true → rs ≡ end_of_regions
no_regions end_of_regions e = refl
no_regions (region bs more) e = absurd (true≢false (sym e))

bare_here : (o : Op) → is_bare o ≡ true → is_cast o ≡ true → regions_of o ≡ end_of_regions
bare_here o e is = no_regions (regions_of o) (sym (ap (λ b. not b || has_no_regions (regions_of o)) is) ∙ e)

split : (xs ys : List Op) → list_all is_bare (xs ++ ys) ≡ true → (list_all is_bare xs ≡ true) × (list_all is_bare ys ≡ true)
split xs ys e = and_true (list_all is_bare xs) (list_all is_bare ys) (sym (list_all-append is_bare xs ys) ∙ e)

mutual
  op_bare : (o : Op) → list_all is_bare (op_list o) ≡ true → BareOp o
  op_bare (op k results operands regions successors) e = regions_bare regions (and_true (is_bare (op k results operands regions successors)) (list_all is_bare (regions_list regions)) e).1

  regions_bare : (rs : Regions) → list_all is_bare (regions_list rs) ≡ true → BareRegions rs
  regions_bare end_of_regions e = tt
  regions_bare (region bs more) e =
      let parts = split (region_list bs) (regions_list more) e in
      (blocks_bare bs parts.0, regions_bare more parts.1)

  blocks_bare : (bs : Blocks) → list_all is_bare (region_list bs) ≡ true → BareBlocks bs
  blocks_bare end_of_blocks e = tt
  blocks_bare (block label args os more) e =
      let parts = split (ops_list os) (region_list more) e in
      (ops_bare os parts.0, blocks_bare more parts.1)

  ops_bare : (os : Ops) → list_all is_bare (ops_list os) ≡ true → BareOps os
  ops_bare end_of_ops e = tt
  ops_bare (more_ops o os) e =
      let parts = split (op_list o) (ops_list os) e in
      (bare_here o (first_bare o parts.0), op_bare o parts.0, ops_bare os parts.1)

  first_bare : (o : Op) → list_all is_bare (op_list o) ≡ true → is_bare o ≡ true
  first_bare (op k results operands regions successors) e = (and_true (is_bare (op k results operands regions successors)) (list_all is_bare (regions_list regions)) e).0

pub bare_tree : (o : Op) → list_all is_bare (op_list o) ≡ true → BareOp o
bare_tree o e = op_bare o e
