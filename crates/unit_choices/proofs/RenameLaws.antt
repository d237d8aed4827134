-- Cuts by rows that look at numbers only as at names take values that are there from their operation alone.
use Rattle.std.proofs.Common.{◌≡◌, ℕ, zero, suc, ◌+◌, ◌==◌, Bool, true, false, List, [], ◌∷◌, map, Option, Some, None, refl, sym, ap, subst, ◌∙◌, arith}
use Rattle.std.specs.Prelude.{slice_get, ⊤}
use Rattle.std.proofs.lemmas.Bool.Decides.{Decides-eqb}
use Rattle.plain_tree.specs.Types.{PlainType, Void}
use Rattle.plain_tree.specs.Ops.{Op, op, Ops, end_of_ops, more_ops, Regions, end_of_regions, region, Blocks, end_of_blocks, block, Values}
use Rattle.conversion_model.specs.Rows.{Numbers, Pattern, Piece, Product, Opens, Held, Stands, Row, Straight, Cutting, Framing}
use Rattle.conversion_model.specs.Targets.{operands_of}
use Rattle.conversion_model.specs.Fresh.{EachBlock, EachOf, EachOp, EachOps, EachRegion, EachValue}
use Rattle.conversion_model.specs.Renamings.{RenAll, none_all, more_all, RenValues, none_values, more_values, RenOp, ren_op, RenOps, ops_ended, ren_more, RenRegions, regions_ended, ren_region, RenBlocks, blocks_ended, ren_block, RenNumbers, RenPieces, pieces_ended, ren_product, ren_opens, ren_held, ren_stands, RenCut, no_cut, ren_cut, RowRenames, TableRenames}
use Rattle.cut_code.specs.declared.pieces.CutValue.{CutValue}
use Rattle.cut_code.specs.declared.pieces.CutValue.TheVariants.{Old, New}
use Rattle.cut_code.specs.declared.pieces.PieceTree.{PieceTree}
use Rattle.cut_code.specs.declared.pieces.PieceTree.TheVariants as trees
use Rattle.cut_code.specs.Pieces.{cutting, cutting_at, pieces_of, pieces_or_none, value_at}
use Rattle.unit_choices.specs.Separate.{NotIn, NotOld, TakesOwn, Without}

-- the same number, which isn't x
abbrev Apart : ℕ → ℕ → ℕ → Type 0
Apart x m n = (m ≡ n) × ((m == x) ≡ false)

abbrev Same : ℕ → ℕ → Type 0
Same l m = l ≡ m

-- An operation without x goes together with itself

all_apart : (x : ℕ) (ns : List ℕ) → EachOf (λ n. (n == x) ≡ false) ns → RenAll (Apart x) ns ns
all_apart x [] h = none_all
all_apart x (n ∷ ns) h = more_all (refl, h.0) (all_apart x ns h.1)

labels_same : (ls : List ℕ) → RenAll Same ls ls
labels_same [] = none_all
labels_same (l ∷ ls) = more_all refl (labels_same ls)

values_apart : (x : ℕ) (vs : Values) → EachValue (λ n. (n == x) ≡ false) vs → RenValues (Apart x) vs vs
values_apart x [] h = none_values
values_apart x (v ∷ vs) h = more_values (refl, h.0) (values_apart x vs h.1)

mutual
  op_apart : (x : ℕ) (o : Op) → EachOp (λ n. (n == x) ≡ false) (λ l. ⊤) o → RenOp (Apart x) Same o o
  op_apart x (op k results operands regions successors) h = ren_op (values_apart x results h.0) (all_apart x operands h.1) (regions_apart x regions h.2) (labels_same successors)

  ops_apart : (x : ℕ) (os : Ops) → EachOps (λ n. (n == x) ≡ false) (λ l. ⊤) os → RenOps (Apart x) Same os os
  ops_apart x end_of_ops h = ops_ended
  ops_apart x (more_ops o os) h = ren_more (op_apart x o h.0) (ops_apart x os h.1)

  regions_apart : (x : ℕ) (rs : Regions) → EachRegion (λ n. (n == x) ≡ false) (λ l. ⊤) rs → RenRegions (Apart x) Same rs rs
  regions_apart x end_of_regions h = regions_ended
  regions_apart x (region blocks more) h = ren_region (blocks_apart x blocks h.0) (regions_apart x more h.1)

  blocks_apart : (x : ℕ) (bs : Blocks) → EachBlock (λ n. (n == x) ≡ false) (λ l. ⊤) bs → RenBlocks (Apart x) Same bs bs
  blocks_apart x end_of_blocks h = blocks_ended
  blocks_apart x (block label args ops more) h = ren_block refl (values_apart x args h.1) (ops_apart x ops h.2) (blocks_apart x more h.3)

-- Pieces that go together with themselves are without x

abbrev Lacks : ℕ → List Piece → Type 0
Lacks x [] = ⊤
Lacks x (Product o types ∷ ps) = EachOf (λ n. (n == x) ≡ false) (operands_of o) × Lacks x ps
Lacks x (Opens label args ∷ ps) = Lacks x ps
Lacks x (Held r b ∷ ps) = Lacks x ps
Lacks x (Stands result value ∷ ps) = Lacks x ps

numbers_lack : (x : ℕ) {ms ns : List ℕ} → RenAll (Apart x) ms ns → EachOf (λ n. (n == x) ≡ false) ms
numbers_lack x none_all = tt
numbers_lack x (more_all h rest) = (h.1, numbers_lack x rest)

operands_lack : (x : ℕ) {o p : Op} → RenOp (Apart x) Same o p → EachOf (λ n. (n == x) ≡ false) (operands_of o)
operands_lack x (ren_op results operands regions successors) = numbers_lack x operands

pieces_lack : (x : ℕ) {ps qs : List Piece} → RenPieces (Apart x) Same ps qs → Lacks x ps
pieces_lack x pieces_ended = tt
pieces_lack x (ren_product o rest) = (operands_lack x o, pieces_lack x rest)
pieces_lack x (ren_opens label args rest) = pieces_lack x rest
pieces_lack x (ren_held rest) = pieces_lack x rest
pieces_lack x (ren_stands result value rest) = pieces_lack x rest

cut_lacks : (x : ℕ) {c d : Option (List Piece)} → RenCut (Apart x) Same c d → (ps : List Piece) → c ≡ Some ps → Lacks x ps
cut_lacks x no_cut ps e = absurd (cc)
cut_lacks x (ren_cut {xs = qs} h) ps e = let same : qs ≡ ps = cc in subst (Lacks x) same (pieces_lack x h)

-- Of code

old_lack : (x : ℕ) (new : Numbers) (vs : List CutValue) → EachOf (λ n. (n == x) ≡ false) (map (value_at new) vs) → NotOld x vs
old_lack x new [] h = tt
old_lack x new (Old n ∷ vs) h = (h.0, old_lack x new vs h.1)
old_lack x new (New k ∷ vs) h = old_lack x new vs h.1

trees_lack : (x : ℕ) (new : Numbers) (type_of : ℕ → PlainType) (ps : List PieceTree) → Lacks x (pieces_of new type_of ps) → NotIn x ps
trees_lack x new type_of [] h = tt
trees_lack x new type_of (trees.Product p ∷ ps) h = (old_lack x new p.operands h.0, trees_lack x new type_of ps h.1)
trees_lack x new type_of (trees.Opens label args ∷ ps) h = trees_lack x new type_of ps h
trees_lack x new type_of (trees.Held r b ∷ ps) h = trees_lack x new type_of ps h
trees_lack x new type_of (trees.Stands n t v ∷ ps) h = trees_lack x new type_of ps h

-- Rows

next_is : (x : ℕ) → (suc x == x) ≡ false
next_is x = differ (suc x == x) (λ e. (Decides-eqb (suc x) x).0 e)
  where
    differ : (b : Bool) → (b ≡ true → suc x ≡ x) → b ≡ false
    differ true f = let e : suc x ≡ x = f refl in absurd (omega (arith, e))
    differ false f = refl

abbrev next : ℕ → Numbers
next x = record { value = λ k. suc x; label = λ k. k }

abbrev no_types : ℕ → PlainType
no_types n = Void

by_row : (row : Row) → RowRenames row → (o : Op) (ps : List Piece) (x : ℕ) → cutting row (next x) no_types o ≡ Some ps → Without x o → Lacks x ps
by_row (Straight row) h o ps x e apart = absurd (cc)
by_row (Framing row) h o ps x e apart = absurd (cc)
by_row (Cutting row) h o ps x e apart =
    cut_lacks x (h (Apart x) Same (next x) (next x) no_types no_types o o
    (λ a b c d same other. ap (λ m. m == c) same.0 ∙ ap (λ m. b == m) other.0)
    (record { values = λ k. (refl, next_is x); labels = λ k. refl })
    (λ m n same. refl)
    (op_apart x o apart)) ps e

at_place : (bits : ℕ) (table : List Pattern) (k : ℕ) → TableRenames bits table → (o : Op) (ps : List Piece) (x : ℕ) → cutting_at bits (slice_get table k) (next x) no_types o ≡ Some ps → Without x o → Lacks x ps
at_place bits [] k h o ps x e apart = absurd (cc)
at_place bits (p ∷ table) zero h o ps x e apart = by_row (p.row bits) h.0 o ps x e apart
at_place bits (p ∷ table) (suc k) h o ps x e apart = at_place bits table k h.1 o ps x e apart

pub takes_own : (bits : ℕ) (table : List Pattern) → TableRenames bits table → TakesOwn bits table
takes_own bits table h k o ps e x apart =
    trees_lack x (next x) no_types ps (at_place bits table k h o (pieces_of (next x) no_types ps) x (sym (e (next x) no_types)) apart)
