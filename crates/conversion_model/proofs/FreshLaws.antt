-- Two fresh supplies give conversions that are the same up to numbers.
use Rattle.std.proofs.Common.{◌≡◌, ℕ, ◌==◌, Bool, true, false, List, [], ◌∷◌, refl, sym, ap, ◌∙◌}
use Rattle.std.specs.Prelude.{◌&&◌}
use Rattle.plain_tree.specs.Ops.{Op, op, Ops, end_of_ops, more_ops, Regions, end_of_regions, region, Blocks, end_of_blocks, block, Values}
use Rattle.conversion_model.specs.Conversion.{Pass, Supply, conv}
use Rattle.conversion_model.specs.Fresh.{Place, of_row, of_line, of_function, of_block, same_place, EachOf, EachValue, EachOp, EachOps, EachRegion, EachBlock, Fresh, SameLabel, old_label, new_label, SamePlaces, same_row, same_line, same_function, same_block, SameValue, old_number, new_number}
use Rattle.conversion_model.specs.Renamings.{RenAll, none_all, more_all, RenValues, none_values, more_values, RenOp, ren_op, RenOps, ops_ended, ren_more, RenRegions, regions_ended, ren_region, RenBlocks, blocks_ended, ren_block, OneToOne, RenSupply, RenAnswer, TableRenames}
use Rattle.std.proofs.lemmas.Bool.{eqb-true}
use Rattle.conversion_model.proofs.ReconcileLaws.{same_number}
use Rattle.conversion_model.proofs.RenamedConversion.{conversion_renames}

sym_by : (m n : ℕ) (a b : Bool) → (m == n) ≡ a → (n == m) ≡ b → a ≡ b
sym_by m n true true p q = refl
sym_by m n false false p q = refl
sym_by m n true false p q = sym (same_number n m (sym (eqb-true m n p))) ∙ q
sym_by m n false true p q = sym p ∙ same_number m n (sym (eqb-true n m q))

eqb_sym : (m n : ℕ) → (m == n) ≡ (n == m)
eqb_sym m n = sym_by m n (m == n) (n == m) refl refl

pub labels_one : (new other : Supply) (f : Op) → Fresh new f → Fresh other f → OneToOne (SameLabel new other)
labels_one new other f here there a b c d (old_label l p q) (old_label m r s) = refl
labels_one new other f here there a b c d (old_label l p q) (new_label n k) = p n k ∙ sym (q n k)
labels_one new other f here there a b c d (new_label n k) (old_label l p q) = eqb_sym _ l ∙ p n k ∙ sym (q n k) ∙ eqb_sym l _
labels_one new other f here there a b c d (new_label m j) (new_label n k) = here.labels m j n k ∙ sym (there.labels m j n k)

places_one : (new other : Supply) → OneToOne (SameLabel new other) → (p q r s : Place) → SamePlaces new other p q → SamePlaces new other r s → same_place p r ≡ same_place q s
places_one new other one p q r s (same_row m j) (same_row n k) = refl
places_one new other one p q r s (same_row m j) (same_line n piece k) = refl
places_one new other one p q r s (same_row m j) (same_function k) = refl
places_one new other one p q r s (same_row m j) (same_block l n k e) = refl
places_one new other one p q r s (same_line m piece j) (same_row n k) = refl
places_one new other one p q r s (same_line m x j) (same_line n y k) = refl
places_one new other one p q r s (same_line m x j) (same_function k) = refl
places_one new other one p q r s (same_line m x j) (same_block l n k e) = refl
places_one new other one p q r s (same_function j) (same_row n k) = refl
places_one new other one p q r s (same_function j) (same_line n y k) = refl
places_one new other one p q r s (same_function j) (same_function k) = refl
places_one new other one p q r s (same_function j) (same_block l n k e) = refl
places_one new other one p q r s (same_block l m j e) (same_row n k) = refl
places_one new other one p q r s (same_block l m j e) (same_line n y k) = refl
places_one new other one p q r s (same_block l m j e) (same_function k) = refl
places_one new other one p q r s (same_block l m j e) (same_block h i k d) = ap (λ b. b && (j == k)) (one l m h i e d)

pub values_one : (new other : Supply) (f : Op) → Fresh new f → Fresh other f → OneToOne (SameValue new other)
values_one new other f here there a b c d (old_number m p q) (old_number n r s) = refl
values_one new other f here there a b c d (old_number m p q) (new_number r s e) = p r ∙ sym (q s)
values_one new other f here there a b c d (new_number r s e) (old_number m p q) = eqb_sym _ m ∙ p r ∙ sym (q s) ∙ eqb_sym m _
values_one new other f here there a b c d (new_number p q e) (new_number r s g) =
    here.values p r ∙ places_one new other (labels_one new other f here there) p q r s e g ∙ sym (there.values q s)

-- A function goes together with itself

all_old : {P Q : ℕ → Type 0} {R : ℕ → ℕ → Type 0} → ((n : ℕ) → P n → Q n → R n n) → (ns : List ℕ) → EachOf P ns → EachOf Q ns → RenAll R ns ns
all_old both [] p q = none_all
all_old both (n ∷ ns) p q = more_all (both n p.0 q.0) (all_old both ns p.1 q.1)

values_old : {P Q : ℕ → Type 0} {R : ℕ → ℕ → Type 0} → ((n : ℕ) → P n → Q n → R n n) → (vs : Values) → EachValue P vs → EachValue Q vs → RenValues R vs vs
values_old both [] p q = none_values
values_old both (v ∷ vs) p q = more_values (both v.0 p.0 q.0) (values_old both vs p.1 q.1)

mutual
  op_old : {P Q U V : ℕ → Type 0} {R L : ℕ → ℕ → Type 0} → ((n : ℕ) → P n → Q n → R n n) → ((n : ℕ) → U n → V n → L n n) → (o : Op) → EachOp P U o → EachOp Q V o → RenOp R L o o
  op_old value label (op k results operands regions successors) p q =
      ren_op (values_old value results p.0 q.0) (all_old value operands p.1 q.1) (regions_old value label regions p.2 q.2) (all_old label successors p.3 q.3)

  ops_old : {P Q U V : ℕ → Type 0} {R L : ℕ → ℕ → Type 0} → ((n : ℕ) → P n → Q n → R n n) → ((n : ℕ) → U n → V n → L n n) → (o : Ops) → EachOps P U o → EachOps Q V o → RenOps R L o o
  ops_old value label end_of_ops p q = ops_ended
  ops_old value label (more_ops o os) p q = ren_more (op_old value label o p.0 q.0) (ops_old value label os p.1 q.1)

  regions_old : {P Q U V : ℕ → Type 0} {R L : ℕ → ℕ → Type 0} → ((n : ℕ) → P n → Q n → R n n) → ((n : ℕ) → U n → V n → L n n) → (o : Regions) → EachRegion P U o → EachRegion Q V o → RenRegions R L o o
  regions_old value label end_of_regions p q = regions_ended
  regions_old value label (region blocks more) p q = ren_region (blocks_old value label blocks p.0 q.0) (regions_old value label more p.1 q.1)

  blocks_old : {P Q U V : ℕ → Type 0} {R L : ℕ → ℕ → Type 0} → ((n : ℕ) → P n → Q n → R n n) → ((n : ℕ) → U n → V n → L n n) → (o : Blocks) → EachBlock P U o → EachBlock Q V o → RenBlocks R L o o
  blocks_old value label end_of_blocks p q = blocks_ended
  blocks_old value label (block l args ops more) p q =
      ren_block (label l p.0 q.0) (values_old value args p.1 q.1) (ops_old value label ops p.2 q.2) (blocks_old value label more p.3 q.3)

pub new_ones : (new other : Supply) → RenSupply (SameValue new other) (SameLabel new other) new other
new_ones new other = record {
  rows = λ n. record { values = λ k. new_number (of_row n k) (of_row n k) (same_row n k); labels = λ k. new_label n k };
  values = λ n piece k. new_number (of_line n piece k) (of_line n piece k) (same_line n piece k);
  parameters = λ k. new_number (of_function k) (of_function k) (same_function k);
  arguments = λ l m e k. new_number (of_block l k) (of_block m k) (same_block l m k e);
}

pub old_function : (new other : Supply) (f : Op) → Fresh new f → Fresh other f → RenOp (SameValue new other) (SameLabel new other) f f
old_function new other f here there = op_old (λ n a b. old_number n a b) (λ l a b. old_label l a b) f here.apart there.apart

-- for any two fresh supplies the conversions of a function are the same up to numbers
pub supplies_agree : (p : Pass) (bits : ℕ) (new other : Supply) (f : Op) → TableRenames bits p.table → Fresh new f → Fresh other f
    → RenAnswer (SameValue new other) (SameLabel new other) (conv p bits new f) (conv p bits other f)
supplies_agree p bits new other f all here there =
    conversion_renames (SameValue new other) (SameLabel new other) p bits new other f f (values_one new other f here there) (labels_one new other f here there) all (new_ones new other)
    (old_function new other f here there)
