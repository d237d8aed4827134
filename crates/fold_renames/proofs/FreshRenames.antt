-- Functions that are the same but for numbers, and what a pass makes of them with any fresh new numbers.
use Rattle.std.proofs.Common.{◌≡◌, ℕ, ◌==◌, Bool, true, false, List, [], ◌∷◌, refl, sym, ap, ◌∙◌}
use Rattle.std.specs.Prelude.{◌&&◌, Result, Ok, Err}
use Rattle.std.proofs.lemmas.Bool.{eqb-true}
use Rattle.pipeline_text.specs.declared.pass.PassName.{PassName}
use Rattle.plain_tree.specs.Ops.{Op, op, Ops, end_of_ops, more_ops, Regions, end_of_regions, region, Blocks, end_of_blocks, block, Values}
use Rattle.conversion_model.specs.Conversion.{Supply, Unlegalised}
use Rattle.conversion_model.specs.Fresh.{Place, of_row, of_line, of_function, of_block, same_place, new_value, EachOf, EachValue, EachOp, EachOps, EachRegion, EachBlock, IsOld, IsOldLabel, Fresh}
use Rattle.conversion_model.specs.Renamings.{RenAll, none_all, more_all, RenValues, none_values, more_values, RenOp, ren_op, RenOps, ops_ended, ren_more, RenRegions, regions_ended, ren_region, RenBlocks, blocks_ended, ren_block, OneToOne, RenSupply, RenAnswer, same_failure, ren_function}
use Rattle.conversion_model.proofs.ReconcileLaws.{same_number}
use Rattle.pattern_model.specs.PassTable.{pass_tree}
use Rattle.pattern_model.proofs.PassRenames.{pass_tree_renames}

-- the same but for numbers: some values go together and some labels do, both one to one
pub record Alike (f g : Op) : Type 1 where
  pub R : ℕ → ℕ → Type 0
  pub L : ℕ → ℕ → Type 0
  pub values : OneToOne R
  pub labels : OneToOne L
  pub same : RenOp R L f g

-- A function and itself

abbrev Itself : ℕ → ℕ → Type 0
Itself m n = m ≡ n

itself_one : OneToOne Itself
itself_one a b c d e h = ap (λ n. n == c) e ∙ ap (λ n. b == n) h

self_all : (ns : List ℕ) → RenAll Itself ns ns
self_all [] = none_all
self_all (n ∷ ns) = more_all refl (self_all ns)

self_values : (vs : Values) → RenValues Itself vs vs
self_values [] = none_values
self_values (v ∷ vs) = more_values refl (self_values vs)

mutual
  self_op : (o : Op) → RenOp Itself Itself o o
  self_op (op k results operands regions successors) = ren_op (self_values results) (self_all operands) (self_regions regions) (self_all successors)

  self_ops : (os : Ops) → RenOps Itself Itself os os
  self_ops end_of_ops = ops_ended
  self_ops (more_ops o os) = ren_more (self_op o) (self_ops os)

  self_regions : (rs : Regions) → RenRegions Itself Itself rs rs
  self_regions end_of_regions = regions_ended
  self_regions (region blocks more) = ren_region (self_blocks blocks) (self_regions more)

  self_blocks : (bs : Blocks) → RenBlocks Itself Itself bs bs
  self_blocks end_of_blocks = blocks_ended
  self_blocks (block l args ops more) = ren_block refl (self_values args) (self_ops ops) (self_blocks more)

pub alike_self : (f : Op) → Alike f f
alike_self f = record { R = Itself; L = Itself; values = itself_one; labels = itself_one; same = self_op f }

-- Old numbers that go together, and new ones

data Labels (L : ℕ → ℕ → Type 0) (new other : Supply) : ℕ → ℕ → Type 0 where
  old_label : (l m : ℕ) → L l m → IsOldLabel new l → IsOldLabel other m → Labels L new other l m
  new_label : (n k : ℕ) → Labels L new other ((new.row n).label k) ((other.row n).label k)

-- places that go together: the same, but for labels that go together
data Places (L : ℕ → ℕ → Type 0) (new other : Supply) : Place → Place → Type 0 where
  same_row : (n k : ℕ) → Places L new other (of_row n k) (of_row n k)
  same_line : (n piece k : ℕ) → Places L new other (of_line n piece k) (of_line n piece k)
  same_function : (k : ℕ) → Places L new other (of_function k) (of_function k)
  same_block : (l m k : ℕ) → Labels L new other l m → Places L new other (of_block l k) (of_block m k)

data Numbers (R L : ℕ → ℕ → Type 0) (new other : Supply) : ℕ → ℕ → Type 0 where
  old_number : (m n : ℕ) → R m n → IsOld new m → IsOld other n → Numbers R L new other m n
  new_number : (p q : Place) → Places L new other p q → Numbers R L new other (new_value new p) (new_value other q)

sym_by : (m n : ℕ) (a b : Bool) → (m == n) ≡ a → (n == m) ≡ b → a ≡ b
sym_by m n true true p q = refl
sym_by m n false false p q = refl
sym_by m n true false p q = sym (same_number n m (sym (eqb-true m n p))) ∙ q
sym_by m n false true p q = sym p ∙ same_number m n (sym (eqb-true n m q))

eqb_sym : (m n : ℕ) → (m == n) ≡ (n == m)
eqb_sym m n = sym_by m n (m == n) (n == m) refl refl

labels_one : (L : ℕ → ℕ → Type 0) (new other : Supply) (f g : Op) → OneToOne L → Fresh new f → Fresh other g → OneToOne (Labels L new other)
labels_one L new other f g one here there a b c d (old_label l m e p q) (old_label h i j r s) = one l m h i e j
labels_one L new other f g one here there a b c d (old_label l m e p q) (new_label n k) = p n k ∙ sym (q n k)
labels_one L new other f g one here there a b c d (new_label n k) (old_label l m e p q) = eqb_sym _ l ∙ p n k ∙ sym (q n k) ∙ eqb_sym m _
labels_one L new other f g one here there a b c d (new_label m j) (new_label n k) = here.labels m j n k ∙ sym (there.labels m j n k)

places_one : (L : ℕ → ℕ → Type 0) (new other : Supply) → OneToOne (Labels L new other) → (p q r s : Place) → Places L new other p q → Places L new other r s → same_place p r ≡ same_place q s
places_one L new other one p q r s (same_row m j) (same_row n k) = refl
places_one L new other one p q r s (same_row m j) (same_line n piece k) = refl
places_one L new other one p q r s (same_row m j) (same_function k) = refl
places_one L new other one p q r s (same_row m j) (same_block l n k e) = refl
places_one L new other one p q r s (same_line m piece j) (same_row n k) = refl
places_one L new other one p q r s (same_line m x j) (same_line n y k) = refl
places_one L new other one p q r s (same_line m x j) (same_function k) = refl
places_one L new other one p q r s (same_line m x j) (same_block l n k e) = refl
places_one L new other one p q r s (same_function j) (same_row n k) = refl
places_one L new other one p q r s (same_function j) (same_line n y k) = refl
places_one L new other one p q r s (same_function j) (same_function k) = refl
places_one L new other one p q r s (same_function j) (same_block l n k e) = refl
places_one L new other one p q r s (same_block l m j e) (same_row n k) = refl
places_one L new other one p q r s (same_block l m j e) (same_line n y k) = refl
places_one L new other one p q r s (same_block l m j e) (same_function k) = refl
places_one L new other one p q r s (same_block l m j e) (same_block h i k d) = ap (λ b. b && (j == k)) (one l m h i e d)

values_one : (R L : ℕ → ℕ → Type 0) (new other : Supply) (f g : Op) → OneToOne R → OneToOne L → Fresh new f → Fresh other g → OneToOne (Numbers R L new other)
values_one R L new other f g one labels here there a b c d (old_number m n e p q) (old_number h i j r s) = one m n h i e j
values_one R L new other f g one labels here there a b c d (old_number m n e p q) (new_number r s h) = p r ∙ sym (q s)
values_one R L new other f g one labels here there a b c d (new_number r s h) (old_number m n e p q) = eqb_sym _ m ∙ p r ∙ sym (q s) ∙ eqb_sym n _
values_one R L new other f g one labels here there a b c d (new_number p q e) (new_number r s h) =
    here.values p r ∙ places_one L new other (labels_one L new other f g labels here there) p q r s e h ∙ sym (there.values q s)

-- numbers of two functions that are both old go together as before

all_both : {P Q : ℕ → Type 0} {R S : ℕ → ℕ → Type 0} {ms ns : List ℕ} → ((m n : ℕ) → R m n → P m → Q n → S m n) → RenAll R ms ns → EachOf P ms → EachOf Q ns → RenAll S ms ns
all_both both none_all p q = none_all
all_both both (more_all {m = m} {n = n} e rest) p q = more_all (both m n e p.0 q.0) (all_both both rest p.1 q.1)

values_both : {P Q : ℕ → Type 0} {R S : ℕ → ℕ → Type 0} {vs ws : Values} → ((m n : ℕ) → R m n → P m → Q n → S m n) → RenValues R vs ws → EachValue P vs → EachValue Q ws → RenValues S vs ws
values_both both none_values p q = none_values
values_both both (more_values {m = m} {n = n} e rest) p q = more_values (both m n e p.0 q.0) (values_both both rest p.1 q.1)

mutual
  op_both : {P Q U V : ℕ → Type 0} {R S L M : ℕ → ℕ → Type 0} {o x : Op} → ((m n : ℕ) → R m n → P m → Q n → S m n) → ((m n : ℕ) → L m n → U m → V n → M m n)
      → RenOp R L o x → EachOp P U o → EachOp Q V x → RenOp S M o x
  op_both value label (ren_op vs os rs ls) p q = ren_op (values_both value vs p.0 q.0) (all_both value os p.1 q.1) (regions_both value label rs p.2 q.2) (all_both label ls p.3 q.3)

  ops_both : {P Q U V : ℕ → Type 0} {R S L M : ℕ → ℕ → Type 0} {o x : Ops} → ((m n : ℕ) → R m n → P m → Q n → S m n) → ((m n : ℕ) → L m n → U m → V n → M m n)
      → RenOps R L o x → EachOps P U o → EachOps Q V x → RenOps S M o x
  ops_both value label ops_ended p q = ops_ended
  ops_both value label (ren_more o os) p q = ren_more (op_both value label o p.0 q.0) (ops_both value label os p.1 q.1)

  regions_both : {P Q U V : ℕ → Type 0} {R S L M : ℕ → ℕ → Type 0} {o x : Regions} → ((m n : ℕ) → R m n → P m → Q n → S m n) → ((m n : ℕ) → L m n → U m → V n → M m n)
      → RenRegions R L o x → EachRegion P U o → EachRegion Q V x → RenRegions S M o x
  regions_both value label regions_ended p q = regions_ended
  regions_both value label (ren_region b r) p q = ren_region (blocks_both value label b p.0 q.0) (regions_both value label r p.1 q.1)

  blocks_both : {P Q U V : ℕ → Type 0} {R S L M : ℕ → ℕ → Type 0} {o x : Blocks} → ((m n : ℕ) → R m n → P m → Q n → S m n) → ((m n : ℕ) → L m n → U m → V n → M m n)
      → RenBlocks R L o x → EachBlock P U o → EachBlock Q V x → RenBlocks S M o x
  blocks_both value label blocks_ended p q = blocks_ended
  blocks_both value label (ren_block {l = l} {m = m} e vs os b) p q =
      ren_block (label l m e p.0 q.0) (values_both value vs p.1 q.1) (ops_both value label os p.2 q.2) (blocks_both value label b p.3 q.3)

new_ones : (R L : ℕ → ℕ → Type 0) (new other : Supply) → RenSupply (Numbers R L new other) (Labels L new other) new other
new_ones R L new other = record {
  rows = λ n. record { values = λ k. new_number (of_row n k) (of_row n k) (same_row n k); labels = λ k. new_label n k };
  values = λ n piece k. new_number (of_line n piece k) (of_line n piece k) (same_line n piece k);
  parameters = λ k. new_number (of_function k) (of_function k) (same_function k);
  arguments = λ l m e k. new_number (of_block l k) (of_block m k) (same_block l m k e);
}

-- One pass

-- answers that are the same but for numbers: the same failure, or functions that are
pub data AlikeAnswers : Result Op Unlegalised → Result Op Unlegalised → Type 1 where
  fail_alike : (e : Unlegalised) → AlikeAnswers (Err e) (Err e)
  made_alike : (f g : Op) → Alike f g → AlikeAnswers (Ok f) (Ok g)

alike_by : {R L : ℕ → ℕ → Type 0} {x y : Result Op Unlegalised} → OneToOne R → OneToOne L → RenAnswer R L x y → AlikeAnswers x y
alike_by one labels (same_failure {e = e}) = fail_alike e
alike_by {R = R} {L = L} one labels (ren_function {f = f} {g = g} r) = made_alike f g (record { R = R; L = L; values = one; labels = labels; same = r })

pub pass_alike : (name : PassName) (bits : ℕ) (new other : Supply) (f g : Op) → Fresh new f → Fresh other g → Alike f g → AlikeAnswers (pass_tree name bits new f) (pass_tree name bits other g)
pass_alike name bits new other f g here there a =
    let one : OneToOne (Numbers a.R a.L new other) = values_one a.R a.L new other f g a.values a.labels here there in
    let labels : OneToOne (Labels a.L new other) = labels_one a.L new other f g a.labels here there in
    let same : RenOp (Numbers a.R a.L new other) (Labels a.L new other) f g = op_both (λ m n e p q. old_number m n e p q) (λ l m e p q. old_label l m e p q) a.same here.apart there.apart in
    alike_by one labels (pass_tree_renames (Numbers a.R a.L new other) (Labels a.L new other) name bits new other f g one labels (new_ones a.R a.L new other) same)
