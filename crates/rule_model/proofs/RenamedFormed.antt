-- Renaming: a formed function stays formed.
use Rattle.std.proofs.Common.{◌≡◌, ℕ, Bool, List, refl, ap, ◌∙◌}
use Rattle.std.specs.Prelude.{◌&&◌, not}
use Rattle.std.specs.List.{list_all}
use Rattle.plain_tree.specs.Ops.{Kind, Op, Ops, Regions, Blocks, Values}
use Rattle.plain_tree.specs.Renamings.{RenAll, none_all, more_all, RenValues, none_values, more_values, RenOp, ren_op, RenOps, ops_ended, ren_more, RenRegions, regions_ended, ren_region, RenBlocks, blocks_ended, ren_block, OneToOne}
use Rattle.rule_model.specs.Words.{has}
use Rattle.rule_model.specs.Formed.{are_formed_blocks, are_formed_entries, are_formed_ops, are_formed_regions, are_formed_values, are_once, blocks_labels, is_formed_function, is_formed_here, is_formed_op, is_formed_type, is_function_name, is_inner_name, op_labels, ops_labels, own_labels, regions_labels}
use Rattle.rule_model.proofs.RenamedFacts.{all_joined, has_same, numbers_ren, op_values_ren}

two : {a b c d : Bool} → a ≡ b → c ≡ d → (a && c) ≡ (b && d)
two {b = b} {c = c} e f = ap (λ x. x && c) e ∙ ap (λ x. b && x) f

once_same : {R : ℕ → ℕ → Type 0} {ms ns : List ℕ} → OneToOne R → RenAll R ms ns → are_once ms ≡ are_once ns
once_same one none_all = refl
once_same one (more_all r rest) = two (ap not (has_same one r rest)) (once_same one rest)

among_same : {R : ℕ → ℕ → Type 0} {ds es ms ns : List ℕ} → OneToOne R → RenAll R ds es → RenAll R ms ns → list_all (λ v. has v ds) ms ≡ list_all (λ v. has v es) ns
among_same one all none_all = refl
among_same one all (more_all r rest) = two (has_same one r all) (among_same one all rest)

values_same : {R : ℕ → ℕ → Type 0} {vs ws : Values} → RenValues R vs ws → are_formed_values vs ≡ are_formed_values ws
values_same none_values = refl
values_same (more_values {t = t} r rest) = ap (λ x. is_formed_type t && x) (values_same rest)

mutual
  labels_ren : {R L : ℕ → ℕ → Type 0} {o p : Op} → RenOp R L o p → RenAll L (op_labels o) (op_labels p)
  labels_ren (ren_op vs os r ls) = regions_labels_ren r

  ops_labels_ren : {R L : ℕ → ℕ → Type 0} {o p : Ops} → RenOps R L o p → RenAll L (ops_labels o) (ops_labels p)
  ops_labels_ren ops_ended = none_all
  ops_labels_ren (ren_more o rest) = all_joined (labels_ren o) (ops_labels_ren rest)

  regions_labels_ren : {R L : ℕ → ℕ → Type 0} {o p : Regions} → RenRegions R L o p → RenAll L (regions_labels o) (regions_labels p)
  regions_labels_ren regions_ended = none_all
  regions_labels_ren (ren_region b rest) = all_joined (blocks_labels_ren b) (regions_labels_ren rest)

  blocks_labels_ren : {R L : ℕ → ℕ → Type 0} {o p : Blocks} → RenBlocks R L o p → RenAll L (blocks_labels o) (blocks_labels p)
  blocks_labels_ren blocks_ended = none_all
  blocks_labels_ren (ren_block l vs os rest) = more_all l (all_joined (ops_labels_ren os) (blocks_labels_ren rest))

own_ren : {R L : ℕ → ℕ → Type 0} {o p : Blocks} → RenBlocks R L o p → RenAll L (own_labels o) (own_labels p)
own_ren blocks_ended = none_all
own_ren (ren_block l vs os rest) = more_all l (own_ren rest)

here_same : {R L : ℕ → ℕ → Type 0} {ds es ks ls os ps ms ns : List ℕ} {vs ws : Values} (k : Kind)
    → OneToOne R → OneToOne L → RenAll R ds es → RenAll L ks ls → RenValues R vs ws → RenAll R os ps → RenAll L ms ns
    → is_formed_here ds ks k vs os ms ≡ is_formed_here es ls k ws ps ns
here_same k one own defined labels vs os ms =
    two (among_same one defined os) (two (among_same own labels ms) (ap (λ x. x && (are_formed_entries k.props && are_formed_entries k.attrs)) (values_same vs)))

mutual
  op_same : {R L : ℕ → ℕ → Type 0} {ds es ks ls : List ℕ} {o p : Op} → OneToOne R → OneToOne L → RenAll R ds es → RenAll L ks ls → RenOp R L o p
      → is_formed_op ds ks o ≡ is_formed_op es ls p
  op_same one own defined labels (ren_op {k = k} vs os r ms) =
      ap (λ x. is_inner_name k.name && x) (two (here_same k one own defined labels vs os ms) (regions_same one own defined r))

  ops_same : {R L : ℕ → ℕ → Type 0} {ds es ks ls : List ℕ} {o p : Ops} → OneToOne R → OneToOne L → RenAll R ds es → RenAll L ks ls → RenOps R L o p
      → are_formed_ops ds ks o ≡ are_formed_ops es ls p
  ops_same one own defined labels ops_ended = refl
  ops_same one own defined labels (ren_more o rest) = two (op_same one own defined labels o) (ops_same one own defined labels rest)

  regions_same : {R L : ℕ → ℕ → Type 0} {ds es : List ℕ} {o p : Regions} → OneToOne R → OneToOne L → RenAll R ds es → RenRegions R L o p
      → are_formed_regions ds o ≡ are_formed_regions es p
  regions_same one own defined regions_ended = refl
  regions_same one own defined (ren_region b rest) = two (blocks_same one own defined (own_ren b) b) (regions_same one own defined rest)

  blocks_same : {R L : ℕ → ℕ → Type 0} {ds es ks ls : List ℕ} {o p : Blocks} → OneToOne R → OneToOne L → RenAll R ds es → RenAll L ks ls → RenBlocks R L o p
      → are_formed_blocks ds ks o ≡ are_formed_blocks es ls p
  blocks_same one own defined labels blocks_ended = refl
  blocks_same one own defined labels (ren_block l vs os rest) =
      two (values_same vs) (two (ops_same one own defined labels os) (blocks_same one own defined labels rest))

pub function_same : {R L : ℕ → ℕ → Type 0} {f g : Op} → OneToOne R → OneToOne L → RenOp R L f g → is_formed_function f ≡ is_formed_function g
function_same one own (ren_op {k = k} vs os r ms) =
    let defined = numbers_ren (op_values_ren (ren_op {k = k} vs os r ms) none_values) in
    ap (λ x. is_function_name k.name && x)
    (two (once_same one defined) (two (once_same own (regions_labels_ren r)) (two (here_same k one own defined none_all vs os ms) (regions_same one own defined r))))
