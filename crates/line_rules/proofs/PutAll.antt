-- What stands for each operation of a verified function, from what stands for one.
use Rattle.std.proofs.Common.{◌≡◌, ℕ, ◌+◌, true, List, [], None, Some, Option}
use Rattle.plain_tree.specs.Types.{PlainType}
use Rattle.plain_tree.specs.Ops.{Kind, Op, op, Ops, end_of_ops, more_ops, Regions, end_of_regions, region, Blocks, end_of_blocks, block, Values}
use Rattle.rule_model.specs.Facts.{Functions, Holder}
use Rattle.rule_model.specs.Formed.{are_formed_blocks, are_formed_ops, are_formed_regions, are_formed_values, is_formed_here, is_formed_op, is_inner_name, own_labels}
use Rattle.rule_model.specs.Sites.{holds}
use Rattle.rule_model.proofs.Numbers.{and_first, and_second}
use Rattle.conversion_model.specs.Items.{blocks_size, op_size, ops_size, Ways}
use Rattle.line_rules.specs.Kept.{KeptBlocks, KeptOp, KeptOps, KeptRegions}
use Rattle.line_rules.specs.Lines.{Put}
use Rattle.line_rules.proofs.LinedItems.{PutBlocks, PutOp, PutOps, PutRegions}
use Rattle.line_rules.proofs.Numbered.{AtBlocks, AtOp, AtOps, AtRegions}

module _ (way : Ways) (K : ℕ → Op → Type 0) (G : ℕ → Op → List Op → Type 0) (H : ℕ → Op → List Op → Op → Type 0) (uncut : (n : ℕ) (o : Op) → way.cuts n o ≡ None) (T : ℕ → PlainType) (at : ℕ → List ℕ) (was : List ℕ)
    (here : (c : Functions) (h : Option Holder) (bs : Blocks) (rest : Ops) (labels : List ℕ) (n : ℕ) (k : Kind) (rs : Values) (os ls : List ℕ) (r s : Regions) → at n ≡ os → KeptOp c T h bs rest (op k rs os r ls) → is_formed_op was labels (op k rs os r ls) ≡ true
    → Put K G H n (op k rs os r ls) (op k rs os s ls) (way.line (record { number = n; piece = 0; path = [] }) (way.shape (op k rs os r ls)) (op k rs os s ls))) where
  mutual
    put_op : (c : Functions) (h : Option Holder) (bs : Blocks) (rest : Ops) (labels : List ℕ) (n : ℕ) (o : Op) → AtOp at n o → KeptOp c T h bs rest o → is_formed_op was labels o ≡ true → PutOp way K G H uncut n o
    put_op c h bs rest labels n (op k rs os r ls) a kept e = (
      λ s. here c h bs rest labels n k rs os ls r s a.0 kept e,
      put_regions c (holds T (op k rs os r ls)) 0 (n + 1) r a.1 kept.1 (and_second (is_formed_here was labels k rs os ls) _ (and_second (is_inner_name k.name) _ e)),
    )

    put_ops_all : (c : Functions) (h : Option Holder) (bs : Blocks) (labels : List ℕ) (n : ℕ) (os : Ops) → AtOps at n os → KeptOps c T h bs os → are_formed_ops was labels os ≡ true → PutOps way K G H uncut n os
    put_ops_all c h bs labels n end_of_ops a kept e = tt
    put_ops_all c h bs labels n (more_ops o rest) a kept e =
        (put_op c h bs rest labels n o a.0 kept.0 (and_first (is_formed_op was labels o) _ e), put_ops_all c h bs labels (n + op_size o) rest a.1 kept.1 (and_second (is_formed_op was labels o) _ e))

    pub put_regions : (c : Functions) (holder : ℕ → Holder) (m n : ℕ) (rs : Regions) → AtRegions at n rs → KeptRegions c T holder m rs → are_formed_regions was rs ≡ true → PutRegions way K G H uncut n rs
    put_regions c holder m n end_of_regions a kept e = tt
    put_regions c holder m n (region b r) a kept e = (
      put_blocks c (Some (holder m)) b (own_labels b) n b a.0 kept.0 (and_first (are_formed_blocks was (own_labels b) b) _ e),
      put_regions c holder (m + 1) (n + blocks_size b) r a.1 kept.1 (and_second (are_formed_blocks was (own_labels b) b) _ e),
    )

    put_blocks : (c : Functions) (h : Option Holder) (bs : Blocks) (labels : List ℕ) (n : ℕ) (cs : Blocks) → AtBlocks at n cs → KeptBlocks c T h bs cs → are_formed_blocks was labels cs ≡ true → PutBlocks way K G H uncut n cs
    put_blocks c h bs labels n end_of_blocks a kept e = tt
    put_blocks c h bs labels n (block l args ops more) a kept e =
        let parts = and_second (are_formed_values args) _ e in
        (put_ops_all c h bs labels n ops a.0 kept.0 (and_first (are_formed_ops was labels ops) _ parts), put_blocks c h bs labels (n + ops_size ops) more a.1 kept.1 (and_second (are_formed_ops was labels ops) _ parts))
