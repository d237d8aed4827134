-- What is built in the end.
use Rattle.std.proofs.Common.{◌≡◌, ℕ, ◌<◌, length, get_or, refl, sym, ap, subst, arith}
use Rattle.std.specs.Prelude.{nat_eq, unwrap_or}
use Rattle.std.specs.HashMap.{get}
use Rattle.key_model.specs.declared.handle.Handle.{Handle}
use Rattle.key_model.specs.declared.key.Key.{Key}
use Rattle.tree_model.specs.declared.op_tree.OpTree.{OpTree}
use Rattle.tree_model.specs.declared.op_tree.FuncTree.{FuncTree}
use Rattle.flat_model.specs.Flat.{Flat, op_at, block_at, IsWithin, IsClosed}
use Rattle.flat_model.proofs.PushLaws.{op_within_more, block_within_more}
use Rattle.flat_model.specs.Growth.{Grown}
use Rattle.flat_model.specs.Shows.{OpShows}
use Rattle.flat_model.specs.Renamed.{ShowsSame}
use Rattle.flat_model.proofs.GrowthLaws.{kept_refl, op_later, op_inside}
use Rattle.flat_model.proofs.RenamedLaws.{IsNaming, shows_same}
use Rattle.ir_arena.specs.declared.numbering.Numbering.{Numbering}
use Rattle.ir_arena.specs.declared.numbering.Numbers.{Numbers}
use Rattle.ir_arena.specs.Building.{Names}

pub closed_at_last : (f : Flat) (root v b : ℕ) → length f.types ≡ v → length f.blocks ≡ b → root < length f.ops → IsWithin v b f → IsClosed (record f { root = root })
closed_at_last f root v b d e h w = record {
  within = let x : IsWithin (length f.types) (length f.blocks) f = subst (λ m. IsWithin m (length f.blocks) f) (sym d) (subst (λ m. IsWithin v m f) (sym e) w) in let a : Flat = record f { root = root } in record {
    op = λ i k. op_within_more (length f.types) (length f.blocks) f a (omega arith) (omega arith) (op_at f i) (x.op i k);
    block = λ i k. block_within_more f a (omega arith) (omega arith) (block_at f i) (x.block i k);
    region = x.region;
  };
  root = h;
}

naming : (n : Numbering) → IsNaming (Names n) (λ k. unwrap_or (get nat_eq n.places k) 0) (λ p. get_or n.numbers.items p 0)
naming n = record { name = λ p k h. ap (λ o. unwrap_or o 0) h.looked_up; number = λ p k h. h.there }

pub shows_at_last : (H : Handle → Key → Type 0) (n : Numbers) (f g : Flat) (root : ℕ) (tree : FuncTree) → g ≡ record f { root = root }
    → OpShows H (Names n.values) (Names n.labels) f root tree.op → ShowsSame H g tree
shows_at_last H n f g root tree e s = let a : Flat = record f { root = root } in
    let same : Grown f a = record { ops = λ i h. refl; blocks = λ i h. refl; regions = λ i h. refl; types = λ i h. refl; more_ops = omega arith; more_blocks = omega arith; more_regions = omega arith; more_types = omega arith } in
    subst (λ (x : Flat). ShowsSame H x tree) (sym e)
    (shows_same H (Names n.values) (Names n.labels) (λ k. unwrap_or (get nat_eq n.values.places k) 0) (λ p. get_or n.values.numbers.items p 0)
    (λ k. unwrap_or (get nat_eq n.labels.places k) 0) (λ p. get_or n.labels.numbers.items p 0) a (naming n.values) (naming n.labels) tree
    (op_later H H (Names n.values) (Names n.labels) f a (kept_refl H) same s))

pub root_inside : (H : Handle → Key → Type 0) (n : Numbers) (f : Flat) (root : ℕ) (tree : OpTree) → OpShows H (Names n.values) (Names n.labels) f root tree → root < length f.ops
root_inside H n f root tree s = op_inside H (Names n.values) (Names n.labels) f s
