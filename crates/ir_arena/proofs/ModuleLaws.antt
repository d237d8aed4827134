-- Functions in order.
use Rattle.std.proofs.Common.{◌≡◌, ℕ, ◌<◌, ◌+◌, List, [], ◌∷◌, ◌++◌, length, get_or, take, sym, subst}
use Rattle.std.specs.List.{AllZip}
use Rattle.key_model.specs.declared.handle.Handle.{Handle}
use Rattle.key_model.specs.declared.key.Key.{Key}
use Rattle.tree_model.specs.declared.attr_tree.AttrTree.{AttrTree}
use Rattle.tree_model.specs.declared.op_tree.FuncTree.{FuncTree}
use Rattle.tree_model.specs.declared.op_tree.ModuleTree.{ModuleTree}
use Rattle.flat_model.specs.Growth.{Kept}
use Rattle.flat_model.specs.Shows.{Itself}
use Rattle.flat_model.proofs.GrowthLaws.{grown_refl, op_later, zip_map}
use Rattle.ir_arena.specs.Arena.{Arena}
use Rattle.ir_arena.specs.Modules.{ArenaShows, ArenaShowsSame}
use Rattle.ir_arena.proofs.BuildLaws.{zip_more}
use Rattle.ir_arena.proofs.ToTreeLaws.{IsAt, zip_at, one_read}

arena_later : (H J : Handle → Key → Type 0) → Kept H J → (a : Arena) (t : FuncTree) → ArenaShows H a t → ArenaShows J a t
arena_later H J kept a t s = op_later H J Itself Itself a.flat a.flat kept (grown_refl a.flat) s

same_later : (H J : Handle → Key → Type 0) → Kept H J → (a : Arena) (t : FuncTree) → ArenaShowsSame H a t → ArenaShowsSame J a t
same_later H J kept a t s = (s.0, (s.1.0, arena_later H J kept a s.0 s.1.1))

pub func_later : (H J : Handle → Key → Type 0) → Kept H J → (xs : List Arena) (ts : List FuncTree) → AllZip (ArenaShows H) xs ts → AllZip (ArenaShows J) xs ts
func_later H J kept xs ts z = zip_map (ArenaShows H) (ArenaShows J) (arena_later H J kept) xs ts z

pub func_made : (H J : Handle → Key → Type 0) (xs zs : List Arena) (ys : List FuncTree) (k : ℕ) (x : Arena) (y : FuncTree)
    → Kept H J → AllZip (ArenaShowsSame H) xs (take k ys) → ArenaShowsSame J x y → y ≡ get_or ys k y → k < length ys → zs ≡ xs ++ x ∷ [] → AllZip (ArenaShowsSame J) zs (take (k + 1) ys)
func_made H J xs zs ys k x y kept a s e h z = zip_more (ArenaShowsSame J) xs zs ys k x y (zip_map (ArenaShowsSame H) (ArenaShowsSame J) (same_later H J kept) xs (take k ys) a) s e h z

pub func_again : (H J : Handle → Key → Type 0) (xs : List Arena) (x : Arena) (made more : List FuncTree) (k : ℕ) (r : FuncTree) → Kept H J
    → ((ts : List FuncTree) → AllZip (ArenaShows H) xs ts → made ≡ take k ts) → x ≡ get_or xs k x → k < length xs → ((t : FuncTree) → ArenaShows J x t → r ≡ t) → more ≡ made ++ r ∷ []
    → (ts : List FuncTree) → AllZip (ArenaShows H) xs ts → more ≡ take (k + 1) ts
func_again H J xs x made more k r kept inv e h g d ts z =
    one_read (ArenaShows H x) ts made more k r (subst (λ (y : Arena). IsAt (ArenaShows H y) ts k) (sym e) (zip_at (ArenaShows H) xs ts k x z h)) (inv ts z) d (λ t s. g t (arena_later H J kept x t s))

pub module_read : (t : ModuleTree) (props attrs : List (List ℕ × AttrTree)) (funcs : List FuncTree) → props ≡ t.props → attrs ≡ t.attrs → funcs ≡ t.funcs
    → let m : ModuleTree = record { props = props; attrs = attrs; funcs = funcs } in m ≡ t
module_read t props attrs funcs a b c = λ i. record { props = a i; attrs = b i; funcs = c i }
