-- A block by its label among blocks with these heads.
use Rattle.std.proofs.Common.{◌≡◌, ℕ, zero, suc, ◌==◌, Bool, false, List, [], ◌∷◌, map, refl, sym, ap, ◌∙◌}
use Rattle.std.specs.Prelude.{Option, Some, None}
use Rattle.std.specs.Option.{option_copied, option_map}
use Rattle.std.specs.List.{slice_get}
use Rattle.std.specs.Borrow.{Bor}
use Rattle.tree_model.specs.declared.op_tree.BlockTree.{BlockTree}
use Rattle.plain_tree.specs.Types.{PlainType}
use Rattle.plain_tree.specs.Ops.{PlainBlock, blocks_in}
use Rattle.rule_model.specs.Words.{types}
use Rattle.rule_model.specs.Facts.{Head, Target, target}
use Rattle.rule_facts.specs.declared.facts.Head as code
use Rattle.rule_facts.specs.Views.{head_view, heads_view}
use Rattle.value_types.specs.Trees.{plain_block}
use Rattle.value_types.specs.Views.{plain_types}
use Rattle.function_tests.specs.Heads.{head_at, heads_in, place_of}
use Rattle.function_tests.proofs.Heads.{at_front, block_found, first_found, found_at}

at_of : {A B : Type 0} (f : A → B) (xs : List A) (n : ℕ) → slice_get (map f xs) n ≡ option_map f (slice_get xs n)
at_of f [] n = refl
at_of f (x ∷ xs) zero = refl
at_of f (x ∷ xs) (suc n) = at_of f xs n

args_of : (o : Option PlainBlock) → option_map (λ h. h.args) (option_map head_at o) ≡ option_map (λ b. types b.args) o
args_of None = refl
args_of (Some b) = refl

two_steps : (o : Option BlockTree) → option_map (λ b. head_at (plain_block b)) o ≡ option_map head_at (option_map plain_block o)
two_steps None = refl
two_steps (Some b) = refl

seen_args : (o : Option (Bor code.Head)) → option_map (λ h. plain_types h.now.args.items) o ≡ option_map (λ (h : Head). h.args) (option_map head_view (option_copied o))
seen_args None = refl
seen_args (Some h) = refl

abbrev target_with : Option (List PlainType) → Bool → Target
target_with args first = record { args = args; first = first }

pub target_some : (hs : List code.Head) (bs : List BlockTree) (l place : ℕ) (o : Option (Bor code.Head)) → heads_view hs ≡ heads_in bs → Some place ≡ place_of l bs
    → option_copied o ≡ slice_get hs place
    → target_with (option_map (λ h. plain_types h.now.args.items) o) (place == 0) ≡ target (blocks_in (map plain_block bs)) l
target_some hs bs l place o same e is =
    ap (λ a. target_with a (place == 0)) (
    seen_args o
    ∙ ap (λ p. option_map (λ (h : Head). h.args) (option_map head_view p)) is
    ∙ ap (option_map (λ (h : Head). h.args)) (sym (at_of head_view hs place) ∙ ap (λ xs. slice_get xs place) same ∙ at_of (λ b. head_at (plain_block b)) bs place ∙ two_steps (slice_get bs place))
    ∙ args_of (option_map plain_block (slice_get bs place))
    ∙ ap (λ p. option_map (λ (b : PlainBlock). types b.args) (found_at bs p)) e
    ∙ ap (option_map (λ (b : PlainBlock). types b.args)) (sym (block_found l bs)))
    ∙ ap (target_with (target (blocks_in (map plain_block bs)) l).args) (ap at_front e ∙ sym (first_found l bs))

pub target_none : (bs : List BlockTree) (l : ℕ) → None ≡ place_of l bs → target_with None false ≡ target (blocks_in (map plain_block bs)) l
target_none bs l e =
    ap (λ a. target_with a false) (ap (λ p. option_map (λ (b : PlainBlock). types b.args) (found_at bs p)) e ∙ ap (option_map (λ (b : PlainBlock). types b.args)) (sym (block_found l bs)))
    ∙ ap (target_with (target (blocks_in (map plain_block bs)) l).args) (ap at_front e ∙ sym (first_found l bs))
