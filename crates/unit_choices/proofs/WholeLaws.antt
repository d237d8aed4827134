-- The parts of a function's choices put together, as code finds them.
use Rattle.std.proofs.Common.{◌≡◌, ℕ, zero, suc, ◌+◌, ◌<◌, ◌≤◌, true, List, [], ◌∷◌, ◌++◌, drop, get_or, length, map, Option, Some, Ok, Err, Bor, refl, sym, ap, subst, ◌∙◌, arith}
use Rattle.tree_model.specs.declared.op_tree.OpTree.{OpTree}
use Rattle.plain_tree.specs.Types.{PlainType}
use Rattle.plain_tree.specs.Ops.{Op, plain_op}
use Rattle.conversion_model.specs.Conversion.{Pass, Supply, first_unlegalised}
use Rattle.conversion_model.specs.Fresh.{Fresh}
use Rattle.conversion_model.specs.Uses.{operations, types_of}
use Rattle.tree_walk.specs.Walks.{plain_ops}
use Rattle.tree_walk.proofs.WalkLayers.{operations_are}
use Rattle.unit_slots.specs.declared.slots.Choices.{Choices}
use Rattle.unit_slots.specs.declared.slots.Framing.{Framing}
use Rattle.unit_slots.specs.declared.slots.Slot.{Slot}
use Rattle.unit_choices.specs.declared.unlegalised.UnlegalisedTree.{UnlegalisedTree}
use Rattle.unit_choices.specs.Answers.{Chose, FramingIs, SlotsAre, unlegalised}
use Rattle.unit_choices.specs.Separate.{Separate}
use Rattle.unit_choices.specs.Slotting.{EachSeparate}
use Rattle.unit_choices.proofs.ListLaws.{inner, list_first, separate_first, separate_inner}
use Rattle.unit_choices.proofs.SlotLaws.{all_chosen, first_fails, inner_fails}

-- Operations of code

pub op_at : (ops : List (Bor OpTree)) (k : ℕ) (r : Bor OpTree) → r ≡ get_or ops k r → plain_op r.now ≡ get_or (plain_ops ops) k (plain_op r.now)
op_at [] k r is = refl
op_at (q ∷ ops) zero r is = ap (λ (s : Bor OpTree). plain_op s.now) is
op_at (q ∷ ops) (suc k) r is = op_at ops k r is

as_many : (ops : List (Bor OpTree)) → length (plain_ops ops) ≡ length ops
as_many [] = refl
as_many (q ∷ ops) = ap suc (as_many ops)

pub below_ops : (ops : List (Bor OpTree)) (k : ℕ) → k < length ops → k < length (plain_ops ops)
below_ops ops k h = subst (λ n. k < n) (sym (as_many ops)) h

pub above_ops : (ops : List (Bor OpTree)) (k : ℕ) → length ops ≤ k → length (plain_ops ops) ≤ k
above_ops ops k h = subst (λ n. n ≤ k) (sym (as_many ops)) h

length_one : (xs : List Slot) (s : Slot) → length (xs ++ s ∷ []) ≡ length xs + 1
length_one [] s = refl
length_one (x ∷ xs) s = let e : suc (length xs + 1) ≡ suc (length xs) + 1 = omega arith in ap suc (length_one xs s) ∙ e

pub one_more : (slots more : List Slot) (s : Slot) (n : ℕ) → length slots ≡ n → more ≡ slots ++ s ∷ [] → length more ≡ n + 1
one_more slots more s n many e = ap length e ∙ length_one slots s ∙ ap (λ k. k + 1) many

behind : (ops : List (Bor OpTree)) → plain_ops (drop 1 ops) ≡ drop 1 (plain_ops ops)
behind [] = refl
behind (q ∷ ops) = refl

pub inner_ops : (f : Op) (list rest : List (Bor OpTree)) → plain_ops list ≡ map (λ (o : ℕ × Op). o.1) (operations f) → rest ≡ drop 1 list → plain_ops rest ≡ inner f
inner_ops f list rest all e =
    ap plain_ops e ∙ behind list ∙ ap (drop 1) (all ∙ sym (operations_are f) ∙ list_first f)

-- With the types of code

pub apart_inner : (new : Supply) (f : Op) (type_of : ℕ → PlainType) (os : List Op) → Fresh new f → type_of ≡ types_of f → os ≡ inner f → EachSeparate new type_of os
apart_inner new f type_of os fresh same ops =
    subst (λ (t : ℕ → PlainType). EachSeparate new t os) (sym same) (subst (EachSeparate new (types_of f)) (sym ops) (separate_inner new f fresh))

pub apart_first : (new : Supply) (f : Op) (type_of : ℕ → PlainType) → Fresh new f → type_of ≡ types_of f → Separate (new.row 0) type_of f
apart_first new f type_of fresh same = subst (λ (t : ℕ → PlainType). Separate (new.row 0) t f) (sym same) (separate_first new f 0 fresh)

pub whole_chosen : (p : Pass) (bits : ℕ) (new : Supply) (f : Op) (type_of : ℕ → PlainType) (os : List Op) (c : Choices) → type_of ≡ types_of f → os ≡ inner f
    → FramingIs p bits new type_of f (Ok c.framing) → SlotsAre p bits new type_of os (Ok c.slots.items) → Chose p bits new f c
whole_chosen p bits new f type_of os c same ops frame slots =
    all_chosen p bits new f os c (subst (λ (t : ℕ → PlainType). FramingIs p bits new t f (Ok c.framing)) same frame) ops
    (subst (λ (t : ℕ → PlainType). SlotsAre p bits new t os (Ok c.slots.items)) same slots)

pub whole_fails : (p : Pass) (bits : ℕ) (new : Supply) (f : Op) (type_of : ℕ → PlainType) (os : List Op) (framing : Option Framing) (e : UnlegalisedTree) → type_of ≡ types_of f → os ≡ inner f
    → FramingIs p bits new type_of f (Ok framing) → SlotsAre p bits new type_of os (Err e) → first_unlegalised p bits new (types_of f) (operations f) ≡ Some (unlegalised e)
whole_fails p bits new f type_of os framing e same ops frame slots =
    let there : FramingIs p bits new (types_of f) f (Ok framing) = subst (λ (t : ℕ → PlainType). FramingIs p bits new t f (Ok framing)) same frame in
    inner_fails p bits new f os (unlegalised e) there.0 ops
    (subst (λ (t : ℕ → PlainType). SlotsAre p bits new t os (Err e)) same slots)

pub frame_fails : (p : Pass) (bits : ℕ) (new : Supply) (f : Op) (type_of : ℕ → PlainType) (e : UnlegalisedTree) → type_of ≡ types_of f
    → FramingIs p bits new type_of f (Err e) → first_unlegalised p bits new (types_of f) (operations f) ≡ Some (unlegalised e)
frame_fails p bits new f type_of e same frame =
    let there : FramingIs p bits new (types_of f) f (Err e) = subst (λ (t : ℕ → PlainType). FramingIs p bits new t f (Err e)) same frame in
    first_fails p bits new f (unlegalised e) there.0 there.1
