-- Functions behind functions in which no rule is broken.
use Rattle.std.proofs.Common.{◌≡◌, ℕ, zero, suc, ◌+◌, ◌<◌, Bool, true, false, true≢false, List, [], ◌∷◌, ◌++◌, map, length, take, drop, get_or, refl, sym, ap, subst, ◌∙◌, append_assoc, arith}
use Rattle.std.proofs.lemmas.Grind.{common_steps}
use Rattle.std.proofs.lemmas.List.{append-nil, length-map, length-take-le, map_more, take-map}
use Rattle.std.specs.Prelude.{◌&&◌, Some, None}
use Rattle.std.specs.List.{list_all}
use Rattle.tree_model.specs.declared.op_tree.FuncTree.{FuncTree}
use Rattle.tree_model.specs.declared.op_tree.OpTree.{out-OpTree}
use Rattle.plain_tree.specs.Attrs.{plain_entries}
use Rattle.plain_tree.specs.Ops.{Op, plain_func}
use Rattle.value_types.proofs.Layers.{plain_op_at}
use Rattle.rule_model.specs.declared.rules.Rule.{Rule}
use Rattle.rule_model.specs.Facts.{declared, Declared, functions, Functions}
use Rattle.first_places.specs.Numbering.{is_numbered_once}
use Rattle.ir_verifier.specs.Sooner.{Found}
use Rattle.ir_verifier.specs.Telling.{TellsFunction}
use Rattle.rule_model.specs.Rules.{BrokenFrom, BrokenIn, SoundFrom, SoundFunction}

one_on : (earlier : List Op) (f : Op) (xs : List Op) → earlier ++ f ∷ xs ≡ (earlier ++ f ∷ []) ++ xs
one_on earlier f xs = sym (append_assoc earlier (f ∷ []) xs)

pub sound_behind : (all earlier xs ys : List Op) → SoundFrom all earlier xs → SoundFrom all (earlier ++ xs) ys → SoundFrom all earlier (xs ++ ys)
sound_behind all earlier [] ys p q = subst (λ e. SoundFrom all e ys) (append-nil earlier) q
sound_behind all earlier (f ∷ xs) ys p q = (p.0, sound_behind all (earlier ++ f ∷ []) xs ys p.1 (subst (λ e. SoundFrom all e ys) (one_on earlier f xs) q))

pub broken_behind : (all earlier xs ys : List Op) (g n : ℕ) (r : Rule) → SoundFrom all earlier xs → BrokenFrom all (earlier ++ xs) ys g n r
    → BrokenFrom all earlier (xs ++ ys) (length xs + g) n r
broken_behind all earlier [] ys g n r p q =
    let same : g ≡ 0 + g = omega arith in
    subst (λ k. BrokenFrom all earlier ys k n r) same (subst (λ e. BrokenFrom all e ys g n r) (append-nil earlier) q)
broken_behind all earlier (f ∷ xs) ys g n r p q =
    let same : suc (length xs + g) ≡ length (f ∷ xs) + g = omega arith in
    subst (λ k. BrokenFrom all earlier (f ∷ (xs ++ ys)) k n r) same
    (p.0, broken_behind all (earlier ++ f ∷ []) xs ys g n r p.1 (subst (λ e. BrokenFrom all e ys g n r) (one_on earlier f xs) q))

-- Functions of a module, where the first ones, so many, are sound

abbrev plain : List FuncTree → List Op
plain fs = map plain_func fs

front_is : (fs : List FuncTree) (i : ℕ) (d : FuncTree) → i < length fs → plain fs ≡ plain (take i fs) ++ plain_func (get_or fs i d) ∷ plain (drop (i + 1) fs)
front_is [] i d less = absurd (omega (arith, less))
front_is (f ∷ fs) zero d less = refl
front_is (f ∷ fs) (suc i) d less =
    let on : suc (i + 1) ≡ suc i + 1 = omega arith in
    ap (λ gs. plain_func f ∷ gs) (front_is fs i d (omega (arith, less))) ∙ ap (λ k. plain_func f ∷ (plain (take i fs) ++ plain_func (get_or fs i d) ∷ plain (drop k (f ∷ fs)))) on

-- what is seen from the function at a place
abbrev seen : List Declared → List Declared → Functions
seen all earlier = record { all = all; earlier = earlier }

seen_at : (fs : List FuncTree) (ds : List Declared) (i : ℕ) → ds ≡ map declared (plain fs) → seen ds (take i ds) ≡ functions (plain fs) (plain (take i fs))
seen_at fs ds i e =
    ap (λ x. seen x (take i x)) e
    ∙ ap (seen (map declared (plain fs))) (take-map declared i (plain fs) ∙ ap (map declared) (take-map plain_func i fs))

sound_more : (fs : List FuncTree) (i : ℕ) (d : FuncTree) → i < length fs → SoundFrom (plain fs) [] (plain (take i fs))
    → SoundFunction (functions (plain fs) (plain (take i fs))) (plain_func (get_or fs i d)) → SoundFrom (plain fs) [] (plain (take (i + 1) fs))
sound_more fs i d less sound here =
    subst (SoundFrom (plain fs) []) (sym (map_more plain_func fs i d less)) (sound_behind (plain fs) [] (plain (take i fs)) (plain_func (get_or fs i d) ∷ []) sound (here, tt))

broken_here : (fs : List FuncTree) (i : ℕ) (d : FuncTree) (n : ℕ) (r : Rule) → i < length fs → SoundFrom (plain fs) [] (plain (take i fs))
    → BrokenIn (functions (plain fs) (plain (take i fs))) (plain_func (get_or fs i d)) n r → BrokenFrom (plain fs) [] (plain fs) i n r
broken_here fs i d n r less sound here =
    let one : length (plain (take i fs)) ≡ length (take i fs) = length-map (take i fs) plain_func in
    let other : length (take i fs) ≡ i = length-take-le i fs (omega (arith, less)) in
    let count : length (plain (take i fs)) + 0 ≡ i = omega (arith, one, other) in
    subst (λ k. BrokenFrom (plain fs) [] (plain fs) k n r) count
    (subst (λ gs. BrokenFrom (plain fs) [] gs (length (plain (take i fs)) + 0) n r) (sym (front_is fs i d less))
    (broken_behind (plain fs) [] (plain (take i fs)) (plain_func (get_or fs i d) ∷ plain (drop (i + 1) fs)) 0 n r sound here))

first_and : (a b : Bool) → (a && b) ≡ true → (a ≡ true) × (b ≡ true)
first_and true b e = (refl, e)
first_and false b e = absurd (true≢false (sym e))

numbered_at : (fs : List FuncTree) (i : ℕ) (d : FuncTree) → i < length fs → list_all is_numbered_once (plain fs) ≡ true → is_numbered_once (plain_func (get_or fs i d)) ≡ true
numbered_at [] i d less e = absurd (omega (arith, less))
numbered_at (f ∷ fs) zero d less e = (first_and (is_numbered_once (plain_func f)) _ e).0
numbered_at (f ∷ fs) (suc i) d less e = numbered_at fs i d (omega (arith, less)) (first_and (is_numbered_once (plain_func f)) _ e).1

-- the same of the function at a place, as code sees it

pub numbered_here : (fs : List FuncTree) (i : ℕ) (f : FuncTree) → i < length fs → f ≡ get_or fs i f → list_all is_numbered_once (plain fs) ≡ true → is_numbered_once (plain_func f) ≡ true
numbered_here fs i f less at all = subst (λ g. is_numbered_once (plain_func g) ≡ true) (sym at) (numbered_at fs i f less all)

told_here : (fs : List FuncTree) (ds : List Declared) (i : ℕ) (f : FuncTree) (x y : Found) → f ≡ get_or fs i f → ds ≡ map declared (plain fs)
    → TellsFunction (seen ds (take i ds)) (plain_func f) x → x ≡ y → TellsFunction (functions (plain fs) (plain (take i fs))) (plain_func (get_or fs i f)) y
told_here fs ds i f x y at same tells is =
    subst (TellsFunction (functions (plain fs) (plain (take i fs))) (plain_func (get_or fs i f))) is
    (subst (λ g. TellsFunction (functions (plain fs) (plain (take i fs))) (plain_func g) x) at
    (subst (λ c. TellsFunction c (plain_func f) x) (seen_at fs ds i same) tells))

pub one_breaks : (fs : List FuncTree) (ds : List Declared) (i : ℕ) (f : FuncTree) (x : Found) (found : record { 0 : ℕ; 1 : Rule }) → i < length fs → f ≡ get_or fs i f → ds ≡ map declared (plain fs)
    → TellsFunction (seen ds (take i ds)) (plain_func f) x → x ≡ Some found → SoundFrom (plain fs) [] (plain (take i fs)) → BrokenFrom (plain fs) [] (plain fs) i found.0 found.1
one_breaks fs ds i f x found less at same tells is sound = broken_here fs i f found.0 found.1 less sound (told_here fs ds i f x (Some found) at same tells is)

pub one_sound : (fs : List FuncTree) (ds : List Declared) (i : ℕ) (f : FuncTree) (x : Found) → i < length fs → f ≡ get_or fs i f → ds ≡ map declared (plain fs)
    → TellsFunction (seen ds (take i ds)) (plain_func f) x → x ≡ None → SoundFrom (plain fs) [] (plain (take i fs)) → SoundFrom (plain fs) [] (plain (take (i + 1) fs))
one_sound fs ds i f x less at same tells is sound = sound_more fs i f less sound (told_here fs ds i f x None at same tells is)

-- as code sees a function
pub declared_at : (f : FuncTree) → declared (plain_func f) ≡ record { kind = (out-OpTree f.op).name; props = plain_entries (out-OpTree f.op).props }
declared_at f = ap declared (plain_op_at f.op)

pub ruleset layers = (common_steps, declared_at)
