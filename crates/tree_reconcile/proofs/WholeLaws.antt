-- What the calls over trees come to.
use Rattle.std.proofs.Common.{◌≡◌, ℕ, zero, suc, ◌-◌, ◌+◌, ◌≤◌, ◌<◌, ◌==◌, Bool, true, false, List, [], ◌∷◌, ◌++◌, length, map, Option, Some, None, refl, sym, ap, subst, ◌∙◌, arith}
use Rattle.std.specs.Prelude.{◌||◌, ◌&&◌, not, if◌then◌else◌}
use Rattle.std.specs.Borrow.{Bor}
use Rattle.std.specs.List.{list_all, list_any}
use Rattle.std.specs.Option.{option_map}
use Rattle.std.proofs.Math.Path.{fun_ext}
use Rattle.tree_model.specs.declared.op_tree.OpTree.{OpTree}
use Rattle.plain_tree.specs.Ops.{Op, Values, plain_op}
use Rattle.plain_tree.specs.Values.{types_of}
use Rattle.conversion_model.specs.Promises.{BareOp}
use Rattle.conversion_model.specs.Uses.{op_without, operations, replaced}
use Rattle.conversion_model.specs.Reconciled.{Cast, first_pair, is_cast, is_cast_of, is_unused_cast, is_used, pair_of, pairs_left_out, reconciled, unused_left_out, without_pair}
use Rattle.conversion_model.proofs.ReconcileLaws.{listed_size, pairs_no_more}
use Rattle.tree_uses.specs.Edited.{edited}
use Rattle.tree_walk.specs.Walks.{plain_ops}
use Rattle.tree_walk.proofs.WalkLayers.{operations_are}
use Rattle.tree_reconcile.specs.Lines.{Line, is_bare, is_bare_at, is_forward, is_unused, line_at, line_of, lines_at, used_by_others, uses, with_lines}
use Rattle.tree_reconcile.specs.Plans.{Plan, Single, at_start, casts_by, is_gone, is_in_order, single_in, single_of, singles, with_casts}
use Rattle.tree_reconcile.specs.Rounds.{first_round, has_unused}
use Rattle.tree_reconcile.proofs.Bools.{and_true, not_true}
use Rattle.tree_reconcile.proofs.Layers.{bare_is}
use Rattle.tree_reconcile.proofs.LineLaws.{bare_tree, lines, lines_listed, test_of}
use Rattle.tree_reconcile.proofs.PairTrees.{casts_singles, is_cast_gone, pairs_planned}
use Rattle.tree_reconcile.proofs.TreeLaws.{op_same}
use Rattle.tree_reconcile.proofs.UsedLaws.{Settled, settled}
use Rattle.tree_reconcile.proofs.UsedTrees.{any_listed, any_mapped, unused_found}

pub line_is : (o : OpTree) → line_at o ≡ line_of (plain_op o)
unfolding line_at
line_is o = refl

-- The lines that the code sees

lines_plain : (ops : List (Bor OpTree)) → lines_at ops ≡ map line_of (plain_ops ops)
lines_plain [] = refl
lines_plain (o ∷ os) = ap (λ l. l ∷ lines_at os) (line_is o.now) ∙ ap (λ ls. line_of (plain_op o.now) ∷ ls) (lines_plain os)

pub lines_seen : (f : Op) (ops : List (Bor OpTree)) → plain_ops ops ≡ map (λ (x : ℕ × Op). x.1) (operations f) → lines_at ops ≡ lines f
lines_seen f ops same = lines_plain ops ∙ ap (map line_of) same ∙ lines_listed f

bare_plain : (ops : List (Bor OpTree)) → list_all (λ (o : Bor OpTree). is_bare_at o.now) ops ≡ list_all is_bare (plain_ops ops)
bare_plain [] = refl
bare_plain (o ∷ os) = ap (λ b. b && list_all (λ (p : Bor OpTree). is_bare_at p.now) os) (bare_is o.now) ∙ ap (λ b. is_bare (plain_op o.now) && b) (bare_plain os)

bare_seen : (f : Op) (ops : List (Bor OpTree)) → plain_ops ops ≡ map (λ (x : ℕ × Op). x.1) (operations f) → list_all (λ (o : Bor OpTree). is_bare_at o.now) ops ≡ true → BareOp f
bare_seen f ops same bare = bare_tree f (ap (list_all is_bare) (operations_are f ∙ sym same) ∙ sym (bare_plain ops) ∙ bare)

root_seen : (f : OpTree) → not (line_at f).is_cast ≡ true → is_cast (plain_op f) ≡ false
root_seen f e = sym (ap (λ (l : Line). l.is_cast) (line_is f)) ∙ not_true (line_at f).is_cast e

one_length : (b : Bool) (rs : Values) (vs : List ℕ) (n m : ℕ) → n ≤ m → length (single_of b rs vs) + n ≤ suc m
one_length false rs vs n m less = omega (arith, less)
one_length true [] vs n m less = omega (arith, less)
one_length true (r ∷ []) [] n m less = omega (arith, less)
one_length true (r ∷ []) (v ∷ []) n m less = omega (arith, less)
one_length true (r ∷ []) (v ∷ w ∷ vs) n m less = omega (arith, less)
one_length true (r ∷ q ∷ rs) vs n m less = omega (arith, less)

length_append : (xs ys : List Single) → length (xs ++ ys) ≡ length xs + length ys
length_append [] ys = omega arith
length_append (x ∷ xs) ys = omega (arith, length_append xs ys)

singles_less : (ls : List Line) → length (singles ls) ≤ length ls
singles_less [] = omega arith
singles_less (l ∷ ls) =
    omega (arith, length_append (single_in l) (singles ls), one_length l.is_cast l.results l.operands (length (singles ls)) (length ls) (singles_less ls))

map_length : {A B : Type 0} (f : A → B) (xs : List A) → length (map f xs) ≡ length xs
map_length f [] = refl
map_length f (x ∷ xs) = ap suc (map_length f xs)

lines_length : (f : Op) → length (lines f) ≡ length (operations f)
lines_length f = ap length (sym (lines_listed f)) ∙ map_length line_of (map (λ (x : ℕ × Op). x.1) (operations f)) ∙ map_length (λ (x : ℕ × Op). x.1) (operations f)

-- as many operations are seen
pub seen_length : (f : Op) (ops : List (Bor OpTree)) → plain_ops ops ≡ map (λ (x : ℕ × Op). x.1) (operations f) → length ops ≡ length (operations f)
seen_length f ops same = sym (map_length (λ (o : Bor OpTree). plain_op o.now) ops) ∙ ap length same ∙ map_length (λ (x : ℕ × Op). x.1) (operations f)

-- One pass

pub pairs_once : (f : OpTree) (ops : List (Bor OpTree)) (cs : List Single) (p : Plan) (g : Op)
    → plain_ops ops ≡ map (λ (x : ℕ × Op). x.1) (operations (plain_op f)) → (not (line_at f).is_cast && list_all (λ (o : Bor OpTree). is_bare_at o.now) ops) ≡ true
    → cs ≡ singles (lines_at ops) → is_in_order cs ≡ true → p ≡ with_casts (types_of (plain_op f)) at_start cs → g ≡ edited p.to (test_of (is_gone p.gone)) (plain_op f)
    → g ≡ pairs_left_out (length (operations (plain_op f))) (plain_op f)
pairs_once f ops cs p g same plain found order plan edit =
    let tests = and_true (not (line_at f).is_cast) (list_all (λ (o : Bor OpTree). is_bare_at o.now) ops) plain in
    let all : cs ≡ singles (lines (plain_op f)) = found ∙ ap singles (lines_seen (plain_op f) ops same) in
    let whole : p ≡ with_casts (types_of (plain_op f)) at_start (singles (lines (plain_op f))) =
    plan ∙ ap (with_casts (types_of (plain_op f)) at_start) all in
    edit ∙ ap (λ (q : Plan). edited q.to (test_of (is_gone q.gone)) (plain_op f)) whole
    ∙ pairs_planned (plain_op f) (bare_seen (plain_op f) ops same tests.1) (root_seen f tests.0) (length (operations (plain_op f)))
    (omega (arith, singles_less (lines (plain_op f)), lines_length (plain_op f))) (sym (ap is_in_order all) ∙ order)

pub unused_once : (f : OpTree) (ops : List (Bor OpTree)) (room : ℕ) (U : ℕ → Bool) (S : ℕ → ℕ) (g : Op)
    → plain_ops ops ≡ map (λ (x : ℕ × Op). x.1) (operations (plain_op f)) → (not (line_at f).is_cast && list_all (λ (o : Bor OpTree). is_bare_at o.now) ops) ≡ true
    → is_forward (lines_at ops) ≡ true → length (operations (plain_op f)) ≤ room → U ≡ with_lines (lines_at ops) (used_by_others (lines_at ops))
    → S ≡ (λ v. v) → g ≡ edited S (test_of (is_unused U)) (plain_op f) → g ≡ unused_left_out room (plain_op f)
unused_once f ops room U S g same plain forward enough used itself edit =
    let tests = and_true (not (line_at f).is_cast) (list_all (λ (o : Bor OpTree). is_bare_at o.now) ops) plain in
    let seen : lines_at ops ≡ lines (plain_op f) = lines_seen (plain_op f) ops same in
    let ahead : is_forward (lines (plain_op f)) ≡ true = sym (ap is_forward seen) ∙ forward in
    let values : U ≡ with_lines (lines (plain_op f)) (used_by_others (lines (plain_op f))) = used ∙ ap (λ ls. with_lines ls (used_by_others ls)) seen in
    edit ∙ ap (λ (x : ℕ → ℕ). edited x (test_of (is_unused U)) (plain_op f)) itself
    ∙ sym (unused_found (plain_op f) (bare_seen (plain_op f) ops same tests.1) (root_seen f tests.0) U (subst (λ (V : ℕ → Bool). Settled V (lines (plain_op f))) (sym values) (settled (lines (plain_op f)) ahead)) ahead room
    (omega (arith, enough, lines_length (plain_op f))))

-- there are no more operations behind the first half
pub fewer_then : (f : Op) (room : ℕ) → length (operations (pairs_left_out room f)) ≤ length (operations f)
fewer_then f room = omega (arith, pairs_no_more room f, listed_size f, listed_size (pairs_left_out room f))

pub room_enough : (f g : Op) (room : ℕ) → g ≡ pairs_left_out (length (operations f)) f → room ≡ length (operations f) → length (operations g) ≤ room
room_enough f g room paired same =
    let fewer : length (operations g) ≤ length (operations f) = subst (λ h. length (operations h) ≤ length (operations f)) (sym paired) (fewer_then f (length (operations f))) in
    omega (arith, same, fewer)

pub whole_is : (f g h : Op) (room : ℕ) → g ≡ pairs_left_out (length (operations f)) f → room ≡ length (operations f) → h ≡ unused_left_out room g → h ≡ reconciled f
whole_is f g h room paired same unused =
    unused ∙ ap (λ k. unused_left_out k g) same ∙ ap (unused_left_out (length (operations f))) paired

-- The tests of what is left out

pub none_gone : (g : ℕ → Bool) (o : OpTree) → [] ≡ single_in (line_at o) → false ≡ is_gone g (line_of (plain_op o))
none_gone g o e = ap (list_any (λ (c : Single). g c.result)) (e ∙ ap single_in (line_is o))

pub one_gone : (g : ℕ → Bool) (o : OpTree) (c : Single) → c ∷ [] ≡ single_in (line_at o) → g c.result ≡ is_gone g (line_of (plain_op o))
one_gone g o c e = sym (or_none (g c.result)) ∙ ap (list_any (λ (d : Single). g d.result)) (e ∙ ap single_in (line_is o))
  where
    or_none : (b : Bool) → (b || false) ≡ b
    or_none true = refl
    or_none false = refl

pub unused_test : (U : ℕ → Bool) (o : OpTree) (b : Bool) → b ≡ is_unused U (line_at o) → b ≡ is_unused U (line_of (plain_op o))
unused_test U o b e = e ∙ ap (is_unused U) (line_is o)

-- Steps

abbrev pub first_by : List Cast → Option (ℕ × ℕ)
first_by all = first_pair all all

pub pair_seen : (f : Op) (ops : List (Bor OpTree)) (cs : List Single) (p : Option (ℕ × ℕ)) → plain_ops ops ≡ map (λ (x : ℕ × Op). x.1) (operations f) → cs ≡ singles (lines_at ops)
    → p ≡ first_by (casts_by (types_of f) cs) → p ≡ pair_of f
pair_seen f ops cs p same found first =
    first
    ∙ ap first_by (ap (casts_by (types_of f)) (found ∙ ap singles (lines_seen f ops same ∙ sym (lines_listed f))) ∙ sym (casts_singles (types_of f) (operations f)))

abbrev after_one : ℕ × ℕ → (ℕ → ℕ) → ℕ → ℕ
after_one p t v = replaced p.0 (t p.1) (t v)

pub pair_edit : (f : Op) (p : ℕ × ℕ) (S T : ℕ → ℕ) (g : Op) → ((v : ℕ) → S v ≡ replaced p.0 (T p.1) (T v)) → T ≡ (λ v. v) → g ≡ edited S (test_of (is_gone (λ n. n == p.0))) f → g ≡ without_pair p f
pair_edit f p S T g moved itself edit =
    let first : S ≡ after_one p T = fun_ext moved in
    let second : after_one p T ≡ replaced p.0 p.1 = ap (after_one p) itself in
    let tests : test_of (is_gone (λ n. n == p.0)) ≡ is_cast_of p.0 = fun_ext (λ o. sym (is_cast_gone p.0 o)) in
    edit ∙ ap (λ (x : ℕ → ℕ). edited x (test_of (is_gone (λ n. n == p.0))) f) (first ∙ second)
    ∙ ap (λ (t : Op → Bool). edited (replaced p.0 p.1) t f) tests

pub pairs_stop : (k : ℕ) (f : Op) → pair_of f ≡ None → f ≡ pairs_left_out k f
pairs_stop zero f e = refl
pairs_stop (suc k) f e = sym (ap (λ o. elim o [ None ↦ f | Some p ↦ pairs_left_out k (without_pair p f) ]) e)

pub pairs_next : (k : ℕ) (f : Op) (p : ℕ × ℕ) → pair_of f ≡ Some p → pairs_left_out k (without_pair p f) ≡ pairs_left_out (suc k) f
pairs_next k f p e = sym (ap (λ o. elim o [ None ↦ f | Some q ↦ pairs_left_out k (without_pair q f) ]) e)

some_none : {A : Type 0} {x : A} → Some x ≡ None → ⊥
some_none e = absurd (cc)

some_same : {A : Type 0} {x y : A} → Some x ≡ Some y → x ≡ y
some_same e = cc

-- a step, or none
pub none_of_map : (f : Op) → None ≡ option_map (λ p. without_pair p f) (pair_of f) → pair_of f ≡ None
none_of_map f e = by_pair (pair_of f) refl e
  where
    by_pair : (o : Option (ℕ × ℕ)) → pair_of f ≡ o → None ≡ option_map (λ p. without_pair p f) o → pair_of f ≡ None
    by_pair None is h = is
    by_pair (Some p) is h = absurd (some_none (sym h))

pub steps_on : (room at : ℕ) (f : Op) (g : Op) → at < room → Some g ≡ option_map (λ p. without_pair p f) (pair_of f) → pairs_left_out (room - (at + 1)) g ≡ pairs_left_out (room - at) f
steps_on room at f g more e = by_pair (pair_of f) refl e
  where
    by_pair : (o : Option (ℕ × ℕ)) → pair_of f ≡ o → Some g ≡ option_map (λ p. without_pair p f) o → pairs_left_out (room - (at + 1)) g ≡ pairs_left_out (room - at) f
    by_pair None is h = absurd (some_none h)
    by_pair (Some p) is h =
        let count : suc (room - (at + 1)) ≡ room - at = omega (arith, more) in
        ap (pairs_left_out (room - (at + 1))) (some_same h) ∙ pairs_next (room - (at + 1)) f p is ∙ ap (λ k. pairs_left_out k f) count

-- Rounds

any_lines : (U : ℕ → Bool) (xs : List (Bor OpTree)) → list_any (λ (o : Bor OpTree). is_unused U (line_at o.now)) xs ≡ list_any (is_unused U) (lines_at xs)
any_lines U [] = refl
any_lines U (x ∷ xs) = ap (λ c. is_unused U (line_at x.now) || c) (any_lines U xs)

used_is : (f : Op) (ops : List (Bor OpTree)) (U : ℕ → Bool) → plain_ops ops ≡ map (λ (x : ℕ × Op). x.1) (operations f) → U ≡ uses (lines_at ops) → U ≡ is_used (operations f)
used_is f ops U same used =
    used ∙ ap uses (lines_seen f ops same ∙ sym (lines_listed f)) ∙ sym (fun_ext (λ n. any_listed n (operations f)))

pub unused_seen : (f : Op) (ops : List (Bor OpTree)) (U : ℕ → Bool) (b : Bool) → plain_ops ops ≡ map (λ (x : ℕ × Op). x.1) (operations f) → U ≡ uses (lines_at ops)
    → b ≡ list_any (λ (o : Bor OpTree). is_unused U (line_at o.now)) ops → b ≡ has_unused f
unused_seen f ops U b same used found =
    found ∙ any_lines U ops
    ∙ ap (list_any (is_unused U)) (lines_seen f ops same ∙ sym (lines_listed f)) ∙ sym (any_mapped (is_unused U) (operations f))
    ∙ ap (λ (V : ℕ → Bool). list_any (λ (x : ℕ × Op). is_unused V (line_of x.1)) (operations f)) (used_is f ops U same used)

pub no_round : (f : Op) (b : Bool) → b ≡ has_unused f → b ≡ false → None ≡ first_round f
no_round f b found none = sym (ap (λ c. if c then Some (op_without (is_unused_cast (operations f)) f) else None) (sym found ∙ none))

pub round_edit : (f : Op) (ops : List (Bor OpTree)) (U : ℕ → Bool) (S : ℕ → ℕ) (b : Bool) (g : Op) → plain_ops ops ≡ map (λ (x : ℕ × Op). x.1) (operations f) → U ≡ uses (lines_at ops)
    → b ≡ has_unused f → b ≡ true → S ≡ (λ v. v) → g ≡ edited S (test_of (is_unused U)) f → Some g ≡ first_round f
round_edit f ops U S b g same used found some itself edit =
    ap Some
    (edit ∙ ap (λ (x : ℕ → ℕ). edited x (test_of (is_unused U)) f) itself ∙ op_same (op_without (test_of (is_unused U)) f)
    ∙ ap (λ (V : ℕ → Bool). op_without (test_of (is_unused V)) f) (used_is f ops U same used))
    ∙ sym (ap (λ c. if c then Some (op_without (is_unused_cast (operations f)) f) else None) (sym found ∙ some))

pub rounds_stop : (k : ℕ) (f : Op) → None ≡ first_round f → f ≡ unused_left_out k f
rounds_stop zero f e = refl
rounds_stop (suc k) f e = by_unused (has_unused f) refl e
  where
    by_unused : (b : Bool) → has_unused f ≡ b → None ≡ (if b then Some (op_without (is_unused_cast (operations f)) f) else None) → f ≡ unused_left_out (suc k) f
    by_unused true is h = absurd (some_none (sym h))
    by_unused false is h = sym (ap (λ c. elim c [ false ↦ f | true ↦ unused_left_out k (op_without (is_unused_cast (operations f)) f) ]) is)

pub rounds_on : (room at : ℕ) (f g : Op) → at < room → Some g ≡ first_round f → unused_left_out (room - (at + 1)) g ≡ unused_left_out (room - at) f
rounds_on room at f g more e = by_unused (has_unused f) refl e
  where
    by_unused : (b : Bool) → has_unused f ≡ b → Some g ≡ (if b then Some (op_without (is_unused_cast (operations f)) f) else None) → unused_left_out (room - (at + 1)) g ≡ unused_left_out (room - at) f
    by_unused false is h = absurd (some_none h)
    by_unused true is h =
        let count : suc (room - (at + 1)) ≡ room - at = omega (arith, more) in
        ap (unused_left_out (room - (at + 1))) (some_same h)
        ∙ sym (ap (λ c. elim c [ false ↦ f | true ↦ unused_left_out (room - (at + 1)) (op_without (is_unused_cast (operations f)) f) ]) is)
        ∙ ap (λ k. unused_left_out k f) count
