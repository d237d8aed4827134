-- What is said of a table stays so for those that extend it; the arguments of a block one by one.
use Rattle.std.proofs.Common.{◌≡◌, ℕ, ◌+◌, List, [], ◌∷◌, ◌++◌, map, reverse, Option, Some, None, refl, sym, ap, ◌∙◌, arith, length, drop, get_or, ◌<◌, ◌≤◌}
use Rattle.std.specs.Option.{option_map}
use Rattle.std.proofs.lemmas.Grind.{common_steps}
use Rattle.std.proofs.lemmas.List.{append_assoc, at_drop_all, drop_more, reverse-append}
use Rattle.tree_model.specs.declared.type_tree.TypeTree.{TypeTree}
use Rattle.plain_tree.specs.Types.{PlainType, plain_type}
use Rattle.plain_tree.specs.Ops.{Op, Ops, more_ops, Values, ops_in, plain_values}
use Rattle.plain_tree.proofs.TypeOpens.{plain_again}
use Rattle.type_table.specs.Trees.{tree_or_none}
use Rattle.conversion_model.specs.Conversion.{cast_back, cast_op, casts_back, new_argument, new_arguments}
use Rattle.conversion_model.specs.Types.{new_type}
use Rattle.conversion_model.specs.Fresh.{new_value, of_block}
use Rattle.new_numbers.specs.Tables.{Extends, Numbering, supply_of}
use Rattle.new_numbers.proofs.PlaceLaws.{extends_itself, extends_on}
use Rattle.block_casts.specs.Changed.{Said, cast_list, in_front}

pub said_on : (t u : Numbering) (P : (ℕ → ℕ → ℕ) → Type 0) → Extends t u → Said t P → Said u P
said_on t u P e s = λ v f. s v (extends_on t u v e f)

-- a type behind the table, plain
pub plain_or_none : (o : Option TypeTree) (p : Option PlainType) → o ≡ tree_or_none p → option_map plain_type o ≡ p
plain_or_none o None e = ap (option_map plain_type) e
plain_or_none o (Some t) e = ap (option_map plain_type) e ∙ ap Some (plain_again t)

-- one argument more
pub argument_more : (bits k : ℕ) (new : ℕ → ℕ) (done after rest all : Values) (a : ℕ × PlainType) (o : Option PlainType) → o ≡ new_type bits a.1 → after ≡ done ++ new_argument (new k) a o ∷ []
    → done ++ new_arguments bits new k (a ∷ rest) ≡ all → after ++ new_arguments bits new (k + 1) rest ≡ all
argument_more bits k new done after rest all a o form more was =
    ap (λ xs. xs ++ new_arguments bits new (k + 1) rest) more ∙ append_assoc done (new_argument (new k) a o ∷ []) (new_arguments bits new (k + 1) rest)
    ∙ ap (λ f. done ++ new_argument (new k) a f ∷ new_arguments bits new (k + 1) rest) form ∙ was

front_append : (xs ys : List Op) (more : Ops) → in_front (xs ++ ys) more ≡ in_front xs (in_front ys more)
front_append [] ys more = refl
front_append (x ∷ xs) ys more = ap (more_ops x) (front_append xs ys more)

one_cast : (n : ℕ) (a : ℕ × PlainType) (o : Option PlainType) (more : Ops) → in_front (cast_list n a o) more ≡ cast_back n a o more
one_cast n a None more = refl
one_cast n a (Some t) more = refl

pub cast_more : (bits k : ℕ) (new : ℕ → ℕ) (done after : List Op) (rest : Values) (whole : Ops → Ops) (a : ℕ × PlainType) (o : Option PlainType) → o ≡ new_type bits a.1 → after ≡ done ++ cast_list (new k) a o
    → ((more : Ops) → in_front done (casts_back bits new k (a ∷ rest) more) ≡ whole more) → (more : Ops) → in_front after (casts_back bits new (k + 1) rest more) ≡ whole more
cast_more bits k new done after rest whole a o form more was behind =
    ap (λ xs. in_front xs (casts_back bits new (k + 1) rest behind)) more
    ∙ front_append done (cast_list (new k) a o) (casts_back bits new (k + 1) rest behind)
    ∙ ap (in_front done) (one_cast (new k) a o (casts_back bits new (k + 1) rest behind) ∙ ap (λ f. cast_back (new k) a f (casts_back bits new (k + 1) rest behind)) form)
    ∙ was behind

-- an argument that is put to those before it
pub values_more : (vs : List (ℕ × TypeTree)) (v : ℕ × TypeTree) → plain_values (vs ++ v ∷ []) ≡ plain_values vs ++ (v.0, plain_type v.1) ∷ []
values_more [] v = refl
values_more (w ∷ vs) v = ap (λ xs. (w.0, plain_type w.1) ∷ xs) (values_more vs v)

pub put_none : (t : Numbering) (old new : Values) (l k : ℕ) (a : ℕ × PlainType) (o : Option PlainType) → o ≡ None → new ≡ old ++ a ∷ [] → Said t (λ n. new ≡ old ++ new_argument (n l k) a o ∷ [])
put_none t old new l k a o none e = λ u x. e ∙ ap (λ f. old ++ new_argument ((supply_of u).argument l k) a f ∷ []) (sym none)

pub put_some : (t : Numbering) (old new : Values) (l k m : ℕ) (a : ℕ × PlainType) (o : Option PlainType) (p : PlainType) → o ≡ Some p → new ≡ old ++ (m, p) ∷ []
    → ((u : Numbering) → Extends t u → new_value (supply_of u) (of_block l k) ≡ m) → Said t (λ n. new ≡ old ++ new_argument (n l k) a o ∷ [])
put_some t old new l k m a o p some e number = λ u x.
    e ∙ ap (λ n. old ++ (n, p) ∷ []) (sym (number u x)) ∙ ap (λ f. old ++ new_argument ((supply_of u).argument l k) a f ∷ []) (sym some)

no_more : (xs : List Op) → xs ≡ xs ++ []
no_more [] = refl
no_more (x ∷ xs) = ap (λ ys. x ∷ ys) (no_more xs)

pub cast_none : (t : Numbering) (old new : List Op) (l k : ℕ) (a : ℕ × PlainType) (o : Option PlainType) → o ≡ None → new ≡ old → Said t (λ n. new ≡ old ++ cast_list (n l k) a o)
cast_none t old new l k a o none e = λ u x. e ∙ no_more old ∙ ap (λ f. old ++ cast_list ((supply_of u).argument l k) a f) (sym none)

pub cast_some : (t : Numbering) (old new : List Op) (l k m : ℕ) (a : ℕ × PlainType) (o : Option PlainType) (p : PlainType) → o ≡ Some p → new ≡ old ++ cast_op m a ∷ []
    → ((u : Numbering) → Extends t u → new_value (supply_of u) (of_block l k) ≡ m) → Said t (λ n. new ≡ old ++ cast_list (n l k) a o)
cast_some t old new l k m a o p some e number = λ u x.
    e ∙ ap (λ n. old ++ cast_op n a ∷ []) (sym (number u x)) ∙ ap (λ f. old ++ cast_list ((supply_of u).argument l k) a f) (sym some)

-- operations behind those in front
pub ops_front : (xs ys : List Op) → ops_in (xs ++ ys) ≡ in_front xs (ops_in ys)
ops_front [] ys = refl
ops_front (x ∷ xs) ys = ap (more_ops x) (ops_front xs ys)

-- Loops

next_values : (args : List (ℕ × TypeTree)) (i j : ℕ) (x : ℕ × TypeTree) → i ≡ j → j < length args → x ≡ get_or args j x → plain_values (drop i args) ≡ (x.0, plain_type x.1) ∷ plain_values (drop (i + 1) args)
next_values args i j x same more is =
    ap plain_values (drop_more args i x (omega (arith, same, more)))
    ∙ ap (λ (y : ℕ × TypeTree). (y.0, plain_type y.1) ∷ plain_values (drop (i + 1) args)) (ap (λ k. get_or args k x) same ∙ sym is)

pub args_step : (bits label i j next : ℕ) (t u : Numbering) (args : List (ℕ × TypeTree)) (x : ℕ × TypeTree) (done after : Values) (o : Option PlainType)
    → i ≡ j → j < length args → x ≡ get_or args j x → next ≡ i + 1 → o ≡ new_type bits (plain_type x.1) → Extends t u
    → Said u (λ n. after ≡ done ++ new_argument (n label i) (x.0, plain_type x.1) o ∷ [])
    → Said t (λ n. done ++ new_arguments bits (n label) i (plain_values (drop i args)) ≡ new_arguments bits (n label) 0 (plain_values args))
    → Said u (λ n. after ++ new_arguments bits (n label) next (plain_values (drop next args)) ≡ new_arguments bits (n label) 0 (plain_values args))
args_step bits label i j next t u args x done after o same more is count form extends said was = λ v e.
    let new : ℕ → ℕ = λ k. (supply_of v).argument label k in
    ap (λ m. after ++ new_arguments bits new m (plain_values (drop m args))) count
    ∙ argument_more bits i new done after (plain_values (drop (i + 1) args)) (new_arguments bits new 0 (plain_values args)) (x.0, plain_type x.1) o form (said v e)
    (sym (ap (λ vs. done ++ new_arguments bits new i vs) (next_values args i j x same more is)) ∙ was v (extends_on t u v extends e))

pub casts_step : (bits label i j next : ℕ) (t u : Numbering) (args : List (ℕ × TypeTree)) (x : ℕ × TypeTree) (done after : List Op) (o : Option PlainType)
    → i ≡ j → j < length args → x ≡ get_or args j x → next ≡ i + 1 → o ≡ new_type bits (plain_type x.1) → Extends t u
    → Said u (λ n. after ≡ done ++ cast_list (n label i) (x.0, plain_type x.1) o)
    → Said t (λ n. (more : Ops) → in_front done (casts_back bits (n label) i (plain_values (drop i args)) more) ≡ casts_back bits (n label) 0 (plain_values args) more)
    → Said u (λ n. (more : Ops) → in_front after (casts_back bits (n label) next (plain_values (drop next args)) more) ≡ casts_back bits (n label) 0 (plain_values args) more)
casts_step bits label i j next t u args x done after o same more is count form extends said was = λ v e behind.
    let new : ℕ → ℕ = λ k. (supply_of v).argument label k in
    ap (λ m. in_front after (casts_back bits new m (plain_values (drop m args)) behind)) count
    ∙ cast_more bits i new done after (plain_values (drop (i + 1) args)) (casts_back bits new 0 (plain_values args)) (x.0, plain_type x.1) o form (said v e)
    (λ last. sym (ap (λ vs. in_front done (casts_back bits new i vs last)) (next_values args i j x same more is)) ∙ was v (extends_on t u v extends e) last) behind

none_more : (xs : Values) → xs ≡ xs ++ []
none_more [] = refl
none_more (x ∷ xs) = ap (λ ys. x ∷ ys) (none_more xs)

pub args_done : (bits label i j : ℕ) (t : Numbering) (args : List (ℕ × TypeTree)) (done : Values) → i ≡ j → length args ≤ j
    → Said t (λ n. done ++ new_arguments bits (n label) i (plain_values (drop i args)) ≡ new_arguments bits (n label) 0 (plain_values args))
    → Said t (λ n. done ≡ new_arguments bits (n label) 0 (plain_values args))
args_done bits label i j t args done same end was = λ v e.
    let new : ℕ → ℕ = λ k. (supply_of v).argument label k in
    none_more done ∙ sym (at_drop_all (λ xs. done ++ new_arguments bits new i (plain_values xs)) args i (omega (arith, same, end))) ∙ was v e

pub casts_done : (bits label i j : ℕ) (t : Numbering) (args : List (ℕ × TypeTree)) (done : List Op) → i ≡ j → length args ≤ j
    → Said t (λ n. (more : Ops) → in_front done (casts_back bits (n label) i (plain_values (drop i args)) more) ≡ casts_back bits (n label) 0 (plain_values args) more)
    → Said t (λ n. (more : Ops) → in_front done more ≡ casts_back bits (n label) 0 (plain_values args) more)
casts_done bits label i j t args done same end was = λ v e more.
    let new : ℕ → ℕ = λ k. (supply_of v).argument label k in
    sym (at_drop_all (λ xs. in_front done (casts_back bits new i (plain_values xs) more)) args i (omega (arith, same, end))) ∙ was v e more

-- one item more of a list that is made of another one, of which those that are left stand last first
pub item_step : {A B : Type 0} (view : A → B) (f : (ℕ → ℕ → ℕ) → B → B) (t u : Numbering) (made after all : List B) (left rest : List A) (y : A) (x : B) → left ≡ rest ++ y ∷ [] → Extends t u
    → after ≡ made ++ x ∷ [] → Said u (λ n. x ≡ f n (view y)) → Said t (λ n. made ++ map (f n) (map view (reverse left)) ≡ map (f n) all)
    → Said u (λ n. after ++ map (f n) (map view (reverse rest)) ≡ map (f n) all)
item_step view f t u made after all left rest y x last extends put said was = λ v e.
    let n : ℕ → ℕ → ℕ = λ label k. (supply_of v).argument label k in
    ap (λ xs. xs ++ map (f n) (map view (reverse rest))) put
    ∙ append_assoc made (x ∷ []) (map (f n) (map view (reverse rest)))
    ∙ ap (λ z. made ++ z ∷ map (f n) (map view (reverse rest))) (said v e)
    ∙ ap (λ ys. made ++ map (f n) (map view ys)) (sym (ap reverse last ∙ reverse-append rest (y ∷ [])))
    ∙ was v (extends_on t u v extends e)

pub ruleset arg_laws = (common_steps, values_more, extends_itself)
