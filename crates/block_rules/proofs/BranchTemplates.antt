-- The template of a branch in converted types, written down.
use Rattle.std.proofs.Common.{◌≡◌, ℕ, zero, suc, ◌+◌, List, [], ◌∷◌, ◌++◌, Option, Some, None, refl, sym, ap, ◌∙◌, map, length, arith}
use Rattle.std.specs.Prelude.{get_or}
use Rattle.plain_tree.specs.Types.{PlainType}
use Rattle.plain_tree.specs.Attrs.{Entries}
use Rattle.plain_tree.specs.Ops.{op, end_of_regions}
use Rattle.conversion_model.specs.declared.templates.Source.{Source}
use Rattle.conversion_model.specs.declared.templates.Source.TheVariants.{Operand, Made}
use Rattle.conversion_model.specs.Types.{new_type}
use Rattle.conversion_model.specs.Templates.{labels_at, number_of, Step, steps_written, Template, values_made, written}
use Rattle.conversion_model.specs.Chosen.{and_then, cast, counted, Ending, here, itself, Leaves, nothing_yet, placed, places, product, products, State, take_one, take_operands, type_here, with_moved, with_operand, with_step}
use Rattle.conversion_model.specs.Conversion.{cast_op}
use Rattle.block_rules.specs.Branches.{branch, converted_operands, either_number, fronts, next, put_cast}

abbrev pub state_on : Option PlainType → ℕ → PlainType → State → State
state_on None k t s = with_operand (Operand k) t 0 s
state_on (Some u) k t s = with_operand (Made s.count) u 1 s

abbrev pub final : (PlainType → Option PlainType) → ℕ → List PlainType → State → State
final change k [] s = s
final change k (t ∷ ts) s = final change (k + 1) ts (state_on (change t) k t s)

abbrev cast_front : Option PlainType → ℕ → Template → Template
cast_front None k rest = rest
cast_front (Some u) k rest = with_step (cast (Operand k) u) rest

abbrev pub with_casts : (PlainType → Option PlainType) → ℕ → List PlainType → ℕ → Template → Template
with_casts change k [] n rest = rest
with_casts change k (t ∷ ts) n rest = cast_front (change t) k (with_casts change (k + 1) ts (next n (change t)) rest)

abbrev source_on : Option PlainType → ℕ → ℕ → Source
source_on None k n = Operand k
source_on (Some u) k n = Made n

abbrev pub sources : (PlainType → Option PlainType) → ℕ → List PlainType → ℕ → List Source
sources change k [] n = []
sources change k (t ∷ ts) n = source_on (change t) k n ∷ sources change (k + 1) ts (next n (change t))

then_then : {A B C : Type 0} (o : Option A) (f : A → Option B) (g : B → Option C) → and_then (and_then o f) g ≡ and_then o (λ a. and_then (f a) g)
then_then None f g = refl
then_then (Some a) f g = refl

taken : (change : PlainType → Option PlainType) (follow : Ending) (k : ℕ) (ts : List PlainType) (s : State) → take_operands change follow k ts s ≡ and_then (follow (final change k ts s)) (λ rest. Some (with_casts change k ts s.count rest))
taken change follow k [] s = go (follow s)
  where
    go : (x : Option Template) → x ≡ and_then x (λ rest. Some rest)
    go None = refl
    go (Some t) = refl
taken change follow k (t ∷ ts) s = go (change t) (λ s2. taken change follow (k + 1) ts s2)
  where
    go : (c : Option PlainType) → ((s2 : State) → take_operands change follow (k + 1) ts s2 ≡ and_then (follow (final change (k + 1) ts s2)) (λ rest. Some (with_casts change (k + 1) ts s2.count rest)))
        → take_one c k t (take_operands change follow (k + 1) ts) s ≡ and_then (follow (final change (k + 1) ts (state_on c k t s))) (λ rest. Some (cast_front c k (with_casts change (k + 1) ts (next s.count c) rest)))
    go None rest = rest (with_operand (Operand k) t 0 s)
    go (Some u) rest =
        ap (λ x. and_then x (λ y. Some (with_step (cast (Operand k) u) y))) (rest (with_operand (Made s.count) u 1 s))
        ∙ then_then (follow (final change (k + 1) ts (with_operand (Made s.count) u 1 s))) (λ y. Some (with_casts change (k + 1) ts (s.count + 1) y)) (λ y. Some (with_step (cast (Operand k) u) y))

pub joined_twice : {A : Type 0} (xs ys zs : List A) → (xs ++ ys) ++ zs ≡ xs ++ (ys ++ zs)
joined_twice [] ys zs = refl
joined_twice (x ∷ xs) ys zs = ap (λ l. x ∷ l) (joined_twice xs ys zs)

pub none_behind : {A : Type 0} (xs : List A) → xs ++ [] ≡ xs
none_behind [] = refl
none_behind (x ∷ xs) = ap (λ l. x ∷ l) (none_behind xs)

final_operands : (change : PlainType → Option PlainType) (k : ℕ) (ts : List PlainType) (s : State) → (final change k ts s).operands ≡ s.operands ++ sources change k ts s.count
final_operands change k [] s = sym (none_behind s.operands)
final_operands change k (t ∷ ts) s = go (change t) (λ s2. final_operands change (k + 1) ts s2)
  where
    go : (c : Option PlainType) → ((s2 : State) → (final change (k + 1) ts s2).operands ≡ s2.operands ++ sources change (k + 1) ts s2.count)
        → (final change (k + 1) ts (state_on c k t s)).operands ≡ s.operands ++ source_on c k s.count ∷ sources change (k + 1) ts (next s.count c)
    go None rest = rest (with_operand (Operand k) t 0 s) ∙ joined_twice s.operands (Operand k ∷ []) (sources change (k + 1) ts (s.count + 0))
    go (Some u) rest = rest (with_operand (Made s.count) u 1 s) ∙ joined_twice s.operands (Made s.count ∷ []) (sources change (k + 1) ts (s.count + 1))

sources_length : (change : PlainType → Option PlainType) (k : ℕ) (ts : List PlainType) (n : ℕ) → length (sources change k ts n) ≡ length ts
sources_length change k [] n = refl
sources_length change k (t ∷ ts) n = omega (arith, sources_length change (k + 1) ts (next n (change t)))

pub map_length : {A B : Type 0} (f : A → B) (xs : List A) → length (map f xs) ≡ length xs
map_length f [] = refl
map_length f (x ∷ xs) = omega (arith, map_length f xs)

pub get_at : {A : Type 0} (pre rest : List A) (a d : A) (n : ℕ) → length pre ≡ n → get_or (pre ++ a ∷ rest) n d ≡ a
get_at [] rest a d n e = ap (λ m. get_or (a ∷ rest) m d) (sym e)
get_at (p ∷ pre) rest a d n e = go n e (get_at pre rest a d)
  where
    go : (m : ℕ) → length (p ∷ pre) ≡ m → ((j : ℕ) → length pre ≡ j → get_or (pre ++ a ∷ rest) j d ≡ a) → get_or (p ∷ (pre ++ a ∷ rest)) m d ≡ a
    go zero f later = absurd (omega (arith, f))
    go (suc m) f later = later m (omega (arith, f))

regroup : {A : Type 0} (xs : List A) (a : A) (ys : List A) → xs ++ a ∷ ys ≡ (xs ++ a ∷ []) ++ ys
regroup [] a ys = refl
regroup (x ∷ xs) a ys = ap (λ l. x ∷ l) (regroup xs a ys)

longer : {A : Type 0} (xs : List A) (a : A) → length (xs ++ a ∷ []) ≡ length xs + 1
longer [] a = omega arith
longer (x ∷ xs) a = omega (arith, longer xs a)

pub got : {A B : Type 0} (d : ℕ → B) (h : Source → B) (pre args : List B) (ts : List A) (n : ℕ) → ((k : ℕ) → h (Operand k) ≡ get_or (pre ++ args) k (d k)) → length args ≡ length ts → length pre ≡ n → map h (map Operand (places n ts)) ≡ args
got d h pre [] [] n is e f = refl
got d h pre (a ∷ args) (t ∷ ts) n is e f =
    ap (λ x. x ∷ map h (map Operand (places (n + 1) ts))) (is n ∙ get_at pre args a (d n) n f)
    ∙ ap (λ l. a ∷ l) (got d h (pre ++ a ∷ []) args ts (n + 1) (λ k. is k ∙ ap (λ l. get_or l k (d k)) (regroup pre a args)) (omega (arith, e)) (omega (arith, longer pre a, f)))
got d h pre [] (t ∷ ts) n is e f = absurd (omega (arith, e))
got d h pre (a ∷ args) [] n is e f = absurd (omega (arith, e))

-- a step that goes on to these successors from these sources
abbrev pub branch_step : List ℕ → Entries → List Source → List ℕ → Step
branch_step name props from succ = record { name = name; props = props; sources = from; successors = succ; makes = [] }

abbrev pub kept_successors : List ℕ → List ℕ
kept_successors succ = map (λ k. get_or succ k 0) (counted 0 (length succ))

-- the template of a branch whose product in converted types is legal
branch_leaves : (leaves : Leaves) (name : List ℕ) (props : Entries) (succ : List ℕ) (ts : List PlainType) (s : State) → length s.operands ≡ length ts
    → leaves (product s (branch_step name props (map Operand (places 0 ts)) succ)) ≡ Some (itself (product s (branch_step name props (map Operand (places 0 ts)) succ)))
    → products leaves (λ x. Some (record { steps = []; results = [] })) (branch_step name props (map Operand (places 0 ts)) succ ∷ []) s ≡ Some (record { steps = branch_step name props s.operands (kept_successors succ) ∷ []; results = [] })
branch_leaves leaves name props succ ts s same legal =
    let x : Step = branch_step name props (map Operand (places 0 ts)) succ in
    let args : List Source = map (here s) (map Operand (places 0 ts)) in
    let args_are : args ≡ s.operands = got (λ k. Operand k) (here s) [] s.operands ts 0 (λ k. refl) same refl in
    ap (λ l. and_then l (λ t. and_then (Some (record { steps = []; results = [] })) (λ rest. Some (with_moved s x t rest)))) legal
    ∙ ap (λ l. Some (record { steps = branch_step name props l (kept_successors succ) ∷ []; results = [] }))
    (got (λ k. Operand k) (placed args s.count) [] args (map (type_here s) (map Operand (places 0 ts))) 0 (λ k. refl) (map_length (here s) (map Operand (places 0 ts)) ∙ sym (map_length (type_here s) (map Operand (places 0 ts)))) refl ∙ args_are)

pub branch_template : (change : PlainType → Option PlainType) (leaves : Leaves) (name : List ℕ) (props : Entries) (succ : List ℕ) (ts : List PlainType)
    → leaves (product (final change 0 ts nothing_yet) (branch_step name props (map Operand (places 0 ts)) succ)) ≡ Some (itself (product (final change 0 ts nothing_yet) (branch_step name props (map Operand (places 0 ts)) succ)))
    → take_operands change (products leaves (λ x. Some (record { steps = []; results = [] })) (branch_step name props (map Operand (places 0 ts)) succ ∷ [])) 0 ts nothing_yet
    ≡ Some (with_casts change 0 ts 0 (record { steps = branch_step name props (sources change 0 ts 0) (kept_successors succ) ∷ []; results = [] }))
branch_template change leaves name props succ ts legal =
    let s : State = final change 0 ts nothing_yet in
    let operands : s.operands ≡ sources change 0 ts 0 = final_operands change 0 ts nothing_yet in
    taken change (products leaves (λ x. Some (record { steps = []; results = [] })) (branch_step name props (map Operand (places 0 ts)) succ ∷ [])) 0 ts nothing_yet
    ∙ ap (λ l. and_then l (λ rest. Some (with_casts change 0 ts 0 rest))) (branch_leaves leaves name props succ ts s (ap (λ l. length l) operands ∙ sources_length change 0 ts 0) legal)
    ∙ ap (λ l. Some (with_casts change 0 ts 0 (record { steps = branch_step name props l (kept_successors succ) ∷ []; results = [] }))) operands

-- Written down

written_casts : (bits : ℕ) (T : ℕ → PlainType) (new : ℕ → ℕ) (pre os ls : List ℕ) (k n : ℕ) (b : Step) → length pre ≡ k → b.makes ≡ []
    → steps_written new (pre ++ os) ls n (with_casts (new_type bits) k (map T os) n (record { steps = b ∷ []; results = [] })).steps []
    ≡ fronts bits T new n os ++ op (record { name = b.name; props = b.props; attrs = [] }) [] (map (number_of new (pre ++ os)) b.sources) end_of_regions (labels_at ls b.successors) ∷ []
written_casts bits T new pre [] ls k n b e none =
    ap (λ m. op (record { name = b.name; props = b.props; attrs = [] }) (values_made new n m) (map (number_of new (pre ++ [])) b.sources) end_of_regions (labels_at ls b.successors) ∷ []) none
written_casts bits T new pre (x ∷ os) ls k n b e none = go (new_type bits (T x)) (λ m. written_casts bits T new (pre ++ x ∷ []) os ls (k + 1) m b (omega (arith, longer pre x, e)) none)
  where
    go : (c : Option PlainType)
        → ((m : ℕ) → steps_written new ((pre ++ x ∷ []) ++ os) ls m (with_casts (new_type bits) (k + 1) (map T os) m (record { steps = b ∷ []; results = [] })).steps []
        ≡ fronts bits T new m os ++ op (record { name = b.name; props = b.props; attrs = [] }) [] (map (number_of new ((pre ++ x ∷ []) ++ os)) b.sources) end_of_regions (labels_at ls b.successors) ∷ [])
        → steps_written new (pre ++ x ∷ os) ls n (cast_front c k (with_casts (new_type bits) (k + 1) (map T os) (next n c) (record { steps = b ∷ []; results = [] }))).steps []
        ≡ put_cast (new n) x c (fronts bits T new (next n c) os) ++ op (record { name = b.name; props = b.props; attrs = [] }) [] (map (number_of new (pre ++ x ∷ os)) b.sources) end_of_regions (labels_at ls b.successors) ∷ []
    go None rec =
        ap (λ m. steps_written new (pre ++ x ∷ os) ls m (with_casts (new_type bits) (k + 1) (map T os) (n + 0) (record { steps = b ∷ []; results = [] })).steps []) (zero_more n)
        ∙ ap (λ all. steps_written new all ls (n + 0) (with_casts (new_type bits) (k + 1) (map T os) (n + 0) (record { steps = b ∷ []; results = [] })).steps []) (regroup pre x os)
        ∙ rec (n + 0)
        ∙ ap (λ all. fronts bits T new (n + 0) os ++ op (record { name = b.name; props = b.props; attrs = [] }) [] (map (number_of new all) b.sources) end_of_regions (labels_at ls b.successors) ∷ []) (sym (regroup pre x os))
      where
        zero_more : (m : ℕ) → m ≡ m + 0
        zero_more m = omega arith
    go (Some u) rec =
        ap (λ y. cast_op y (new n, u) ∷ steps_written new (pre ++ x ∷ os) ls (n + 1) (with_casts (new_type bits) (k + 1) (map T os) (n + 1) (record { steps = b ∷ []; results = [] })).steps []) (get_at pre os x (new 0) k e)
        ∙ ap (λ l. cast_op x (new n, u) ∷ l)
        (ap (λ all. steps_written new all ls (n + 1) (with_casts (new_type bits) (k + 1) (map T os) (n + 1) (record { steps = b ∷ []; results = [] })).steps []) (regroup pre x os)
        ∙ rec (n + 1)
        ∙ ap (λ all. fronts bits T new (n + 1) os ++ op (record { name = b.name; props = b.props; attrs = [] }) [] (map (number_of new all) b.sources) end_of_regions (labels_at ls b.successors) ∷ []) (sym (regroup pre x os)))

-- the operands of the branch
written_sources : (bits : ℕ) (T : ℕ → PlainType) (new : ℕ → ℕ) (pre os : List ℕ) (k n : ℕ) → length pre ≡ k → map (number_of new (pre ++ os)) (sources (new_type bits) k (map T os) n) ≡ converted_operands bits T new n os
written_sources bits T new pre [] k n e = refl
written_sources bits T new pre (x ∷ os) k n e = go (new_type bits (T x)) (λ m. written_sources bits T new (pre ++ x ∷ []) os (k + 1) m (omega (arith, longer pre x, e)))
  where
    go : (c : Option PlainType) → ((m : ℕ) → map (number_of new ((pre ++ x ∷ []) ++ os)) (sources (new_type bits) (k + 1) (map T os) m) ≡ converted_operands bits T new m os)
        → map (number_of new (pre ++ x ∷ os)) (source_on c k n ∷ sources (new_type bits) (k + 1) (map T os) (next n c)) ≡ either_number (new n) x c ∷ converted_operands bits T new (next n c) os
    go None rec =
        ap (λ y. y ∷ map (number_of new (pre ++ x ∷ os)) (sources (new_type bits) (k + 1) (map T os) (n + 0))) (get_at pre os x (new 0) k e)
        ∙ ap (λ all. x ∷ map (number_of new all) (sources (new_type bits) (k + 1) (map T os) (n + 0))) (regroup pre x os) ∙ ap (λ l. x ∷ l) (rec (n + 0))
    go (Some u) rec = ap (λ all. new n ∷ map (number_of new all) (sources (new_type bits) (k + 1) (map T os) (n + 1))) (regroup pre x os) ∙ ap (λ l. new n ∷ l) (rec (n + 1))

-- the whole template of a branch, written for operands os and successors ls
pub branch_written : (bits : ℕ) (T : ℕ → PlainType) (new : ℕ → ℕ) (os ls : List ℕ) (name : List ℕ) (props : Entries) (succ : List ℕ) → labels_at ls (kept_successors succ) ≡ ls
    → written new [] os ls (with_casts (new_type bits) 0 (map T os) 0 (record { steps = branch_step name props (sources (new_type bits) 0 (map T os) 0) (kept_successors succ) ∷ []; results = [] })) []
    ≡ fronts bits T new 0 os ++ branch name props (converted_operands bits T new 0 os) ls ∷ []
branch_written bits T new os ls name props succ labels =
    no_results (with_casts (new_type bits) 0 (map T os) 0 (record { steps = branch_step name props (sources (new_type bits) 0 (map T os) 0) (kept_successors succ) ∷ []; results = [] }))
    ∙ written_casts bits T new [] os ls 0 0 (branch_step name props (sources (new_type bits) 0 (map T os) 0) (kept_successors succ)) refl refl
    ∙ ap (λ l. fronts bits T new 0 os ++ branch name props l (labels_at ls (kept_successors succ)) ∷ []) (written_sources bits T new [] os 0 0 refl)
    ∙ ap (λ l. fronts bits T new 0 os ++ branch name props (converted_operands bits T new 0 os) l ∷ []) labels
  where
    no_results : (t : Template) → written new [] os ls t [] ≡ steps_written new os ls 0 t.steps []
    no_results t = refl
