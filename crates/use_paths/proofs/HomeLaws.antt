-- Where the values of a region are defined.
use Rattle.std.proofs.Common.{◌≡◌, ℕ, suc, ◌+◌, ◌==◌, ◌<◌, ◌≤◌, Bool, true, false, List, [], ◌∷◌, ◌++◌, Option, Some, None, refl, sym, ap, ◌∙◌, subst, arith}
use Rattle.std.specs.Prelude.{◌||◌, nat_le, is_some, if◌then◌else◌}
use Rattle.std.proofs.lemmas.Option.{none-some}
use Rattle.std.proofs.lemmas.Bool.{le-leb, lt-leb}
use Rattle.plain_tree.specs.Ops.{Ops, end_of_ops, more_ops, Blocks, end_of_blocks, block, PlainBlock, Values}
use Rattle.rule_model.specs.Words.{has, numbers, count_of, results_of, block_of, binds, binds_in_ops}
use Rattle.rule_model.specs.Paths.{ends}
use Rattle.rule_model.proofs.Numbers.{some_same}
use Rattle.path_search.specs.LeftOut.{defines, early}
use Rattle.use_paths.specs.declared.homes.Home.{Home}
use Rattle.use_paths.specs.Blocks.{all_at, home_in, homes_from, left_at_end, op_homes}
use Rattle.first_places.proofs.Once.{count_in, count_joined, own_results, own_values, some_counted}
use Rattle.use_paths.proofs.Places.{end_at_most, end_here, end_later, position_of}
use Rattle.first_places.proofs.Tables.{among, among_joined, first_of, from_nothing}

-- how many operations stand behind the first definition of v in a block
abbrev pub left_of : ℕ → Ops → Option ℕ
left_of v end_of_ops = None
left_of v (more_ops o rest) = if has v (results_of o) then Some (count_of rest) else left_of v rest

abbrev pub left_in : ℕ → Values → Ops → Option ℕ
left_in v args ops = if has v (numbers args) then Some (count_of ops) else left_of v ops

abbrev pub home_at : ℕ → Option ℕ → Option Home
home_at n None = None
home_at n (Some d) = Some (record { block = n; left = d })

abbrev pub home_from : ℕ → ℕ → Blocks → Option Home
home_from v n end_of_blocks = None
home_from v n (block label args ops more) = first_of (home_at n (left_in v args ops)) (home_from v (n + 1) more)

-- The table has it

among_all : (home : Home) (vs : List ℕ) (v : ℕ) → among (all_at home vs) v ≡ (if has v vs then Some home else None)
among_all home [] v = refl
among_all home (n ∷ ns) v = go (n == v) (among_all home ns v)
  where
    go : (b : Bool) → among (all_at home ns) v ≡ (if has v ns then Some home else None)
        → (if b then Some home else among (all_at home ns) v) ≡ (if b || has v ns then Some home else None)
    go true e = refl
    go false e = e

among_ops : (n : ℕ) (ops : Ops) (v : ℕ) → among (op_homes n ops) v ≡ home_at n (left_of v ops)
among_ops n end_of_ops v = refl
among_ops n (more_ops o rest) v =
    among_joined (all_at (record { block = n; left = count_of rest }) (results_of o)) (op_homes n rest) v
    ∙ ap (λ a. first_of a (among (op_homes n rest) v)) (among_all (record { block = n; left = count_of rest }) (results_of o) v)
    ∙ go (has v (results_of o)) (among_ops n rest v)
  where
    go : (b : Bool) → among (op_homes n rest) v ≡ home_at n (left_of v rest)
        → first_of (if b then Some (record { block = n; left = count_of rest }) else None) (among (op_homes n rest) v) ≡ home_at n (if b then Some (count_of rest) else left_of v rest)
    go true e = refl
    go false e = e

first_joined : {A : Type 0} (a b c : Option A) → first_of a (first_of b c) ≡ first_of (first_of a b) c
first_joined (Some x) b c = refl
first_joined None b c = refl

among_blocks : (n : ℕ) (bs : Blocks) (v : ℕ) → among (homes_from n bs) v ≡ home_from v n bs
among_blocks n end_of_blocks v = refl
among_blocks n (block label args ops more) v =
    let here : Home = record { block = n; left = count_of ops } in
    among_joined (all_at here (numbers args)) (op_homes n ops ++ homes_from (n + 1) more) v
    ∙ ap (λ a. first_of a (among (op_homes n ops ++ homes_from (n + 1) more) v)) (among_all here (numbers args) v)
    ∙ ap (λ a. first_of (if has v (numbers args) then Some here else None) a) (among_joined (op_homes n ops) (homes_from (n + 1) more) v)
    ∙ first_joined (if has v (numbers args) then Some here else None) (among (op_homes n ops) v) (among (homes_from (n + 1) more) v)
    ∙ ap (λ a. first_of (first_of (if has v (numbers args) then Some here else None) (among (op_homes n ops) v)) a) (among_blocks (n + 1) more v)
    ∙ ap (λ a. first_of a (home_from v (n + 1) more)) (go (has v (numbers args)) (among_ops n ops v))
  where
    go : (b : Bool) → among (op_homes n ops) v ≡ home_at n (left_of v ops)
        → first_of (if b then Some (record { block = n; left = count_of ops }) else None) (among (op_homes n ops) v) ≡ home_at n (if b then Some (count_of ops) else left_of v ops)
    go true e = refl
    go false e = e

pub home_is : (bs : Blocks) (v : ℕ) → home_in bs v ≡ home_from v 0 bs
home_is bs v = from_nothing (homes_from 0 bs) v ∙ among_blocks 0 bs v

-- What a region defines

left_there : (v : ℕ) (ops : Ops) → is_some (left_of v ops) ≡ binds_in_ops v ops
left_there v end_of_ops = refl
left_there v (more_ops o rest) = go (has v (results_of o)) (left_there v rest)
  where
    go : (b : Bool) → is_some (left_of v rest) ≡ binds_in_ops v rest → is_some (if b then Some (count_of rest) else left_of v rest) ≡ (b || binds_in_ops v rest)
    go true e = refl
    go false e = e

pub home_there : (v n : ℕ) (bs : Blocks) → is_some (home_from v n bs) ≡ binds v bs
home_there v n end_of_blocks = refl
home_there v n (block label args ops more) = go (has v (numbers args)) (left_of v ops) (left_there v ops) (home_there v (n + 1) more)
  where
    later : (o : Option ℕ) (c : Bool) → is_some o ≡ c → is_some (home_from v (n + 1) more) ≡ binds v more
        → is_some (first_of (home_at n o) (home_from v (n + 1) more)) ≡ (c || binds v more)
    later (Some d) c e f = ap (λ b. b || binds v more) e
    later None c e f = f ∙ ap (λ b. b || binds v more) e

    go : (b : Bool) (o : Option ℕ) → is_some o ≡ binds_in_ops v ops → is_some (home_from v (n + 1) more) ≡ binds v more
        → is_some (first_of (home_at n (if b then Some (count_of ops) else o)) (home_from v (n + 1) more)) ≡ (b || (binds_in_ops v ops || binds v more))
    go true o e f = refl
    go false o e f = later o (binds_in_ops v ops) e f

-- a home is at the n-th block or behind it
home_behind : (v n : ℕ) (bs : Blocks) (h : Home) → home_from v n bs ≡ Some h → n ≤ h.block
home_behind v n end_of_blocks h e = absurd (none-some h e)
home_behind v n (block label args ops more) h e = go (left_in v args ops) e (λ k. home_behind v (n + 1) more h k)
  where
    go : (o : Option ℕ) → first_of (home_at n o) (home_from v (n + 1) more) ≡ Some h → (home_from v (n + 1) more ≡ Some h → n + 1 ≤ h.block) → n ≤ h.block
    go (Some d) k rest = subst (λ (x : Home). n ≤ x.block) (some_same _ h k) (omega arith)
    go None k rest = let less = rest k in omega (arith, less)

-- the block at the place of a home defines the value there
pub home_defines : (v n : ℕ) (bs : Blocks) (h : Home) (t : ℕ) (c : PlainBlock) → home_from v n bs ≡ Some h → block_of t bs ≡ Some c
    → h.block ≡ n + position_of t bs → left_in v c.args c.ops ≡ Some h.left
home_defines v n end_of_blocks h t c e is same = absurd (none-some h e)
home_defines v n (block label args ops more) h t c e is same =
    go (left_in v args ops) (label == t) refl e is same (λ k. home_behind v (n + 1) more h k) (λ k j s. home_defines v (n + 1) more h t c k j s)
  where
    go : (o : Option ℕ) (b : Bool) → left_in v args ops ≡ o → first_of (home_at n o) (home_from v (n + 1) more) ≡ Some h
        → (if b then Some (record { label = label; args = args; ops = ops }) else block_of t more) ≡ Some c
        → h.block ≡ n + (if b then 0 else suc (position_of t more))
        → (home_from v (n + 1) more ≡ Some h → n + 1 ≤ h.block)
        → (home_from v (n + 1) more ≡ Some h → block_of t more ≡ Some c → h.block ≡ n + 1 + position_of t more → left_in v c.args c.ops ≡ Some h.left)
        → left_in v c.args c.ops ≡ Some h.left
    go (Some d) true f k j s behind rest =
        ap (λ (x : PlainBlock). left_in v x.args x.ops) (sym (some_same _ c j)) ∙ f ∙ ap (λ (x : Home). Some x.left) (some_same _ h k)
    go (Some d) false f k j s behind rest =
        let here : n ≡ h.block = ap (λ (x : Home). x.block) (some_same _ h k) in absurd (omega (arith, here, s))
    go None true f k j s behind rest = absurd (omega (arith, behind k, s))
    go None false f k j s behind rest = rest k j (omega (arith, s))

-- Each value stands once

counted_ops : (v : ℕ) (ops : Ops) (d : ℕ) → left_of v ops ≡ Some d → 1 ≤ count_in v (own_results ops)
counted_ops v end_of_ops d e = absurd (none-some d e)
counted_ops v (more_ops o rest) d e = go (has v (results_of o)) refl e (λ k. counted_ops v rest d k)
  where
    go : (b : Bool) → has v (results_of o) ≡ b → (if b then Some (count_of rest) else left_of v rest) ≡ Some d
        → (left_of v rest ≡ Some d → 1 ≤ count_in v (own_results rest)) → 1 ≤ count_in v (results_of o ++ own_results rest)
    go true f k later =
        let sum = count_joined v (results_of o) (own_results rest) in
        let one = some_counted v (results_of o) f in
        omega (arith, sum, one)
    go false f k later =
        let sum = count_joined v (results_of o) (own_results rest) in
        let one = later k in
        omega (arith, sum, one)

counted_block : (v : ℕ) (args : Values) (ops : Ops) (d : ℕ) → left_in v args ops ≡ Some d → 1 ≤ count_in v (numbers args) + count_in v (own_results ops)
counted_block v args ops d e = go (has v (numbers args)) refl e
  where
    go : (b : Bool) → has v (numbers args) ≡ b → (if b then Some (count_of ops) else left_of v ops) ≡ Some d → 1 ≤ count_in v (numbers args) + count_in v (own_results ops)
    go true f k = let one = some_counted v (numbers args) f in omega (arith, one)
    go false f k = let one = counted_ops v ops d k in omega (arith, one)

sum_of : (v : ℕ) (args : Values) (ops : Ops) (more : Blocks)
    → count_in v (numbers args ++ (own_results ops ++ own_values more)) ≡ count_in v (numbers args) + (count_in v (own_results ops) + count_in v (own_values more))
sum_of v args ops more =
    let outer = count_joined v (numbers args) (own_results ops ++ own_values more) in
    let inner = count_joined v (own_results ops) (own_values more) in
    omega (arith, outer, inner)

counted_blocks : (v : ℕ) (bs : Blocks) (t : ℕ) (c : PlainBlock) (d : ℕ) → block_of t bs ≡ Some c → left_in v c.args c.ops ≡ Some d → 1 ≤ count_in v (own_values bs)
counted_blocks v end_of_blocks t c d is e = absurd (none-some c is)
counted_blocks v (block label args ops more) t c d is e = go (label == t) is (λ k. counted_blocks v more t c d k e)
  where
    go : (b : Bool) → (if b then Some (record { label = label; args = args; ops = ops }) else block_of t more) ≡ Some c
        → (block_of t more ≡ Some c → 1 ≤ count_in v (own_values more)) → 1 ≤ count_in v (numbers args ++ (own_results ops ++ own_values more))
    go true k rest =
        let here = counted_block v args ops d (ap (λ (x : PlainBlock). left_in v x.args x.ops) (some_same _ c k) ∙ e) in
        let sum = sum_of v args ops more in
        omega (arith, here, sum)
    go false k rest =
        let there = rest k in
        let sum = sum_of v args ops more in
        omega (arith, there, sum)

-- a block that defines a value is its home
pub defines_home : (v n : ℕ) (bs : Blocks) (t : ℕ) (c : PlainBlock) (d : ℕ) → count_in v (own_values bs) ≤ 1 → block_of t bs ≡ Some c → left_in v c.args c.ops ≡ Some d
    → home_from v n bs ≡ Some (record { block = n + position_of t bs; left = d })
defines_home v n end_of_blocks t c d once is e = absurd (none-some c is)
defines_home v n (block label args ops more) t c d once is e =
    go (label == t) (left_in v args ops) refl is (sum_of v args ops more) (λ x k. counted_block v args ops x k) (λ k. counted_blocks v more t c d k e)
    (λ less k. defines_home v (n + 1) more t c d less k e)
  where
    go : (b : Bool) (o : Option ℕ) → left_in v args ops ≡ o → (if b then Some (record { label = label; args = args; ops = ops }) else block_of t more) ≡ Some c
        → count_in v (numbers args ++ (own_results ops ++ own_values more)) ≡ count_in v (numbers args) + (count_in v (own_results ops) + count_in v (own_values more))
        → ((x : ℕ) → left_in v args ops ≡ Some x → 1 ≤ count_in v (numbers args) + count_in v (own_results ops))
        → (block_of t more ≡ Some c → 1 ≤ count_in v (own_values more))
        → (count_in v (own_values more) ≤ 1 → block_of t more ≡ Some c → home_from v (n + 1) more ≡ Some (record { block = n + 1 + position_of t more; left = d }))
        → first_of (home_at n o) (home_from v (n + 1) more) ≡ Some (record { block = n + (if b then 0 else suc (position_of t more)); left = d })
    go true o f k sum here there rest =
        let same : o ≡ Some d = sym f ∙ ap (λ (x : PlainBlock). left_in v x.args x.ops) (some_same _ c k) ∙ e in
        let zero_on : n ≡ n + 0 = omega arith in
        ap (λ p. first_of (home_at n p) (home_from v (n + 1) more)) same ∙ ap (λ m. Some (record { block = m; left = d })) zero_on
    go false (Some x) f k sum here there rest =
        let one = here x f in
        let two = there k in
        absurd (omega (arith, once, sum, one, two))
    go false None f k sum here there rest =
        let on : n + 1 + position_of t more ≡ n + suc (position_of t more) = omega arith in
        rest (omega (arith, once, sum)) k ∙ ap (λ m. Some (record { block = m; left = d })) on

-- A definition in front of the end

abbrev early_by : ℕ → Option ℕ → Bool
early_by e None = false
early_by e (Some d) = nat_le e d

pub left_less : (v : ℕ) (ops : Ops) (d : ℕ) → left_of v ops ≡ Some d → d < count_of ops
left_less v end_of_ops d e = absurd (none-some d e)
left_less v (more_ops o rest) d e = go (has v (results_of o)) e (λ k. left_less v rest d k)
  where
    go : (b : Bool) → (if b then Some (count_of rest) else left_of v rest) ≡ Some d → (left_of v rest ≡ Some d → d < count_of rest) → d < count_of rest + 1
    go true k later = let e = some_same (count_of rest) d k in omega (arith, e)
    go false k later = let less = later k in omega (arith, less)

never_early : (e : ℕ) (o : Option ℕ) → ((d : ℕ) → o ≡ Some d → d < e) → early_by e o ≡ false
never_early e None less = refl
never_early e (Some d) less = lt-leb e d (less d refl)

early_is : (v : ℕ) (ops : Ops) → early v ops ≡ early_by (left_at_end ops) (left_of v ops)
early_is v end_of_ops = refl
early_is v (more_ops o rest) =
    go (ends o) (has v (results_of o)) refl refl (early_is v rest) (λ d k. left_less v (more_ops o rest) d k)
  where
    go : (b c : Bool) → ends o ≡ b → has v (results_of o) ≡ c → early v rest ≡ early_by (left_at_end rest) (left_of v rest)
        → ((d : ℕ) → left_of v (more_ops o rest) ≡ Some d → d < count_of rest + 1)
        → (if b then false else (if c then true else early v rest)) ≡ early_by (left_at_end (more_ops o rest)) (if c then Some (count_of rest) else left_of v rest)
    go true c f g ih less =
        sym (never_early (left_at_end (more_ops o rest)) (if c then Some (count_of rest) else left_of v rest)
        (λ d k. subst (λ m. d < m) (sym (end_here o rest f)) (less d (ap (λ b. if b then Some (count_of rest) else left_of v rest) g ∙ k))))
    go false true f g ih less =
        sym (le-leb (left_at_end (more_ops o rest)) (count_of rest) (subst (λ m. m ≤ count_of rest) (sym (end_later o rest f)) (end_at_most rest)))
    go false false f g ih less = ih ∙ ap (λ m. early_by m (left_of v rest)) (sym (end_later o rest f))

pub defines_is : (v : ℕ) (c : PlainBlock) → defines v c ≡ early_by (left_at_end c.ops) (left_in v c.args c.ops)
defines_is v c = go (has v (numbers c.args)) (early_is v c.ops)
  where
    go : (b : Bool) → early v c.ops ≡ early_by (left_at_end c.ops) (left_of v c.ops)
        → (b || early v c.ops) ≡ early_by (left_at_end c.ops) (if b then Some (count_of c.ops) else left_of v c.ops)
    go true e = sym (le-leb (left_at_end c.ops) (count_of c.ops) (end_at_most c.ops))
    go false e = e

pub defines_none : (v : ℕ) (c : PlainBlock) → left_in v c.args c.ops ≡ None → defines v c ≡ false
defines_none v c e = defines_is v c ∙ ap (early_by (left_at_end c.ops)) e

pub defines_some : (v : ℕ) (c : PlainBlock) (d : ℕ) → left_in v c.args c.ops ≡ Some d → defines v c ≡ nat_le (left_at_end c.ops) d
defines_some v c d e = defines_is v c ∙ ap (early_by (left_at_end c.ops)) e
