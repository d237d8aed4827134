-- Blocks by their places.
use Rattle.std.proofs.Common.{◌≡◌, ℕ, zero, suc, ◌+◌, ◌==◌, ◌<◌, ◌≤◌, Bool, true, false, List, [], ◌∷◌, map, length, get_or, Some, None, refl, sym, ap, ◌∙◌, true≢false, arith}
use Rattle.std.specs.Prelude.{◌||◌, unwrap_or, if◌then◌else◌}
use Rattle.std.proofs.lemmas.Option.{none-some}
use Rattle.std.proofs.lemmas.Bool.{eqb-true, eq-eqb}
use Rattle.plain_tree.specs.Ops.{Op, Ops, end_of_ops, more_ops, Blocks, end_of_blocks, block, PlainBlock}
use Rattle.rule_model.specs.Words.{has, count_of, successors_of, first_block, block_of}
use Rattle.rule_model.specs.Paths.{ends, exits}
use Rattle.rule_model.proofs.Numbers.{some_same, itself}
use Rattle.use_paths.specs.Blocks.{block_count, ends_in, exits_by, graph_by, labels_from, left_at_end, place_in, stops}
use Rattle.first_places.proofs.Tables.{among, from_nothing}

-- What ends a path

pub stops_are : (o : Op) → stops o ≡ ends o
unfolding stops
stops_are o = refl

pub exits_are : (os : Ops) → exits_by os ≡ exits os
exits_are end_of_ops = refl
exits_are (more_ops o os) =
    ap (λ b. if b then successors_of o else exits_by os) (stops_are o) ∙ ap (λ ls. if ends o then successors_of o else ls) (exits_are os)

pub end_here : (o : Op) (os : Ops) → ends o ≡ true → left_at_end (more_ops o os) ≡ count_of os + 1
end_here o os e = ap (λ b. if b then count_of os + 1 else left_at_end os) (stops_are o ∙ e)

pub end_later : (o : Op) (os : Ops) → ends o ≡ false → left_at_end (more_ops o os) ≡ left_at_end os
end_later o os e = ap (λ b. if b then count_of os + 1 else left_at_end os) (stops_are o ∙ e)

pub end_at_most : (os : Ops) → left_at_end os ≤ count_of os
end_at_most end_of_ops = omega arith
end_at_most (more_ops o os) = go (stops o) (end_at_most os)
  where
    go : (b : Bool) → left_at_end os ≤ count_of os → (if b then count_of os + 1 else left_at_end os) ≤ count_of os + 1
    go true h = omega arith
    go false h = omega (arith, h)

-- The place of a label

abbrev pub position_of : ℕ → Blocks → ℕ
position_of l end_of_blocks = 0
position_of l (block label args ops more) = if label == l then 0 else suc (position_of l more)

labels_at : (bs : Blocks) (n l : ℕ) → unwrap_or (among (labels_from n bs) l) (n + block_count bs) ≡ n + position_of l bs
labels_at end_of_blocks n l = refl
labels_at (block label args ops more) n l = go (label == l) (labels_at more (n + 1) l)
  where
    go : (b : Bool) → unwrap_or (among (labels_from (n + 1) more) l) (n + 1 + block_count more) ≡ n + 1 + position_of l more
        → unwrap_or (if b then Some n else among (labels_from (n + 1) more) l) (n + (block_count more + 1)) ≡ n + (if b then 0 else suc (position_of l more))
    go true rest = omega arith
    go false rest =
        let e : n + (block_count more + 1) ≡ n + 1 + block_count more = omega arith in
        let f : n + 1 + position_of l more ≡ n + suc (position_of l more) = omega arith in
        ap (unwrap_or (among (labels_from (n + 1) more) l)) e ∙ rest ∙ f

pub place_is : (bs : Blocks) (l : ℕ) → place_in bs l ≡ position_of l bs
place_is bs l =
    let e : block_count bs ≡ 0 + block_count bs = omega arith in
    let f : 0 + position_of l bs ≡ position_of l bs = omega arith in
    ap (λ o. unwrap_or o (block_count bs)) (from_nothing (labels_from 0 bs) l)
    ∙ ap (unwrap_or (among (labels_from 0 bs) l)) e
    ∙ labels_at bs 0 l ∙ f

pub graph_length : (place : ℕ → ℕ) (bs : Blocks) → length (graph_by place bs) ≡ block_count bs
graph_length place end_of_blocks = refl
graph_length place (block label args ops more) = let rest = graph_length place more in omega (arith, rest)

pub found_within : (bs : Blocks) (l : ℕ) (c : PlainBlock) → block_of l bs ≡ Some c → position_of l bs < block_count bs
found_within end_of_blocks l c e = absurd (none-some c e)
found_within (block label args ops more) l c e = go (label == l) e (λ k. found_within more l c k)
  where
    go : (b : Bool) → (if b then Some (record { label = label; args = args; ops = ops }) else block_of l more) ≡ Some c
        → (block_of l more ≡ Some c → position_of l more < block_count more) → (if b then 0 else suc (position_of l more)) < block_count more + 1
    go true k rest = omega arith
    go false k rest = let h = rest k in omega (arith, h)

pub row_at : (place : ℕ → ℕ) (bs : Blocks) (l : ℕ) (c : PlainBlock) → block_of l bs ≡ Some c
    → get_or (graph_by place bs) (position_of l bs) [] ≡ map place (exits_by c.ops)
row_at place end_of_blocks l c e = absurd (none-some c e)
row_at place (block label args ops more) l c e = go (label == l) e (λ k. row_at place more l c k)
  where
    go : (b : Bool) → (if b then Some (record { label = label; args = args; ops = ops }) else block_of l more) ≡ Some c
        → (block_of l more ≡ Some c → get_or (graph_by place more) (position_of l more) [] ≡ map place (exits_by c.ops))
        → get_or (map place (exits_by ops) ∷ graph_by place more) (if b then 0 else suc (position_of l more)) [] ≡ map place (exits_by c.ops)
    go true k rest = ap (λ (d : PlainBlock). map place (exits_by d.ops)) (some_same _ c k)
    go false k rest = rest k

pub no_row : (place : ℕ → ℕ) (bs : Blocks) (l : ℕ) → block_of l bs ≡ None → get_or (graph_by place bs) (position_of l bs) [] ≡ []
no_row place end_of_blocks l e = refl
no_row place (block label args ops more) l e = go (label == l) e (λ k. no_row place more l k)
  where
    go : (b : Bool) → (if b then Some (record { label = label; args = args; ops = ops }) else block_of l more) ≡ None
        → (block_of l more ≡ None → get_or (graph_by place more) (position_of l more) [] ≡ [])
        → get_or (map place (exits_by ops) ∷ graph_by place more) (if b then 0 else suc (position_of l more)) [] ≡ []
    go true k rest = absurd (none-some _ (sym k))
    go false k rest = rest k

pub end_at : (bs : Blocks) (l : ℕ) (c : PlainBlock) → block_of l bs ≡ Some c → get_or (ends_in bs) (position_of l bs) 0 ≡ left_at_end c.ops
end_at end_of_blocks l c e = absurd (none-some c e)
end_at (block label args ops more) l c e = go (label == l) e (λ k. end_at more l c k)
  where
    go : (b : Bool) → (if b then Some (record { label = label; args = args; ops = ops }) else block_of l more) ≡ Some c
        → (block_of l more ≡ Some c → get_or (ends_in more) (position_of l more) 0 ≡ left_at_end c.ops)
        → get_or (left_at_end ops ∷ ends_in more) (if b then 0 else suc (position_of l more)) 0 ≡ left_at_end c.ops
    go true k rest = ap (λ (d : PlainBlock). left_at_end d.ops) (some_same _ c k)
    go false k rest = rest k

-- a label that is found is the only one at its place
pub one_label : (bs : Blocks) (l t : ℕ) (c : PlainBlock) → block_of l bs ≡ Some c → position_of l bs ≡ position_of t bs → l ≡ t
one_label end_of_blocks l t c e same = absurd (none-some c e)
one_label (block label args ops more) l t c e same =
    go (label == l) (label == t) refl refl e same (λ k s. one_label more l t c k s)
  where
    go : (a b : Bool) → (label == l) ≡ a → (label == t) ≡ b → (if a then Some (record { label = label; args = args; ops = ops }) else block_of l more) ≡ Some c
        → (if a then 0 else suc (position_of l more)) ≡ (if b then 0 else suc (position_of t more))
        → (block_of l more ≡ Some c → position_of l more ≡ position_of t more → l ≡ t) → l ≡ t
    go true true f g k s rest = sym (eqb-true label l f) ∙ eqb-true label t g
    go true false f g k s rest = absurd (omega (arith, s))
    go false true f g k s rest = absurd (omega (arith, s))
    go false false f g k s rest = rest k (omega (arith, s))

pub first_place : (bs : Blocks) (b : PlainBlock) → first_block bs ≡ Some b → position_of b.label bs ≡ 0
first_place end_of_blocks b e = absurd (none-some b e)
first_place (block label args ops more) b e =
    ap (λ (d : PlainBlock). position_of d.label (block label args ops more)) (sym (some_same _ b e))
    ∙ ap (λ c. if c then 0 else suc (position_of label more)) (itself label)

-- the block at the first place is the first block
pub at_first : (bs : Blocks) (l : ℕ) (b : PlainBlock) → block_of l bs ≡ Some b → position_of l bs ≡ 0 → (first_block bs ≡ Some b) × (b.label ≡ l)
at_first end_of_blocks l b e z = absurd (none-some b e)
at_first (block label args ops more) l b e z = go (label == l) refl e z
  where
    go : (c : Bool) → (label == l) ≡ c → (if c then Some (record { label = label; args = args; ops = ops }) else block_of l more) ≡ Some b
        → (if c then 0 else suc (position_of l more)) ≡ 0
        → (first_block (block label args ops more) ≡ Some b) × (b.label ≡ l)
    go true f k s = (k, sym (ap (λ (d : PlainBlock). d.label) (some_same _ b k)) ∙ eqb-true label l f)
    go false f k s = absurd (omega (arith, s))

-- what follows a block in the graph is the place of a label
abbrev pub Named : (ℕ → ℕ) → ℕ → Type 0
Named place n = (t : ℕ) × (n ≡ place t)

pub exit_of : (place : ℕ → ℕ) (n : ℕ) (ls : List ℕ) → has n (map place ls) ≡ true → (t : ℕ) × (has t ls ≡ true) × (n ≡ place t)
exit_of place n [] h = absurd (true≢false (sym h))
exit_of place n (l ∷ ls) h = go (place l == n) refl h (λ k. exit_of place n ls k)
  where
    later : (t : ℕ) (b : Bool) → (l == t) ≡ b → has t ls ≡ true → (b || has t ls) ≡ true
    later t true e k = refl
    later t false e k = k

    go : (b : Bool) → (place l == n) ≡ b → (b || has n (map place ls)) ≡ true
        → (has n (map place ls) ≡ true → (t : ℕ) × (has t ls ≡ true) × (n ≡ place t)) → (t : ℕ) × (has t (l ∷ ls) ≡ true) × (n ≡ place t)
    go true e k rest = (l, ap (λ b. b || has l ls) (itself l), sym (eqb-true (place l) n e))
    go false e k rest = let r = rest k in (r.0, later r.0 (l == r.0) refl r.1, r.2)

pub is_exit : (place : ℕ → ℕ) (t : ℕ) (ls : List ℕ) → has t ls ≡ true → has (place t) (map place ls) ≡ true
is_exit place t [] h = absurd (true≢false (sym h))
is_exit place t (l ∷ ls) h = go (l == t) refl h (λ k. is_exit place t ls k)
  where
    later : (b : Bool) → has (place t) (map place ls) ≡ true → (b || has (place t) (map place ls)) ≡ true
    later true k = refl
    later false k = k

    go : (b : Bool) → (l == t) ≡ b → (b || has t ls) ≡ true → (has t ls ≡ true → has (place t) (map place ls) ≡ true)
        → ((place l == place t) || has (place t) (map place ls)) ≡ true
    go true e k rest = ap (λ b. b || has (place t) (map place ls)) (eq-eqb (place l) (place t) (ap place (eqb-true l t e)))
    go false e k rest = later (place l == place t) (rest k)

pub in_graph : (place : ℕ → ℕ) (bs : Blocks) (m n : ℕ) → has n (get_or (graph_by place bs) m []) ≡ true → Named place n
in_graph place end_of_blocks m n h = absurd (true≢false (sym h))
in_graph place (block label args ops more) zero n h = let r = exit_of place n (exits_by ops) h in (r.0, r.2)
in_graph place (block label args ops more) (suc m) n h = in_graph place more m n h
