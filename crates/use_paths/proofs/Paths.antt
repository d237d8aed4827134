-- Paths of operations, and blocks that are reached with the block of a definition left out.
use Rattle.std.proofs.Common.{◌≡◌, ℕ, ◌+◌, ◌==◌, ◌<◌, ◌≤◌, Bool, true, false, List, [], ◌∷◌, ◌++◌, map, length, get_or, Option, Some, None, refl, sym, ap, ◌∙◌, subst, true≢false, arith}
use Rattle.std.specs.Prelude.{◌||◌, ◌&&◌, nat_lt, nat_le, if◌then◌else◌}
use Rattle.std.proofs.lemmas.Option.{none-some}
use Rattle.std.proofs.lemmas.Bool.{eqb-true, eq-eqb, ltb-true, ltb-false, leb-true, le-leb, lt-leb}
use Rattle.plain_tree.specs.Ops.{Op, Ops, end_of_ops, more_ops, Blocks, end_of_blocks, block, PlainBlock}
use Rattle.rule_model.specs.Words.{has, numbers, count_of, results_of, successors_of, first_block, block_of}
use Rattle.rule_model.specs.Paths.{ends, exits, Frame, Passed, Reach, enters, passes, jumps}
use Rattle.rule_model.specs.Paths as paths
use Rattle.rule_model.proofs.Numbers.{some_same, or_first, or_second}
use Rattle.rule_model.proofs.Places.{Along, at_start, one_on, first_found}
use Rattle.block_search.specs.Reach.{Reached, begins, followed, follows}
use Rattle.block_search.proofs.Marking.{has_joined, is_one}
use Rattle.path_search.specs.LeftOut.{defines, early}
use Rattle.use_paths.specs.declared.homes.Home.{Home}
use Rattle.use_paths.specs.Blocks.{ends_in, exits_by, graph, left_at_end, place_in}
use Rattle.use_paths.specs.Levels.{known_of, left_out, Missing, spot_of}
use Rattle.first_places.proofs.Once.{count_in, own_values}
use Rattle.use_paths.proofs.Places.{at_first, end_at, end_at_most, end_here, end_later, exit_of, exits_are, first_place, found_within, graph_length, in_graph, is_exit, Named, no_row, one_label, place_is, position_of, row_at}
use Rattle.use_paths.proofs.HomeLaws.{defines_home, defines_none, defines_some, home_defines, home_from, left_in, left_less, left_of}

-- The block that defines v is left out, where it defines v in front of its end

abbrev pub LeftOut : ℕ → ℕ → Blocks → Type 0
LeftOut v out bs = (t : ℕ) (c : PlainBlock) → block_of t bs ≡ Some c → defines v c ≡ (position_of t bs == out)

-- From paths to blocks

-- a path without v is at these operations
pub record Stands (bs : Blocks) (v out l : ℕ) (bound : List ℕ) (ops : Ops) : Type 0 where
  pub at : PlainBlock
  pub is : block_of l bs ≡ Some at
  pub among : Reached (followed (graph bs) out) (0 ∷ []) (position_of l bs)
  pub free : has v (numbers at.args) ≡ false
  pub unbound : has v bound ≡ false
  pub goes : exits ops ≡ exits at.ops
  pub ahead : early v ops ≡ early v at.ops
  pub end_is : left_at_end ops ≡ left_at_end at.ops

exits_on : (o : Op) (rest : Ops) → ends o ≡ false → exits (more_ops o rest) ≡ exits rest
exits_on o rest e = ap (λ b. if b then successors_of o else exits rest) e

exits_off : (o : Op) (rest : Ops) → ends o ≡ true → exits (more_ops o rest) ≡ successors_of o
exits_off o rest e = ap (λ b. if b then successors_of o else exits rest) e

early_on : (v : ℕ) (o : Op) (rest : Ops) → ends o ≡ false → has v (results_of o) ≡ false → early v (more_ops o rest) ≡ early v rest
early_on v o rest e f = ap (λ b. if b then false else (if has v (results_of o) then true else early v rest)) e ∙ ap (λ b. if b then true else early v rest) f

early_off : (v : ℕ) (o : Op) (rest : Ops) → ends o ≡ true → early v (more_ops o rest) ≡ false
early_off v o rest e = ap (λ b. if b then false else (if has v (results_of o) then true else early v rest)) e

neither : (v : ℕ) (ms ns : List ℕ) → has v ms ≡ false → has v ns ≡ false → has v (ms ++ ns) ≡ false
neither v ms ns e f = has_joined v ms ns ∙ ap (λ b. b || has v ns) e ∙ f

on_graph : (bs : Blocks) (out m n : ℕ) → (m == out) ≡ false → has n (get_or (graph bs) m []) ≡ true → has n (followed (graph bs) out m) ≡ true
on_graph bs out m n other h = ap (λ b. has n (if b then [] else get_or (graph bs) m [])) other ∙ h

exit_row : (bs : Blocks) (l t : ℕ) (c : PlainBlock) → block_of l bs ≡ Some c → has t (exits c.ops) ≡ true → has (position_of t bs) (get_or (graph bs) (position_of l bs) []) ≡ true
exit_row bs l t c is h =
    ap (λ ls. has (position_of t bs) ls) (row_at (place_in bs) bs l c is)
    ∙ ap (λ n. has n (map (place_in bs) (exits_by c.ops))) (sym (place_is bs t))
    ∙ is_exit (place_in bs) t (exits_by c.ops) (ap (has t) (exits_are c.ops) ∙ h)

pub stands : {bs : Blocks} {v l : ℕ} {bound : List ℕ} {ops : Ops} (out : ℕ) → LeftOut v out bs → Reach bs v l bound ops → Stands bs v out l bound ops
stands {bs = bs} {v = v} out left (enters b e f) = record {
  at = b;
  is = first_found bs b e;
  among = begins (position_of b.label bs) (ap (λ n. has n (0 ∷ [])) (first_place bs b e));
  free = f;
  unbound = f;
  goes = refl;
  ahead = refl;
  end_is = refl;
}
stands {bs = bs} {v = v} out left (passes o {bound = bound} {rest = rest} r e f) =
    let s = stands out left r in
    record {
      at = s.at;
      is = s.is;
      among = s.among;
      free = s.free;
      unbound = neither v (results_of o) bound f s.unbound;
      goes = sym (exits_on o rest e) ∙ s.goes;
      ahead = sym (early_on v o rest e f) ∙ s.ahead;
      end_is = sym (end_later o rest e) ∙ s.end_is;
    }
stands {bs = bs} {v = v} out left (jumps o t b {l = l} {rest = rest} r e k is f) =
    let s = stands out left r in
    let none : defines v s.at ≡ false = ap (λ c. c || early v s.at.ops) s.free ∙ sym s.ahead ∙ early_off v o rest e in
    let other : (position_of l bs == out) ≡ false = sym (left l s.at s.is) ∙ none in
    let goes : has t (exits s.at.ops) ≡ true = ap (has t) (sym s.goes ∙ exits_off o rest e) ∙ k in
    record {
      at = b;
      is = is;
      among = follows (position_of l bs) (position_of t bs) s.among (on_graph bs out (position_of l bs) (position_of t bs) other (exit_row bs l t s.at s.is goes));
      free = f;
      unbound = f;
      goes = refl;
      ahead = refl;
      end_is = refl;
    }

-- From blocks to paths

-- a path without v is at the start of the block at this place
abbrev Starts : Blocks → ℕ → ℕ → Type 0
Starts bs v n =
    (l : ℕ) (b : PlainBlock) → block_of l bs ≡ Some b → position_of l bs ≡ n → has v (numbers b.args) ≡ false → Reach bs v l (numbers b.args) b.ops

-- from a place of a block that doesn't define v from there on a path goes on to each exit
leave : (bs : Blocks) (v l : ℕ) (bound : List ℕ) (ops : Ops) (t : ℕ) (b : PlainBlock) → Reach bs v l bound ops → early v ops ≡ false → has t (exits ops) ≡ true
    → block_of t bs ≡ Some b → has v (numbers b.args) ≡ false → Reach bs v t (numbers b.args) b.ops
leave bs v l bound end_of_ops t b r none h is free = absurd (true≢false (sym h))
leave bs v l bound (more_ops o rest) t b r none h is free =
    go (ends o) (has v (results_of o)) refl refl none h (λ s n k. leave bs v l (results_of o ++ bound) rest t b s n k is free)
  where
    go : (e d : Bool) → ends o ≡ e → has v (results_of o) ≡ d → (if e then false else (if d then true else early v rest)) ≡ false
        → has t (if e then successors_of o else exits rest) ≡ true
        → (Reach bs v l (results_of o ++ bound) rest → early v rest ≡ false → has t (exits rest) ≡ true → Reach bs v t (numbers b.args) b.ops)
        → Reach bs v t (numbers b.args) b.ops
    go true d e f n k later = jumps o t b r e k is free
    go false true e f n k later = absurd (true≢false n)
    go false false e f n k later = later (passes o r e f) n k

-- each place that is reached is the place of a label
named : (bs : Blocks) (out n : ℕ) → Reached (followed (graph bs) out) (0 ∷ []) n → Named (place_in bs) n
named bs out n (begins _ h) = at_start_of bs (is_one n 0 h)
  where
    at_start_of : (cs : Blocks) → 0 ≡ n → Named (place_in cs) n
    at_start_of end_of_blocks e = (0, sym e ∙ sym (place_is end_of_blocks 0))
    at_start_of (block label args ops more) e =
        let b : PlainBlock = record { label = label; args = args; ops = ops } in
        (label, sym e ∙ sym (first_place (block label args ops more) b refl) ∙ sym (place_is (block label args ops more) label))
named bs out n (follows m _ r h) = go (m == out) h
  where
    go : (b : Bool) → has n (if b then [] else get_or (graph bs) m []) ≡ true → Named (place_in bs) n
    go true k = absurd (true≢false (sym k))
    go false k = in_graph (place_in bs) bs m n k

from_exits : (bs : Blocks) (v out s m n : ℕ) → LeftOut v out bs → Starts bs v m → (m == out) ≡ false → m ≡ position_of s bs
    → (o : Option PlainBlock) → block_of s bs ≡ o → has n (get_or (graph bs) (position_of s bs) []) ≡ true → Starts bs v n
from_exits bs v out s m n left inner other at None is h = absurd (true≢false (sym h ∙ ap (has n) (no_row (place_in bs) bs s is)))
from_exits bs v out s m n left inner other at (Some c) is h =
    let none : defines v c ≡ false = left s c is ∙ ap (λ k. k == out) (sym at) ∙ other in
    let path : Reach bs v s (numbers c.args) c.ops = inner s c is (sym at) (or_first (has v (numbers c.args)) (early v c.ops) none) in
    let (t, goes, place) = exit_of (place_in bs) n (exits_by c.ops) (ap (has n) (sym (row_at (place_in bs) bs s c is)) ∙ h) in
    λ l b found here free.
    let same : l ≡ t = one_label bs l t b found (here ∙ place ∙ place_is bs t) in
    subst (λ k. Reach bs v k (numbers b.args) b.ops) (sym same)
    (leave bs v s (numbers c.args) c.ops t b path (or_second (has v (numbers c.args)) (early v c.ops) none) (ap (has t) (sym (exits_are c.ops)) ∙ goes)
    (ap (λ k. block_of k bs) (sym same) ∙ found) free)

pub starts : (bs : Blocks) (v out n : ℕ) → LeftOut v out bs → Reached (followed (graph bs) out) (0 ∷ []) n → Starts bs v n
starts bs v out n left (begins _ h) = λ l b is at free.
    let first : (first_block bs ≡ Some b) × (b.label ≡ l) = at_first bs l b is (at ∙ sym (is_one n 0 h)) in
    subst (λ k. Reach bs v k (numbers b.args) b.ops) first.1 (enters b first.0 free)
starts bs v out n left (follows m _ r h) = go (m == out) refl h (named bs out m r) (starts bs v out m left r)
  where
    go : (b : Bool) → (m == out) ≡ b → has n (if b then [] else get_or (graph bs) m []) ≡ true → Named (place_in bs) m → Starts bs v m → Starts bs v n
    go true e k name inner = absurd (true≢false (sym k))
    go false e k name inner =
        let at : m ≡ position_of name.0 bs = name.1 ∙ place_is bs name.0 in
        from_exits bs v out name.0 m n left inner e at (block_of name.0 bs) refl (ap (λ j. has n (get_or (graph bs) j [])) (sym at) ∙ k)

-- Within a block

bound_joined : (v : ℕ) (ms ns : List ℕ) → has v (ms ++ ns) ≡ false → (has v ms ≡ false) × (has v ns ≡ false)
bound_joined v ms ns e = let f = sym (has_joined v ms ns) ∙ e in (or_first (has v ms) (has v ns) f, or_second (has v ms) (has v ns) f)

pass : {bs : Blocks} {b : PlainBlock} {bound : List ℕ} {ops : Ops} (v l : ℕ) → Passed b bound ops → has v bound ≡ false
    → Reach bs v l (numbers b.args) b.ops → Reach bs v l bound ops
pass v l paths.at_start free r = r
pass v l (paths.one_on o {bound = bound} p e) free r =
    let both = bound_joined v (results_of o) bound free in passes o (pass v l p both.1 r) e both.0

no_argument : {b : PlainBlock} {bound : List ℕ} {ops : Ops} (v : ℕ) → Passed b bound ops → has v bound ≡ false → has v (numbers b.args) ≡ false
no_argument v paths.at_start free = free
no_argument v (paths.one_on o {bound = bound} p e) free = no_argument v p (bound_joined v (results_of o) bound free).1

passed_end : {b : PlainBlock} {bound : List ℕ} {ops : Ops} → Passed b bound ops → left_at_end b.ops ≡ left_at_end ops
passed_end paths.at_start = refl
passed_end (paths.one_on o {rest = rest} p e) = passed_end p ∙ end_later o rest e

-- no terminator stands between the start and a place that isn't behind the end
not_behind : {b : PlainBlock} {bound : List ℕ} {ops : Ops} → Along b bound ops → left_at_end b.ops ≤ count_of ops → Passed b bound ops
not_behind at_start most = paths.at_start
not_behind {b = b} (one_on o {bound = bound} {rest = rest} a) most =
    let p : Passed b bound (more_ops o rest) = not_behind a (omega (arith, most)) in
    paths.one_on o p (go (ends o) refl (passed_end p))
  where
    go : (e : Bool) → ends o ≡ e → left_at_end b.ops ≡ left_at_end (more_ops o rest) → ends o ≡ false
    go false e same = e
    go true e same = let here = end_here o rest e in absurd (omega (arith, most, same, here))

-- what isn't defined so far is defined ahead or nowhere
still_ahead : {b : PlainBlock} {bound : List ℕ} {ops : Ops} (v : ℕ) → Along b bound ops → has v bound ≡ false → left_in v b.args b.ops ≡ left_of v ops
still_ahead {b = b} v at_start free = ap (λ c. if c then Some (count_of b.ops) else left_of v b.ops) free
still_ahead v (one_on o {bound = bound} {rest = rest} a) free =
    let both = bound_joined v (results_of o) bound free in
    still_ahead v a both.1 ∙ ap (λ c. if c then Some (count_of rest) else left_of v rest) both.0

-- and what is defined so far has its first definition behind
abbrev Before : ℕ → PlainBlock → Ops → Type 0
Before v b ops = (d : ℕ) × (left_in v b.args b.ops ≡ Some d) × (count_of ops ≤ d)

defined_before : {b : PlainBlock} {bound : List ℕ} {ops : Ops} (v : ℕ) → Along b bound ops → has v bound ≡ true → Before v b ops
defined_before {b = b} v at_start here = (count_of b.ops, ap (λ c. if c then Some (count_of b.ops) else left_of v b.ops) here, omega arith)
defined_before {b = b} v (one_on o {bound = bound} {rest = rest} a) here =
    go (has v bound) (has v (results_of o)) refl refl (sym (has_joined v (results_of o) bound) ∙ here) (λ k. defined_before v a k) (λ k. still_ahead v a k)
  where
    go : (c d : Bool) → has v bound ≡ c → has v (results_of o) ≡ d → (has v (results_of o) || has v bound) ≡ true
        → (has v bound ≡ true → Before v b (more_ops o rest)) → (has v bound ≡ false → left_in v b.args b.ops ≡ left_of v (more_ops o rest)) → Before v b rest
    go true d e f k old new = let r = old e in (r.0, r.1, let less = r.2 in omega (arith, less))
    go false true e f k old new = (count_of rest, new e ∙ ap (λ c. if c then Some (count_of rest) else left_of v rest) f, omega arith)
    go false false e f k old new = absurd (true≢false (sym k ∙ ap (λ c. c || has v bound) f ∙ e))

-- a first definition behind a place was passed
is_before : {b : PlainBlock} {bound : List ℕ} {ops : Ops} (v d : ℕ) → Along b bound ops → left_in v b.args b.ops ≡ Some d → count_of ops ≤ d → has v bound ≡ true
is_before {bound = bound} {ops = ops} v d a e less = go (has v bound) refl
  where
    go : (c : Bool) → has v bound ≡ c → has v bound ≡ true
    go true f = f
    go false f = let more = left_less v ops d (sym (still_ahead v a f) ∙ e) in absurd (omega (arith, more, less))

-- The block that is left out

other_place : (n out : ℕ) → (n ≡ out → ⊥) → false ≡ (n == out)
other_place n out other = go (n == out) refl
  where
    go : (b : Bool) → (n == out) ≡ b → false ≡ (n == out)
    go false e = sym e
    go true e = absurd (other (eqb-true n out e))

pub out_of : (bs : Blocks) (h : Home) → left_out (known_of bs) h ≡ (if nat_lt h.left (get_or (ends_in bs) h.block 0) then length (graph bs) else h.block)
unfolding known_of
out_of bs h = refl

module _ (bs : Blocks) (v : ℕ) (h : Home) (home : home_from v 0 bs ≡ Some h) (once : count_in v (own_values bs) ≤ 1) where
  at_home : (t : ℕ) (c : PlainBlock) → block_of t bs ≡ Some c → position_of t bs ≡ h.block → left_in v c.args c.ops ≡ Some h.left
  at_home t c is same = home_defines v 0 bs h t c home is (omega (arith, same))

  -- a block that defines v is at the home's place, and has it there
  only_home : (t : ℕ) (c : PlainBlock) (d : ℕ) → block_of t bs ≡ Some c → left_in v c.args c.ops ≡ Some d → (position_of t bs ≡ h.block) × (d ≡ h.left)
  only_home t c d is e =
      let same : record { block = 0 + position_of t bs; left = d } ≡ h = some_same _ h (sym (defines_home v 0 bs t c d once is e) ∙ home) in
      let place : 0 + position_of t bs ≡ h.block = ap (λ (x : Home). x.block) same in
      (omega (arith, place), ap (λ (x : Home). x.left) same)

  left_out_is : LeftOut v (left_out (known_of bs) h) bs
  left_out_is t c is = go (left_in v c.args c.ops) refl (position_of t bs == h.block) refl ∙ ap (λ o. position_of t bs == o) (sym (out_of bs h))
    where
      within : position_of t bs < length (graph bs)
      within = let less = found_within bs t c is in let size = graph_length (place_in bs) bs in omega (arith, less, size)

      elsewhere : (b : Bool) → (position_of t bs ≡ h.block → ⊥) → false ≡ (position_of t bs == (if b then length (graph bs) else h.block))
      elsewhere true other = other_place (position_of t bs) (length (graph bs)) (λ e. let less = within in omega (arith, e, less))
      elsewhere false other = other_place (position_of t bs) h.block other

      there : (b : Bool) → position_of t bs ≡ h.block → nat_lt h.left (left_at_end c.ops) ≡ b
          → nat_le (left_at_end c.ops) h.left ≡ (position_of t bs == (if b then length (graph bs) else h.block))
      there true same e =
          lt-leb (left_at_end c.ops) h.left (ltb-true h.left (left_at_end c.ops) e)
          ∙ other_place (position_of t bs) (length (graph bs)) (λ k. let less = within in omega (arith, k, less))
      there false same e =
          le-leb (left_at_end c.ops) h.left (ltb-false h.left (left_at_end c.ops) e) ∙ sym (eq-eqb (position_of t bs) h.block same)

      end_is : position_of t bs ≡ h.block → get_or (ends_in bs) h.block 0 ≡ left_at_end c.ops
      end_is same = ap (λ n. get_or (ends_in bs) n 0) (sym same) ∙ end_at bs t c is

      go : (o : Option ℕ) → left_in v c.args c.ops ≡ o → (b : Bool) → (position_of t bs == h.block) ≡ b
          → defines v c ≡ (position_of t bs == (if nat_lt h.left (get_or (ends_in bs) h.block 0) then length (graph bs) else h.block))
      go None e true f = absurd (none-some h.left (sym e ∙ at_home t c is (eqb-true (position_of t bs) h.block f)))
      go None e false f =
          defines_none v c e
          ∙ elsewhere (nat_lt h.left (get_or (ends_in bs) h.block 0)) (λ same. true≢false (sym (eq-eqb (position_of t bs) h.block same) ∙ f))
      go (Some d) e b f =
          let only = only_home t c d is e in
          defines_some v c d e ∙ ap (λ k. nat_le (left_at_end c.ops) k) only.1
          ∙ there (nat_lt h.left (left_at_end c.ops)) only.0 refl
          ∙ ap (λ k. position_of t bs == (if nat_lt h.left k then length (graph bs) else h.block)) (sym (end_is only.0))

-- At a place

and_cases : (a b : Bool) → (a ≡ true → b ≡ true → ⊥) → (a && b) ≡ false
and_cases true true no_way = absurd (no_way refl refl)
and_cases true false no_way = refl
and_cases false b no_way = refl

not_less : (a b : ℕ) → b ≤ a → nat_lt a b ≡ false
not_less a b h = go (nat_lt a b) refl
  where
    go : (c : Bool) → nat_lt a b ≡ c → nat_lt a b ≡ false
    go false e = e
    go true e = let less = ltb-true a b e in absurd (omega (arith, less, h))

end_of : (f : Frame) (b : PlainBlock) → block_of f.label f.blocks ≡ Some b → get_or (ends_in f.blocks) (place_in f.blocks f.label) 0 ≡ left_at_end b.ops
end_of f b is = ap (λ n. get_or (ends_in f.blocks) n 0) (place_is f.blocks f.label) ∙ end_at f.blocks f.label b is

module _ (f : Frame) (v : ℕ) (h : Home) (home : home_from v 0 f.blocks ≡ Some h) (once : count_in v (own_values f.blocks) ≤ 1) (at : PlainBlock)
    (is : block_of f.label f.blocks ≡ Some at) (along : Along at f.bound f.ops) where
  -- a path that comes without v comes to the block without the home
  pub missing_by : Reach f.blocks v f.label f.bound f.ops → Missing (spot_of f) h
  unfolding known_of
  missing_by r =
      let s = stands (left_out (known_of f.blocks) h) (left_out_is f.blocks v h home once) r in
      let same : s.at ≡ at = some_same s.at at (sym s.is ∙ is) in
      let most : left_at_end at.ops ≤ count_of f.ops =
      subst (λ n. n ≤ count_of f.ops) (s.end_is ∙ ap (λ (c : PlainBlock). left_at_end c.ops) same) (end_at_most f.ops) in (
        not_less (count_of f.ops) (get_or (ends_in f.blocks) (place_in f.blocks f.label) 0) (subst (λ n. n ≤ count_of f.ops) (sym (end_of f at is)) most),
        and_cases (h.block == place_in f.blocks f.label) (nat_le (count_of f.ops) h.left)
            (λ e less. true≢false (sym (is_before v h.left along (at_home f.blocks v h home once f.label at is (sym (place_is f.blocks f.label) ∙ sym (eqb-true h.block (place_in f.blocks f.label) e))) (leb-true (count_of f.ops) h.left less)) ∙ s.unbound)),
        (
          subst (λ n. n < length (graph f.blocks)) (sym (place_is f.blocks f.label))
              (let less = found_within f.blocks f.label at is in let size = graph_length (place_in f.blocks) f.blocks in omega (arith, less, size)),
          subst (λ n. Reached (followed (graph f.blocks) (left_out (known_of f.blocks) h)) (0 ∷ []) n) (sym (place_is f.blocks f.label)) s.among,
        ),
      )

  -- and back
  pub reach_by : Missing (spot_of f) h → Reach f.blocks v f.label f.bound f.ops
  unfolding known_of
  reach_by m =
      let most : left_at_end at.ops ≤ count_of f.ops =
      subst (λ n. n ≤ count_of f.ops) (end_of f at is) (ltb-false (count_of f.ops) (get_or (ends_in f.blocks) (place_in f.blocks f.label) 0) m.0) in
      let free : has v f.bound ≡ false = unbound (has v f.bound) refl m.1 in
      let p = not_behind along most in
      pass v f.label p free
      (starts f.blocks v (left_out (known_of f.blocks) h) (position_of f.label f.blocks) (left_out_is f.blocks v h home once)
      (subst (λ n. Reached (followed (graph f.blocks) (left_out (known_of f.blocks) h)) (0 ∷ []) n) (place_is f.blocks f.label) m.2.1)
      f.label at is refl (no_argument v p free))
    where
      unbound : (c : Bool) → has v f.bound ≡ c → ((h.block == place_in f.blocks f.label) && nat_le (count_of f.ops) h.left) ≡ false → has v f.bound ≡ false
      unbound false e none = e
      unbound true e none =
          let b = defined_before v along e in
          let only = only_home f.blocks v h home once f.label at b.0 is b.1 in
          let less : count_of f.ops ≤ h.left = subst (λ n. count_of f.ops ≤ n) only.1 b.2 in
          absurd (true≢false (
          sym (ap (λ c. c && nat_le (count_of f.ops) h.left) (eq-eqb h.block (place_in f.blocks f.label) (sym only.0 ∙ sym (place_is f.blocks f.label))) ∙ le-leb (count_of f.ops) h.left less) ∙ none
          ))
