-- Places of a function, region by region: where a use is defined, and when the values of a pair of casts are those of what was cast.
use Rattle.std.proofs.Common.{◌≡◌, ℕ, zero, suc, ◌==◌, ◌≤◌, Bool, true, false, List, [], ◌∷◌, ◌++◌, Option, Some, None, refl, sym, ap, ◌∙◌, subst, arith, inl, inr}
use Rattle.std.specs.Prelude.{◌||◌, ◌⊎◌, if◌then◌else◌}
use Rattle.std.proofs.lemmas.Bool.{eqb-true}
use Rattle.operation_model.specs.Values.{Value}
use Rattle.form_model.specs.Codes.{Env, lookup, lookups, bind, and_value}
use Rattle.plain_tree.specs.Ops.{Op, op, Ops, more_ops, Regions, Blocks, end_of_blocks, block, PlainBlock, Values}
use Rattle.rule_model.specs.Words.{AllOf, binds, binds_in_ops, block_of, first_block, has, numbers, results_of, successors_of}
use Rattle.rule_model.specs.Paths.{Frame, Passed, Reach, at_start, ends, enters, jumps, one_on, passes}
use Rattle.rule_model.specs.Scopes.{DefinedAt, DefinedBlocks, DefinedOp, DefinedOps}
use Rattle.rule_model.proofs.Numbers.{itself, some_same}
use Rattle.rule_model.proofs.Places.{first_found}
use Rattle.conversion_model.specs.Counts.{blocks_total, hits, none}
use Rattle.kept_rules.specs.Casts.{UsesForBlocks}
use Rattle.line_rules.proofs.Words.{by_test, clash, not_so, or_left, or_right}
use Rattle.kept_rules.proofs.CastScopes.{deeper_blocks, deeper_most, deeper_ops, defined_through, from_either, none_deeper, reach_through, to_either}
use Rattle.chosen_laws.proofs.Lists.{none_some}
use Rattle.pass_laws.proofs.UnusedCasts.{bound_over}
use Rattle.cast_laws.proofs.Everywhere.{Calm, CastOf, EachBlocks, EachOps, IsCast, NoArgument, block_deep, block_defined, block_each, blocks_use, bound_counts, each_here, first_deep, first_defined, first_each, region_counts, region_defined, region_each, region_of}
use Rattle.cast_laws.proofs.OnePlace.{Point, behind_point, point_of, start_point}

-- where a use at a place is defined: the places of the operation and of those that hold it, the innermost first
abbrev pub Known : List Frame → ℕ → Type 0
Known [] = λ v. ⊥
Known (f ∷ outer) = DefinedAt f.blocks (Known outer) f.label f.bound f.ops

-- Blocks and operations that are passed

passed_binds : (v : ℕ) {b : PlainBlock} {bound : List ℕ} {ops : Ops} → Passed b bound ops → binds_in_ops v ops ≡ true → binds_in_ops v b.ops ≡ true
passed_binds v at_start h = h
passed_binds v (one_on o p e) h = passed_binds v p (or_right (has v (results_of o)) _ h)

block_binds : (v : ℕ) (bs : Blocks) (t : ℕ) (b : PlainBlock) → block_of t bs ≡ Some b → binds_in_ops v b.ops ≡ true → binds v bs ≡ true
block_binds v end_of_blocks t b e h = absurd (none_some e)
block_binds v (block l args ops more) t b e h = go (l == t) e (λ k. block_binds v more t b k h)
  where
    go : (x : Bool) → (if x then Some (record { label = l; args = args; ops = ops }) else block_of t more) ≡ Some b → (block_of t more ≡ Some b → binds v more ≡ true) → (has v (numbers args) || (binds_in_ops v ops || binds v more)) ≡ true
    go true k later = or_right (has v (numbers args)) _ (or_left (binds_in_ops v ops) _ (subst (λ (c : PlainBlock). binds_in_ops v c.ops ≡ true) (sym (some_same (record { label = l; args = args; ops = ops }) b k)) h))
    go false k later = or_right (has v (numbers args)) _ (or_right (binds_in_ops v ops) _ (later k))

block_takes : (v : ℕ) (bs : Blocks) (t : ℕ) (b : PlainBlock) → block_of t bs ≡ Some b → has v (numbers b.args) ≡ true → binds v bs ≡ true
block_takes v end_of_blocks t b e h = absurd (none_some e)
block_takes v (block l args ops more) t b e h = go (l == t) e (λ k. block_takes v more t b k h)
  where
    go : (x : Bool) → (if x then Some (record { label = l; args = args; ops = ops }) else block_of t more) ≡ Some b → (block_of t more ≡ Some b → binds v more ≡ true) → (has v (numbers args) || (binds_in_ops v ops || binds v more)) ≡ true
    go true k later = or_left (has v (numbers args)) _ (subst (λ (c : PlainBlock). has v (numbers c.args) ≡ true) (sym (some_same (record { label = l; args = args; ops = ops }) b k)) h)
    go false k later = or_right (has v (numbers args)) _ (or_right (binds_in_ops v ops) _ (later k))

deeper_on : (v : ℕ) (o : Op) (rest : Ops) → deeper_ops v rest ≤ deeper_ops v (more_ops o rest)
deeper_on v (op k rs os g ls) rest = omega arith

-- What a cast gives

turned : (m n : ℕ) → (m == n) ≡ false → (n == m) ≡ false
turned m n h = not_so (n == m) (λ e. clash (ap (λ x. x == n) (sym (eqb-true n m e)) ∙ itself n) h)

given : (o : Option Value) (y : Value) → and_value o (Some []) ≡ Some (y ∷ []) → o ≡ Some y
given None y e = absurd (none_some e)
given (Some x) y e = ap first_of (some_same (x ∷ []) (y ∷ []) e)
  where
    first_of : List Value → Option Value
    first_of [] = None
    first_of (v ∷ vs) = Some v

-- the value that it was given
moved : (u a b : ℕ) (ys : List Value) (env e : Env) → (u == a) ≡ false → lookups (b ∷ []) env ≡ Some ys → bind (a ∷ []) ys env ≡ Some e → lookup b env ≡ lookup u env → lookup a e ≡ lookup u e
moved u a b [] env e apart found is same = absurd (none_some is)
moved u a b (y ∷ z ∷ ys) env e apart found is same = absurd (none_some is)
moved u a b (y ∷ []) env e apart found is same =
    subst (λ (x : Env). lookup a x ≡ lookup u x) (some_same ((a, y) ∷ env) e is)
    (ap (λ c. if c then Some y else lookup a env) (itself a) ∙ sym (given (lookup b env) y found) ∙ same ∙ sym (ap (λ c. if c then Some y else lookup u env) (turned u a apart)))

made : (u a b : ℕ) (o : Op) (ys : List Value) (env e : Env) → (u == a) ≡ false → IsCast b a o → lookups (b ∷ []) env ≡ Some ys → bind (results_of o) ys env ≡ Some e → lookup b env ≡ lookup u env → lookup a e ≡ lookup u e
made u a b (op k rs os g ls) ys env e apart cast found is same = moved u a b ys env e apart found (subst (λ ns. bind ns ys env ≡ Some e) cast.1 is) same

-- its operand is defined there
cast_defined : (b a : ℕ) (o : Op) (there : ℕ → Type 0) → IsCast b a o → DefinedOp there o → there b
cast_defined b a (op k rs os g ls) there cast d = (subst (AllOf there) cast.2 d.0).0

-- r is a cast of w, and w a cast of u
module _ (u w r : ℕ) (w_apart : (u == w) ≡ false) (r_apart : (u == r) ≡ false) where
  -- what is known of each operation
  pub record Fit (o : Op) : Type 0 where
    pub calm : Calm o
    pub first : CastOf u w o
    pub last : CastOf w r o

  pub record FitArguments (vs : Values) : Type 0 where
    pub first : NoArgument w vs
    pub last : NoArgument r vs

  uses_first : (bs : Blocks) → EachBlocks Fit FitArguments bs → UsesForBlocks w u bs
  uses_first bs each = blocks_use Fit FitArguments u w (λ o f. f.first) (λ vs f. f.first) bs each

  uses_last : (bs : Blocks) → EachBlocks Fit FitArguments bs → UsesForBlocks r w bs
  uses_last bs each = blocks_use Fit FitArguments w r (λ o f. f.last) (λ vs f. f.last) bs each

  -- a region in an operation at these places
  pub record RegionOk (bs : Blocks) (outer : List Frame) : Type 0 where
    pub defined : DefinedBlocks bs (Known outer) bs
    pub each : EachBlocks Fit FitArguments bs
    pub once : (v : ℕ) → blocks_total (hits v) none bs ≤ 1
    pub inside : (v : ℕ) → 1 ≤ blocks_total (hits v) none bs → Known outer v → ⊥

  -- u was defined, and a path leads from the region's start to the place behind it without w
  pub record Begun (bs : Blocks) : Type 0 where
    pub point : Point
    pub is : point_of u bs ≡ Some point
    pub path : Reach bs w point.label point.bound point.ops

  -- a place: what is known of what is ahead, and how the run came here, where w is of this region
  pub record LevelOk (f : Frame) (outer : List Frame) : Type 0 where
    pub region : RegionOk f.blocks outer
    pub block : PlainBlock
    pub found : block_of f.label f.blocks ≡ Some block
    pub passed : Passed block f.bound f.ops
    pub defined : DefinedOps f.blocks (Known outer) f.label f.bound f.ops
    pub each : EachOps Fit FitArguments f.ops
    pub deep : (v : ℕ) → deeper_ops v f.ops ≤ deeper_blocks v f.blocks
    pub seen : binds w f.blocks ≡ true → Reach f.blocks u f.label f.bound f.ops ⊎ Begun f.blocks

  abbrev pub LevelsOk : List Frame → Type 0
  LevelsOk [] = Unit {0}
  LevelsOk (f ∷ outer) = LevelOk f outer × LevelsOk outer

  -- a number has the value of u where its use is defined
  abbrev pub Tied : ℕ → List Frame → Env → Type 0
  Tied a frames env = Known frames a → lookup a env ≡ lookup u env

  pub record Good (frames : List Frame) (env : Env) : Type 0 where
    pub levels : LevelsOk frames
    pub first : Tied w frames env
    pub last : Tied r frames env

  -- What is defined where another is

  through : (a b : ℕ) → ((bs : Blocks) → EachBlocks Fit FitArguments bs → UsesForBlocks a b bs) → (frames : List Frame) → LevelsOk frames → Known frames a → Known frames b
  through a b uses [] ok k = k
  through a b uses (f ∷ outer) ok k =
      defined_through f.blocks a b (Known outer) f.label f.bound f.ops ok.0.region.defined (uses f.blocks ok.0.region.each) (through a b uses outer ok.1)
      (λ there. not_so (binds b f.blocks) (λ e. ok.0.region.inside b (bound_counts b f.blocks e) there)) k

  first_through : (frames : List Frame) → LevelsOk frames → Known frames w → Known frames u
  first_through = through w u uses_first

  last_through : (frames : List Frame) → LevelsOk frames → Known frames r → Known frames w
  last_through = through r w uses_last

  -- Values that are bound

  -- where neither is bound, nor u, nothing changes
  still : (a : ℕ) (ns : List ℕ) (xs : List Value) (env e : Env) → bind ns xs env ≡ Some e → has a ns ≡ false → has u ns ≡ false → lookup a env ≡ lookup u env → lookup a e ≡ lookup u e
  still a ns xs env e is no_a no_u same = sym (bound_over ns xs env e a is no_a) ∙ same ∙ bound_over ns xs env e u is no_u

  -- u isn't a result of what defines another
  only_one : (a b : ℕ) (o : Op) → (u == a) ≡ false → CastOf b a o → has a (results_of o) ≡ true → has u (results_of o) ≡ false
  only_one a b (op k rs os g ls) apart casts own = ap (has u) (casts own).1 ∙ ap (λ x. x || false) (turned u a apart)

  not_both : (a b : ℕ) (o : Op) → (u == a) ≡ false → CastOf b a o → has u (results_of o) ≡ true → has a (results_of o) ≡ false
  not_both a b o apart casts own = not_so (has a (results_of o)) (λ h. clash own (only_one a b o apart casts h))

  -- Behind the definition of u neither use is defined

  module _ (bs : Blocks) (outer : List Frame) (ok : RegionOk bs outer) (levels : LevelsOk outer) (own : binds u bs ≡ true) where
    fresh_first : (l : ℕ) (bound : List ℕ) (ops : Ops) → (binds w bs ≡ true → Reach bs w l bound ops) → DefinedAt bs (Known outer) l bound ops w → ⊥
    fresh_first l bound ops path k =
        from_either (binds w bs) (Reach bs w l bound ops → ⊥) (Known outer w) k (λ e never. never (path e)) (λ e there. ok.inside u (bound_counts u bs own) (first_through outer levels there))

  -- The path to the place behind u, at one definition as at the next

  point_path : (bs : Blocks) (p q : Point) → point_of u bs ≡ Some p → point_of u bs ≡ Some q → Reach bs w p.label p.bound p.ops → Reach bs w q.label q.bound q.ops
  point_path bs p q a b path = subst (λ (x : Point). Reach bs w x.label x.bound x.ops) (some_same p q (sym a ∙ b)) path

  -- Into a region

  module _ (bs : Blocks) (frames : List Frame) (ok : RegionOk bs frames) (b : PlainBlock) (first : first_block bs ≡ Some b) where
    abbrev start : Frame
    start = record { blocks = bs; label = b.label; bound = numbers b.args; ops = b.ops }

    arguments_fit : FitArguments b.args
    arguments_fit = (first_each Fit FitArguments bs b ok.each first).0

    start_ok : LevelOk start frames
    start_ok = record {
      region = ok;
      block = b;
      found = first_found bs b first;
      passed = at_start;
      defined = first_defined bs (Known frames) bs b ok.defined first;
      each = (first_each Fit FitArguments bs b ok.each first).1;
      deep = λ v. first_deep v bs b first;
      seen = λ own. by_test (has u (numbers b.args))
          (λ h. inr (record { point = record { label = b.label; bound = numbers b.args; ops = b.ops }; is = start_point u bs b.label b (first_found bs b first) (ok.once u) h; path = enters b first arguments_fit.first }))
          (λ h. inl (enters b first h));
    }

    binds_first : (v : ℕ) → has v (numbers b.args) ≡ true → binds v bs ≡ true
    binds_first v h = go bs first
      where
        go : (cs : Blocks) → first_block cs ≡ Some b → binds v cs ≡ true
        go (block l args ops more) e = or_left (has v (numbers args)) _ (subst (λ (c : PlainBlock). has v (numbers c.args) ≡ true) (sym (some_same (record { label = l; args = args; ops = ops }) b e)) h)
        go _ e = absurd (none_some e)

    start_tied : (a : ℕ) (xs : List Value) (env e : Env) → LevelsOk frames → (LevelsOk frames → Known frames a → Known frames u) → has a (numbers b.args) ≡ false → Tied a frames env → bind (numbers b.args) xs env ≡ Some e → Tied a (start ∷ frames) e
    start_tied a xs env e levels on no_a tied is k =
        from_either (binds a bs) (Reach bs a b.label (numbers b.args) b.ops → ⊥) (Known frames a) k (λ own never. absurd (never (enters b first no_a)))
        (λ other there. by_test (has u (numbers b.args)) (λ h. absurd (ok.inside u (bound_counts u bs (binds_first u h)) (on levels there))) (λ h. still a (numbers b.args) xs env e is no_a h (tied there)))

    pub enters_good : (env e : Env) (xs : List Value) → Good frames env → bind (numbers b.args) xs env ≡ Some e → Good (start ∷ frames) e
    enters_good env e xs good is = record {
      levels = (start_ok, good.levels);
      first = start_tied w xs env e good.levels (first_through frames) arguments_fit.first good.first is;
      last = start_tied r xs env e good.levels (λ l k. first_through frames l (last_through frames l k)) arguments_fit.last good.last is;
    }

  -- a region of the operation ahead
  pub region_ok : (bs : Blocks) (l : ℕ) (bound : List ℕ) (k : _) (rs : Values) (os : List ℕ) (g : Regions) (ls : List ℕ) (rest : Ops) (outer : List Frame) (i : ℕ)
      → LevelsOk (record { blocks = bs; label = l; bound = bound; ops = more_ops (op k rs os g ls) rest } ∷ outer) → RegionOk (region_of i g) (record { blocks = bs; label = l; bound = bound; ops = more_ops (op k rs os g ls) rest } ∷ outer)
  region_ok bs l bound k rs os g ls rest outer i ok = record {
    defined = region_defined (Known (record { blocks = bs; label = l; bound = bound; ops = more_ops (op k rs os g ls) rest } ∷ outer)) i g ok.0.defined.0.1;
    each = region_each Fit FitArguments i g ok.0.each.0.1;
    once = λ v. omega (arith, region_counts v i g, ok.0.deep v, deeper_most v bs, ok.0.region.once v);
    inside = λ v some there. absurd (omega (arith, some, region_counts v i g, ok.0.deep v, not_deeper v there));
  }
    where
      not_deeper : (v : ℕ) → DefinedAt bs (Known outer) l bound (more_ops (op k rs os g ls) rest) v → deeper_blocks v bs ≡ 0
      not_deeper v there = none_deeper v bs (Known outer) l bound (more_ops (op k rs os g ls) rest) (ok.0.region.once v) (λ k2. no_more (blocks_total (hits v) none bs) (λ some. ok.0.region.inside v some k2)) there
        where
          no_more : (n : ℕ) → (1 ≤ n → ⊥) → n ≡ 0
          no_more zero never = refl
          no_more (suc n) never = absurd (never (omega arith))

  -- From a region to the operation that holds it, with the values of now

  pub leaves_good : (f : Frame) (outer : List Frame) (env : Env) → Good (f ∷ outer) env → Good outer env
  leaves_good f outer env good = record {
    levels = good.levels.1;
    first = λ k. good.first (within w k);
    last = λ k. good.last (within r k);
  }
    where
      within : (a : ℕ) → Known outer a → Known (f ∷ outer) a
      within a k = to_either (binds a f.blocks) (Reach f.blocks a f.label f.bound f.ops → ⊥) (Known outer a) (λ own path. good.levels.0.region.inside a (bound_counts a f.blocks own) k) (λ other. k)

  -- On, behind an operation or in a block

  module _ (bs : Blocks) (l : ℕ) (bound : List ℕ) (o : Op) (rest : Ops) (outer : List Frame) where
    abbrev here : Frame
    here = record { blocks = bs; label = l; bound = bound; ops = more_ops o rest }

    module _ (ok : LevelOk here outer) (levels : LevelsOk outer) (goes_on : ends o ≡ false) where
      abbrev behind : Frame
      behind = record { blocks = bs; label = l; bound = results_of o ++ bound; ops = rest }

      fit : Fit o
      fit = each_here Fit FitArguments o ok.each.0

      abbrev behind_u : Point
      behind_u = record { label = l; bound = results_of o ++ bound; ops = rest }

      u_is : has u (results_of o) ≡ true → point_of u bs ≡ Some behind_u
      u_is h = behind_point u bs l ok.block o ok.found ok.passed (ok.region.once u) h

      own_u : has u (results_of o) ≡ true → binds u bs ≡ true
      own_u h = block_binds u bs l ok.block ok.found (passed_binds u ok.passed (or_left (has u (results_of o)) _ h))

      path_behind : has u (results_of o) ≡ true → binds w bs ≡ true → Reach bs w l (results_of o ++ bound) rest
      path_behind h own = elim (ok.seen own) [
        | inl path ↦ passes o (reach_through w u (Known outer) ok.region.defined (uses_first bs ok.region.each) (own_u h) path).0 goes_on (not_both w u o w_apart fit.first h)
        | inr b ↦ point_path bs b.point behind_u b.is (u_is h) b.path
      ]

      behind_ok : LevelOk behind outer
      behind_ok = record {
        region = ok.region;
        block = ok.block;
        found = ok.found;
        passed = one_on o ok.passed goes_on;
        defined = ok.defined.1;
        each = ok.each.1;
        deep = λ v. omega (arith, deeper_on v o rest, ok.deep v);
        seen = λ own. by_test (has u (results_of o)) (λ h. inr (record { point = behind_u; is = u_is h; path = path_behind h own })) (λ h. elim (ok.seen own) [ inl path ↦ inl (passes o path goes_on h) | inr b ↦ inr b ]);
      }

      before_known : (a : ℕ) → has a (results_of o) ≡ false → Known (behind ∷ outer) a → Known (here ∷ outer) a
      before_known a no_a k = from_either (binds a bs) (Reach bs a l (results_of o ++ bound) rest → ⊥) (Known outer a) k
          (λ own never. to_either (binds a bs) (Reach bs a l bound (more_ops o rest) → ⊥) (Known outer a) (λ e path. never (passes o path goes_on no_a)) (λ e. clash own e))
          (λ other there. to_either (binds a bs) (Reach bs a l bound (more_ops o rest) → ⊥) (Known outer a) (λ e. clash e other) (λ e. there))

      behind_tied : (a : ℕ) (ys : List Value) (env e : Env) → (LevelsOk (behind ∷ outer) → Known (behind ∷ outer) a → Known (behind ∷ outer) w) → (has a (results_of o) ≡ true → lookup a e ≡ lookup u e) → Tied a (here ∷ outer) env → bind (results_of o) ys env ≡ Some e
          → Tied a (behind ∷ outer) e
      behind_tied a ys env e on made tied is k = by_test (has u (results_of o))
          (λ h. absurd (fresh_first bs outer ok.region levels (own_u h) l (results_of o ++ bound) rest (path_behind h) (on (behind_ok, levels) k)))
          (λ h. by_test (has a (results_of o)) made (λ no_a. still a (results_of o) ys env e is no_a h (tied (before_known a no_a k))))

    pub passes_good : (env e : Env) (ys : List Value) → Good (here ∷ outer) env → ends o ≡ false → ((v a : ℕ) → IsCast v a o → lookups (v ∷ []) env ≡ Some ys) → bind (results_of o) ys env ≡ Some e → Good (record { blocks = bs; label = l; bound = results_of o ++ bound; ops = rest } ∷ outer) e
    passes_good env e ys good goes_on casts is = record {
      levels = (behind_ok good.levels.0 good.levels.1 goes_on, good.levels.1);
      first = behind_tied good.levels.0 good.levels.1 goes_on w ys env e (λ ok k. k)
          (λ h. let c = first_fit good h in made u w u o ys env e w_apart c (casts u w c) is refl) good.first is;
      last = behind_tied good.levels.0 good.levels.1 goes_on r ys env e (last_through (record { blocks = bs; label = l; bound = results_of o ++ bound; ops = rest } ∷ outer))
          (λ h. let c = last_fit good h in made u r w o ys env e r_apart c (casts w r c) is (good.first (cast_defined w r o (Known (here ∷ outer)) c good.levels.0.defined.0))) good.last is;
    }
      where
        first_fit : Good (here ∷ outer) env → CastOf u w o
        first_fit g = (each_here Fit FitArguments o g.levels.0.each.0).first

        last_fit : Good (here ∷ outer) env → CastOf w r o
        last_fit g = (each_here Fit FitArguments o g.levels.0.each.0).last

    -- in the block of a successor
    module _ (t : ℕ) (b : PlainBlock) (at : block_of t bs ≡ Some b) (ok : LevelOk here outer) (levels : LevelsOk outer) (over : ends o ≡ true) (among : has t (successors_of o) ≡ true) where
      abbrev target : Frame
      target = record { blocks = bs; label = t; bound = numbers b.args; ops = b.ops }

      abbrev target_u : Point
      target_u = record { label = t; bound = numbers b.args; ops = b.ops }

      target_fit : FitArguments b.args
      target_fit = (block_each Fit FitArguments bs t b ok.region.each at).0

      path_into : has u (numbers b.args) ≡ true → binds w bs ≡ true → Reach bs w t (numbers b.args) b.ops
      path_into h own = elim (ok.seen own) [
        | inl path ↦ jumps o t b (reach_through w u (Known outer) ok.region.defined (uses_first bs ok.region.each) (block_takes u bs t b at h) path).0 over among at target_fit.first
        | inr c ↦ point_path bs c.point target_u c.is (start_point u bs t b at (ok.region.once u) h) c.path
      ]

      target_ok : LevelOk target outer
      target_ok = record {
        region = ok.region;
        block = b;
        found = at;
        passed = at_start;
        defined = block_defined bs (Known outer) bs t b ok.region.defined at;
        each = (block_each Fit FitArguments bs t b ok.region.each at).1;
        deep = λ v. block_deep v bs t b at;
        seen = λ own. by_test (has u (numbers b.args)) (λ h. inr (record { point = target_u; is = start_point u bs t b at (ok.region.once u) h; path = path_into h own }))
            (λ h. elim (ok.seen own) [ inl path ↦ inl (jumps o t b path over among at h) | inr c ↦ inr c ]);
      }

      source_known : (a : ℕ) → has a (numbers b.args) ≡ false → Known (target ∷ outer) a → Known (here ∷ outer) a
      source_known a no_a k = from_either (binds a bs) (Reach bs a t (numbers b.args) b.ops → ⊥) (Known outer a) k
          (λ own never. to_either (binds a bs) (Reach bs a l bound (more_ops o rest) → ⊥) (Known outer a) (λ e path. never (jumps o t b path over among at no_a)) (λ e. clash own e))
          (λ other there. to_either (binds a bs) (Reach bs a l bound (more_ops o rest) → ⊥) (Known outer a) (λ e. clash e other) (λ e. there))

      target_tied : (a : ℕ) (ys : List Value) (env e : Env) → (LevelsOk (target ∷ outer) → Known (target ∷ outer) a → Known (target ∷ outer) w) → has a (numbers b.args) ≡ false → Tied a (here ∷ outer) env → bind (numbers b.args) ys env ≡ Some e
          → Tied a (target ∷ outer) e
      target_tied a ys env e on no_a tied is k = by_test (has u (numbers b.args))
          (λ h. absurd (fresh_first bs outer ok.region levels (block_takes u bs t b at h) t (numbers b.args) b.ops (path_into h) (on (target_ok, levels) k)))
          (λ h. still a (numbers b.args) ys env e is no_a h (tied (source_known a no_a k)))

    pub jumps_good : (t : ℕ) (b : PlainBlock) (env e : Env) (ys : List Value) → Good (here ∷ outer) env → ends o ≡ true → has t (successors_of o) ≡ true → block_of t bs ≡ Some b → bind (numbers b.args) ys env ≡ Some e
        → Good (record { blocks = bs; label = t; bound = numbers b.args; ops = b.ops } ∷ outer) e
    jumps_good t b env e ys good over among at is =
        let ok = good.levels.0 in
        let rest_ok = good.levels.1 in
        record {
          levels = (target_ok t b at ok rest_ok over among, rest_ok);
          first = target_tied t b at ok rest_ok over among w ys env e (λ l k. k) (target_fit t b at ok rest_ok over among).first good.first is;
          last = target_tied t b at ok rest_ok over among r ys env e (last_through (record { blocks = bs; label = t; bound = numbers b.args; ops = b.ops } ∷ outer)) (target_fit t b at ok rest_ok over among).last good.last is;
        }
