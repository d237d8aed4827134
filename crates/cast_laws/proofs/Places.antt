-- The places of a function with a pair of casts, as a predicate that each step keeps.
use Rattle.std.proofs.Common.{◌≡◌, ℕ, zero, suc, ◌==◌, Bool, true, false, List, [], ◌∷◌, ◌++◌, Option, Some, map, refl, sym, ap, ◌∙◌, subst, inl, inr, true≢false}
use Rattle.std.specs.Prelude.{◌⊎◌, if◌then◌else◌}
use Rattle.std.proofs.lemmas.Bool.{eqb-true}
use Rattle.operation_model.specs.Values.{Value}
use Rattle.operation_model.specs.Pures.{Moves}
use Rattle.operation_model.specs.Forms.{Form, Computes, Unknown}
use Rattle.form_model.specs.Codes.{Env, Target, and_value, bind, entry, find_block, lookup, lookups, region_at}
use Rattle.form_model.specs.Codes as code
use Rattle.machine_model.specs.Machine.{Behind}
use Rattle.machine_model.specs.Machine as machine
use Rattle.plain_tree.specs.Types.{PlainType}
use Rattle.plain_tree.specs.Ops.{Kind, op, Ops, end_of_ops, more_ops, Regions, end_of_regions, region, Blocks, end_of_blocks, block, PlainBlock, Values}
use Rattle.conversion_model.specs.Uses.{replaced}
use Rattle.rule_model.specs.Words.{AllOf, block_of, first_block, has, numbers}
use Rattle.rule_model.specs.Paths.{Frame, ends}
use Rattle.sound_model.specs.Runs.{form_at}
use Rattle.meaning_model.specs.Buffers.{ask_heap}
use Rattle.code_laws.specs.PlainCodes.{blocks_codes, numbers_in, ops_codes, regions_codes, types_in}
use Rattle.chosen_laws.proofs.Lists.{none_some}
use Rattle.rule_model.proofs.Numbers.{some_same}
use Rattle.pass_laws.proofs.UnusedCasts.{cast_form}
use Rattle.line_rules.proofs.Words.{by_test, not_so}
use Rattle.cast_laws.proofs.Doings.{Holds, IsEnd, IsMove, ends_form}
use Rattle.cast_laws.proofs.Mapped.{SameValues}
use Rattle.cast_laws.proofs.Closed.{BodiesOf, Closed, Outward, behind_of}
use Rattle.cast_laws.proofs.Everywhere.{IsCast, each_here, region_of}
use Rattle.cast_laws.proofs.Levels.{Fit, FitArguments, Good, Known, RegionOk, enters_good, jumps_good, leaves_good, passes_good, region_ok}

same_numbers : (vs : Values) → numbers_in vs ≡ numbers vs
same_numbers [] = refl
same_numbers (v ∷ vs) = ap (λ ns. v.0 ∷ ns) (same_numbers vs)

-- blocks that are found in codes are those of the tree
record FoundCode (bits : ℕ) (T : ℕ → PlainType) (o : Option PlainBlock) (t : Target) : Type 0 where
  block : PlainBlock
  is : o ≡ Some block
  args : numbers_in block.args ≡ t.args
  ops : ops_codes bits T block.ops ≡ t.ops

module _ (bits : ℕ) (T : ℕ → PlainType) where
  this_code : (l : ℕ) (args : Values) (ops : Ops) (t : Target) → Some (record { args = numbers_in args; ops = ops_codes bits T ops }) ≡ Some t → FoundCode bits T (Some (record { label = l; args = args; ops = ops })) t
  this_code l args ops t e =
      let same = some_same (record { args = numbers_in args; ops = ops_codes bits T ops }) t e in
      record { block = record { label = l; args = args; ops = ops }; is = refl; args = ap (λ (x : Target). x.args) same; ops = ap (λ (x : Target). x.ops) same }

  find_code : (l : ℕ) (bs : Blocks) (t : Target) → find_block l (blocks_codes bits T bs) ≡ Some t → FoundCode bits T (block_of l bs) t
  find_code l end_of_blocks t e = absurd (none_some e)
  find_code l (block k args ops more) t e = go (k == l) e (find_code l more t)
    where
      go : (x : Bool) → (if x then Some (record { args = numbers_in args; ops = ops_codes bits T ops }) else find_block l (blocks_codes bits T more)) ≡ Some t → (find_block l (blocks_codes bits T more) ≡ Some t → FoundCode bits T (block_of l more) t)
          → FoundCode bits T (if x then Some (record { label = k; args = args; ops = ops }) else block_of l more) t
      go true e later = this_code k args ops t e
      go false e later = later e

  first_code : (bs : Blocks) (t : Target) → entry (blocks_codes bits T bs) ≡ Some t → FoundCode bits T (first_block bs) t
  first_code end_of_blocks t e = absurd (none_some e)
  first_code (block k args ops more) t e = this_code k args ops t e

  region_code : (i : ℕ) (g : Regions) → region_at i (regions_codes bits T g) ≡ blocks_codes bits T (region_of i g)
  region_code i end_of_regions = refl
  region_code zero (region b g) = refl
  region_code (suc i) (region b g) = region_code i g

  -- a cast moves its value, where it goes on
  by_cast : {X : Type 0} (form : Form) → (form ≡ Computes Moves) ⊎ (form ≡ Unknown) → (IsEnd form → ⊥) → (IsMove form → X) → X
  by_cast form (inl is) no_end moves = moves (subst IsMove (sym is) tt)
  by_cast form (inr is) no_end moves = absurd (no_end (subst IsEnd (sym is) tt))

  abbrev form_in : Kind → Values → List ℕ → Form
  form_in k rs os = form_at bits k.name k.props (map T os) (types_in rs)

  cast_gives : (k : Kind) (rs : Values) (os : List ℕ) (g : Regions) (ls : List ℕ) (env : Env) (ys : List Value) → (IsEnd (form_in k rs os) → ⊥) → (IsMove (form_in k rs os) → lookups os env ≡ Some ys) → (v a : ℕ) → IsCast v a (op k rs os g ls) → lookups (v ∷ []) env ≡ Some ys
  cast_gives k rs os g ls env ys no_end moves v a cast =
      subst (λ xs. lookups xs env ≡ Some ys) cast.2
      (by_cast (form_in k rs os) (subst (λ n. (form_at bits n k.props (map T os) (types_in rs) ≡ Computes Moves) ⊎ (form_at bits n k.props (map T os) (types_in rs) ≡ Unknown)) (sym cast.0) (cast_form bits k.props (map T os) (types_in rs))) no_end moves)

  goes_on : (k : Kind) (rs : Values) (os : List ℕ) (g : Regions) (ls : List ℕ) → (IsEnd (form_in k rs os) → ⊥) → ends (op k rs os g ls) ≡ false
  goes_on k rs os g ls no_end = not_so (ends (op k rs os g ls)) (λ e. no_end (ends_form bits k.props (map T os) (types_in rs) k.name e))

  module _ (u w r : ℕ) (w_apart : (u == w) ≡ false) (r_apart : (u == r) ≡ false) where
    abbrev pub GoodAt : List Frame → Env → Type 0
    GoodAt = Good u w r w_apart r_apart

    -- a region under way is one of the operation ahead at the place outside
    pub record FrameIs (f : Frame) (frame : machine.Frame) : Type 0 where
      pub kind : Kind
      pub results : Values
      pub operands : List ℕ
      pub regions : Regions
      pub successors : List ℕ
      pub rest : Ops
      pub ops : f.ops ≡ more_ops (op kind results operands regions successors) rest
      pub behind : behind_of frame ≡ record { results = numbers_in results; rest = ops_codes bits T rest; blocks = blocks_codes bits T f.blocks }
      pub holds : Holds (form_in kind results operands)
      pub bodies : BodiesOf frame (regions_codes bits T regions)

    abbrev pub FramesAre : List Frame → List machine.Frame → Type 0
    FramesAre [] [] = Unit {0}
    FramesAre (f ∷ outer) (frame ∷ frames) = FrameIs f frame × FramesAre outer frames
    FramesAre _ _ = ⊥

    -- a place of a run is that of a tree, where both values of the pair are tied
    pub record In (ops : code.Ops) (b : code.Blocks) (env : Env) (frames : List machine.Frame) : Type 0 where
      pub level : Frame
      pub outer : List Frame
      pub ops_are : ops_codes bits T level.ops ≡ ops
      pub blocks_are : blocks_codes bits T level.blocks ≡ b
      pub frames_are : FramesAre outer frames
      pub good : GoodAt (level ∷ outer) env

    -- what is asked of a place whose operations ahead have these codes
    abbrev Passing : code.Blocks → Env → List machine.Frame → code.Ops → Type 0
    Passing b env frames code.OpsEnd = Unit {0}
    Passing b env frames (code.Op form rs os ls g rest) = (IsEnd form → ⊥) → (ys : List Value) → (IsMove form → lookups os env ≡ Some ys) → (e : Env) → bind rs ys env ≡ Some e → In rest b e frames

    abbrev Jumping : code.Blocks → Env → List machine.Frame → code.Ops → Type 0
    Jumping b env frames code.OpsEnd = Unit {0}
    Jumping b env frames (code.Op form rs os ls g rest) = (l : ℕ) → has l ls ≡ true → (t : Target) → find_block l b ≡ Some t → (ys : List Value) (e : Env) → bind t.args ys env ≡ Some e → In t.ops b e frames

    abbrev Entering : code.Blocks → Env → List machine.Frame → code.Ops → Type 0
    Entering b env frames code.OpsEnd = Unit {0}
    Entering b env frames (code.Op form rs os ls g rest) =
        Holds form → (i : ℕ) (t : Target) → entry (region_at i g) ≡ Some t → (xs : List Value) (e : Env) → bind t.args xs env ≡ Some e → (frame : machine.Frame) → behind_of frame ≡ record { results = rs; rest = rest; blocks = b }
        → BodiesOf frame g → In t.ops (region_at i g) e (frame ∷ frames)

    module _ (bs : Blocks) (l : ℕ) (bound : List ℕ) (outer : List Frame) (env : Env) (frames : List machine.Frame) (are : FramesAre outer frames) where
      abbrev at : Ops → Frame
      at ops = record { blocks = bs; label = l; bound = bound; ops = ops }

      passing : (ops : Ops) → GoodAt (at ops ∷ outer) env → Passing (blocks_codes bits T bs) env frames (ops_codes bits T ops)
      passing end_of_ops good = tt
      passing (more_ops (op k rs os g ls) rest) good = λ no_end ys moves e is. record {
        level = record { blocks = bs; label = l; bound = numbers rs ++ bound; ops = rest };
        outer = outer;
        ops_are = refl;
        blocks_are = refl;
        frames_are = are;
        good = passes_good u w r w_apart r_apart bs l bound (op k rs os g ls) rest outer env e ys good (goes_on k rs os g ls no_end) (cast_gives k rs os g ls env ys no_end moves)
            (subst (λ ns. bind ns ys env ≡ Some e) (same_numbers rs) is);
      }

      jumping : (ops : Ops) → GoodAt (at ops ∷ outer) env → Jumping (blocks_codes bits T bs) env frames (ops_codes bits T ops)
      jumping end_of_ops good = tt
      jumping (more_ops (op k rs os g ls) rest) good = λ t among target found ys e is.
          let c = find_code t bs target found in
          record {
            level = record { blocks = bs; label = t; bound = numbers c.block.args; ops = c.block.ops };
            outer = outer;
            ops_are = c.ops;
            blocks_are = refl;
            frames_are = are;
            good = jumps_good u w r w_apart r_apart bs l bound (op k rs os g ls) rest outer t c.block env e ys good (over t among) among c.is
                (subst (λ ns. bind ns ys env ≡ Some e) (sym c.args ∙ same_numbers c.block.args) is);
          }
        where
          over : (t : ℕ) → has t ls ≡ true → ends (op k rs os g ls) ≡ true
          over t among = by_test (ends (op k rs os g ls)) (λ h. h)
              (λ h. absurd (true≢false (sym among ∙ ap (has t) ((each_here (Fit u w r w_apart r_apart) (FitArguments u w r w_apart r_apart) (op k rs os g ls) good.levels.0.each.0).calm h))))

      entering : (ops : Ops) → GoodAt (at ops ∷ outer) env → Entering (blocks_codes bits T bs) env frames (ops_codes bits T ops)
      entering end_of_ops good = tt
      entering (more_ops (op k rs os g ls) rest) good = λ holds i target found xs e is frame behind bodies.
          let c = first_code (region_of i g) target (sym (ap entry (region_code i g)) ∙ found) in
          record {
            level = record { blocks = region_of i g; label = c.block.label; bound = numbers c.block.args; ops = c.block.ops };
            outer = at (more_ops (op k rs os g ls) rest) ∷ outer;
            ops_are = c.ops;
            blocks_are = sym (region_code i g);
            frames_are = (record { kind = k; results = rs; operands = os; regions = g; successors = ls; rest = rest; ops = refl; behind = behind; holds = holds; bodies = bodies }, are);
            good = enters_good u w r w_apart r_apart (region_of i g) (at (more_ops (op k rs os g ls) rest) ∷ outer) (region_ok u w r w_apart r_apart bs l bound k rs os g ls rest outer i good.levels) c.block c.is env e xs good
                (subst (λ ns. bind ns xs env ≡ Some e) (sym c.args ∙ same_numbers c.block.args) is);
          }

    leaving : (level : Frame) (outer : List Frame) (env : Env) (frame : machine.Frame) (frames : List machine.Frame) → FramesAre outer (frame ∷ frames) → GoodAt (level ∷ outer) env → Outward In frame env frames
    leaving level [] env frame frames are good = absurd are
    leaving level (f ∷ outer) env frame frames are good =
        let x = are.0 in
        record {
          form = form_in x.kind x.results x.operands;
          operands = x.operands;
          labels = x.successors;
          regions = regions_codes bits T x.regions;
          there = record {
            level = f;
            outer = outer;
            ops_are = ap (ops_codes bits T) x.ops ∙ ap (λ (b : Behind). code.Op (form_in x.kind x.results x.operands) b.results x.operands x.successors (regions_codes bits T x.regions) b.rest) (sym x.behind);
            blocks_are = ap (λ (b : Behind). b.blocks) (sym x.behind);
            frames_are = are.1;
            good = leaves_good u w r w_apart r_apart level (f ∷ outer) env good;
          };
          holds = x.holds;
          bodies = x.bodies;
        }

    -- Steps keep it.
    pub in_closed : Closed In
    in_closed = record {
      passes = λ {form} {rs} {os} {ls} {regions} {rest} {b} {env} {frames} i.
          subst (λ x. Passing x env frames (code.Op form rs os ls regions rest)) i.blocks_are
          (subst (Passing (blocks_codes bits T i.level.blocks) env frames) i.ops_are (passing i.level.blocks i.level.label i.level.bound i.outer env frames i.frames_are i.level.ops i.good));
      jumps = λ {form} {rs} {os} {ls} {regions} {rest} {b} {env} {frames} i.
          subst (λ x. Jumping x env frames (code.Op form rs os ls regions rest)) i.blocks_are
          (subst (Jumping (blocks_codes bits T i.level.blocks) env frames) i.ops_are (jumping i.level.blocks i.level.label i.level.bound i.outer env frames i.frames_are i.level.ops i.good));
      enters = λ {form} {rs} {os} {ls} {regions} {rest} {b} {env} {frames} i.
          subst (λ x. Entering x env frames (code.Op form rs os ls regions rest)) i.blocks_are
          (subst (Entering (blocks_codes bits T i.level.blocks) env frames) i.ops_are (entering i.level.blocks i.level.label i.level.bound i.outer env frames i.frames_are i.level.ops i.good));
      leaves = λ {ops} {b} {env} {frames} frame i. leaving i.level i.outer env frame frames i.frames_are i.good;
    }

    -- Each operation has the same values where u stands for r.

    module _ (frames : List Frame) (env : Env) (tied : Known frames r → lookup r env ≡ lookup u env) where
      same_value : (n : ℕ) → Known frames n → lookup (replaced r u n) env ≡ lookup n env
      same_value n k = go (n == r) refl
        where
          go : (x : Bool) → (n == r) ≡ x → lookup (if x then u else n) env ≡ lookup n env
          go true e = sym (tied (subst (Known frames) (eqb-true n r e) k)) ∙ ap (λ m. lookup m env) (sym (eqb-true n r e))
          go false e = refl

      same_values : (os : List ℕ) → AllOf (Known frames) os → lookups (map (replaced r u) os) env ≡ lookups os env
      same_values [] all = refl
      same_values (n ∷ os) all = ap (λ x. and_value x (lookups (map (replaced r u) os) env)) (same_value n all.0) ∙ ap (and_value (lookup n env)) (same_values os all.1)

    using : (bs : Blocks) (l : ℕ) (bound : List ℕ) (outer : List Frame) (env : Env) (ops : Ops) → GoodAt (record { blocks = bs; label = l; bound = bound; ops = ops } ∷ outer) env → SameValues (replaced r u) ask_heap (ops_codes bits T ops) env
    using bs l bound outer env end_of_ops good = tt
    using bs l bound outer env (more_ops (op k rs os g ls) rest) good =
        same_values (record { blocks = bs; label = l; bound = bound; ops = more_ops (op k rs os g ls) rest } ∷ outer) env good.last os good.levels.0.defined.0.0

    pub in_same : (ops : code.Ops) (b : code.Blocks) (env : Env) (frames : List machine.Frame) → In ops b env frames → SameValues (replaced r u) ask_heap ops env
    in_same ops b env frames i = subst (λ x. SameValues (replaced r u) ask_heap x env) i.ops_are (using i.level.blocks i.level.label i.level.bound i.outer env i.level.ops i.good)

    -- A function begins so.
    pub in_begins : (body : Blocks) → RegionOk u w r w_apart r_apart body [] → (t : Target) → entry (blocks_codes bits T body) ≡ Some t → (xs : List Value) (e : Env) → bind t.args xs [] ≡ Some e → In t.ops (blocks_codes bits T body) e []
    in_begins body ok t found xs e is =
        let c = first_code body t found in
        record {
          level = record { blocks = body; label = c.block.label; bound = numbers c.block.args; ops = c.block.ops };
          outer = [];
          ops_are = c.ops;
          blocks_are = refl;
          frames_are = tt;
          good = enters_good u w r w_apart r_apart body [] ok c.block c.is [] e xs (record { levels = tt; first = λ k. absurd k; last = λ k. absurd k })
              (subst (λ ns. bind ns xs [] ≡ Some e) (sym c.args ∙ same_numbers c.block.args) is);
        }
