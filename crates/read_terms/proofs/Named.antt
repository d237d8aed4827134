-- Operations stand where their names let them, from the right on.
use Rattle.std.proofs.Common.{◌≡◌, ℕ, ◌+◌, ◌-◌, ◌<◌, ◌==◌, ◌&&◌, ◌||◌, Bool, true, false, not, List, [], ◌∷◌, length, map, refl, sym, ap, ◌∙◌, subst, arith, true≢false}
use Rattle.std.specs.Prelude.{codes, is_some, if◌then◌else◌}
use Rattle.std.specs.Str.{bytes_eq}
use Rattle.std.specs.List.{list_all}
use Rattle.mlir_lex.proofs.Lengths.{and-both, and-left, and-right, eqb-is}
use Rattle.text_grammar.specs.declared.places.Place.{Place}
use Rattle.text_grammar.specs.declared.places.Place.TheVariants as places
use Rattle.tree_model.specs.declared.op_tree.OpTree.{OpTree}
use Rattle.tree_model.specs.declared.op_tree.BlockTree.{BlockTree}
use Rattle.tree_model.specs.declared.op_tree.RegionTree.{RegionTree}
use Rattle.plain_tree.specs.Ops.{Blocks, Kind, Op, Ops, Regions, Values, block, blocks_in, end_of_blocks, end_of_ops, end_of_regions, more_ops, op, ops_in, plain_op, region, regions_in}
use Rattle.plain_tree.proofs.OpOpens.{block-roll, plain-roll, plain_block, plain_region, region-roll}
use Rattle.rule_model.specs.Formed.{is_function_name, is_inner_name}
use Rattle.op_catalog.specs.Table.{place_of}
use Rattle.term_table.specs.Terms.{Term}
use Rattle.text_scopes.specs.declared.bodies.Body.{Body}
use Rattle.text_scopes.specs.declared.bodies.Class.{Class}
use Rattle.text_scopes.specs.declared.bodies.Class.TheVariants.{Module, Function, Known, Unknown}
use Rattle.text_scopes.specs.Bodies.{behind, is_module, opens_body}
use Rattle.text_kinds.specs.Classes.{is_function}
use Rattle.text_kinds.specs.Shapes.{may_stand}
use Rattle.text_refusals.specs.Classes.{operation_class}
use Rattle.event_trees.specs.Wording.{Wording}
use Rattle.event_trees.specs.Levels.{Level, Levels, Parts, empty, op_named, region_blocks, region_opened, with_word}
use Rattle.printed_attrs.specs.Readable.{are_bytes}
use Rattle.read_states.proofs.Counting.{not_zero}
use Rattle.read_terms.specs.Standing.{blocks_stand, op_stands, ops_stand, regions_stand}
use Rattle.read_terms.specs.Naming.{any_values, is_inner_here}

-- Operations where functions may stand: a function, or a module of such operations

abbrev mutual
  pub is_top : Op → Bool
  is_top (op k results operands regions successors) =
      if bytes_eq k.name (codes "builtin.module") then regions_top regions else is_function_name k.name && regions_stand is_inner_here any_values regions

  pub ops_top : Ops → Bool
  ops_top end_of_ops = true
  ops_top (more_ops o os) = is_top o && ops_top os

  pub regions_top : Regions → Bool
  regions_top end_of_regions = true
  regions_top (region blocks more) = blocks_top blocks && regions_top more

  pub blocks_top : Blocks → Bool
  blocks_top end_of_blocks = true
  blocks_top (block label vs ops more) = ops_top ops && blocks_top more

-- the same there and within functions
abbrev pub op_at : Bool → Op → Bool
op_at true o = is_top o
op_at false o = op_stands is_inner_here any_values o

abbrev ops_at : Bool → Ops → Bool
ops_at true os = ops_top os
ops_at false os = ops_stand is_inner_here any_values os

abbrev regions_at : Bool → Regions → Bool
regions_at true rs = regions_top rs
regions_at false rs = regions_stand is_inner_here any_values rs

abbrev blocks_at : Bool → Blocks → Bool
blocks_at true bs = blocks_top bs
blocks_at false bs = blocks_stand is_inner_here any_values bs

abbrev pub op_fine : Bool → OpTree → Bool
op_fine t o = op_at t (plain_op o)

abbrev block_fine : Bool → BlockTree → Bool
block_fine t b = ops_at t (plain_block b).ops

abbrev region_fine : Bool → RegionTree → Bool
region_fine t r = blocks_at t (plain_region r)

ops_fine : (t : Bool) (os : List OpTree) → list_all (op_fine t) os ≡ true → ops_at t (ops_in (map plain_op os)) ≡ true
ops_fine true [] h = refl
ops_fine false [] h = refl
ops_fine true (o ∷ os) h = and-both _ _ (and-left _ _ h) (ops_fine true os (and-right (op_fine true o) _ h))
ops_fine false (o ∷ os) h = and-both _ _ (and-left _ _ h) (ops_fine false os (and-right (op_fine false o) _ h))

blocks_fine : (t : Bool) (bs : List BlockTree) → list_all (block_fine t) bs ≡ true → blocks_at t (blocks_in (map plain_block bs)) ≡ true
blocks_fine true [] h = refl
blocks_fine false [] h = refl
blocks_fine true (b ∷ bs) h = and-both _ _ (and-left _ _ h) (blocks_fine true bs (and-right (block_fine true b) _ h))
blocks_fine false (b ∷ bs) h = and-both _ _ (and-left _ _ h) (blocks_fine false bs (and-right (block_fine false b) _ h))

regions_fine : (t : Bool) (rs : List RegionTree) → list_all (region_fine t) rs ≡ true → regions_at t (regions_in (map plain_region rs)) ≡ true
regions_fine true [] h = refl
regions_fine false [] h = refl
regions_fine true (r ∷ rs) h = and-both _ _ (and-left _ _ h) (regions_fine true rs (and-right (region_fine true r) _ h))
regions_fine false (r ∷ rs) h = and-both _ _ (and-left _ _ h) (regions_fine false rs (and-right (region_fine false r) _ h))

-- The names of operations

pub class_module : (spelt : List ℕ) → is_module (operation_class spelt) ≡ bytes_eq spelt (codes "builtin.module")
unfolding operation_class
class_module spelt = by_case (bytes_eq spelt (codes "builtin.module")) (bytes_eq spelt (codes "func.func") || bytes_eq spelt (codes "llvm.func")) (is_some (place_of spelt))
  where
    by_case : (a b c : Bool) → is_module (if a then Module else if b then Function else if c then Known else Unknown) ≡ a
    by_case true b c = refl
    by_case false true c = refl
    by_case false false true = refl
    by_case false false false = refl

class_function : (spelt : List ℕ) → bytes_eq spelt (codes "builtin.module") ≡ false → is_function (operation_class spelt) ≡ is_function_name spelt
unfolding operation_class
class_function spelt h = ap (λ a. is_function (if a then Module else if bytes_eq spelt (codes "func.func") || bytes_eq spelt (codes "llvm.func") then Function else if is_some (place_of spelt) then Known else Unknown)) h
    ∙ by_case (bytes_eq spelt (codes "func.func") || bytes_eq spelt (codes "llvm.func")) (is_some (place_of spelt))
  where
    by_case : (b c : Bool) → is_function (if b then Function else if c then Known else Unknown) ≡ b
    by_case true c = refl
    by_case false true = refl
    by_case false false = refl

inner_name : (spelt : List ℕ) → are_bytes spelt ≡ true → is_function_name spelt ≡ false → bytes_eq spelt (codes "builtin.module") ≡ false → is_inner_name spelt ≡ true
inner_name spelt b f m = and-both _ _ b (ap (λ x. not (x || bytes_eq spelt (codes "builtin.module"))) f ∙ ap not m)

-- an operation of this name that may stand here, where its regions are fine
name_fine : (top begun : Bool) (c : Class) (n : ℕ) (at_module : Bool) (spelt : List ℕ) (k : Kind) (rs : Regions) → (n == 0) ≡ top → k.name ≡ spelt → c ≡ operation_class spelt → are_bytes spelt ≡ true
    → not (may_stand (record { body = record { within = n; at_module = at_module }; begun = begun }) c) ≡ false → regions_at (if top then is_module c else false) rs ≡ true
    → (results : Values) (operands successors : List ℕ) → op_at top (op k results operands rs successors) ≡ true
name_fine true begun Module n at_module spelt k rs z e is b may r results operands successors =
    let m : bytes_eq k.name (codes "builtin.module") ≡ true = ap (λ x. bytes_eq x (codes "builtin.module")) e ∙ sym (class_module spelt) ∙ sym (ap is_module is) in
    ap (λ x. if x then regions_top rs else is_function_name k.name && regions_stand is_inner_here any_values rs) m ∙ r
name_fine true begun Function n at_module spelt k rs z e is b may r results operands successors =
    let m : bytes_eq spelt (codes "builtin.module") ≡ false = sym (class_module spelt) ∙ sym (ap is_module is) in
    let f : is_function_name spelt ≡ true = sym (class_function spelt m) ∙ sym (ap is_function is) in
    ap (λ x. if x then regions_top rs else is_function_name k.name && regions_stand is_inner_here any_values rs) (ap (λ x. bytes_eq x (codes "builtin.module")) e ∙ m) ∙ and-both _ _ (ap is_function_name e ∙ f) r
name_fine true begun Known n at_module spelt k rs z e is b may r results operands successors = absurd (true≢false (sym (ap (λ x. not (not x)) z) ∙ may))
name_fine true begun Unknown n at_module spelt k rs z e is b may r results operands successors = absurd (true≢false (sym (ap (λ x. not (not x)) z) ∙ may))
name_fine false begun Module n at_module spelt k rs z e is b may r results operands successors = absurd (true≢false (sym (ap (λ x. not (if x then not begun else false)) z) ∙ may))
name_fine false begun Function n at_module spelt k rs z e is b may r results operands successors = absurd (true≢false (sym (ap not z) ∙ may))
name_fine false begun Known n at_module spelt k rs z e is b may r results operands successors =
    let m : bytes_eq spelt (codes "builtin.module") ≡ false = sym (class_module spelt) ∙ sym (ap is_module is) in
    let f : is_function_name spelt ≡ false = sym (class_function spelt m) ∙ sym (ap is_function is) in
    and-both _ _ (ap is_inner_name e ∙ inner_name spelt b f m) r
name_fine false begun Unknown n at_module spelt k rs z e is b may r results operands successors =
    let m : bytes_eq spelt (codes "builtin.module") ≡ false = sym (class_module spelt) ∙ sym (ap is_module is) in
    let f : is_function_name spelt ≡ false = sym (class_function spelt m) ∙ sym (ap is_function is) in
    and-both _ _ (ap is_inner_name e ∙ inner_name spelt b f m) r

-- Levels: where an event stands tells what may stand behind it, in its region and in those around it

abbrev close : Body → Body
close b = if b.within == 0 then record { within = 0; at_module = true } else record { within = b.within - 1; at_module = b.at_module }

abbrev opened : Body → Body
opened b = if opens_body b then b else record { within = b.within + 1; at_module = b.at_module }

pub record LevelAt (b : Body) (l : Level) : Type 0 where
  pub ops : list_all (op_fine (b.within == 0)) l.ops ≡ true
  pub blocks : list_all (block_fine (b.within == 0)) l.blocks ≡ true
  pub regions : list_all (region_fine (opens_body b)) l.parts.regions ≡ true

abbrev pub AllAt : Body → Levels → Type 0
AllAt b [] = Unit {0}
AllAt b (l ∷ ls) = LevelAt b l × AllAt (close b) ls

abbrev at_zero : Body → Bool
at_zero b = b.within == 0

close_opened : (n : ℕ) (m : Bool) → close (opened (record { within = n; at_module = m })) ≡ record { within = n; at_module = m }
close_opened n m = by_test (n == 0) refl m
  where
    back : n + 1 - 1 ≡ n
    back = omega arith

    by_test : (t : Bool) → (n == 0) ≡ t → (m : Bool)
        → close (if (if t then m else false) then record { within = n; at_module = m } else record { within = n + 1; at_module = m }) ≡ record { within = n; at_module = m }
    by_test true e true = ap (λ t. if t then record { within = 0; at_module = true } else record { within = n - 1; at_module = true }) e ∙ ap (λ k. record { within = k; at_module = true }) (sym (eqb-is n 0 e))
    by_test true e false = ap (λ t. if t then record { within = 0; at_module = true } else record { within = n + 1 - 1; at_module = false }) (not_zero n) ∙ ap (λ k. record { within = k; at_module = false }) back
    by_test false e m = ap (λ t. if t then record { within = 0; at_module = true } else record { within = n + 1 - 1; at_module = m }) (not_zero n) ∙ ap (λ k. record { within = k; at_module = m }) back

opened_zero : (n : ℕ) (m : Bool) → ((opened (record { within = n; at_module = m })).within == 0) ≡ opens_body (record { within = n; at_module = m })
opened_zero n m = by_test (n == 0) refl m
  where
    by_test : (t : Bool) → (n == 0) ≡ t → (m : Bool) → at_zero (if (if t then m else false) then record { within = n; at_module = m } else record { within = n + 1; at_module = m }) ≡ (if t then m else false)
    by_test true e true = e
    by_test true e false = not_zero n
    by_test false e m = not_zero n

first_fine : (t : Bool) (label : ℕ) (os : List OpTree) (bs : List BlockTree) → list_all (op_fine t) os ≡ true → list_all (block_fine t) bs ≡ true → list_all (block_fine t) (region_blocks label os bs) ≡ true
first_fine t label [] bs h k = k
first_fine t label (o ∷ os) bs h k = and-both _ _ (ap (λ b. ops_at t b.ops) (block-roll _) ∙ ops_fine t (o ∷ os) h) k

region_top : (t : Bool) (label : ℕ) (l : Level) → list_all (op_fine t) l.ops ≡ true → list_all (block_fine t) l.blocks ≡ true → region_fine t (region_opened label l) ≡ true
region_top t label l h k = ap (blocks_at t) (region-roll _) ∙ blocks_fine t (region_blocks label l.ops l.blocks) (first_fine t label l.ops l.blocks h k)

module _ (words : Wording) (class : ℕ → Class) where
  -- what is known of an operation's name where it stands
  pub record NameAt (b : Body) (name : ℕ) : Type 0 where
    pub begun : Bool
    pub class_is : class name ≡ operation_class (words.spelled name)
    pub bytes : are_bytes (words.spelled name) ≡ true
    pub may : not (may_stand (record { body = b; begun = begun }) (class name)) ≡ false

  op_named_fine : (b : Body) (name number : ℕ) (p : Parts) → NameAt b name → list_all (region_fine (opens_body (behind class b (record { place = places.OpName; name = name })))) p.regions ≡ true
      → op_fine (b.within == 0) (op_named words name number p) ≡ true
  op_named_fine b name number p at h = ap (op_at (b.within == 0)) (plain-roll _) ∙ by_test (b.within == 0) refl _ _ refl
    where
      regions : (t : Bool) → (b.within == 0) ≡ t → opens_body (behind class b (record { place = places.OpName; name = name })) ≡ (if t then is_module (class name) else false)
      regions true e = ap (λ x. opens_body (if x then record { within = 0; at_module = is_module (class name) } else b)) e
      regions false e = ap (λ x. opens_body (if x then record { within = 0; at_module = is_module (class name) } else b)) e ∙ ap (λ x. if x then b.at_module else false) e

      by_test : (t : Bool) → (b.within == 0) ≡ t → (k : Kind) (results : Values) → k.name ≡ words.spelled name → op_at t (op k results p.operands (regions_in (map plain_region p.regions)) p.successors) ≡ true
      by_test t e k results same = name_fine t at.begun (class name) b.within b.at_module (words.spelled name) k (regions_in (map plain_region p.regions)) e same at.class_is at.bytes at.may
          (regions_fine (if t then is_module (class name) else false) p.regions (subst (λ x. list_all (region_fine x) p.regions ≡ true) (regions t e) h)) results p.operands p.successors

  same_close : (b : Body) (name : ℕ) → close (behind class b (record { place = places.OpName; name = name })) ≡ close b
  same_close b name = by_test (b.within == 0) refl
    where
      by_test : (t : Bool) → (b.within == 0) ≡ t → close (if t then record { within = 0; at_module = is_module (class name) } else b) ≡ close b
      by_test true e = sym (ap (λ x. if x then record { within = 0; at_module = true } else record { within = b.within - 1; at_module = b.at_module }) e)
      by_test false e = refl

  same_within : (b : Body) (name : ℕ) → ((behind class b (record { place = places.OpName; name = name })).within == 0) ≡ (b.within == 0)
  same_within b name = by_test (b.within == 0) refl
    where
      by_test : (t : Bool) → (b.within == 0) ≡ t → at_zero (if t then record { within = 0; at_module = is_module (class name) } else b) ≡ t
      by_test true e = refl
      by_test false e = e

  pub word_at : (place : Place) (name number : ℕ) (term : Term) (b : Body) (ls : Levels) → (place ≡ places.OpName → NameAt b name) → (place ≡ places.RegionOpen → 1 < length ls)
      → AllAt (behind class b (record { place = place; name = name })) ls → AllAt b (with_word words (record { place = place; name = name; number = number; term = term }) ls)
  word_at places.RegionClose name number term b ls t d f = (record { ops = refl; blocks = refl; regions = refl }, f)
  word_at places.RegionOpen name number term b [] t d f = tt
  word_at places.RegionOpen name number term b (l ∷ []) t d f = let k : 1 < 1 = d refl in absurd (omega (arith, k))
  word_at places.RegionOpen name number term b (inner ∷ outer ∷ ls) t d f =
      let same : close (opened b) ≡ b = close_opened b.within b.at_module in
      let out : LevelAt b outer = subst (λ (c : Body). LevelAt c outer) same f.1.0 in
      let zero_is : ((opened b).within == 0) ≡ opens_body b = opened_zero b.within b.at_module in (
        record {
          ops = out.ops;
          blocks = out.blocks;
          regions = and-both _ _ (subst (λ x. region_fine x (region_opened number inner) ≡ true) zero_is (region_top ((opened b).within == 0) number inner f.0.ops f.0.blocks)) out.regions;
        },
        subst (λ (c : Body). AllAt (close c) ls) same f.1.1,
      )
  word_at places.OpName name number term b [] t d f = tt
  word_at places.OpName name number term b (l ∷ ls) t d f = (
    record {
      ops = and-both _ _ (op_named_fine b name number l.parts (t refl) f.0.regions) (subst (λ x. list_all (op_fine x) l.ops ≡ true) (same_within b name) f.0.ops);
      blocks = subst (λ x. list_all (block_fine x) l.blocks ≡ true) (same_within b name) f.0.blocks;
      regions = refl;
    },
    subst (λ (c : Body). AllAt c ls) (same_close b name) f.1,
  )
  word_at places.BlockLabel name number term b [] t d f = tt
  word_at places.BlockLabel name number term b (l ∷ ls) t d f =
      (record { ops = refl; blocks = and-both _ _ (ap (λ x. ops_at (b.within == 0) x.ops) (block-roll _) ∙ ops_fine (b.within == 0) l.ops f.0.ops) f.0.blocks; regions = f.0.regions }, f.1)
  word_at _ name number term b [] t d f = tt
  word_at _ name number term b (l ∷ ls) t d f = (record { ops = f.0.ops; blocks = f.0.blocks; regions = f.0.regions }, f.1)

  pub nothing_at : (b : Body) → AllAt b (empty ∷ [])
  nothing_at b = (record { ops = refl; blocks = refl; regions = refl }, tt)
