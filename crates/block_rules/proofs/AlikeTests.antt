-- The tests of an operation where the blocks that it goes on to and those within it get arguments in converted types, and
-- where a branch itself is in converted types.
use Rattle.std.proofs.Common.{◌≡◌, ℕ, zero, suc, ◌+◌, ◌==◌, Bool, true, false, List, [], ◌∷◌, Option, Some, None, refl, sym, ap, ◌∙◌, subst, map, length, true≢false}
use Rattle.std.specs.Prelude.{◌&&◌, ◌||◌, not, take, drop, codes, if◌then◌else◌, ⊤}
use Rattle.std.specs.List.{list_all}
use Rattle.std.specs.Option.{option_map}
use Rattle.plain_tree.specs.Types.{PlainType, Int, Ptr, Struct, Array}
use Rattle.plain_tree.specs.ValueTypes.{is_own, is_value}
use Rattle.plain_tree.specs.Attrs.{Entries}
use Rattle.plain_tree.specs.Ops.{Kind}
use Rattle.rule_model.specs.declared.rules.Rule.TheVariants as rule
use Rattle.rule_model.specs.declared.shapes.Shape.{Shape as Form}
use Rattle.rule_model.specs.declared.shapes.Shape.TheVariants.{FuncFunction, LlvmFunction, Branch, BranchOn, If, For, While, Switch, Execute, Recast}
use Rattle.rule_model.specs.Words.{if_some}
use Rattle.rule_model.specs.Rows.{ends_block, ends_block_as, shape_of}
use Rattle.rule_model.specs.Facts.{Facts, Functions, Head, Holder, name_in, Target, type_of_function}
use Rattle.rule_model.specs.Forms.{case_count, is_bit, is_some_of, same_all, segments, two_counts}
use Rattle.rule_model.specs.Types.{as_counted, bit_and, no_types, operands_fit, results_fit}
use Rattle.rule_model.specs.Parts.{attributes_fit, has_form, has_no_blocks, is_block_of, is_body_of, needs, no_regions, regions_fit, starts_bare, as_many_as_cases, func_inputs, llvm_inputs, loop_args, one_region, two_regions}
use Rattle.rule_model.specs.Control.{each_ends_by, ends_by, ends_well, end_as_named, end_by, is_behind, is_condition, is_llvm_body, is_yield, may_stand, may_take, no_successors, one_successor, stands_well, successors_fit, takes, terminators_fit, two_successors}
use Rattle.rule_model.specs.Symbols.{allocator_in, allocators, has_no_body, is_declared, is_type, names_fit, signatures_fit, symbols_fit, values_fit}
use Rattle.rule_model.specs.Rules.{if_registered}
use Rattle.rule_model.proofs.Numbers.{and_first, and_second, not_true}
use Rattle.conversion_model.specs.Types.{becomes}
use Rattle.line_rules.specs.Kept.{KeepsAll}
use Rattle.block_rules.proofs.BranchTurns.{is_branch_form, TurnsTo}
use Rattle.line_rules.proofs.LinedTests.{facts_with}
use Rattle.line_rules.proofs.SameTypes.{and_true, equal_all, equal_type, same_all_self}

-- Heads of blocks

-- the last operations have one shape
abbrev pub SameEnd : Option (List ℕ) → Option (List ℕ) → Type 0
SameEnd a b = option_map shape_of b ≡ option_map shape_of a

-- blocks that aren't the first, with arguments of value types
abbrev pub LaterAlike : List Head → List Head → Type 0
LaterAlike [] [] = ⊤
LaterAlike (h ∷ hs) (k ∷ ks) = SameEnd h.last k.last × (list_all is_value k.args ≡ true) × LaterAlike hs ks
LaterAlike _ _ = ⊥

-- blocks of a region, of which the first keeps its arguments
abbrev pub HeadsAlike : List Head → List Head → Type 0
HeadsAlike [] [] = ⊤
HeadsAlike (h ∷ hs) (k ∷ ks) = SameEnd h.last k.last × (k.args ≡ h.args) × LaterAlike hs ks
HeadsAlike _ _ = ⊥

abbrev pub RegionsAlike : List (List Head) → List (List Head) → Type 0
RegionsAlike [] [] = ⊤
RegionsAlike (r ∷ rs) (s ∷ ss) = HeadsAlike r s × RegionsAlike rs ss
RegionsAlike _ _ = ⊥

-- a test of last operations that looks at their shapes
abbrev ByShape : (Option (List ℕ) → Bool) → Type 0
ByShape test = (a b : Option (List ℕ)) → SameEnd a b → test b ≡ test a

abbrev ends_as : Option (Option Form) → Bool
ends_as None = false
ends_as (Some s) = ends_block_as s || not (is_some_of s)

well_as : (a : Option (List ℕ)) → ends_well a ≡ ends_as (option_map shape_of a)
well_as None = refl
well_as (Some name) = refl

ends_well_by : ByShape ends_well
ends_well_by a b e = well_as b ∙ ap ends_as e ∙ sym (well_as a)

abbrev tested_as : (Option Form → Bool) → Option (Option Form) → Bool
tested_as test None = false
tested_as test (Some s) = test s

tested_at : (test : Option Form → Bool) (a : Option (List ℕ)) → ends_by test a ≡ tested_as test (option_map shape_of a)
tested_at test None = refl
tested_at test (Some name) = refl

ends_by_by : (test : Option Form → Bool) → ByShape (ends_by test)
ends_by_by test a b e = tested_at test b ∙ ap (tested_as test) e ∙ sym (tested_at test a)

later_ends : (test : Option (List ℕ) → Bool) → ByShape test → (hs ks : List Head) → LaterAlike hs ks → list_all (λ (h : Head). test h.last) ks ≡ list_all (λ (h : Head). test h.last) hs
later_ends test by [] [] a = refl
later_ends test by (h ∷ hs) (k ∷ ks) a = ap (λ b. b && list_all (λ (x : Head). test x.last) ks) (by h.last k.last a.0) ∙ ap (λ b. test h.last && b) (later_ends test by hs ks a.2)
later_ends test by [] (k ∷ ks) a = absurd a
later_ends test by (h ∷ hs) [] a = absurd a

heads_end : (test : Option (List ℕ) → Bool) → ByShape test → (hs ks : List Head) → HeadsAlike hs ks → list_all (λ (h : Head). test h.last) ks ≡ list_all (λ (h : Head). test h.last) hs
heads_end test by [] [] a = refl
heads_end test by (h ∷ hs) (k ∷ ks) a = ap (λ b. b && list_all (λ (x : Head). test x.last) ks) (by h.last k.last a.0) ∙ ap (λ b. test h.last && b) (later_ends test by hs ks a.2)
heads_end test by [] (k ∷ ks) a = absurd a
heads_end test by (h ∷ hs) [] a = absurd a

-- a test of regions that is the same for alike ones
abbrev SameTest : (List Head → Bool) → Type 0
SameTest test = (hs ks : List Head) → HeadsAlike hs ks → test ks ≡ test hs

regions_all : (test : List Head → Bool) → SameTest test → (rs ss : List (List Head)) → RegionsAlike rs ss → list_all test ss ≡ list_all test rs
regions_all test same [] [] a = refl
regions_all test same (r ∷ rs) (s ∷ ss) a = ap (λ b. b && list_all test ss) (same r s a.0) ∙ ap (λ b. test r && b) (regions_all test same rs ss a.1)
regions_all test same [] (s ∷ ss) a = absurd a
regions_all test same (r ∷ rs) [] a = absurd a

end_by_same : (first later : Option Form → Bool) (rs ss : List (List Head)) → RegionsAlike rs ss → end_by first later ss ≡ end_by first later rs
end_by_same first later [] [] a = refl
end_by_same first later (r ∷ rs) (s ∷ ss) a =
    ap (λ b. b && list_all (each_ends_by later) ss) (heads_end (ends_by first) (ends_by_by first) r s a.0) ∙ ap (λ b. each_ends_by first r && b) (regions_all (each_ends_by later) (heads_end (ends_by later) (ends_by_by later)) rs ss a.1)
end_by_same first later [] (s ∷ ss) a = absurd a
end_by_same first later (r ∷ rs) [] a = absurd a

named_same : (s : Option Form) (rs ss : List (List Head)) → RegionsAlike rs ss → end_as_named s ss ≡ end_as_named s rs
named_same (Some If) rs ss a = end_by_same is_yield is_yield rs ss a
named_same (Some For) rs ss a = end_by_same is_yield is_yield rs ss a
named_same (Some While) rs ss a = end_by_same is_condition is_yield rs ss a
named_same (Some Switch) rs ss a = end_by_same is_yield is_yield rs ss a
named_same _ rs ss a = refl

-- Regions

block_same : (ts : List PlainType) → SameTest (is_block_of ts)
block_same ts [] [] a = refl
block_same ts (h ∷ []) (k ∷ []) a = ap (λ us. same_all us ts) a.1
block_same ts (h ∷ h2 ∷ hs) (k ∷ k2 ∷ ks) a = refl
block_same ts [] (k ∷ ks) a = absurd a
block_same ts (h ∷ hs) [] a = absurd a
block_same ts (h ∷ []) (k ∷ k2 ∷ ks) a = absurd a.2
block_same ts (h ∷ h2 ∷ hs) (k ∷ []) a = absurd a.2

body_same : (o : Option (List PlainType)) → SameTest (is_body_of o)
body_same None hs ks a = refl
body_same (Some ts) [] [] a = refl
body_same (Some ts) (h ∷ hs) (k ∷ ks) a = ap (λ us. same_all us ts) a.1
body_same (Some ts) [] (k ∷ ks) a = absurd a
body_same (Some ts) (h ∷ hs) [] a = absurd a

bare_same : SameTest starts_bare
bare_same [] [] a = refl
bare_same (h ∷ hs) (k ∷ ks) a = ap no_types a.1
bare_same [] (k ∷ ks) a = absurd a
bare_same (h ∷ hs) [] a = absurd a

empty_same : SameTest has_no_blocks
empty_same [] [] a = refl
empty_same (h ∷ hs) (k ∷ ks) a = refl
empty_same [] (k ∷ ks) a = absurd a
empty_same (h ∷ hs) [] a = absurd a

count_same : (rs ss : List (List Head)) → RegionsAlike rs ss → length ss ≡ length rs
count_same [] [] a = refl
count_same (r ∷ rs) (s ∷ ss) a = ap suc (count_same rs ss a.1)
count_same [] (s ∷ ss) a = absurd a
count_same (r ∷ rs) [] a = absurd a

one_same : (test : List Head → Bool) → SameTest test → (rs ss : List (List Head)) → RegionsAlike rs ss → one_region test ss ≡ one_region test rs
one_same test same [] [] a = refl
one_same test same (r ∷ []) (s ∷ []) a = same r s a.0
one_same test same (r ∷ r2 ∷ rs) (s ∷ s2 ∷ ss) a = refl
one_same test same [] (s ∷ ss) a = absurd a
one_same test same (r ∷ rs) [] a = absurd a
one_same test same (r ∷ []) (s ∷ s2 ∷ ss) a = absurd a.1
one_same test same (r ∷ r2 ∷ rs) (s ∷ []) a = absurd a.1

two_same : (test other : List Head → Bool) → SameTest test → SameTest other → (rs ss : List (List Head)) → RegionsAlike rs ss → two_regions test other ss ≡ two_regions test other rs
two_same test other same also [] [] a = refl
two_same test other same also (r ∷ []) (s ∷ []) a = refl
two_same test other same also (r ∷ r2 ∷ []) (s ∷ s2 ∷ []) a = ap (λ b. b && other s2) (same r s a.0) ∙ ap (λ b. test r && b) (also r2 s2 a.1.0)
two_same test other same also (r ∷ r2 ∷ r3 ∷ rs) (s ∷ s2 ∷ s3 ∷ ss) a = refl
two_same test other same also [] (s ∷ ss) a = absurd a
two_same test other same also (r ∷ rs) [] a = absurd a
two_same test other same also (r ∷ []) (s ∷ s2 ∷ ss) a = absurd a.1
two_same test other same also (r ∷ r2 ∷ rs) (s ∷ []) a = absurd a.1
two_same test other same also (r ∷ r2 ∷ []) (s ∷ s2 ∷ s3 ∷ ss) a = absurd a.1.1
two_same test other same also (r ∷ r2 ∷ r3 ∷ rs) (s ∷ s2 ∷ []) a = absurd a.1.1

-- an empty block without arguments, or none where there are no results
else_same : (results : List PlainType) → SameTest (λ r. is_block_of [] r || (has_no_blocks r && no_types results))
else_same results hs ks a = ap (λ b. b || (has_no_blocks ks && no_types results)) (block_same [] hs ks a) ∙ ap (λ b. is_block_of [] hs || (b && no_types results)) (empty_same hs ks a)

none_same : (rs ss : List (List Head)) → RegionsAlike rs ss → no_regions ss ≡ no_regions rs
none_same [] [] a = refl
none_same (r ∷ rs) (s ∷ ss) a = refl
none_same [] (s ∷ ss) a = absurd a
none_same (r ∷ rs) [] a = absurd a

body_none : (rs ss : List (List Head)) → RegionsAlike rs ss → has_no_body ss ≡ has_no_body rs
body_none [] [] a = refl
body_none ([] ∷ []) ([] ∷ []) a = refl
body_none ((h ∷ hs) ∷ []) ((k ∷ ks) ∷ []) a = refl
body_none (r ∷ r2 ∷ rs) (s ∷ s2 ∷ ss) a = by_first r s a.0
  where
    by_first : (x y : List Head) → HeadsAlike x y → has_no_body (y ∷ s2 ∷ ss) ≡ has_no_body (x ∷ r2 ∷ rs)
    by_first [] [] e = refl
    by_first (h ∷ hs) (k ∷ ks) e = refl
    by_first [] (k ∷ ks) e = absurd e
    by_first (h ∷ hs) [] e = absurd e
body_none [] (s ∷ ss) a = absurd a
body_none (r ∷ rs) [] a = absurd a
body_none ([] ∷ []) ((k ∷ ks) ∷ []) a = absurd a.0
body_none ((h ∷ hs) ∷ []) ([] ∷ []) a = absurd a.0
body_none (r ∷ []) (s ∷ s2 ∷ ss) a = absurd a.1
body_none (r ∷ r2 ∷ rs) (s ∷ []) a = absurd a.1

cases_same : (o : Option ℕ) (rs ss : List (List Head)) → RegionsAlike rs ss → as_many_as_cases o ss ≡ as_many_as_cases o rs
cases_same None rs ss a = refl
cases_same (Some n) rs ss a = ap (λ m. m == n + 1) (count_same rs ss a)

-- The tests of an operation

module _ (c : Functions) (k : Kind) (operands results : List PlainType) (ss ts : List Target) (rs us : List (List Head)) (h : Option Holder) (last : Bool) (alike : RegionsAlike rs us) where
  abbrev before : Facts
  before = facts_with k operands results ss rs h last

  abbrev behind : Facts
  behind = facts_with k operands results ts us h last

  operands_same : (s : Form) → operands_fit behind s ≡ operands_fit before s
  operands_same Recast = refl
  operands_same _ = refl

  results_same : (s : Form) → results_fit behind s ≡ results_fit before s
  results_same Recast = refl
  results_same _ = refl

  attributes_same : (s : Form) → attributes_fit behind s ≡ attributes_fit before s
  attributes_same Recast = refl
  attributes_same _ = refl

  signatures_same : (s : Form) → signatures_fit behind s ≡ signatures_fit before s
  signatures_same Recast = refl
  signatures_same _ = refl

  symbols_same : (s : Form) → symbols_fit c behind s ≡ symbols_fit c before s
  symbols_same Recast = refl
  symbols_same _ = refl

  declared_same : (o : Option PlainType) → is_declared behind o ≡ is_declared before o
  declared_same None = refl
  declared_same (Some t) = ap (λ b. is_llvm_body (shape_of k.name) && (is_type t (type_of_function k.props) && b)) (body_none rs us alike)

  names_same : (s : Form) → names_fit behind s ≡ names_fit before s
  names_same FuncFunction = declared_same (if_some (name_in k.props) (λ name. allocator_in name allocators))
  names_same LlvmFunction = declared_same (if_some (name_in k.props) (λ name. allocator_in name allocators))
  names_same _ = refl

  regions_same : (s : Form) → regions_fit behind s ≡ regions_fit before s
  regions_same FuncFunction = one_same (is_body_of (if_some (type_of_function k.props) func_inputs)) (body_same (if_some (type_of_function k.props) func_inputs)) rs us alike
  regions_same LlvmFunction = one_same (is_body_of (if_some (type_of_function k.props) llvm_inputs)) (body_same (if_some (type_of_function k.props) llvm_inputs)) rs us alike
  regions_same If = two_same (is_block_of []) (λ r. is_block_of [] r || (has_no_blocks r && no_types results)) (block_same []) (else_same results) rs us alike
  regions_same For = one_same (is_block_of (loop_args operands)) (block_same (loop_args operands)) rs us alike
  regions_same While = two_same (is_block_of operands) (is_block_of results) (block_same operands) (block_same results) rs us alike
  regions_same Switch =
      ap (λ b. b && list_all (is_block_of []) us) (cases_same (case_count k.props) rs us alike) ∙ ap (λ b. as_many_as_cases (case_count k.props) rs && b) (regions_all (is_block_of []) (block_same []) rs us alike)
  regions_same Execute = one_same starts_bare bare_same rs us alike
  regions_same _ = none_same rs us alike

  values_same : values_fit before ≡ true → values_fit behind ≡ true
  values_same e = and_true (list_all is_value results) _ (and_first (list_all is_value results) _ e) (all_values rs us alike (and_second (list_all is_value results) _ e))
    where
      later_values : (hs ks : List Head) → LaterAlike hs ks → list_all (λ (d : Head). list_all is_value d.args) ks ≡ true
      later_values [] [] a = refl
      later_values (d ∷ hs) (g ∷ ks) a = and_true (list_all is_value g.args) _ a.1 (later_values hs ks a.2)
      later_values [] (g ∷ ks) a = absurd a
      later_values (d ∷ hs) [] a = absurd a

      heads_values : (hs ks : List Head) → HeadsAlike hs ks → list_all (λ (d : Head). list_all is_value d.args) hs ≡ true → list_all (λ (d : Head). list_all is_value d.args) ks ≡ true
      heads_values [] [] a f = refl
      heads_values (d ∷ hs) (g ∷ ks) a f = and_true (list_all is_value g.args) _ (ap (list_all is_value) a.1 ∙ and_first (list_all is_value d.args) _ f) (later_values hs ks a.2)
      heads_values [] (g ∷ ks) a f = absurd a
      heads_values (d ∷ hs) [] a f = absurd a

      all_values : (xs ys : List (List Head)) → RegionsAlike xs ys → list_all (list_all (λ (d : Head). list_all is_value d.args)) xs ≡ true → list_all (list_all (λ (d : Head). list_all is_value d.args)) ys ≡ true
      all_values [] [] a f = refl
      all_values (x ∷ xs) (y ∷ ys) a f =
          and_true (list_all (λ (d : Head). list_all is_value d.args) y) _ (heads_values x y a.0 (and_first (list_all (λ (d : Head). list_all is_value d.args) x) _ f)) (all_values xs ys a.1 (and_second (list_all (λ (d : Head). list_all is_value d.args) x) _ f))
      all_values [] (y ∷ ys) a f = absurd a
      all_values (x ∷ xs) [] a f = absurd a

  -- all tests but that of successors
  terminators_same : (s : Option Form) → (no_successors ss ≡ true → no_successors ts ≡ true) → terminators_fit before s ≡ true → terminators_fit behind s ≡ true
  terminators_same s none e =
      let first = and_first (list_all (list_all (λ (d : Head). ends_well d.last)) rs) _ e in
      let others = and_second (list_all (list_all (λ (d : Head). ends_well d.last)) rs) _ e in
      and_true (list_all (list_all (λ (d : Head). ends_well d.last)) us) _ (regions_all (list_all (λ (d : Head). ends_well d.last)) (heads_end ends_well ends_well_by) rs us alike ∙ first)
      (and_true (end_as_named s us) _ (named_same s rs us alike ∙ and_first (end_as_named s rs) _ others) (stands s (and_second (end_as_named s rs) _ others)))
    where
      by_end : (b x : Bool) → (if b then x else no_successors ss) ≡ true → (if b then x else no_successors ts) ≡ true
      by_end true x f = f
      by_end false x f = none f

      stands : (o : Option Form) → stands_well before o ≡ true → stands_well behind o ≡ true
      stands None f = refl
      stands (Some form) f = by_end (ends_block form) (last && may_stand form h) f

-- Successors

-- a block that is gone on to: its arguments in converted types, where it isn't the first
pub record TargetMade (bits : ℕ) (t u : Target) : Type 0 where
  pub first : u.first ≡ t.first
  pub args : t.first ≡ false → u.args ≡ option_map (map (becomes bits)) t.args

abbrev pub TargetsMade : ℕ → List Target → List Target → Type 0
TargetsMade bits [] [] = ⊤
TargetsMade bits (t ∷ ts) (u ∷ us) = TargetMade bits t u × TargetsMade bits ts us
TargetsMade bits _ _ = ⊥

behind_made : (bits : ℕ) (t u : Target) → TargetMade bits t u → is_behind t ≡ true → is_behind u ≡ true
behind_made bits t u m e = ap not m.first ∙ e

take_made : (bits : ℕ) (us : List PlainType) (t u : Target) → TargetMade bits t u → may_take us t ≡ true → may_take (map (becomes bits) us) u ≡ true
take_made bits us t u m e =
    let first : is_behind t ≡ true = and_first (is_behind t) _ e in
    and_true (is_behind u) _ (behind_made bits t u m first)
    (ap (λ o. takes o (map (becomes bits) us)) (m.args (not_true t.first first)) ∙ go t.args (and_second (is_behind t) _ e))
  where
    go : (o : Option (List PlainType)) → takes o us ≡ true → takes (option_map (map (becomes bits)) o) (map (becomes bits) us) ≡ true
    go None f = absurd (true≢false (sym f))
    go (Some args) f = ap (λ l. same_all (map (becomes bits) us) (map (becomes bits) l)) (sym (equal_all us args f)) ∙ same_all_self (map (becomes bits) us)

one_made : (bits : ℕ) (us : List PlainType) (ss ts : List Target) → TargetsMade bits ss ts → one_successor us ss ≡ true → one_successor (map (becomes bits) us) ts ≡ true
one_made bits us [] ts m e = absurd (true≢false (sym e))
one_made bits us (s ∷ []) (t ∷ []) m e = take_made bits us s t m.0 e
one_made bits us (s ∷ s2 ∷ ss) ts m e = absurd (true≢false (sym e))
one_made bits us (s ∷ []) [] m e = absurd m
one_made bits us (s ∷ []) (t ∷ t2 ∷ ts) m e = absurd m.1

take_map : {A B : Type 0} (f : A → B) (n : ℕ) (xs : List A) → take n (map f xs) ≡ map f (take n xs)
take_map f zero [] = refl
take_map f zero (x ∷ xs) = refl
take_map f (suc n) [] = refl
take_map f (suc n) (x ∷ xs) = ap (λ l. f x ∷ l) (take_map f n xs)

drop_map : {A B : Type 0} (f : A → B) (n : ℕ) (xs : List A) → drop n (map f xs) ≡ map f (drop n xs)
drop_map f zero [] = refl
drop_map f zero (x ∷ xs) = refl
drop_map f (suc n) [] = refl
drop_map f (suc n) (x ∷ xs) = drop_map f n xs

two_made : (bits : ℕ) (counts : Option (ℕ × ℕ)) (us : List PlainType) (ss ts : List Target) → TargetsMade bits ss ts → two_successors counts us ss ≡ true → two_successors counts (map (becomes bits) us) ts ≡ true
two_made bits None us (s ∷ s2 ∷ []) (t ∷ t2 ∷ []) m e =
    and_true (is_behind t) (is_behind t2) (behind_made bits s t m.0 (and_first (is_behind s) _ e)) (behind_made bits s2 t2 m.1.0 (and_second (is_behind s) _ e))
two_made bits (Some n) us (s ∷ s2 ∷ []) (t ∷ t2 ∷ []) m e =
    and_true (may_take (take n.0 (map (becomes bits) us)) t) _
    (ap (λ l. may_take l t) (take_map (becomes bits) n.0 us) ∙ take_made bits (take n.0 us) s t m.0 (and_first (may_take (take n.0 us) s) _ e))
    (ap (λ l. may_take l t2) (drop_map (becomes bits) n.0 us) ∙ take_made bits (drop n.0 us) s2 t2 m.1.0 (and_second (may_take (take n.0 us) s) _ e))
two_made bits None us [] ts m e = absurd (true≢false (sym e))
two_made bits (Some n) us [] ts m e = absurd (true≢false (sym e))
two_made bits None us (s ∷ []) ts m e = absurd (true≢false (sym e))
two_made bits (Some n) us (s ∷ []) ts m e = absurd (true≢false (sym e))
two_made bits None us (s ∷ s2 ∷ s3 ∷ ss) ts m e = absurd (true≢false (sym e))
two_made bits (Some n) us (s ∷ s2 ∷ s3 ∷ ss) ts m e = absurd (true≢false (sym e))
two_made bits counts us (s ∷ s2 ∷ []) [] m e = absurd m
two_made bits counts us (s ∷ s2 ∷ []) (t ∷ []) m e = absurd m.1
two_made bits counts us (s ∷ s2 ∷ []) (t ∷ t2 ∷ t3 ∷ ts) m e = absurd m.1.1

none_made : (bits : ℕ) (ss ts : List Target) → TargetsMade bits ss ts → no_successors ss ≡ true → no_successors ts ≡ true
none_made bits [] [] m e = refl
none_made bits [] (t ∷ ts) m e = absurd m
none_made bits (s ∷ ss) ts m e = absurd (true≢false (sym e))

-- An operation that stays

own_stays : (bits : ℕ) (t : PlainType) → is_own t ≡ true → becomes bits t ≡ t
own_stays bits (Int n) e = refl
own_stays bits Ptr e = refl
own_stays bits (Struct fields) e = refl
own_stays bits (Array n t) e = refl
own_stays bits _ e = absurd (true≢false (sym e))

own_all_stay : (bits : ℕ) (ts : List PlainType) → list_all is_own ts ≡ true → map (becomes bits) ts ≡ ts
own_all_stay bits [] e = refl
own_all_stay bits (t ∷ ts) e = ap (λ u. u ∷ map (becomes bits) ts) (own_stays bits t (and_first (is_own t) _ e)) ∙ ap (λ l. t ∷ l) (own_all_stay bits ts (and_second (is_own t) _ e))

pub stays_keeps : (c : Functions) (bits : ℕ) (k : Kind) (operands results : List PlainType) (ss ts : List Target) (rs us : List (List Head)) (h : Option Holder) (last : Bool) → RegionsAlike rs us → TargetsMade bits ss ts
    → (is_branch_form (shape_of k.name) ≡ true → list_all is_own operands ≡ true) → KeepsAll c (facts_with k operands results ss rs h last) → KeepsAll c (facts_with k operands results ts us h last)
stays_keeps c bits k operands results ss ts rs us h last alike made own kept = each
  where
    if_same : (test other : Form → Bool) (o : Option Form) → ((s : Form) → other s ≡ test s) → if_registered test o ≡ true → if_registered other o ≡ true
    if_same test other None same e = refl
    if_same test other (Some s) same e = same s ∙ e

    successors : (o : Option Form) → (is_branch_form o ≡ true → list_all is_own operands ≡ true) → successors_fit (facts_with k operands results ss rs h last) o ≡ true → successors_fit (facts_with k operands results ts us h last) o ≡ true
    successors (Some Branch) o e = subst (λ l. one_successor l ts ≡ true) (own_all_stay bits operands (o refl)) (one_made bits operands ss ts made e)
    successors (Some BranchOn) o e =
        subst (λ l. two_successors (segments k.props) l ts ≡ true) (sym (drop_map (becomes bits) 1 operands) ∙ ap (λ l. drop 1 l) (own_all_stay bits operands (o refl))) (two_made bits (segments k.props) (drop 1 operands) ss ts made e)
    successors _ o e = none_made bits ss ts made e

    each : KeepsAll c (facts_with k operands results ts us h last)
    each rule.Operands = if_same _ _ (shape_of k.name) (operands_same c k operands results ss ts rs us h last alike) (kept rule.Operands)
    each rule.Results = if_same _ _ (shape_of k.name) (results_same c k operands results ss ts rs us h last alike) (kept rule.Results)
    each rule.Regions = if_same _ _ (shape_of k.name) (regions_same c k operands results ss ts rs us h last alike) (kept rule.Regions)
    each rule.Attribute = if_same _ _ (shape_of k.name) (attributes_same c k operands results ss ts rs us h last alike) (kept rule.Attribute)
    each rule.Successors = successors (shape_of k.name) own (kept rule.Successors)
    each rule.Terminator = terminators_same c k operands results ss ts rs us h last alike (shape_of k.name) (none_made bits ss ts made) (kept rule.Terminator)
    each rule.Signature = if_same _ _ (shape_of k.name) (signatures_same c k operands results ss ts rs us h last alike) (kept rule.Signature)
    each rule.Symbol = if_same _ _ (shape_of k.name) (symbols_same c k operands results ss ts rs us h last alike) (kept rule.Symbol)
    each rule.Reserved = if_same _ _ (shape_of k.name) (names_same c k operands results ss ts rs us h last alike) (kept rule.Reserved)
    each rule.ValueType = values_same c k operands results ss ts rs us h last alike (kept rule.ValueType)
    each rule.Defined = refl
    each rule.OwnUse = refl

-- A branch in converted types

map_count : {A B : Type 0} (f : A → B) (xs : List A) → length (map f xs) ≡ length xs
map_count f [] = refl
map_count f (x ∷ xs) = ap suc (map_count f xs)

counted_made : (bits : ℕ) (o : Option (ℕ × ℕ)) (us : List PlainType) → as_counted o us ≡ true → as_counted o (map (becomes bits) us) ≡ true
counted_made bits None us e = refl
counted_made bits (Some n) us e = ap (λ m. m == n.0 + n.1) (map_count (becomes bits) us) ∙ e

bit_made : (bits : ℕ) (t : PlainType) → is_bit t ≡ true → is_bit (becomes bits t) ≡ true
bit_made bits t e = ap (λ u. is_bit (becomes bits u)) (equal_type t (Int 1) e)

abbrev on_types : Option (ℕ × ℕ) → List PlainType → Bool
on_types o us = bit_and (λ l. list_all is_value l && as_counted o l) us

on_made : (bits : ℕ) (o : Option (ℕ × ℕ)) (us : List PlainType) → list_all is_value (map (becomes bits) us) ≡ true → on_types o us ≡ true → on_types o (map (becomes bits) us) ≡ true
on_made bits o [] v e = absurd (true≢false (sym e))
on_made bits o (t ∷ us) v e =
    and_true (is_bit (becomes bits t)) _ (bit_made bits t (and_first (is_bit t) _ e))
    (and_true (list_all is_value (map (becomes bits) us)) _ (and_second (is_value (becomes bits t)) _ v) (counted_made bits o us (and_second (list_all is_value us) _ (and_second (is_bit t) _ e))))

module _ (c : Functions) (bits : ℕ) (k : Kind) (name : List ℕ) (props : Entries) (operands : List PlainType) (ss ts : List Target) (h : Option Holder) (last : Bool) (turn : TurnsTo k name props) (made : TargetsMade bits ss ts)
    (values : list_all is_value (map (becomes bits) operands) ≡ true) (kept : KeepsAll c (facts_with k operands [] ss [] h last)) where
  abbrev was : Facts
  was = facts_with k operands [] ss [] h last

  abbrev now : Facts
  now = facts_with (record { name = name; props = props; attrs = [] }) (map (becomes bits) operands) [] ts [] h last

  one_keeps : shape_of k.name ≡ Some Branch → KeepsAll c now
  one_keeps e rule.Operands = ap (if_registered (operands_fit now)) (turn.same ∙ e) ∙ values
  one_keeps e rule.Results = ap (if_registered (results_fit now)) (turn.same ∙ e)
  one_keeps e rule.Regions = ap (if_registered (regions_fit now)) (turn.same ∙ e)
  one_keeps e rule.Attribute = ap (if_registered (attributes_fit now)) (turn.same ∙ e)
  one_keeps e rule.Successors = ap (successors_fit now) (turn.same ∙ e) ∙ one_made bits operands ss ts made (ap (successors_fit was) (sym e) ∙ kept rule.Successors)
  one_keeps e rule.Terminator = ap (terminators_fit now) (turn.same ∙ e) ∙ (ap (terminators_fit was) (sym e) ∙ kept rule.Terminator)
  one_keeps e rule.Signature = ap (if_registered (signatures_fit now)) (turn.same ∙ e)
  one_keeps e rule.Symbol = ap (if_registered (symbols_fit c now)) (turn.same ∙ e)
  one_keeps e rule.Reserved = ap (if_registered (names_fit now)) (turn.same ∙ e)
  one_keeps e rule.ValueType = refl
  one_keeps e rule.Defined = refl
  one_keeps e rule.OwnUse = refl

  sizes_same : shape_of k.name ≡ Some BranchOn → segments props ≡ segments k.props
  sizes_same e = ap (λ x. if_some x two_counts) (turn.sizes e)

  two_keeps : shape_of k.name ≡ Some BranchOn → KeepsAll c now
  two_keeps e rule.Operands =
      ap (if_registered (operands_fit now)) (turn.same ∙ e) ∙ ap (λ o. on_types o (map (becomes bits) operands)) (sizes_same e)
      ∙ on_made bits (segments k.props) operands values (ap (if_registered (operands_fit was)) (sym e) ∙ kept rule.Operands)
  two_keeps e rule.Results = ap (if_registered (results_fit now)) (turn.same ∙ e)
  two_keeps e rule.Regions = ap (if_registered (regions_fit now)) (turn.same ∙ e)
  two_keeps e rule.Attribute =
      ap (if_registered (attributes_fit now)) (turn.same ∙ e)
      ∙ ap (λ x. (has_form now (needs (codes "operandSegmentSizes") (λ a. is_some_of (two_counts a))) x && true) && true) (turn.sizes e)
      ∙ (ap (if_registered (attributes_fit was)) (sym e) ∙ kept rule.Attribute)
  two_keeps e rule.Successors =
      ap (successors_fit now) (turn.same ∙ e) ∙ ap (λ o. two_successors o (drop 1 (map (becomes bits) operands)) ts) (sizes_same e) ∙ ap (λ l. two_successors (segments k.props) l ts) (drop_map (becomes bits) 1 operands)
      ∙ two_made bits (segments k.props) (drop 1 operands) ss ts made (ap (successors_fit was) (sym e) ∙ kept rule.Successors)
  two_keeps e rule.Terminator = ap (terminators_fit now) (turn.same ∙ e) ∙ (ap (terminators_fit was) (sym e) ∙ kept rule.Terminator)
  two_keeps e rule.Signature = ap (if_registered (signatures_fit now)) (turn.same ∙ e)
  two_keeps e rule.Symbol = ap (if_registered (symbols_fit c now)) (turn.same ∙ e)
  two_keeps e rule.Reserved = ap (if_registered (names_fit now)) (turn.same ∙ e)
  two_keeps e rule.ValueType = refl
  two_keeps e rule.Defined = refl
  two_keeps e rule.OwnUse = refl

  pub turned_keeps : KeepsAll c now
  turned_keeps = by_form (shape_of k.name) refl turn.branch_form
    where
      by_form : (o : Option Form) → shape_of k.name ≡ o → is_branch_form o ≡ true → KeepsAll c now
      by_form (Some Branch) e b = one_keeps e
      by_form (Some BranchOn) e b = two_keeps e
      by_form _ e b = absurd (true≢false (sym b))
