-- What is found over the operations of a function is right.
use Rattle.std.proofs.Common.{◌≡◌, ℕ, suc, ◌+◌, ◌<◌, ◌≤◌, Bool, true, false, List, [], ◌∷◌, ◌++◌, map, refl, sym, ap, subst, ◌∙◌, append_assoc, inl, inr, arith}
use Rattle.std.specs.Prelude.{◌⊎◌, Option, Some, None, if◌then◌else◌}
use Rattle.std.proofs.lemmas.List.{append-nil}
use Rattle.std.proofs.Math.Nat.{eq-or-lt_of_le}
use Rattle.plain_tree.specs.Types.{PlainType}
use Rattle.plain_tree.specs.Ops.{Op, op, Ops, end_of_ops, more_ops, Regions, end_of_regions, region, Blocks, end_of_blocks, block}
use Rattle.plain_tree.specs.Values.{types_of}
use Rattle.rule_model.specs.declared.rules.Rule.{Rule}
use Rattle.rule_model.specs.declared.rules.Rule.TheVariants as rule
use Rattle.rule_model.specs.Words.{AllOf, numbers, results_of}
use Rattle.rule_model.specs.Facts.{Facts, Functions, Holder, facts_of, is_end}
use Rattle.rule_model.specs.Paths.{Frame}
use Rattle.rule_model.specs.Rules.{place}
use Rattle.rule_model.specs.Sites.{Around, Site, blocks_sites, frame_of, holds, op_sites, ops_sites, regions_sites, sites}
use Rattle.rule_model.proofs.Decisions.{one_rule}
use Rattle.rule_tests.specs.Firsts.{all_tests, first_of, keeps}
use Rattle.function_tests.specs.Walks.{Breaks, Found, Passed, answered, blocks_facts, op_facts, ops_facts, regions_facts, run, told}
use Rattle.function_tests.specs.Firsts.{BreaksTestAt, KeepsTests, TellsTests}

abbrev facts_in : List Site → List Facts
facts_in ss = map (λ s. s.facts) ss

mutual
  op_same : (type_of : ℕ → PlainType) (holder : Option Holder) (blocks : Blocks) (frames : List Frame) (rest : Ops) (o : Op) (more : List Site)
      → facts_in (op_sites type_of holder blocks frames rest o more) ≡ op_facts type_of holder blocks (is_end rest) o ++ facts_in more
  op_same type_of holder blocks frames rest (op k results operands regions successors) more =
      ap (λ fs. facts_of type_of holder blocks rest (op k results operands regions successors) ∷ fs) (regions_same type_of (holds type_of (op k results operands regions successors)) 0 frames regions more)

  ops_same : (type_of : ℕ → PlainType) (a : Around) (label : ℕ) (bound : List ℕ) (ops : Ops) (more : List Site)
      → facts_in (ops_sites type_of a label bound ops more) ≡ ops_facts type_of a.holder a.blocks ops ++ facts_in more
  ops_same type_of a label bound end_of_ops more = refl
  ops_same type_of a label bound (more_ops o rest) more =
      op_same type_of a.holder a.blocks (frame_of a label bound (more_ops o rest)) rest o (ops_sites type_of a label (results_of o ++ bound) rest more)
      ∙ ap (λ fs. op_facts type_of a.holder a.blocks (is_end rest) o ++ fs) (ops_same type_of a label (results_of o ++ bound) rest more)
      ∙ sym (append_assoc (op_facts type_of a.holder a.blocks (is_end rest) o) (ops_facts type_of a.holder a.blocks rest) (facts_in more))

  regions_same : (type_of : ℕ → PlainType) (holder : ℕ → Holder) (n : ℕ) (frames : List Frame) (rs : Regions) (more : List Site)
      → facts_in (regions_sites type_of holder n frames rs more) ≡ regions_facts type_of holder n rs ++ facts_in more
  regions_same type_of holder n frames end_of_regions more = refl
  regions_same type_of holder n frames (region blocks rest) more =
      blocks_same type_of (record { holder = Some (holder n); blocks = blocks; outer = frames }) blocks (regions_sites type_of holder (n + 1) frames rest more)
      ∙ ap (λ fs. blocks_facts type_of (Some (holder n)) blocks blocks ++ fs) (regions_same type_of holder (n + 1) frames rest more)
      ∙ sym (append_assoc (blocks_facts type_of (Some (holder n)) blocks blocks) (regions_facts type_of holder (n + 1) rest) (facts_in more))

  blocks_same : (type_of : ℕ → PlainType) (a : Around) (bs : Blocks) (more : List Site)
      → facts_in (blocks_sites type_of a bs more) ≡ blocks_facts type_of a.holder a.blocks bs ++ facts_in more
  blocks_same type_of a end_of_blocks more = refl
  blocks_same type_of a (block label args ops rest) more =
      ops_same type_of a label (numbers args) ops (blocks_sites type_of a rest more)
      ∙ ap (λ fs. ops_facts type_of a.holder a.blocks ops ++ fs) (blocks_same type_of a rest more)
      ∙ sym (append_assoc (ops_facts type_of a.holder a.blocks ops) (blocks_facts type_of a.holder a.blocks rest) (facts_in more))

pub facts_of_sites : (f : Op) → facts_in (sites f) ≡ op_facts (types_of f) None end_of_blocks true f
facts_of_sites f = op_same (types_of f) None end_of_blocks [] end_of_ops f [] ∙ append-nil (op_facts (types_of f) None end_of_blocks true f)

-- The first test

abbrev Kept : Functions → Facts → ℕ → Type 0
Kept c f k = (q : Rule) → place q < k → keeps c f q ≡ true

kept_on : (c : Functions) (f : Facts) (k : ℕ) (r : Rule) → place r ≡ k → keeps c f r ≡ true → Kept c f k → Kept c f (k + 1)
kept_on c f k r e here before q less =
    let at_most : place q ≤ k = omega (arith, less) in
    let cases : (place q ≡ k) ⊎ (place q < k) = eq-or-lt_of_le at_most in
    elim cases [ inl same ↦ subst (λ p. keeps c f p ≡ true) (sym (one_rule q r (same ∙ sym e))) here | inr h ↦ before q h ]

abbrev InOrder : ℕ → List Rule → Type 0
InOrder k [] = k ≡ 10
InOrder k (r ∷ rs) = (place r ≡ k) × InOrder (k + 1) rs

in_order : InOrder 0 all_tests
in_order = (refl, (refl, (refl, (refl, (refl, (refl, (refl, (refl, (refl, (refl, refl))))))))))

abbrev FirstIs : Functions → Facts → Option Rule → Type 0
FirstIs c f None = Kept c f 10
FirstIs c f (Some r) = (keeps c f r ≡ false) × Kept c f (place r)

first_right : (c : Functions) (f : Facts) (k : ℕ) (rs : List Rule) → InOrder k rs → Kept c f k → FirstIs c f (first_of c f rs)
first_right c f k [] e kept = subst (Kept c f) e kept
first_right c f k (r ∷ rs) order kept = go (keeps c f r) refl (λ on. first_right c f (k + 1) rs order.1 on)
  where
    go : (b : Bool) → keeps c f r ≡ b → (Kept c f (k + 1) → FirstIs c f (first_of c f rs)) → FirstIs c f (if b then first_of c f rs else Some r)
    go true e later = later (kept_on c f k r order.0 e kept)
    go false e later = (e, subst (Kept c f) (sym order.0) kept)

all_kept : (c : Functions) (f : Facts) → Kept c f 10 → (r : Rule) → keeps c f r ≡ true
unfolding keeps
all_kept c f kept rule.Defined = refl
all_kept c f kept rule.OwnUse = refl
all_kept c f kept rule.Operands = kept rule.Operands (omega arith)
all_kept c f kept rule.Results = kept rule.Results (omega arith)
all_kept c f kept rule.Regions = kept rule.Regions (omega arith)
all_kept c f kept rule.Attribute = kept rule.Attribute (omega arith)
all_kept c f kept rule.Successors = kept rule.Successors (omega arith)
all_kept c f kept rule.Terminator = kept rule.Terminator (omega arith)
all_kept c f kept rule.Signature = kept rule.Signature (omega arith)
all_kept c f kept rule.Symbol = kept rule.Symbol (omega arith)
all_kept c f kept rule.Reserved = kept rule.Reserved (omega arith)
all_kept c f kept rule.ValueType = kept rule.ValueType (omega arith)

-- What is found from the n-th operation on

pub data Says (c : Functions) : List Site → ℕ → Found → Type 0 where
  all_keep : {ss : List Site} {n m : ℕ} → AllOf (KeepsTests c) ss → Says c ss n (Passed m)
  one_breaks : {ss : List Site} {n : ℕ} (k m : ℕ) (r : Rule) → m ≡ n + k → BreaksTestAt c ss k r → Says c ss n (Breaks m r)

says_more : (c : Functions) (s : Site) (ss : List Site) (n : ℕ) (x : Found) → KeepsTests c s → Says c ss (n + 1) x → Says c (s ∷ ss) n x
says_more c s ss n _ here (all_keep rest) = all_keep (here, rest)
says_more c s ss n _ here (one_breaks k m r e b) = one_breaks (suc k) m r (omega (arith, e)) (here, b)

pub says : (c : Functions) (ss : List Site) (n : ℕ) → Says c ss n (run c (Passed n) (facts_in ss))
says c [] n = all_keep tt
says c (s ∷ ss) n = go (first_of c s.facts all_tests) (first_right c s.facts 0 all_tests in_order (λ q less. absurd (omega (arith, less)))) (says c ss (n + 1))
  where
    go : (o : Option Rule) → FirstIs c s.facts o → Says c ss (n + 1) (run c (Passed (n + 1)) (facts_in ss)) → Says c (s ∷ ss) n (run c (told o n) (facts_in ss))
    go None kept rest = says_more c s ss n _ (all_kept c s.facts kept) rest
    go (Some r) broken rest = one_breaks 0 n r (omega arith) broken

tells_none : (c : Functions) (f : Op) (m : ℕ) → Says c (sites f) 0 (Passed m) → TellsTests c f None
tells_none c f m (all_keep all) = all

tells_some : (c : Functions) (f : Op) (m : ℕ) (r : Rule) → Says c (sites f) 0 (Breaks m r) → BreaksTestAt c (sites f) m r
tells_some c f _ _ (one_breaks k m r e b) = let same : m ≡ k = omega (arith, e) in subst (λ n. BreaksTestAt c (sites f) n r) (sym same) b

-- an answer of code over the operations of a function
found : (c : Functions) (f : Op) (type_of : ℕ → PlainType) (o : Option Rule) (n : ℕ) → type_of ≡ types_of f
    → answered o n ≡ run c (Passed 0) (op_facts type_of None end_of_blocks true f) → Says c (sites f) 0 (answered o n)
found c f type_of o n typed e =
    subst (Says c (sites f) 0) (ap (run c (Passed 0)) (facts_of_sites f) ∙ ap (λ t. run c (Passed 0) (op_facts t None end_of_blocks true f)) (sym typed) ∙ sym e) (says c (sites f) 0)

pub found_none : (c : Functions) (f : Op) (type_of : ℕ → PlainType) (o : Option Rule) (n : ℕ) → type_of ≡ types_of f
    → answered o n ≡ run c (Passed 0) (op_facts type_of None end_of_blocks true f) → o ≡ None → TellsTests c f None
found_none c f type_of o n typed e is = tells_none c f n (subst (λ x. Says c (sites f) 0 (answered x n)) is (found c f type_of o n typed e))

pub found_some : (c : Functions) (f : Op) (type_of : ℕ → PlainType) (o : Option Rule) (n : ℕ) (r : Rule) → type_of ≡ types_of f
    → answered o n ≡ run c (Passed 0) (op_facts type_of None end_of_blocks true f) → o ≡ Some r → BreaksTestAt c (sites f) n r
found_some c f type_of o n r typed e is = tells_some c f n r (subst (λ x. Says c (sites f) 0 (answered x n)) is (found c f type_of o n typed e))
